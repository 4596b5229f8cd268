use Rattle.std.proofs.Common.{refl}
use Rattle.dma.specs.Arbitration.{any_competes}
use Rattle.dma.specs.Reads.{next_served}
use Rattle.dma.proofs.cases.worked_cases.Goals as goal

pub returns : goal.returns
unfolding next_served any_competes
returns c = record {
  every_case_holds = ((refl, refl), ((refl, refl), ((refl, refl), (refl, (refl, (refl, (refl, (refl, (refl, (refl, (refl, (refl, tt))))))))))));
}
