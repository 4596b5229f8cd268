use Rattle.std.proofs.Common.{rules, ◌≡◌, reverse, ◌∙◌}
use Rattle.std.specs.List.{fold}
use Rattle.std.proofs.iter.runs.Made.{chains}
use Rattle.dma.proofs.MaskBits.{shifted, shifted_together}
use Rattle.dma.proofs.bank.raising.mask.Goals as goal

pub returns : goal.returns
returns c =
    let is : c.fold.result ≡ fold shifted 0 (reverse c.args.is_in) = search (rules, chains) in
    record { value = is ∙ shifted_together c.args.is_in (search rules) }
