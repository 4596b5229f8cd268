use Rattle.std.proofs.Common.{ap, ◌∙◌}
use Rattle.dma.specs.Arbitration.{winner}
use Rattle.dma.specs.Reads.{next_served}
use Rattle.dma.proofs.bank.Bank.next.Goals as goal

pub returns : goal.returns
unfolding next_served
returns c = record { value = c.winner.ensures.value ∙ ap winner c.contest.ensures.value }
