use Rattle.std.proofs.Common.{rules, map, ap, ◌∙◌}
use Rattle.dma.specs.Reads.{contender}
use Rattle.dma.specs.State.{reset_row}
use Rattle.dma.proofs.Tables.{by_channel, mapped_by}
use Rattle.dma.proofs.bank.Bank.contest.Goals as goal

pub returns : goal.returns
returns c =
    let each = mapped_by contender c.map.ensures.items (search rules) (λ x y q ran. search rules) in
    let is = each ∙ ap (map contender) (by_channel c.args.self.now.rows reset_row (search rules)) in
    record { value = λ i. record { contenders = is i; last = c.args.self.now.last } }
