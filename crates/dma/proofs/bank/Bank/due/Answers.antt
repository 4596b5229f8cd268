use Rattle.std.proofs.Common.{rules, ◌≡◌, ℕ, sum_by, ap, ◌∙◌}
use Rattle.std.proofs.iter.runs.Made.{chains}
use Rattle.dma.specs.declared.row.Row.{Row}
use Rattle.dma.specs.State.{reset_row}
use Rattle.dma.proofs.Changes.{all_due_fit}
use Rattle.dma.proofs.Tables.{by_channel}
use Rattle.dma.proofs.bank.Bank.due.Goals as goal

pub sum-requires-clause-fits : goal.sum-requires-clause-fits
sum-requires-clause-fits c =
    let bound = all_due_fit c.args.self.now.rows (search rules) c.args.self.now.channels in
    search (rules, chains, bound)

pub returns : goal.returns
returns c =
    let words : Row → ℕ = λ r. r.due in
    let rows = c.args.self.now.rows in
    let is : c.sum.result ≡ sum_by words rows = search (rules, chains) in
    record { value = is ∙ ap (sum_by words) (by_channel rows reset_row (search rules)) }
