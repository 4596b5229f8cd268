use Rattle.std.proofs.Common.{rules, ap, ◌∙◌}
use borrow.Author.Tests.{tests}
use Rattle.std.specs.List.{list_any}
use Rattle.std.proofs.lemmas.Iterator.{YieldsList-from_slice}
use Rattle.std.proofs.lemmas.Iterator.Search.{any_from_yields_List}
use Rattle.dma.specs.Arbitration.{nobody, competes_at, any_competes}
use Rattle.dma.proofs.Tables.{by_channel}
use Rattle.dma.proofs.arbitration.Contest.any_competes.Goals as goal

pub returns : goal.returns
unfolding any_competes
returns c =
    let contenders = c.args.self.now.contenders in
    let test = competes_at c.args.priority in
    let is = any_from_yields_List test _ _ c.any.result c.any.ensures.ran (YieldsList-from_slice contenders (search rules)) (λ x b q h. search (rules, tests)) in
    record { value = is ∙ ap (list_any test) (by_channel contenders nobody (search rules)) }
