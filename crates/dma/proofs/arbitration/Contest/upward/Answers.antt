use Rattle.std.proofs.Common.{rules, ◌≡◌, ℕ, ◌+◌, ◌%◌, Option, option_map, sym, refl, ◌∙◌, arith}
use borrow.Author.Tests.{tests}
use Rattle.std.proofs.lemmas.Iterator.{YieldsList-from_range, YieldsList-from_map}
use Rattle.std.proofs.lemmas.Iterator.Search.{find_from_yields_List}
use Rattle.dma.specs.Arbitration.{competes}
use Rattle.dma.proofs.Contests.{found_upward}
use Rattle.dma.proofs.arbitration.Contest.upward.Goals as goal

pub returns : goal.returns
returns c =
    let k = c.args.self.now in
    let first = c.args.last % 6 + 1 in
    let is = find_from_yields_List (competes k c.args.priority) _ _ c.find.result c.find.ensures.ran (YieldsList-from_map _ (λ step. (first + step) % 6) (YieldsList-from_range 0 6 6 c.map.ensures.source refl) c.map.ensures.closure (λ x r q h. search rules)) (λ x b q h. search (rules, tests)) in
    let next : (c.args.last + 1) % 6 ≡ (first + 0) % 6 = omega arith in
    let same : (o : Option ℕ) → option_map (λ x. x) o ≡ o = λ o. search rules in
    record { value = sym (same c.find.result) ∙ is ∙ found_upward k c.args.priority 6 first 0 _ next }
