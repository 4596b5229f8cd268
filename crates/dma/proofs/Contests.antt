-- Who competes at a priority, and what the searches for the highest priority and for the next channel find.
use Rattle.std.proofs.Common.{◌≡◌, ℕ, zero, suc, ◌+◌, ◌%◌, ◌<◌, true, false, List, [], ◌∷◌, map, get_or, Some, unwrap_or, refl, ap, ◌∙◌, arith}
use Rattle.std.proofs.lemmas.Bool.{cond_both}
use Rattle.std.proofs.lemmas.List.Elements.{All-from_get_or}
use Rattle.std.proofs.lemmas.List.Folds.{list_any_at, list_any_none}
use Rattle.std.specs.List.{find, range_with_len}
use Rattle.dma.specs.declared.arbitration.Contest.{Contest}
use Rattle.dma.specs.Arbitration.{competes, any_competes, upward}
use Rattle.dma.specs.ArbitrationLaws.{Highest}
use Rattle.dma.specs.State.{channels}

-- channel c stands at place c
a_channel : (c : ℕ) → c < 6 → get_or channels c 0 ≡ c
a_channel zero h = refl
a_channel (suc zero) h = refl
a_channel (suc (suc zero)) h = refl
a_channel (suc (suc (suc zero))) h = refl
a_channel (suc (suc (suc (suc zero)))) h = refl
a_channel (suc (suc (suc (suc (suc zero))))) h = refl
a_channel (suc (suc (suc (suc (suc (suc c)))))) h = absurd (omega arith)

module _ (k : Contest) (priority : ℕ) where
  pub one_competes : (c : ℕ) → c < 6 → competes k priority c ≡ true → any_competes k priority ≡ true
  unfolding any_competes
  one_competes c h is = list_any_at (competes k priority) channels c 0 h (ap (competes k priority) (a_channel c h) ∙ is)

  pub none_competes : ((c : ℕ) → c < 6 → competes k priority c ≡ false) → any_competes k priority ≡ false
  unfolding any_competes
  none_competes none = list_any_none (competes k priority) channels (All-from_get_or (λ c. competes k priority c ≡ false) channels 0 (λ c h. ap (competes k priority) (a_channel c h) ∙ none c h))

  -- the search upward, as a list of channels that is searched
  pub found_upward : (tries first i c : ℕ) → c ≡ (first + i) % 6 → find (competes k priority) (map (λ step. (first + step) % 6) (range_with_len i tries)) ≡ upward k priority tries c
  found_upward zero first i c at = refl
  found_upward (suc tries) first i c at =
      let rest = found_upward tries first (i + 1) ((c + 1) % 6) (omega arith) in
      cc

module _ (k : Contest) where
  abbrev IdleAbove : ℕ → Type 0
  IdleAbove priority = (q : ℕ) → priority < q → q < 4 → any_competes k q ≡ false

  one_more_idle : (priority : ℕ) → any_competes k (suc priority) ≡ false → IdleAbove (suc priority) → IdleAbove priority
  one_more_idle priority idle above q lt h = grind (arith, above q)

  -- the first of the priorities from this one downward to 1 at which a channel competes
  abbrev down_from : ℕ → List ℕ
  down_from zero = []
  down_from (suc priority) = suc priority ∷ down_from priority

  found_from : (priority : ℕ) → priority < 4 → IdleAbove priority → Highest k (unwrap_or (find (any_competes k) (down_from priority)) 0)
  found_from zero h above = record { a_priority = h; idle_above = above; else_lowest = λ lt. absurd (omega arith) }
  found_from (suc priority) h above =
      cond_both (any_competes k (suc priority)) (Some (suc priority)) (find (any_competes k) (down_from priority)) (λ o. Highest k (unwrap_or o 0))
      (λ some. record { a_priority = h; idle_above = above; else_lowest = λ _. some })
      (λ idle. found_from priority (omega arith) (one_more_idle priority idle above))

  pub highest_found : Highest k (unwrap_or (find (any_competes k) (3 ∷ 2 ∷ 1 ∷ [])) 0)
  highest_found = found_from 3 (omega arith) (λ q lt h. absurd (omega arith))
