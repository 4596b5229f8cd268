-- A source that no channel listens to.
use Rattle.std.proofs.Common.{◌≡◌, ℕ, suc, Bool, false, List, [], ◌∷◌, map, sum_by, Ok, refl, ap, ◌∙◌}
use Rattle.std.proofs.lemmas.Bool.{and_left, cond-false}
use Rattle.dma.specs.declared.row.Row.{Row}
use Rattle.dma.specs.Channels.{listens, captures, misses, made_due}
use Rattle.dma.specs.Raises.{no_such_source, bit, mask, with_due, asked, raise_answer, after_raise, NobodyListens, no_masks}
use Rattle.dma.specs.State.{State, channels, row_at}

-- a test that holds of no channel gives an empty mask
empty_mask : (test : Row → Bool) (rows : List Row) → ((c : ℕ) → test (row_at rows c) ≡ false) → mask test rows ≡ 0
empty_mask test rows none =
    λ i. sum_by (λ c. bit (none c i) c) channels

unasked : (source : ℕ) (rows : List Row) → ((c : ℕ) → listens source (row_at rows c) ≡ false) → map (asked source) rows ≡ rows
unasked source [] none = refl
unasked source (r ∷ rows) none =
    let same : asked source r ≡ r = cond-false (captures source r) (with_due r (made_due r)) r (and_left _ _ (none 0)) in
    let rest = unasked source rows (λ c. none (suc c)) in
    λ i. same i ∷ rest i

module _ (s : State) (source : ℕ) (there : no_such_source source ≡ false) (none : NobodyListens source s) where
  pub nobody_answers : raise_answer s source ≡ Ok no_masks
  nobody_answers =
      cond-false (no_such_source source) _ _ there
      ∙ ap (λ m. Ok m) (λ i. record { captured = empty_mask (captures source) s.rows (λ c. and_left _ _ (none c)) i; missed = empty_mask (misses source) s.rows (λ c. and_left _ _ (none c)) i })

  pub nothing_changes : after_raise s source ≡ s
  nothing_changes = cond-false (no_such_source source) _ _ there ∙ (λ i. record { rows = unasked source s.rows none i; offsets = s.offsets; last = s.last })
