-- A store that the kind allows, and what it leaves.
use Rattle.std.proofs.Common.{false, cond, sym, subst, ⊎_elim, ◌≡◌, ℕ, ◌<◌, true, Ok, Err, Result, ap, ◌∙◌, arith}
use Rattle.std.proofs.lemmas.Bool.{cases_Bool, cond-true, cond-false}
use Rattle.std.proofs.lemmas.Bool.Decides.{nat_tests}
use Rattle.memory.specs.declared.place.Kind.{Kind}
use Rattle.memory.specs.declared.place.Kind.TheVariants.{Plain}
use Rattle.memory.specs.declared.place.Place.{Place}
use Rattle.memory.specs.declared.refusal.Refusal.{Refusal}
use Rattle.memory.specs.Meaning.{Meaning, same_place, may_store, put, after_store}

module _ (m : Meaning) (p : Place) (w : ℕ) (k : Kind) (is : k ≡ m.kind p) (allowed : Ok tt ≡ may_store k w) where
  allowed_there : Ok tt ≡ may_store (m.kind p) w
  allowed_there = allowed ∙ ap (λ x. may_store x w) is

  pub store_leaves : (n : Meaning) → n ≡ put m p w → n ≡ after_store m p w
  store_leaves n e =
      e ∙ ap (λ (r : Result (Unit {0}) Refusal). elim r as (λ _. Meaning) [ Ok u ↦ put m p w | Err cause ↦ m ]) allowed_there

  pub stored_word_fits : w < 0x1000000
  stored_word_fits = grind (arith, nat_tests)

  pub stored_place_is_plain : m.kind p ≡ Plain
  stored_place_is_plain = let h = allowed_there in grind (arith, nat_tests)

pub same_place_is : (p q : Place) → same_place p q ≡ true → p ≡ q
same_place_is p q h = grind (arith, nat_tests)

-- words that hold w at p, and elsewhere what they held
pub word_put : (before after : Place → ℕ) (p : Place) (w : ℕ) → after p ≡ w → ((q : Place) → same_place p q ≡ false → after q ≡ before q) → (q : Place) → after q ≡ cond (same_place p q) w (before q)
word_put before after p w there elsewhere q =
    ⊎_elim
    (λ same. subst (λ r. after r ≡ w) (same_place_is p q same) there ∙ sym (cond-true (same_place p q) _ _ same))
    (λ other. elsewhere q other ∙ sym (cond-false (same_place p q) _ _ other))
    (cases_Bool (same_place p q))
