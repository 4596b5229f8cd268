-- One word put into the list of a flat memory.
use Rattle.std.proofs.Common.{◌≡◌, ℕ, ◌+◌, ◌%◌, ◌<◌, ◌≤◌, true, false, cond, ◌&&◌, eqb, ◌≢◌, List, length, set, Ok, vec_items, sym, ap, ◌∙◌, subst, arith}
use Rattle.std.proofs.lemmas.List.{get_or-set_same, get_or-set_other}
use Rattle.std.proofs.lemmas.Bool.{ltb-true, lt-ltb, both_ways, cond-true, cond-false, cond_both}
use Rattle.std.proofs.lemmas.Bool.Decides.{nat_tests}
use Rattle.memory.specs.declared.flat.Flat.{Flat}
use Rattle.memory.specs.declared.flat.FlatSizes.{FlatSizes}
use Rattle.memory.specs.declared.place.Kind.{Kind}
use Rattle.memory.specs.declared.place.Kind.TheVariants.{Plain}
use Rattle.memory.specs.declared.place.Place.{Place}
use Rattle.memory.specs.declared.place.Space.{Space}
use Rattle.memory.specs.declared.place.Space.TheVariants.{X, Y, P}
use Rattle.memory.specs.Flat.{size_of, start_of, covers, flat_owner, flat_kind, flat_word, flat_of, flat_meaning}
use Rattle.memory.specs.Meaning.{Meaning, same_space, same_place, may_store, put, after_store}
use Rattle.memory.proofs.Stores.{word_put, store_leaves, stored_word_fits, stored_place_is_plain}

pub plain_is_covered : (z : FlatSizes) (p : Place) → flat_kind z p ≡ Plain → p.address < size_of z p.space
plain_is_covered z p h = grind (arith, nat_tests)

-- two covered places with one index are one place
module _ (z : FlatSizes) where
  pub one_index_one_place : (s t : Space) (a b : ℕ) → a < size_of z s → b < size_of z t → start_of z s + a ≡ start_of z t + b → (same_space s t && eqb a b) ≡ true
  one_index_one_place X X a b = λ h k e. grind (arith, nat_tests)
  one_index_one_place X Y a b = λ h k e. absurd (omega arith)
  one_index_one_place X P a b = λ h k e. absurd (omega arith)
  one_index_one_place Y X a b = λ h k e. absurd (omega arith)
  one_index_one_place Y Y a b = λ h k e. grind (arith, nat_tests)
  one_index_one_place Y P a b = λ h k e. absurd (omega arith)
  one_index_one_place P X a b = λ h k e. absurd (omega arith)
  one_index_one_place P Y a b = λ h k e. absurd (omega arith)
  one_index_one_place P P a b = λ h k e. grind (arith, nat_tests)

  pub index_within : (s : Space) (a n : ℕ) → a < size_of z s → z.x + z.y + z.p ≤ n → start_of z s + a < n
  index_within X a n h r = omega arith
  index_within Y a n h r = omega arith
  index_within P a n h r = omega arith

module _ (words : List ℕ) (z : FlatSizes) (room : z.x + z.y + z.p ≤ length words) (p : Place) (w : ℕ) (small : w < 0x1000000) (inside : p.address < size_of z p.space) where
  after : List ℕ
  after = set words (start_of z p.space + p.address) w

  word_there : flat_word after z p ≡ w
  unfolding after
  word_there =
      let read = get_or-set_same words (start_of z p.space + p.address) w 0 (index_within z p.space p.address (length words) inside room) in
      let whole : w % 0x1000000 ≡ w = omega arith in
      cond-true (covers z p) _ _ (lt-ltb _ _ inside) ∙ ap (λ n. n % 0x1000000) read ∙ whole

  word_elsewhere : (q : Place) → same_place p q ≡ false → flat_word after z q ≡ flat_word words z q
  unfolding after
  word_elsewhere q other =
      cond_both (covers z q) _ _ (λ n. n ≡ flat_word words z q)
      (λ covered.
      let apart : start_of z q.space + q.address ≢ start_of z p.space + p.address = λ e. both_ways _ other (one_index_one_place z p.space q.space _ _ inside (ltb-true _ _ covered) (sym e)) in
      ap (λ n. n % 0x1000000) (get_or-set_other words _ _ w 0 apart) ∙ sym (cond-true (covers z q) _ _ covered))
      (λ uncovered. sym (cond-false (covers z q) _ _ uncovered))

  pub word_after : (q : Place) → flat_word (set words (start_of z p.space + p.address) w) z q ≡ cond (same_place p q) w (flat_word words z q)
  unfolding after
  word_after = word_put (flat_word words z) (flat_word after z) p w word_there word_elsewhere

  pub flat_after : flat_of (set words (start_of z p.space + p.address) w) z ≡ put (flat_of words z) p w
  flat_after = λ i. record { kind = flat_kind z; word = λ q. word_after q i; owner = λ q. flat_owner }

-- the same of the whole memory, where the store was allowed
module _ (f : Flat) (p : Place) (w at : ℕ) (k : Kind) (is : k ≡ flat_kind f.sizes p) (allowed : Ok tt ≡ may_store k w) (here : at ≡ start_of f.sizes p.space + p.address) where
  covered : p.address < size_of f.sizes p.space
  covered = plain_is_covered f.sizes p (stored_place_is_plain (flat_meaning f) p w k is allowed)

  pub flat_store_leaves : (n : Meaning) → n ≡ flat_of (set (vec_items f.words) at w) f.sizes → n ≡ after_store (flat_meaning f) p w
  flat_store_leaves n e =
      let room = subst (λ n. f.sizes.x + f.sizes.y + f.sizes.p ≤ n) f.words.ok.0 f.room in
      let fits = stored_word_fits (flat_meaning f) p w k is allowed in
      store_leaves (flat_meaning f) p w k is allowed n
      (e ∙ ap (λ i. flat_of (set (vec_items f.words) i w) f.sizes) here ∙ flat_after (vec_items f.words) f.sizes room p w fits covered)
