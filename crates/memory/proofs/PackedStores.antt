-- Three bytes put into the list of a packed memory.
use Rattle.std.proofs.Common.{◌≡◌, ℕ, ◌+◌, ◌*◌, ◌/◌, ◌%◌, ◌<◌, ◌≤◌, true, false, cond, ◌≢◌, ◌⊎◌, List, length, get_or, set, Ok, vec_items, sym, refl, ◌∙◌, subst, inl, inr, ⊎_elim, arith}
use Rattle.std.proofs.lemmas.List.{get_or-set_same, get_or-set_other, length-set}
use Rattle.std.proofs.lemmas.Bool.{both_ways, and_parts, and_from, ltb-true, leb-true, eqb-true, eq-eqb, cases_order, cond-true, cond-false, cond_both}
use Rattle.std.proofs.lemmas.Bool.Decides.{nat_tests}
use Rattle.memory.specs.declared.packed.Packed.{Packed}
use Rattle.memory.specs.declared.packed.PackedSizes.{PackedSizes}
use Rattle.memory.specs.declared.place.Kind.{Kind}
use Rattle.memory.specs.declared.place.Kind.TheVariants.{Plain}
use Rattle.memory.specs.declared.place.Place.{Place}
use Rattle.memory.specs.declared.place.Space.{Space}
use Rattle.memory.specs.declared.place.Space.TheVariants.{X, Y, P}
use Rattle.memory.specs.Packed.{offset, holds_word, three_bytes, with_bytes, packed_owner, packed_kind, packed_word, packed_of, packed_meaning}
use Rattle.memory.specs.Meaning.{Meaning, same_space, same_place, may_store, put, after_store}
use Rattle.memory.proofs.Stores.{word_put, store_leaves, stored_word_fits, stored_place_is_plain}

module _ (bytes : List ℕ) (i w : ℕ) where
  byte_elsewhere : (j : ℕ) → j ≢ i → j ≢ i + 1 → j ≢ i + 2 → get_or (with_bytes bytes i w) j 0 ≡ get_or bytes j 0
  byte_elsewhere j a b c = rw (get_or-set_other, get_or-set_other, get_or-set_other)

  pub bytes_elsewhere : (j : ℕ) → (j + 2 < i) ⊎ (i + 2 < j) → three_bytes (with_bytes bytes i w) j ≡ three_bytes bytes j
  bytes_elsewhere j apart =
      let one = byte_elsewhere j (grind arith) (grind arith) (grind arith) in
      let two = byte_elsewhere (j + 1) (grind arith) (grind arith) (grind arith) in
      let three = byte_elsewhere (j + 2) (grind arith) (grind arith) (grind arith) in
      cc

  pub bytes_there : i + 2 < length bytes → w < 0x1000000 → three_bytes (with_bytes bytes i w) i ≡ w
  bytes_there room small =
      let first = set bytes i (w % 256) in
      let second = set first (i + 1) (w / 256 % 256) in
      let a : get_or (with_bytes bytes i w) i 0 ≡ w % 256 =
      get_or-set_other second (i + 2) i _ 0 (omega arith) ∙ get_or-set_other first (i + 1) i _ 0 (omega arith) ∙ get_or-set_same bytes i _ 0 (omega arith) in
      let b : get_or (with_bytes bytes i w) (i + 1) 0 ≡ w / 256 % 256 =
      get_or-set_other second (i + 2) (i + 1) _ 0 (omega arith) ∙ get_or-set_same first (i + 1) _ 0 (omega (arith, length-set bytes i (w % 256))) in
      let c : get_or (with_bytes bytes i w) (i + 2) 0 ≡ w / 65536 % 256 =
      get_or-set_same second (i + 2) _ 0 (omega (arith, length-set first (i + 1) (w / 256 % 256), length-set bytes i (w % 256))) in
      omega (arith, a, b, c)

pub plain_holds_word : (z : PackedSizes) (p : Place) → packed_kind z p ≡ Plain → holds_word z p ≡ true
plain_holds_word z p h = grind (arith, nat_tests)

-- what a place that holds a word is
pub record Held (z : PackedSizes) (p : Place) : Type 0 where
  pub inside : offset z p < 3 * z.count
  pub above : z.base ≤ p.address
  pub third : offset z p % 3 ≡ 0
  pub space : z.space ≡ p.space

same_space_is : (s t : Space) → same_space s t ≡ true → s ≡ t
same_space_is s t h = grind (arith, nat_tests)

same_space_refl : (s : Space) → same_space s s ≡ true
same_space_refl X = refl
same_space_refl Y = refl
same_space_refl P = refl

pub held : (z : PackedSizes) (p : Place) → holds_word z p ≡ true → Held z p
held z p h =
    let a = and_parts _ _ h in
    let b = and_parts _ _ a.1 in
    let c = and_parts _ _ b.1 in
    record { inside = ltb-true _ _ a.0; above = leb-true _ _ b.0; third = eqb-true _ _ c.0; space = same_space_is _ _ c.1 }

-- the words of two places lie at least three bytes apart
words_apart : (z : PackedSizes) (p q : Place) → Held z p → Held z q → same_place p q ≡ false → (offset z q + 2 < offset z p) ⊎ (offset z p + 2 < offset z q)
words_apart z p q h k other =
    ⊎_elim
    (λ e.
    let one : p.address ≡ q.address = omega (arith, h.above, k.above) in
    let spaces = subst (λ s. same_space p.space s ≡ true) (sym h.space ∙ k.space) (same_space_refl p.space) in
    absurd (both_ways _ other (and_from _ _ spaces (eq-eqb _ _ one))))
    (⊎_elim (λ lt. inr (omega (arith, h.third, k.third))) (λ lt. inl (omega (arith, h.third, k.third))))
    (cases_order (offset z p) (offset z q))

module _ (bytes : List ℕ) (z : PackedSizes) (room : 3 * z.count ≤ length bytes) (p : Place) (w : ℕ) (small : w < 0x1000000) (inside : holds_word z p ≡ true) where
  word_there : packed_word (with_bytes bytes (offset z p) w) z p ≡ w
  word_there =
      let here = held z p inside in
      let within : offset z p + 2 < length bytes = omega (arith, here.inside, here.third) in
      cond-true (holds_word z p) _ _ inside ∙ bytes_there bytes (offset z p) w within small

  word_elsewhere : (q : Place) → same_place p q ≡ false → packed_word (with_bytes bytes (offset z p) w) z q ≡ packed_word bytes z q
  word_elsewhere q other =
      cond_both (holds_word z q) _ _ (λ n. n ≡ packed_word bytes z q)
      (λ there. bytes_elsewhere bytes (offset z p) w (offset z q) (words_apart z p q (held z p inside) (held z q there) other) ∙ sym (cond-true (holds_word z q) _ _ there))
      (λ none. sym (cond-false (holds_word z q) _ _ none))

  word_after : (q : Place) → packed_word (with_bytes bytes (offset z p) w) z q ≡ cond (same_place p q) w (packed_word bytes z q)
  word_after = word_put (packed_word bytes z) (packed_word (with_bytes bytes (offset z p) w) z) p w word_there word_elsewhere

  pub packed_after : packed_of (with_bytes bytes (offset z p) w) z ≡ put (packed_of bytes z) p w
  packed_after = λ i. record { kind = packed_kind z; word = λ q. word_after q i; owner = λ q. packed_owner }

-- the same of the whole memory, where the store was allowed
module _ (m : Packed) (p : Place) (w : ℕ) (k : Kind) (is : k ≡ packed_kind m.sizes p) (allowed : Ok tt ≡ may_store k w) where
  holds : holds_word m.sizes p ≡ true
  holds = plain_holds_word m.sizes p (stored_place_is_plain (packed_meaning m) p w k is allowed)

  pub packed_store_leaves : (n : Meaning) → n ≡ packed_of (with_bytes (vec_items m.bytes) (offset m.sizes p) w) m.sizes → n ≡ after_store (packed_meaning m) p w
  packed_store_leaves n e =
      let room = subst (λ n. 3 * m.sizes.count ≤ n) m.bytes.ok.0 m.room in
      let fits = stored_word_fits (packed_meaning m) p w k is allowed in
      store_leaves (packed_meaning m) p w k is allowed n (e ∙ packed_after (vec_items m.bytes) m.sizes room p w fits holds)
