-- The console's memory, word by word.
use Rattle.std.proofs.Common.{◌≡◌, ℕ, ◌+◌, ◌-◌, ◌<◌, ◌≤◌, cond, List, map, length, get_or, replicate, ap, ◌∙◌, ⊎_elim, arith}
use Rattle.std.proofs.lemmas.List.{get_or-replicate, length-replicate, get_or_past}
use Rattle.std.proofs.lemmas.List.FromFn.{length-map-range_with_len, get_or-map-range_with_len}
use Rattle.std.specs.List.{range_with_len}
use Rattle.std.proofs.lemmas.Bool.{cases_lt}
use Rattle.memory.specs.declared.flat.FlatSizes.{FlatSizes}
use Rattle.memory.specs.declared.packed.PackedSizes.{PackedSizes}
use Rattle.memory.specs.declared.place.Place.{Place}
use Rattle.memory.specs.declared.place.Space.{Space}
use Rattle.memory.specs.declared.place.Space.TheVariants.{X, Y, P}
use Rattle.memory.specs.Border.{border_of}
use Rattle.memory.specs.Flat.{flat_owner, flat_unfit, flat_word, flat_kind, flat_of, made_flat}
use Rattle.memory.specs.Meaning.{Meaning, nowhere}
use Rattle.memory.specs.Packed.{packed_owner, packed_unfit, packed_word, packed_kind, packed_of, made_packed}
use Rattle.std.proofs.lemmas.Bool.Decides.{nat_tests}
use Rattle.dmarun.specs.Console.{low_kind, high_kind, first_word, console, Image, image_word}

-- the list that is made index by index
module _ (words : List ℕ) (made : words ≡ map image_word (range_with_len 0 768)) where
  word_at : (i : ℕ) → i < 768 → get_or words i 0 ≡ image_word i
  word_at i h = ap (λ l. get_or l i 0) made ∙ get_or-map-range_with_len image_word 0 768 i i 0 h (omega arith)

  plain_word : (i : ℕ) → i < 640 → image_word i ≡ 0
  plain_word i h = grind (arith, nat_tests)

  fixed_word : (i : ℕ) → 640 ≤ i → i < 768 → image_word i ≡ i - 512
  fixed_word i low high = grind (arith, nat_tests)

  pub image_of : Image words
  image_of = record {
    long = ap length made ∙ length-map-range_with_len image_word 0 768;
    zeros = λ i h. word_at i (omega arith) ∙ plain_word i h;
    addresses = λ i low high. word_at i high ∙ fixed_word i low high;
  }

abbrev flat : FlatSizes
flat = record { x = 256; y = 256; p = 256; fixed_from = 128 }

abbrev packed : PackedSizes
packed = record { space = Y; base = 256; count = 64 }

abbrev at : Space → ℕ → Place
at s a = record { space = s; address = a }

low_kind_is : (s : Space) (a : ℕ) → a < 256 → flat_kind flat (at s a) ≡ low_kind s a
low_kind_is X a h = grind (arith, nat_tests)
low_kind_is Y a h = grind (arith, nat_tests)
low_kind_is P a h = grind (arith, nat_tests)

high_kind_is : (s : Space) (a : ℕ) → 256 ≤ a → packed_kind packed (at s a) ≡ high_kind s a
high_kind_is X a h = grind (arith, nat_tests)
high_kind_is Y a h = grind (arith, nat_tests)
high_kind_is P a h = grind (arith, nat_tests)

module _ (words : List ℕ) (image : Image words) where
  low_word_is : (s : Space) (a : ℕ) → a < 256 → flat_word words flat (at s a) ≡ first_word (low_kind s a) a
  low_word_is X a h = let z = image.zeros (0 + a) (omega arith) in grind (arith, nat_tests)
  low_word_is Y a h = let z = image.zeros (256 + a) (omega arith) in grind (arith, nat_tests)
  low_word_is P a h =
      ⊎_elim
      (λ plain. let z = image.zeros (256 + 256 + a) (omega arith) in grind (arith, nat_tests))
      (λ fixed. let z = image.addresses (256 + 256 + a) (omega arith) (omega arith) in grind (arith, nat_tests))
      (cases_lt a 128)

  flat_fits : made_flat flat words ≡ flat_of words flat
  flat_fits = ap (λ n. cond (flat_unfit flat n) (nowhere flat_owner) (flat_of words flat)) image.long

module _ (bytes : List ℕ) (zeros : bytes ≡ replicate 192 0) where
  zero_byte : (i : ℕ) → get_or bytes i 0 ≡ 0
  zero_byte i =
      ap (λ l. get_or l i 0) zeros ∙ ⊎_elim (get_or-replicate 192 i 0 0) (λ past. get_or_past (replicate {A = ℕ} 192 0) i 0 (omega (arith, length-replicate {A = ℕ} 192 0))) (cases_lt i 192)

  high_word_is : (s : Space) (a : ℕ) → 256 ≤ a → packed_word bytes packed (at s a) ≡ first_word (high_kind s a) a
  high_word_is X a h = grind (arith, nat_tests)
  high_word_is P a h = grind (arith, nat_tests)
  high_word_is Y a h =
      let low = zero_byte (a - 256) in
      let middle = zero_byte (a - 256 + 1) in
      let high = zero_byte (a - 256 + 2) in
      grind (arith, nat_tests)

  packed_fits : made_packed packed bytes ≡ packed_of bytes packed
  packed_fits = ap (λ n. cond (packed_unfit packed n) (nowhere packed_owner) (packed_of bytes packed)) (ap length zeros ∙ length-replicate {A = ℕ} 192 0)

module _ (words bytes : List ℕ) (image : Image words) (zeros : bytes ≡ replicate 192 0) where
  both : Meaning
  both = border_of 256 (flat_of words flat) (packed_of bytes packed)

  kind_is : (p : Place) → both.kind p ≡ console.kind p
  unfolding both
  kind_is p =
      ⊎_elim
      (λ low. let e = low_kind_is p.space p.address low in grind (arith, nat_tests))
      (λ high. let e = high_kind_is p.space p.address high in grind (arith, nat_tests))
      (cases_lt p.address 256)

  word_is : (p : Place) → both.word p ≡ console.word p
  unfolding both
  word_is p =
      ⊎_elim
      (λ low. let e = low_word_is words image p.space p.address low in grind (arith, nat_tests))
      (λ high. let e = high_word_is bytes zeros p.space p.address high in grind (arith, nat_tests))
      (cases_lt p.address 256)

  owner_is : (p : Place) → both.owner p ≡ console.owner p
  unfolding both
  owner_is p = grind (arith, nat_tests)

  composed_is : both ≡ console
  composed_is = λ i. record { kind = λ p. kind_is p i; word = λ p. word_is p i; owner = λ p. owner_is p i }

  pub composed : (low high : Meaning) → low ≡ made_flat flat words → high ≡ made_packed packed bytes → border_of 256 low high ≡ console
  unfolding both
  composed low high l h = (λ i. border_of 256 ((l ∙ flat_fits words image) i) ((h ∙ packed_fits bytes zeros) i)) ∙ composed_is
