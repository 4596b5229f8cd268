-- What a packed memory means: every third address of one space, three bytes a word.
use Rattle.std.specs.Prelude.{ℕ, ◌+◌, ◌-◌, ◌*◌, ◌/◌, ◌%◌, Bool, if◌then◌else◌, not, ◌&&◌, ◌||◌, List, length, Ok, Err, vec_items, Result, ◌==◌, nat_le, nat_lt, slice_index, slice_set}
use Rattle.memory.specs.declared.packed.Packed.{Packed}
use Rattle.memory.specs.declared.packed.PackedSizes.{PackedSizes}
use Rattle.memory.specs.declared.place.Kind.{Kind}
use Rattle.memory.specs.declared.place.Kind.TheVariants.{Absent, Plain}
use Rattle.memory.specs.declared.place.Owner.{Owner}
use Rattle.memory.specs.declared.place.Place.{Place}
use Rattle.memory.specs.declared.refusal.Refusal.{Refusal}
use Rattle.memory.specs.declared.refusal.Refusal.TheVariants.{UnfitSizes}
use Rattle.memory.specs.Meaning.{Meaning, same_space, nowhere}

abbrev pub packed_owner : Owner
packed_owner = record { letter = 66; depth = 0 }

-- how far a place lies above the first word; three bytes for a word at every third address make it the index of the first byte too
abbrev pub offset : PackedSizes → Place → ℕ
offset z p = p.address - z.base

abbrev pub holds_word : PackedSizes → Place → Bool
holds_word z p = nat_lt (offset z p) (3 * z.count) && (nat_le z.base p.address && (offset z p % 3 == 0 && same_space z.space p.space))

abbrev pub packed_kind : PackedSizes → Place → Kind
packed_kind z p = if holds_word z p then Plain else Absent

-- the number that three bytes from i on make, the lowest first
abbrev pub three_bytes : List ℕ → ℕ → ℕ
three_bytes bytes i = slice_index bytes i % 256 + 256 * (slice_index bytes (i + 1) % 256) + 65536 * (slice_index bytes (i + 2) % 256)

-- the bytes with the number w from i on
abbrev pub with_bytes : List ℕ → ℕ → ℕ → List ℕ
with_bytes bytes i w = slice_set (slice_set (slice_set bytes i (w % 256)) (i + 1) (w / 256 % 256)) (i + 2) (w / 65536 % 256)

abbrev pub packed_word : List ℕ → PackedSizes → Place → ℕ
packed_word bytes z p = if holds_word z p then three_bytes bytes (offset z p) else 0

abbrev pub packed_of : List ℕ → PackedSizes → Meaning
packed_of bytes z = record { kind = packed_kind z; word = packed_word bytes z; owner = λ p. packed_owner }

abbrev pub packed_meaning : Packed → Meaning
packed_meaning m = packed_of (vec_items m.bytes) m.sizes

-- sizes that no packed memory over `count` bytes can have
abbrev pub packed_unfit : PackedSizes → ℕ → Bool
packed_unfit z count = nat_lt 65536 z.count || (not (count == 3 * z.count) || nat_lt 0x1000000 (z.base + 3 * z.count))

abbrev pub packed_check : PackedSizes → ℕ → Result (Unit {0}) Refusal
packed_check z count = if packed_unfit z count then Err UnfitSizes else Ok tt

abbrev pub made_packed : PackedSizes → List ℕ → Meaning
made_packed z bytes = if packed_unfit z (length bytes) then nowhere packed_owner else packed_of bytes z
