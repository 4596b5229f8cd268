-- The memory of the console as dmarun finds it.
use Rattle.std.specs.Prelude.{◌≡◌, ℕ, ◌-◌, ◌%◌, ◌<◌, ◌≤◌, if◌then◌else◌, ◌&&◌, List, length, ◌==◌, nat_le, nat_lt, slice_index}
use Rattle.memory.specs.declared.place.Kind.{Kind}
use Rattle.memory.specs.declared.place.Kind.TheVariants.{Absent, Fixed, Plain}
use Rattle.memory.specs.declared.place.Place.{Place}
use Rattle.memory.specs.declared.place.Space.{Space}
use Rattle.memory.specs.declared.place.Space.TheVariants.{X, Y, P}
use Rattle.memory.specs.Meaning.{Meaning}

-- below 000100 every place is there, and those of P are fixed from 000080 on
abbrev pub low_kind : Space → ℕ → Kind
low_kind X a = Plain
low_kind Y a = Plain
low_kind P a = if nat_lt a 0x80 then Plain else Fixed

-- from 000100 on there are 64 words in Y, at every third address
abbrev pub high_kind : Space → ℕ → Kind
high_kind X a = Absent
high_kind Y a = if nat_lt a 0x1C0 && (a - 0x100) % 3 == 0 then Plain else Absent
high_kind P a = Absent

-- a fixed place holds its own address, every other place 0
abbrev pub first_word : Kind → ℕ → ℕ
first_word k a = elim k [ Fixed ↦ a | Plain ↦ 0 | Absent ↦ 0 ]

abbrev pub console_kind : Place → Kind
console_kind p = if nat_lt p.address 0x100 then low_kind p.space p.address else high_kind p.space p.address

-- one border stands before the flat memory, F, and the packed one, B
abbrev pub console : Meaning
console = record {
  kind = console_kind;
  word = λ p. first_word (console_kind p) p.address;
  owner = λ p. record { letter = (if nat_lt p.address 0x100 then 70 else 66); depth = 1 };
}

-- the word at an index of the list that the flat memory lies over, where the fixed places of P are 280 to 2FF
abbrev pub image_word : ℕ → ℕ
image_word i = if nat_le 0x280 i && nat_le i 0x2FF then i - 0x200 else 0

-- that list: 256 words of X, of Y and of P
pub record Image (words : List ℕ) : Type 0 where
  pub long : length words ≡ 768
  pub zeros : (i : ℕ) → i < 640 → slice_index words i ≡ 0
  pub addresses : (i : ℕ) → 640 ≤ i → i < 768 → slice_index words i ≡ i - 512
