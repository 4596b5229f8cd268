-- What a flat memory means: X words, then Y words, then P words in one list.
use Rattle.std.specs.Prelude.{ℕ, ◌+◌, ◌%◌, Bool, if◌then◌else◌, not, ◌||◌, List, length, Ok, Err, vec_items, Result, ◌==◌, nat_lt, slice_index}
use Rattle.memory.specs.declared.flat.Flat.{Flat}
use Rattle.memory.specs.declared.flat.FlatSizes.{FlatSizes}
use Rattle.memory.specs.declared.place.Kind.{Kind}
use Rattle.memory.specs.declared.place.Kind.TheVariants.{Absent, Fixed, Plain}
use Rattle.memory.specs.declared.place.Owner.{Owner}
use Rattle.memory.specs.declared.place.Place.{Place}
use Rattle.memory.specs.declared.place.Space.{Space}
use Rattle.memory.specs.declared.place.Space.TheVariants.{X, Y, P}
use Rattle.memory.specs.declared.refusal.Refusal.{Refusal}
use Rattle.memory.specs.declared.refusal.Refusal.TheVariants.{UnfitSizes}
use Rattle.memory.specs.Meaning.{Meaning, nowhere}

abbrev pub flat_owner : Owner
flat_owner = record { letter = 70; depth = 0 }

-- the words that a space has, and the index of its first word in the list
abbrev pub size_of : FlatSizes → Space → ℕ
size_of z X = z.x
size_of z Y = z.y
size_of z P = z.p

abbrev pub start_of : FlatSizes → Space → ℕ
start_of z X = 0
start_of z Y = z.x
start_of z P = z.x + z.y

-- the kind of a place that the sizes cover
abbrev pub covered_kind : FlatSizes → Place → Kind
covered_kind z p = elim p.space [ X ↦ Plain | Y ↦ Plain | P ↦ (if nat_lt p.address z.fixed_from then Plain else Fixed) ]

abbrev pub covers : FlatSizes → Place → Bool
covers z p = nat_lt p.address (size_of z p.space)

abbrev pub flat_kind : FlatSizes → Place → Kind
flat_kind z p = if covers z p then covered_kind z p else Absent

-- a word is the low 24 bits of its number
abbrev pub flat_word : List ℕ → FlatSizes → Place → ℕ
flat_word words z p = if covers z p then slice_index words (start_of z p.space + p.address) % 0x1000000 else 0

abbrev pub flat_of : List ℕ → FlatSizes → Meaning
flat_of words z = record { kind = flat_kind z; word = flat_word words z; owner = λ p. flat_owner }

abbrev pub flat_meaning : Flat → Meaning
flat_meaning f = flat_of (vec_items f.words) f.sizes

-- sizes that no flat memory over `count` numbers can have
abbrev pub flat_unfit : FlatSizes → ℕ → Bool
flat_unfit z count =
    nat_lt 65536 z.x || (nat_lt 65536 z.y || (nat_lt 65536 z.p || (nat_lt z.p z.fixed_from || not (count == z.x + z.y + z.p))))

abbrev pub flat_check : FlatSizes → ℕ → Result (Unit {0}) Refusal
flat_check z count = if flat_unfit z count then Err UnfitSizes else Ok tt

abbrev pub made_flat : FlatSizes → List ℕ → Meaning
made_flat z words = if flat_unfit z (length words) then nowhere flat_owner else flat_of words z
