-- A request of a source: who takes it, who misses it, and what it makes due.
use Rattle.std.specs.Prelude.{◌≡◌, ℕ, ◌^◌, Bool, false, if◌then◌else◌, ◌&&◌, ◌||◌, List, map, sum_by, Ok, Err, Result, nat_le, nat_lt}
use Rattle.memory.specs.declared.refusal.Refusal.{Refusal}
use Rattle.memory.specs.declared.refusal.Refusal.TheVariants.{NoSuchSource}
use Rattle.dma.specs.declared.masks.Masks.{Masks}
use Rattle.dma.specs.declared.row.Row.{Row}
use Rattle.dma.specs.Channels.{listens, captures, misses, made_due}
use Rattle.dma.specs.State.{State, channels, row_at}

-- the sources 4 to 9 are the block ends, which no device raises; there are none above 31
abbrev pub no_such_source : ℕ → Bool
no_such_source source = (nat_le 4 source && nat_le source 9) || nat_lt 31 source

abbrev pub bit : Bool → ℕ → ℕ
bit b c = if b then 2 ^ c else 0

-- the channels that are in, bit c for channel c
abbrev pub mask_of : (ℕ → Bool) → ℕ
mask_of is_in = sum_by (λ c. bit (is_in c) c) channels

-- the channels of a table for which a test holds
abbrev pub mask : (Row → Bool) → List Row → ℕ
mask test rows = mask_of (λ c. test (row_at rows c))

abbrev pub masks_of : ℕ → List Row → Masks
masks_of source rows = record { captured = mask (captures source) rows; missed = mask (misses source) rows }

abbrev pub with_due : Row → ℕ → Row
with_due r words = record r { due = words }

abbrev pub asked : ℕ → Row → Row
asked source r = if captures source r then with_due r (made_due r) else r

abbrev pub raised : ℕ → State → State
raised source s = record s { rows = map (asked source) s.rows }

abbrev pub raise_answer : State → ℕ → Result Masks Refusal
raise_answer s source = if no_such_source source then Err NoSuchSource else Ok (masks_of source s.rows)

abbrev pub after_raise : State → ℕ → State
after_raise s source = if no_such_source source then s else raised source s

-- no channel listens to the source: then two empty masks are answered
abbrev pub NobodyListens : ℕ → State → Type 0
NobodyListens source s = (c : ℕ) → listens source (row_at s.rows c) ≡ false

abbrev pub no_masks : Masks
no_masks = record { captured = 0; missed = 0 }
