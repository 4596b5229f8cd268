-- The state of a controller: its table of channels and what they share.
use Rattle.std.specs.Prelude.{ℕ, false, List, [], ◌∷◌, replicate, slice_index_or}
use Rattle.dma.specs.declared.row.Row.{Row}

pub record State : Type 0 where
  pub rows : List Row
  pub offsets : List ℕ
  pub last : List ℕ

abbrev pub reset_row : Row
reset_row = record {
  source = 0;
  destination = 0;
  count = 0;
  preload = 0;
  control = 0;
  due = 0;
  active = false;
  requested = false;
  serving = false;
}

-- the numbers of the six channels
abbrev pub channels : List ℕ
channels = 0 ∷ 1 ∷ 2 ∷ 3 ∷ 4 ∷ 5 ∷ []

abbrev pub row_at : List Row → ℕ → Row
row_at rows c = slice_index_or rows c reset_row

-- at reset every register is 0, every channel is done, and every priority remembers channel 5
abbrev pub reset : State
reset = record { rows = replicate 6 reset_row; offsets = replicate 4 0; last = replicate 4 5 }
