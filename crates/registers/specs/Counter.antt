-- The counter DCO: its fields by layout, the length of a block, the position in it, and the step after a word.
use Rattle.std.specs.Prelude.{ℕ, ◌+◌, ◌-◌, ◌*◌, ◌^◌, ◌≤◌, Bool, if◌then◌else◌, ◌&&◌, ◌==◌}
use Rattle.registers.specs.declared.counter.Counter.{Counter}
use Rattle.registers.specs.declared.counter.Fields.{Fields}
use Rattle.registers.specs.declared.counter.Layout.{Layout}
use Rattle.registers.specs.declared.counter.Layout.TheVariants.{A, B, C, D, E}
use Rattle.registers.specs.Control.{field}

abbrev pub fields : ℕ → ℕ → ℕ → Fields
fields high middle low = record { high = high; middle = middle; low = low }

-- the fields of a counter; one that the layout lacks is 0
abbrev pub cut : Layout → ℕ → Fields
cut A word = fields 0 0 (field 0 24 word)
cut B word = fields (field 12 12 word) 0 (field 0 12 word)
cut C word = fields (field 12 12 word) (field 6 6 word) (field 0 6 word)
cut D word = fields (field 18 6 word) (field 6 12 word) (field 0 6 word)
cut E word = fields (field 18 6 word) (field 12 6 word) (field 0 12 word)

-- the counter with these fields
abbrev pub joined : Layout → Fields → ℕ
joined A f = f.low
joined B f = f.high * 2 ^ 12 + f.low
joined C f = f.high * 2 ^ 12 + f.middle * 2 ^ 6 + f.low
joined D f = f.high * 2 ^ 18 + f.middle * 2 ^ 6 + f.low
joined E f = f.high * 2 ^ 18 + f.middle * 2 ^ 12 + f.low

-- L words make a line, M lines a plane, H planes a block of N words, by the fields of the preload
abbrev pub line_length : Fields → ℕ
line_length preload = preload.low + 1

abbrev pub lines : Fields → ℕ
lines preload = preload.middle + 1

abbrev pub planes : Fields → ℕ
planes preload = preload.high + 1

abbrev pub block_length : Fields → ℕ
block_length preload = line_length preload * lines preload * planes preload

-- the words of the block that are still to move: of this plane and line, and of those after them
abbrev pub words_left : Fields → Fields → ℕ
words_left preload count = (count.high * lines preload + count.middle) * line_length preload + count.low + 1

-- the words of the block that have moved
abbrev pub position : Fields → Fields → ℕ
position preload count = block_length preload - words_left preload count

-- no field exceeds its preload
pub record Within (preload count : Fields) : Type 0 where
  pub high : count.high ≤ preload.high
  pub middle : count.middle ≤ preload.middle
  pub low : count.low ≤ preload.low

-- the last word of a line, of a plane, of the block
abbrev pub ends_line : Fields → Bool
ends_line count = count.low == 0

abbrev pub ends_plane : Fields → Bool
ends_plane count = ends_line count && count.middle == 0

abbrev pub ends_block : Fields → Bool
ends_block count = ends_plane count && count.high == 0

-- a field that is 0 returns to its preload, and the next one falls; all three return at the end of the block
abbrev pub stepped : Fields → Fields → Fields
stepped preload count =
    if ends_block count then preload
    else if ends_plane count then fields (count.high - 1) preload.middle preload.low
    else if ends_line count then fields count.high (count.middle - 1) preload.low
    else fields count.high count.middle (count.low - 1)

-- the fields of what each block starts from, and of what is left of this one
abbrev pub preloaded : Counter → Fields
preloaded counter = cut counter.layout counter.preload

abbrev pub counted : Counter → Fields
counted counter = cut counter.layout counter.count

-- the count is one of the block's
abbrev pub InBlock : Counter → Type 0
InBlock counter = Within (preloaded counter) (counted counter)
