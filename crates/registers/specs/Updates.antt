-- How an address goes on after a word.
use Rattle.std.specs.Prelude.{ℕ, ◌+◌, ◌%◌, ◌^◌, if◌then◌else◌, List, slice_index}
use Rattle.registers.specs.declared.counter.Fields.{Fields}
use Rattle.registers.specs.declared.update.Update.{Update}
use Rattle.registers.specs.declared.update.Update.TheVariants.{Still, Onward, TwoDimensional, ThreeDimensional}
use Rattle.registers.specs.Counter.{ends_line, ends_plane}

-- what is added to an address, by the counter that the word was moved at
abbrev pub stride : Update → List ℕ → Fields → ℕ
stride Still offsets count = 0
stride Onward offsets count = 1
stride (TwoDimensional i) offsets count = if ends_line count then slice_index offsets i else 1
stride (ThreeDimensional i j) offsets count = if ends_plane count then slice_index offsets j else if ends_line count then slice_index offsets i else 1

-- sums wrap at 2^24
abbrev pub updated : Update → List ℕ → Fields → ℕ → ℕ
updated update offsets count address = (address + stride update offsets count) % 2 ^ 24
