-- A row whose registers are set stays sound.
use Rattle.std.proofs.Common.{replicate, ◌≡◌, ℕ, ◌^◌, ◌<◌, ◌≤◌, false, refl, zero-le, lit<, arith}
use Rattle.registers.specs.Counter.{cut, words_left}
use Rattle.registers.proofs.Counting.{within_itself}
use Rattle.dma.specs.declared.row.Row.{Row}
use Rattle.dma.specs.Channels.{layout}
use Rattle.dma.specs.Sets.{with_source, with_destination, with_counter}
use Rattle.dma.specs.Soundness.{Sound, AllSound}
use Rattle.dma.specs.State.{reset_row}
use Rattle.dma.proofs.Tables.{all_of_replicate}

-- an address is set
pub source_set : (r : Row) (a : ℕ) → a < 2 ^ 24 → Sound r → Sound (with_source r a)
source_set r a fits s = assumption

pub destination_set : (r : Row) (a : ℕ) → a < 2 ^ 24 → Sound r → Sound (with_destination r a)
destination_set r a fits s = assumption

-- the counter of a channel that is not busy is set
pub counter_set : (r : Row) (w : ℕ) → w < 2 ^ 24 → r.active ≡ false → Sound r → Sound (with_counter r w)
counter_set r w fits rests s =
    let full = within_itself (cut (layout r) w) in
    let none = s.due_active rests in
    let due : r.due ≤ words_left (cut (layout r) w) (cut (layout r) w) = omega arith in
    assumption

pub reset_is_sound : Sound reset_row
reset_is_sound = record {
  source = lit< tt;
  destination = lit< tt;
  count = lit< tt;
  preload = lit< tt;
  control = lit< tt;
  decodes = refl;
  counts = within_itself _;
  due = zero-le;
  due_active = λ _. refl;
  enabled_active = λ on. on;
}

-- so are all six
pub reset_rows_are_sound : AllSound (replicate 6 reset_row)
unfolding AllSound
reset_rows_are_sound = all_of_replicate Sound 6 reset_row reset_row reset_is_sound reset_is_sound
