-- What holds of every channel at all times.
use Rattle.std.specs.Prelude.{◌≡◌, ℕ, ◌^◌, ◌<◌, ◌≤◌, true, false, is_some, List}
use Rattle.std.proofs.Props.{props}
use Rattle.registers.specs.Control.{settings_of, enable}
use Rattle.registers.specs.Counter.{words_left, InBlock}
use Rattle.dma.specs.declared.row.Row.{Row}
use Rattle.dma.specs.Channels.{counter, preloaded, counted}
use Rattle.dma.specs.State.{row_at}

-- no reserved setting, no count field above its preload, no more words due than the rest of the block;
-- words are due and DE is 1 only while the channel is active
pub record Sound (r : Row) : Type 0 where
  pub source : r.source < 2 ^ 24
  pub destination : r.destination < 2 ^ 24
  pub count : r.count < 2 ^ 24
  pub preload : r.preload < 2 ^ 24
  pub control : r.control < 2 ^ 24
  pub decodes : is_some (settings_of r.control) ≡ true
  pub counts : InBlock (counter r)
  pub due : r.due ≤ words_left (preloaded r) (counted r)
  pub due_active : r.active ≡ false → r.due ≡ 0
  pub enabled_active : enable r.control ≡ true → r.active ≡ true

-- so it is of every channel of a table; shut, since who only hands a table on need not see it
unfoldable pub AllSound : List Row → Type 0
AllSound rows = (c : ℕ) → Sound (row_at rows c)

-- a fact, as a field of a struct has to be
pub all_sound_is_a_fact : (rows : List Row) → IsProp (AllSound rows)
unfolding AllSound
all_sound_is_a_fact rows = Prim.hlevel props
