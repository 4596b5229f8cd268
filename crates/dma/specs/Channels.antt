-- What one channel does: its settings, the block it is in, what a request makes due, and how it goes on after a word.
use Rattle.std.specs.Prelude.{ℕ, ◌+◌, Bool, true, false, not, ◌&&◌, ◌||◌, ◌==◌, nat_lt}
use Rattle.std.specs.Option.{unwrap_or}
use Rattle.memory.specs.declared.place.Space.TheVariants.{X}
use Rattle.registers.specs.declared.control.Settings.{Settings}
use Rattle.registers.specs.declared.control.TransferMode.{TransferMode}
use Rattle.registers.specs.declared.control.TransferMode.TheVariants.{Block, Word, Line, BlockByEnable, BlockKeepingEnable, WordKeepingEnable}
use Rattle.registers.specs.declared.counter.Counter.{Counter}
use Rattle.registers.specs.declared.counter.Fields.{Fields}
use Rattle.registers.specs.declared.counter.Layout.{Layout}
use Rattle.registers.specs.declared.counter.Layout.TheVariants.{B}
use Rattle.registers.specs.declared.update.Update.TheVariants.{TwoDimensional}
use Rattle.registers.specs.Control.{settings_of}
use Rattle.registers.specs.Counter.{cut, words_left}
use Rattle.dma.specs.declared.row.Row.{Row}

-- the settings of the control word 0
abbrev pub zero_settings : Settings
zero_settings = record {
  enabled = false;
  interrupts = false;
  mode = Block;
  priority = 0;
  continuous = false;
  request = 0;
  shape = record { source = TwoDimensional 0; destination = TwoDimensional 0; layout = B };
  spaces = record { source = X; destination = X };
}

-- no channel has a reserved setting, so that the default is never taken
abbrev pub settings : Row → Settings
settings r = unwrap_or (settings_of r.control) zero_settings

abbrev pub layout : Row → Layout
layout r = (settings r).shape.layout

abbrev pub counter : Row → Counter
counter r = record { layout = layout r; preload = r.preload; count = r.count }

abbrev pub preloaded : Row → Fields
preloaded r = cut (layout r) r.preload

abbrev pub counted : Row → Fields
counted r = cut (layout r) r.count

-- a word is moved by word in DTM 1 and 5
abbrev pub by_words : TransferMode → Bool
by_words = elim [ Block ↦ false | Word ↦ true | Line ↦ false | BlockByEnable ↦ false | BlockKeepingEnable ↦ false | WordKeepingEnable ↦ true ]

-- DE stays 1 at a block's end in DTM 4 and 5
abbrev pub keeps_enable : TransferMode → Bool
keeps_enable = elim [ Block ↦ false | Word ↦ false | Line ↦ false | BlockByEnable ↦ false | BlockKeepingEnable ↦ true | WordKeepingEnable ↦ true ]

abbrev pub starts_by_enable : TransferMode → Bool
starts_by_enable = elim [ Block ↦ false | Word ↦ false | Line ↦ false | BlockByEnable ↦ true | BlockKeepingEnable ↦ false | WordKeepingEnable ↦ false ]

-- what a request makes due: a word, the rest of the line, or the rest of the block
abbrev pub requested_words : TransferMode → Fields → Fields → ℕ
requested_words mode preload count =
    elim mode [
      | Block ↦ words_left preload count
      | Word ↦ 1
      | Line ↦ count.low + 1
      | BlockByEnable ↦ words_left preload count
      | BlockKeepingEnable ↦ words_left preload count
      | WordKeepingEnable ↦ 1
    ]

abbrev pub made_due : Row → ℕ
made_due r = requested_words (settings r).mode (preloaded r) (counted r)

-- a channel listens to its source while DE is 1, unless setting DE is what starts it
abbrev pub listens : ℕ → Row → Bool
listens source r = (settings r).enabled && (not (starts_by_enable (settings r).mode) && (settings r).request == source)

abbrev pub captures : ℕ → Row → Bool
captures source r = listens source r && r.due == 0

abbrev pub misses : ℕ → Row → Bool
misses source r = listens source r && nat_lt 0 r.due

-- DE is 1, or the done bit is 0; draining is busy with DE 0
abbrev pub busy : Row → Bool
busy r = (settings r).enabled || r.active

abbrev pub draining : Row → Bool
draining r = not (settings r).enabled && r.active
