-- One slot: at most one word moves.
use Rattle.std.specs.Prelude.{ℕ, ◌+◌, ◌-◌, Bool, false, if◌then◌else◌, not, ◌&&◌, ◌||◌, List, ◌==◌, slice_set}
use Rattle.memory.specs.declared.place.Place.{Place}
use Rattle.registers.specs.Counter.{joined, stepped, ends_block}
use Rattle.registers.specs.Updates.{updated}
use Rattle.dma.specs.declared.masks.Masks.{Masks}
use Rattle.dma.specs.declared.row.Row.{Row}
use Rattle.dma.specs.Channels.{settings, layout, preloaded, counted, keeps_enable, draining}
use Rattle.dma.specs.Raises.{masks_of, raised, no_masks}
use Rattle.dma.specs.Sets.{disabled, change}
use Rattle.dma.specs.State.{State, row_at}

-- the places that the next word of a channel comes from and goes to
abbrev pub source_place : Row → Place
source_place r = record { space = (settings r).spaces.source; address = r.source }

abbrev pub destination_place : Row → Place
destination_place r = record { space = (settings r).spaces.destination; address = r.destination }

-- the block ends with this word
abbrev pub ends : Row → Bool
ends r = ends_block (counted r)

-- DE falls at a block's end in DTM 0 to 3
abbrev pub falls : Row → Bool
falls r = ends r && not (keeps_enable (settings r).mode)

-- the last due word of a draining channel
abbrev pub drains : Row → Bool
drains r = draining r && r.due == 1

-- a channel after it moved a word
abbrev pub advanced : List ℕ → Row → Row
advanced offsets r = record r {
  source = updated (settings r).shape.source offsets (counted r) r.source;
  destination = updated (settings r).shape.destination offsets (counted r) r.destination;
  count = joined (layout r) (stepped (preloaded r) (counted r));
  control = if falls r then disabled r.control else r.control;
  due = r.due - 1;
  active = r.active && not (falls r || drains r);
  requested = r.requested || ((settings r).interrupts && (ends r || drains r));
}

-- a channel whose place refused: it loses its due words and comes to rest, all else stands
abbrev pub faulted : Row → Row
faulted r = record r { control = disabled r.control; due = 0; active = false }

-- the channel is remembered by its priority
abbrev pub remember : State → ℕ → State
remember s c = record s { last = slice_set s.last (settings (row_at s.rows c)).priority c }

-- the state after channel c moved a word, before its block's end is raised
abbrev pub moved : State → ℕ → State
moved s c = change (remember s c) c (advanced s.offsets)

-- a block's end raises source 4 + c, over the channels as they now are
abbrev pub after_move : State → ℕ → State
after_move s c = if ends (row_at s.rows c) then raised (4 + c) (moved s c) else moved s c

abbrev pub move_masks : State → ℕ → Masks
move_masks s c = if ends (row_at s.rows c) then masks_of (4 + c) (moved s c).rows else no_masks
