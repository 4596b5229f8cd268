-- What a set of a register is refused with, and what it leaves.
use Rattle.std.specs.Prelude.{ℕ, ◌-◌, ◌*◌, ◌^◌, Bool, true, false, if◌then◌else◌, not, ◌&&◌, ◌||◌, is_some, Some, None, Option, Result, ◌==◌, nat_lt, slice_set}
use Rattle.memory.specs.declared.refusal.Refusal.{Refusal}
use Rattle.memory.specs.declared.refusal.Refusal.TheVariants.{NoSuchRegister, ValueTooLarge, StatusIsRead, Busy, ReservedMode, ReservedShape, ReservedSpace, ShapeInMidBlock}
use Rattle.registers.specs.Names.{unknown, channel_of}
use Rattle.registers.specs.Control.{field, enable, mode_of, mode_number, shape_of, spaces_of}
use Rattle.registers.specs.declared.register.Register.{Register}
use Rattle.registers.specs.declared.register.Register.TheVariants.{Dsr, Ddr, Dco, Dcr, Dor, Dstr}
use Rattle.dma.specs.declared.row.Row.{Row}
use Rattle.registers.specs.Counter.{position}
use Rattle.dma.specs.Channels.{settings, preloaded, counted, busy, by_words, made_due, starts_by_enable}
use Rattle.dma.specs.Refusing.{answer, unless}
use Rattle.dma.specs.State.{State, row_at}

-- the held control word with DE cleared
abbrev pub disabled : ℕ → ℕ
disabled word = word - field 23 1 word * 2 ^ 23

-- D3D or DAM differ
abbrev pub reshapes : ℕ → ℕ → Bool
reshapes held word = not (field 4 7 held == field 4 7 word)

-- a control word for a channel at rest
abbrev pub at_rest_refusal : Row → ℕ → Option Refusal
at_rest_refusal r word =
    if not (is_some (mode_of (mode_number word))) then Some ReservedMode
    else if not (is_some (shape_of word)) then Some ReservedShape
    else if not (is_some (spaces_of word)) then Some ReservedSpace
    else if reshapes r.control word && not (position (preloaded r) (counted r) == 0) then Some ShapeInMidBlock
    else None

-- while DE is 1 only DE can be cleared; while the channel drains nothing can be set
abbrev pub control_refusal : Row → ℕ → Option Refusal
control_refusal r word =
    if enable r.control then (if word == r.control || word == disabled r.control then None else Some Busy)
    else if r.active then Some Busy
    else at_rest_refusal r word

abbrev pub if_busy : Row → Option Refusal
if_busy r = if busy r then Some Busy else None

-- what a set of a channel's own register is refused with
abbrev pub row_refusal : Row → Register → ℕ → Option Refusal
row_refusal r register value =
    elim register [ Dsr c ↦ if_busy r | Ddr c ↦ if_busy r | Dco c ↦ if_busy r | Dcr c ↦ control_refusal r value | Dor i ↦ None | Dstr ↦ None ]

-- DE is set from 0: the channel is active, and in DTM 3 the rest of the block is due
abbrev pub switched_on : Row → Row
switched_on r = record r { due = if starts_by_enable (settings r).mode then made_due r else r.due; active = true }

-- the channel comes to rest; words still due are lost
abbrev pub at_rest : Row → Bool → Row
at_rest r requested = record r { due = 0; active = false; requested = requested }

-- DE is cleared: with nothing due the channel is done; a due word of DTM 1 and 5 drains first; other due words are lost, with an interrupt if DIE is 1
abbrev pub switched_off : Row → Row
switched_off r =
    if r.due == 0 then at_rest r r.requested
    else if by_words (settings r).mode then r
    else at_rest r (r.requested || (settings r).interrupts)

abbrev pub with_control : Row → ℕ → Row
with_control r word = record r { control = word }

-- the word is held, and DE rises, falls or stays
abbrev pub after_control : Row → ℕ → Row
after_control r word =
    let n = with_control r word in
    if enable r.control then (if enable word then n else switched_off n) else if enable word then switched_on n else n

abbrev pub with_source : Row → ℕ → Row
with_source r address = record r { source = address }

abbrev pub with_destination : Row → ℕ → Row
with_destination r address = record r { destination = address }

-- a set of DCO fixes both count and preload
abbrev pub with_counter : Row → ℕ → Row
with_counter r word = record r { count = word; preload = word }

-- what it leaves of the channel
abbrev pub row_set : Row → Register → ℕ → Row
row_set r register value =
    elim register [
      | Dsr c ↦ with_source r value
      | Ddr c ↦ with_destination r value
      | Dco c ↦ with_counter r value
      | Dcr c ↦ after_control r value
      | Dor i ↦ r
      | Dstr ↦ r
    ]

-- one row of the table changed
abbrev pub with_row : State → ℕ → Row → State
with_row s c r = record s { rows = slice_set s.rows c r }

abbrev pub change : State → ℕ → (Row → Row) → State
change s c f = with_row s c (f (row_at s.rows c))

abbrev pub with_offset : State → ℕ → ℕ → State
with_offset s i value = record s { offsets = slice_set s.offsets i value }

-- what a set of what the channels share is refused with, and leaves
abbrev pub shared_refusal : Register → Option Refusal
shared_refusal = elim [ Dsr c ↦ None | Ddr c ↦ None | Dco c ↦ None | Dcr c ↦ None | Dor i ↦ None | Dstr ↦ Some StatusIsRead ]

abbrev pub shared_set : State → Register → ℕ → State
shared_set s register value = elim register [ Dsr c ↦ s | Ddr c ↦ s | Dco c ↦ s | Dcr c ↦ s | Dor i ↦ with_offset s i value | Dstr ↦ s ]

abbrev pub set_refusal : State → Register → ℕ → Option Refusal
set_refusal s register value =
    if unknown register then Some NoSuchRegister
    else if nat_lt 0xFFFFFF value then Some ValueTooLarge
    else elim (channel_of register) [ Some c ↦ row_refusal (row_at s.rows c) register value | None ↦ shared_refusal register ]

abbrev pub set_state : State → Register → ℕ → State
set_state s register value =
    elim (channel_of register) [ Some c ↦ change s c (λ r. row_set r register value) | None ↦ shared_set s register value ]

-- a refused set changes nothing
abbrev pub set_answer : State → Register → ℕ → Result (Unit {0}) Refusal
set_answer s register value = answer (set_refusal s register value)

abbrev pub after_set : State → Register → ℕ → State
after_set s register value = unless (set_refusal s register value) s (set_state s register value)
