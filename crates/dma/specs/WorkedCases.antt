-- Eight worked cases of the registers and of arbitration, as one table of values.
use Rattle.std.specs.Prelude.{◌≡◌, ℕ, zero, suc, true, List, [], ◌∷◌, Some, None, Option}
use Rattle.memory.specs.declared.refusal.Refusal.{Refusal}
use Rattle.memory.specs.Refusals.{number}
use Rattle.registers.specs.Counter.{block_length}
use Rattle.registers.specs.declared.register.Register.TheVariants.{Dcr}
use Rattle.dma.specs.declared.row.Row.{Row}
use Rattle.dma.specs.Channels.{preloaded}
use Rattle.dma.specs.Reads.{next_served}
use Rattle.dma.specs.Sets.{set_refusal}
use Rattle.dma.specs.Slots.{advanced, after_move}
use Rattle.dma.specs.State.{State, reset, reset_row}

-- a channel with these registers and words due
abbrev pub channel : ℕ → ℕ → ℕ → ℕ → Row
channel control counter source due =
    record reset_row { source = source; count = counter; preload = counter; control = control; due = due; active = true }

-- the channel after so many words, and the addresses that they came from
abbrev pub after_words : ℕ → List ℕ → Row → Row
after_words zero offsets r = r
after_words (suc k) offsets r = after_words k offsets (advanced offsets r)

abbrev pub sources : ℕ → List ℕ → Row → List ℕ
sources zero offsets r = []
sources (suc k) offsets r = r.source ∷ sources k offsets (advanced offsets r)

-- the channels that so many slots serve
abbrev pub served : ℕ → State → List ℕ
served zero s = []
served (suc k) s = elim (next_served s) [ None ↦ [] | Some c ↦ c ∷ served k (after_move s c) ]

abbrev pub refusal_number : Option Refusal → ℕ
refusal_number None = 0
refusal_number (Some refusal) = number refusal

-- a controller with these channels, each priority remembering channel 5
abbrev pub with_rows : List Row → State
with_rows rows = record reset { rows = rows }

-- a case: what is given, and last what is to come out
pub data Case : Type 0 where
  -- control word, counter, source address, offsets, words moved; the source address and the count after them
  moves : (control counter source : ℕ) (offsets : List ℕ) (words address count : ℕ) → Case
  -- control word, counter, source address, offsets, words; the addresses that they come from
  comes_from : (control counter source : ℕ) (offsets : List ℕ) (words : ℕ) (addresses : List ℕ) → Case
  -- control word, counter; the words of a block
  block_of : (control counter words : ℕ) → Case
  -- a control word that is set after reset; the number of its refusal, 0 if it is accepted
  control_set : (word refusal : ℕ) → Case
  -- the channels, slots; the channels that they serve
  serves : (rows : List Row) (slots : ℕ) (channels : List ℕ) → Case

abbrev pub Holds : Case → Type 0
Holds (moves control counter source offsets words address count) =
    let r = after_words words offsets (channel control counter source 0) in
    (r.source ≡ address) × (r.count ≡ count)
Holds (comes_from control counter source offsets words addresses) = sources words offsets (channel control counter source 0) ≡ addresses
Holds (block_of control counter words) = block_length (preloaded (channel control counter 0 0)) ≡ words
Holds (control_set word refusal) = refusal_number (set_refusal reset (Dcr 0) word) ≡ refusal
Holds (serves rows slots channels) = served slots (with_rows rows) ≡ channels

-- block transfers of 256 words at priority 0, with two words due or none; the second is continuous
abbrev pub due_two : Row
due_two = channel 0x8002D0 0xFF 0 2

abbrev pub continuous_two : Row
continuous_two = channel 0x8102D0 0xFF 0 2

abbrev pub cases : List Case
cases =
    -- layout A, add one: six words, and the counter is back
    moves 0x250 5 0x100 [] 6 0x106 5
    -- layout C, fields 1, 1, 2, three dimensions
    ∷ moves 0x600 0x1042 0x100 (0x10 ∷ 0x20 ∷ []) 3 0x112 0x1002
    ∷ moves 0x600 0x1042 0x100 (0x10 ∷ 0x20 ∷ []) 12 0x168 0x1042
    -- layout B, a ring of four
    ∷ comes_from 0x200 0x1003 0x200 (0xFFFFFD ∷ []) 9 (0x200 ∷ 0x201 ∷ 0x202 ∷ 0x203 ∷ 0x200 ∷ 0x201 ∷ 0x202 ∷ 0x203 ∷ 0x200 ∷ [])
    -- layout E: middle and low field are two counts
    ∷ block_of 0x460 0x1000 2
    -- reserved codes and layouts, modes and spaces
    ∷ control_set 0x60 6
    ∷ control_set 0x430 6
    ∷ control_set 0x460 0
    ∷ control_set 0x300063 5
    ∷ control_set 0xC 7
    -- channels 0, 2 and 5 in turn, and with channel 2 continuous
    ∷ serves (due_two ∷ reset_row ∷ due_two ∷ reset_row ∷ reset_row ∷ due_two ∷ []) 4 (0 ∷ 2 ∷ 5 ∷ 0 ∷ [])
    ∷ serves (due_two ∷ reset_row ∷ continuous_two ∷ reset_row ∷ reset_row ∷ due_two ∷ []) 5 (0 ∷ 2 ∷ 2 ∷ 5 ∷ 0 ∷ [])
    ∷ []

abbrev pub AllHold : List Case → Type 0
AllHold [] = Unit {0}
AllHold (c ∷ cs) = Holds c × AllHold cs

abbrev pub EveryCaseHolds : Type 0
EveryCaseHolds = AllHold cases
