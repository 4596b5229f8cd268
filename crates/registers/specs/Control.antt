-- The control word DCR: which bits say what.
use Rattle.std.specs.Prelude.{ℕ, ◌/◌, ◌%◌, ◌^◌, Bool, true, false, if◌then◌else◌, ◌&&◌, Some, None, Option, Result, ◌≡◌, ◌==◌, nat_lt}
use Rattle.std.specs.Result.{MatchResult}
use Rattle.memory.specs.declared.place.Space.{Space}
use Rattle.memory.specs.declared.place.Space.TheVariants.{X, Y, P}
use Rattle.memory.specs.declared.refusal.Refusal.{Refusal}
use Rattle.memory.specs.declared.refusal.Refusal.TheVariants.{ReservedMode, ReservedShape, ReservedSpace}
use Rattle.registers.specs.declared.control.Settings.{Settings}
use Rattle.registers.specs.declared.control.Shape.{Shape}
use Rattle.registers.specs.declared.control.Spaces.{Spaces}
use Rattle.registers.specs.declared.control.TransferMode.{TransferMode}
use Rattle.registers.specs.declared.control.TransferMode.TheVariants.{Block, Word, Line, BlockByEnable, BlockKeepingEnable, WordKeepingEnable}
use Rattle.registers.specs.declared.counter.Layout.{Layout}
use Rattle.registers.specs.declared.counter.Layout.TheVariants.{A, B, C, D, E}
use Rattle.registers.specs.declared.update.Update.{Update}
use Rattle.registers.specs.declared.update.Update.TheVariants.{Still, Onward, TwoDimensional, ThreeDimensional}

-- the `width` bits of a word from the bit `at` on
abbrev pub field : ℕ → ℕ → ℕ → ℕ
field at width word = word / 2 ^ at % 2 ^ width

-- DE, DIE, DTM, DPR, DCON, DRS, D3D, DAM, DDS and DSS, from bit 23 down
abbrev pub enable : ℕ → Bool
enable word = field 23 1 word == 1

abbrev pub interrupt_enable : ℕ → Bool
interrupt_enable word = field 22 1 word == 1

abbrev pub mode_number : ℕ → ℕ
mode_number word = field 19 3 word

abbrev pub priority : ℕ → ℕ
priority word = field 17 2 word

abbrev pub continuous : ℕ → Bool
continuous word = field 16 1 word == 1

abbrev pub request_source : ℕ → ℕ
request_source word = field 11 5 word

abbrev pub three_dimensional : ℕ → Bool
three_dimensional word = field 10 1 word == 1

abbrev pub address_mode : ℕ → ℕ
address_mode word = field 4 6 word

abbrev pub destination_space : ℕ → ℕ
destination_space word = field 2 2 word

abbrev pub source_space : ℕ → ℕ
source_space word = field 0 2 word

-- the transfer mode of a number; 6 and 7 are reserved
abbrev pub mode_of : ℕ → Option TransferMode
mode_of n =
    if n == 0 then Some Block
    else if n == 1 then Some Word
    else if n == 2 then Some Line
    else if n == 3 then Some BlockByEnable
    else if n == 4 then Some BlockKeepingEnable
    else if n == 5 then Some WordKeepingEnable
    else None

abbrev pub space_of : ℕ → Option Space
space_of n = if n == 0 then Some X else if n == 1 then Some Y else if n == 2 then Some P else None

-- the update of a side by its code; 6 and 7 mean something only beside a side of three dimensions
abbrev pub update_of : Bool → ℕ → Option Update
update_of beside code =
    if nat_lt code 4 then Some (TwoDimensional code)
    else if code == 4 then Some Still
    else if code == 5 then Some Onward
    else if beside && code == 6 then Some (ThreeDimensional 0 1)
    else if beside && code == 7 then Some (ThreeDimensional 2 3)
    else None

-- A if neither side has an offset, else B
abbrev pub flat_layout : ℕ → ℕ → Layout
flat_layout source destination = if nat_lt 3 source && nat_lt 3 destination then A else B

abbrev pub cubic_layout : ℕ → Option Layout
cubic_layout n = if n == 0 then Some C else if n == 1 then Some D else if n == 2 then Some E else None

abbrev pub shaped : Option Update → Option Update → Option Layout → Option Shape
shaped None destination layout = None
shaped (Some s) None layout = None
shaped (Some s) (Some d) None = None
shaped (Some s) (Some d) (Some l) = Some (record { source = s; destination = d; layout = l })

-- D3D 0: bits 5 to 3 of DAM are the destination's code, bits 2 to 0 the source's
abbrev pub flat_shape : ℕ → Option Shape
flat_shape dam =
    let s = field 0 3 dam in
    let d = field 3 3 dam in
    shaped (update_of false s) (update_of false d) (Some (flat_layout s d))

-- D3D 1: bit 2 of DAM says which side has three dimensions, bits 5 to 3 are the other's code, bits 1 and 0 give the layout
abbrev pub cubic_shape : ℕ → Option Shape
cubic_shape dam =
    let other = update_of true (field 3 3 dam) in
    let layout = cubic_layout (field 0 2 dam) in
    if field 2 1 dam == 0 then shaped (Some (ThreeDimensional 0 1)) other layout else shaped other (Some (ThreeDimensional 2 3)) layout

abbrev pub shape_of : ℕ → Option Shape
shape_of word = if three_dimensional word then cubic_shape (address_mode word) else flat_shape (address_mode word)

abbrev pub spaced : Option Space → Option Space → Option Spaces
spaced None destination = None
spaced (Some s) None = None
spaced (Some s) (Some d) = Some (record { source = s; destination = d })

abbrev pub spaces_of : ℕ → Option Spaces
spaces_of word = spaced (space_of (source_space word)) (space_of (destination_space word))

abbrev pub set_up : ℕ → Option TransferMode → Option Shape → Option Spaces → Option Settings
set_up word None shape spaces = None
set_up word (Some m) None spaces = None
set_up word (Some m) (Some s) None = None
set_up word (Some m) (Some s) (Some p) = Some (record {
  enabled = enable word;
  interrupts = interrupt_enable word;
  mode = m;
  priority = priority word;
  continuous = continuous word;
  request = request_source word;
  shape = s;
  spaces = p;
})

-- the settings of a control word, unless something in it is reserved
abbrev pub settings_of : ℕ → Option Settings
settings_of word = set_up word (mode_of (mode_number word)) (shape_of word) (spaces_of word)

-- what a control word with something reserved is refused with: the mode comes before the shape, and the shape before the spaces
abbrev pub first_missing : Option TransferMode → Option Shape → Refusal
first_missing None shape = ReservedMode
first_missing (Some m) None = ReservedShape
first_missing (Some m) (Some s) = ReservedSpace

abbrev pub first_reserved : ℕ → Refusal
first_reserved word = first_missing (mode_of (mode_number word)) (shape_of word)

-- a conversion answers what a word gives, or the refusal if it gives nothing
abbrev pub Gives : {T : Type 0} → Option T → Refusal → Result T Refusal → Type 0
Gives given refusal result = MatchResult result (λ value. given ≡ Some value) (λ reason. (given ≡ None) × (reason ≡ refusal))
