-- How each form is spelled, and what it is to read a line exactly.
use Rattle.std.specs.Prelude.{◌≡◌, ℕ, ◌^◌, ◌<◌, List, ◌++◌, Some, codes, decimal, Option}
use Rattle.memory.specs.declared.place.Place.{Place}
use Rattle.memory.specs.declared.place.Space.{Space}
use Rattle.memory.specs.declared.place.Space.TheVariants.{X, Y, P}
use Rattle.forms.specs.declared.form.Form.{Form}
use Rattle.forms.specs.declared.form.Form.TheVariants.{Store, Load, Set, Get, Raise, Slot, Serve, Stop, Wake}
use Rattle.registers.specs.declared.register.Register.{Register}
use Rattle.registers.specs.declared.register.Register.TheVariants.{Dsr, Ddr, Dco, Dcr, Dor, Dstr}
use Rattle.forms.specs.Numerals.{hexadecimal}

abbrev pub letter : Space → List ℕ
letter X = codes "x"
letter Y = codes "y"
letter P = codes "p"

-- a word or an address: six hexadecimal digits
abbrev pub spelled_word : ℕ → List ℕ
spelled_word n = hexadecimal 6 n

abbrev pub spelled_place : Place → List ℕ
spelled_place p = codes "(" ++ letter p.space ++ codes " " ++ spelled_word p.address ++ codes ")"

abbrev pub spelled_register : Register → List ℕ
spelled_register (Dsr c) = codes "(dsr " ++ decimal c ++ codes ")"
spelled_register (Ddr c) = codes "(ddr " ++ decimal c ++ codes ")"
spelled_register (Dco c) = codes "(dco " ++ decimal c ++ codes ")"
spelled_register (Dcr c) = codes "(dcr " ++ decimal c ++ codes ")"
spelled_register (Dor i) = codes "(dor " ++ decimal i ++ codes ")"
spelled_register Dstr = codes "(dstr)"

abbrev pub spelled : Form → List ℕ
spelled (Store p w) = codes "(store " ++ spelled_place p ++ codes " " ++ spelled_word w ++ codes ")"
spelled (Load p) = codes "(load " ++ spelled_place p ++ codes ")"
spelled (Set r w) = codes "(set " ++ spelled_register r ++ codes " " ++ spelled_word w ++ codes ")"
spelled (Get r) = codes "(get " ++ spelled_register r ++ codes ")"
spelled (Raise s) = codes "(raise " ++ decimal s ++ codes ")"
spelled Slot = codes "(slot)"
spelled (Serve c) = codes "(serve " ++ decimal c ++ codes ")"
spelled Stop = codes "(stop)"
spelled Wake = codes "(wake)"

-- the ranges of a form's numbers: words and addresses have 24 bits; channels, offsets and sources 8
abbrev pub WordFits : ℕ → Type 0
WordFits n = n < 2 ^ 24

abbrev pub NumberFits : ℕ → Type 0
NumberFits n = n < 2 ^ 8

abbrev pub RegisterFits : Register → Type 0
RegisterFits (Dsr c) = NumberFits c
RegisterFits (Ddr c) = NumberFits c
RegisterFits (Dco c) = NumberFits c
RegisterFits (Dcr c) = NumberFits c
RegisterFits (Dor i) = NumberFits i
RegisterFits Dstr = Unit {0}

abbrev pub InRange : Form → Type 0
InRange (Store p w) = WordFits p.address × WordFits w
InRange (Load p) = WordFits p.address
InRange (Set r w) = RegisterFits r × WordFits w
InRange (Get r) = RegisterFits r
InRange (Raise s) = NumberFits s
InRange Slot = Unit {0}
InRange (Serve c) = NumberFits c
InRange Stop = Unit {0}
InRange Wake = Unit {0}

-- r is a form exactly if the line is that form's spelling and the form's numbers are in range
pub record Exact (line : List ℕ) (r : Option Form) : Type 0 where
  pub sound : (f : Form) → r ≡ Some f → InRange f × (line ≡ spelled f)
  pub complete : (f : Form) → InRange f → line ≡ spelled f → r ≡ Some f
