-- Which form a line is read as.
use Rattle.std.specs.Prelude.{ℕ, suc, Bool, true, if◌then◌else◌, ◌&&◌, List, [], ◌∷◌, length, take, drop, Some, None, codes, Option, ◌==◌, nat_lt, slice_index}
use Rattle.memory.specs.declared.place.Place.{Place}
use Rattle.memory.specs.declared.place.Space.{Space}
use Rattle.memory.specs.declared.place.Space.TheVariants.{X, Y, P}
use Rattle.forms.specs.declared.form.Form.{Form}
use Rattle.forms.specs.declared.form.Form.TheVariants.{Store, Load, Set, Get, Raise, Slot, Serve, Stop, Wake}
use Rattle.registers.specs.declared.register.Register.{Register}
use Rattle.registers.specs.declared.register.Register.TheVariants.{Dsr, Ddr, Dco, Dcr, Dor, Dstr}
use Rattle.forms.specs.Scanning.{bind, skipped, pair_of, closed_of, Way, first_way, last_word_of, number_of}

-- the space of a letter: x, y or p
abbrev pub lettered : ℕ → Option Space
lettered c = if c == 120 then Some X else (if c == 121 then Some Y else (if c == 112 then Some P else None))

-- the letter of a space
abbrev pub space_of : List ℕ → Option (Space × List ℕ)
space_of [] = None
space_of (c ∷ rest) = bind (lettered c) (λ space. Some (space, rest))

-- an address in a space
abbrev pub placed : Space → ℕ → Place
placed a n = record { space = a; address = n }

-- a place: a space and an address in parentheses
abbrev pub place_of : List ℕ → Option (Place × List ℕ)
place_of s = bind (skipped (codes "(") s) (pair_of placed space_of last_word_of)

-- the bytes of s from i on begin with the text
abbrev pub reads : List ℕ → List ℕ → ℕ → Bool
reads s [] i = true
reads s (c ∷ text) i = slice_index s i == c && reads s text (suc i)

-- a name, and the register that it means with a number
pub record Name : Type 0 where
  pub text : List ℕ
  pub means : ℕ → Register

-- the register of the first of the names that s is
abbrev pub named : List Name → List ℕ → ℕ → Option Register
named [] s n = None
named (name ∷ names) s n = if reads s name.text 0 then Some (name.means n) else named names s n

-- the registers that have a number
abbrev pub names : List Name
names =
    record { text = codes "dsr"; means = Dsr }
    ∷ record { text = codes "ddr"; means = Ddr }
    ∷ record { text = codes "dco"; means = Dco }
    ∷ record { text = codes "dcr"; means = Dcr }
    ∷ record { text = codes "dor"; means = Dor }
    ∷ []

-- a name of three letters, and a number
abbrev pub numbered_of : List ℕ → Option (Register × List ℕ)
numbered_of s =
    if nat_lt (length s) 3 then None else bind (skipped (codes " ") (drop 3 s)) (λ t.
    bind (number_of t) (λ n.
    bind (named names (take 3 s) n.0) (λ r. Some (r, n.1))))

-- the register without a number, and those with one
abbrev pub registers : List (Way Register)
registers =
    record { text = codes "(dstr)"; next = λ rest. Some (Dstr, rest) }
    ∷ record { text = codes "("; next = numbered_of }
    ∷ []

-- a register in parentheses
abbrev pub register_of : List ℕ → Option (Register × List ℕ)
register_of s = first_way registers s

-- after `(store `: a place and a word
abbrev pub store_of : List ℕ → Option (Form × List ℕ)
store_of s = pair_of Store place_of last_word_of s

-- after `(load `: a place
abbrev pub load_of : List ℕ → Option (Form × List ℕ)
load_of s = closed_of Load place_of (codes ")") s

-- after `(set `: a register and a word
abbrev pub set_of : List ℕ → Option (Form × List ℕ)
set_of s = pair_of Set register_of last_word_of s

-- after `(get `: a register
abbrev pub get_of : List ℕ → Option (Form × List ℕ)
get_of s = closed_of Get register_of (codes ")") s

-- a number, as the form that it stands for
abbrev pub number_as : (ℕ → Form) → List ℕ → Option (Form × List ℕ)
number_as make s = bind (number_of s) (λ n. Some (make n.0, n.1))

-- the forms that are one word
abbrev pub bare_forms : List (Way Form)
bare_forms =
    record { text = codes "(slot)"; next = λ rest. Some (Slot, rest) }
    ∷ record { text = codes "(stop)"; next = λ rest. Some (Stop, rest) }
    ∷ record { text = codes "(wake)"; next = λ rest. Some (Wake, rest) }
    ∷ []

-- the forms by their first words
abbrev pub forms : List (Way Form)
forms =
    record { text = codes "(store "; next = store_of }
    ∷ record { text = codes "(load "; next = load_of }
    ∷ record { text = codes "(set "; next = set_of }
    ∷ record { text = codes "(get "; next = get_of }
    ∷ record { text = codes "(raise "; next = number_as Raise }
    ∷ record { text = codes "(serve "; next = number_as Serve }
    ∷ bare_forms

-- what was read, if nothing is left of the line
abbrev pub ended : Form → List ℕ → Option Form
ended f [] = Some f
ended f (c ∷ rest) = None

-- the form that the whole line is
unfoldable pub form_of : List ℕ → Option Form
form_of line = bind (first_way forms line) (λ p. ended p.0 p.1)
