-- Registers are read exactly.
use Rattle.std.proofs.Common.{◌≡◌, ℕ, suc, ◌≤◌, true, false, eqb, ltb, List, [], ◌∷◌, ◌++◌, length, get_or, take, drop, Some, codes, decimal, Option, sym, refl, ap, ◌∙◌, subst, ⊎_elim, append_assoc, arith, take-append-drop, length-take-le}
use Rattle.std.proofs.lemmas.Option.{none-some, some_pair_parts}
use Rattle.std.proofs.lemmas.Slice.Eq.{HasBytesAt, text_from_reads}
use Rattle.std.proofs.lemmas.Bool.{eqb-true, ltb-false, le-ltb, and_parts}
use Rattle.registers.specs.declared.register.Register.{Register}
use Rattle.registers.specs.declared.register.Register.TheVariants.{Dsr, Ddr, Dco, Dcr, Dor, Dstr}
use Rattle.forms.specs.Reading.{reads, Name, named, names, numbered_of, registers, register_of}
use Rattle.forms.specs.Scanning.{bind, skipped, number_of}
use Rattle.forms.specs.Spelling.{spelled_register, RegisterFits, NumberFits}
use Rattle.forms.proofs.Texts.{bound, guarded_not, either_arm}
use Rattle.forms.proofs.Numbers.{number_sound, number_complete}
use Rattle.forms.proofs.Sequences.{Reads, skipped_then, bare_way, first_way_sound}

reads_at : (s text : List ℕ) (i : ℕ) → reads s text i ≡ true → HasBytesAt s i text
reads_at s [] i e = tt
reads_at s (c ∷ text) i e =
    let parts = and_parts (eqb (get_or s i 0) c) (reads s text (suc i)) e in
    (eqb-true (get_or s i 0) c parts.0, reads_at s text (suc i) parts.1)

-- a name has three letters, and its register is spelled with it
pub record Proper (name : Name) : Type 0 where
  pub long : length name.text ≡ 3
  pub fits : (n : ℕ) → NumberFits n → RegisterFits (name.means n)
  pub spells : (n : ℕ) → spelled_register (name.means n) ≡ codes "(" ++ name.text ++ codes " " ++ decimal n ++ codes ")"

abbrev AllProper : List Name → Type 0
AllProper [] = Unit {0}
AllProper (name ∷ more) = Proper name × AllProper more

names_proper : AllProper names
names_proper = (
  record { long = refl; fits = λ n h. h; spells = λ n. refl },
  (
    record { long = refl; fits = λ n h. h; spells = λ n. refl },
    (
      record { long = refl; fits = λ n h. h; spells = λ n. refl },
      (
        record { long = refl; fits = λ n h. h; spells = λ n. refl },
        (record { long = refl; fits = λ n h. h; spells = λ n. refl }, tt),
      ),
    ),
  ),
)

named_sound : (all : List Name) → AllProper all → (s : List ℕ) (n : ℕ) (r : Register) → length s ≡ 3 → NumberFits n → named all s n ≡ Some r → RegisterFits r × (spelled_register r ≡ codes "(" ++ s ++ codes " " ++ decimal n ++ codes ")")
named_sound [] proper s n r long h e = absurd (none-some r e)
named_sound (name ∷ more) proper s n r long h e =
    ⊎_elim
    (λ here.
    let is : s ≡ name.text = text_from_reads s name.text (long ∙ sym proper.0.long) (reads_at s name.text 0 here.0) in
    let same : name.means n ≡ r = cc here.1 in
    subst (λ (q : Register). RegisterFits q × (spelled_register q ≡ codes "(" ++ s ++ codes " " ++ decimal n ++ codes ")")) same
    (proper.0.fits n h, proper.0.spells n ∙ ap (λ t. codes "(" ++ t ++ codes " " ++ decimal n ++ codes ")") (sym is)))
    (λ later. named_sound more proper.1 s n r long h later.1)
    (either_arm (reads s name.text 0) (Some (name.means n)) (named more s n) (Some r) e)

grouped : (name number rest : List ℕ) → name ++ (codes " " ++ (number ++ (41 ∷ rest))) ≡ name ++ codes " " ++ number ++ codes ")" ++ rest
grouped name number rest = simp append_assoc

-- the parts that were read make up the spelling of the register
numbered_whole : (s name gap left rest : List ℕ) (n : ℕ) (q r : Register) → name ++ gap ≡ s → gap ≡ codes " " ++ (decimal n ++ (41 ∷ left)) → spelled_register q ≡ codes "(" ++ name ++ codes " " ++ decimal n ++ codes ")" → q ≡ r → left ≡ rest → codes "(" ++ s ≡ spelled_register r ++ rest
numbered_whole s name gap left rest n q r split follows spells same end =
    ap (λ t. 40 ∷ t) (sym split ∙ ap (λ t. name ++ t) follows ∙ grouped name (decimal n) left)
    ∙ ap (λ t. t ++ left) (sym spells ∙ ap spelled_register same)
    ∙ ap (λ t. spelled_register r ++ t) end

numbered_sound : (s rest : List ℕ) (r : Register) → numbered_of s ≡ Some (r, rest) → RegisterFits r × (codes "(" ++ s ≡ spelled_register r ++ rest)
numbered_sound s rest r e =
    let make : ℕ × List ℕ → Option (Register × List ℕ) = λ n. bind (named names (take 3 s) n.0) (λ q. Some (q, n.1)) in
    let three = guarded_not (ltb (length s) 3) (bind (skipped (codes " ") (drop 3 s)) (λ t. bind (number_of t) make)) (r, rest) e in
    let gap = skipped_then (codes " ") (drop 3 s) (λ t. bind (number_of t) make) (r, rest) three.1 in
    let number = bound (number_of gap.0) make (r, rest) gap.2 in
    let n = number.0.0 in
    let left = number.0.1 in
    let name = bound (named names (take 3 s) n) (λ q. Some (q, left)) (r, rest) number.2 in
    let same = some_pair_parts name.0 r left rest name.2 in
    let long : 3 ≤ length s = ltb-false (length s) 3 three.0 in
    let read = number_sound gap.0 left n number.1 in
    let told = named_sound names names_proper (take 3 s) n name.0 (length-take-le 3 s long) read.0 name.1 in
    let follows : drop 3 s ≡ codes " " ++ (decimal n ++ (41 ∷ left)) = gap.1 ∙ ap (λ t. codes " " ++ t) read.1 in
    (subst RegisterFits {x = name.0} same.0 told.0, numbered_whole s (take 3 s) (drop 3 s) left rest n name.0 r (take-append-drop 3 s) follows told.1 same.0 same.1)

-- three letters, a space and a number in range are read as the letters say
numbered_complete : (a b c n : ℕ) (rest : List ℕ) → NumberFits n → numbered_of (a ∷ b ∷ c ∷ 32 ∷ (decimal n ++ codes ")" ++ rest)) ≡ bind (named names (a ∷ b ∷ c ∷ []) n) (λ r. Some (r, rest))
unfolding skipped
numbered_complete a b c n rest h =
    let make : ℕ × List ℕ → Option (Register × List ℕ) = λ m. bind (named names (a ∷ b ∷ c ∷ []) m.0) (λ q. Some (q, m.1)) in
    let s = decimal n ++ codes ")" ++ rest in
    let long : ltb (length (a ∷ b ∷ c ∷ 32 ∷ s)) 3 ≡ false = le-ltb (length (a ∷ b ∷ c ∷ 32 ∷ s)) 3 (omega arith) in
    let read : number_of s ≡ Some (n, rest) = rw (append_assoc (decimal n) (codes ")") rest) (number_complete n rest h) in
    rw long (ap (λ o. bind o make) read)

register_sound : (s rest : List ℕ) (r : Register) → register_of s ≡ Some (r, rest) → RegisterFits r × (s ≡ spelled_register r ++ rest)
register_sound = first_way_sound spelled_register RegisterFits registers (bare_way spelled_register RegisterFits Dstr tt, (numbered_sound, tt))

register_complete : (r : Register) (rest : List ℕ) → RegisterFits r → register_of (spelled_register r ++ rest) ≡ Some (r, rest)
unfolding skipped
register_complete (Dsr n) rest h = numbered_complete 100 115 114 n rest h
register_complete (Ddr n) rest h = numbered_complete 100 100 114 n rest h
register_complete (Dco n) rest h = numbered_complete 100 99 111 n rest h
register_complete (Dcr n) rest h = numbered_complete 100 99 114 n rest h
register_complete (Dor n) rest h = numbered_complete 100 111 114 n rest h
register_complete Dstr rest h = refl

pub register_reads : Reads register_of spelled_register RegisterFits
register_reads = record { sound = register_sound; complete = register_complete }
