-- Forms are read exactly, and so is a line.
use Rattle.std.proofs.Common.{◌≡◌, ℕ, suc, cond, eqb, length, None, arith, List, [], ◌∷◌, ◌++◌, Some, codes, decimal, Option, sym, refl, ap, ◌∙◌, subst, append_assoc, append-nil}
use Rattle.std.proofs.lemmas.Option.{none-some, some_pair_parts}
use Rattle.std.proofs.lemmas.Bool.{ne_eqb, cond-false}
use Rattle.memory.specs.declared.place.Place.{Place}
use Rattle.forms.specs.declared.form.Form.{Form}
use Rattle.forms.specs.declared.form.Form.TheVariants.{Store, Load, Set, Get, Raise, Slot, Serve, Stop, Wake}
use Rattle.registers.specs.declared.register.Register.{Register}
use Rattle.forms.specs.Reading.{store_of, load_of, set_of, get_of, number_as, forms, ended, form_of}
use Rattle.forms.specs.Scanning.{bind, skipped, first_way, number_of}
use Rattle.forms.specs.Spelling.{spelled_word, spelled_place, spelled_register, spelled, WordFits, NumberFits, RegisterFits, InRange, Exact}
use Rattle.forms.proofs.Texts.{bound}
use Rattle.forms.proofs.Numbers.{number_sound, number_complete}
use Rattle.forms.proofs.Places.{spelled_last, last_word_reads, place_reads}
use Rattle.forms.proofs.Registers.{register_reads}
use Rattle.forms.proofs.Sequences.{Makes, closed_makes, pair_makes, way_sound, bare_way, first_way_sound}

-- a word after a place or a register, as the form spells it
grouped : (front before w : List ℕ) → front ++ (before ++ (codes " " ++ w ++ codes ")")) ≡ front ++ before ++ codes " " ++ w ++ codes ")"
grouped front before w = simp append_assoc

number_makes : (make : ℕ → Form) → Makes (number_as make) make (λ n. decimal n ++ codes ")") NumberFits
number_makes make = record { sound = found; complete = finds }
  where
    found : (s rest : List ℕ) (form : Form) → number_as make s ≡ Some (form, rest) → (n : ℕ) × (make n ≡ form) × NumberFits n × (s ≡ decimal n ++ codes ")" ++ rest)
    found s rest form e =
        let one = bound (number_of s) (λ n. Some (make n.0, n.1)) (form, rest) e in
        let n = one.0.0 in
        let same = some_pair_parts (make n) form one.0.1 rest one.2 in
        let told = number_sound s one.0.1 n one.1 in
        (n, same.0, told.0, told.1 ∙ ap (λ t. decimal n ++ (41 ∷ t)) same.1 ∙ sym (append_assoc (decimal n) (codes ")") rest))

    finds : (n : ℕ) (rest : List ℕ) → NumberFits n → number_as make (decimal n ++ codes ")" ++ rest) ≡ Some (make n, rest)
    finds n rest h =
        let k : ℕ × List ℕ → Option (Form × List ℕ) = λ m. Some (make m.0, m.1) in
        ap (λ s. number_as make s) (append_assoc (decimal n) (codes ")") rest) ∙ ap (λ o. bind o k) (number_complete n rest h)

store_makes : Makes store_of (λ (x : Place × ℕ). Store x.0 x.1) (λ x. spelled_place x.0 ++ spelled_last x.1) (λ x. WordFits x.0.address × WordFits x.1)
store_makes = pair_makes Store place_reads last_word_reads

set_makes : Makes set_of (λ (x : Register × ℕ). Set x.0 x.1) (λ x. spelled_register x.0 ++ spelled_last x.1) (λ x. RegisterFits x.0 × WordFits x.1)
set_makes = pair_makes Set register_reads last_word_reads

load_makes : Makes load_of Load (λ p. spelled_place p ++ codes ")") (λ p. WordFits p.address)
load_makes = closed_makes place_reads Load (codes ")")

get_makes : Makes get_of Get (λ r. spelled_register r ++ codes ")") RegisterFits
get_makes = closed_makes register_reads Get (codes ")")

form_sound : (s rest : List ℕ) (form : Form) → first_way forms s ≡ Some (form, rest) → InRange form × (s ≡ spelled form ++ rest)
form_sound =
    first_way_sound spelled InRange forms (
      way_sound store_makes (codes "(store ") spelled InRange (λ x h. h) (λ x. grouped (codes "(store ") (spelled_place x.0) (spelled_word x.1)),
      (
        way_sound load_makes (codes "(load ") spelled InRange (λ p h. h) (λ p. refl),
        (
          way_sound set_makes (codes "(set ") spelled InRange (λ x h. h) (λ x. grouped (codes "(set ") (spelled_register x.0) (spelled_word x.1)),
          (
            way_sound get_makes (codes "(get ") spelled InRange (λ r h. h) (λ r. refl),
            (
              way_sound (number_makes Raise) (codes "(raise ") spelled InRange (λ n h. h) (λ n. refl),
              (
                way_sound (number_makes Serve) (codes "(serve ") spelled InRange (λ n h. h) (λ n. refl),
                (
                  bare_way spelled InRange Slot tt,
                  (
                    bare_way spelled InRange Stop tt,
                    (
                      bare_way spelled InRange Wake tt,
                      tt,
                    ),
                  ),
                ),
              ),
            ),
          ),
        ),
      ),
    )

form_complete : (form : Form) (rest : List ℕ) → InRange form → first_way forms (spelled form ++ rest) ≡ Some (form, rest)
unfolding skipped
form_complete (Store p w) rest h = ap (λ t. first_way forms (t ++ rest)) (sym (grouped (codes "(store ") (spelled_place p) (spelled_word w))) ∙ store_makes.complete (p, w) rest h
form_complete (Load p) rest h = load_makes.complete p rest h
form_complete (Set r w) rest h = ap (λ t. first_way forms (t ++ rest)) (sym (grouped (codes "(set ") (spelled_register r) (spelled_word w))) ∙ set_makes.complete (r, w) rest h
form_complete (Get r) rest h = get_makes.complete r rest h
form_complete (Raise n) rest h = (number_makes Raise).complete n rest h
form_complete Slot rest h = refl
form_complete (Serve n) rest h = (number_makes Serve).complete n rest h
form_complete Stop rest h = refl
form_complete Wake rest h = refl

ended_sound : (f form : Form) (rest : List ℕ) → ended f rest ≡ Some form → (f ≡ form) × (rest ≡ [])
ended_sound f form [] e = (cc, refl)
ended_sound f form (c ∷ rest) e = absurd (none-some form e)

pub ended_is : (f : Form) (rest : List ℕ) → ended f rest ≡ cond (eqb (length rest) 0) (Some f) None
ended_is f [] = refl
ended_is f (c ∷ rest) = sym (cond-false _ _ _ (ne_eqb (suc (length rest)) 0 (λ e. omega arith)))

pub exact_reading : (line : List ℕ) (r : Option Form) → r ≡ form_of line → Exact line r
unfolding form_of
exact_reading line r is = record { sound = found; complete = finds }
  where
    found : (f : Form) → r ≡ Some f → InRange f × (line ≡ spelled f)
    found f e =
        let read = bound (first_way forms line) (λ p. ended p.0 p.1) f (sym is ∙ e) in
        let end = ended_sound read.0.0 f read.0.1 read.2 in
        let told = form_sound line read.0.1 read.0.0 read.1 in
        (subst InRange end.0 told.0, told.1 ∙ ap (λ t. spelled read.0.0 ++ t) end.1 ∙ append-nil (spelled read.0.0) ∙ ap spelled end.0)

    finds : (f : Form) → InRange f → line ≡ spelled f → r ≡ Some f
    finds f h e =
        is
        ∙ ap (λ s. bind (first_way forms s) (λ p. ended p.0 p.1)) (e ∙ sym (append-nil (spelled f)))
        ∙ ap (λ o. bind o (λ (p : Form × List ℕ). ended p.0 p.1)) (form_complete f [] h)
