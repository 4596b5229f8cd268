-- Places are read exactly.
use Rattle.std.proofs.Common.{◌≡◌, ℕ, List, [], ◌∷◌, ◌++◌, Some, codes, sym, refl, ap, ◌∙◌, subst, arith}
use Rattle.std.proofs.lemmas.Option.{none-some, some_pair_parts}
use Rattle.std.proofs.lemmas.Bool.Decides.{nat_tests}
use Rattle.memory.specs.declared.place.Place.{Place}
use Rattle.memory.specs.declared.place.Space.{Space}
use Rattle.memory.specs.declared.place.Space.TheVariants.{X, Y, P}
use Rattle.forms.specs.Reading.{lettered, space_of, placed, place_of}
use Rattle.forms.specs.Scanning.{skipped, pair_of, closed_of, word_of, last_word_of}
use Rattle.forms.specs.Spelling.{letter, spelled_word, spelled_place, WordFits}
use Rattle.forms.proofs.Texts.{bound}
use Rattle.forms.proofs.Words.{word_sound, word_complete}
use Rattle.forms.proofs.Sequences.{Reads, skipped_then, closed_makes, pair_makes, regrouped}

word_reads : Reads word_of spelled_word WordFits
word_reads = record { sound = word_sound; complete = word_complete }

abbrev pub spelled_last : ℕ → List ℕ
spelled_last w = codes " " ++ spelled_word w ++ codes ")"

pub last_word_reads : Reads last_word_of spelled_last WordFits
unfolding skipped
last_word_reads = record { sound = found; complete = (closed_makes word_reads (λ w. w) (codes ")")).complete }
  where
    found : (s rest : List ℕ) (w : ℕ) → last_word_of s ≡ Some (w, rest) → WordFits w × (s ≡ spelled_last w ++ rest)
    found s rest w e =
        let gap = skipped_then (codes " ") s (closed_of (λ (n : ℕ). n) word_of (codes ")")) (w, rest) e in
        let told = (closed_makes word_reads (λ n. n) (codes ")")).sound gap.0 rest w gap.2 in
        subst (λ (n : ℕ). WordFits n × (s ≡ spelled_last n ++ rest)) told.1 (told.2, gap.1 ∙ ap (λ t. 32 ∷ t) told.3)

letter_sound : (c : ℕ) (a : Space) → lettered c ≡ Some a → c ∷ [] ≡ letter a
letter_sound c X e = grind (arith, nat_tests)
letter_sound c Y e = grind (arith, nat_tests)
letter_sound c P e = grind (arith, nat_tests)

space_sound : (s rest : List ℕ) (a : Space) → space_of s ≡ Some (a, rest) → Unit {0} × (s ≡ letter a ++ rest)
space_sound [] rest a e = absurd (none-some (a, rest) e)
space_sound (c ∷ s) rest a e =
    let one = bound (lettered c) (λ b. Some (b, s)) (a, rest) e in
    let same = some_pair_parts one.0 a s rest one.2 in
    let is = letter_sound c one.0 one.1 in
    (tt, ap (λ l. l ++ s) (is ∙ ap letter same.0) ∙ ap (λ t. letter a ++ t) same.1)

space_complete : (a : Space) (rest : List ℕ) → Unit {0} → space_of (letter a ++ rest) ≡ Some (a, rest)
space_complete X rest h = refl
space_complete Y rest h = refl
space_complete P rest h = refl

space_reads : Reads space_of letter (λ _. Unit {0})
space_reads = record { sound = space_sound; complete = space_complete }

pub place_reads : Reads place_of spelled_place (λ p. WordFits p.address)
unfolding skipped
place_reads = record { sound = found; complete = finds }
  where
    found : (s rest : List ℕ) (p : Place) → place_of s ≡ Some (p, rest) → WordFits p.address × (s ≡ spelled_place p ++ rest)
    found s rest p e =
        let opened = skipped_then (codes "(") s (pair_of placed space_of last_word_of) (p, rest) e in
        let told = (pair_makes placed space_reads last_word_reads).sound opened.0 rest p opened.2 in
        let x = told.0 in
        let group = regrouped (letter x.0) (codes " ") (spelled_word x.1) (codes ")") in
        let whole : s ≡ spelled_place (placed x.0 x.1) ++ rest = opened.1 ∙ ap (λ t. 40 ∷ t) (told.3 ∙ ap (λ t. t ++ rest) group) in
        subst (λ (q : Place). WordFits q.address × (s ≡ spelled_place q ++ rest)) told.1 (told.2.1, whole)

    finds : (p : Place) (rest : List ℕ) → WordFits p.address → place_of (spelled_place p ++ rest) ≡ Some (p, rest)
    finds p rest h =
        ap (λ t. pair_of placed space_of last_word_of (t ++ rest)) (sym (regrouped (letter p.space) (codes " ") (spelled_word p.address) (codes ")")))
        ∙ (pair_makes placed space_reads last_word_reads).complete (p.space, p.address) rest (tt, h)
