-- Readers one after another: exact where their parts are.
use Rattle.std.proofs.Common.{◌≡◌, ℕ, ◌⊎◌, List, [], ◌∷◌, ◌++◌, Some, None, Option, sym, refl, ap, ◌∙◌, subst, inl, inr, ⊎_elim, append_assoc}
use Rattle.std.proofs.lemmas.Option.{none-some, some_pair_parts}
use Rattle.forms.specs.Scanning.{bind, skipped, pair_of, closed_of, Way, either, first_way}
use Rattle.forms.proofs.Texts.{bound, skipped_sound, skipped_front}

-- the reader f finds exactly what is in range and stands, as it is spelled, at the front of the line
pub record Reads {A : Type 0} (f : List ℕ → Option (A × List ℕ)) (spell : A → List ℕ) (fits : A → Type 0) : Type 0 where
  pub sound : (s rest : List ℕ) (a : A) → f s ≡ Some (a, rest) → fits a × (s ≡ spell a ++ rest)
  pub complete : (a : A) (rest : List ℕ) → fits a → f (spell a ++ rest) ≡ Some (a, rest)

-- the same of a reader that finds only what `make` gives
pub record Makes {A C : Type 0} (f : List ℕ → Option (C × List ℕ)) (make : A → C) (spell : A → List ℕ) (fits : A → Type 0) : Type 0 where
  pub sound : (s rest : List ℕ) (c : C) → f s ≡ Some (c, rest) → (a : A) × (make a ≡ c) × fits a × (s ≡ spell a ++ rest)
  pub complete : (a : A) (rest : List ℕ) → fits a → f (spell a ++ rest) ≡ Some (make a, rest)

pub skipped_then : {B : Type 0} (text s : List ℕ) (k : List ℕ → Option B) (b : B) → bind (skipped text s) k ≡ Some b → (rest : List ℕ) × (s ≡ text ++ rest) × (k rest ≡ Some b)
skipped_then text s k b e =
    let on = bound (skipped text s) k b e in
    (on.0, skipped_sound text s on.0 on.1, on.2)

module _ {A C : Type 0} {f : List ℕ → Option (A × List ℕ)} {p : A → List ℕ} {F : A → Type 0} (reads : Reads f p F) (make : A → C) (text : List ℕ) where
  pub closed_makes : Makes (closed_of make f text) make (λ a. p a ++ text) F
  closed_makes = record { sound = found; complete = finds }
    where
      found : (s rest : List ℕ) (c : C) → closed_of make f text s ≡ Some (c, rest) → (a : A) × (make a ≡ c) × F a × (s ≡ p a ++ text ++ rest)
      found s rest c e =
          let k : A × List ℕ → Option (C × List ℕ) = λ x. bind (skipped text x.1) (λ t. Some (make x.0, t)) in
          let one = bound (f s) k (c, rest) e in
          let a = one.0.0 in
          let end = skipped_then text one.0.1 (λ t. Some (make a, t)) (c, rest) one.2 in
          let same = some_pair_parts (make a) c end.0 rest end.2 in
          let told = reads.sound s one.0.1 a one.1 in
          (a, same.0, told.0, told.1 ∙ ap (λ t. p a ++ t) (end.1 ∙ ap (λ t. text ++ t) same.1) ∙ sym (append_assoc (p a) text rest))

      finds : (a : A) (rest : List ℕ) → F a → closed_of make f text (p a ++ text ++ rest) ≡ Some (make a, rest)
      finds a rest h =
          let k : A × List ℕ → Option (C × List ℕ) = λ x. bind (skipped text x.1) (λ t. Some (make x.0, t)) in
          let l : List ℕ → Option (C × List ℕ) = λ t. Some (make a, t) in
          ap (λ s. closed_of make f text s) (append_assoc (p a) text rest)
          ∙ ap (λ o. bind o k) (reads.complete a (text ++ rest) h)
          ∙ ap (λ o. bind o l) (skipped_front text rest)

module _ {A B C : Type 0} {f : List ℕ → Option (A × List ℕ)} {p : A → List ℕ} {F : A → Type 0} {g : List ℕ → Option (B × List ℕ)} {q : B → List ℕ} {G : B → Type 0} (make : A → B → C) (first : Reads f p F) (second : Reads g q G) where
  pub pair_makes : Makes (pair_of make f g) (λ (x : A × B). make x.0 x.1) (λ x. p x.0 ++ q x.1) (λ x. F x.0 × G x.1)
  pair_makes = record { sound = found; complete = finds }
    where
      found : (s rest : List ℕ) (c : C) → pair_of make f g s ≡ Some (c, rest) → (x : A × B) × (make x.0 x.1 ≡ c) × (F x.0 × G x.1) × (s ≡ p x.0 ++ q x.1 ++ rest)
      found s rest c e =
          let join : A → B × List ℕ → Option (C × List ℕ) = λ a y. Some (make a y.0, y.1) in
          let one = bound (f s) (λ y. bind (g y.1) (join y.0)) (c, rest) e in
          let a = one.0.0 in
          let two = bound (g one.0.1) (join a) (c, rest) one.2 in
          let b = two.0.0 in
          let same = some_pair_parts (make a b) c two.0.1 rest two.2 in
          let left = first.sound s one.0.1 a one.1 in
          let right = second.sound one.0.1 two.0.1 b two.1 in
          ((a, b), same.0, (left.0, right.0), left.1 ∙ ap (λ t. p a ++ t) (right.1 ∙ ap (λ t. q b ++ t) same.1) ∙ sym (append_assoc (p a) (q b) rest))

      finds : (x : A × B) (rest : List ℕ) → F x.0 × G x.1 → pair_of make f g (p x.0 ++ q x.1 ++ rest) ≡ Some (make x.0 x.1, rest)
      finds x rest h =
          let join : B × List ℕ → Option (C × List ℕ) = λ y. Some (make x.0 y.0, y.1) in
          let on : A × List ℕ → Option (C × List ℕ) = λ y. bind (g y.1) (λ z. Some (make y.0 z.0, z.1)) in
          ap (λ s. pair_of make f g s) (append_assoc (p x.0) (q x.1) rest)
          ∙ ap (λ o. bind o on) (first.complete x.0 (q x.1 ++ rest) h.0)
          ∙ ap (λ o. bind o join) (second.complete x.1 rest h.1)

-- a spelling after a text, taken apart in another way
pub regrouped : (a b c d : List ℕ) → a ++ (b ++ c ++ d) ≡ a ++ b ++ c ++ d
regrouped a b c d = simp append_assoc

-- what follows the text of a way, together with that text, is what it reads
abbrev pub WaySound : {A : Type 0} → (A → List ℕ) → (A → Type 0) → Way A → Type 0
WaySound {A} spell fits way = (s rest : List ℕ) (a : A) → way.next s ≡ Some (a, rest) → fits a × (way.text ++ s ≡ spell a ++ rest)

-- a way whose text and spelling make up a whole spelling
pub way_sound : {A C : Type 0} {f : List ℕ → Option (C × List ℕ)} {make : A → C} {p : A → List ℕ} {F : A → Type 0} (makes : Makes f make p F) (text : List ℕ) (spell : C → List ℕ) (fits : C → Type 0) → ((a : A) → F a → fits (make a)) → ((a : A) → text ++ p a ≡ spell (make a)) → WaySound spell fits (record { text = text; next = f })
way_sound {C = C} {make = make} {p = p} makes text spell fits in-range spells s rest c e =
    let told = makes.sound s rest c e in
    let a = told.0 in
    let whole : text ++ s ≡ spell (make a) ++ rest = ap (λ t. text ++ t) told.3 ∙ sym (append_assoc text (p a) rest) ∙ ap (λ t. t ++ rest) (spells a) in
    subst (λ (d : C). fits d × (text ++ s ≡ spell d ++ rest)) told.1 (in-range a told.2, whole)

-- a way whose text is all that it reads
pub bare_way : {A : Type 0} (spell : A → List ℕ) (fits : A → Type 0) (a : A) → fits a → WaySound spell fits (record { text = spell a; next = λ rest. Some (a, rest) })
bare_way spell fits a h s rest b e =
    let same = some_pair_parts a b s rest e in
    (subst fits same.0 h, ap (λ q. spell q ++ s) same.0 ∙ ap (λ t. spell b ++ t) same.1)

abbrev pub WaysSound : {A : Type 0} → (A → List ℕ) → (A → Type 0) → List (Way A) → Type 0
WaysSound spell fits [] = Unit {0}
WaysSound spell fits (way ∷ ways) = WaySound spell fits way × WaysSound spell fits ways

either_of : {B : Type 0} (o : Option (List ℕ)) (k : List ℕ → Option B) (other : Option B) (b : B) → either o k other ≡ Some b → ((rest : List ℕ) × (o ≡ Some rest) × (k rest ≡ Some b)) ⊎ (other ≡ Some b)
either_of None k other b e = inr e
either_of (Some rest) k other b e = inl (rest, refl, e)

pub first_way_sound : {A : Type 0} (spell : A → List ℕ) (fits : A → Type 0) (ways : List (Way A)) → WaysSound spell fits ways → (s rest : List ℕ) (a : A) → first_way ways s ≡ Some (a, rest) → fits a × (s ≡ spell a ++ rest)
first_way_sound spell fits [] h s rest a e = absurd (none-some (a, rest) e)
first_way_sound spell fits (way ∷ ways) h s rest a e =
    ⊎_elim
    (λ here.
    let told = h.0 here.0 rest a here.2 in
    (told.0, skipped_sound way.text s here.0 here.1 ∙ told.1))
    (λ later. first_way_sound spell fits ways h.1 s rest a later)
    (either_of (skipped way.text s) way.next (first_way ways s) (a, rest) e)
