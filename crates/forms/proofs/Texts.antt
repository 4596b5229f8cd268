-- A text at the front of a line: skipped exactly if it stands there.
use Rattle.std.proofs.Common.{◌≡◌, ℕ, Bool, true, false, cond, eqb, ◌⊎◌, List, [], ◌∷◌, ◌++◌, Some, None, Option, sym, refl, inl, inr, Bor, MatchOption}
use Rattle.std.proofs.lemmas.Option.{none-some}
use Rattle.std.proofs.lemmas.Bool.{eqb-true, eq-eqb}
use Rattle.std.specs.Option.{option_map}
use Rattle.forms.specs.Scanning.{skipped, bind}

-- where a test with nothing in its other arm found something, the test held
pub guarded : {A : Type 0} (b : Bool) (o : Option A) (a : A) → cond b o None ≡ Some a → (b ≡ true) × (o ≡ Some a)
guarded true o a e = (refl, e)
guarded false o a e = absurd (none-some a e)

pub guarded_not : {A : Type 0} (b : Bool) (o : Option A) (a : A) → cond b None o ≡ Some a → (b ≡ false) × (o ≡ Some a)
guarded_not true o a e = absurd (none-some a e)
guarded_not false o a e = (refl, e)

-- which arm of a test was taken
pub either_arm : {A : Type 0} (b : Bool) (x y z : A) → cond b x y ≡ z → ((b ≡ true) × (x ≡ z)) ⊎ ((b ≡ false) × (y ≡ z))
either_arm true x y z e = inl (refl, e)
either_arm false x y z e = inr (refl, e)

-- where a `?` went on, there was something to go on with
pub bound : {A B : Type 0} (o : Option A) (k : A → Option B) (b : B) → bind o k ≡ Some b → (a : A) × (o ≡ Some a) × (k a ≡ Some b)
bound None k b e = absurd (none-some b e)
bound (Some a) k b e = (a, refl, e)

pub skipped_front : (t s : List ℕ) → skipped t (t ++ s) ≡ Some s
unfolding skipped
skipped_front [] s = refl
skipped_front (c ∷ t) s = rw (eq-eqb c c refl) (skipped_front t s)

pub skipped_sound : (t s rest : List ℕ) → skipped t s ≡ Some rest → s ≡ t ++ rest
unfolding skipped
skipped_sound [] s rest e = cc
skipped_sound (c ∷ t) [] rest e = absurd (none-some rest e)
skipped_sound (c ∷ t) (b ∷ s) rest e =
    let h = guarded (eqb c b) (skipped t s) rest e in
    cc (eqb-true c b h.0, skipped_sound t s rest h.1)

skipped_none : (t s : List ℕ) → ((rest : List ℕ) → s ≡ t ++ rest → ⊥) → skipped t s ≡ None
skipped_none t s apart = go (skipped t s) refl
  where
    go : (o : Option (List ℕ)) → skipped t s ≡ o → o ≡ None
    go None e = refl
    go (Some rest) e = absurd (apart rest (skipped_sound t s rest e))

pub skipped_from_cases : (s t : List ℕ) (r : Option (Bor (List ℕ))) → MatchOption r ((rest : List ℕ) → s ≡ t ++ rest → ⊥) (λ x. s ≡ t ++ x.now) → option_map (λ x. x.now) r ≡ skipped t s
skipped_from_cases s t None h = sym (skipped_none t s h)
skipped_from_cases s t (Some x) h = rw h (sym (skipped_front t x.now))
