-- What holds of every entry of a table, and stays so when one entry is replaced.
use denote.Param.Members.{Mut, Called}
use Rattle.std.proofs.Common.{◌≡◌, ℕ, zero, suc, ◌+◌, ◌<◌, ◌≤◌, List, [], ◌∷◌, map, length, get_or, set, replicate, sym, refl, ap, ◌∙◌, subst, ⊎_elim, arith}
use Rattle.std.proofs.lemmas.List.{get_or-replicate, get_or_past, length-replicate, get_or-set_same, get_or-set_other, set_past, length-map, get_or-map}
use Rattle.std.proofs.lemmas.Bool.{cases_eq, cases_lt}
use Rattle.std.specs.Array.{MapsFrom, IsMapOf}
use Rattle.dma.specs.State.{channels}

module _ {T : Type 0} (P : T → Type 0) where
  -- a table of one value, read with a default
  pub all_of_replicate : (n : ℕ) (x d : T) → P x → P d → (k : ℕ) → P (get_or (replicate n x) k d)
  all_of_replicate n x d px pd k =
      ⊎_elim
      (λ h. subst P (sym (get_or-replicate n k x d h)) px)
      (λ h. subst P (sym (get_or_past (replicate n x) k d (subst (λ m. m ≤ k) (sym (length-replicate n x)) h))) pd)
      (cases_lt k n)

  pub all_of_set : (xs : List T) (i : ℕ) (x d : T) → ((k : ℕ) → P (get_or xs k d)) → P x → (k : ℕ) → P (get_or (set xs i x) k d)
  all_of_set xs i x d all px k =
      ⊎_elim
      (λ e. ⊎_elim
      (λ h. subst P (sym (ap (λ j. get_or (set xs i x) j d) e ∙ get_or-set_same xs i x d h)) px)
      (λ h. subst P (sym (ap (λ l. get_or l k d) (set_past xs i x h))) (all k))
      (cases_lt i (length xs)))
      (λ ne. subst P (sym (get_or-set_other xs i k x d ne)) (all k))
      (cases_eq k i)

  pub all_of_map : (f : T → T) (xs : List T) (d : T) → ((k : ℕ) → P (get_or xs k d)) → ((x : T) → P x → P (f x)) → (k : ℕ) → P (get_or (map f xs) k d)
  all_of_map f xs d all keeps k =
      ⊎_elim
      (λ h. subst P (sym (get_or-map f xs k d d h)) (keeps _ (all k)))
      (λ h.
      let past : length (map f xs) ≤ k = simp length-map h in
      subst P (sym (get_or_past (map f xs) k d past)) (subst P (get_or_past xs k d h) (all k)))
      (cases_lt k (length xs))

-- a table of six, channel by channel
pub by_channel : {T : Type 0} (xs : List T) (d : T) → length xs ≡ 6 → xs ≡ map (λ c. get_or xs c d) channels
by_channel [] d six = absurd (omega arith)
by_channel (a ∷ []) d six = absurd (omega arith)
by_channel (a ∷ b ∷ []) d six = absurd (omega arith)
by_channel (a ∷ b ∷ c ∷ []) d six = absurd (omega arith)
by_channel (a ∷ b ∷ c ∷ e ∷ []) d six = absurd (omega arith)
by_channel (a ∷ b ∷ c ∷ e ∷ f ∷ []) d six = absurd (omega arith)
by_channel (a ∷ b ∷ c ∷ e ∷ f ∷ g ∷ []) d six = refl
by_channel (a ∷ b ∷ c ∷ e ∷ f ∷ g ∷ h ∷ more) d six = absurd (omega arith)

-- a list that is f of another, place by place
mapped : {A B : Type 0} (f : A → B) (xs : List A) (ys : List B) → length ys ≡ length xs → ((i : ℕ) (d : A) (e : B) → i < length xs → get_or ys i e ≡ f (get_or xs i d)) → ys ≡ map f xs
mapped f [] [] same each = refl
mapped f [] (y ∷ ys) same each = absurd (omega arith)
mapped f (x ∷ xs) [] same each = absurd (omega arith)
mapped f (x ∷ xs) (y ∷ ys) same each = let head = each 0 x y (omega arith) in let tail = mapped f xs ys (omega arith) (λ i d e h. each (suc i) d e (omega arith)) in (λ i. head i ∷ tail i)

-- what `map` of an array gives, where each call leaves the closure as it was and gives f of its element
module _ {F A B : Type 0} (g : Mut F (A × Unit {0}) B) (c : F) (f : A → B) where
  abbrev Gives : Type 0
  Gives = (x : A) (y : B) (q : F) → Called g c (x, tt) y q → (q ≡ c) × (y ≡ f x)

  given_at : Gives → (xs : List A) (ys : List B) (n i : ℕ) → MapsFrom g c xs ys i n → (j : ℕ) (d : A) (e : B) → i ≤ j → j < i + n → get_or ys j e ≡ f (get_or xs j d)
  given_at gives xs ys zero i runs j d e from to = absurd (omega arith)
  given_at gives xs ys (suc n) i (q, x, y, at_x, at_y, ran, rest) j d e from to =
      ⊎_elim
      (λ later. given_at gives xs ys n (i + 1) (subst (λ p. MapsFrom g p xs ys (i + 1) n) (gives x y q ran).0 rest) j d e (omega arith) (omega arith))
      (λ here.
      let same : j ≡ i = omega arith in
      ap (λ m. get_or ys m e) same ∙ at_y.1 e ∙ (gives x y q ran).1 ∙ ap f (sym (ap (λ m. get_or xs m d) same ∙ at_x.1 d)))
      (cases_lt i j)

pub mapped_by : {F A B : Type 0} {g : Mut F (A × Unit {0}) B} {c : F} {xs : List A} {ys : List B} {n : ℕ} (f : A → B) → IsMapOf g c xs ys n → length xs ≡ n → ((x : A) (y : B) (q : F) → Called g c (x, tt) y q → (q ≡ c) × (y ≡ f x)) → ys ≡ map f xs
mapped_by {g = g} {c} {xs} {ys} {n} f runs long gives = mapped f xs ys (runs.long ∙ sym long) (λ i d e h. given_at g c f gives xs ys n 0 runs.each i d e (omega arith) (omega arith))
