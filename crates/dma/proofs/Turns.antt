-- The channel that arbitration picks is the one that its laws ask for.
use Rattle.std.proofs.Common.{◌≡◌, ℕ, zero, suc, ◌+◌, ◌%◌, ◌<◌, ◌≤◌, Bool, true, false, cond, ◌&&◌, [], ◌∷◌, Some, None, Option, unwrap_or, sym, refl, ap, ◌∙◌, subst, inl, inr, arith}
use Rattle.std.proofs.lemmas.Bool.{cond_both, and_parts, and_from, eqb-true, eq-eqb, both_ways, cases_Bool}
use Rattle.std.specs.List.{find}
use Rattle.dma.specs.declared.arbitration.Contest.{Contest}
use Rattle.dma.specs.Arbitration.{contender_at, competes, any_competes, upward, served_at, winner}
use Rattle.dma.specs.ArbitrationLaws.{Waits, priority_of, remembered, distance, GoesOn, Highest, WellMade, Wins, Arbitrates}
use Rattle.dma.proofs.Contests.{one_competes, none_competes, highest_found}

-- the channel at a distance from the one after the remembered
at_its_distance : (last c : ℕ) → last < 6 → c < 6 → ((last + 1) % 6 + distance last c) % 6 ≡ c
at_its_distance last c l h = omega arith

distance_at : (last j : ℕ) → last < 6 → j < 6 → distance last (((last + 1) % 6 + j) % 6) ≡ j
distance_at last j l h = omega arith

module _ (k : Contest) (priority : ℕ) where
  abbrev NoneAmong : ℕ → ℕ → Type 0
  NoneAmong n first = (i : ℕ) → i < n → competes k priority ((first + i) % 6) ≡ false

  -- what the search among n channels from the first one on finds
  record Finds (n first w : ℕ) : Type 0 where
    steps : ℕ
    within : steps < n
    there : w ≡ (first + steps) % 6
    is_one : competes k priority w ≡ true
    before : NoneAmong steps first

  abbrev Found : ℕ → ℕ → Option ℕ → Type 0
  Found n first None = NoneAmong n first
  Found n first (Some w) = Finds n first w

  one_more_in_vain : (n first : ℕ) → first < 6 → competes k priority first ≡ false → NoneAmong n ((first + 1) % 6) → NoneAmong (suc n) first
  one_more_in_vain n first h is rest zero lt = let same : (first + 0) % 6 ≡ first = omega arith in ap (competes k priority) same ∙ is
  one_more_in_vain n first h is rest (suc i) lt =
      let same : (first + suc i) % 6 ≡ ((first + 1) % 6 + i) % 6 = omega arith in
      ap (competes k priority) same ∙ rest i (omega arith)

  one_step_on : (n first : ℕ) → first < 6 → competes k priority first ≡ false → (r : Option ℕ) → Found n ((first + 1) % 6) r → Found (suc n) first r
  one_step_on n first h is None rest = one_more_in_vain n first h is rest
  one_step_on n first h is (Some w) rest = record {
    steps = suc rest.steps;
    within = let lt = rest.within in omega arith;
    there = let at = rest.there in omega arith;
    is_one = rest.is_one;
    before = one_more_in_vain rest.steps first h is rest.before;
  }

  upward_finds : (n first : ℕ) → first < 6 → Found n first (upward k priority n first)
  upward_finds zero first h = λ i lt. absurd (omega arith)
  upward_finds (suc n) first h =
      cond_both (competes k priority first) _ _ (Found (suc n) first)
      (λ is. record { steps = 0; within = omega arith; there = omega arith; is_one = is; before = λ i lt. absurd (omega arith) })
      (λ is. one_step_on n first h is _ (upward_finds n ((first + 1) % 6) (omega arith)))

-- what a priority serves whose remembered channel is `last`
module _ (k : Contest) (priority last : ℕ) (small : last < 6) where
  abbrev goes_on : Bool
  goes_on = competes k priority last && (contender_at k last).continuous

  record Serves (w : ℕ) : Type 0 where
    below_6 : w < 6
    is_one : competes k priority w ≡ true
    again : goes_on ≡ true → w ≡ last
    nearest : goes_on ≡ false → (c : ℕ) → c < 6 → competes k priority c ≡ true → distance last w ≤ distance last c

  abbrev Served : Option ℕ → Type 0
  Served None = (c : ℕ) → c < 6 → competes k priority c ≡ false
  Served (Some w) = Serves w

  -- none of the first channels upward competes, so one that does is as far away
  as_far : (steps c : ℕ) → NoneAmong k priority steps ((last + 1) % 6) → c < 6 → competes k priority c ≡ true → steps ≤ distance last c
  as_far steps c before h is = grind (arith, at_its_distance last c small h, before (distance last c))

  found_is_served : goes_on ≡ false → (r : Option ℕ) → Found k priority 6 ((last + 1) % 6) r → Served r
  found_is_served idle None found = λ c h. sym (ap (competes k priority) (at_its_distance last c small h)) ∙ found (distance last c) (omega arith)
  found_is_served idle (Some w) found = record {
    below_6 = let at = found.there in omega arith;
    is_one = found.is_one;
    again = λ on. absurd (both_ways goes_on idle on);
    nearest = λ _ c h is.
        let here : distance last w ≡ found.steps = ap (distance last) found.there ∙ distance_at last found.steps small found.within in
        let far = as_far found.steps c found.before h is in
        omega arith;
  }

  turn : Served (cond goes_on (Some last) (upward k priority 6 ((last + 1) % 6)))
  turn =
      cond_both goes_on _ _ Served
      (λ on. record { below_6 = small; is_one = (and_parts _ _ on).0; again = λ _. refl; nearest = λ idle. absurd (both_ways goes_on idle on) })
      (λ idle. found_is_served idle _ (upward_finds k priority 6 ((last + 1) % 6) (omega arith)))

-- the highest of four that is in, or else the lowest, is what is picked by asking from the highest downward
picked : {A : Type 0} (is_in : ℕ → Bool) (pick : ℕ → A) (top : ℕ) → top < 4 → ((q : ℕ) → top < q → q < 4 → is_in q ≡ false) → (0 < top → is_in top ≡ true) → cond (is_in 3) (pick 3) (cond (is_in 2) (pick 2) (cond (is_in 1) (pick 1) (pick 0))) ≡ pick top
picked is_in pick top h above some = grind (arith, above 3, above 2, above 1, some)

module _ (k : Contest) where
  idle_priority : (priority c : ℕ) → any_competes k priority ≡ false → c < 6 → competes k priority c ≡ false
  idle_priority priority c idle h = grind (arith, one_competes k priority c h)

  pub highest_serves_the_winner : (top : ℕ) → Highest k top → winner k ≡ served_at k top
  highest_serves_the_winner top high = picked (any_competes k) (served_at k) top high.a_priority high.idle_above high.else_lowest

  waiting_competes : (c : ℕ) → Waits k c → competes k (priority_of k c) c ≡ true
  waiting_competes c waits = and_from _ _ waits.words_due (eq-eqb _ _ refl)

module _ (k : Contest) (well : WellMade k) (top : ℕ) (is : Highest k top) where
  small : remembered k top < 6
  small = well.six_channels top is.a_priority

  waiting_is_not_above : (c : ℕ) → Waits k c → priority_of k c ≤ top
  waiting_is_not_above c waits =
      grind (arith, waiting_competes k c waits, waits.a_channel, idle_priority k (priority_of k c) c, is.idle_above (priority_of k c), well.four_priorities c waits.a_channel)

  nobody_waits : ((c : ℕ) → c < 6 → competes k top c ≡ false) → (c : ℕ) → Waits k c → ⊥
  nobody_waits none c waits =
      grind (arith, none c waits.a_channel, waiting_competes k c waits, waiting_is_not_above c waits, none_competes k top none, is.else_lowest)

  on_if_goes_on : GoesOn k top → goes_on k top (remembered k top) small ≡ true
  on_if_goes_on on = and_from _ _ (and_from _ _ on.waits.words_due (eq-eqb _ _ on.of_this_priority)) on.is_continuous

  off_unless_goes_on : (GoesOn k top → ⊥) → goes_on k top (remembered k top) small ≡ false
  off_unless_goes_on stops =
      elim (cases_Bool (goes_on k top (remembered k top) small)) [
        | inl on ↦
            let both = and_parts _ _ on in
            let one = and_parts _ _ both.0 in
            absurd (stops (record { waits = record { a_channel = small; words_due = one.0 }; of_this_priority = eqb-true _ _ one.1; is_continuous = both.1 }))
        | inr off ↦ off
      ]

  served_wins : (w : ℕ) → Serves k top (remembered k top) small w → Wins k w
  served_wins w served =
      let one = and_parts _ _ served.is_one in
      let here : priority_of k w ≡ top = eqb-true _ _ one.1 in
      record {
        has_words_due = record { a_channel = served.below_6; words_due = one.0 };
        no_higher_priority_waits = λ c waits. let not-above = waiting_is_not_above c waits in omega arith;
        the_remembered_channel_goes_on = subst (λ (p : ℕ). GoesOn k p → w ≡ remembered k p) (sym here) (λ on. served.again (on_if_goes_on on));
        equals_in_turn = subst (λ (p : ℕ). (GoesOn k p → ⊥) → (c : ℕ) → Waits k c → priority_of k c ≡ p → distance (remembered k p) w ≤ distance (remembered k p) c) (sym here) (λ stops c waits equal. served.nearest (off_unless_goes_on stops) c waits.a_channel (and_from _ _ waits.words_due (eq-eqb _ _ equal)));
      }

  served_arbitrates : (r : Option ℕ) → Served k top (remembered k top) small r → Arbitrates k r
  served_arbitrates None none = record {
    somebody_is_served = λ c waits. absurd (nobody_waits none c waits);
    nobody_is_served_in_vain = λ _. refl;
    rightly = λ w e. let z : ◌≡◌ {A = ℕ} 0 1 = cc in absurd (omega arith);
  }
  served_arbitrates (Some w) served = record {
    somebody_is_served = λ _ _. refl;
    nobody_is_served_in_vain = λ none. absurd (none w (served_wins w served).has_words_due);
    rightly = λ v e. let same : w ≡ v = cc in subst (Wins k) same (served_wins w served);
  }

  served_lawfully : Arbitrates k (served_at k top)
  served_lawfully = served_arbitrates _ (turn k top (remembered k top) small)

pub winner_arbitrates : (k : Contest) → WellMade k → Arbitrates k (winner k)
winner_arbitrates k well =
    let top = unwrap_or (find (any_competes k) (3 ∷ 2 ∷ 1 ∷ [])) 0 in
    subst (Arbitrates k) (sym (highest_serves_the_winner k top (highest_found k))) (served_lawfully k well top (highest_found k))
