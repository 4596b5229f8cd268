-- What arbitration promises of the channel that it picks.
use Rattle.std.specs.Prelude.{◌≡◌, ℕ, ◌+◌, ◌-◌, ◌%◌, ◌<◌, ◌≤◌, true, false, is_some, Some, None, Option, slice_index}
use Rattle.dma.specs.declared.arbitration.Contest.{Contest}
use Rattle.dma.specs.Arbitration.{contender_at, any_competes}

-- a channel of the six has words due
pub record Waits (k : Contest) (c : ℕ) : Type 0 where
  pub a_channel : c < 6
  pub words_due : (contender_at k c).due ≡ true

abbrev pub priority_of : Contest → ℕ → ℕ
priority_of k c = (contender_at k c).priority

-- the channel that a priority served last
abbrev pub remembered : Contest → ℕ → ℕ
remembered k priority = slice_index k.last priority

-- how many channels upward lie between the remembered channel and c, 0 following 5: none for the next one, five for the remembered one itself
abbrev pub distance : ℕ → ℕ → ℕ
distance last c = (c + 5 - last) % 6

-- the remembered channel of a priority has words due at this priority, and its DCON bit is 1
pub record GoesOn (k : Contest) (priority : ℕ) : Type 0 where
  pub waits : Waits k (remembered k priority)
  pub of_this_priority : priority_of k (remembered k priority) ≡ priority
  pub is_continuous : (contender_at k (remembered k priority)).continuous ≡ true

-- the highest priority at which a channel competes, or 0 if there is none
pub record Highest (k : Contest) (priority : ℕ) : Type 0 where
  pub a_priority : priority < 4
  pub idle_above : (q : ℕ) → priority < q → q < 4 → any_competes k q ≡ false
  pub else_lowest : 0 < priority → any_competes k priority ≡ true

-- what the table of a controller gives: priorities 0 to 3, each remembering one of the six channels
pub record WellMade (k : Contest) : Type 0 where
  pub four_priorities : (c : ℕ) → c < 6 → priority_of k c < 4
  pub six_channels : (priority : ℕ) → priority < 4 → remembered k priority < 6

-- what holds of the channel w that is served
pub record Wins (k : Contest) (w : ℕ) : Type 0 where
  pub has_words_due : Waits k w
  pub no_higher_priority_waits : (c : ℕ) → Waits k c → priority_of k c ≤ priority_of k w
  pub the_remembered_channel_goes_on : GoesOn k (priority_of k w) → w ≡ remembered k (priority_of k w)
  -- else no channel of its priority with words due lies between the remembered one and w
  pub equals_in_turn : (GoesOn k (priority_of k w) → ⊥) → (c : ℕ) → Waits k c → priority_of k c ≡ priority_of k w → distance (remembered k (priority_of k w)) w ≤ distance (remembered k (priority_of k w)) c

-- a slot serves a channel exactly if one has words due, and rightly
pub record Arbitrates (k : Contest) (r : Option ℕ) : Type 0 where
  pub somebody_is_served : (c : ℕ) → Waits k c → is_some r ≡ true
  pub nobody_is_served_in_vain : ((c : ℕ) → Waits k c → ⊥) → r ≡ None
  pub rightly : (w : ℕ) → r ≡ Some w → Wins k w
