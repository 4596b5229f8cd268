-- The lines of an input, and that cutting at each line feed finds them. Assumes nothing.
use Rattle.std.proofs.Common.{◌≡◌, ℕ, zero, suc, ◌+◌, ◌-◌, ◌<◌, true, false, cond, eqb, List, [], ◌∷◌, ◌++◌, length, get_or, take, drop, sym, refl, ap, ◌∙◌, subst, ⊎_elim, add-one, arith, Some, None, Option, Bool, position}
use Rattle.std.proofs.lemmas.List.{nil_from_length, take_rest}
use Rattle.std.proofs.lemmas.List.Quantifiers.{position-Some}
use Rattle.std.proofs.lemmas.List.Sums.{fails_before_first}
use Rattle.std.specs.List.{position_or_len}
use Rattle.std.proofs.lemmas.Bool.{eq-eqb, ne_eqb, eqb-true, eqb-false, ltb-false, cond-true, cond-false, cases_eq}
use Rattle.script.specs.Lines.{longer, lines, NoFeed, Lines, none, last, more, Cut}

at_feed_first : (b : ℕ) (input : List ℕ) → b ≡ 10 → lines (b ∷ input) ≡ [] ∷ lines input
unfolding lines
at_feed_first b input e = cond-true _ _ _ (eq-eqb b 10 e)

past_byte : (b : ℕ) (input : List ℕ) → (b ≡ 10 → ⊥) → lines (b ∷ input) ≡ longer b (lines input)
unfolding lines
past_byte b input n = cond-false _ _ _ (ne_eqb b 10 n)

lines_none : lines [] ≡ []
unfolding lines
lines_none = refl

pub lines_of_empty : (input : List ℕ) → length input ≡ 0 → lines input ≡ []
lines_of_empty input e = ap lines (nil_from_length input e) ∙ lines_none

-- up to the first line feed
lines_at_feed : (input : List ℕ) (n : ℕ) → n < length input → get_or input n 0 ≡ 10 → ((k : ℕ) → k < n → get_or input k 0 ≡ 10 → ⊥) → lines input ≡ take n input ∷ lines (drop (suc n) input)
lines_at_feed [] n within found before = absurd (omega arith)
lines_at_feed (b ∷ input) zero within found before = at_feed_first b input found
lines_at_feed (b ∷ input) (suc n) within found before =
    past_byte b input (before 0 (omega arith))
    ∙ ap (longer b) (lines_at_feed input n (omega arith) found (λ k h. before (suc k) (omega arith)))

-- no line feed follows
lines_to_end : (input : List ℕ) → 0 < length input → NoFeed input → lines input ≡ input ∷ []
lines_to_end [] some free = absurd (omega arith)
lines_to_end (b ∷ []) some free = past_byte b [] (free 0 (omega arith)) ∙ ap (longer b) lines_none
lines_to_end (b ∷ c ∷ input) some free =
    past_byte b (c ∷ input) (free 0 (omega arith))
    ∙ ap (longer b) (lines_to_end (c ∷ input) (omega arith) (λ k h. free (suc k) (omega arith)))

free_more : (b : ℕ) (line : List ℕ) → (b ≡ 10 → ⊥) → NoFeed line → NoFeed (b ∷ line)
free_more b line n free zero h = n
free_more b line n free (suc k) h = free k (omega arith)

lines_grow : (b : ℕ) {input : List ℕ} {found : List (List ℕ)} → (b ≡ 10 → ⊥) → Lines input found → Lines (b ∷ input) (longer b found)
lines_grow b n none = last (omega arith) (free_more b [] n (λ k h. absurd (omega arith)))
lines_grow b n (last {line} some free) = last (omega arith) (free_more b line n free)
lines_grow b n (more {line} free rest) = more (free_more b line n free) rest

sound : (input : List ℕ) → Lines input (lines input)
sound [] = subst (Lines []) (sym lines_none) none
sound (b ∷ input) =
    let rest = sound input in
    ⊎_elim
    (λ e. subst (Lines (b ∷ input)) (sym (at_feed_first b input e)) (subst (λ c. Lines (c ∷ input) ([] ∷ lines input)) (sym e) (more (λ k h. absurd (omega arith)) rest)))
    (λ n. subst (Lines (b ∷ input)) (sym (past_byte b input n)) (lines_grow b n rest))
    (cases_eq b 10)

lines_more : (line rest : List ℕ) → NoFeed line → lines (line ++ 10 ∷ rest) ≡ line ∷ lines rest
lines_more [] rest free = at_feed_first 10 rest refl
lines_more (b ∷ line) rest free =
    past_byte b (line ++ 10 ∷ rest) (free 0 (omega arith))
    ∙ ap (longer b) (lines_more line rest (λ k h. free (suc k) (omega arith)))

only : {input : List ℕ} {other : List (List ℕ)} → Lines input other → other ≡ lines input
only none = sym lines_none
only (last {line} some free) = sym (lines_to_end line some free)
only (more {line} {rest} free others) = ap (λ found. line ∷ found) (only others) ∙ sym (lines_more line rest free)

pub cut_lines : (input : List ℕ) → Cut input (lines input)
cut_lines input = record { sound = sound input; only = λ other h. only h }

-- a line and the rest of the input, as the checker reads the code's parts
pub cut_at_feed : (input : List ℕ) (n : ℕ) → Some n ≡ position (λ b. eqb b 10) input → lines input ≡ take n input ∷ lines (take (length input - (n + 1)) (drop (n + 1) input))
cut_at_feed input n e =
    let first = position-Some (λ (b : ℕ). eqb b 10) input n 0 (sym e) in
    rw (take_rest, add-one) (lines_at_feed input n first.0 (eqb-true _ _ first.1) (λ k h. eqb-false _ _ (first.2 k h)))

nowhere : (b : Bool) (n : ℕ) → ◌≡◌ {A = Option ℕ} None (cond b (Some n) None) → b ≡ false
nowhere true n e = cc
nowhere false n e = refl

pub cut_at_end : (input : List ℕ) → 0 < length input → None ≡ position (λ b. eqb b 10) input → lines input ≡ input ∷ lines []
cut_at_end input some e =
    let feed : ℕ → Bool = λ b. eqb b 10 in
    let past = ltb-false (position_or_len feed input) (length input) (nowhere _ (position_or_len feed input) e) in
    lines_to_end input some (λ k h. eqb-false _ _ (fails_before_first feed input k 0 (omega arith)))
    ∙ ap (λ found. input ∷ found) (sym lines_none)

pub ruleset cuts = (lines_of_empty, cut_at_feed, cut_at_end)
