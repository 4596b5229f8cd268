-- Numbers: read exactly where their decimal digits stand, without a leading zero.
use Rattle.std.proofs.Common.{◌≡◌, ℕ, zero, suc, ◌+◌, ◌*◌, ◌/◌, ◌%◌, ◌<◌, ◌≤◌, false, eqb, ltb, List, [], ◌∷◌, ◌++◌, Some, codes, decimal, sym, ap, ◌∙◌, ⊎_elim, append_assoc, arith}
use Rattle.std.proofs.lemmas.Option.{none-some, some_pair_parts}
use Rattle.std.proofs.lemmas.Fmt.{decimal_digit, decimal_step, decimal_by_steps}
use Rattle.std.proofs.lemmas.Bool.{eqb-true, ne_eqb, ltb-true, lt-ltb}
use Rattle.std.proofs.lemmas.Bool.Decides.{nat_tests}
use Rattle.forms.specs.Scanning.{bind, skipped, decimal_digit_of, with_digit, more_digits_of, number_from, number_of}
use Rattle.forms.specs.Spelling.{NumberFits}
use Rattle.forms.proofs.Texts.{bound, guarded, either_arm, skipped_sound}

digit_sound : (c d : ℕ) → decimal_digit_of c ≡ Some d → (d < 10) × (c ≡ 48 + d)
digit_sound c d e = grind (arith, nat_tests)

digit_complete : (d : ℕ) → d < 10 → decimal_digit_of (48 + d) ≡ Some d
digit_complete d h = grind (arith, nat_tests)

-- a digit more at the end of v
one_digit_more : (v d : ℕ) → 0 < v → v * 10 + d < 256 → d < 10 → decimal (v * 10 + d) ≡ decimal v ++ ((48 + d) ∷ [])
one_digit_more v d some fits h =
    let front : (v * 10 + d) / 10 ≡ v = omega arith in
    let last : (v * 10 + d) % 10 ≡ d = omega arith in
    decimal_step (v * 10 + d) (omega arith) (omega arith) ∙ rw (front, last)

-- digits after those of v make up the digits of the number that was read
more_sound : (s : List ℕ) (v n : ℕ) (rest : List ℕ) → 0 < v → v < 256 → more_digits_of v s ≡ Some (n, rest) → (n < 256) × (decimal v ++ s ≡ decimal n ++ (41 ∷ rest))
more_sound [] v n rest some fits e = absurd (none-some (n, rest) e)
more_sound (c ∷ s) v n rest some fits e =
    ⊎_elim
    (λ closed.
    let is = eqb-true c 41 closed.0 in
    let same = some_pair_parts v n s rest closed.1 in
    (omega (arith, same.0), cc (same.0, same.1)))
    (λ going.
    let digit = bound (decimal_digit_of c) (λ d. bind (with_digit v d) (λ w. more_digits_of w s)) (n, rest) going.1 in
    let d = digit.0 in
    let told = digit_sound c d digit.1 in
    let more = bound (with_digit v d) (λ w. more_digits_of w s) (n, rest) digit.2 in
    let kept = guarded (ltb (v * 10 + d) 256) (Some (v * 10 + d)) more.0 more.1 in
    let below = ltb-true (v * 10 + d) 256 kept.0 in
    let same : v * 10 + d ≡ more.0 = cc kept.1 in
    let next = more_sound s (v * 10 + d) n rest (omega arith) below (cc more.2) in
    let here = one_digit_more v d some below told.0 in
    (next.0, sym (append_assoc (decimal v) (c ∷ []) s) ∙ rw (told.1, ← here) next.1))
    (either_arm (eqb c 41) (Some (v, s)) (bind (decimal_digit_of c) (λ d. bind (with_digit v d) (λ w. more_digits_of w s))) (Some (n, rest)) e)

number_from_sound : (d : ℕ) (s : List ℕ) (n : ℕ) (rest : List ℕ) → d < 10 → number_from d s ≡ Some (n, rest) → (n < 256) × ((48 + d) ∷ s ≡ decimal n ++ (41 ∷ rest))
number_from_sound zero s n rest h e =
    let closed = bound (skipped (codes ")") s) (λ t. Some (0, t)) (n, rest) e in
    let same = some_pair_parts 0 n closed.0 rest closed.2 in
    let left = skipped_sound (codes ")") s closed.0 closed.1 in
    let spelled : decimal n ≡ 48 ∷ [] = ap decimal (sym same.0) ∙ decimal_digit 0 h in
    (omega (arith, same.0), rw spelled (ap (λ t. 48 ∷ t) (left ∙ ap (λ t. 41 ∷ t) same.1)))
number_from_sound (suc v) s n rest h e =
    let told = more_sound s (suc v) n rest (omega arith) (omega arith) e in
    (told.0, rw (decimal_digit (suc v) h) at told.1)

pub number_sound : (s rest : List ℕ) (n : ℕ) → number_of s ≡ Some (n, rest) → NumberFits n × (s ≡ decimal n ++ (41 ∷ rest))
number_sound [] rest n e = absurd (none-some (n, rest) e)
number_sound (c ∷ s) rest n e =
    let digit = bound (decimal_digit_of c) (λ d. number_from d s) (n, rest) e in
    let told = digit_sound c digit.0 digit.1 in
    let from = number_from_sound digit.0 s n rest told.0 digit.2 in
    (from.0, rw told.1 from.1)

-- the digits ds bring the reader to n
abbrev Reaches : ℕ → List ℕ → Type 0
Reaches n ds = 0 < n → n < 256 → (s : List ℕ) → number_of (ds ++ s) ≡ more_digits_of n s

reaches_digit : (n : ℕ) → n < 10 → Reaches n ((48 + n) ∷ [])
reaches_digit zero h some fits s = absurd (omega arith)
reaches_digit (suc n) h some fits s = rw (digit_complete (suc n) h)

reaches_more : (n : ℕ) (ds : List ℕ) → 10 ≤ n → Reaches (n / 10) ds → Reaches n (ds ++ ((48 + n % 10) ∷ []))
reaches_more n ds large before some fits s =
    let other : eqb (48 + n % 10) 41 ≡ false = ne_eqb (48 + n % 10) 41 (λ e. omega arith) in
    let last : n % 10 < 10 = omega arith in
    let whole : n / 10 * 10 + n % 10 ≡ n = omega arith in
    rw (append_assoc ds ((48 + n % 10) ∷ []) s)
    (before (omega arith) (omega arith) ((48 + n % 10) ∷ s) ∙ rw (other, digit_complete (n % 10) last, whole, lt-ltb n 256 fits))

pub number_complete : (n : ℕ) (rest : List ℕ) → NumberFits n → number_of (decimal n ++ (41 ∷ rest)) ≡ Some (n, rest)
unfolding skipped
number_complete zero rest h = rw (decimal_digit 0 (omega arith))
number_complete (suc n) rest h = decimal_by_steps Reaches reaches_digit reaches_more (suc n) (omega arith) (omega arith) h (41 ∷ rest)
