-- What `{:06X}` writes: six hexadecimal digits. Assumes nothing.
use Rattle.std.proofs.Common.{◌≡◌, ℕ, zero, suc, ◌+◌, ◌-◌, ◌*◌, ◌/◌, ◌%◌, ◌^◌, ◌<◌, true, false, List, [], ◌∷◌, ◌++◌, length, replicate, Some, sym, refl, ap, ◌∙◌, ⊎_elim, append_assoc, append-nil, add-one, arith, pow-suc}
use Rattle.std.proofs.lemmas.List.{replicate_more}
use Rattle.std.proofs.lemmas.Bool.{cases_lt, eq-eqb, ne_eqb, cond-true, cond-false}
use Rattle.std.proofs.lemmas.Nat.{field_of, mod-pow-add, mod_low}
use Rattle.std.specs.Fmt.{digit_glyph, digits_onto, digits, padded_integral, format_spec, char_count, digits_output, styled_digits_output}
use Rattle.std.specs.Option.{option_map}
use native.Mathlib.Nat.{sub-zero}
use Rattle.forms.specs.Numerals.{hexadecimal}

abbrev zeros : ℕ → List ℕ
zeros k = replicate k 48

-- a digit alone, after zeros
one_digit : (k n : ℕ) → n < 16 → hexadecimal (suc k) n ≡ zeros k ++ (digit_glyph true n ∷ [])
one_digit zero n h = let e : n % 16 ≡ n = omega arith in ap (λ d. digit_glyph true d ∷ []) e
one_digit (suc k) n h =
    let front : n / 16 ≡ 0 = omega arith in
    let last : n % 16 ≡ n = omega arith in
    let before = ap (hexadecimal (suc k)) front ∙ one_digit k 0 (omega arith) ∙ replicate_more k 48 ∙ ap zeros (add-one k) in
    ap (λ t. t ++ (digit_glyph true (n % 16) ∷ [])) before ∙ ap (λ d. zeros (suc k) ++ (digit_glyph true d ∷ [])) last

-- a digit is put before those after it: the last step, and any other
onto_last : (i n : ℕ) (acc : List ℕ) → n / 16 ≡ 0 → digits_onto (suc i) 16 true n acc ≡ digit_glyph true (n % 16) ∷ acc
onto_last i n acc e = cond-true _ _ _ (eq-eqb (n / 16) 0 e)

onto_more : (i n : ℕ) (acc : List ℕ) → (n / 16 ≡ 0 → ⊥) → digits_onto (suc i) 16 true n acc ≡ digits_onto i 16 true (n / 16) (digit_glyph true (n % 16) ∷ acc)
onto_more i n acc ne = cond-false _ _ _ (ne_eqb (n / 16) 0 ne)

-- how many digits are wanting to k
abbrev short : ℕ → List ℕ → List ℕ → ℕ
short k acc ds = k + length acc - length ds

-- a number of one digit, after as many zeros as are wanting
last_digit : (k n : ℕ) (acc ds : List ℕ) → n < 16 → ds ≡ digit_glyph true (n % 16) ∷ acc → zeros (short (suc k) acc ds) ++ ds ≡ hexadecimal (suc k) n ++ acc
last_digit k n acc ds one e =
    let digit = digit_glyph true (n % 16) in
    let wanting : short (suc k) acc (digit ∷ acc) ≡ k = omega arith in
    let same : n % 16 ≡ n = omega arith in
    ap (λ t. zeros (short (suc k) acc t) ++ t) e
    ∙ ap (λ j. zeros j ++ (digit ∷ acc)) wanting
    ∙ sym (append_assoc (zeros k) (digit ∷ []) acc)
    ∙ ap (λ t. t ++ acc) (ap (λ d. zeros k ++ (digit_glyph true d ∷ [])) same ∙ sym (one_digit k n one))

-- the digits of n, which are at most k + 1, after as many zeros as are wanting
zeros_and_digits : (k i n : ℕ) (acc : List ℕ) → k < i → n < 16 ^ suc k → zeros (short (suc k) acc (digits_onto i 16 true n acc)) ++ digits_onto i 16 true n acc ≡ hexadecimal (suc k) n ++ acc
zeros_and_digits k zero n acc room h = absurd (omega arith)
zeros_and_digits zero (suc i) n acc room h = last_digit zero n acc (digits_onto (suc i) 16 true n acc) (omega arith) (onto_last i n acc (omega arith))
zeros_and_digits (suc k) (suc i) n acc room h =
    ⊎_elim
    (λ one. last_digit (suc k) n acc (digits_onto (suc i) 16 true n acc) one (onto_last i n acc (omega arith)))
    (λ more.
    let digit = digit_glyph true (n % 16) in
    let rest = digits_onto i 16 true (n / 16) (digit ∷ acc) in
    let wanting : short (suc (suc k)) acc rest ≡ short (suc k) (digit ∷ acc) rest = omega arith in
    ap (λ t. zeros (short (suc (suc k)) acc t) ++ t) (onto_more i n acc (λ e. omega arith))
    ∙ ap (λ j. zeros j ++ rest) wanting
    ∙ zeros_and_digits k i (n / 16) (digit ∷ acc) (omega arith) (omega (arith, pow-suc 16 (suc k)))
    ∙ sym (append_assoc (hexadecimal (suc k) (n / 16)) (digit ∷ []) acc))
    (cases_lt n 16)

-- the lowest digits of a number are those of what is left of it below them
low_digits : (k n : ℕ) → hexadecimal k (n % 2 ^ (4 * k)) ≡ hexadecimal k n
low_digits zero n = refl
low_digits (suc k) n =
    let wide : 4 * suc k ≡ 4 * k + 4 = omega arith in
    let front : n % 2 ^ (4 * suc k) / 16 ≡ n / 16 % 2 ^ (4 * k) = rw wide (field_of n (4 * k) 4) in
    let last : n % 2 ^ (4 * suc k) % 16 ≡ n % 16 = rw (wide, mod-pow-add n (4 * k) 4) (mod_low (n / 2 ^ 4 % 2 ^ (4 * k)) 4 (n % 2 ^ 4) (omega arith)) in
    ap (λ m. hexadecimal k m ++ (digit_glyph true (n % 2 ^ (4 * suc k) % 16) ∷ [])) front
    ∙ ap (λ t. t ++ (digit_glyph true (n % 2 ^ (4 * suc k) % 16) ∷ [])) (low_digits k (n / 16))
    ∙ ap (λ d. hexadecimal k (n / 16) ++ (digit_glyph true d ∷ [])) last

digits_are : (n : ℕ) → digits 16 true n ≡ digits_onto 64 16 true n []
unfolding digits
digits_are n = refl

filled : (ds : List ℕ) → padded_integral (format_spec 32 0 4 6 (2 ^ 64 - 1)) false [] ds ≡ zeros (6 - length ds) ++ ds
unfolding padded_integral char_count
filled ds = simp (append-nil, sub-zero)

six_digits : (n : ℕ) → padded_integral (format_spec 32 0 4 6 (2 ^ 64 - 1)) false [] (digits 16 true (n % 2 ^ 24)) ≡ hexadecimal 6 n
six_digits n =
    let m = n % 2 ^ 24 in
    filled (digits 16 true m) ∙ ap (λ ds. zeros (6 - length ds) ++ ds) (digits_are m)
    ∙ zeros_and_digits 5 64 m [] (omega arith) (omega arith) ∙ append-nil (hexadecimal 6 m) ∙ low_digits 6 n

-- what the hole shows
pub six_shown : (d : _) (s : _) (n : ℕ) → digits_output d ≡ Some (digits 16 true (n % 2 ^ 24)) → s ≡ format_spec 32 0 4 6 (2 ^ 64 - 1) → styled_digits_output d s ≡ Some (hexadecimal 6 n)
six_shown d s n e f =
    ap (λ t. styled_digits_output d t) f
    ∙ ap (option_map (padded_integral (format_spec 32 0 4 6 (2 ^ 64 - 1)) false [])) e
    ∙ ap Some (six_digits n)
