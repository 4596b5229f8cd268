-- Words: the steps of reading hexadecimal digits.
use Rattle.std.proofs.Common.{◌≡◌, ℕ, zero, suc, ◌+◌, ◌*◌, ◌/◌, ◌%◌, ◌^◌, ◌<◌, ◌≤◌, true, false, ltb, List, [], ◌∷◌, ◌++◌, length, take, drop, Some, sym, refl, ap, ◌∙◌, append_assoc, append-nil, pow-suc, arith, take-append-drop, length-take-le}
use Rattle.std.proofs.lemmas.Option.{some_pair_parts}
use native.Mathlib.Nat.{pow-le-pow_right}
use Rattle.std.proofs.lemmas.Bool.Decides.{nat_tests}
use Rattle.std.proofs.lemmas.Bool.{ltb-false, le-ltb}
use Rattle.std.specs.Fmt.{digit_glyph}
use Rattle.forms.specs.Numerals.{hexadecimal}
use Rattle.forms.specs.Spelling.{spelled_word, WordFits}
use Rattle.forms.specs.Scanning.{bind, hex_digit_of, hex_value, word_of}
use Rattle.forms.proofs.Texts.{bound, guarded_not}

-- fewer than six digits leave room for one more
pub room : (i : ℕ) → i < 6 → 16 ^ i ≤ 2 ^ 20
room i h =
    let few : i ≤ 5 = omega arith in
    let below : 16 ^ i ≤ 16 ^ 5 = pow-le-pow_right (omega arith) few in
    omega arith

-- a digit more makes a number of i digits one of i + 1
pub one_digit_more : (w d i : ℕ) → w < 16 ^ i → d < 16 → w * 16 + d < 16 ^ suc i
one_digit_more w d i h e = rw pow-suc (omega arith)

hex_digit_sound : (c d : ℕ) → hex_digit_of c ≡ Some d → (d < 16) × (c ≡ digit_glyph true d)
hex_digit_sound c d e = grind (arith, nat_tests)

hex_digit_complete : (d : ℕ) → d < 16 → hex_digit_of (digit_glyph true d) ≡ Some d
hex_digit_complete d h = grind (arith, nat_tests)

-- digits after j digits that spell v make up the digits that spell the value
hex_value_sound : (ds : List ℕ) (j width v n : ℕ) → width ≡ length ds + j → v < 16 ^ j → hex_value v ds ≡ Some n → (n < 16 ^ width) × (hexadecimal width n ≡ hexadecimal j v ++ ds)
hex_value_sound [] j width v n wide fits e =
    let same : v ≡ n = cc in
    let long : width ≡ j = omega arith in
    rw (long, ← same) (fits, sym (append-nil (hexadecimal j v)))
hex_value_sound (c ∷ ds) j width v n wide fits e =
    let one = bound (hex_digit_of c) (λ d. hex_value (v * 16 + d) ds) n e in
    let d = one.0 in
    let digit = hex_digit_sound c d one.1 in
    let rest = hex_value_sound ds (suc j) width (v * 16 + d) n (omega arith) (one_digit_more v d j fits digit.0) one.2 in
    let front : (v * 16 + d) / 16 ≡ v = omega (arith, digit.0) in
    let last : (v * 16 + d) % 16 ≡ d = omega (arith, digit.0) in
    (rest.0, rest.1 ∙ rw (front, last, ← digit.1) (append_assoc (hexadecimal j v) (c ∷ []) ds))

-- the digits that spell n, and what follows them
hex_value_complete : (width n : ℕ) (s : List ℕ) → n < 16 ^ width → hex_value 0 (hexadecimal width n ++ s) ≡ hex_value n s
hex_value_complete zero n s h = let none : n ≡ 0 = omega arith in rw none refl
hex_value_complete (suc width) n s h =
    let last : n % 16 < 16 = omega arith in
    let whole : n / 16 * 16 + n % 16 ≡ n = omega arith in
    let small : n / 16 < 16 ^ width = omega (arith, pow-suc 16 width) in
    rw (append_assoc (hexadecimal width (n / 16)) (digit_glyph true (n % 16) ∷ []) s)
    (hex_value_complete width (n / 16) (digit_glyph true (n % 16) ∷ s) small ∙ rw (hex_digit_complete (n % 16) last, whole))

pub word_sound : (s rest : List ℕ) (n : ℕ) → word_of s ≡ Some (n, rest) → WordFits n × (s ≡ spelled_word n ++ rest)
word_sound s rest n e =
    let six = guarded_not (ltb (length s) 6) (bind (hex_value 0 (take 6 s)) (λ w. Some (w, drop 6 s))) (n, rest) e in
    let read = bound (hex_value 0 (take 6 s)) (λ w. Some (w, drop 6 s)) (n, rest) six.1 in
    let same = some_pair_parts read.0 n (drop 6 s) rest read.2 in
    let long : 6 ≤ length s = ltb-false (length s) 6 six.0 in
    let wide : 6 ≡ length (take 6 s) + 0 = omega (arith, length-take-le 6 s long) in
    let told = hex_value_sound (take 6 s) 0 6 0 n wide (omega arith) (cc (read.1, same.0)) in
    (told.0, sym (take-append-drop 6 s) ∙ cc (told.1, same.1))

pub word_complete : (n : ℕ) (rest : List ℕ) → WordFits n → word_of (spelled_word n ++ rest) ≡ Some (n, rest)
word_complete n rest h =
    let long : ltb (length (spelled_word n ++ rest)) 6 ≡ false = le-ltb (length (spelled_word n ++ rest)) 6 (omega arith) in
    rw long (ap (λ o. bind o (λ (w : ℕ). Some (w, rest))) (hex_value_complete 6 n [] h))
