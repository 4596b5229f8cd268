-- What is read at the front of a line: a fixed text, a word, a number. Each reader gives what it found and the rest of the line.
use Rattle.std.specs.Prelude.{ℕ, zero, suc, ◌+◌, ◌-◌, ◌*◌, Bool, if◌then◌else◌, ◌&&◌, List, [], ◌∷◌, length, take, drop, Some, None, codes, Option, ◌==◌, nat_le, nat_lt}
use Rattle.std.specs.Borrow.{Bor}

-- what a reader found, with the bytes of the rest in place of the reference to them
abbrev pub seen : {A : Type 0} → Option (A × Bor (List ℕ)) → Option (A × List ℕ)
seen None = None
seen (Some p) = Some (p.0, p.1.now)

-- as `?`: go on with what is there, and stop where nothing is
abbrev pub bind : {A B : Type 0} → Option A → (A → Option B) → Option B
bind None k = None
bind (Some x) k = k x

-- the rest of the line after the text, if the line begins with the text
unfoldable pub skipped : List ℕ → List ℕ → Option (List ℕ)
skipped [] s = Some s
skipped (t ∷ ts) [] = None
skipped (t ∷ ts) (c ∷ cs) = if t == c then skipped ts cs else None

-- two readings, one after the other; `make` says what they stand for together
abbrev pub pair_of : {A B C : Type 0} → (A → B → C) → (List ℕ → Option (A × List ℕ)) → (List ℕ → Option (B × List ℕ)) → List ℕ → Option (C × List ℕ)
pair_of make f g s = bind (f s) (λ a. bind (g a.1) (λ b. Some (make a.0 b.0, b.1)))

-- a reading, with a text after it; `make` says what it stands for
abbrev pub closed_of : {A C : Type 0} → (A → C) → (List ℕ → Option (A × List ℕ)) → List ℕ → List ℕ → Option (C × List ℕ)
closed_of make f text s = bind (f s) (λ a. bind (skipped text a.1) (λ rest. Some (make a.0, rest)))

-- a text with what follows it
pub record Way (A : Type 0) : Type 0 where
  pub text : List ℕ
  pub next : List ℕ → Option (A × List ℕ)

-- what follows the text, if it was there; else another reading
abbrev pub either : {B : Type 0} → Option (List ℕ) → (List ℕ → Option B) → Option B → Option B
either None k other = other
either (Some rest) k other = k rest

-- the first of the ways whose text stands at the front
abbrev pub first_way : {A : Type 0} → List (Way A) → List ℕ → Option (A × List ℕ)
first_way [] s = None
first_way (way ∷ ways) s = either (skipped way.text s) way.next (first_way ways s)

-- from low to high
abbrev pub between : ℕ → ℕ → ℕ → Bool
between low high c = nat_le low c && nat_le c high

-- the value of a decimal digit
abbrev pub decimal_digit_of : ℕ → Option ℕ
decimal_digit_of c = if between 48 57 c then Some (c - 48) else None

-- the value of a hexadecimal digit: 0 to 9 or A to F
abbrev pub hex_digit_of : ℕ → Option ℕ
hex_digit_of c = if between 48 57 c then Some (c - 48) else (if between 65 70 c then Some (c - 55) else None)

-- the value of hexadecimal digits after those that made v
abbrev pub hex_value : ℕ → List ℕ → Option ℕ
hex_value v [] = Some v
hex_value v (c ∷ s) = bind (hex_digit_of c) (λ d. hex_value (v * 16 + d) s)

-- six hexadecimal digits
abbrev pub word_of : List ℕ → Option (ℕ × List ℕ)
word_of s = if nat_lt (length s) 6 then None else bind (hex_value 0 (take 6 s)) (λ w. Some (w, drop 6 s))

-- a word at the end of its list: after a space, and before the parenthesis that closes the list
abbrev pub last_word_of : List ℕ → Option (ℕ × List ℕ)
last_word_of s = bind (skipped (codes " ") s) (closed_of (λ (w : ℕ). w) word_of (codes ")"))

-- one more decimal digit, where the number stays below 256
abbrev pub with_digit : ℕ → ℕ → Option ℕ
with_digit v d = if nat_lt (v * 10 + d) 256 then Some (v * 10 + d) else None

-- decimal digits after those that made v, and the parenthesis that closes them
abbrev pub more_digits_of : ℕ → List ℕ → Option (ℕ × List ℕ)
more_digits_of v [] = None
more_digits_of v (c ∷ s) = if c == 41 then Some (v, s) else bind (decimal_digit_of c) (λ d. bind (with_digit v d) (λ w. more_digits_of w s))

-- what follows the first digit of a number: after 0 only the parenthesis, so that no number has a leading zero
abbrev pub number_from : ℕ → List ℕ → Option (ℕ × List ℕ)
number_from zero s = bind (skipped (codes ")") s) (λ t. Some (0, t))
number_from (suc v) s = more_digits_of (suc v) s

-- a number below 256 without a leading zero, and the parenthesis that closes it
abbrev pub number_of : List ℕ → Option (ℕ × List ℕ)
number_of [] = None
number_of (c ∷ s) = bind (decimal_digit_of c) (λ d. number_from d s)
