-- A mask is its channels shifted together, from the last one down.
use Rattle.std.proofs.Common.{◌≡◌, ℕ, ◌+◌, ◌*◌, ◌%◌, ◌^◌, ◌<◌, ◌≤◌, Bool, true, false, cond, List, [], ◌∷◌, reverse, length, slice_index_or, ap, ◌∙◌, arith}
use Rattle.std.specs.Int.Bits.{bit_or, or_zero_r}
use Rattle.std.specs.List.{fold}
use Rattle.std.proofs.lemmas.Nat.{or_shifted}
use Rattle.dma.specs.Raises.{bit, mask_of}
use Rattle.dma.proofs.Tables.{by_channel}

abbrev pub shifted : ℕ → Bool → ℕ
shifted mask is_in = bit_or (mask * 2 % 256) (cond is_in 1 0)

-- one more channel at the low end
doubled : (mask : ℕ) (is_in : Bool) → mask < 128 → (shifted mask is_in ≡ 2 * mask + bit is_in 0) × (bit is_in 0 ≤ 1)
doubled mask true fits =
    let even : mask * 2 % 256 ≡ mask * 2 ^ 1 = omega arith in
    (ap (λ n. bit_or n 1) even ∙ or_shifted mask 1 1 (omega arith) ∙ omega arith, omega arith)
doubled mask false fits = (or_zero_r (mask * 2 % 256) ∙ omega arith, omega arith)

worth : (is_in : Bool) (c : ℕ) → bit is_in c ≡ bit is_in 0 * 2 ^ c
worth true c = omega arith
worth false c = omega arith

-- each bit in its place
six_shifted : (a b c d e f : Bool) → fold shifted 0 (f ∷ e ∷ d ∷ c ∷ b ∷ a ∷ []) ≡ 0 + bit a 0 + bit b 1 + bit c 2 + bit d 3 + bit e 4 + bit f 5
six_shifted a b c d e f =
    let f5 = doubled 0 f (omega arith) in
    let e4 = doubled (shifted 0 f) e (omega arith) in
    let d3 = doubled (shifted (shifted 0 f) e) d (omega arith) in
    let c2 = doubled (shifted (shifted (shifted 0 f) e) d) c (omega arith) in
    let b1 = doubled (shifted (shifted (shifted (shifted 0 f) e) d) c) b (omega arith) in
    let a0 = doubled (shifted (shifted (shifted (shifted (shifted 0 f) e) d) c) b) a (omega arith) in
    omega (arith, worth b 1, worth c 2, worth d 3, worth e 4, worth f 5)

pub shifted_together : (is_in : List Bool) → length is_in ≡ 6 → fold shifted 0 (reverse is_in) ≡ mask_of (λ c. slice_index_or is_in c false)
shifted_together is_in six =
    let at : ℕ → Bool = λ c. slice_index_or is_in c false in
    ap (λ xs. fold shifted 0 (reverse xs)) (by_channel is_in false six) ∙ six_shifted (at 0) (at 1) (at 2) (at 3) (at 4) (at 5)
