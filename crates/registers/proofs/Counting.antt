-- Words left and words moved, over the fields of a preload and of a count.
use Rattle.std.proofs.Common.{◌≡◌, ℕ, zero, suc, ◌+◌, ◌-◌, ◌*◌, ◌/◌, ◌%◌, ◌<◌, ◌≤◌, true, false, eqb, ◌↔◌, sym, ap, ◌∙◌, mul-le-mul, arith}
use Rattle.std.proofs.lemmas.Nat.{div-mul-add, mod-mul-add}
use Rattle.std.proofs.lemmas.Bool.Decides.{nat_tests}
use Rattle.std.proofs.lemmas.Nat.{same_from_place}
use Rattle.registers.specs.declared.counter.Fields.{Fields}
use Rattle.registers.specs.Counter.{fields, lines, line_length, block_length, words_left, position, Within, ends_block, stepped}

pub same_fields : (f g : Fields) → f.high ≡ g.high → f.middle ≡ g.middle → f.low ≡ g.low → f ≡ g
same_fields f g high middle low = grind arith

pub within_itself : (p : Fields) → Within p p
within_itself p = omega arith

-- more room and a larger count leave no fewer words
pub words_left_grow : (p q f g : Fields) → Within q p → Within g f → words_left p f ≤ words_left q g
words_left_grow p q f g room grown =
    let planes : f.high * (p.middle + 1) ≤ g.high * (q.middle + 1) = mul-le-mul grown.high (omega arith) in
    let before : (f.high * (p.middle + 1) + f.middle) * (p.low + 1) ≤ (g.high * (q.middle + 1) + g.middle) * (q.low + 1) =
    mul-le-mul (omega arith) (omega arith) in
    omega arith

pub all_words_left_at_preload : (p : Fields) → words_left p p ≡ block_length p
all_words_left_at_preload p = omega arith

pub some_word_left : (p f : Fields) → 0 < words_left p f
some_word_left p f = omega arith

pub words_left_within_room : (q p f : Fields) → Within q p → Within q f → words_left p f ≤ block_length q
words_left_within_room q p f room fits = omega (arith, words_left_grow p q f q room fits, all_words_left_at_preload q)

pub words_left_within_block : (p f : Fields) → Within p f → words_left p f ≤ block_length p
words_left_within_block p f w = words_left_within_room p p f (within_itself p) w

pub moved_and_left_make_block : (p f : Fields) → Within p f → position p f + words_left p f ≡ block_length p
moved_and_left_make_block p f w = omega (arith, words_left_within_block p f w)

pub nothing_moved_at_preload : (p : Fields) → position p p ≡ 0
nothing_moved_at_preload p = omega (arith, all_words_left_at_preload p)

pub words_left_tell_fields : (p f g : Fields) → Within p f → Within p g → words_left p f ≡ words_left p g → f ≡ g
words_left_tell_fields p f g in_f in_g e =
    let line = same_from_place (f.high * lines p + f.middle) f.low (g.high * lines p + g.middle) g.low (line_length p) (omega arith) (omega arith) (omega arith) in
    let plane = same_from_place f.high f.middle g.high g.middle (lines p) (omega arith) (omega arith) line.0 in
    same_fields f g plane.0 plane.1 line.1

pub position_tells_fields : (p f g : Fields) → Within p f → Within p g → position p f ≡ position p g → f ≡ g
position_tells_fields p f g in_f in_g e =
    words_left_tell_fields p f g in_f in_g (omega (arith, moved_and_left_make_block p f in_f, moved_and_left_make_block p g in_g))

-- no word has moved exactly if every field is its preload
pub nothing_moved_is_preload : (p f : Fields) → Within p f → (position p f ≡ 0) ↔ (f ≡ p)
nothing_moved_is_preload p f w =
    (λ none. position_tells_fields p f p w (within_itself p) (none ∙ sym (nothing_moved_at_preload p)), λ same. ap (position p) same ∙ nothing_moved_at_preload p)

-- a step keeps to the room that preload and count keep to
pub stepped_fits : (q p f : Fields) → Within q p → Within q f → Within q (stepped p f)
stepped_fits q p f room fits = grind (arith, nat_tests)

pub stepped_within : (p f : Fields) → Within p f → Within p (stepped p f)
stepped_within p f w = stepped_fits p p f (within_itself p) w

not_zero : (n : ℕ) → eqb (suc n) 0 ≡ false
not_zero n = grind (arith, nat_tests)

one_less : (n : ℕ) → suc n - 1 ≡ n
one_less n = omega arith

one_word_less : (p : Fields) (high middle low : ℕ) → ends_block (fields high middle low) ≡ false → words_left p (stepped p (fields high middle low)) + 1 ≡ words_left p (fields high middle low)
one_word_less p zero zero zero inside = cc
one_word_less p (suc high) zero zero inside = rw (not_zero high, one_less high) (omega arith)
one_word_less p high (suc middle) zero inside = rw (not_zero middle, one_less middle) (omega arith)
one_word_less p high middle (suc low) inside = grind (arith, nat_tests)

pub step_takes_one_word : (p f : Fields) → ends_block f ≡ false → words_left p (stepped p f) + 1 ≡ words_left p f
step_takes_one_word p f inside = one_word_less p f.high f.middle f.low inside

pub step_moves_one_word : (p f : Fields) → Within p f → ends_block f ≡ false → position p (stepped p f) ≡ position p f + 1
step_moves_one_word p f w inside =
    omega (
      arith,
      step_takes_one_word p f inside,
      moved_and_left_make_block p f w,
      moved_and_left_make_block p (stepped p f) (stepped_within p f w),
    )

pub block_end_returns_all : (p f : Fields) → ends_block f ≡ true → stepped p f ≡ p
block_end_returns_all p f end = cc

pub block_end_at_last_word : (p f : Fields) → ends_block f ≡ true → words_left p f ≡ 1
block_end_at_last_word p f end = grind (arith, nat_tests)
