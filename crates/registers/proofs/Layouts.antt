-- Counters and their fields, by layout.
use Rattle.std.proofs.Common.{◌≡◌, ℕ, ◌+◌, ◌*◌, ◌^◌, ◌<◌, ◌≤◌, true, false, ◌↔◌, sym, ap, ◌∙◌, arith}
use Rattle.std.proofs.Math.Nat.{le-mul_of_pos_right}
use Rattle.registers.specs.declared.counter.Counter.{Counter}
use Rattle.registers.specs.declared.counter.Fields.{Fields}
use Rattle.registers.specs.declared.counter.Layout.{Layout}
use Rattle.registers.specs.Counter.{cut, joined, lines, line_length, block_length, words_left, position, Within, ends_block, stepped, preloaded, counted}
use Rattle.registers.specs.Laws.{largest, after_word, GoesOn, StartsAgain}
use Rattle.registers.proofs.Counting.{same_fields, nothing_moved_at_preload, nothing_moved_is_preload, stepped_fits, step_takes_one_word, step_moves_one_word, block_end_returns_all, block_end_at_last_word, words_left_within_room}

pub cut_fits : (l : Layout) (w : ℕ) → Within (largest l) (cut l w)
cut_fits l w = grind arith

pub longest_block : (l : Layout) → block_length (largest l) ≡ 2 ^ 24
longest_block l = grind arith

pub words_left_fit : (l : Layout) (p f : Fields) → Within (largest l) p → Within (largest l) f → words_left p f ≤ 2 ^ 24
words_left_fit l p f fits_p fits_f = omega (arith, words_left_within_room (largest l) p f fits_p fits_f, longest_block l)

pub lines_left_fit : (l : Layout) (p f : Fields) → Within (largest l) p → Within (largest l) f → f.high * lines p + f.middle < 2 ^ 24
lines_left_fit l p f fits_p fits_f =
    omega (arith, words_left_fit l p f fits_p fits_f, le-mul_of_pos_right {m = line_length p} (f.high * lines p + f.middle) (omega arith))

-- the fields part the whole word
pub joined_cut : (l : Layout) (w : ℕ) → w < 2 ^ 24 → joined l (cut l w) ≡ w
joined_cut l w h = grind arith

pub cut_joined : (l : Layout) (f : Fields) → Within (largest l) f → cut l (joined l f) ≡ f
cut_joined l f fits = same_fields (cut l (joined l f)) f (grind arith) (grind arith) (grind arith)

pub cut_tells_word : (l : Layout) (v w : ℕ) → v < 2 ^ 24 → w < 2 ^ 24 → cut l v ≡ cut l w → v ≡ w
cut_tells_word l v w v_below w_below same = sym (joined_cut l v v_below) ∙ ap (joined l) same ∙ joined_cut l w w_below

-- the same of whole counters
pub nothing_moved_is_preload_word : (l : Layout) (p w : ℕ) → p < 2 ^ 24 → w < 2 ^ 24 → Within (cut l p) (cut l w) → (position (cut l p) (cut l w) ≡ 0) ↔ (w ≡ p)
nothing_moved_is_preload_word l p w p_below w_below within =
    let fields = nothing_moved_is_preload (cut l p) (cut l w) within in
    (λ none. cut_tells_word l w p w_below p_below (fields.0 none), λ same. fields.1 (ap (cut l) same))

-- what a step leaves in the counter, by the fields that it is cut into again
module _ (k : Counter) where
  abbrev l : Layout
  l = k.layout

  abbrev p : Fields
  p = preloaded k

  abbrev f : Fields
  f = counted k

  abbrev after : ℕ
  after = (after_word k).count

  stepped_has_room : Within (largest l) (stepped p f)
  stepped_has_room = stepped_fits (largest l) p f (cut_fits l k.preload) (cut_fits l k.count)

  pub counted_fields : cut l after ≡ stepped p f
  counted_fields = cut_joined l (stepped p f) stepped_has_room

  pub counted_goes_on : Within p f → ends_block f ≡ false → GoesOn p f (cut l after)
  counted_goes_on within inside = record {
    moved = rw counted_fields (step_moves_one_word p f within inside);
    left = rw counted_fields (step_takes_one_word p f inside);
  }

  counted_back : ends_block f ≡ true → cut l after ≡ p
  counted_back end = counted_fields ∙ block_end_returns_all p f end

  pub counted_starts_again : ends_block f ≡ true → StartsAgain p f (cut l after)
  counted_starts_again end = record {
    last = block_end_at_last_word p f end;
    back = counted_back end;
    moved = rw (counted_back end) (nothing_moved_at_preload p);
  }
