-- A set of the control word keeps a row sound.
use Rattle.std.proofs.Common.{◌≡◌, ℕ, ◌/◌, ◌%◌, ◌^◌, ◌<◌, ◌≤◌, Bool, true, false, if◌then◌else◌, not, ◌||◌, eqb, ◌==◌, is_some, Some, None, Option, unwrap_or, sym, refl, ap, ◌∙◌, subst, ⊎_elim, zero-le, arith}
use Rattle.std.proofs.lemmas.Bool.{eqb-true, not-false, and_cases, or_cases, cases_Bool, both_ways, cond_both}
use Rattle.memory.specs.declared.refusal.Refusal.{Refusal}
use Rattle.memory.specs.declared.refusal.Refusal.TheVariants.{Busy}
use Rattle.registers.specs.declared.control.Shape.{Shape}
use Rattle.registers.specs.declared.control.Spaces.{Spaces}
use Rattle.registers.specs.declared.control.TransferMode.{TransferMode}
use Rattle.registers.specs.declared.control.TransferMode.TheVariants.{Block, Word, Line, BlockByEnable, BlockKeepingEnable, WordKeepingEnable}
use Rattle.registers.specs.declared.counter.Fields.{Fields}
use Rattle.registers.specs.Control.{field, enable, mode_of, mode_number, flat_shape, cubic_shape, shape_of, spaces_of, set_up, settings_of}
use Rattle.registers.specs.Counter.{cut, position, words_left, Within}
use Rattle.registers.proofs.Counting.{within_itself, some_word_left}
use Rattle.registers.proofs.Layouts.{nothing_moved_is_preload_word}
use Rattle.dma.specs.declared.row.Row.{Row}
use Rattle.dma.specs.Channels.{zero_settings, settings, layout, preloaded, counted, by_words, starts_by_enable, requested_words, made_due}
use Rattle.dma.specs.Sets.{disabled, reshapes, at_rest_refusal, control_refusal, with_control, after_control, switched_on, switched_off, at_rest}
use Rattle.dma.specs.Soundness.{Sound}

-- the parts of a control word that decodes
parts_decode : (w : ℕ) (m : Option TransferMode) (h : Option Shape) (p : Option Spaces) → is_some m ≡ true → is_some h ≡ true → is_some p ≡ true → is_some (set_up w m h p) ≡ true
parts_decode w None h p a b c = a
parts_decode w (Some m) None p a b c = b
parts_decode w (Some m) (Some h) None a b c = c
parts_decode w (Some m) (Some h) (Some p) a b c = refl

-- and what its settings say
pub record Parts (w : ℕ) (m : Option TransferMode) (h : Option Shape) (p : Option Spaces) : Type 0 where
  pub mode : is_some m ≡ true
  pub shape : is_some h ≡ true
  pub spaces : is_some p ≡ true
  pub is_shape : Some (unwrap_or (set_up w m h p) zero_settings).shape ≡ h
  pub enabled : (unwrap_or (set_up w m h p) zero_settings).enabled ≡ enable w

parts : (w : ℕ) (m : Option TransferMode) (h : Option Shape) (p : Option Spaces) → is_some (set_up w m h p) ≡ true → Parts w m h p
parts w None h p e = absurd (cc)
parts w (Some m) None p e = absurd (cc)
parts w (Some m) (Some h) None e = absurd (cc)
parts w (Some m) (Some h) (Some p) e = record { mode = refl; shape = refl; spaces = refl; is_shape = refl; enabled = refl }

pub decoded : (w : ℕ) → is_some (settings_of w) ≡ true → Parts w (mode_of (mode_number w)) (shape_of w) (spaces_of w)
decoded w e = parts w (mode_of (mode_number w)) (shape_of w) (spaces_of w) e

-- rows whose control words give one shape have one layout
same_shape : (r q : Row) → is_some (settings_of r.control) ≡ true → is_some (settings_of q.control) ≡ true → shape_of r.control ≡ shape_of q.control → (settings r).shape ≡ (settings q).shape
same_shape r q a b e =
    let z = (decoded r.control a).is_shape ∙ e ∙ sym (decoded q.control b).is_shape in
    cc

-- the shape is in the bits 4 to 10
shape_by : ℕ → Option Shape
shape_by n = if n / 64 == 1 then cubic_shape (n % 64) else flat_shape (n % 64)

shape_in_its_bits : (w : ℕ) → shape_of w ≡ shape_by (field 4 7 w)
unfolding shape_by
shape_in_its_bits w =
    let flag : field 10 1 w ≡ field 4 7 w / 64 = omega arith in
    let dam : field 4 6 w ≡ field 4 7 w % 64 = omega arith in
    rw (flag, dam)

kept_shape : (v w : ℕ) → field 4 7 v ≡ field 4 7 w → shape_of v ≡ shape_of w
kept_shape v w e = shape_in_its_bits v ∙ ap shape_by e ∙ sym (shape_in_its_bits w)

-- clearing DE changes no other bit
module _ (w : ℕ) (fits : w < 2 ^ 24) where
  disabled_shape : shape_of (disabled w) ≡ shape_of w
  disabled_shape = kept_shape (disabled w) w (omega arith)

  disabled_mode : mode_number (disabled w) ≡ mode_number w
  disabled_mode = omega arith

  disabled_spaces : spaces_of (disabled w) ≡ spaces_of w
  disabled_spaces =
      let s : field 0 2 (disabled w) ≡ field 0 2 w = omega arith in
      let d : field 2 2 (disabled w) ≡ field 2 2 w = omega arith in
      rw (s, d)

  disabled_decodes : is_some (settings_of w) ≡ true → is_some (settings_of (disabled w)) ≡ true
  disabled_decodes h =
      let p = decoded w h in
      parts_decode (disabled w) _ _ _
      (ap (λ n. is_some (mode_of n)) disabled_mode ∙ p.mode)
      (ap is_some disabled_shape ∙ p.shape)
      (ap is_some disabled_spaces ∙ p.spaces)

-- what the refusal of a control word leaves where it does not refuse
not_refused : (b : Bool) (x : Refusal) (o : Option Refusal) → (if b then Some x else o) ≡ None → (b ≡ false) × (o ≡ None)
not_refused true x o e = absurd (cc)
not_refused false x o e = (refl, e)

while_on : (b t a : Bool) (o : Option Refusal) → (if b then (if t then None else Some Busy) else if a then Some Busy else o) ≡ None → b ≡ true → t ≡ true
while_on true true a o e on = refl
while_on true false a o e on = cc
while_on false t a o e on = cc

while_off : (b t a : Bool) (o : Option Refusal) → (if b then (if t then None else Some Busy) else if a then Some Busy else o) ≡ None → b ≡ false → (a ≡ false) × (o ≡ None)
while_off true t a o e off = absurd (cc)
while_off false t a o e off = not_refused a Busy o e

-- a row with other words due, activity and interrupt
changed : Row → ℕ → Bool → Bool → Row
changed r d a q = record r { due = d; active = a; requested = q }

-- a request makes no more due than is left of the block
made_due_by : (m : TransferMode) (p f : Fields) → requested_words m p f ≤ words_left p f
made_due_by Block p f = omega arith
made_due_by Word p f = omega (arith, some_word_left p f)
made_due_by Line p f = omega arith
made_due_by BlockByEnable p f = omega arith
made_due_by BlockKeepingEnable p f = omega arith
made_due_by WordKeepingEnable p f = omega (arith, some_word_left p f)

pub made_due_fits : (r : Row) → made_due r ≤ words_left (preloaded r) (counted r)
made_due_fits r = made_due_by (settings r).mode (preloaded r) (counted r)

module _ (r : Row) (w : ℕ) (s : Sound r) (fits : w < 2 ^ 24) where
  n : Row
  n = with_control r w

  -- the row with the new word, but for what DE asks
  record Held : Type 0 where
    decodes : is_some (settings_of w) ≡ true
    counts : Within (preloaded n) (counted n)
    due : r.due ≤ words_left (preloaded n) (counted n)

  -- the layout stays
  held_by_shape : is_some (settings_of w) ≡ true → shape_of w ≡ shape_of r.control → Held
  unfolding n
  held_by_shape h e =
      let same = same_shape r n s.decodes h (sym e) in
      record {
        decodes = h;
        counts = subst (λ x. Within (cut x.layout r.preload) (cut x.layout r.count)) same s.counts;
        due = subst (λ x. r.due ≤ words_left (cut x.layout r.preload) (cut x.layout r.count)) same s.due;
      }

  -- no word of the block has moved
  held_by_position : is_some (settings_of w) ≡ true → r.active ≡ false → position (preloaded r) (counted r) ≡ 0 → Held
  unfolding n
  held_by_position h rests start =
      let equal = (nothing_moved_is_preload_word (layout r) r.preload r.count s.preload s.count s.counts).0 start in
      record {
        decodes = h;
        counts = subst (λ c. Within (cut (layout n) r.preload) (cut (layout n) c)) (sym equal) (within_itself (cut (layout n) r.preload));
        due = let none = s.due_active rests in omega arith;
      }

  held_while_on : (eqb w r.control || eqb w (disabled r.control)) ≡ true → Held
  held_while_on h =
      ⊎_elim
      (λ same. let e = eqb-true w r.control same in held_by_shape (subst (λ x. is_some (settings_of x) ≡ true) (sym e) s.decodes) (ap shape_of e))
      (λ off.
      let e = eqb-true w (disabled r.control) off in
      held_by_shape (subst (λ x. is_some (settings_of x) ≡ true) (sym e) (disabled_decodes r.control s.control s.decodes)) (ap shape_of e ∙ disabled_shape r.control s.control))
      (or_cases _ _ h)

  held_at_rest : r.active ≡ false → at_rest_refusal r w ≡ None → Held
  held_at_rest rests e =
      let a = not_refused _ _ _ e in
      let b = not_refused _ _ _ a.1 in
      let c = not_refused _ _ _ b.1 in
      let d = not_refused _ _ _ c.1 in
      let decodes = parts_decode w (mode_of (mode_number w)) (shape_of w) (spaces_of w) (not-false _ a.0) (not-false _ b.0) (not-false _ c.0) in
      ⊎_elim
      (λ kept. held_by_shape decodes (sym (kept_shape r.control w (eqb-true _ _ (not-false _ kept)))))
      (λ start. held_by_position decodes rests (eqb-true _ _ (not-false _ start)))
      (and_cases (reshapes r.control w) (not (eqb (position (preloaded r) (counted r)) 0)) d.0)

  held : control_refusal r w ≡ None → Held
  held e =
      ⊎_elim
      (λ on. held_while_on (while_on _ _ r.active (at_rest_refusal r w) e on))
      (λ off. let rest = while_off _ (eqb w r.control || eqb w (disabled r.control)) _ _ e off in held_at_rest rest.0 rest.1)
      (cases_Bool (enable r.control))

  -- the new word is held, and the channel is active where it has to be
  settled : (d : ℕ) (a q : Bool) → Held → d ≤ words_left (preloaded n) (counted n) → (a ≡ false → d ≡ 0) → (enable w ≡ true → a ≡ true) → Sound (changed n d a q)
  unfolding n changed
  settled d a q h due_fits rests on =
      let decodes = h.decodes in
      let counts = h.counts in
      assumption

  -- the word leaves DE 0, or the channel is active
  off : enable w ≡ false → {a : Bool} → enable w ≡ true → a ≡ true
  off e on = absurd (both_ways (enable w) e on)

  unchanged : Held → (enable w ≡ true → r.active ≡ true) → Sound n
  unfolding n changed
  unchanged h on = settled r.due r.active r.requested h h.due s.due_active on

  rested : Held → enable w ≡ false → (q : Bool) → Sound (at_rest n q)
  unfolding n changed
  rested h e q = settled 0 false q h (zero-le) (λ _. refl) (off e)

  switched_off_set : Held → enable w ≡ false → Sound (switched_off n)
  switched_off_set h e =
      cond_both (eqb n.due 0) _ _ Sound (λ _. rested h e _)
      (λ _. cond_both (by_words (settings n).mode) _ _ Sound (λ _. unchanged h (off e)) (λ _. rested h e _))

  switched_on_set : Held → Sound (switched_on n)
  unfolding n changed
  switched_on_set h =
      settled _ true r.requested h
      (cond_both (starts_by_enable (settings n).mode) _ _ (λ d. d ≤ words_left (preloaded n) (counted n)) (λ _. made_due_fits n) (λ _. h.due))
      (λ e. absurd (both_ways true e refl)) (λ _. refl)

  pub control_set : control_refusal r w ≡ None → Sound (after_control r w)
  unfolding n
  control_set e =
      let h = held e in
      cond_both (enable r.control) _ _ Sound
      (λ on. cond_both (enable w) _ _ Sound (λ _. unchanged h (λ _. s.enabled_active on)) (λ goes. switched_off_set h goes))
      (λ _. cond_both (enable w) _ _ Sound (λ _. switched_on_set h) (λ stays. unchanged h (off stays)))
