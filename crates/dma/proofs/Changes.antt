-- One row of the table is changed by a call that may be refused.
use Rattle.std.proofs.Common.{◌≡◌, ℕ, ◌^◌, ◌<◌, ◌≤◌, Bool, true, false, if◌then◌else◌, cond, ◌||◌, List, map, length, sum_by, set, Some, None, Option, sym, refl, ap, ◌∙◌, subst, zero-le, arith}
use Rattle.std.proofs.lemmas.List.{set-get_or}
use Rattle.std.proofs.lemmas.Bool.{and_parts, and_from, both_ways, cond_both, le-ltb}
use Rattle.std.proofs.lemmas.List.Elements.{All-from_get_or}
use Rattle.std.proofs.lemmas.List.Sums.{sum_by-le}
use Rattle.memory.specs.declared.refusal.Refusal.{Refusal}
use Rattle.memory.specs.declared.refusal.Refusal.TheVariants.{NoSuchRegister, ValueTooLarge, Busy}
use Rattle.registers.specs.declared.register.Register.{Register}
use Rattle.registers.specs.declared.register.Register.TheVariants.{Dsr, Ddr, Dco, Dcr, Dor, Dstr}
use Rattle.dma.specs.declared.row.Row.{Row}
use Rattle.registers.specs.Control.{enable}
use Rattle.registers.specs.Counter.{words_left}
use Rattle.registers.proofs.Layouts.{cut_fits, words_left_fit}
use Rattle.dma.specs.Channels.{settings, layout, preloaded, counted, listens, captures, made_due}
use Rattle.dma.specs.Raises.{asked}
use Rattle.dma.specs.Stops.{halted}
use Rattle.dma.specs.Refusing.{unless}
use Rattle.registers.specs.Names.{unknown, channel_of}
use Rattle.dma.specs.Sets.{row_refusal, row_set, with_row, change, shared_refusal, shared_set, set_refusal, after_set}
use Rattle.dma.specs.Services.{with_service}
use Rattle.dma.specs.Soundness.{Sound, AllSound}
use Rattle.dma.specs.State.{State, reset_row, row_at}
use Rattle.dma.proofs.ControlSets.{made_due_fits, decoded, control_set}
use Rattle.dma.proofs.Tables.{all_of_set, all_of_map}
use Rattle.dma.proofs.SoundRows.{source_set, destination_set, counter_set}

pub row_changed : (s : State) (c : ℕ) (o : Option Refusal) (f : Row → Row) (r : Row) → r ≡ unless o (row_at s.rows c) (f (row_at s.rows c)) → with_row s c r ≡ unless o s (change s c f)
row_changed s c None f r e = ap (with_row s c) e
row_changed s c (Some refusal) f r e = ap (with_row s c) e ∙ (λ i. record { rows = set-get_or s.rows c reset_row i; offsets = s.offsets; last = s.last })

-- a refused call keeps the row, an accepted one makes it f of itself
pub sound_unless : (o : Option Refusal) (r n q : Row) → q ≡ unless o r n → Sound r → (o ≡ None → Sound r → Sound n) → Sound q
sound_unless None r n q e s keeps = subst Sound (sym e) (keeps refl s)
sound_unless (Some refusal) r n q e s keeps = subst Sound (sym e) s

-- a set of a channel's register, by the row that it leaves
module _ (s : State) (register : Register) (value c : ℕ) (known : unknown register ≡ false) (fits : value ≤ 0xFFFFFF) (own : channel_of register ≡ Some c) where
  pub refused_as_the_row : set_refusal s register value ≡ row_refusal (row_at s.rows c) register value
  refused_as_the_row = λ i.
      cond (known i) (Some NoSuchRegister)
      (cond (le-ltb 0xFFFFFF value fits i) (Some ValueTooLarge)
      (elim (own i) [ Some d ↦ row_refusal (row_at s.rows d) register value | None ↦ shared_refusal register ]))

  pub channel_set : (row : Row) → row ≡ unless (row_refusal (row_at s.rows c) register value) (row_at s.rows c) (row_set (row_at s.rows c) register value) → with_row s c row ≡ after_set s register value
  channel_set row e =
      row_changed s c _ (λ r. row_set r register value) row e
      ∙ (λ i. unless (sym refused_as_the_row i) s (elim (sym own i) [ Some d ↦ change s d (λ r. row_set r register value) | None ↦ shared_set s register value ]))

not_busy : (e a : Bool) → (if e || a then Some Busy else None) ≡ None → a ≡ false
not_busy true a h = cc
not_busy false true h = cc
not_busy false false h = refl

pub row_set_keeps : (r : Row) (register : Register) (value : ℕ) → value < 2 ^ 24 → row_refusal r register value ≡ None → Sound r → Sound (row_set r register value)
row_set_keeps r (Dsr c) value fits e s = source_set r value fits s
row_set_keeps r (Ddr c) value fits e s = destination_set r value fits s
row_set_keeps r (Dco c) value fits e s = counter_set r value fits (not_busy (settings r).enabled r.active e) s
row_set_keeps r (Dcr c) value fits e s = control_set r value s fits e
row_set_keeps r (Dor i) value fits e s = s
row_set_keeps r Dstr value fits e s = s

-- interrupts and services touch nothing that soundness speaks of
pub service_keeps : (r : Row) (requested serving : Bool) → Sound r → Sound (with_service r requested serving)
service_keeps r requested serving s = assumption

pub service_sound : (rows : List Row) (c : ℕ) (o : Option Refusal) (q : Row) (requested serving : Bool) → q ≡ unless o (row_at rows c) (with_service (row_at rows c) requested serving) → AllSound rows → Sound q
unfolding AllSound
service_sound rows c o q requested serving e all = sound_unless o (row_at rows c) _ q e (all c) (λ _. service_keeps (row_at rows c) requested serving)

pub set_sound : (rows : List Row) (c : ℕ) (q : Row) (register : Register) (value : ℕ) → value < 2 ^ 24 → q ≡ unless (row_refusal (row_at rows c) register value) (row_at rows c) (row_set (row_at rows c) register value) → AllSound rows → Sound q
unfolding AllSound
set_sound rows c q register value fits e all = sound_unless _ (row_at rows c) _ q e (all c) (row_set_keeps (row_at rows c) register value fits)

-- the table with one row changed
pub sound_with : (rows : List Row) (c : ℕ) (q : Row) → AllSound rows → Sound q → AllSound (set rows c q)
unfolding AllSound
sound_with rows c q all s = all_of_set Sound rows c q reset_row all s

-- the settings say what the control word says of DE
pub settings_enabled : (r : Row) → Sound r → (settings r).enabled ≡ enable r.control
settings_enabled r s = (decoded r.control s.decodes).enabled

pub asked_keeps : (source : ℕ) (r : Row) → Sound r → Sound (asked source r)
asked_keeps source r s =
    cond_both (captures source r) _ _ Sound
    (λ takes.
    let on = (and_parts (settings r).enabled _ (and_parts (listens source r) _ takes).0).0 in
    let runs = s.enabled_active (sym (settings_enabled r s) ∙ on) in
    let due = made_due_fits r in
    let due_active : r.active ≡ false → made_due r ≡ 0 = λ rests. absurd (both_ways _ rests runs) in
    assumption)
    (λ _. s)

pub halted_keeps : (r : Row) → Sound r → Sound (halted r)
halted_keeps r s =
    let due : (halted r).due ≤ words_left (preloaded r) (counted r) = zero-le in
    let due_active : (halted r).active ≡ false → (halted r).due ≡ 0 = λ _. refl in
    let enabled_active : enable r.control ≡ true → (halted r).active ≡ true = λ on. and_from _ _ (s.enabled_active on) (settings_enabled r s ∙ on) in
    assumption

-- a change of every row keeps the table sound
pub sound_mapped : (rows : List Row) (f : Row → Row) (after : List Row) → after ≡ map f rows → AllSound rows → ((r : Row) → Sound r → Sound (f r)) → AllSound after
unfolding AllSound
sound_mapped rows f after is all keeps k = subst (λ l. Sound (row_at l k)) (sym is) (all_of_map Sound f rows reset_row all keeps k)

pub due_bound : (r : Row) → Sound r → r.due ≤ 2 ^ 24
due_bound r s = omega (arith, s.due, words_left_fit (layout r) (preloaded r) (counted r) (cut_fits (layout r) r.preload) (cut_fits (layout r) r.count))

-- the due words of six sound rows are a 32-bit number
pub all_due_fit : (rows : List Row) → length rows ≡ 6 → AllSound rows → sum_by (λ (r : Row). r.due) rows < 2 ^ 32
unfolding AllSound
all_due_fit rows six all =
    let each = sum_by-le (λ (r : Row). r.due) (2 ^ 24) rows (All-from_get_or (λ r. r.due ≤ 2 ^ 24) rows reset_row (λ k h. due_bound (row_at rows k) (all k))) in
    omega arith
