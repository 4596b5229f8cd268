-- Which calls leave every service as it is.
use Rattle.std.proofs.Common.{arith, ◌≡◌, ℕ, eqb, List, map, length, get_or, set, Some, None, Option, sym, refl, ap, ◌∙◌, subst}
use Rattle.std.proofs.lemmas.List.{length-map, length-set}
use Rattle.std.proofs.lemmas.Grind.{common_steps}
use Rattle.std.proofs.lemmas.Bool.{cond_both}
use Rattle.memory.specs.declared.refusal.Refusal.{Refusal}
use Rattle.registers.specs.Control.{enable}
use Rattle.registers.specs.declared.register.Register.{Register}
use Rattle.registers.specs.declared.register.Register.TheVariants.{Dsr, Ddr, Dco, Dcr, Dor, Dstr}
use Rattle.dma.specs.declared.row.Row.{Row}
use Rattle.dma.specs.declared.service.Service.{Service}
use Rattle.dma.specs.Channels.{settings, by_words, captures}
use Rattle.dma.specs.Raises.{no_such_source, asked, after_raise}
use Rattle.dma.specs.Refusing.{unless}
use Rattle.dma.specs.Sets.{after_control, switched_off, with_control, set_refusal, set_state, after_set}
use Rattle.dma.specs.State.{State, row_at}
use Rattle.dma.specs.Stops.{halted, after_stop}
use Rattle.history.specs.Open.{stands_for, Tied}

-- as many rows, and each as much in service as before
pub record SameServices (rows after : List Row) : Type 0 where
  pub count : length after ≡ length rows
  pub serving : (k : ℕ) → (row_at after k).serving ≡ (row_at rows k).serving

unchanged : (rows : List Row) → SameServices rows rows
unchanged rows = record { count = refl; serving = λ k. refl }

row_replaced : (rows : List Row) (c : ℕ) (r : Row) → r.serving ≡ (row_at rows c).serving → SameServices rows (set rows c r)
row_replaced rows c r e = record { count = length-set rows c r; serving = λ k. grind (arith, common_steps) }

rows_mapped : (rows : List Row) (f : Row → Row) → ((r : Row) → (f r).serving ≡ r.serving) → SameServices rows (map f rows)
rows_mapped rows f keeps = record { count = simp length-map; serving = λ k. grind (arith, common_steps, keeps) }

-- a row is as much in service as another
abbrev Alike : Row → Row → Type 0
Alike was row = row.serving ≡ was.serving

switched_off_serves : (r : Row) → Alike r (switched_off r)
switched_off_serves r = cond_both (eqb r.due 0) _ _ (Alike r) (λ _. refl) (λ _. cond_both (by_words (settings r).mode) _ _ (Alike r) (λ _. refl) (λ _. refl))

control_serves : (r : Row) (word : ℕ) → Alike r (after_control r word)
control_serves r word =
    cond_both (enable r.control) _ _ (Alike r)
    (λ _. cond_both (enable word) _ _ (Alike r) (λ _. refl) (λ _. switched_off_serves (with_control r word)))
    (λ _. cond_both (enable word) _ _ (Alike r) (λ _. refl) (λ _. refl))

set_state_serves : (s : State) (register : Register) (value : ℕ) → SameServices s.rows (set_state s register value).rows
set_state_serves s (Dsr c) value = row_replaced s.rows c _ refl
set_state_serves s (Ddr c) value = row_replaced s.rows c _ refl
set_state_serves s (Dco c) value = row_replaced s.rows c _ refl
set_state_serves s (Dcr c) value = row_replaced s.rows c _ (control_serves (row_at s.rows c) value)
set_state_serves s (Dor i) value = unchanged s.rows
set_state_serves s Dstr value = unchanged s.rows

unless_serves : (o : Option Refusal) (s t : State) → SameServices s.rows t.rows → SameServices s.rows (unless o s t).rows
unless_serves None s t h = h
unless_serves (Some refusal) s t h = unchanged s.rows

pub set_serves : (s : State) (register : Register) (value : ℕ) → SameServices s.rows (after_set s register value).rows
set_serves s register value = unless_serves (set_refusal s register value) s (set_state s register value) (set_state_serves s register value)

pub raise_serves : (s : State) (source : ℕ) → SameServices s.rows (after_raise s source).rows
raise_serves s source =
    cond_both (no_such_source source) _ _ (λ (t : State). SameServices s.rows t.rows)
    (λ _. unchanged s.rows)
    (λ _. rows_mapped s.rows (asked source) (λ r. cond_both (captures source r) _ _ (Alike r) (λ _. refl) (λ _. refl)))

pub stop_serves : (s : State) → SameServices s.rows (after_stop s).rows
stop_serves s = rows_mapped s.rows halted (λ r. refl)

-- tokens stay tied to rows that are as much in service as before
pub kept : (services : List (Option Service)) (s t u : State) → u ≡ t → SameServices s.rows t.rows → Tied services s.rows → Tied services u.rows
kept services s t u e same was =
    subst
    (λ (v : State). Tied services v.rows)
    (sym e)
    record { channels = same.count ∙ was.channels; tokens = λ k. ap (stands_for (get_or services k None) k) (same.serving k) ∙ was.tokens k }
