-- Interrupts and their services.
use Rattle.std.specs.Prelude.{ℕ, Bool, true, false, if◌then◌else◌, not, Some, None, Option, nat_lt}
use Rattle.memory.specs.declared.refusal.Refusal.{Refusal}
use Rattle.memory.specs.declared.refusal.Refusal.TheVariants.{NoSuchRegister, NoInterrupt, InService, NoService}
use Rattle.dma.specs.declared.row.Row.{Row}
use Rattle.dma.specs.Sets.{change}
use Rattle.dma.specs.Refusing.{unless}
use Rattle.dma.specs.State.{State, row_at}

abbrev pub with_service : Row → Bool → Bool → Row
with_service r requested serving = record r { requested = requested; serving = serving }

-- a service begins only where an interrupt is requested, and one at a time
abbrev pub begin_row_refusal : Row → Option Refusal
begin_row_refusal r = if not r.requested then Some NoInterrupt else if r.serving then Some InService else None

-- begin clears the requested interrupt and opens the service
abbrev pub begun : Row → Row
begun r = with_service r false true

abbrev pub return_row_refusal : Row → Option Refusal
return_row_refusal r = if r.serving then None else Some NoService

abbrev pub returned : Row → Row
returned r = with_service r r.requested false

abbrev pub begin_refusal : State → ℕ → Option Refusal
begin_refusal s c = if nat_lt 5 c then Some NoSuchRegister else begin_row_refusal (row_at s.rows c)

abbrev pub after_begin : State → ℕ → State
after_begin s c = unless (begin_refusal s c) s (change s c begun)

abbrev pub return_refusal : State → ℕ → Option Refusal
return_refusal s c = return_row_refusal (row_at s.rows c)

abbrev pub after_return : State → ℕ → State
after_return s c = unless (return_refusal s c) s (change s c returned)
