-- A return names a channel, in place of a token.
use Rattle.std.specs.Prelude.{ℕ, if◌then◌else◌, Some, Option, nat_lt}
use Rattle.memory.specs.declared.refusal.Refusal.{Refusal}
use Rattle.memory.specs.declared.refusal.Refusal.TheVariants.{NoSuchRegister}
use Rattle.dma.specs.Services.{return_refusal, after_return}
use Rattle.dma.specs.State.{State}

-- there are six channels, and a service has to be open
abbrev pub finish_refusal : State → ℕ → Option Refusal
finish_refusal s c = if nat_lt 5 c then Some NoSuchRegister else return_refusal s c

abbrev pub after_finish : State → ℕ → State
after_finish s c = if nat_lt 5 c then s else after_return s c
