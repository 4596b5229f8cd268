-- What a get of a register answers.
use Rattle.std.specs.Prelude.{ℕ, ◌+◌, ◌*◌, ◌^◌, if◌then◌else◌, not, map, Some, None, Ok, Err, Option, Result, nat_lt, slice_index}
use Rattle.memory.specs.declared.refusal.Refusal.{Refusal}
use Rattle.memory.specs.declared.refusal.Refusal.TheVariants.{NoSuchRegister}
use Rattle.dma.specs.declared.arbitration.Contender.{Contender}
use Rattle.dma.specs.declared.arbitration.Contest.{Contest}
use Rattle.registers.specs.Names.{unknown}
use Rattle.registers.specs.declared.register.Register.{Register}
use Rattle.registers.specs.declared.register.Register.TheVariants.{Dsr, Ddr, Dco, Dcr, Dor, Dstr}
use Rattle.dma.specs.declared.row.Row.{Row}
use Rattle.dma.specs.Arbitration.{winner}
use Rattle.dma.specs.Channels.{settings}
use Rattle.dma.specs.Raises.{mask}
use Rattle.dma.specs.State.{State, channels, row_at}

-- what arbitration looks at of one channel
abbrev pub contender : Row → Contender
contender r = record { due = nat_lt 0 r.due; priority = (settings r).priority; continuous = (settings r).continuous }

-- what arbitration looks at
abbrev pub contest : State → Contest
contest s = record { contenders = map (λ c. contender (row_at s.rows c)) channels; last = s.last }

-- the channel that the next slot would serve
unfoldable pub next_served : State → Option ℕ
next_served s = winner (contest s)

-- done bits, activity in bit 8, and the channel that the next slot would serve in bits 9 to 11
abbrev pub status_of : ℕ → Option ℕ → ℕ
status_of done None = done
status_of done (Some next) = done + 2 ^ 8 + next * 2 ^ 9

abbrev pub status : State → ℕ
status s = status_of (mask (λ r. not r.active) s.rows) (next_served s)

abbrev pub held : State → Register → ℕ
held s =
    elim [
      | Dsr c ↦ (row_at s.rows c).source
      | Ddr c ↦ (row_at s.rows c).destination
      | Dco c ↦ (row_at s.rows c).count
      | Dcr c ↦ (row_at s.rows c).control
      | Dor i ↦ slice_index s.offsets i
      | Dstr ↦ status s
    ]

abbrev pub get_answer : State → Register → Result ℕ Refusal
get_answer s register = if unknown register then Err NoSuchRegister else Ok (held s register)
