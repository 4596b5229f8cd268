-- The rules of a device: what each call is answered, and what it leaves.
use Rattle.std.specs.Prelude.{Bool, true, false, if◌then◌else◌}
use Rattle.memory.specs.declared.refusal.Refusal.TheVariants.{NotNow}
use Rattle.memory.specs.Meaning.{Meaning, load_answer, store_answer, after_store}
use Rattle.dma.specs.Raises.{raise_answer, after_raise}
use Rattle.dma.specs.Reads.{get_answer}
use Rattle.dma.specs.Refusing.{answer}
use Rattle.dma.specs.Services.{begin_refusal, after_begin}
use Rattle.dma.specs.Sets.{set_answer, after_set}
use Rattle.dma.specs.State.{State, reset}
use Rattle.dma.specs.Stops.{lost, after_stop}
use Rattle.history.specs.declared.call.Answer.{Answer}
use Rattle.history.specs.declared.call.Answer.TheVariants.{Done, Stopped, Refused}
use Rattle.history.specs.declared.call.Call.{Call}
use Rattle.history.specs.declared.call.Call.TheVariants.{Set, Get, Raise, Begin, Return, Stop, Wake, Load, Store}
use Rattle.history.specs.Answers.{done, word, raised, loaded, stored}
use Rattle.history.specs.Returns.{finish_refusal, after_finish}

-- a controller, awake or stopped, and a memory
pub record Machine : Type 0 where
  pub state : State
  pub awake : Bool
  pub memory : Meaning

-- a controller at reset is awake
abbrev pub reset_machine : Meaning → Machine
reset_machine m = record { state = reset; awake = true; memory = m }

-- what an awake device answers
abbrev pub awake_answer : State → Meaning → Call → Answer
awake_answer s m (Set register value) = done (set_answer s register value)
awake_answer s m (Get register) = word (get_answer s register)
awake_answer s m (Raise source) = raised (raise_answer s source)
awake_answer s m (Begin c) = done (answer (begin_refusal s c))
awake_answer s m (Return c) = done (answer (finish_refusal s c))
awake_answer s m Stop = Stopped (lost s)
awake_answer s m Wake = Refused NotNow
awake_answer s m (Load place) = loaded (load_answer m place)
awake_answer s m (Store place w) = stored (store_answer m place w)

-- what an awake device's call leaves
abbrev pub after_awake : State → Meaning → Call → Machine
after_awake s m (Set register value) = record { state = after_set s register value; awake = true; memory = m }
after_awake s m (Get register) = record { state = s; awake = true; memory = m }
after_awake s m (Raise source) = record { state = after_raise s source; awake = true; memory = m }
after_awake s m (Begin c) = record { state = after_begin s c; awake = true; memory = m }
after_awake s m (Return c) = record { state = after_finish s c; awake = true; memory = m }
after_awake s m Stop = record { state = after_stop s; awake = false; memory = m }
after_awake s m Wake = record { state = s; awake = true; memory = m }
after_awake s m (Load place) = record { state = s; awake = true; memory = m }
after_awake s m (Store place w) = record { state = s; awake = true; memory = after_store m place w }

-- a stopped device takes a wake only
abbrev pub stopped_answer : Call → Answer
stopped_answer Wake = Done
stopped_answer call = Refused NotNow

abbrev pub wakes : Call → Bool
wakes Wake = true
wakes call = false

abbrev pub after_stopped : State → Meaning → Call → Machine
after_stopped s m call = record { state = s; awake = wakes call; memory = m }

-- what a call is answered
abbrev pub answered : Machine → Call → Answer
answered machine call = if machine.awake then awake_answer machine.state machine.memory call else stopped_answer call

-- what a call leaves
abbrev pub after : Machine → Call → Machine
after machine call = if machine.awake then after_awake machine.state machine.memory call else after_stopped machine.state machine.memory call
