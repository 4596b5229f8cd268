-- The machine that a device and a memory are.
use Rattle.std.specs.Prelude.{Bool, true, false}
use Rattle.memory.specs.Meaning.{Meaning}
use Rattle.dma.specs.Controllers.{state, stopped_state}
use Rattle.dma.specs.State.{State}
use Rattle.history.specs.declared.device.Device.{Device}
use Rattle.history.specs.declared.device.Device.TheVariants.{Awake, Asleep}
use Rattle.history.specs.Rules.{Machine}

abbrev pub state_in : Device → State
state_in (Awake device) = state device.controller
state_in (Asleep device) = stopped_state device.controller

abbrev pub is_awake : Device → Bool
is_awake (Awake device) = true
is_awake (Asleep device) = false

abbrev pub machine : Device → Meaning → Machine
machine device m = record { state = state_in device; awake = is_awake device; memory = m }
