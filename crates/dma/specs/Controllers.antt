-- The state of a controller, awake or stopped.
use Rattle.dma.specs.declared.controller.Controller.{Controller}
use Rattle.dma.specs.declared.controller.Stopped.{Stopped}
use Rattle.dma.specs.Banks.{state_of}
use Rattle.dma.specs.State.{State}

abbrev pub state : Controller → State
state c = state_of c.bank

abbrev pub stopped_state : Stopped → State
stopped_state c = state_of c.bank
