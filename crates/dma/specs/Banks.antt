-- The state that a bank holds.
use Rattle.dma.specs.declared.bank.Bank.{Bank}
use Rattle.dma.specs.State.{State}

abbrev pub state_of : Bank → State
state_of b = record { rows = b.rows; offsets = b.offsets; last = b.last }
