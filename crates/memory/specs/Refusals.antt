-- The number of each refusal.
use Rattle.std.specs.Prelude.{ℕ}
use Rattle.memory.specs.declared.refusal.Refusal.{Refusal}
use Rattle.memory.specs.declared.refusal.Refusal.TheVariants.{NoSuchRegister, ValueTooLarge, StatusIsRead, Busy, ReservedMode, ReservedShape, ReservedSpace, ShapeInMidBlock, NoSuchSource, NoInterrupt, InService, NoService, AbsentLoad, AbsentStore, FixedStore, NoForm, NotNow, UnfitSizes}

abbrev pub number : Refusal → ℕ
number NoSuchRegister = 1
number ValueTooLarge = 2
number StatusIsRead = 3
number Busy = 4
number ReservedMode = 5
number ReservedShape = 6
number ReservedSpace = 7
number ShapeInMidBlock = 8
number NoSuchSource = 9
number NoInterrupt = 10
number InService = 11
number NoService = 12
number AbsentLoad = 13
number AbsentStore = 14
number FixedStore = 15
number NoForm = 16
number NotNow = 17
number UnfitSizes = 18
