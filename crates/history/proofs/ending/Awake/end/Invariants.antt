use Rattle.std.proofs.Common.{◌≡◌, ℕ, ◌<◌, false}
use Rattle.dma.specs.Controllers.{state}
use Rattle.dma.specs.State.{row_at}
use Rattle.history.proofs.ending.Awake.end.Given as goal

abbrev pub invariant-loop-channel : goal.invariant-loop-channel
invariant-loop-channel l = (k : ℕ) → k < l.channel → (row_at (state l.self.controller).rows k).serving ≡ false
