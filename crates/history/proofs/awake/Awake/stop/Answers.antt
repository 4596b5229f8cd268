use Rattle.dma.specs.Controllers.{state}
use Rattle.history.proofs.Serving.{kept, stop_serves}
use Rattle.history.proofs.awake.Awake.stop.Goals as goal

pub invariant_of-result : goal.invariant_of-result
invariant_of-result c =
    let d = c.args.self in
    record { tied = kept d.services (state d.controller) _ _ c.stop-lost.ensures.after (stop_serves (state d.controller)) d.tied }
