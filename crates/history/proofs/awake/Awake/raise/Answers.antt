use Rattle.dma.specs.Controllers.{state}
use Rattle.history.proofs.Serving.{kept, raise_serves}
use Rattle.history.proofs.awake.Awake.raise.Goals as goal

pub invariant_of-self : goal.invariant_of-self
invariant_of-self c =
    let d = c.args.self.now in
    record { tied = kept d.services (state d.controller) _ _ c.raise.ensures.after (raise_serves (state d.controller) c.args.source) d.tied }
