use Rattle.dma.specs.Controllers.{state}
use Rattle.history.proofs.Serving.{kept, set_serves}
use Rattle.history.proofs.awake.Awake.set.Goals as goal

pub invariant_of-self : goal.invariant_of-self
invariant_of-self c =
    let d = c.args.self.now in
    record { tied = kept d.services (state d.controller) _ _ c.set.ensures.after (set_serves (state d.controller) c.args.register c.args.value) d.tied }
