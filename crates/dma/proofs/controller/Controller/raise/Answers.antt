use Rattle.std.proofs.Common.{◌∙◌}
use Rattle.dma.specs.Controllers.{state}
use Rattle.dma.proofs.Listeners.{nobody_answers, nothing_changes}
use Rattle.dma.proofs.controller.Controller.raise.Goals as goal

pub returns : goal.returns
returns c =
    let s = state c.args.self.now in
    let said = c.raise.ensures in
    record {
      value = said.value;
      after = said.after;
      no_listener_changes_nothing = λ there none. (said.value ∙ nobody_answers s c.args.source there none, said.after ∙ nothing_changes s c.args.source there none);
    }
