use Rattle.dmarun.proofs.Images.{composed}
use Rattle.dmarun.proofs.console.memory.Goals as goal

pub returns : goal.returns
returns c =
    record {
      meaning =
          composed _ _ c.in_ok-words.ensures.value (c.in_ok-bytes.ensures.items_if_clones_equal (λ y e. e)) _ _ c.new.ensures.meaning c.new-2.ensures.meaning;
    }
