use Rattle.std.proofs.Common.{rules, refl}
use Rattle.std.proofs.lemmas.Iterator.{YieldsList-from_range, YieldsList-from_map, items_from_collect}
use Rattle.std.proofs.lemmas.Result.{IfOk-weaker}
use Rattle.dmarun.specs.Console.{image_word}
use Rattle.dmarun.proofs.Images.{image_of}
use Rattle.dmarun.proofs.console.image.Goals as goal

pub returns : goal.returns
returns c =
    let made = items_from_collect _ c.collect.ensures.ran (YieldsList-from_map _ image_word (YieldsList-from_range 0 768 768 c.map.ensures.source refl) c.map.ensures.closure (λ x r q h. search rules)) in
    record { value = IfOk-weaker _ _ _ (λ v e. image_of _ e) made }
