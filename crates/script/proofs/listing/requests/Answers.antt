use Rattle.std.proofs.Common.{rules}
use Rattle.std.proofs.lemmas.Iterator.{YieldsList-from_take, YieldsList-from_map, items_from_collect}
use Rattle.std.proofs.lemmas.Iterator.Consumers.{YieldsList-from_first, YieldsList-at}
use Rattle.script.specs.Lines.{lines, lines_left}
use Rattle.script.specs.Listing.{request_of}
use Rattle.script.proofs.Cutting.{cut_lines}
use Rattle.script.proofs.listing.requests.Goals as goal

pub returns-clause-value : goal.returns-clause-value
returns-clause-value c =
    items_from_collect _ c.collect.ensures.ran
    (YieldsList-from_map _ request_of (YieldsList-at c.map.ensures.source (YieldsList-from_take 99999 (YieldsList-from_first (λ x. x.now) lines_left (lines c.args.input.now) (cc)) c.take.ensures.count)) c.map.ensures.closure (λ x r q k. search rules))

pub returns-clause-cut : goal.returns-clause-cut
returns-clause-cut c = cut_lines _
