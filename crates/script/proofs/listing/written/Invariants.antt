use Rattle.std.proofs.Common.{◌≡◌, ◌+◌, ◌++◌, length, string_bytes}
use Rattle.script.specs.Listing.{written_from}
use Rattle.script.proofs.listing.written.Given as goal

-- the text so far, and what is still to be written, are the whole
abbrev pub invariant-loop-answer : goal.invariant-loop-answer
invariant-loop-answer l =
    (string_bytes l.text ++ written_from l.answer-iterator.b.start l.answer-iterator.a.iter.rest.now ≡ written_from 1 l.answers)
    × (l.answer-iterator.b.start + length l.answer-iterator.a.iter.rest.now ≡ 1 + length l.answers)
