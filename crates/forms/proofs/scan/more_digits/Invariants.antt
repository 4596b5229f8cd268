use Rattle.std.proofs.Common.{◌≡◌, length}
use Rattle.forms.specs.Scanning.{more_digits_of}
use Rattle.forms.proofs.scan.more_digits.Given as goal

abbrev pub invariant-loop-first : goal.invariant-loop-first
invariant-loop-first l = more_digits_of l.number l.rest ≡ more_digits_of l.value l.s

abbrev pub decreases-loop-first : goal.decreases-loop-first
decreases-loop-first l = length l.rest
