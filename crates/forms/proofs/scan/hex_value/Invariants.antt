use Rattle.std.proofs.Common.{◌≡◌, ◌+◌, ◌^◌, ◌<◌, length}
use Rattle.forms.specs.Scanning.{hex_value}
use Rattle.forms.proofs.scan.hex_value.Given as goal

-- the digits that are left give, after the word so far, the value of all
abbrev pub invariant-loop-digit : goal.invariant-loop-digit
invariant-loop-digit l = record {
  value : hex_value l.word l.digit-iterator.iter.rest.now ≡ hex_value 0 l.digits;
  fits : l.word < 16 ^ length l.yielded;
  all : length l.yielded + length l.digit-iterator.iter.rest.now ≡ 6;
}
