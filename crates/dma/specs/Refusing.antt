-- A call that may be refused: what it answers, and what it leaves.
use Rattle.std.specs.Prelude.{Some, None, Ok, Err, Option, Result}
use Rattle.memory.specs.declared.refusal.Refusal.{Refusal}

abbrev pub gives : {T : Type 0} → T → Option Refusal → Result T Refusal
gives x None = Ok x
gives x (Some refusal) = Err refusal

abbrev pub answer : Option Refusal → Result (Unit {0}) Refusal
answer = gives tt

-- a refused call leaves what was before
abbrev pub unless : {T : Type 0} → Option Refusal → T → T → T
unless None before after = after
unless (Some refusal) before after = before
