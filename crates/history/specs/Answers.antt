-- What a device answers where a call of the controller or of the memory answers.
use Rattle.std.specs.Prelude.{ℕ, Ok, Err, Result}
use Rattle.dma.specs.declared.masks.Masks.{Masks}
use Rattle.memory.specs.declared.refusal.Fault.{Fault as MemoryFault}
use Rattle.memory.specs.declared.refusal.Refusal.{Refusal}
use Rattle.history.specs.declared.call.Answer.{Answer}
use Rattle.history.specs.declared.call.Answer.TheVariants.{Done, Word, Raised, Refused, Fault}

-- an outcome is told by what it holds
abbrev pub told : {T E : Type 0} → (T → Answer) → (E → Answer) → Result T E → Answer
told value error (Ok x) = value x
told value error (Err e) = error e

abbrev pub done : Result (Unit {0}) Refusal → Answer
done = told (λ u. Done) (λ refusal. Refused refusal)

abbrev pub word : Result ℕ Refusal → Answer
word = told (λ w. Word w) (λ refusal. Refused refusal)

abbrev pub raised : Result Masks Refusal → Answer
raised = told (λ masks. Raised masks) (λ refusal. Refused refusal)

abbrev pub loaded : Result ℕ MemoryFault → Answer
loaded = told (λ w. Word w) (λ fault. Fault fault)

abbrev pub stored : Result (Unit {0}) MemoryFault → Answer
stored = told (λ u. Done) (λ fault. Fault fault)
