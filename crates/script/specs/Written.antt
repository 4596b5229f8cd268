-- How an answer is written in the listing.
use Rattle.std.specs.Prelude.{ℕ, Bool, if◌then◌else◌, ◌&&◌, List, [], ◌++◌, codes, decimal, nat_le}
use Rattle.std.specs.Char.{encode_utf8}
use Rattle.memory.specs.declared.refusal.Fault as fault
use Rattle.memory.specs.declared.refusal.Refusal.{Refusal}
use Rattle.memory.specs.declared.refusal.Refusal.TheVariants as refusal
use Rattle.memory.specs.Refusals.{number}
use Rattle.forms.specs.Spelling.{spelled_place, spelled_word}
use Rattle.script.specs.declared.answer.Answer.{Answer}
use Rattle.script.specs.declared.answer.Answer.TheVariants.{Done, Word, Fault, NoForm}

-- whether the place is told: it is where an absent or a fixed place refused, which is 13 to 15
abbrev pub tells_place : Refusal → Bool
tells_place cause = nat_le 13 (number cause) && nat_le (number cause) 15

-- a refusal's number, and the line that it answers
abbrev pub refused : Refusal → ℕ → List ℕ
refused cause line = codes "(refused " ++ decimal (number cause) ++ codes " at " ++ decimal line

-- the place, its owner's letter and its owner's depth
abbrev pub whereabouts : fault.Fault → List ℕ
whereabouts f = codes " " ++ spelled_place f.place ++ codes " " ++ encode_utf8 f.owner.letter ++ codes " " ++ decimal f.owner.depth

abbrev pub written_fault : ℕ → fault.Fault → List ℕ
written_fault line f = refused f.cause line ++ (if tells_place f.cause then whereabouts f else []) ++ codes ")"

-- the answer to the line of that number
abbrev pub written : ℕ → Answer → List ℕ
written line Done = codes "(ok)"
written line (Word w) = codes "(word " ++ spelled_word w ++ codes ")"
written line (Fault f) = written_fault line f
written line NoForm = refused refusal.NoForm line ++ codes ")"
