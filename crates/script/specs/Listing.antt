-- The listing of a script over a memory, and the memory that the script leaves.
use Rattle.std.specs.Prelude.{ℕ, suc, if◌then◌else◌, List, [], ◌∷◌, ◌++◌, map, length, take, Some, None, Ok, Err, Option, Result, nat_lt}
use Rattle.memory.specs.declared.refusal.Fault as fault
use Rattle.memory.specs.Meaning.{Meaning, load_answer, store_answer, after_store}
use Rattle.forms.specs.declared.form.Form.{Form}
use Rattle.forms.specs.declared.form.Form.TheVariants.{Store, Load, Set, Get, Raise, Slot, Serve, Stop, Wake}
use Rattle.forms.specs.Reading.{form_of}
use Rattle.forms.specs.Spelling.{WordFits}
use Rattle.script.specs.declared.answer.Answer.{Answer}
use Rattle.script.specs.declared.answer.Answer.TheVariants.{Done, Word, Fault, NoForm}
use Rattle.script.specs.Lines.{line_feed, lines}
use Rattle.script.specs.Written.{written}

-- how many lines are read
abbrev pub most_lines : ℕ
most_lines = 99999

-- how many bytes a line may have
abbrev pub most_bytes : ℕ
most_bytes = 80

-- the form that a line asks for: a line that is too long asks for none
abbrev pub request_of : List ℕ → Option Form
request_of line = if nat_lt most_bytes (length line) then None else form_of line

abbrev pub requests_of : List ℕ → List (Option Form)
requests_of input = map request_of (take most_lines (lines input))

abbrev pub loaded : Result ℕ fault.Fault → Answer
loaded (Ok word) = Word word
loaded (Err refusal) = Fault refusal

abbrev pub stored : Result (Unit {0}) fault.Fault → Answer
stored (Ok done) = Done
stored (Err refusal) = Fault refusal

-- what a form is answered from a memory: only stores and loads are served
abbrev pub form_answer : Meaning → Form → Answer
form_answer m (Store p w) = stored (store_answer m p w)
form_answer m (Load p) = loaded (load_answer m p)
form_answer m (Set r w) = NoForm
form_answer m (Get r) = NoForm
form_answer m (Raise s) = NoForm
form_answer m Slot = NoForm
form_answer m (Serve c) = NoForm
form_answer m Stop = NoForm
form_answer m Wake = NoForm

-- the memory after a form: only a store changes it
abbrev pub after_form : Meaning → Form → Meaning
after_form m (Store p w) = after_store m p w
after_form m (Load p) = m
after_form m (Set r w) = m
after_form m (Get r) = m
after_form m (Raise s) = m
after_form m Slot = m
after_form m (Serve c) = m
after_form m Stop = m
after_form m Wake = m

-- what a line is answered by what it asks for, and the memory after it
abbrev pub answer_of : Meaning → Option Form → Answer
answer_of m None = NoForm
answer_of m (Some form) = form_answer m form

abbrev pub after_request : Meaning → Option Form → Meaning
after_request m None = m
after_request m (Some form) = after_form m form

-- each is answered from the memory as those before it left it
abbrev pub answers_of : Meaning → List (Option Form) → List Answer
answers_of m [] = []
answers_of m (form ∷ forms) = answer_of m form ∷ answers_of (after_request m form) forms

abbrev pub after_all : Meaning → List (Option Form) → Meaning
after_all m [] = m
after_all m (form ∷ forms) = after_all (after_request m form) forms

-- the answers to the lines from that number on, each ended by a line feed
abbrev pub written_from : ℕ → List Answer → List ℕ
written_from line [] = []
written_from line (answer ∷ answers) = written line answer ++ (line_feed ∷ written_from (suc line) answers)

abbrev pub listing_of : Meaning → List ℕ → List ℕ
listing_of m input = written_from 1 (answers_of m (requests_of input))

abbrev pub memory_after : Meaning → List ℕ → Meaning
memory_after m input = after_all m (requests_of input)

-- a word that is answered has 24 bits, so that six digits lose nothing of it
abbrev pub AnswerFits : Answer → Type 0
AnswerFits Done = Unit {0}
AnswerFits (Word w) = WordFits w
AnswerFits (Fault f) = Unit {0}
AnswerFits NoForm = Unit {0}
