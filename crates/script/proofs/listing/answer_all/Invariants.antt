use Rattle.std.proofs.Common.{◌≡◌, ◌≤◌, ◌+◌, ◌++◌, length, vec_items, vec_len, vec_capacity}
use Rattle.script.specs.Listing.{answers_of, after_all}
use Rattle.script.proofs.listing.answer_all.Given as goal

-- the answers so far, and those to what is left, are the whole
abbrev pub invariant-loop-form : goal.invariant-loop-form
invariant-loop-form g l = record {
  room : vec_len l.answers + length l.form-iterator.iter.rest.now ≤ vec_capacity l.answers;
  answered : vec_items l.answers ++ answers_of (g.M.Memory.meaning l.memory) l.form-iterator.iter.rest.now ≡ answers_of (g.M.Memory.meaning l.initial.memory) l.forms;
  carried_out : after_all (g.M.Memory.meaning l.memory) l.form-iterator.iter.rest.now ≡ after_all (g.M.Memory.meaning l.initial.memory) l.forms;
}
