use Rattle.std.proofs.Common.{rules, arith, ◌≡◌, sym, ap, ◌∙◌}
use Rattle.dma.specs.Banks.{state_of}
use Rattle.dma.specs.Refusing.{answer}
use Rattle.dma.specs.Sets.{row_refusal}
use Rattle.dma.specs.State.{row_at}
use Rattle.dma.proofs.Changes.{set_sound, refused_as_the_row, channel_set}
use Rattle.dma.proofs.bank.Bank.set.Goals as goal

pub change_row-requires-clause-leaves_sound : goal.change_row-requires-clause-leaves_sound
change_row-requires-clause-leaves_sound c answer row ran =
    let b = c.args.self.now in
    let channel = c.in_ok-try_from-in-Dsr.field-0 in
    let small = c.if-value-gt16777215.false in
    set_sound b.rows channel row c.args.register c.args.value (omega arith) (search rules) b.channels

pub returns-in_ok-try_from-in-Dsr-clause-value : goal.returns-in_ok-try_from-in-Dsr-clause-value
returns-in_ok-try_from-in-Dsr-clause-value c =
    let b = c.args.self.now in
    let channel = c.in_ok-try_from-in-Dsr.field-0 in
    let w = c.in-Dsr in
    let row_answer : c.change_row.result ≡ answer (row_refusal (row_at b.rows channel) c.args.register c.args.value) = search rules in
    row_answer ∙ ap answer (sym (refused_as_the_row (state_of b) c.args.register c.args.value channel (search rules) (omega arith) (search rules)))

pub returns-in_ok-try_from-in-Dsr-clause-after : goal.returns-in_ok-try_from-in-Dsr-clause-after
returns-in_ok-try_from-in-Dsr-clause-after c =
    let s = state_of c.args.self.now in
    let changed = c.change_row.ensures.changed in
    let fits = c.if-value-gt16777215.false in
    changed.2 ∙ channel_set s c.args.register c.args.value c.in_ok-try_from-in-Dsr.field-0 (search rules) (omega arith) (search rules) changed.0 (search rules)
