use Rattle.std.proofs.Common.{◌≡◌}
use Rattle.registers.specs.Laws.{after_word}
use Rattle.registers.proofs.Layouts.{counted_goes_on, counted_starts_again}
use Rattle.registers.proofs.counter.Counter.step.Goals as goal

pub returns-clause-goes_on : goal.returns-clause-goes_on
returns-clause-goes_on c =
    let count : c.joined.result ≡ (after_word c.args.self).count = cc in
    rw (count, c.ends_block.ensures.value, c.counted-now.ensures.value) (counted_goes_on c.args.self)

pub returns-clause-starts_again : goal.returns-clause-starts_again
returns-clause-starts_again c =
    let count : c.joined.result ≡ (after_word c.args.self).count = cc in
    rw (count, c.ends_block.ensures.value, c.counted-now.ensures.value) (counted_starts_again c.args.self)
