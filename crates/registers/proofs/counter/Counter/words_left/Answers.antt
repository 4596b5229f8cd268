use Rattle.std.proofs.Common.{arith}
use Rattle.registers.proofs.Layouts.{words_left_fit, lines_left_fit}
use Rattle.registers.proofs.counter.Counter.words_left.Goals as goal

pub overflow_add-result-2 : goal.overflow_add-result-2
overflow_add-result-2 c = omega (arith, lines_left_fit c.args.self.layout _ _ c.preloaded-full.ensures.fits c.counted-now.ensures.fits)

pub overflow_mul-result-2 : goal.overflow_mul-result-2
overflow_mul-result-2 c = omega (arith, words_left_fit c.args.self.layout _ _ c.preloaded-full.ensures.fits c.counted-now.ensures.fits)

pub overflow_add-result-4 : goal.overflow_add-result-4
overflow_add-result-4 c = omega (arith, words_left_fit c.args.self.layout _ _ c.preloaded-full.ensures.fits c.counted-now.ensures.fits)

pub overflow_add-result-5 : goal.overflow_add-result-5
overflow_add-result-5 c = omega (arith, words_left_fit c.args.self.layout _ _ c.preloaded-full.ensures.fits c.counted-now.ensures.fits)
