use Rattle.std.proofs.Common.{rules, ◌<◌, replicate, subst, lit<}
use Rattle.dma.specs.Soundness.{AllSound}
use Rattle.dma.proofs.Tables.{all_of_replicate}
use Rattle.dma.proofs.SoundRows.{reset_rows_are_sound}
use Rattle.dma.proofs.bank.Bank.reset.Goals as goal

pub invariant_of-result : goal.invariant_of-result
invariant_of-result c = record {
  channels = subst (λ r. AllSound (replicate 6 r)) (search rules) reset_rows_are_sound;
  words = all_of_replicate (λ n. n < 0x1000000) 4 0 0 (lit< tt) (lit< tt);
  remembered = all_of_replicate (λ n. n < 6) 4 5 0 (lit< tt) (lit< tt);
}
