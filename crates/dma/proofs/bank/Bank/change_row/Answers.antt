use Rattle.std.proofs.Common.{rules, refl}
use Rattle.dma.proofs.Changes.{sound_with}
use Rattle.dma.proofs.bank.Bank.change_row.Goals as goal

pub invariant_of-self-clause-channels : goal.invariant_of-self-clause-channels
invariant_of-self-clause-channels g c =
    let b = c.args.self.now in
    sound_with b.rows _ _ b.channels
    (c.requires.leaves_sound c.change-answer.result _ record { shown = _; shows = search rules; left = _; met = c.change-answer.ensures; leaves = refl })
