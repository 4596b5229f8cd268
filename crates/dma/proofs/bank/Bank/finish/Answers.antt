use Rattle.std.proofs.Common.{rules, false}
use Rattle.dma.specs.Services.{return_row_refusal}
use Rattle.dma.specs.State.{row_at}
use Rattle.dma.proofs.Changes.{service_sound}
use Rattle.dma.proofs.bank.Bank.finish.Goals as goal

pub change_row-requires-clause-leaves_sound : goal.change_row-requires-clause-leaves_sound
change_row-requires-clause-leaves_sound c answer row ran =
    let b = c.args.self.now in
    let r = row_at b.rows c.args.c in
    service_sound b.rows c.args.c (return_row_refusal r) row r.requested false (search rules) b.channels
