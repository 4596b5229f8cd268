use Rattle.std.proofs.Common.{rules, false, true}
use Rattle.dma.specs.Services.{begin_row_refusal}
use Rattle.dma.specs.State.{row_at}
use Rattle.dma.proofs.Changes.{service_sound}
use Rattle.dma.proofs.bank.Bank.begin.Goals as goal

pub change_row-requires-clause-leaves_sound : goal.change_row-requires-clause-leaves_sound
change_row-requires-clause-leaves_sound c answer row ran =
    let b = c.args.self.now in
    let channel = c.in_ok-channel.channel in
    service_sound b.rows channel (begin_row_refusal (row_at b.rows channel)) row false true (search rules) b.channels
