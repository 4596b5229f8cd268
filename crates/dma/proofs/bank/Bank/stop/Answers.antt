use Rattle.std.proofs.Common.{rules}
use Rattle.dma.specs.Stops.{halted}
use Rattle.dma.proofs.Changes.{sound_mapped, halted_keeps}
use Rattle.dma.proofs.Tables.{mapped_by}
use Rattle.dma.proofs.bank.Bank.stop.Goals as goal

pub invariant_of-self : goal.invariant_of-self
invariant_of-self c =
    let b = c.args.self.now in
    let all = mapped_by halted c.map-self.ensures.items (search rules) (λ x y q ran. search rules) in
    record { channels = sound_mapped b.rows halted _ all b.channels halted_keeps; words = b.words; remembered = b.remembered }

pub returns-clause-after : goal.returns-clause-after
returns-clause-after c =
    let all = mapped_by halted c.map-self.ensures.items (search rules) (λ x y q ran. search rules) in
    search rules
