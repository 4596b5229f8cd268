use Rattle.std.proofs.Common.{sym, ◌∙◌, subst}
use Rattle.dma.specs.ArbitrationLaws.{Arbitrates}
use Rattle.dma.proofs.Turns.{highest_serves_the_winner, winner_arbitrates}
use Rattle.dma.proofs.arbitration.Contest.winner.Goals as goal

pub returns : goal.returns
returns c =
    let k = c.args.self.now in
    let is = c.served_at.ensures.value ∙ sym (highest_serves_the_winner k _ c.highest.ensures.highest) in
    record { value = is; lawful = λ well. subst (Arbitrates k) (sym is) (winner_arbitrates k well) }
