use Rattle.flow_turn.proofs.TurnLemmas.{turns}
use Rattle.flow_turn.proofs.turn.take_turn.Goals as goal

pub returns-clause-turned : goal.returns-clause-turned
returns-clause-turned g c =
    turns g.T.Kept.entries g.T.Kept.caller g.T.Kept.fixed (g.J.Job.does c.args.job) c.args.seat.now c.draw-ticket.new.seat c.wait.new.seat c.work-answer.new.seat c.pass_on.new.seat c.draw-ticket.result
    c.work-answer.result c.draw-ticket.ensures.same.0 c.wait.ensures.same.0 c.draw-ticket.ensures.drew c.wait.ensures.turn c.work-answer.ensures.works c.pass_on.ensures.known
