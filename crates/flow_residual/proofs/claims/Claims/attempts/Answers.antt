use Rattle.std.proofs.Common.{sym, ap, ◌∙◌, take}
use Rattle.flow_residual.specs.Claimed.{count_of}
use Rattle.flow_residual.proofs.Counting.{count_none, count_last}
use Rattle.flow_residual.proofs.claims.Claims.attempts.Goals as goal

pub returns-in-Some : goal.returns-in-Some
returns-in-Some c =
    let last = c.in-Some.ensures in
    last.is_given.attempt ∙ ap (λ event. count_of event (take last.number c.args.self.now.events)) last.on_event
    ∙ count_last c.args.event last.number c.args.self.now.events last.none_later

pub returns-in-None : goal.returns-in-None
returns-in-None c = sym (count_none c.args.event c.args.self.now.events c.in-None.ensures)
