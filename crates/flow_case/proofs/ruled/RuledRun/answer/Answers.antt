use Rattle.std.proofs.Common.{subst, sym}
use Rattle.flow_case.specs.Ruled.{Ruled}
use Rattle.flow_case.specs.Bar.{IsUnbarred}
use Rattle.flow_case.specs.Invariant.{ruled_by}
use Rattle.flow_case.proofs.Governed.{still_kept}
use Rattle.flow_case.proofs.ruled.RuledRun.answer.Goals as goal

pub invariant_of-self : goal.invariant_of-self
invariant_of-self c =
    let free = subst (λ (x : Ruled). IsUnbarred x c.args.ask c.args.by) (sym c.self.view_is) c.in-None.ensures in
    still_kept (ruled_by c.self.inside) c.answer.new.self c.args.ask c.args.by c.answer.result free c.answer.ensures c.self.invariant
