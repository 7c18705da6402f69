use Rattle.std.proofs.Common.{◌↔◌, not, IsTrue, sym, subst}
use Rattle.flow_model.specs.declared.history.FailEffect.{FailEffect}
use Rattle.flow_model.specs.Run.{IsCurrent}
use Rattle.flow_core.specs.Run.{now}
use Rattle.flow_core.specs.Answers.{HasEffect}
use Rattle.flow_core.proofs.MakeByAsks.{kept_where}
use Rattle.flow_core.proofs.run.Core.would_have.Goals as goal

pub returns-in-Kept : goal.returns-in-Kept
returns-in-Kept c =
    let r = c.args.self.now in
    let claim = c.args.claim in
    let avoids = c.can_avoid-in-Kept.result in
    subst (λ (effect : FailEffect). IsTrue (not avoids) ↔ (IsCurrent (now r) claim × HasEffect r claim effect)) (sym c.in-Kept.is)
    (kept_where r claim c.in-Some.given avoids c.in-Some.ensures c.can_avoid-in-Kept.ensures)
