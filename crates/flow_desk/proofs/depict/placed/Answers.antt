use Rattle.std.proofs.Common.{sym, subst}
use Rattle.flow_form.specs.Script.{said}
use Rattle.flow_desk.specs.Desk.{IsNotPlaced}
use Rattle.flow_desk.proofs.Depictions.{not_placed}
use Rattle.flow_desk.proofs.depict.placed.Goals as goal

pub returns-in-Err-clause-stop : goal.returns-in-Err-clause-stop
returns-in-Err-clause-stop c =
    let s = said c.args.script.now in
    let w = c.args.workflow.now in
    subst (IsNotPlaced s c.args.labels w) (sym c.view_stop.ensures) (not_placed s c.args.labels w c.in-Err.refusal c.in-Err.ensures.refused)
