use Rattle.std.proofs.Common.{map, subst, ap, ◌∙◌}
use Rattle.std.proofs.lemmas.Result.{IfOk-weaker}
use Rattle.flow_core.specs.Run.{Run}
use Rattle.flow_standing.specs.Standing.{AreStandings}
use Rattle.flow_desk.specs.Mark.{mark_of}
use Rattle.flow_desk.proofs.Shown.{marks_shown}
use Rattle.flow_desk.proofs.marks.marks_of.Goals as goal

pub returns-clause-marks : goal.returns-clause-marks
returns-clause-marks c =
    let standings = c.in_ok-standings.standings.items in
    let are = subst (λ (r : Run). AreStandings r standings) c.look_ahead.ensures c.in_ok-standings.ensures in
    IfOk-weaker c.marks_for.result _ _
    (λ marks is. marks_shown c.args.core.now standings marks.items are (is ∙ ap (map mark_of) c.deref.ensures.value)) c.marks_for.ensures
