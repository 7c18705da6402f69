use Rattle.std.proofs.Common.{◌≡◌, ◌<◌, ◌≤◌, length, ◌∙◌, ap, rules, arith}
use Rattle.flow_model.specs.declared.limits.TheConstants.{MOST_LINES}
use Rattle.flow_record.specs.Session.{bad_line}
use Rattle.flow_record.proofs.SessionLemmas.{too_many}
use Rattle.flow_record.proofs.session.read_lines.Goals as goal

pub returns-then-number-ge-MOST_LINES-clause-bad : goal.returns-then-number-ge-MOST_LINES-clause-bad
returns-then-number-ge-MOST_LINES-clause-bad g c = λ line e.
    let some : 0 < length c.loop-rest.rest.now = search rules in
    let many : MOST_LINES ≤ c.loop-rest.number = omega arith in
    let same : c.loop-rest.number ≡ line = cc in
    too_many g.C.Sentence.said _ _ _ _ c.loop-rest.invariant.read some many ∙ ap bad_line same
