use Rattle.std.proofs.Common.{ℕ, IsTrue, List, subst, sym, ◌∙◌}
use Rattle.leaf_rows.specs.Leaves.{has_leaf}
use Rattle.flow_plan.proofs.Readiness.{Before}
use Rattle.flow_model.specs.Lists.{Each}
use Rattle.flow_plan.specs.Known.{AreLaidOut}
use Rattle.flow_plan.specs.Parts.{PartAllows}
use Rattle.flow_plan.proofs.KnownLemmas.{none_given}
use Rattle.flow_plan.proofs.StepRows.{not_ruled_out, settled_by_first, settled_by_found}
use Rattle.flow_plan.proofs.table.Table.first_missing.Goals as goal

pub returns-in-Some-first_outside-clause-settled : goal.returns-in-Some-first_outside-clause-settled
returns-in-Some-first_outside-clause-settled g c = λ p table same done tell first refused next after.
    let found : ℕ = c.in-Some-first_outside.first in
    let (_, mine, waits) = c.in-Some-first_outside.ensures.some in
    settled_by_first table.fields (λ x. IsTrue (done x)) c.args.sides.now tell c.args.leaf first refused next after found ((c.in-Some.ensures.row p table same found).0 mine) waits

pub returns-in-None-clause-settled : goal.returns-in-None-clause-settled
returns-in-None-clause-settled g c = λ p table same done tell first refused next after.
    let sides = c.args.sides.now in
    let leaf = c.args.leaf in
    let all : (x : ℕ) → Before p x leaf → IsTrue (has_leaf sides.settled x) = λ x direct. c.in-None.ensures.none x ((c.in-Some.ensures.row p table same x).1 direct) in
    let t = c.args.self.now in
    let laid = subst (λ (ns : List ℕ). AreLaidOut ns t.spans.items t.parts.items) (sym table.fields.listed ∙ same) (table.fields.parts_are.placed, table.spans_are) in
    settled_by_found table.fields (λ x. IsTrue (done x)) sides tell leaf first refused next after all c.missing.result
    c.missing.ensures.some (none_given (AreLaidOut c.args.leaves.now t.spans.items t.parts.items) (Each (λ row. PartAllows row sides leaf) t.parts.items) c.missing.result laid c.missing.ensures.none)

pub returns-then-rule_out-clause-settled : goal.returns-then-rule_out-clause-settled
returns-then-rule_out-clause-settled g c = λ p table same done tell first refused next after.
    absurd (not_ruled_out table.fields (λ x. IsTrue (done x)) c.args.sides.now tell c.args.leaf first refused next after (c.rule_out.ensures.0 c.if-rule_out.true))
