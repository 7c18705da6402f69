use Rattle.std.proofs.Common.{◌≡◌, ◌∙◌, List, Option, None, Some, length, sym, ap, rules}
use Rattle.std.specs.Option.{IfNone, IfSome}
use Rattle.std.proofs.lemmas.List.{length-map}
use Rattle.std.proofs.lemmas.Result.{IfOk-weaker}
use Rattle.flow_model.specs.Constraint.{Constraint}
use Rattle.flow_workflow.specs.Rule.{rule_of}
use Rattle.flow_why.proofs.Sets.{met_by_all, unmet_by_all}
use Rattle.flow_why.proofs.contradiction.why_not.Goals as goal

none_weaker : {A : Type 0} (o : Option A) (P Q : Type 0) → (P → Q) → IfNone o P → IfNone o Q
none_weaker None P Q f h = f h
none_weaker (Some x) P Q f h = h

some_weaker : {A : Type 0} (o : Option A) (P Q : Type 0) → (P → Q) → IfSome o (λ x. P) → IfSome o (λ x. Q)
some_weaker None P Q f h = h
some_weaker (Some x) P Q f h = f h

pub returns-clause-none : goal.returns-clause-none
returns-clause-none c =
    let w = c.args.workflow.now in
    let counted : c.in-Ok.count ≡ length c.rules.result.now = search rules in
    let all : c.in-Ok.count ≡ length w.rules = counted ∙ sym (length-map c.rules.result.now rule_of) ∙ ap (λ (cs : List Constraint). length cs) c.rules.ensures in
    IfOk-weaker c.least_conflict.result _ _ (λ found h. none_weaker found _ _ (met_by_all w c.in-Ok.count c.args.front.now all) h) c.least_conflict.ensures.none

pub returns-clause-some : goal.returns-clause-some
returns-clause-some c =
    let w = c.args.workflow.now in
    let counted : c.in-Ok.count ≡ length c.rules.result.now = search rules in
    let all : c.in-Ok.count ≡ length w.rules = counted ∙ sym (length-map c.rules.result.now rule_of) ∙ ap (λ (cs : List Constraint). length cs) c.rules.ensures in
    IfOk-weaker c.least_conflict.result _ _ (λ found h. some_weaker found _ _ (unmet_by_all w c.in-Ok.count c.args.front.now all) h) c.least_conflict.ensures.some
