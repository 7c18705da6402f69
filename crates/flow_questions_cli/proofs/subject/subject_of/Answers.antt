use Rattle.std.proofs.Common.{◌≡◌, sym, subst}
use Rattle.std.proofs.lemmas.Result.{IfOk-weaker, IfErr-weaker}
use Rattle.flow_form.specs.Script.{said}
use Rattle.flow_workflow.specs.Definition.{schema_of}
use Rattle.flow_case.specs.Ruled.{Ruled}
use Rattle.flow_questions_cli.specs.declared.subject.Subject.{Subject}
use Rattle.flow_questions_cli.specs.Subject.{IsOfScript}
use Rattle.flow_questions_cli.specs.Stops.{IsUncompiled, IsUnruled}
use Rattle.flow_questions_cli.proofs.SubjectLemmas.{uncompiled}
use Rattle.flow_questions_cli.proofs.subject.subject_of.Goals as goal

pub returns-in-Ok-clause-of_script : goal.returns-in-Ok-clause-of_script
returns-in-Ok-clause-of_script c =
    IfOk-weaker c.subject_with.result (λ (subject : Subject). subject.run ≡ c.in-Ok.run')
    (λ (subject : Subject). IsOfScript (said c.args.script.now) c.args.policy.now subject.run.desk subject.run.rules)
    (λ subject same. subst (λ (x : Ruled). IsOfScript (said c.args.script.now) c.args.policy.now x.desk x.rules) (sym same) c.in-Ok.ensures.of_script)
    c.subject_with.ensures.same

pub returns-in-Ok-clause-refused : goal.returns-in-Ok-clause-refused
returns-in-Ok-clause-refused c =
    IfErr-weaker c.subject_with.result (IsUncompiled (schema_of c.in-Ok.run'.desk.run.definition)) (IsUnruled (said c.args.script.now) c.args.policy.now)
    (λ why is. uncompiled (said c.args.script.now) c.args.policy.now c.in-Ok.run'.desk.run.definition why c.in-Ok.ensures.of_script.expanded is)
    c.subject_with.ensures.refused
