use Rattle.std.proofs.Common.{ℕ, List, [], inl, inr}
use Rattle.std.proofs.lemmas.Result.{IfOk-weaker}
use Rattle.flow_form.specs.Script.{said}
use Rattle.flow_form.specs.Names.{event_names}
use Rattle.flow_findings.specs.declared.refused.Refused.{Refused}
use Rattle.flow_front.specs.declared.status.Status.{Status}
use Rattle.flow_front.specs.declared.stop.Stop.{Stop}
use Rattle.flow_front.specs.declared.stop.Stop.TheVariants as stop
use Rattle.flow_front.specs.Refusal.{the_source, IsCause}
use Rattle.flow_front.specs.Stop.{IsStop, TellsStop}
use Rattle.flow_front.specs.Prepared.{IsNotPrepared}
use Rattle.embedding.specs.Answer.{IsRefusal}
use Rattle.embedding.proofs.answer.Goals as goal
use Rattle.embedding.proofs.answer.Goals.{in-Ok-prepare, in-Err-prepare}

-- what stopped a call is told
told : (events : List (List ℕ)) (Cause : Refused → Type 0) (why : Stop) (status : Status) (text : List ℕ) → IsStop Cause why → TellsStop events why status text →
    IsRefusal events Cause status text
told events Cause (stop.Refused why) status text cause tells = (why, cause, tells)
told events Cause stop.NoMemory status text cause tells = absurd tells

pub returns-in-Err : goal.returns-in-Err
returns-in-Err g c =
    IfOk-weaker c.refuse.result _ _
    (λ output tells. inl (told [] (IsCause (the_source (g.S.Source.left c.args.source.now))) c.in-Err.stop output.status output.text.items c.in-Err.ensures.stop tells))
    c.refuse.ensures

pub returns : goal.returns
returns g c =
    let s = said c.in-Ok.input.script in
    let second = c.in-Ok.input.second.items in
    elim c.match-prepare.branch [
      | in-Ok-prepare w ↦ (rw w.output-is (IfOk-weaker w.run-output.result _ _
          (λ output reports. inr (s, (second, c.in-Ok.ensures.input, inr (w.in-Ok-prepare.prepared.workflow, w.in-Ok-prepare.ensures.prepared.0, reports))))
          w.run-output.ensures))
      | in-Err-prepare w ↦ (rw w.output-is (IfOk-weaker w.refuse-output.result _ _
          (λ output tells. inr (
            s,
            (
              second,
              c.in-Ok.ensures.input,
              inl (told (event_names s.decls) (IsNotPrepared s) w.in-Err-prepare.stop output.status output.text.items
                  w.in-Err-prepare.ensures.stop tells),
            ),
          ))
          w.refuse-output.ensures))
    ]
