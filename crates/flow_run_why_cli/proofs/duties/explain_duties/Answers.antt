use Rattle.std.proofs.Common.{ℕ, List, subst}
use Rattle.std.specs.Prelude.{IfOk}
use Rattle.flow_form.specs.Script.{said}
use Rattle.flow_form.specs.Names.{event_names}
use Rattle.flow_run_why_cli.specs.Told.{IsToldOf}
use Rattle.flow_run_why_words.specs.Parts.{part_of}
use Rattle.flow_run_why_cli.specs.Session.{DutyText}
use Rattle.flow_run_why_cli.proofs.Refusals.{duty_tellable}
use Rattle.flow_run_why_cli.proofs.Telling.{stop_told, stopped, came}
use Rattle.flow_run_why_cli.proofs.duties.explain_duties.Goals as goal

pub tell_duty_stop-requires-clause-told : goal.tell_duty_stop-requires-clause-told
tell_duty_stop-requires-clause-told c =
    let s = said c.args.script.now in
    let who = c.without_divider-who.result.now in
    let part = c.without_divider-part.result.now in
    stop_told c.args.form (event_names s.decls) (DutyText s who part) c.in-Err.stop (duty_tellable s who part) c.in-Err.ensures

pub returns-in-Ok : goal.returns-in-Ok
returns-in-Ok c =
    let s = said c.args.script.now in
    let Told : List ℕ → List ℕ → Type 0 = λ who part. IsToldOf (event_names s.decls) (DutyText s who part) c.args.form c.in-Ok.output.status c.in-Ok.output.text.items in
    subst (λ (who : List ℕ). Told who (part_of c.args.session.now)) c.without_divider-who.ensures
    (subst (λ (part : List ℕ). Told c.without_divider-who.result.now part) c.without_divider-part.ensures
    (came c.args.form (event_names s.decls) (DutyText s c.without_divider-who.result.now c.without_divider-part.result.now) c.in-Ok.output c.in-Ok.ensures))

pub returns : goal.returns
returns c =
    let s = said c.args.script.now in
    let Told : List ℕ → List ℕ → Type 0 = λ who part.
    IfOk c.tell_duty_stop.result (λ output. IsToldOf (event_names s.decls) (DutyText s who part) c.args.form output.status output.text.items) in
    subst (λ (who : List ℕ). Told who (part_of c.args.session.now)) c.without_divider-who.ensures
    (subst (λ (part : List ℕ). Told c.without_divider-who.result.now part) c.without_divider-part.ensures
    (stopped c.args.form (event_names s.decls) (DutyText s c.without_divider-who.result.now c.without_divider-part.result.now) c.in-Err.stop c.tell_duty_stop.result
    c.in-Err.ensures c.tell_duty_stop.ensures))
