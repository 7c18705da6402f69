use Rattle.std.proofs.Common.{ℕ, List, subst}
use Rattle.std.specs.Prelude.{IfOk}
use Rattle.std.proofs.lemmas.Result.{IfOk-weaker}
use Rattle.flow_form.specs.Script.{said}
use Rattle.flow_form.specs.Names.{event_names}
use Rattle.flow_run_why_cli.specs.Told.{IsToldOf}
use Rattle.flow_run_why_cli.specs.Query.{VerifiesText}
use Rattle.flow_run_why_cli.proofs.Refusals.{verifies_tellable}
use Rattle.flow_run_why_cli.proofs.Telling.{stop_told, stopped, came}
use Rattle.flow_run_why_cli.proofs.query.explain_asked.Goals as goal

pub tell_stop-requires-clause-told : goal.tell_stop-requires-clause-told
tell_stop-requires-clause-told c =
    let s = said c.args.script.now in
    let part = c.without_divider-part.result.now in
    stop_told c.args.form (event_names s.decls) (VerifiesText part s) c.in-Err.stop (verifies_tellable s part) c.in-Err.ensures

pub returns-in-Ok : goal.returns-in-Ok
returns-in-Ok c =
    let s = said c.args.script.now in
    subst (λ (part : List ℕ). IsToldOf (event_names s.decls) (VerifiesText part s) c.args.form c.in-Ok.output.status c.in-Ok.output.text.items) c.without_divider-part.ensures
    (came c.args.form (event_names s.decls) (VerifiesText c.without_divider-part.result.now s) c.in-Ok.output c.in-Ok.ensures)

pub returns-in-Err : goal.returns-in-Err
returns-in-Err c =
    let s = said c.args.script.now in
    subst (λ (part : List ℕ). IfOk c.tell_stop.result (λ output. IsToldOf (event_names s.decls) (VerifiesText part s) c.args.form output.status output.text.items))
    c.without_divider-part.ensures
    (stopped c.args.form (event_names s.decls) (VerifiesText c.without_divider-part.result.now s) c.in-Err.stop c.tell_stop.result c.in-Err.ensures c.tell_stop.ensures)
