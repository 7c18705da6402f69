use Rattle.std.proofs.Common.{◌≡◌, ◌≤◌, ℕ, List, length, arith, ap, ◌∙◌}
use Rattle.flow_form.specs.Script.{said}
use Rattle.flow_audit.specs.Cuts.{cuts_of}
use Rattle.flow_audit.specs.declared.cuts.TheConstants.{MOST_JOURNALS}
use Rattle.flow_front.specs.Refusal.{the_journals}
use Rattle.flow_front.proofs.Stages.{goes_on}
use Rattle.flow_cli.specs.Finding.{IsOutputOf}
use Rattle.flow_cli.specs.Audit.{HasJournals, AuditsSaid}
use Rattle.flow_cli.proofs.run.Crew.audit_text.Goals as goal

pub returns : goal.returns
returns g c =
    let parts : c.deref.result.now ≡ cuts_of c.args.text.now = c.deref.ensures.value ∙ c.in_ok-cuts.ensures.parts in
    let few : length c.deref.result.now ≤ MOST_JOURNALS = omega (arith, c.if-len.false, c.len.ensures, ap (λ (cuts : List (ℕ × ℕ)). length cuts) c.deref.ensures.value) in
    goes_on IsOutputOf (the_journals c.args.text.now) (HasJournals c.args.text.now) (AuditsSaid (said c.args.script.now) c.args.text.now) c.deref.result.now
    c.audit_script.result (parts, few) c.audit_script.ensures
