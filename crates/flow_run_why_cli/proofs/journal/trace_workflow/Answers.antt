use Rattle.std.proofs.Common.{◌≡◌, ℕ, List, subst}
use Rattle.flow_record.specs.Journal.{journal_of, journal}
use Rattle.flow_front.specs.Refusal.{the_journal}
use Rattle.flow_front.proofs.Stages.{goes_on}
use Rattle.flow_run_why_cli.specs.Told.{IsOutputOf, Tells}
use Rattle.flow_run_why_cli.specs.Journal.{TracesLeaves}
use Rattle.flow_run_why_cli.proofs.journal.trace_workflow.Goals as goal

pub returns-in-Ok : goal.returns-in-Ok
returns-in-Ok c =
    let w = c.args.workflow in
    goes_on (IsOutputOf c.args.form) (the_journal w c.args.journal.now) (λ leaves. journal_of w c.args.journal.now ≡ journal leaves) (TracesLeaves w)
    c.in-Ok.leaves.items c.trace_leaves.result c.in-Ok.ensures.ok
    (subst (λ (leaves : List ℕ). Tells c.args.form (TracesLeaves w leaves) c.trace_leaves.result) c.deref.ensures.value c.trace_leaves.ensures)
