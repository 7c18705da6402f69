use Rattle.std.proofs.Common.{List, ℕ, ◌++◌, ap, ◌∙◌}
use Rattle.flow_reply.proofs.SessionLemmas.{told_conclusion}
use Rattle.flow_reply.proofs.session.conclude.Goals as goal

pub returns-clause-output : goal.returns-clause-output
returns-clause-output c =
    told_conclusion c.args.core.now c.verdict_of-verdict.result c.status_of-status.result c.args.replies.items c.in_ok-report.report.items c.extend_from_slice.new.self.items
    c.verdict_of-verdict.ensures.verdict c.status_of-status.ensures c.in_ok-report.ensures
    (c.in_ok-extend_from_slice.ensures.items ∙ ap (λ (bytes : List ℕ). c.args.replies.items ++ bytes) c.deref.ensures.value)
