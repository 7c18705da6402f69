use Rattle.std.proofs.Common.{refl, sym, ap, subst}
use Rattle.flow_reply.specs.declared.summary.Summary.{Summary}
use Rattle.flow_reply.specs.declared.verdict.Verdict.{Verdict}
use Rattle.flow_reply.specs.Conclusion.{Means}
use Rattle.flow_cli.specs.Finding as finding
use Rattle.flow_cli.proofs.Runs.{summed_as, summarizes}
use Rattle.flow_cli.proofs.run.Crew.run_generated.Goals as goal

pub returns : goal.returns
returns g c =
    let request = c.args.self.now.request in
    let (meant, run, means) = c.in_ok-core.ensures in
    let same = ap (λ (s : Summary). s.verdict) c.summary_of-summary.ensures in (
      finding.summarized c.summary_of-summary.result meant,
      (
        c.in_ok-workflow.workflow,
        c.in_ok-workflow.ensures,
        (
          c.summary_of-summary.result,
          (
            meant,
            summarizes g.G.Gate.gives c.in_ok-workflow.workflow request.seed request.size request.steps request.workers c.in-Ok.compiled c.in_ok-core.core
                c.in_ok-core.verdict meant c.counts-counts.result c.summary_of-summary.result c.in-Ok.ensures c.counts-counts.ensures.live run means
                c.counts-counts.ensures.counts c.summary_of-summary.ensures,
            refl,
          ),
        ),
      ),
      record {
        status_is = c.status_of.ensures c.in_ok-core.core meant means;
        output_is = summed_as c.in_ok-core.core c.summary_of-summary.result meant c.in_ok-text.field-0.items
            (subst (λ (v : Verdict). Means c.in_ok-core.core v meant) (sym same) means) c.in_ok-text.ensures;
      },
    )
