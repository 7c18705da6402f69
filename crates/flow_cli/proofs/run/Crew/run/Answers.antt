use Rattle.std.proofs.Common.{sym, ap, ◌∙◌, subst}
use Rattle.flow_core.specs.Run.{Run, schema}
use Rattle.flow_core.specs.Lawful.{IsLawful}
use Rattle.flow_reply.specs.declared.verdict.Verdict.TheVariants.{Ended}
use Rattle.flow_cli.specs.Run.{HasRun}
use Rattle.flow_cli.proofs.Runs.{run_of}
use Rattle.flow_cli.proofs.run.Crew.run.Goals as goal

pub returns : goal.returns
returns g c =
    let begun = c.new.ensures ∙ c.in_ok-core.ensures in
    let last = c.run_crew-book.result.0 in
    let is = c.into_core-core.ensures.run in
    let ran =
    run_of g.G.Gate.gives c.args.prepared.workflow c.args.self.now.request.steps c.args.self.now.request.workers last c.run_crew-book.result.1
    (c.run_crew-book.ensures.same.0 ∙ ap (λ (r : Run). r.definition) begun) (c.run_crew-book.ensures.same.1 ∙ ap (λ (r : Run). r.limit) begun)
    c.run_crew-book.ensures.end (subst (λ (r : Run). IsLawful (schema r) r.limit r.history) is c.history.ensures.lawful)
    c.into_core-core.ensures.by_workers c.run_crew-book.ensures.callers in
    subst (λ (r : Run). HasRun g.G.Gate.gives c.args.prepared.workflow c.args.self.now.request.steps c.args.self.now.request.workers r (Ended c.run_crew-book.result.1)) (sym is) ran
