use Rattle.std.proofs.Common.{true, sym, ap, subst, ◌∙◌}
use Rattle.flow_core.specs.Run.{Run}
use Rattle.flow_crew.specs.Ends.{IsEnd}
use Rattle.flow_crew.specs.Invariant.{IsByWorkers}
use Rattle.embedding.proofs.run.Goals as goal

pub returns : goal.returns
returns g c =
    let begun = c.new-2.ensures ∙ c.in_ok-core.ensures in
    let is = c.into_core-core.ensures.run in record {
      last = c.into_core-core.result;
      definition_is = ap (λ (r : Run). r.definition) is ∙ c.run_crew-book.ensures.same.0 ∙ ap (λ (r : Run). r.definition) begun;
      limit_is = ap (λ (r : Run). r.limit) is ∙ c.run_crew-book.ensures.same.1 ∙ ap (λ (r : Run). r.limit) begun;
      lawful = c.history.ensures.lawful;
      by_workers = subst (IsByWorkers (λ call outcome. true)) (sym is) c.into_core-core.ensures.by_workers;
      came_to = c.run_crew-book.result.1;
      stands = subst (λ (r : Run). IsEnd r c.run_crew-book.result.1) (sym is) c.run_crew-book.ensures.end;
      status_is = c.status_of.ensures c.into_core-core.result;
      report = c.in_ok-text.ensures;
    }
