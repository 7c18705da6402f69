use Rattle.std.proofs.Common.{ℕ, MatchOption, ap, ◌∙◌, subst}
use Rattle.flow_model.specs.Run.{IsOpen, IsOpenIndex}
use Rattle.flow_core.specs.Run.{Run, schema, now}
use Rattle.flow_case.specs.Ruled.{Ruled}
use Rattle.flow_case.proofs.Finals.{can_go_back}
use Rattle.flow_case.proofs.ruled.RuledRun.way_back.Goals as goal

pub returns-then-is_going : goal.returns-then-is_going
returns-then-is_going c =
    let same = c.core.ensures.run ∙ ap (λ (x : Ruled). x.desk.run) c.self.view_is in
    can_go_back c.args.self.now.desk.run c.open_index.result (c.is_going.ensures.0 c.if-is_going.true)
    (subst (λ (r : Run). MatchOption c.open_index.result ((i : ℕ) → ¬ (IsOpen (schema r) (now r) i)) (IsOpenIndex (schema r) (now r))) same c.open_index.ensures)
