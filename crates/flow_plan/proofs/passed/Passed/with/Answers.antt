use Rattle.std.proofs.Common.{ℕ, ◌+◌, not, arith, sym, ap, subst, ◌∙◌}
use Rattle.leaf_rows.specs.Leaves.{has_leaf}
use Rattle.flow_plan.specs.Passed.{IsLast}
use Rattle.flow_plan.proofs.PassedLemmas.{last_more, cond_not}
use Rattle.flow_plan.proofs.passed.Passed.with.Goals as goal

pub returns-clause-passed : goal.returns-clause-passed
returns-clause-passed g c = λ ns are at within.
    let place : ℕ = c.args.self.place in
    let done = has_leaf c.args.sides.now.done in
    let asked = has_leaf c.args.asked.now in
    let is_done = c.has-done.ensures ∙ ap done at in record {
      within = omega (arith, within);
      done = subst (λ (last : ℕ). IsLast done ns (place + 1) last) (sym c.either.ensures) (last_more done ns place c.args.self.done c.has-done.result is_done are.done);
      lacking = subst (λ (last : ℕ). IsLast (λ x. not (done x)) ns (place + 1) last) (sym (c.either-2.ensures ∙ cond_not c.has-done.result c.args.self.lacking (place + 1)))
          (last_more (λ x. not (done x)) ns place c.args.self.lacking (not c.has-done.result) (ap not is_done) are.lacking);
      asked = subst (λ (last : ℕ). IsLast asked ns (place + 1) last) (sym c.either-3.ensures) (last_more asked ns place c.args.self.asked c.has.result (c.has.ensures ∙ ap asked at) are.asked);
    }
