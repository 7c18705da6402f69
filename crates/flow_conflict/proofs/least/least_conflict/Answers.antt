use Rattle.std.proofs.Common.{◌≡◌, ◌<◌, ◌∙◌, ℕ, List, arith, subst, sym}
use Rattle.std.specs.List.{range_with_len}
use Rattle.flow_model.specs.Lists.{Each}
use Rattle.flow_conflict.specs.Lists.{IsRising}
use Rattle.flow_conflict.proofs.Conflicts.{whole_conflict}
use Rattle.flow_conflict.proofs.Rising.{range_below, range_rises}
use Rattle.flow_conflict.proofs.least.least_conflict.Goals as goal

pub judge-requires-clause-rising : goal.judge-requires-clause-rising
judge-requires-clause-rising g c =
    let asked : c.deref.result.now ≡ range_with_len 0 c.args.count = c.deref.ensures.value ∙ c.in_ok-all.ensures in
    subst IsRising (sym asked) (range_rises 0 c.args.count)

pub judge-requires-clause-below : goal.judge-requires-clause-below
judge-requires-clause-below g c =
    let asked : c.deref.result.now ≡ range_with_len 0 c.args.count = c.deref.ensures.value ∙ c.in_ok-all.ensures in
    let high = g.J.Judge.size c.args.judge.now in
    let P : List ℕ → Type 0 = Each (λ m. m < high) in
    subst P (sym asked) (range_below 0 c.args.count high (omega arith))

pub enough-requires : goal.enough-requires
enough-requires g c =
    let judge = c.args.judge.now in
    let met = g.J.Judge.is_met judge in
    let all : List ℕ = c.deref-in-Unmet.result.now in
    let same : all ≡ c.deref.result.now = c.deref-in-Unmet.ensures.value ∙ sym c.deref.ensures.value in
    let told = rw c.in-Unmet.is at c.in_ok-judge.ensures in
    whole_conflict met (g.J.Judge.size judge) c.args.count all (c.deref-in-Unmet.ensures.value ∙ c.in_ok-all.ensures) (omega arith)
    (λ m. told.1 (subst met same m))
