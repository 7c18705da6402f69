use Rattle.std.proofs.Common.{ℕ, ◌<◌, ◌*◌, ◌↔◌, IsTrue, true≢false, List, get_or, inl, inr, ap, sym, subst, ◌∙◌, arith}
use Rattle.std.proofs.lemmas.List.{take_all}
use Rattle.std.proofs.lemmas.Option.{slice_get-get_or}
use Rattle.leaf_rows.specs.Leaves.{has_leaf}
use Rattle.leaf_rows.specs.declared.leaf_set.LeafSet.{LeafSet}
use Rattle.flow_model.specs.Lists.{◌∈◌}
use Rattle.flow_model.specs.Ready.{DirectlyBefore}
use Rattle.flow_model.proofs.Lists.{each_member}
use Rattle.flow_plan.specs.CutSides.{IsFree}
use Rattle.flow_plan.specs.Rows.{IsRowOf}
use Rattle.flow_plan.proofs.PlaceLemmas.{read_member}
use Rattle.flow_plan.proofs.RowLemmas.{rows_get}
use Rattle.flow_plan.proofs.StepRows.{free_more}
use Rattle.flow_plan.proofs.steps.free_row.Goals as goal
use Rattle.flow_plan.proofs.steps.free_row.Goals.{then-frees, else-frees}

pub loop-place-init : goal.loop-place-init
loop-place-init g c = λ q pairs are x. (λ has. absurd (true≢false (sym has ∙ c.new-row.ensures x)), λ both. absurd both.0)

pub frees-requires : goal.frees-requires
frees-requires g c =
    let ns = c.args.leaves.now in
    let i = c.loop-place.place in
    (omega (arith, c.requires.wide), (omega (arith, c.requires.wide), each_member (λ n. n < 64 * g.row.W) ns c.requires.small (get_or ns i 0) (read_member ns i c.loop-place-test.true)))

pub insert-requires : goal.insert-requires
insert-requires g c =
    let ns = c.args.leaves.now in
    let i = c.loop-place.place in
    let below : get_or ns i 0 < 64 * g.row.W = each_member (λ n. n < 64 * g.row.W) ns c.requires.small (get_or ns i 0) (read_member ns i c.loop-place-test.true) in
    (omega (arith, c.requires.wide), below)

pub loop-place-preserved : goal.loop-place-preserved
loop-place-preserved g c = λ q pairs are.
    let ns = c.args.leaves.now in
    let i = c.loop-place.place in
    let F : ℕ → Type 0 = IsFree (DirectlyBefore q pairs) c.args.sides.now in
    let row = c.index-before-place.result in
    let row_is = rows_get (DirectlyBefore q pairs) ns c.args.before.now i (get_or ns i 0) row row (slice_get-get_or ns i 0 c.loop-place-test.true) c.index-before-place.is are in
    let says : IsTrue c.frees.result ↔ F (get_or ns i 0) = (
      λ yes. let free = c.frees.ensures.0 yes in record { not_done = free.not_done; not_closed = free.not_closed; before = λ x direct. free.before x ((row_is x).1 direct) },
      λ free. c.frees.ensures.1 (record { not_done = free.not_done; not_closed = free.not_closed; before = λ x has. free.before x ((row_is x).0 has) }),
    ) in
    free_more ns i F c.loop-place.row c.if-frees.row c.frees.result c.loop-place-test.true says (c.loop-place.invariant q pairs are)
    (elim c.if-frees.branch [
      | then-frees w ↦ inl (w.if-frees.true, λ x. ap (λ (r : LeafSet g.row.W). has_leaf r x) w.row-is ∙ w.insert.ensures x)
      | else-frees w ↦ inr (w.if-frees.false, w.row-is)
    ])

pub returns : goal.returns
returns g c = λ q pairs are.
    subst (λ (l : List ℕ). IsRowOf (λ n. (n ∈ l) × IsFree (DirectlyBefore q pairs) c.args.sides.now n) c.loop-place.row)
    (take_all c.loop-place.place c.args.leaves.now c.loop-place-test.false) (c.loop-place.invariant q pairs are)
