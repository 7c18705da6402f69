use Rattle.std.proofs.Common.{◌≡◌, ◌↔◌, IsTrue, true≢false, sym, ◌∙◌, subst}
use Rattle.leaf_rows.specs.Leaves.{has_leaf}
use Rattle.flow_model.specs.FoldedRun.{CanAvoid}
use Rattle.flow_model.specs.Resolution.{ChoiceOption}
use Rattle.flow_model.proofs.Lists.{mem-slice_get}
use Rattle.flow_fold_laws.proofs.FoldedAvoid.{is_in}
use Rattle.flow_plan.specs.Options.{option_of}
use Rattle.flow_plan.specs.Sided.{AreSidesOf, IsDoneIn}
use Rattle.flow_residual.specs.Telling.{IsOrderedOption}
use Rattle.flow_residual.proofs.TellingLemmas.{sides_of, unless_spoilt, where_spoilt}
use Rattle.flow_residual.proofs.residual.Residual.is_spared.Goals as goal

pub returns-then-has_leaf_in : goal.returns-then-has_leaf_in
returns-then-has_leaf_in c o bans at told =
    let r = c.args.self.now in (
      λ wrong. absurd (true≢false (sym wrong)),
      λ can. absurd (where_spoilt r.options r.journal bans c.args.sides.now told o (mem-slice_get r.options c.args.place o at) (c.has_leaf_in.ensures o at c.if-has_leaf_in.true) can),
    )

pub returns : goal.returns
returns c o bans at told =
    let r = c.args.self.now in
    let sides = c.args.sides.now in
    let same : option_of c.plan.result.now ≡ o = (let e = sym c.plan.ensures.at ∙ at in cc) in
    let there = mem-slice_get r.options c.args.place o at in
    let tells = sides_of r.options r.journal bans sides told o there in
    let says = subst (λ (q : ChoiceOption). IsTrue c.is_spoilt.result ↔ ¬ (CanAvoid q.resolution (IsDoneIn sides) (λ n. IsTrue (is_in bans n)))) same
    (c.is_spoilt.ensures (has_leaf sides.done) (is_in bans) (subst (λ (q : ChoiceOption). AreSidesOf q.resolution (IsDoneIn sides) (λ n. IsTrue (is_in bans n)) sides) (sym same) tells)) in
    unless_spoilt r.options r.journal bans sides told o there (subst IsOrderedOption same c.plan.ensures.ordered) c.is_spoilt.result says
