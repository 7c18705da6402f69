use Rattle.std.proofs.Common.{◌≡◌, ◌+◌, ◌<◌, ◌++◌, ◌∷◌, [], ℕ, List, get_or, length, set, take, arith, sym, subst}
use Rattle.std.proofs.lemmas.List.{get_or_default, take_more_set}
use Rattle.flow_residual.specs.Spared.{AllStay}
use Rattle.flow_residual.proofs.Following.{may_all_follow}
use Rattle.flow_residual.proofs.QuestionLemmas.{in_words}
use Rattle.flow_residual.proofs.SparedLemmas.{none_moved, none_stay, moved, all_moved}
use Rattle.flow_residual.proofs.spared.thin.Goals as goal
use Rattle.flow_residual.proofs.spared.thin.Goals.{then-stays, else-stays}

pub loop-index-init : goal.loop-index-init
loop-index-init c = (none_moved c.args.residual.now c.args.places.now c.args.leaves.now, none_stay c.args.residual.now (take 0 c.args.leaves.now) c.new-beside.result c.new-beside.ensures)

pub loop-index-preserved : goal.loop-index-preserved
loop-index-preserved c =
    let r = c.args.residual.now in
    let i = c.loop-index.index in
    let kept = c.loop-index.kept in
    let ps = c.loop-index.places in
    let ls = c.loop-index.leaves in
    let was = c.loop-index.invariant.0 in
    let leaf : ℕ = get_or ls i 0 in
    let place : ℕ = get_or ps i 0 in
    let within : i < length ls = omega arith in
    let inside : i < length ps = omega (arith, was.places_are.same, was.leaves_are.same) in
    let more = moved r c.args.places.now c.args.leaves.now i kept ps ls place leaf c.stays.result was c.requires within (get_or_default ps i 0 place inside) (get_or_default ls i 0 leaf within)
    (λ w s of. in_words c.stays.result _ _ c.stays.ensures.stays (may_all_follow w s r of (take kept ls ++ leaf ∷ []))) in
    let longer : take (kept + 1) (set ls kept leaf) ≡ take kept ls ++ leaf ∷ [] = take_more_set ls kept leaf (omega (arith, was.few)) in
    elim c.if-stays.branch [
      | then-stays b ↦ rw (b.kept-is, b.places-is, b.leaves-is) (
        rw b.if-stays.true at more,
        subst (λ (l : List ℕ). AllStay r l c.stays.new.beside) (sym longer) (rw b.if-stays.true at c.stays.ensures.beside),
      )
      | else-stays b ↦ rw (b.kept-is, b.places-is, b.leaves-is) (rw b.if-stays.false at more, rw b.if-stays.false at c.stays.ensures.beside)
    ]

pub returns : goal.returns
returns c =
    all_moved c.args.residual.now c.args.places.now c.args.leaves.now c.loop-index.index c.loop-index.kept c.loop-index.places c.loop-index.leaves c.loop-index.invariant.0 c.loop-index-test.false
