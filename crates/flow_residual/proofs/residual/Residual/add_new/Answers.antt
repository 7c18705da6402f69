use Rattle.std.proofs.Common.{◌≡◌, sym, ◌∙◌, arith}
use Rattle.leaf_rows.specs.Leaves.{has_leaf}
use Rattle.flow_model.proofs.Lists.{mem-slice_get, each_member}
use Rattle.flow_plan.specs.Rows.{IsRowOf}
use Rattle.flow_plan.specs.Sided.{IsDoneIn}
use Rattle.flow_plan.specs.Orders.{MayComeNext}
use Rattle.flow_plan.specs.Options.{option_of}
use Rattle.flow_residual.specs.Remaining.{banned}
use Rattle.flow_residual.specs.Telling.{AreServing, IsApart}
use Rattle.flow_residual.proofs.QuestionLemmas.{all_come_next, follows_first, next_of_option, in_words, adds_live, adds_none, not_so}
use Rattle.flow_residual.proofs.TellingLemmas.{tell_of}
use Rattle.flow_residual.proofs.residual.Residual.add_new.Goals as goal

pub returns-then-not-is_live : goal.returns-then-not-is_live
returns-then-not-is_live g c = λ o leaf at. adds_none (has_leaf c.args.found.now leaf) _ _ (not_so c.is_live.result _ (c.is_live.ensures o at) c.if-not-is_live.true)

pub add_first-requires : goal.add_first-requires
add_first-requires g c =
    let r = c.args.self.now in
    let p = c.plan-plan.result.now in
    let o = option_of p in
    let sides = c.sides-sides.result.now in
    let there = mem-slice_get r.options c.args.place o c.plan-plan.ensures.at in
    let next_is : IsRowOf (MayComeNext p (IsDoneIn sides)) c.args.next.now = λ n.
    (let both = next_of_option p sides r.journal c.sides-sides.ensures.tell.done o (λ i. o) n in
    in_words (has_leaf c.args.next.now n) _ _ (c.requires.next o c.plan-plan.ensures.at ((c.is_live.ensures o c.plan-plan.ensures.at).0 c.if-not-is_live.false).journal_ready n) (both.1, both.0)) in (
      omega (arith, c.args.row.now.sized),
      (
        tell_of r.options r.journal (banned r.bans) sides c.sides-sides.ensures.tell o there p (λ _. o),
        (
          each_member (AreServing c.folds-folds.result.now) r.options c.folds-folds.ensures o there,
          (
            next_is,
            (c.requires.row, (c.requires.distinct, each_member (IsApart c.args.claims.now c.args.apart.now) r.options c.requires.apart o there)),
          ),
        ),
      ),
    )

pub returns-in-Among : goal.returns-in-Among
returns-in-Among g c = λ o leaf at.
    let r = c.args.self.now in
    let p = c.plan-plan.result.now in
    let sides = c.sides-sides.result.now in
    let mine = option_of p in
    let same : option_of c.plan-plan.result.now ≡ o = (let e = sym c.plan-plan.ensures.at ∙ at in cc) in
    let next_is : IsRowOf (MayComeNext p (IsDoneIn sides)) c.args.next.now = λ n.
    (let both = next_of_option p sides r.journal c.sides-sides.ensures.tell.done o same n in
    in_words (has_leaf c.args.next.now n) _ _ (c.requires.next o at ((c.is_live.ensures o at).0 c.if-not-is_live.false).journal_ready n) (both.1, both.0)) in
    let apart = each_member (IsApart c.args.claims.now c.args.apart.now) r.options c.requires.apart mine (mem-slice_get r.options c.args.place mine c.plan-plan.ensures.at) in
    rw c.in-Among.is (adds_live (has_leaf c.add_beside.new.found leaf) (has_leaf c.args.found.now leaf) _ _ _ ((c.is_live.ensures o at).0 c.if-not-is_live.false)
    (c.add_beside.ensures (has_leaf sides.done) c.args.claims.now next_is c.requires.row c.requires.distinct apart leaf)
    (all_come_next p sides r.journal c.sides-sides.ensures.tell.done c.args.claims.now leaf o same))

pub returns-in-First : goal.returns-in-First
returns-in-First g c = λ o leaf at.
    let r = c.args.self.now in
    let same : option_of c.plan-plan.result.now ≡ o = (let e = sym c.plan-plan.ensures.at ∙ at in cc) in
    rw c.in-First.is (adds_live (has_leaf c.add_first.new.found leaf) (has_leaf c.args.found.now leaf) _ _ _ ((c.is_live.ensures o at).0 c.if-not-is_live.false) (c.add_first.ensures leaf)
    (follows_first c.plan-plan.result.now c.sides-sides.result.now r.journal c.sides-sides.ensures.tell.done leaf c.args.claims.now o same))
