use Rattle.std.proofs.Common.{◌≡◌, ◌∷◌, sym, ◌∙◌}
use Rattle.flow_model.proofs.Lists.{mem-slice_get, each_member}
use Rattle.flow_plan.specs.Options.{option_of}
use Rattle.flow_residual.specs.Remaining.{banned}
use Rattle.flow_residual.specs.Telling.{IsApart}
use Rattle.flow_residual.specs.declared.question.Stand.TheVariants.{Among}
use Rattle.flow_residual.proofs.QuestionLemmas.{all_come_next, in_words, takes_where_free}
use Rattle.flow_residual.proofs.TellingLemmas.{tell_of}
use Rattle.flow_residual.proofs.residual.Residual.takes.Goals as goal

pub side_by_side-requires-clause-tell : goal.side_by_side-requires-clause-tell
side_by_side-requires-clause-tell c =
    let r = c.args.self.now in
    let o = option_of c.plan.result.now in
    tell_of r.options r.journal (banned r.bans) c.sides.result.now c.sides.ensures.tell o (mem-slice_get r.options c.args.place o c.plan.ensures.at) c.plan.result.now (λ _. o)

pub side_by_side-requires-clause-apart : goal.side_by_side-requires-clause-apart
side_by_side-requires-clause-apart c =
    let r = c.args.self.now in
    let o = option_of c.plan.result.now in
    each_member (IsApart (c.args.leaf ∷ c.args.claims.now) c.args.apart.now) r.options c.requires.asked.1 o (mem-slice_get r.options c.args.place o c.plan.ensures.at)

pub returns-then-is_live : goal.returns-then-is_live
returns-then-is_live c o at =
    let r = c.args.self.now in
    let same : option_of c.plan.result.now ≡ o = (let e = sym c.plan.ensures.at ∙ at in cc) in
    let live = (c.is_live.ensures o at).0 c.if-is_live.true in
    let follow = all_come_next c.plan.result.now c.sides.result.now r.journal c.sides.ensures.tell.done c.args.claims.now c.args.leaf o same in
    in_words c.side_by_side.result _ _ c.side_by_side.ensures (
      λ may. takes_where_free r c.args.claims.now Among c.args.leaf o c.requires.asked.0 (live, follow.0 may),
      λ takes. follow.1 takes.1,
    )
