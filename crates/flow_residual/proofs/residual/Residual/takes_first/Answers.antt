use Rattle.std.proofs.Common.{◌≡◌, ◌∷◌, ◌++◌, [], sym, ◌∙◌, true≢false}
use Rattle.flow_model.proofs.Lists.{mem-slice_get, each_member}
use Rattle.flow_plan.specs.Options.{option_of}
use Rattle.flow_residual.specs.Remaining.{banned}
use Rattle.flow_residual.specs.Telling.{IsApart}
use Rattle.flow_residual.specs.declared.question.Stand.TheVariants.{First}
use Rattle.flow_residual.proofs.QuestionLemmas.{next_of_option, follows_after, in_words, takes_where_free}
use Rattle.flow_residual.proofs.TellingLemmas.{tell_of}
use Rattle.flow_residual.proofs.residual.Residual.takes_first.Goals as goal

pub ready-requires : goal.ready-requires
ready-requires c =
    let r = c.args.self.now in
    let o = option_of c.plan-plan.result.now in
    tell_of r.options r.journal (banned r.bans) c.sides.result.now c.sides.ensures.tell o (mem-slice_get r.options c.args.place o c.plan-plan.ensures.at) c.plan-plan.result.now (λ _. o)

pub in_every_order-requires-clause-tell : goal.in_every_order-requires-clause-tell
in_every_order-requires-clause-tell c =
    let r = c.args.self.now in
    let o = option_of c.plan-plan.result.now in
    tell_of r.options (r.journal ++ c.args.leaf ∷ []) (banned r.bans) c.args.after.now c.requires.asked.2 o (mem-slice_get r.options c.args.place o c.plan-plan.ensures.at) c.plan-plan.result.now (λ _. o)

pub in_every_order-requires-clause-apart : goal.in_every_order-requires-clause-apart
in_every_order-requires-clause-apart c =
    let r = c.args.self.now in
    let o = option_of c.plan-plan.result.now in
    each_member (IsApart c.args.claims.now c.args.apart.now) r.options c.requires.asked.1 o (mem-slice_get r.options c.args.place o c.plan-plan.ensures.at)

pub returns-then-ready : goal.returns-then-ready
returns-then-ready c o at =
    let r = c.args.self.now in
    let same : option_of c.plan-plan.result.now ≡ o = (let e = sym c.plan-plan.ensures.at ∙ at in cc) in
    let live = (c.is_live.ensures o at).0 c.if-not-is_live.false in
    let ready = (next_of_option c.plan-plan.result.now c.sides.result.now r.journal c.sides.ensures.tell.done o same c.args.leaf).0 (c.ready.ensures.0 c.if-ready.true) in
    let follow = follows_after c.plan-plan.result.now c.args.after.now r.journal c.args.leaf c.args.claims.now o c.requires.asked.2.done same in
    in_words c.in_every_order.result _ _ c.in_every_order.ensures (
      λ may. takes_where_free r c.args.claims.now First c.args.leaf o c.requires.asked.0 (live, (ready, follow.0 may)),
      λ takes. follow.1 takes.1.1,
    )

pub returns-else-ready : goal.returns-else-ready
returns-else-ready c o at =
    let r = c.args.self.now in
    let same : option_of c.plan-plan.result.now ≡ o = (let e = sym c.plan-plan.ensures.at ∙ at in cc) in (
      λ yes. absurd (true≢false (sym yes ∙ c.if-ready.false)),
      λ takes. c.ready.ensures.1 ((next_of_option c.plan-plan.result.now c.sides.result.now r.journal c.sides.ensures.tell.done o same c.args.leaf).1 takes.1.0),
    )
