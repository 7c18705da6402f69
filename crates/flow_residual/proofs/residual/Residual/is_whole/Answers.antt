use Rattle.std.proofs.Common.{◌≡◌, sym, subst, ◌∙◌, IsTrue, ◌↔◌}
use Rattle.flow_model.specs.Resolution.{ChoiceOption}
use Rattle.flow_model.proofs.Lists.{mem-slice_get}
use Rattle.flow_plan.specs.Options.{option_of}
use Rattle.flow_residual.specs.Question.{IsWhole}
use Rattle.flow_residual.specs.Remaining.{banned}
use Rattle.flow_residual.proofs.TellingLemmas.{tell_of}
use Rattle.flow_residual.proofs.residual.Residual.is_whole.Goals as goal

pub complete-requires : goal.complete-requires
complete-requires c =
    let r = c.args.self.now in
    let o = option_of c.plan.result.now in
    tell_of r.options r.journal (banned r.bans) c.sides.result.now c.sides.ensures.tell o (mem-slice_get r.options c.args.place o c.plan.ensures.at) c.plan.result.now (λ _. o)

pub returns-then-follows : goal.returns-then-follows
returns-then-follows c o at =
    let same : option_of c.plan.result.now ≡ o = (let e = sym c.plan.ensures.at ∙ at in cc) in
    let ready = (c.follows.ensures (option_of c.plan.result.now) c.plan.ensures.at).0 c.if-follows.true in
    subst (λ (q : ChoiceOption). IsTrue c.complete.result ↔ IsWhole c.args.self.now q) same (c.complete.ensures.of_run c.args.self.now.journal ready c.sides.ensures.tell.done)
