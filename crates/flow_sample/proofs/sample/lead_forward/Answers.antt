use Rattle.std.proofs.Common.{◌<◌, ◌≤◌, ℕ, List, arith, get_or, refl, subst}
use Rattle.std.proofs.lemmas.Bool.{false≢true}
use Rattle.std.proofs.lemmas.List.{take_all}
use Rattle.std.proofs.lemmas.Option.{slice_get-get_or}
use Rattle.flow_model.specs.Lists.{Each}
use Rattle.flow_model.proofs.Lists.{mem-slice_get, each_member}
use Rattle.flow_plan.specs.declared.token.OrderToken.{OrderToken}
use Rattle.flow_sample.proofs.sample.lead_forward.Goals as goal

not_both : (a b : ℕ) → a < b → ¬ (b ≤ a)
not_both a b less most = omega arith

pub returns : goal.returns
returns c = (
  λ yes. subst (λ (l : List OrderToken). Each (λ token. token.sender < token.receiver) l) (take_all c.loop-token.token-index c.args.tokens.now c.loop-token-test.false) c.loop-token.invariant,
  λ all. refl,
)

pub returns-then-token : goal.returns-then-token
returns-then-token c = (
  λ wrong. absurd (false≢true wrong),
  λ all. let none : OrderToken = record { number = 0; sender = 0; receiver = 0 } in
      let tokens : List OrderToken = c.args.tokens.now in
      let token : OrderToken = get_or tokens c.loop-token.token-index none in
      let forward = each_member _ tokens all token (mem-slice_get tokens c.loop-token.token-index token (slice_get-get_or tokens c.loop-token.token-index none c.loop-token-test.true)) in
      absurd (not_both token.sender token.receiver forward c.if-token.true),
)
