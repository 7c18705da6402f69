use Rattle.std.proofs.Common.{ap, ◌∙◌, subst, sym, ◌≡◌, ◌++◌, [], ◌∷◌, ℕ, Bool, true, false, cond, is_ok, List, All, length, refl}
use Rattle.std.proofs.lemmas.List.{length-map, map_push}
use Rattle.std.proofs.lemmas.List.Elements.{All-push}
use Rattle.flow_model.specs.Lists.{Each, numbers_from}
use Rattle.flow_model.proofs.Lists.{each-append}
use Rattle.flow_plan.specs.declared.token.OrderToken.{OrderToken}
use Rattle.flow_plan.specs.Planned.{Planned, AreNumbered}
use Rattle.flow_plan.specs.Sampled.{Sampled}
use Rattle.flow_weave.specs.Woven.{option_with}
use Rattle.flow_model.specs.FoldedCircle.{IsFoldedCircle}
use Rattle.flow_model.specs.Resolution.{ChoiceOption}
use Rattle.flow_plan.specs.Options.{options_of, HasExecution, HasSmallLeaves, option_of}
use Rattle.flow_excise.proofs.SiftingLemmas.{numbered}
use Rattle.flow_excise.proofs.SieveLemmas.{sift_kept, sift_dropped}
use Rattle.flow_excise.proofs.sifted.sift.Goals as goal

pub returns-in_ok-push-in-Ok : goal.returns-in_ok-push-in-Ok
returns-in_ok-push-in-Ok c =
    let same : option_of c.in_ok-plan.plan ≡ option_with c.args.resolution.now.process c.args.order.now =
    λ i. record { resolution = c.in_ok-plan.ensures.process i; order = c.in_ok-plan.ensures.pairs i } in
    sift_kept (numbered c.args.number c.args.way (option_with c.args.resolution.now.process c.args.order.now)) c.args.sieve.now.kept.items c.push.new.self.items
    c.args.sieve.now.dropped.items c.in-Ok.plan c.in_ok-push-in-Ok.ensures.items (ap option_of c.in-Ok.ensures.ok ∙ same)
    (subst HasExecution same (c.in-Ok.ensures.executed refl))

pub returns-in_ok-push-in-Err-Circle : goal.returns-in_ok-push-in-Err-Circle
returns-in_ok-push-in-Err-Circle c =
    let same : option_of c.in_ok-plan.plan ≡ option_with c.args.resolution.now.process c.args.order.now =
    λ i. record { resolution = c.in_ok-plan.ensures.process i; order = c.in_ok-plan.ensures.pairs i } in
    let reason = (rw c.in-Err-Circle.field-0-is at c.in-Err-Circle.ensures.circle) in
    sift_dropped (numbered c.args.number c.args.way (option_with c.args.resolution.now.process c.args.order.now)) (options_of c.args.sieve.now.kept.items)
    c.args.sieve.now.dropped.items c.push-in-Err-Circle.new.self.items (record { resolution = c.args.number; way = c.args.way; circle = c.in-Err-Circle.circle })
    c.in_ok-push-in-Err-Circle.ensures.items
    (record {
      resolution = refl;
      way = refl;
      circle = subst (λ (o : ChoiceOption). IsFoldedCircle o.resolution o.order c.in-Err-Circle.circle.leaves.items) same reason.1;
    })

-- one plan more, or none for want of memory
all_tried : (old new : List Sampled) (x : Sampled) (b : Bool) → new ≡ cond b (old ++ x ∷ []) old → All (λ (s : Sampled). AreNumbered s.plan.tokens) old →
    AreNumbered x.plan.tokens → All (λ (s : Sampled). AreNumbered s.plan.tokens) new
all_tried old new x true is all here = subst (All (λ (s : Sampled). AreNumbered s.plan.tokens)) (sym is) (All-push (λ (s : Sampled). AreNumbered s.plan.tokens) old x all here)
all_tried old new x false is all here = subst (All (λ (s : Sampled). AreNumbered s.plan.tokens)) (sym is) all

small_tried : (old new : List Sampled) (x : Sampled) (b : Bool) → new ≡ cond b (old ++ x ∷ []) old → Each HasSmallLeaves (options_of old) →
    HasSmallLeaves (option_of x.plan) → Each HasSmallLeaves (options_of new)
small_tried old new x true is all here =
    subst (Each HasSmallLeaves) (sym (ap options_of is ∙ map_push (λ (s : Sampled). option_of s.plan) old x)) (each-append HasSmallLeaves (options_of old) (option_of x.plan ∷ []) all (here, tt))
small_tried old new x false is all here = subst (λ (plans : List Sampled). Each HasSmallLeaves (options_of plans)) (sym is) all

pub invariant_of-sieve : goal.invariant_of-sieve
invariant_of-sieve c =
    let same : option_of c.in_ok-plan.plan ≡ option_with c.args.resolution.now.process c.args.order.now =
    λ i. record { resolution = c.in_ok-plan.ensures.process i; order = c.in_ok-plan.ensures.pairs i } in
    let tokens : List OrderToken = c.in_ok-plan.plan.tokens in
    let long : length c.args.order.now.pairs.items ≡ length tokens = ap length (sym c.in_ok-plan.ensures.pairs) ∙ length-map tokens (λ (t : OrderToken). (t.sender, t.receiver)) in
    let numbered : AreNumbered tokens = c.in_ok-plan.ensures.numbers ∙ ap (λ (n : ℕ). numbers_from 0 n) long in
    record {
      small = small_tried c.args.sieve.now.kept.items c.push.new.self.items c.in-Ok.plan (is_ok c.push.result) c.push.ensures.items c.args.sieve.now.small
          (subst HasSmallLeaves (sym (ap option_of c.in-Ok.ensures.ok ∙ same)) c.requires.small);
      numbered = all_tried c.args.sieve.now.kept.items c.push.new.self.items c.in-Ok.plan (is_ok c.push.result) c.push.ensures.items c.args.sieve.now.numbered
          (subst (λ (p : Planned). AreNumbered p.tokens) (sym c.in-Ok.ensures.ok) numbered);
    }
