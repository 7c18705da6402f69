use Rattle.std.proofs.Common.{◌≡◌, ◌+◌, ◌<◌, ℕ, false, [], ◌∷◌, ◌++◌, length, set, refl, sym, ap, ◌∙◌, subst, arith, rules, length-set}
use Rattle.std.specs.Vec.{vec_capacity}
use Rattle.flow_residual.specs.Claimed.{Claimed, count_of}
use Rattle.flow_residual.specs.declared.claims.Claims.TheInside.{Inside}
use Rattle.flow_residual.specs.Given.{claims_from}
use Rattle.flow_residual.specs.Fields.{events_of, claimed, claimed_by}
use Rattle.flow_residual.proofs.Numbering.{claims_counted}
use Rattle.flow_residual.proofs.Outstanding.{few_out}
use Rattle.flow_residual.proofs.Counting.{few_on, kept_given, given_value}
use Rattle.flow_residual.proofs.claims.Claims.give.Goals as goal

-- there were fewer on the event than there is room for
few_before : (i : Inside) (v : Claimed) (event count : ℕ) → claimed_by i ≡ v → length v.claims < v.room → count ≡ count_of event v.events → count < vec_capacity i.given
few_before i v event count view room is =
    let few = few_on i.given.items event in
    let given = claims_counted 1 i.given.items in
    let less : length (claims_from 1 i.given.items) < vec_capacity i.given = subst (λ (v : Claimed). length v.claims < v.room) (sym view) room in
    let same : count ≡ count_of event (events_of i.given.items) = is ∙ ap (λ (v : Claimed). count_of event v.events) (sym view) in
    omega arith

pub overflow_add-attempt : goal.overflow_add-attempt
overflow_add-attempt c =
    let i = c.self.inside in
    let few : c.attempts-attempt.result < vec_capacity i.given = few_before i c.args.self.now c.args.event c.attempts-attempt.result c.self.view_is c.requires.room c.attempts-attempt.ensures in
    let room = c.self.invariant.room in
    search rules

pub push_reserved-requires : goal.push_reserved-requires
push_reserved-requires c =
    let h = subst (λ (v : Claimed). length v.claims < v.room) (sym c.self.view_is) c.requires.room in
    omega (arith, claims_counted 1 c.self.inside.given.items, c.self.inside.given.ok.0)

pub push_reserved-requires-2 : goal.push_reserved-requires-2
push_reserved-requires-2 c =
    let i = c.self.inside in
    let h = subst (λ (v : Claimed). length v.claims < v.room) (sym c.self.view_is) c.requires.room in
    let few = few_out (λ place g. place) i.epoch 0 i.given.items in
    omega (arith, claims_counted 1 i.given.items, i.current.ok.0, ap length c.self.invariant.kept.current_are, c.self.invariant.current_room)

pub push_reserved-requires-3 : goal.push_reserved-requires-3
push_reserved-requires-3 c =
    let i = c.self.inside in
    let h = subst (λ (v : Claimed). length v.claims < v.room) (sym c.self.view_is) c.requires.room in
    let few = few_out (λ place g. g.leaf) i.epoch 0 i.given.items in
    omega (arith, claims_counted 1 i.given.items, i.leaves.ok.0, ap length c.self.invariant.kept.leaves_are, c.self.invariant.leaves_room)

pub invariant_of-self : goal.invariant_of-self
invariant_of-self c =
    let i = c.self.inside in
    let within : c.args.event < length i.last.items = subst (λ (v : Claimed). c.args.event < v.kinds) (sym c.self.view_is) c.requires.kind in
    let count : c.attempts-attempt.result ≡ count_of c.args.event (events_of i.given.items) =
    c.attempts-attempt.ensures ∙ ap (λ (v : Claimed). count_of c.args.event v.events) (sym c.self.view_is) in
    let h = subst (λ (v : Claimed). length v.claims < v.room) (sym c.self.view_is) c.requires.room in
    let counted = claims_counted 1 i.given.items in
    let capacity : vec_capacity c.push_reserved.new.self ≡ vec_capacity i.given = c.push_reserved.ensures.capacity in
    let room = c.self.invariant.room in
    record {
      kept = kept_given i.given.items c.push_reserved.new.self.items i.current.items c.push_reserved-2.new.self.items i.leaves.items c.push_reserved-3.new.self.items i.last.items
          i.epoch c.args.leaf c.args.event c.args.by (c.attempts-attempt.result + 1) c.len-place.result (c.len-place.result + 1) c.self.invariant.kept within (ap (λ n. n + 1) count)
          (c.len-place.ensures ∙ i.given.ok.0) refl c.push_reserved.ensures.items c.push_reserved-2.ensures.items c.push_reserved-3.ensures.items;
      few = omega (arith, c.push_reserved.new.self.ok.0, i.given.ok.0, c.push_reserved.ensures.len);
      room = omega arith;
      current_room = omega (arith, c.push_reserved-2.ensures.capacity, c.self.invariant.current_room);
      leaves_room = omega (arith, c.push_reserved-3.ensures.capacity, c.self.invariant.leaves_room);
    }

pub returns-clause-value : goal.returns-clause-value
returns-clause-value c =
    let i = c.self.inside in
    let last = set i.last.items c.args.event (c.len-place.result + 1) in
    subst (λ (v : Claimed). claimed c.push_reserved.new.self.items i.epoch (vec_capacity c.push_reserved.new.self) (length last) ≡ record v {
      claims = v.claims ++ record { number = length v.claims + 1; leaf = c.args.leaf; epoch = v.epoch; answered = false } ∷ [];
      events = v.events ++ c.args.event ∷ [];
      takers = v.takers ++ c.args.by ∷ [];
    }) c.self.view_is
    (given_value i.given.items c.push_reserved.new.self.items i.epoch c.args.leaf c.args.event c.args.by (c.attempts-attempt.result + 1) (vec_capacity i.given)
    (vec_capacity c.push_reserved.new.self) (length i.last.items) (length last) c.push_reserved.ensures.items c.push_reserved.ensures.capacity
    (length-set i.last.items c.args.event (c.len-place.result + 1)))

pub returns-clause-attempt : goal.returns-clause-attempt
returns-clause-attempt c = ap (λ n. n + 1) c.attempts-attempt.ensures
