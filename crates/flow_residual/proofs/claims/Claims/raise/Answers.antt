use Rattle.std.proofs.Common.{◌≡◌, ◌+◌, ◌<◌, ℕ, Bool, List, Vec, length, take, sym, ap, ◌∙◌, subst, arith}
use Rattle.std.specs.Vec.{vec_capacity, with_items}
use Rattle.std.proofs.lemmas.List.{with_items_is}
use Rattle.flow_model.specs.Lists.{Each}
use Rattle.flow_residual.specs.declared.given.Given.{Given}
use Rattle.flow_residual.specs.Claimed.{Claimed}
use Rattle.flow_residual.specs.Fields.{claimed, IsKept}
use Rattle.flow_residual.specs.Given.{claims_from, renewed_at}
use Rattle.flow_residual.specs.Spared.{picked}
use Rattle.flow_residual.proofs.Outstanding.{places_within, length-out}
use Rattle.flow_residual.proofs.Renewing.{renew, each_picked, length-renew, renewed_is, kept_renewed, spared_claims, renewed_value}
use Rattle.flow_residual.proofs.claims.Claims.raise.Goals as goal

pub thin-kept-requires : goal.thin-kept-requires
thin-kept-requires c =
    let i = c.self.inside in
    let k = c.self.invariant.kept in
    ap length (c.deref_mut.ensures.value ∙ k.current_are) ∙ sym (length-out (λ place g. g.leaf) (λ place g. place) i.epoch 0 i.given.items) ∙ ap length (sym (c.deref_mut-2.ensures.value ∙ k.leaves_are))

-- what is left of a vector that was lent, thinned and cut
cut_is : {Z : Type 0} (v : Vec ℕ Z) (was new cut : List ℕ) (bits : List Bool) (kept : ℕ) → was ≡ v.items → length new ≡ length was →
    cut ≡ take kept (with_items v new).items → take kept new ≡ picked bits was → cut ≡ picked bits v.items
cut_is v was new cut bits kept lent same cut_to stay =
    cut_to ∙ ap (take kept) (with_items_is v new (same ∙ ap length lent ∙ sym v.ok.0)) ∙ stay ∙ ap (picked bits) lent

-- what a vector that was lent has when its claims are renewed at the places that stay
given_is : {Z : Type 0} (v : Vec Given Z) (was new : List Given) (current leaves last places : List ℕ) (e : ℕ) (bits : List Bool) → IsKept v.items current leaves last e →
    was ≡ v.items → places ≡ picked bits current → new ≡ renewed_at (e + 1) places was → (with_items v new).items ≡ renew e bits v.items
given_is v was new current leaves last places e bits k lent stay is =
    let renewed = renewed_is e bits v.items was new current places lent k.current_are stay is in
    with_items_is v new (ap length renewed ∙ length-renew e bits v.items ∙ sym v.ok.0) ∙ renewed

pub renew-requires : goal.renew-requires
renew-requires c =
    let i = c.self.inside in
    let k = c.self.invariant.kept in
    let bits : List Bool = c.thin-kept.ensures.bits in
    let current : c.truncate.new.self.items ≡ picked bits i.current.items =
    cut_is i.current c.deref_mut.result.now c.thin-kept.new.places c.truncate.new.self.items bits c.thin-kept.result c.deref_mut.ensures.value c.thin-kept.auto.places c.truncate.ensures.items
    c.thin-kept.ensures.places_are in
    let Within : List ℕ → Type 0 = λ l. Each (λ place. place < length i.given.items) l in
    let within : Within i.current.items = subst Within (sym k.current_are) (places_within i.epoch 0 (length i.given.items) i.given.items (omega arith)) in
    subst (λ (l : List Given). Each (λ place. place < length l) c.deref.result.now) (sym c.deref_mut-3.ensures.value)
    (subst Within (sym (c.deref.ensures.value ∙ current)) (each_picked (λ place. place < length i.given.items) bits i.current.items within))

pub invariant_of-self : goal.invariant_of-self
invariant_of-self c =
    let i = c.self.inside in
    let k = c.self.invariant.kept in
    let bits : List Bool = c.thin-kept.ensures.bits in
    let new : List Given = (with_items i.given c.renew.new.given).items in
    let current : c.truncate.new.self.items ≡ picked bits i.current.items =
    cut_is i.current c.deref_mut.result.now c.thin-kept.new.places c.truncate.new.self.items bits c.thin-kept.result c.deref_mut.ensures.value c.thin-kept.auto.places c.truncate.ensures.items
    c.thin-kept.ensures.places_are in
    let leaves : c.truncate-2.new.self.items ≡ picked bits i.leaves.items =
    cut_is i.leaves c.deref_mut-2.result.now c.thin-kept.new.leaves c.truncate-2.new.self.items bits c.thin-kept.result c.deref_mut-2.ensures.value c.thin-kept.auto.leaves c.truncate-2.ensures.items
    c.thin-kept.ensures.leaves_are in
    let is : new ≡ renew i.epoch bits i.given.items =
    given_is i.given c.deref_mut-3.result.now c.renew.new.given i.current.items i.leaves.items i.last.items c.deref.result.now i.epoch bits k c.deref_mut-3.ensures.value
    (c.deref.ensures.value ∙ current) c.renew.ensures in
    let same : length new ≡ length i.given.items = ap length is ∙ length-renew i.epoch bits i.given.items in
    let few = c.self.invariant.few in
    let current_capacity : vec_capacity c.truncate.new.self ≡ vec_capacity i.current = c.truncate.ensures.capacity in
    let leaves_capacity : vec_capacity c.truncate-2.new.self ≡ vec_capacity i.leaves = c.truncate-2.ensures.capacity in
    let current_room = c.self.invariant.current_room in
    let leaves_room = c.self.invariant.leaves_room in
    record {
      kept = kept_renewed i.given.items new i.current.items c.truncate.new.self.items i.leaves.items c.truncate-2.new.self.items i.last.items i.epoch bits k is current leaves;
      few = omega arith;
      room = c.self.invariant.room;
      current_room = omega arith;
      leaves_room = omega arith;
    }

pub returns-clause-claims : goal.returns-clause-claims
returns-clause-claims c w s claims epoch of =
    let i = c.self.inside in
    let k = c.self.invariant.kept in
    let bits : List Bool = c.thin-kept.ensures.bits in
    let new : List Given = (with_items i.given c.renew.new.given).items in
    let current : c.truncate.new.self.items ≡ picked bits i.current.items =
    cut_is i.current c.deref_mut.result.now c.thin-kept.new.places c.truncate.new.self.items bits c.thin-kept.result c.deref_mut.ensures.value c.thin-kept.auto.places c.truncate.ensures.items
    c.thin-kept.ensures.places_are in
    let is : new ≡ renew i.epoch bits i.given.items =
    given_is i.given c.deref_mut-3.result.now c.renew.new.given i.current.items i.leaves.items i.last.items c.deref.result.now i.epoch bits k c.deref_mut-3.ensures.value
    (c.deref.ensures.value ∙ current) c.renew.ensures in
    spared_claims w s i.given.items new i.epoch i.leaves.items c.deref_mut-2.result.now bits (claims ∙ ap (λ (v : Claimed). v.claims) (sym c.self.view_is))
    (epoch ∙ ap (λ (v : Claimed). v.epoch) (sym c.self.view_is)) k.leaves_are c.deref_mut-2.ensures.value (c.thin-kept.ensures.spared w s of) is

pub returns-clause-others : goal.returns-clause-others
returns-clause-others c =
    let i = c.self.inside in
    let bits : List Bool = c.thin-kept.ensures.bits in
    let new : List Given = (with_items i.given c.renew.new.given).items in
    let current : c.truncate.new.self.items ≡ picked bits i.current.items =
    cut_is i.current c.deref_mut.result.now c.thin-kept.new.places c.truncate.new.self.items bits c.thin-kept.result c.deref_mut.ensures.value c.thin-kept.auto.places c.truncate.ensures.items
    c.thin-kept.ensures.places_are in
    let is : new ≡ renew i.epoch bits i.given.items =
    given_is i.given c.deref_mut-3.result.now c.renew.new.given i.current.items i.leaves.items i.last.items c.deref.result.now i.epoch bits c.self.invariant.kept c.deref_mut-3.ensures.value
    (c.deref.ensures.value ∙ current) c.renew.ensures in
    subst (λ (v : Claimed). claimed new (i.epoch + 1) (vec_capacity i.given) (length i.last.items) ≡ record v { claims = claims_from 1 new; epoch = v.epoch + 1 }) c.self.view_is
    (renewed_value i.given.items new i.epoch (vec_capacity i.given) (length i.last.items) bits is)
