use Rattle.std.proofs.Common.{◌≡◌, ◌≤◌, ◌<◌, ◌∙◌, ℕ, List, [], length, replicate, drop, get_or, slice_index, inl, sym, ap, subst, arith}
use Rattle.std.specs.Vec.{vec_capacity}
use Rattle.std.proofs.lemmas.List.{length-replicate, get_or-replicate}
use Rattle.flow_model.specs.declared.limits.TheConstants.{MOST_ENTRIES}
use Rattle.flow_model.specs.Lists.{◌∈◌}
use Rattle.flow_residual.specs.declared.given.Given.{Given}
use Rattle.flow_residual.specs.Given.{out_places, out_leaves}
use Rattle.flow_residual.specs.Fields.{events_of, IsLastOf, IsKept}
use Rattle.flow_residual.proofs.claims.Claims.new.Goals as goal

kept_first : (given : List Given) (current leaves last : List ℕ) (kinds : ℕ) → given ≡ [] → current ≡ [] → leaves ≡ [] → last ≡ replicate kinds 0 →
    IsKept given current leaves last 0
kept_first given current leaves last kinds no_given no_current no_leaves none = record {
  epochs = rw no_given tt;
  current_are = no_current ∙ sym (ap (out_places 0 0) no_given);
  leaves_are = no_leaves ∙ sym (ap (out_leaves 0 0) no_given);
  counted = rw no_given tt;
  known = rw no_given tt;
  lasts = λ event within.
      let below : event < kinds = subst (λ n. event < n) (ap length none ∙ length-replicate kinds 0) within in
      let zero : slice_index last event ≡ 0 = ap (λ xs. get_or xs event 0) none ∙ get_or-replicate kinds event 0 0 below in
      subst (λ (gs : List Given). IsLastOf (events_of gs) event (slice_index last event)) (sym no_given) (record {
        on_it = inl zero;
        none_later = subst (λ n. ¬ (event ∈ drop n [])) (sym zero) (λ m. m);
      });
}

none_within : (given : List Given) (room : ℕ) → given ≡ [] → length given ≤ room
none_within given room none = let empty : length given ≡ 0 = ap length none in omega arith

pub invariant_of-result : goal.invariant_of-result
invariant_of-result c =
    let given = c.in_ok-with_capacity.ensures in
    let current = c.in_ok-with_capacity-2.ensures in
    let leaves = c.in_ok-with_capacity-3.ensures in
    record {
      kept = kept_first _ _ _ _ c.args.kinds given.items current.items leaves.items (c.in_ok-vec.ensures.items_if_clones_equal (λ y same. same));
      few = none_within _ _ given.items;
      room = subst (λ n. n ≤ MOST_ENTRIES) (sym given.exact) c.requires;
      current_room = subst (λ n. n ≤ vec_capacity c.in_ok-with_capacity-2.field-0) (sym given.exact) current.capacity;
      leaves_room = subst (λ n. n ≤ vec_capacity c.in_ok-with_capacity-3.field-0) (sym given.exact) leaves.capacity;
    }
