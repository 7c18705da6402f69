use Rattle.std.proofs.Common.{ℕ, [], ◌∷◌, not, ◌&&◌, IsTrue, inl, inr, ⊎_elim, sym, ◌∙◌, arith}
use Rattle.std.proofs.lemmas.Bool.{and_parts}
use Rattle.leaf_rows.specs.Leaves.{has_leaf}
use Rattle.leaf_rows.proofs.Members.{has_leaf-within}
use Rattle.flow_model.specs.Ready.{DoneOr}
use Rattle.flow_model.proofs.Lists.{each_member}
use Rattle.flow_plan.specs.Orders.{MayComeNext, MayFollowInEveryOrder}
use Rattle.flow_plan.specs.Sided.{IsDoneIn}
use Rattle.flow_plan.proofs.Cuts.{wide_same}
use Rattle.flow_plan.proofs.Readiness.{kept_ordered}
use Rattle.flow_plan.proofs.StepRows.{IsAsked, first_or_found}
use Rattle.flow_plan.proofs.Widths.{apart_wide, claims_small, joined}
use Rattle.flow_plan.proofs.plan.Plan.add_first.Goals as goal

pub first_lacking-requires : goal.first_lacking-requires
first_lacking-requires g c = (omega (arith, c.args.next.now.sized), claims_small c.args.list.now c.args.claims.now c.requires.claims)

pub add_before_all-requires : goal.add_before_all-requires
add_before_all-requires g c =
    (omega (arith, c.args.next.now.sized), λ k claimed. each_member (λ n. IsTrue (has_leaf c.args.next.now n)) c.args.list.now c.in-None.ensures.none k ((c.requires.claims k).0 claimed))

pub returns-in-None : goal.returns-in-None
returns-in-None g c = c.add_before_all.ensures (has_leaf c.args.sides.now.done) c.args.list.now c.requires.next c.requires.claims c.requires.distinct c.requires.apart

pub add_settling-requires-clause-apart : goal.add_settling-requires-clause-apart
add_settling-requires-clause-apart g c =
    apart_wide c.args.self.now c.args.list.now c.args.apart.now c.resized-closed.result c.args.apart.now.sized c.resized-closed.ensures c.requires.apart

pub add_settling-requires-clause-rest : goal.add_settling-requires-clause-rest
add_settling-requires-clause-rest g c = λ n has.
    let rest = c.rest_of-rest.result in
    let there = sym (wide_same rest c.resized-others.result rest.sized c.resized-others.ensures n) ∙ has in
    let next = has_leaf c.args.next.now n in
    let new = not (has_leaf c.args.claims.now n) && next in
    let free = not (has_leaf c.args.apart.now n) && new in
    let parts = and_parts (not (has_leaf c.args.found.now n)) free (sym (c.rest_of-rest.ensures n) ∙ there) in
    (c.requires.next n).0 (and_parts (not (has_leaf c.args.claims.now n)) next (and_parts (not (has_leaf c.args.apart.now n)) new parts.1).1).1

pub returns-in-Some : goal.returns-in-Some
returns-in-Some g c =
    let p = c.args.self.now in
    let D : ℕ → Type 0 = IsDoneIn c.args.sides.now in
    let found = c.args.found.now in
    let rest = c.rest_of-rest.result in
    let asked : IsAsked p (has_leaf c.args.sides.now.done) c.args.list.now c.args.next.now c.args.claims.now c.args.apart.now found rest = record {
      rest_is = c.rest_of-rest.ensures;
      ordered = kept_ordered c.self.inside.rows c.self.invariant.kept c.self.view_is;
      next_is = c.requires.next;
      claims_are = c.requires.claims;
      distinct = c.requires.distinct;
      apart_is = c.requires.apart;
    } in
    joined found c.put_in.new.found c.resized-all.result c.add_settling.new.found (λ n. MayComeNext p D n × MayFollowInEveryOrder p (DoneOr D (n ∷ [])) c.args.list.now) c.resized-all.ensures c.put_in.ensures
    (λ n both. has_leaf-within c.args.next.now n ((c.requires.next n).1 both.0))
    (λ n. c.add_settling.ensures n (λ both. ⊎_elim (λ r. inl (wide_same rest c.resized-others.result rest.sized c.resized-others.ensures n ∙ r))
    (λ f. inr (wide_same found c.resized-all.result found.sized c.resized-all.ensures n ∙ f)) (first_or_found asked n both.0 both.1)))
