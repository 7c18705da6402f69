use Rattle.std.proofs.Common.{◌≡◌, ◌+◌, ◌-◌, ◌<◌, ℕ, ◌==◌, false, Option, Some, None, List, length, set, get_or, slice_get, refl, sym, ap, ◌∙◌, subst, arith, length-set}
use Rattle.std.specs.Vec.{vec_len, vec_capacity}
use Rattle.std.specs.List.{position_from}
use Rattle.std.proofs.lemmas.Option.{slice_get_read}
use Rattle.flow_model.specs.Run.{Claim, answer}
use Rattle.flow_residual.specs.declared.given.Given.{Given}
use Rattle.flow_residual.specs.declared.claims.Claims.TheInside.{Inside}
use Rattle.flow_residual.specs.Claimed.{Claimed, run_of, IsUnanswered}
use Rattle.flow_residual.specs.Fields.{claimed, claimed_by}
use Rattle.flow_residual.proofs.Numbering.{answered, IsThere, there}
use Rattle.flow_residual.proofs.Outstanding.{found_within, length-out}
use Rattle.flow_residual.proofs.Counting.{kept_answer, kept_late, answered_value}
use Rattle.flow_residual.proofs.claims.Claims.answer.Goals as goal

there_in : (i : Inside) (v : Claimed) (number : ℕ) → claimed_by i ≡ v → IsUnanswered (run_of v) number → IsThere i.given.items number
there_in i v number view h = there (λ (claim : Claim). claim.answered ≡ false) i.given.items number (subst (λ (v : Claimed). IsUnanswered (run_of v) number) (sym view) h)

read_in : (gs : List Given) (number : ℕ) (g : Given) → IsThere gs number → g ≡ get_or gs (number - 1) g → slice_get gs (number - 1) ≡ Some g
read_in gs number g t is =
    let number_is = t.number_is in
    let within = t.within in
    let inside : number - 1 < length gs = omega arith in
    slice_get_read gs (length gs) (number - 1) g refl inside is

-- what was found among the places that were lent
found_in : (places lent : List ℕ) (place : ℕ) (found : Option ℕ) → lent ≡ places → found ≡ position_from (λ other. other == place) 0 lent →
    position_from (λ other. other == place) 0 places ≡ found
found_in places lent place found same is = ap (position_from (λ other. other == place) 0) (sym same) ∙ sym is

pub overflow_sub-place : goal.overflow_sub-place
overflow_sub-place c =
    let number_is = (there_in c.self.inside c.args.self.now c.args.claim c.self.view_is c.requires).number_is in
    omega arith

pub index_mut-requires : goal.index_mut-requires
index_mut-requires c =
    let t = there_in c.self.inside c.args.self.now c.args.claim c.self.view_is c.requires in
    let number_is = t.number_is in
    let within = t.within in
    let len : vec_len c.self.inside.given ≡ length c.self.inside.given.items = c.self.inside.given.ok.0 in
    omega arith

pub remove-requires : goal.remove-requires
remove-requires c =
    let is : position_from (λ other. other == (c.args.claim - 1)) 0 c.self.inside.current.items ≡ Some c.in-Some.index =
    found_in c.self.inside.current.items c.deref.result.now (c.args.claim - 1) c.index_of.result c.deref.ensures.value c.index_of.ensures ∙ c.in-Some.is in
    let within = found_within (c.args.claim - 1) c.self.inside.current.items c.in-Some.index is in
    omega (arith, c.self.inside.current.ok.0)

pub remove-requires-in-Some : goal.remove-requires-in-Some
remove-requires-in-Some c =
    let i = c.self.inside in
    let is : position_from (λ other. other == (c.args.claim - 1)) 0 i.current.items ≡ Some c.in-Some.index =
    found_in i.current.items c.deref.result.now (c.args.claim - 1) c.index_of.result c.deref.ensures.value c.index_of.ensures ∙ c.in-Some.is in
    let within = found_within (c.args.claim - 1) i.current.items c.in-Some.index is in
    let same = length-out (λ place g. g.leaf) (λ place g. place) i.epoch 0 i.given.items in
    omega (arith, ap length c.self.invariant.kept.leaves_are, ap length c.self.invariant.kept.current_are, i.leaves.ok.0)

pub invariant_of-self : goal.invariant_of-self
invariant_of-self c =
    let i = c.self.inside in
    let g : Given = c.index_mut.result.now in
    let place : ℕ = c.args.claim - 1 in
    let t = there_in i c.args.self.now c.args.claim c.self.view_is c.requires in
    let at : slice_get i.given.items place ≡ Some g = read_in i.given.items c.args.claim g t c.index_mut.ensures.value in
    let is : position_from (λ other. other == place) 0 i.current.items ≡ Some c.in-Some.index =
    found_in i.current.items c.deref.result.now place c.index_of.result c.deref.ensures.value c.index_of.ensures ∙ c.in-Some.is in
    let few = c.self.invariant.few in
    let same = length-set i.given.items place (answered g) in
    record {
      kept = rw (c.remove.ensures.items, c.remove-in-Some.ensures.items)
          (kept_answer i.given.items i.current.items i.leaves.items i.last.items i.epoch c.self.invariant.kept place g at c.in-Some.index is);
      few = omega arith;
      room = c.self.invariant.room;
      current_room = omega (arith, c.remove.ensures.capacity, c.self.invariant.current_room);
      leaves_room = omega (arith, c.remove-in-Some.ensures.capacity, c.self.invariant.leaves_room);
    }

pub invariant_of-self-in_default : goal.invariant_of-self-in_default
invariant_of-self-in_default c =
    let i = c.self.inside in
    let g : Given = c.index_mut.result.now in
    let place : ℕ = c.args.claim - 1 in
    let t = there_in i c.args.self.now c.args.claim c.self.view_is c.requires in
    let at : slice_get i.given.items place ≡ Some g = read_in i.given.items c.args.claim g t c.index_mut.ensures.value in
    let is : position_from (λ other. other == place) 0 i.current.items ≡ None =
    found_in i.current.items c.deref.result.now place c.index_of.result c.deref.ensures.value c.index_of.ensures ∙ c.in_default.is in
    let few = c.self.invariant.few in
    let same = length-set i.given.items place (answered g) in
    record {
      kept = kept_late i.given.items i.current.items i.leaves.items i.last.items i.epoch c.self.invariant.kept place g at is;
      few = omega arith;
      room = c.self.invariant.room;
      current_room = c.self.invariant.current_room;
      leaves_room = c.self.invariant.leaves_room;
    }

new_value : (i : Inside) (v : Claimed) (number : ℕ) (g : Given) → claimed_by i ≡ v → IsUnanswered (run_of v) number → g ≡ get_or i.given.items (number - 1) g →
    claimed (set i.given.items (number - 1) (answered g)) i.epoch (vec_capacity i.given) (length i.last.items) ≡ record v { claims = answer number v.claims }
new_value i v number g view h is =
    let t = there_in i v number view h in
    let number_is = t.number_is in
    let n : number ≡ 1 + (number - 1) = omega arith in
    subst (λ (v : Claimed). claimed (set i.given.items (number - 1) (answered g)) i.epoch (vec_capacity i.given) (length i.last.items) ≡ record v { claims = answer number v.claims }) view
    (answered_value i.given.items i.epoch (vec_capacity i.given) (length i.last.items) number (number - 1) g n (read_in i.given.items number g t is))

pub returns-in-Some : goal.returns-in-Some
returns-in-Some c = new_value c.self.inside c.args.self.now c.args.claim c.index_mut.result.now c.self.view_is c.requires c.index_mut.ensures.value

pub returns-in_default : goal.returns-in_default
returns-in_default c = new_value c.self.inside c.args.self.now c.args.claim c.index_mut.result.now c.self.view_is c.requires c.index_mut.ensures.value
