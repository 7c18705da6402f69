use Rattle.std.proofs.Common.{true≢false, ◌≡◌, ◌≤◌, ◌<◌, ℕ, List, length, if◌then◌else◌, ◌++◌, ◌∷◌, [], ◌↔◌, IsTrue, sym, ap, ◌∙◌, subst, subst₂, arith}
use Rattle.std.specs.Vec.{vec_len, vec_capacity, with_items}
use Rattle.flow_model.specs.declared.limits.TheConstants.{MOST_LEAVES}
use Rattle.flow_model.specs.Schema.{Schema}
use Rattle.flow_model.specs.Run.{RunState}
use Rattle.flow_residual.specs.declared.fronts.Change.TheVariants.{Done}
use Rattle.flow_residual.specs.Remaining.{Remaining, IsOf, IsAvoidable, MayComeNext, banned}
use Rattle.flow_residual.specs.View.{remaining}
use Rattle.flow_residual.specs.Options.{EachHas}
use Rattle.flow_residual.specs.Telling.{IsSetOf}
use Rattle.flow_residual.specs.Track.{IsFront}
use Rattle.flow_residual.specs.Invariant.{AreOpenPlaces, IsKept}
use Rattle.flow_residual.proofs.KeptLemmas.{at_most_all, room_left, next_small, next_fresh, kept_push, one_each_lent, followed, telling, told_again}
use Rattle.flow_residual.proofs.OpenPlaces.{few_open, opens_pushed}
use Rattle.flow_residual.proofs.SetLemmas.{set_push}
use Rattle.flow_residual.proofs.residual.Residual.push.Goals as goal

pub follow-requires-clause-tell : goal.follow-requires-clause-tell
follow-requires-clause-tell c = telling c.self.inside c.deref.result.now c.deref-2.result.now c.self.invariant c.deref.ensures.value c.deref-2.ensures.value

pub push_reserved-requires : goal.push_reserved-requires
push_reserved-requires c =
    let i = c.self.inside in
    let k = c.self.invariant.kept in
    let r : Remaining = remaining i.plans.items i.journal.items i.bans.items in
    let next : MayComeNext r c.args.leaf = subst (λ (q : Remaining). MayComeNext q c.args.leaf) (sym c.self.view_is) c.requires in
    let room : length i.journal.items < MOST_LEAVES = room_left i.journal.items c.args.leaf k.done (next_small r k c.args.leaf next) (next_fresh r k c.args.leaf next) in
    let len : vec_len i.journal ≡ length i.journal.items = i.journal.ok.0 in
    let capacity : MOST_LEAVES ≤ vec_capacity i.journal = c.self.invariant.journal_room in
    omega arith

pub insert-requires : goal.insert-requires
insert-requires c =
    let i = c.self.inside in
    let r : Remaining = remaining i.plans.items i.journal.items i.bans.items in
    let next : MayComeNext r c.args.leaf = subst (λ (q : Remaining). MayComeNext q c.args.leaf) (sym c.self.view_is) c.requires in
    let small : c.args.leaf < MOST_LEAVES = next_small r c.self.invariant.kept c.args.leaf next in
    omega (arith, small)

pub overflow_cast-len : goal.overflow_cast-len
overflow_cast-len c =
    let most : length c.self.inside.journal.items ≤ MOST_LEAVES = at_most_all c.self.inside.journal.items c.self.invariant.kept.done in
    let len : c.len.result ≡ length c.self.inside.journal.items = c.len.ensures ∙ c.self.inside.journal.ok.0 in
    omega arith

pub note_place-requires : goal.note_place-requires
note_place-requires c =
    let i = c.self.inside in
    let k = c.self.invariant.kept in
    let r : Remaining = remaining i.plans.items i.journal.items i.bans.items in
    let next : MayComeNext r c.args.leaf = subst (λ (q : Remaining). MayComeNext q c.args.leaf) (sym c.self.view_is) c.requires in
    let room : length i.journal.items < MOST_LEAVES = room_left i.journal.items c.args.leaf k.done (next_small r k c.args.leaf next) (next_fresh r k c.args.leaf next) in
    let few : length i.opens.items ≤ length i.journal.items = few_open r i.opens.items c.self.invariant.opens in
    let len : vec_len i.opens ≡ length i.opens.items = i.opens.ok.0 in
    let capacity : MOST_LEAVES ≤ vec_capacity i.opens = c.self.invariant.opens_room in
    omega arith

pub invariant_of-self : goal.invariant_of-self
invariant_of-self c =
    let i = c.self.inside in
    let k = c.self.invariant in
    let r : Remaining = remaining i.plans.items i.journal.items i.bans.items in
    let next : MayComeNext r c.args.leaf = subst (λ (q : Remaining). MayComeNext q c.args.leaf) (sym c.self.view_is) c.requires in
    let more = sym c.push_reserved.ensures.items in
    let told : (w : Schema) (s : RunState) → IsOf w s r → IsTrue c.can_avoid-is_open.result ↔ IsAvoidable w s c.args.leaf =
    subst (λ (q : Remaining). (w : Schema) (s : RunState) → IsOf w s q → IsTrue c.can_avoid-is_open.result ↔ IsAvoidable w s c.args.leaf) (sym c.self.view_is) c.can_avoid-is_open.ensures in
    let place : c.len.result ≡ length i.journal.items = c.len.ensures ∙ i.journal.ok.0 in
    let opens : c.note_place.new.opens.items ≡ (if c.can_avoid-is_open.result then i.opens.items ++ length i.journal.items ∷ [] else i.opens.items) =
    c.note_place.ensures.items ∙ ap (λ n. if c.can_avoid-is_open.result then i.opens.items ++ n ∷ [] else i.opens.items) place in
    let done : IsSetOf c.push_reserved.new.self.items c.insert.new.self =
    set_push i.done c.insert.new.self i.journal.items c.push_reserved.new.self.items c.args.leaf c.insert.ensures c.push_reserved.ensures.items k.done_are in
    record {
      kept = subst (λ (journal : List ℕ). IsKept (record r { journal = journal })) more (kept_push r k.kept c.args.leaf next);
      served = k.served;
      fronts = subst (λ (journal : List ℕ). EachHas (IsFront journal) r.options (with_items i.fronts c.follow.new.fronts).items) more
          (followed i (Done c.args.leaf) _ _ _ _ k c.deref.ensures.value c.deref-2.ensures.value c.deref_mut.ensures.value c.follow.ensures);
      leaves_are = k.leaves_are;
      rows_are = λ fresh. absurd (true≢false (sym fresh));
      done_are = done;
      banned_are = k.banned_are;
      sides = told_again i k _ c.push_reserved.new.self.items (banned r.bans) c.insert.new.self i.banned c.sides_by-self-inside.result c.deref-3.ensures.value c.sides_by-self-inside.ensures done k.banned_are;
      journal_room = let same : vec_capacity c.push_reserved.new.self ≡ vec_capacity i.journal = c.push_reserved.ensures.capacity in
          let room : MOST_LEAVES ≤ vec_capacity i.journal = k.journal_room in omega arith;
      bans_room = k.bans_room;
      opens = subst₂ (λ (journal opens : List ℕ). AreOpenPlaces (record r { journal = journal }) opens) more (sym opens)
          (opens_pushed r i.opens.items k.opens c.args.leaf k.kept.early c.can_avoid-is_open.result told);
      opens_room = let same : vec_capacity c.note_place.new.opens ≡ vec_capacity i.opens = c.note_place.ensures.capacity in
          let room : MOST_LEAVES ≤ vec_capacity i.opens = k.opens_room in omega arith;
    }

pub follow-requires-clause-one_each : goal.follow-requires-clause-one_each
follow-requires-clause-one_each c = one_each_lent c.self.inside c.deref.result.now c.deref_mut.result.now c.self.invariant c.deref.ensures.value c.deref_mut.ensures.value
