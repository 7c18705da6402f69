use Rattle.std.proofs.Common.{◌≡◌, ◌≤◌, ◌<◌, ◌++◌, [], ◌∷◌, ℕ, List, length, sym, ap, ◌∙◌, subst, arith}
use Rattle.std.specs.Vec.{vec_len, vec_capacity}
use Rattle.flow_model.specs.declared.limits.TheConstants.{MOST_LEAVES}
use Rattle.flow_residual.specs.declared.residual.Ban.{Ban}
use Rattle.flow_residual.specs.Remaining.{Remaining, MayComeNext, banned}
use Rattle.flow_residual.specs.View.{remaining, pairs_of_bans}
use Rattle.flow_residual.specs.Invariant.{AreOpenPlaces, IsKept}
use Rattle.flow_residual.specs.Telling.{IsSetOf}
use Rattle.flow_residual.proofs.KeptLemmas.{at_most_all, room_left, next_small, next_free, kept_ban, pairs_of_more, told_again}
use Rattle.flow_residual.proofs.OpenPlaces.{opens_banned}
use Rattle.flow_residual.proofs.SetLemmas.{length-banned, set_push, banned_more}
use Rattle.flow_residual.proofs.residual.Residual.ban.Goals as goal

pub overflow_cast-index : goal.overflow_cast-index
overflow_cast-index c =
    let most : length c.self.inside.journal.items ≤ MOST_LEAVES = at_most_all c.self.inside.journal.items c.self.invariant.kept.done in
    let len : c.len-index.result ≡ length c.self.inside.journal.items = c.len-index.ensures ∙ c.self.inside.journal.ok.0 in
    omega arith

pub push_reserved-requires : goal.push_reserved-requires
push_reserved-requires c =
    let i = c.self.inside in
    let k = c.self.invariant.kept in
    let r : Remaining = remaining i.plans.items i.journal.items i.bans.items in
    let next : MayComeNext r c.args.leaf = subst (λ (q : Remaining). MayComeNext q c.args.leaf) (sym c.self.view_is) c.requires in
    let room : length (banned r.bans) < MOST_LEAVES = room_left (banned r.bans) c.args.leaf k.bans_few (next_small r k c.args.leaf next) (next_free r k c.args.leaf next) in
    let same : length (banned r.bans) ≡ length i.bans.items = length-banned i.bans.items in
    let len : vec_len i.bans ≡ length i.bans.items = i.bans.ok.0 in
    let capacity : MOST_LEAVES ≤ vec_capacity i.bans = c.self.invariant.bans_room in
    omega arith

pub insert-requires : goal.insert-requires
insert-requires c =
    let i = c.self.inside in
    let r : Remaining = remaining i.plans.items i.journal.items i.bans.items in
    let next : MayComeNext r c.args.leaf = subst (λ (q : Remaining). MayComeNext q c.args.leaf) (sym c.self.view_is) c.requires in
    let small : c.args.leaf < MOST_LEAVES = next_small r c.self.invariant.kept c.args.leaf next in
    omega (arith, small)

pub invariant_of-self : goal.invariant_of-self
invariant_of-self c =
    let i = c.self.inside in
    let k = c.self.invariant in
    let r : Remaining = remaining i.plans.items i.journal.items i.bans.items in
    let next : MayComeNext r c.args.leaf = subst (λ (q : Remaining). MayComeNext q c.args.leaf) (sym c.self.view_is) c.requires in
    let ban : Ban = record { index = c.len-index.result; leaf = c.args.leaf } in
    let more : r.bans ++ (c.len-index.result, c.args.leaf) ∷ [] ≡ pairs_of_bans c.push_reserved.new.self.items =
    sym (ap pairs_of_bans c.push_reserved.ensures.items ∙ pairs_of_more i.bans.items ban) in
    let out : IsSetOf (banned (pairs_of_bans c.push_reserved.new.self.items)) c.insert.new.self =
    set_push i.banned c.insert.new.self (banned r.bans) _ c.args.leaf c.insert.ensures (banned_more i.bans.items c.push_reserved.new.self.items ban c.push_reserved.ensures.items) k.banned_are in
    record {
      kept = subst (λ (bans : List (ℕ × ℕ)). IsKept (record r { bans = bans })) more (kept_ban r k.kept c.args.leaf next c.len-index.result (omega (arith, c.len-index.ensures, i.journal.ok.0)));
      served = k.served;
      fronts = k.fronts;
      leaves_are = k.leaves_are;
      rows_are = k.rows_are;
      done_are = k.done_are;
      banned_are = out;
      sides = told_again i k _ i.journal.items _ i.done c.insert.new.self c.sides_by-self-inside.result c.deref.ensures.value c.sides_by-self-inside.ensures k.done_are out;
      journal_room = k.journal_room;
      bans_room = let same : vec_capacity c.push_reserved.new.self ≡ vec_capacity i.bans = c.push_reserved.ensures.capacity in
          let room : MOST_LEAVES ≤ vec_capacity i.bans = k.bans_room in omega arith;
      opens = subst (λ (bans : List (ℕ × ℕ)). AreOpenPlaces (record r { bans = bans }) i.opens.items) more
          (opens_banned r i.opens.items k.opens c.len-index.result c.args.leaf (omega (arith, c.len-index.ensures, i.journal.ok.0)));
      opens_room = k.opens_room;
    }

-- the bans with one at the end of the journal
banned_now : (bans new : List Ban) (journal : List ℕ) (index leaf : ℕ) → new ≡ bans ++ record { index = index; leaf = leaf } ∷ [] → index ≡ length journal →
    pairs_of_bans new ≡ pairs_of_bans bans ++ (length journal, leaf) ∷ []
banned_now bans new journal index leaf more is =
    ap pairs_of_bans more ∙ pairs_of_more bans (record { index = index; leaf = leaf }) ∙ ap (λ n. pairs_of_bans bans ++ (n, leaf) ∷ []) is

pub returns : goal.returns
returns c =
    let i = c.self.inside in
    subst (λ (r : Remaining). remaining i.plans.items i.journal.items c.push_reserved.new.self.items ≡ record r { bans = r.bans ++ (length r.journal, c.args.leaf) ∷ [] }) c.self.view_is
    (ap (λ (bans : List (ℕ × ℕ)). record (remaining i.plans.items i.journal.items i.bans.items) { bans = bans })
    (banned_now i.bans.items c.push_reserved.new.self.items i.journal.items _ c.args.leaf c.push_reserved.ensures.items (omega (arith, i.journal.ok.0))))
