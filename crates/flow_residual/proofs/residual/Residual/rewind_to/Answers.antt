use Rattle.std.proofs.Common.{true≢false, ◌≡◌, ◌≤◌, ◌<◌, ◌++◌, [], ◌∷◌, ℕ, List, length, take, nat_le, nat_lt, slice_index, rules, sym, ap, ◌∙◌, subst, subst₂, arith}
use Rattle.std.specs.List.{filter}
use Rattle.std.specs.Vec.{vec_len, vec_capacity, with_items}
use Rattle.std.proofs.lemmas.Fn.{filter_same}
use Rattle.std.proofs.lemmas.List.{get_or_read}
use Rattle.flow_model.specs.declared.limits.TheConstants.{MOST_LEAVES}
use Rattle.flow_model.specs.Lists.{Each}
use Rattle.flow_residual.specs.declared.residual.Ban.{Ban}
use Rattle.flow_residual.specs.declared.fronts.Change.TheVariants.{Back}
use Rattle.flow_residual.specs.Remaining.{Remaining, banned}
use Rattle.flow_residual.specs.View.{remaining, pairs_of_bans}
use Rattle.flow_residual.specs.Options.{EachHas}
use Rattle.flow_residual.specs.Telling.{IsSetOf}
use Rattle.flow_residual.specs.Track.{IsFront}
use Rattle.flow_residual.specs.Invariant.{AreOpenPlaces, IsKept}
use Rattle.flow_residual.proofs.KeptLemmas.{few_front, rewind_room, kept_rewind, pairs_of_more, pairs_of_left, one_each_lent, followed, telling, told_again}
use Rattle.flow_residual.proofs.OpenPlaces.{opens_rewound}
use Rattle.flow_residual.proofs.SetLemmas.{length-banned}
use Rattle.flow_residual.proofs.residual.Residual.rewind_to.Goals as goal

pub follow-requires-clause-tell : goal.follow-requires-clause-tell
follow-requires-clause-tell c = telling c.self.inside c.deref.result.now c.deref-2.result.now c.self.invariant c.deref.ensures.value c.deref-2.ensures.value

pub push_reserved-requires : goal.push_reserved-requires
push_reserved-requires c =
    let i = c.self.inside in
    let r : Remaining = remaining i.plans.items i.journal.items i.bans.items in
    let within : c.args.index < length i.journal.items = subst (λ (q : Remaining). c.args.index < length q.journal) (sym c.self.view_is) c.requires in
    let room : length (banned r.bans) < MOST_LEAVES = rewind_room r c.self.invariant.kept c.args.index within in
    let same : length (banned r.bans) ≡ length i.bans.items = length-banned i.bans.items in
    let len : vec_len i.bans ≡ length i.bans.items = i.bans.ok.0 in
    let fewer : vec_len c.retain.new.self ≤ vec_len i.bans = c.retain.ensures.bound in
    let capacity : vec_capacity c.retain.new.self ≡ vec_capacity i.bans = c.retain.ensures.capacity in
    let enough : MOST_LEAVES ≤ vec_capacity i.bans = c.self.invariant.bans_room in
    omega arith

-- the bans that stay, and the one of the leaf that is taken back
bans_are : (bans left new : List Ban) (index leaf : ℕ) → left ≡ filter (λ (ban : Ban). nat_le ban.index index) bans → new ≡ left ++ record { index = index; leaf = leaf } ∷ [] →
    pairs_of_bans new ≡ filter (λ ban. nat_le ban.0 index) (pairs_of_bans bans) ++ (index, leaf) ∷ []
bans_are bans left new index leaf stay more =
    ap pairs_of_bans more ∙ pairs_of_more left (record { index = index; leaf = leaf }) ∙ ap (λ (l : List (ℕ × ℕ)). l ++ (index, leaf) ∷ []) (ap pairs_of_bans stay ∙ pairs_of_left index bans)

pub set_of_bans-self-inside-requires : goal.set_of_bans-self-inside-requires
set_of_bans-self-inside-requires c =
    let i = c.self.inside in
    let index = c.args.index in
    let r : Remaining = remaining i.plans.items i.journal.items i.bans.items in
    let leaf : ℕ = c.index-leaf.result.now in
    let within : index < length i.journal.items = subst (λ (q : Remaining). index < length q.journal) (sym c.self.view_is) c.requires in
    let stay : c.retain.new.self.items ≡ filter (λ (ban : Ban). nat_le ban.index index) i.bans.items =
    filter_same _ _ _ (λ x b f' k. search rules) _ _ c.retain.ensures.filtered in
    let is : leaf ≡ slice_index i.journal.items index = get_or_read i.journal.items index leaf within c.index-leaf.ensures 0 in
    let bans = bans_are i.bans.items c.retain.new.self.items c.push_reserved.new.self.items index leaf stay c.push_reserved.ensures.items
    ∙ ap (λ n. filter (λ ban. nat_le ban.0 index) (pairs_of_bans i.bans.items) ++ (index, n) ∷ []) is in
    subst (λ (l : List Ban). Each (λ n. n < MOST_LEAVES) (banned (pairs_of_bans l))) (sym c.deref-4.ensures.value)
    (subst (λ (l : List (ℕ × ℕ)). Each (λ n. n < MOST_LEAVES) (banned l)) (sym bans) (kept_rewind r c.self.invariant.kept index within).bans_few.small)

pub invariant_of-self : goal.invariant_of-self
invariant_of-self c =
    let i = c.self.inside in
    let k = c.self.invariant in
    let r : Remaining = remaining i.plans.items i.journal.items i.bans.items in
    let index = c.args.index in
    let leaf : ℕ = c.index-leaf.result.now in
    let within : index < length i.journal.items = subst (λ (q : Remaining). index < length q.journal) (sym c.self.view_is) c.requires in
    let stay : c.retain.new.self.items ≡ filter (λ (ban : Ban). nat_le ban.index index) i.bans.items =
    filter_same _ _ _ (λ x b f' k. search rules) _ _ c.retain.ensures.filtered in
    let is : leaf ≡ slice_index i.journal.items index = get_or_read i.journal.items index leaf within c.index-leaf.ensures 0 in
    let pairs : List (ℕ × ℕ) = filter (λ ban. nat_le ban.0 index) r.bans ++ (index, leaf) ∷ [] in
    let bans : pairs ≡ pairs_of_bans c.push_reserved.new.self.items = sym (bans_are i.bans.items c.retain.new.self.items c.push_reserved.new.self.items index leaf stay c.push_reserved.ensures.items) in
    let journal : take index i.journal.items ≡ c.truncate.new.self.items = sym c.truncate.ensures.items in
    let cut : c.retain-2.new.self.items ≡ filter (λ place. nat_lt place index) i.opens.items = filter_same _ _ _ (λ x b f' k. search rules) _ _ c.retain-2.ensures.filtered in
    let made : IsKept (record r { journal = take index i.journal.items; bans = pairs }) =
    subst (λ n. IsKept (record r { journal = take index i.journal.items; bans = filter (λ ban. nat_le ban.0 index) r.bans ++ (index, n) ∷ [] })) (sym is) (kept_rewind r k.kept index within) in
    let done : IsSetOf c.truncate.new.self.items c.set_of-self-inside.result =
    subst (λ (l : List ℕ). IsSetOf l c.set_of-self-inside.result) c.deref-3.ensures.value c.set_of-self-inside.ensures in
    let out : IsSetOf (banned (pairs_of_bans c.push_reserved.new.self.items)) c.set_of_bans-self-inside.result =
    subst (λ (l : List Ban). IsSetOf (banned (pairs_of_bans l)) c.set_of_bans-self-inside.result) c.deref-4.ensures.value c.set_of_bans-self-inside.ensures in
    record {
      kept = subst₂ (λ (journal : List ℕ) (bans : List (ℕ × ℕ)). IsKept (record r { journal = journal; bans = bans })) journal bans made;
      served = k.served;
      fronts = subst (λ (journal : List ℕ). EachHas (IsFront journal) r.options (with_items i.fronts c.follow.new.fronts).items) journal
          (followed i (Back index) _ _ _ _ k c.deref.ensures.value c.deref-2.ensures.value c.deref_mut.ensures.value c.follow.ensures);
      leaves_are = k.leaves_are;
      rows_are = λ fresh. absurd (true≢false (sym fresh));
      done_are = done;
      banned_are = out;
      sides = told_again i k _ c.truncate.new.self.items _ c.set_of-self-inside.result c.set_of_bans-self-inside.result c.sides_by-self-inside.result c.deref-5.ensures.value c.sides_by-self-inside.ensures done out;
      journal_room = let same : vec_capacity c.truncate.new.self ≡ vec_capacity i.journal = c.truncate.ensures.capacity in
          let room : MOST_LEAVES ≤ vec_capacity i.journal = k.journal_room in omega arith;
      bans_room = let one : vec_capacity c.push_reserved.new.self ≡ vec_capacity c.retain.new.self = c.push_reserved.ensures.capacity in
          let two : vec_capacity c.retain.new.self ≡ vec_capacity i.bans = c.retain.ensures.capacity in
          let room : MOST_LEAVES ≤ vec_capacity i.bans = k.bans_room in omega arith;
      opens = subst₂ (λ (journal : List ℕ) (bans : List (ℕ × ℕ)). AreOpenPlaces (record r { journal = journal; bans = bans }) c.retain-2.new.self.items) journal bans
          (subst (AreOpenPlaces (record r { journal = take index i.journal.items; bans = pairs })) (sym cut) (opens_rewound r i.opens.items k.opens index leaf within));
      opens_room = let same : vec_capacity c.retain-2.new.self ≡ vec_capacity i.opens = c.retain-2.ensures.capacity in
          let room : MOST_LEAVES ≤ vec_capacity i.opens = k.opens_room in omega arith;
    }

pub returns : goal.returns
returns c =
    let i = c.self.inside in
    let index = c.args.index in
    let leaf : ℕ = c.index-leaf.result.now in
    let within : index < length i.journal.items = subst (λ (q : Remaining). index < length q.journal) (sym c.self.view_is) c.requires in
    let stay : c.retain.new.self.items ≡ filter (λ (ban : Ban). nat_le ban.index index) i.bans.items =
    filter_same _ _ _ (λ x b f' k. search rules) _ _ c.retain.ensures.filtered in
    let is : leaf ≡ slice_index i.journal.items index = get_or_read i.journal.items index leaf within c.index-leaf.ensures 0 in
    let bans = bans_are i.bans.items c.retain.new.self.items c.push_reserved.new.self.items index leaf stay c.push_reserved.ensures.items
    ∙ ap (λ n. filter (λ ban. nat_le ban.0 index) (pairs_of_bans i.bans.items) ++ (index, n) ∷ []) is in
    let new : Remaining = remaining i.plans.items c.truncate.new.self.items c.push_reserved.new.self.items in
    subst (λ (q : Remaining). new ≡ record q { journal = take index q.journal; bans = filter (λ ban. nat_le ban.0 index) q.bans ++ (index, slice_index q.journal index) ∷ [] }) c.self.view_is
    (λ j. record { options = new.options; journal = c.truncate.ensures.items j; bans = bans j })

pub set_of-self-inside-requires : goal.set_of-self-inside-requires
set_of-self-inside-requires c =
    let i = c.self.inside in
    subst (Each (λ n. n < MOST_LEAVES)) (sym (c.deref-3.ensures.value ∙ c.truncate.ensures.items)) (few_front i.journal.items c.args.index c.self.invariant.kept.done).small

pub follow-requires-clause-one_each : goal.follow-requires-clause-one_each
follow-requires-clause-one_each c = one_each_lent c.self.inside c.deref.result.now c.deref_mut.result.now c.self.invariant c.deref.ensures.value c.deref_mut.ensures.value
