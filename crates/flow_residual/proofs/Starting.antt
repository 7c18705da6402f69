-- What is kept where no leaf is done and none is banned.
use Rattle.std.proofs.Common.{◌≡◌, ◌<◌, ◌≤◌, ℕ, false, List, [], ◌∷◌, length, replicate, get_or, sym, ap, ◌∙◌, subst, subst₂, arith, true≢false}
use Rattle.std.specs.Vec.{vec_capacity}
use Rattle.std.proofs.lemmas.List.{length-replicate, get_or-replicate}
use Rattle.std.proofs.lemmas.List.Elements.{All-head, All-tail}
use Rattle.std.proofs.lemmas.Option.{slice_get_within}
use Rattle.flow_model.specs.declared.limits.TheConstants.{MOST_LEAVES}
use Rattle.flow_model.specs.Lists.{Each}
use Rattle.flow_model.specs.Resolution.{ChoiceOption}
use Rattle.flow_plan.specs.Compilation.{AreShared}
use Rattle.flow_plan.specs.declared.fold_row.FoldRow.{FoldRow}
use Rattle.flow_plan.specs.FoldRows.{AreFoldRows}
use Rattle.flow_plan.specs.Sampled.{Sampled}
use Rattle.flow_plan.specs.Options.{options_of, HasSmallLeaves}
use Rattle.flow_residual.specs.declared.residual.Ban.{Ban}
use Rattle.flow_residual.specs.declared.residual.Residual.TheInside.{Inside}
use Rattle.flow_residual.specs.Options.{EachHas}
use Rattle.flow_residual.specs.PlanRows.{AreLeafRows}
use Rattle.flow_residual.specs.Remaining.{banned}
use Rattle.flow_residual.specs.View.{remaining, pairs_of_bans}
use Rattle.flow_residual.specs.Invariant.{AreOpenPlaces, IsKept, IsRoomy}
use Rattle.flow_residual.specs.Telling.{AreServing, IsOrderedOption, IsSetOf, Tells}
use Rattle.flow_residual.specs.Track.{IsFront}

starts : (o : ChoiceOption) → IsFront [] o 0
starts o = record { within = omega arith; followed = tt; longest = λ m within followed. within }

pub all_start : (os : List ChoiceOption) (n : ℕ) (fronts : List ℕ) → fronts ≡ replicate n 0 → n ≡ length os → EachHas (IsFront []) os fronts
all_start os n fronts is counted = record {
  one_each = ap length is ∙ length-replicate n 0 ∙ counted;
  each = λ k o x at there.
      let within : k < n = let below : k < length os = slice_get_within os k o at in omega arith in
      subst (IsFront [] o) (sym (there ∙ ap (λ ts. get_or ts k x) is ∙ get_or-replicate n k 0 x within)) (starts o);
}

kept_first : (plans : List Sampled) (journal : List ℕ) (bans : List Ban) → Each HasSmallLeaves (options_of plans) → Each IsOrderedOption (options_of plans) → journal ≡ [] → bans ≡ [] →
    IsKept (remaining plans journal bans)
kept_first plans journal bans fits ordered no_journal no_bans = subst₂ (λ (journal : List ℕ) (bans : List Ban). IsKept (remaining plans journal bans)) (sym no_journal) (sym no_bans) (record {
  fits = fits;
  ordered = ordered;
  done = record { small = tt; distinct = tt };
  bans_few = record { small = tt; distinct = tt };
  apart = tt;
  early = tt;
})

no_opens_first : (plans : List Sampled) (bans : List Ban) → AreOpenPlaces (remaining plans [] bans) []
no_opens_first plans bans = record {
  within = tt;
  rising = λ k within. absurd (omega arith);
  exact = λ w s of i. (λ none. absurd none, λ opening. absurd (omega (arith, opening.0, ap length of.journal_is)));
}

-- a residual whose plans were handed out to make its fronts
pub roomy_first : (i : Inside) (turned : List Sampled) → turned ≡ i.plans.items → Each HasSmallLeaves (options_of i.plans.items) → Each IsOrderedOption (options_of i.plans.items) →
    Each (AreServing i.folds.items) (options_of i.plans.items) → EachHas (IsFront []) (options_of turned) i.fronts.items → AreLeafRows (options_of turned) i.leaves →
    i.journal.items ≡ [] → i.bans.items ≡ [] → i.fresh ≡ false → IsSetOf [] i.done → IsSetOf [] i.banned → Tells (options_of i.plans.items) [] [] i.sides →
    MOST_LEAVES ≤ vec_capacity i.journal → MOST_LEAVES ≤ vec_capacity i.bans → i.opens.items ≡ [] → MOST_LEAVES ≤ vec_capacity i.opens → IsRoomy i
roomy_first i turned same fits ordered served fronts leaves no_journal no_bans stale none_done none_banned told journal_room bans_room no_opens opens_room = record {
  kept = kept_first i.plans.items i.journal.items i.bans.items fits ordered no_journal no_bans;
  served = served;
  fronts = subst (λ plans. EachHas (IsFront i.journal.items) (options_of plans) i.fronts.items) same
      (subst (λ (journal : List ℕ). EachHas (IsFront journal) (options_of turned) i.fronts.items) (sym no_journal) fronts);
  leaves_are = subst (λ plans. AreLeafRows (options_of plans) i.leaves) same leaves;
  rows_are = λ fresh. absurd (true≢false (sym fresh ∙ stale));
  done_are = subst (λ (journal : List ℕ). IsSetOf journal i.done) (sym no_journal) none_done;
  banned_are = subst (λ (bans : List Ban). IsSetOf (banned (pairs_of_bans bans)) i.banned) (sym no_bans) none_banned;
  sides = subst₂ (λ (journal : List ℕ) (bans : List Ban). Tells (options_of i.plans.items) journal (banned (pairs_of_bans bans)) i.sides) (sym no_journal) (sym no_bans) told;
  journal_room = journal_room;
  bans_room = bans_room;
  opens = subst₂ (λ (journal opens : List ℕ). AreOpenPlaces (remaining i.plans.items journal i.bans.items) opens) (sym no_journal) (sym no_opens) (no_opens_first i.plans.items i.bans.items);
  opens_room = opens_room;
}

-- the rows that serve the plans serve their options
pub serving_of : (folds : List FoldRow) (plans : List Sampled) → AreShared folds plans → Each (AreServing folds) (options_of plans)
serving_of folds [] shared = tt
serving_of folds (plan ∷ plans) shared = (
  All-head (λ (s : Sampled). AreFoldRows s.plan.process folds) plan plans shared,
  serving_of folds plans (All-tail (λ (s : Sampled). AreFoldRows s.plan.process folds) plan plans shared),
)
