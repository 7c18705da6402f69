-- What the choices tell of options.
use Rattle.std.proofs.Common.{◌≡◌, ◌≤◌, ◌<◌, ℕ, Bool, not, true, false, ◌||◌, IsTrue, List, [], ◌∷◌, ◌++◌, ◌↔◌, refl, sym, subst, inl, inr, ⊎_elim, arith}
use Rattle.leaf_rows.specs.Leaves.{has_leaf}
use Rattle.leaf_rows.specs.declared.leaf_set.LeafSet.{LeafSet}
use Rattle.leaf_rows.specs.declared.TheConstants.{LEAF_WORDS}
use Rattle.flow_model.specs.declared.limits.TheConstants.{MOST_LEAVES}
use Rattle.flow_model.specs.Lists.{◌∈◌, Each, AreDistinct}
use Rattle.flow_model.specs.Process.{Process, Empty, leaves}
use Rattle.flow_model.specs.Ready.{DoneOr}
use Rattle.flow_model.specs.Resolution.{ChoiceOption}
use Rattle.flow_model.specs.Folding.{IsFolded}
use Rattle.flow_model.specs.FoldedReady.{IsClosedOff}
use Rattle.flow_model.specs.FoldedRun.{CanAvoid}
use Rattle.flow_model.proofs.Lists.{each_member, each_from_members, mem-append, mem_append_left, only_one}
use Rattle.flow_fold_laws.proofs.AvoidedTogether.{HasFewer, avoid_less, closed_more}
use Rattle.flow_fold_laws.proofs.BegunNext.{either_test, member_test}
use Rattle.flow_fold_laws.proofs.FoldedAvoid.{is_in}
use Rattle.flow_plan.specs.declared.fold_row.FoldRow.{FoldRow}
use Rattle.flow_plan.specs.declared.sides.Sides.{Sides}
use Rattle.flow_plan.specs.FoldRows.{AreFoldRows}
use Rattle.flow_plan.specs.Options.{HasSmallLeaves, option_of}
use Rattle.flow_plan.specs.Orders.{TellOf}
use Rattle.flow_plan.specs.Planned.{Planned}
use Rattle.flow_plan.specs.Sided.{AreSidesOf, IsDoneIn}
use Rattle.flow_residual.specs.Telling.{IsOrderedOption, AreServing, IsSetOf, Tells, IsApart}
use Rattle.flow_residual.specs.PlanRows.{HasLeafIn}
use Rattle.flow_residual.specs.Remaining.{Remaining, banned}
use Rattle.flow_residual.specs.Question.{CanBegin, IsBarred}
use Rattle.flow_residual.proofs.Avoiding.{avoid_as, avoids_unless_not}

-- ---- tests that say the same

same_bit : (b c : Bool) → (IsTrue b → IsTrue c) → (IsTrue c → IsTrue b) → b ≡ c
same_bit true true to from = refl
same_bit true false to from = sym (to refl)
same_bit false true to from = from refl
same_bit false false to from = refl

same_test : (p r : ℕ → Bool) → ((n : ℕ) → IsTrue (p n) ↔ IsTrue (r n)) → p ≡ r
same_test p r same = λ i n. same_bit (p n) (r n) (same n).0 (same n).1 i

-- rows of choices serve a goal with no leaf
serves_none : (folds : List FoldRow) → AreFoldRows Empty folds
serves_none [] = refl
serves_none (row ∷ folds) = inr ((λ n m. absurd m), serves_none folds)

-- ---- what was found

abbrev pub AreTold : List FoldRow → LeafSet LEAF_WORDS → LeafSet LEAF_WORDS → Sides → Type 0
AreTold folds done excluded sides = (q : Process) → AreFoldRows q folds → IsFolded q → AreDistinct (leaves q) →
    AreSidesOf q (λ n. IsTrue (has_leaf done n)) (λ n. IsTrue (has_leaf excluded n)) sides

module _ (folds : List FoldRow) (done excluded : LeafSet LEAF_WORDS) (sides : Sides) (told : AreTold folds done excluded sides)
    (os : List ChoiceOption) (ordered : Each IsOrderedOption os) (serving : Each (AreServing folds) os) where
  has_done : (n : ℕ) → IsTrue (has_leaf sides.done n) ↔ IsTrue (has_leaf done n)
  has_done = (told Empty (serves_none folds) tt tt).done

  of_option : (o : ChoiceOption) → o ∈ os → AreSidesOf o.resolution (λ n. IsTrue (has_leaf done n)) (λ n. IsTrue (has_leaf excluded n)) sides
  of_option o m =
      let order = each_member IsOrderedOption os ordered o m in
      told o.resolution (each_member (AreServing folds) os serving o m) order.folded order.distinct

  pub told_of_all : (journal bans : List ℕ) → IsSetOf journal done → IsSetOf bans excluded → Tells os journal bans sides
  told_of_all journal bans journal_is bans_are = record {
    done = λ n. (λ h. (journal_is n).0 ((has_done n).0 h), λ m. (has_done n).1 ((journal_is n).1 m));
    each =
        let dones : (λ n. has_leaf done n) ≡ (λ n. has_leaf sides.done n) = same_test (has_leaf done) (has_leaf sides.done) (λ n. ((has_done n).1, (has_done n).0)) in
        let outs : (λ n. has_leaf excluded n) ≡ is_in bans = same_test (has_leaf excluded) (is_in bans)
        (λ n. (λ h. (member_test bans n).1 ((bans_are n).0 h), λ h. (bans_are n).1 ((member_test bans n).0 h))) in
        each_from_members (λ o. AreSidesOf o.resolution (IsDoneIn sides) (λ n. IsTrue (is_in bans n)) sides) os (λ o m.
        subst (λ (d : ℕ → Bool). AreSidesOf o.resolution (λ n. IsTrue (d n)) (λ n. IsTrue (is_in bans n)) sides) dones
        (subst (λ (b : ℕ → Bool). AreSidesOf o.resolution (λ n. IsTrue (has_leaf done n)) (λ n. IsTrue (b n)) sides) outs (of_option o m)));
  }

-- what is closed off in each option that the rows of choices serve
pub closed_of_all : (folds : List FoldRow) (done closed : LeafSet LEAF_WORDS) →
    ((q : Process) → AreFoldRows q folds → (n : ℕ) → n ∈ leaves q → IsTrue (has_leaf closed n) ↔ IsClosedOff q (λ m. IsTrue (has_leaf done m)) n) →
    (os : List ChoiceOption) → Each (AreServing folds) os → (list : List ℕ) → IsSetOf list done → Each (IsApart list closed) os
closed_of_all folds done closed told os serving list is = each_from_members (IsApart list closed) os (λ o m n l.
    let (to, from) = told o.resolution (each_member (AreServing folds) os serving o m) n l in (
      λ h. closed_more o.resolution (λ x. IsTrue (has_leaf done x)) (λ x. x ∈ list) n (λ x. (is x).0) (to h),
      λ c. from (closed_more o.resolution (λ x. x ∈ list) (λ x. IsTrue (has_leaf done x)) n (λ x. (is x).1) c),
    ))

-- ---- bans of leaves that no option has

sides_banned : (q : Process) (D B C : ℕ → Type 0) (sides : Sides) → HasFewer q B C → HasFewer q C B → AreSidesOf q D B sides → AreSidesOf q D C sides
sides_banned q D B C sides to from s = record {
  done = s.done;
  settled = s.settled;
  closed = s.closed;
  spoilt = (
    λ h can. s.spoilt.0 h (avoid_less q D D C B (λ n m d. d) to can),
    λ none. s.spoilt.1 (λ can. none (avoid_less q D D B C (λ n m d. d) from can)),
  );
  barred = λ can n m.
      let E : ℕ → Type 0 = DoneOr D (n ∷ []) in
      let bar = s.barred (avoid_less q D D C B (λ n m d. d) to can) n m in (
        λ h later. bar.0 h (avoid_less q E E C B (λ n m d. d) to later),
        λ none. bar.1 (λ later. none (avoid_less q E E B C (λ n m d. d) from later)),
      );
}

pub told_with_large : (os : List ChoiceOption) (journal bans : List ℕ) (sides : Sides) (leaf : ℕ) → Each HasSmallLeaves os → MOST_LEAVES ≤ leaf → Tells os journal bans sides →
    Tells os journal (bans ++ leaf ∷ []) sides
told_with_large os journal bans sides leaf fits large told = record {
  done = told.done;
  each = each_from_members (λ o. AreSidesOf o.resolution (IsDoneIn sides) (λ n. IsTrue (is_in (bans ++ leaf ∷ []) n)) sides) os (λ o m.
      sides_banned o.resolution (IsDoneIn sides) (λ n. IsTrue (is_in bans n)) (λ n. IsTrue (is_in (bans ++ leaf ∷ []) n)) sides
      (λ n l h. (member_test (bans ++ leaf ∷ []) n).1 (mem_append_left n bans (leaf ∷ []) ((member_test bans n).0 h)))
      (λ n l h. (member_test bans n).1 (⊎_elim (λ k. k) (λ last. absurd (too_large o m n l (only_one n leaf last))) (mem-append n bans (leaf ∷ []) ((member_test (bans ++ leaf ∷ []) n).0 h))))
      (each_member (λ o. AreSidesOf o.resolution (IsDoneIn sides) (λ n. IsTrue (is_in bans n)) sides) os told.each o m));
}
  where
    too_large : (o : ChoiceOption) → o ∈ os → (n : ℕ) → n ∈ leaves o.resolution → ¬ (n ≡ leaf)
    too_large o m n l e = omega (arith, each_member (λ n. n < MOST_LEAVES) (leaves o.resolution) (each_member HasSmallLeaves os fits o m) n l)

-- the leaf is begun besides
abbrev begun_with : Sides → ℕ → ℕ → Bool
begun_with sides n x = has_leaf sides.done x || is_in (n ∷ []) x

-- ---- what is told of one option

module _ (os : List ChoiceOption) (journal bans : List ℕ) (sides : Sides) (told : Tells os journal bans sides) (o : ChoiceOption) (there : o ∈ os) where
  pub sides_of : AreSidesOf o.resolution (IsDoneIn sides) (λ n. IsTrue (is_in bans n)) sides
  sides_of = each_member (λ o. AreSidesOf o.resolution (IsDoneIn sides) (λ n. IsTrue (is_in bans n)) sides) os told.each o there

  pub tell_of : (p : Planned) → option_of p ≡ o → TellOf p sides
  tell_of p same = (is_in bans, subst (λ (u : ChoiceOption). AreSidesOf u.resolution (IsDoneIn sides) (λ n. IsTrue (is_in bans n)) sides) (sym same) sides_of)

  to_tests : CanAvoid o.resolution (λ n. n ∈ journal) (λ n. n ∈ bans) → CanAvoid o.resolution (IsDoneIn sides) (λ n. IsTrue (is_in bans n))
  to_tests = avoid_as o.resolution (λ n. n ∈ journal) (IsDoneIn sides) (λ n. n ∈ bans) (λ n. IsTrue (is_in bans n)) (λ n. (told.done n).0) (λ n. (member_test bans n).0)

  of_tests : CanAvoid o.resolution (IsDoneIn sides) (λ n. IsTrue (is_in bans n)) → CanAvoid o.resolution (λ n. n ∈ journal) (λ n. n ∈ bans)
  of_tests = avoid_as o.resolution (IsDoneIn sides) (λ n. n ∈ journal) (λ n. IsTrue (is_in bans n)) (λ n. n ∈ bans) (λ n. (told.done n).1) (λ n. (member_test bans n).1)

  later_to_tests : (n : ℕ) → CanAvoid o.resolution (DoneOr (λ x. x ∈ journal) (n ∷ [])) (λ x. x ∈ bans) → CanAvoid o.resolution (DoneOr (IsDoneIn sides) (n ∷ [])) (λ x. IsTrue (is_in bans x))
  later_to_tests n = avoid_as o.resolution (DoneOr (λ x. x ∈ journal) (n ∷ [])) (DoneOr (IsDoneIn sides) (n ∷ [])) (λ x. x ∈ bans) (λ x. IsTrue (is_in bans x))
      (λ x. ⊎_elim (λ d. inl ((told.done x).0 d)) inr) (λ x. (member_test bans x).0)

  later_of_tests : (n : ℕ) → CanAvoid o.resolution (DoneOr (IsDoneIn sides) (n ∷ [])) (λ x. IsTrue (is_in bans x)) → CanAvoid o.resolution (DoneOr (λ x. x ∈ journal) (n ∷ [])) (λ x. x ∈ bans)
  later_of_tests n = avoid_as o.resolution (DoneOr (IsDoneIn sides) (n ∷ [])) (DoneOr (λ x. x ∈ journal) (n ∷ [])) (λ x. IsTrue (is_in bans x)) (λ x. x ∈ bans)
      (λ x. ⊎_elim (λ d. inl ((told.done x).1 d)) inr) (λ x. (member_test bans x).1)

  -- with a leaf that is spoilt it cannot go on
  pub where_spoilt : HasLeafIn o sides.spoilt → ¬ (CanAvoid o.resolution (λ n. n ∈ journal) (λ n. n ∈ bans))
  where_spoilt has can = sides_of.spoilt.0 has (to_tests can)

  module _ (ordered : IsOrderedOption o) where
    -- whether it is spoilt
    pub unless_spoilt : (b : Bool) → (IsTrue b ↔ ¬ (CanAvoid o.resolution (IsDoneIn sides) (λ n. IsTrue (is_in bans n)))) →
        IsTrue (not b) ↔ CanAvoid o.resolution (λ n. n ∈ journal) (λ n. n ∈ bans)
    unless_spoilt true says = (λ wrong. absurd (cc), λ can. absurd (says.0 refl (to_tests can)))
    unless_spoilt false says = (
      λ _. of_tests (avoids_unless_not o.resolution ordered.folded ordered.distinct (has_leaf sides.done) (is_in bans) (λ none. let wrong = says.1 none in absurd (cc))),
      λ can. refl,
    )

    -- whether a leaf is barred
    module _ (can : CanAvoid o.resolution (λ n. n ∈ journal) (λ n. n ∈ bans)) (n : ℕ) (leaf : n ∈ leaves o.resolution) where
      pub where_barred : IsTrue (has_leaf sides.barred n) → ¬ (CanAvoid o.resolution (DoneOr (λ x. x ∈ journal) (n ∷ [])) (λ x. x ∈ bans))
      where_barred h later = (sides_of.barred (to_tests can) n leaf).0 h (later_to_tests n later)

      pub where_free : ¬ (IsTrue (has_leaf sides.barred n)) → CanAvoid o.resolution (DoneOr (λ x. x ∈ journal) (n ∷ [])) (λ x. x ∈ bans)
      where_free free = later_of_tests n (later.0 (avoids_unless_not o.resolution ordered.folded ordered.distinct (begun_with sides n) (is_in bans)
          (λ none. free ((sides_of.barred (to_tests can) n leaf).1 (λ avoids. none (later.1 avoids))))))
        where
          same : (x : ℕ) → IsTrue (has_leaf sides.done x || is_in (n ∷ []) x) ↔ DoneOr (IsDoneIn sides) (n ∷ []) x
          same x = either_test (has_leaf sides.done x) (is_in (n ∷ []) x) (λ h. h, λ h. h) (member_test (n ∷ []) x)

          later : CanAvoid o.resolution (λ x. IsTrue (begun_with sides n x)) (λ x. IsTrue (is_in bans x)) ↔ CanAvoid o.resolution (DoneOr (IsDoneIn sides) (n ∷ [])) (λ x. IsTrue (is_in bans x))
          later = (
            avoid_as o.resolution (λ x. IsTrue (begun_with sides n x)) (DoneOr (IsDoneIn sides) (n ∷ [])) (λ x. IsTrue (is_in bans x)) (λ x. IsTrue (is_in bans x)) (λ x. (same x).1) (λ x b. b),
            avoid_as o.resolution (DoneOr (IsDoneIn sides) (n ∷ [])) (λ x. IsTrue (begun_with sides n x)) (λ x. IsTrue (is_in bans x)) (λ x. IsTrue (is_in bans x)) (λ x. (same x).0) (λ x b. b),
          )

-- ---- which leaves may be begun

module _ (r : Remaining) (sides : Sides) (told : Tells r.options r.journal (banned r.bans) sides) (ordered : Each IsOrderedOption r.options) (n : ℕ) where
  pub free_begins : ¬ (IsTrue (has_leaf sides.barred n)) → CanBegin r n
  free_begins free o live leaf =
      where_free r.options r.journal (banned r.bans) sides told o live.among (each_member IsOrderedOption r.options ordered o live.among) live.avoids n leaf free

  pub barred_keeps : IsTrue (has_leaf sides.barred n) → IsBarred r n
  barred_keeps bars o live leaf =
      where_barred r.options r.journal (banned r.bans) sides told o live.among (each_member IsOrderedOption r.options ordered o live.among) live.avoids n leaf bars

-- no option has a greater leaf
pub large_is_barred : (r : Remaining) (n : ℕ) → Each HasSmallLeaves r.options → MOST_LEAVES ≤ n → IsBarred r n
large_is_barred r n fits large o live leaf still =
    absurd (omega (arith, each_member (λ k. k < MOST_LEAVES) (leaves o.resolution) (each_member HasSmallLeaves r.options fits o live.among) n leaf))
