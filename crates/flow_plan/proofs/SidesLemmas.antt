-- What a whole pass through the rows of choices says of each goal that they serve.
use Rattle.std.proofs.Common.{◌≡◌, ℕ, Bool, false, ◌||◌, ◌↔◌, IsTrue, List, [], inr, ⊎_elim, refl, sym, ◌∷◌, ◌∙◌, ap}
use Rattle.std.specs.List.{list_any}
use Rattle.std.proofs.Math.Bool.{or-false}
use Rattle.std.proofs.lemmas.Bool.{both_ways, cases_Bool, false≢true}
use Rattle.leaf_rows.specs.Leaves.{has_leaf}
use Rattle.leaf_rows.specs.declared.leaf_set.LeafSet.{LeafSet}
use Rattle.leaf_rows.specs.declared.TheConstants.{LEAF_WORDS}
use Rattle.flow_model.specs.Lists.{◌∈◌, AreDistinct}
use Rattle.flow_model.specs.Process.{Process, leaves}
use Rattle.flow_model.specs.Ready.{DoneOr}
use Rattle.flow_model.specs.Folding.{IsFolded, choices_of}
use Rattle.flow_model.specs.FoldedReady.{IsClosedOff}
use Rattle.flow_model.specs.FoldedRun.{CanAvoid}
use Rattle.flow_model.proofs.MadeLists.{some_passes, passing_member}
use Rattle.flow_fold_laws.specs.FoldedRows.{IsSettled, spoiled_by}
use Rattle.flow_fold_laws.specs.Beginning.{barred_by}
use Rattle.flow_fold_laws.proofs.StayingChoices.{choices_have}
use Rattle.flow_fold_laws.proofs.FoldedPass.{settled_in_one_pass}
use Rattle.flow_fold_laws.proofs.ClosedChoices.{closed_by_choices}
use Rattle.flow_fold_laws.proofs.FoldedAvoid.{avoided_in_one_pass}
use Rattle.flow_fold_laws.proofs.BegunNext.{may_begin_by_one_pass}
use Rattle.flow_plan.specs.declared.fold_row.FoldRow.{FoldRow}
use Rattle.flow_plan.specs.declared.sides.Sides.{Sides}
use Rattle.flow_plan.specs.FoldRows.{AreFoldRows, CloseOff}
use Rattle.flow_plan.specs.Sided.{AreSidesOf}
use Rattle.flow_plan.proofs.FoldPass.{Passes, done_stays, settled_pass, closed_by_rows, closed_pass}
use Rattle.flow_plan.proofs.SpoiltPass.{is_out, spoilt_pass, barred_pass}

-- what the rows close off is what is closed off in the goal
pub closed_off_by : (q : Process) (rows : List FoldRow) (done : LeafSet LEAF_WORDS) → AreFoldRows q rows → (n : ℕ) → n ∈ leaves q →
    CloseOff done rows n ↔ IsClosedOff q (λ m. IsTrue (has_leaf done m)) n
closed_off_by q rows done are n m =
    let (to, from) = closed_by_rows (leaves q) done rows (choices_of q) are n m in
    let (over, back) = closed_by_choices q (λ x. IsTrue (has_leaf done x)) n in
    (λ h. back (to h), λ h. from (over h))

module _ (rows : List FoldRow) (done banned none : LeafSet LEAF_WORDS) (empty : (n : ℕ) → has_leaf none n ≡ false) (last : Sides)
    (passed : Passes done rows (record { done = done; settled = done; closed = none; barred = banned; spoilt = banned }) last)
    (q : Process) (are : AreFoldRows q rows) (folded : IsFolded q) (distinct : AreDistinct (leaves q)) where
  first : Sides
  first = record { done = done; settled = done; closed = none; barred = banned; spoilt = banned }

  settled_are : (n : ℕ) → n ∈ leaves q → IsTrue (has_leaf last.settled n) ↔ IsSettled q (λ m. IsTrue (has_leaf done m)) n
  settled_are n m =
      let (to, from) = settled_pass (leaves q) done rows (choices_of q) _ last (λ x. IsTrue (has_leaf done x)) (choices_have q) are passed (λ x k. (λ h. h, λ h. h)) n m in
      let (over, back) = settled_in_one_pass q (has_leaf done) distinct n in (λ h. over (to h), λ h. from (back h))

  closed_are : (n : ℕ) → n ∈ leaves q → IsTrue (has_leaf last.closed n) ↔ IsClosedOff q (λ m. IsTrue (has_leaf done m)) n
  closed_are n m =
      let (to, from) = closed_pass done rows _ last passed n in
      let (over, back) = closed_off_by q rows done are n m in (
        λ h. ⊎_elim (λ k. absurd (false≢true (sym (empty n) ∙ k))) over (to h),
        λ h. from (inr (back h)),
      )

  spoilt_are : ((n : ℕ) × (n ∈ leaves q) × IsTrue (has_leaf last.spoilt n)) ↔ ¬ (CanAvoid q (λ m. IsTrue (has_leaf done m)) (λ m. IsTrue (has_leaf banned m)))
  spoilt_are =
      let same = spoilt_pass (leaves q) done rows (choices_of q) _ last (has_leaf banned) (choices_have q) are passed (λ x k. refl) in
      let (to, from) = avoided_in_one_pass q (has_leaf done) (has_leaf banned) folded distinct in
      let test : ℕ → Bool = spoiled_by (choices_of q) (has_leaf done) (has_leaf banned) in (
        λ (n, m, k) can. both_ways (list_any test (leaves q)) (to can) (some_passes test n (leaves q) m (sym (same n m) ∙ k)),
        λ never. ⊎_elim (λ e. let (n, m, k) = passing_member test (leaves q) e in (n, m, same n m ∙ k)) (λ e. absurd (never (from e))) (cases_Bool (list_any test (leaves q))),
      )

  barred_are : CanAvoid q (λ m. IsTrue (has_leaf done m)) (λ m. IsTrue (has_leaf banned m)) → (n : ℕ) → n ∈ leaves q →
      IsTrue (is_out (leaves q) done last n) ↔ ¬ (CanAvoid q (DoneOr (λ m. IsTrue (has_leaf done m)) (n ∷ [])) (λ m. IsTrue (has_leaf banned m)))
  barred_are can n m =
      let same = barred_pass (leaves q) done rows (choices_of q) _ last (has_leaf banned) (has_leaf banned) (choices_have q) are passed (λ x k. refl)
      (λ x k. ap (λ b. has_leaf banned x || b) (empty x) ∙ or-false (has_leaf banned x)) n m in
      let (to, from) = may_begin_by_one_pass q (has_leaf done) (has_leaf banned) folded distinct can n m in
      let test : Bool = barred_by (choices_of q) (has_leaf done) (has_leaf banned) (has_leaf banned) n in (
        λ h may. both_ways test (to may) (sym same ∙ h),
        λ never. ⊎_elim (λ e. same ∙ e) (λ e. absurd (never (from e))) (cases_Bool test),
      )

  -- with what is closed off among what is barred, they are the sides of the goal
  pub sides_are : (out : LeafSet LEAF_WORDS) → ((n : ℕ) → has_leaf out n ≡ (has_leaf last.barred n || has_leaf last.closed n)) →
      AreSidesOf q (λ n. IsTrue (has_leaf done n)) (λ n. IsTrue (has_leaf banned n)) (record { done = last.done; settled = last.settled; closed = last.closed; barred = out; spoilt = last.spoilt })
  unfolding first
  sides_are out joined = record {
    done = λ n. let same = ap (λ set. has_leaf set n) (done_stays done rows first last passed) in (λ h. sym same ∙ h, λ h. same ∙ h);
    settled = settled_are;
    closed = closed_are;
    spoilt = spoilt_are;
    barred = λ can n m. let (to, from) = barred_are can n m in (λ h. to (sym (joined n) ∙ h), λ never. joined n ∙ from never);
  }
