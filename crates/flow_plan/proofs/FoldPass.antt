-- What a pass through the rows of choices leads to.
use Rattle.std.proofs.Common.{◌≡◌, ℕ, ◌+◌, ◌<◌, ◌≤◌, Bool, false, ◌&&◌, ◌||◌, ◌↔◌, IsTrue, List, [], ◌∷◌, ◌++◌, length, drop, get_or, inl, inr, ◌⊎◌, ⊎_elim, refl, sym, ◌∙◌, ap, subst, add-one, drop-cons}
use Rattle.std.proofs.Math.Bool.{or-false}
use Rattle.std.proofs.lemmas.List.{drop_all, drop_more}
use Rattle.std.proofs.lemmas.Bool.{and_right}
use Rattle.leaf_rows.specs.Leaves.{has_leaf}
use Rattle.leaf_rows.specs.declared.leaf_set.LeafSet.{LeafSet}
use Rattle.leaf_rows.specs.declared.TheConstants.{LEAF_WORDS}
use Rattle.flow_model.specs.Lists.{◌∈◌}
use Rattle.flow_model.specs.Process.{Process, leaves}
use Rattle.flow_model.proofs.Lists.{mem_append_left, mem_append_right, mem-append, mem_by_halves}
use Rattle.flow_fold_laws.specs.FoldedRows.{Covers, Settling}
use Rattle.flow_fold_laws.specs.SharedFolds.{TellsChoices}
use Rattle.flow_fold_laws.proofs.BegunNext.{both_tests, either_test}
use Rattle.flow_fold_laws.proofs.ClosedChoices.{IsClosedBy, IsClosedIn}
use Rattle.flow_fold_laws.proofs.StayingChoices.{HaveLeavesIn}
use Rattle.flow_plan.specs.declared.fold_row.FoldRow.{FoldRow}
use Rattle.flow_plan.specs.declared.fold_row.Met.{Met}
use Rattle.flow_plan.specs.declared.sides.Sides.{Sides}
use Rattle.flow_plan.specs.FoldRows.{CloseOff, ClosesOff, IsWithin, HasLeaf, IsFoldRow}
use Rattle.flow_plan.specs.Sided.{IsMet, TakesFold}

-- from the one to the other by one choice after the other
abbrev pub Passes : LeafSet LEAF_WORDS → List FoldRow → Sides → Sides → Type 0
Passes done [] old new = old ≡ new
Passes done (row ∷ rows) old new = (between : Sides) × TakesFold row done old between × Passes done rows between new

-- one more is looked at
pub passes_more : (done : LeafSet LEAF_WORDS) (rows : List FoldRow) (i : ℕ) (row : FoldRow) (first now next : Sides) → i < length rows → row ≡ get_or rows i row →
    ((end : Sides) → Passes done (drop i rows) now end → Passes done rows first end) → TakesFold row done now next →
    (end : Sides) → Passes done (drop (i + 1) rows) next end → Passes done rows first end
passes_more done rows i row first now next within at before takes end rest =
    before end (subst (λ (l : List FoldRow). Passes done l now end) (sym (drop-cons rows i row within)) (
      next,
      subst (λ (r : FoldRow). TakesFold r done now next) at takes,
      subst (λ (l : List FoldRow). Passes done l next end) (rw add-one refl) rest,
    ))

-- all are looked at
pub passes_all : (done : LeafSet LEAF_WORDS) (rows : List FoldRow) (i : ℕ) (first last : Sides) → length rows ≤ i →
    ((end : Sides) → Passes done (drop i rows) last end → Passes done rows first end) → Passes done rows first last
passes_all done rows i first last past before =
    before last (subst (λ (l : List FoldRow). Passes done l last last) (sym (drop_all i rows past)) refl)

-- what is done stays
pub done_stays : (done : LeafSet LEAF_WORDS) (rows : List FoldRow) (old new : Sides) → Passes done rows old new → new.done ≡ old.done
done_stays done [] old new same = ap (λ (s : Sides). s.done) (sym same)
done_stays done (row ∷ rows) old new (between, takes, rest) = done_stays done rows between new rest ∙ takes.done_stays

-- of rows that tell choices, those of other choices have none of the leaves
abbrev pub TellRows : List ℕ → List (Process × Process) → List FoldRow → Type 0
TellRows ns choices rows = TellsChoices IsFoldRow (λ row. (n : ℕ) → n ∈ ns → ¬ (HasLeaf row n)) choices rows

-- Of one choice

pub has_both : (choice : Process × Process) (row : FoldRow) → IsFoldRow choice row → (n : ℕ) → HasLeaf row n ↔ (n ∈ (leaves choice.0 ++ leaves choice.1))
has_both choice row is n = (
  mem_by_halves n (leaves choice.0) (leaves choice.1) (is.left n).0 (is.right n).0,
  λ m. ⊎_elim (λ k. inl ((is.left n).1 k)) (λ k. inr ((is.right n).1 k)) (mem-append n (leaves choice.0) (leaves choice.1) m),
)

pub have_left : (ns : List ℕ) (choice : Process × Process) (more : List (Process × Process)) → HaveLeavesIn ns (choice ∷ more) → (n : ℕ) → n ∈ leaves choice.0 → n ∈ ns
have_left ns choice more own n m = own choice (inl refl) n (mem_append_left n (leaves choice.0) (leaves choice.1) m)

pub have_right : (ns : List ℕ) (choice : Process × Process) (more : List (Process × Process)) → HaveLeavesIn ns (choice ∷ more) → (n : ℕ) → n ∈ leaves choice.1 → n ∈ ns
have_right ns choice more own n m = own choice (inl refl) n (mem_append_right n (leaves choice.0) (leaves choice.1) m)

pub have_more : (ns : List ℕ) (choice : Process × Process) (more : List (Process × Process)) → HaveLeavesIn ns (choice ∷ more) → HaveLeavesIn ns more
have_more ns choice more own other m = own other (inr m)

-- sets that get nothing of two sides stay as they are
pub left_alone : (before first one second other : Bool) → one ≡ false → other ≡ false → ((before || (first && one)) || (second && other)) ≡ before
left_alone before first one second other e k =
    rw (and_right first one e, and_right second other k) (or-false (before || false) ∙ or-false before)

-- What is settled

module _ (ns : List ℕ) (done : LeafSet LEAF_WORDS) where
  -- the set is that one, as far as the leaves go
  abbrev IsOf : LeafSet LEAF_WORDS → (ℕ → Type 0) → Type 0
  IsOf set S = (n : ℕ) → n ∈ ns → IsTrue (has_leaf set n) ↔ S n

  covers : (side set : LeafSet LEAF_WORDS) (g : Process) (S : ℕ → Type 0) → ((n : ℕ) → IsTrue (has_leaf side n) ↔ (n ∈ leaves g)) → ((n : ℕ) → n ∈ leaves g → n ∈ ns) →
      IsOf set S → IsWithin side set ↔ Covers S g
  covers side set g S is own of = (
    λ h x m. (of x (own x m)).0 (h x ((is x).1 m)),
    λ h x k. let m = (is x).0 k in (of x (own x m)).1 (h x m),
  )

  settled_step : (choice : Process × Process) (more : List (Process × Process)) (row : FoldRow) (old new : Sides) (S : ℕ → Type 0) → HaveLeavesIn ns (choice ∷ more) → IsFoldRow choice row →
      TakesFold row done old new → IsOf old.settled S →
      IsOf new.settled (λ x. S x ⊎ ((x ∈ (leaves choice.0 ++ leaves choice.1)) × (Covers S choice.0 ⊎ Covers S choice.1)))
  settled_step choice more row old new S own is takes of n m =
      let both = has_both choice row is n in
      let left = covers row.left old.settled choice.0 S is.left (have_left ns choice more own) of in
      let right = covers row.right old.settled choice.1 S is.right (have_right ns choice more own) of in (
        λ h. ⊎_elim (λ k. inl ((of n m).0 k)) (λ (k, w). inr (both.0 k, ⊎_elim (λ v. inl (left.0 v)) (λ v. inr (right.0 v)) w)) ((takes.settles n).0 h),
        λ h. (takes.settles n).1 (⊎_elim (λ k. inl ((of n m).1 k)) (λ (k, w). inr (both.1 k, ⊎_elim (λ v. inl (left.1 v)) (λ v. inr (right.1 v)) w)) h),
      )

  pub settled_pass : (rows : List FoldRow) (choices : List (Process × Process)) (old new : Sides) (S : ℕ → Type 0) → HaveLeavesIn ns choices → TellRows ns choices rows →
      Passes done rows old new → IsOf old.settled S → IsOf new.settled (Settling choices S)
  settled_pass [] choices old new S own e same of n m =
      subst (λ (l : List (Process × Process)). IsTrue (has_leaf new.settled n) ↔ Settling l S n) (sym e)
      (subst (λ (s : Sides). IsTrue (has_leaf s.settled n) ↔ S n) same (of n m))
  settled_pass (row ∷ rows) choices old new S own tells (between, takes, rest) of n m = ⊎_elim
      (λ (choice, more, e, is, t).
      let own' = subst (HaveLeavesIn ns) e own in
      subst (λ (l : List (Process × Process)). IsTrue (has_leaf new.settled n) ↔ Settling l S n) (sym e)
      (settled_pass rows more between new (λ x. S x ⊎ ((x ∈ (leaves choice.0 ++ leaves choice.1)) × (Covers S choice.0 ⊎ Covers S choice.1)))
      (have_more ns choice more own') t rest (settled_step choice more row old between S own' is takes of) n m))
      (λ (none, t). settled_pass rows choices between new S own t rest
      (λ x k. (
        λ h. ⊎_elim (of x k).0 (λ (j, w). absurd (none x k j)) ((takes.settles x).0 h),
        λ h. (takes.settles x).1 (inl ((of x k).1 h)),
      )) n m) tells

  -- What is closed off

  closes_by : (choice : Process × Process) (row : FoldRow) → IsFoldRow choice row → (n : ℕ) → ClosesOff done row n ↔ IsClosedBy choice (λ m. IsTrue (has_leaf done m)) n
  closes_by choice row is n = (
    ⊎_elim (λ (h, (x, k, d)). inl ((is.left n).0 h, (x, (is.right x).0 k, d))) (λ (h, (x, k, d)). inr ((is.right n).0 h, (x, (is.left x).0 k, d))),
    ⊎_elim (λ (m, (x, k, d)). inl ((is.left n).1 m, (x, (is.right x).1 k, d))) (λ (m, (x, k, d)). inr ((is.right n).1 m, (x, (is.left x).1 k, d))),
  )

  pub closed_by_rows : (rows : List FoldRow) (choices : List (Process × Process)) → TellRows ns choices rows → (n : ℕ) → n ∈ ns →
      CloseOff done rows n ↔ IsClosedIn choices (λ m. IsTrue (has_leaf done m)) n
  closed_by_rows [] choices e n m =
      subst (λ (l : List (Process × Process)). ⊥ ↔ IsClosedIn l (λ m. IsTrue (has_leaf done m)) n) (sym e) (λ h. h, λ h. h)
  closed_by_rows (row ∷ rows) choices tells n m = ⊎_elim
      (λ (choice, more, e, is, t).
      let (to, from) = closes_by choice row is n in
      let (over, back) = closed_by_rows rows more t n m in
      subst (λ (l : List (Process × Process)). CloseOff done (row ∷ rows) n ↔ IsClosedIn l (λ m. IsTrue (has_leaf done m)) n) (sym e) (
        ⊎_elim (λ k. inl (to k)) (λ k. inr (over k)),
        ⊎_elim (λ k. inl (from k)) (λ k. inr (back k)),
      ))
      (λ (none, t).
      let (over, back) = closed_by_rows rows choices t n m in (
        ⊎_elim (⊎_elim (λ (h, met). absurd (none n m (inl h))) (λ (h, met). absurd (none n m (inr h)))) over,
        λ h. inr (back h),
      )) tells

-- whether a row closes the leaf off, or it was closed off before
closes_off : (row : FoldRow) (done : LeafSet LEAF_WORDS) (begun : Met) → IsMet row done begun → (n : ℕ) (old new : Bool) →
    new ≡ ((old || (begun.left && has_leaf row.right n)) || (begun.right && has_leaf row.left n)) → IsTrue new ↔ (IsTrue old ⊎ ClosesOff done row n)
closes_off row done begun met n old new is =
    let (to, from) = either_test (old || (begun.left && has_leaf row.right n)) (begun.right && has_leaf row.left n)
    (either_test old (begun.left && has_leaf row.right n) (λ e. e, λ e. e) (both_tests begun.left (has_leaf row.right n) met.left (λ e. e, λ e. e)))
    (both_tests begun.right (has_leaf row.left n) met.right (λ e. e, λ e. e)) in (
      λ e. ⊎_elim (⊎_elim inl (λ (d, h). inr (inr (h, d)))) (λ (d, h). inr (inl (h, d))) (to (sym is ∙ e)),
      λ k. is ∙ from (⊎_elim (λ o. inl (inl o)) (⊎_elim (λ (h, d). inr (d, h)) (λ (h, d). inl (inr (d, h)))) k),
    )

pub closed_pass : (done : LeafSet LEAF_WORDS) (rows : List FoldRow) (old new : Sides) → Passes done rows old new → (n : ℕ) →
    IsTrue (has_leaf new.closed n) ↔ (IsTrue (has_leaf old.closed n) ⊎ CloseOff done rows n)
closed_pass done [] old new same n =
    subst (λ (s : Sides). IsTrue (has_leaf s.closed n) ↔ (IsTrue (has_leaf old.closed n) ⊎ ⊥)) same (inl, ⊎_elim (λ h. h) absurd)
closed_pass done (row ∷ rows) old new (between, takes, rest) n =
    let (to, from) = closed_pass done rows between new rest n in
    let (over, back) = closes_off row done takes.begun takes.begun_are n (has_leaf old.closed n) (has_leaf between.closed n) (takes.closes n) in (
      λ h. ⊎_elim (λ k. ⊎_elim inl (λ j. inr (inl j)) (over k)) (λ k. inr (inr k)) (to h),
      λ h. from (⊎_elim (λ k. inl (back (inl k))) (⊎_elim (λ k. inl (back (inr k))) inr) h),
    )

-- with the rest of the rows, the set has what all of them close off
abbrev pub ClosesWithRest : LeafSet LEAF_WORDS → List FoldRow → ℕ → LeafSet LEAF_WORDS → Type 0
ClosesWithRest done rows i set = (n : ℕ) → (IsTrue (has_leaf set n) ⊎ CloseOff done (drop i rows) n) ↔ CloseOff done rows n

pub closes_more : (done : LeafSet LEAF_WORDS) (rows : List FoldRow) (i : ℕ) (row : FoldRow) (begun : Met) (now new : LeafSet LEAF_WORDS) → i < length rows → row ≡ get_or rows i row →
    IsMet row done begun → ((n : ℕ) → has_leaf new n ≡ ((has_leaf now n || (begun.left && has_leaf row.right n)) || (begun.right && has_leaf row.left n))) →
    ClosesWithRest done rows i now → ClosesWithRest done rows (i + 1) new
closes_more done rows i row begun now new within at met is before n =
    let (to, from) = closes_off row done begun met n (has_leaf now n) (has_leaf new n) (is n) in
    let more : drop i rows ≡ row ∷ drop (i + 1) rows = drop_more rows i row within ∙ ap (λ (r : FoldRow). r ∷ drop (i + 1) rows) (sym at) in
    let (over, back) = subst (λ (l : List FoldRow). (IsTrue (has_leaf now n) ⊎ CloseOff done l n) ↔ CloseOff done rows n) more (before n) in (
      λ h. over (⊎_elim (λ e. ⊎_elim inl (λ k. inr (inl k)) (to e)) (λ k. inr (inr k)) h),
      λ h. ⊎_elim (λ e. inl (from (inl e))) (⊎_elim (λ k. inl (from (inr k))) inr) (back h),
    )

pub closes_all : (done : LeafSet LEAF_WORDS) (rows : List FoldRow) (i : ℕ) (set : LeafSet LEAF_WORDS) → length rows ≤ i → ClosesWithRest done rows i set → (n : ℕ) →
    IsTrue (has_leaf set n) ↔ CloseOff done rows n
closes_all done rows i set past before n =
    let (to, from) = subst (λ (l : List FoldRow). (IsTrue (has_leaf set n) ⊎ CloseOff done l n) ↔ CloseOff done rows n) (drop_all i rows past) (before n) in
    (λ h. to (inl h), λ k. ⊎_elim (λ h. h) absurd (from k))
