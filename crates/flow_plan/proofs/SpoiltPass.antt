-- What a pass through the rows of choices says of banned leaves.
use Rattle.std.proofs.Common.{◌≡◌, ℕ, Bool, true, false, ◌&&◌, ◌||◌, ◌↔◌, IsTrue, List, [], ◌∷◌, ◌++◌, inl, inr, ⊎_elim, refl, sym, ◌∙◌, subst, arith}
use Rattle.std.specs.List.{list_any}
use Rattle.std.proofs.lemmas.Bool.{cases_Bool, false_from_ne_true, or_from}
use Rattle.leaf_rows.specs.Leaves.{has_leaf}
use Rattle.leaf_rows.specs.declared.leaf_set.LeafSet.{LeafSet}
use Rattle.leaf_rows.specs.declared.TheConstants.{LEAF_WORDS}
use Rattle.flow_model.specs.Lists.{◌∈◌}
use Rattle.flow_model.specs.Process.{Process, leaves}
use Rattle.flow_model.proofs.MadeLists.{some_passes, passing_member}
use Rattle.flow_fold_laws.specs.FoldedRows.{spoiled_by_choice, spoiled_by}
use Rattle.flow_fold_laws.specs.Beginning.{barred_by_choice, barred_by}
use Rattle.flow_fold_laws.proofs.StayingChoices.{HaveLeavesIn}
use Rattle.flow_fold_laws.proofs.FoldedAvoid.{is_in, marked_outside}
use Rattle.flow_fold_laws.proofs.BegunNext.{member_test, either_test}
use Rattle.flow_plan.specs.declared.fold_row.FoldRow.{FoldRow}
use Rattle.flow_plan.specs.declared.sides.Sides.{Sides}
use Rattle.flow_plan.specs.FoldRows.{Meets, HasLeaf, IsFoldRow}
use Rattle.flow_plan.specs.Sided.{TakesFold}
use Rattle.flow_plan.proofs.FoldPass.{Passes, TellRows, has_both, have_left, have_right, have_more, left_alone}

-- tests of one fact are the same
same_answer : {P : Type 0} (x y : Bool) → (x ≡ true) ↔ P → (y ≡ true) ↔ P → x ≡ y
same_answer x y p q = ⊎_elim
    (λ e. e ∙ sym (q.1 (p.0 e)))
    (λ e. e ∙ sym (false_from_ne_true y (λ k. grind (arith, p.1 (q.0 k), e))))
    (cases_Bool x)

merged : (ob oc sl sr bl br rl rr : Bool) →
    (((ob || (sl && rl)) || (sr && rr)) || ((oc || (bl && rr)) || (br && rl))) ≡ ((ob || oc) || ((rl && (sl || br)) || (rr && (sr || bl))))
merged ob oc sl sr bl br rl rr = grind (arith, cases_Bool rl, cases_Bool rr, cases_Bool ob, cases_Bool oc, cases_Bool sl, cases_Bool sr, cases_Bool bl, cases_Bool br)

module _ (ns : List ℕ) where
  -- the test is that of the set, as far as the leaves go
  abbrev pub Agrees : (ℕ → Bool) → (ℕ → Bool) → Type 0
  Agrees one other = (n : ℕ) → n ∈ ns → one n ≡ other n

  met_any : (side set : LeafSet LEAF_WORDS) (g : Process) (test : ℕ → Bool) (met : Bool) → ((n : ℕ) → IsTrue (has_leaf side n) ↔ (n ∈ leaves g)) → ((n : ℕ) → n ∈ leaves g → n ∈ ns) →
      Agrees (has_leaf set) test → IsTrue met ↔ Meets side set → met ≡ list_any test (leaves g)
  met_any side set g test met is own same tells = same_answer met (list_any test (leaves g)) tells (
    λ e. let (n, m, k) = passing_member test (leaves g) e in (n, (is n).1 m, same n (own n m) ∙ k),
    λ (n, m, k). let here = (is n).0 m in some_passes test n (leaves g) here (sym (same n (own n here)) ∙ k),
  )

  in_both : (choice : Process × Process) (row : FoldRow) → IsFoldRow choice row → (n : ℕ) → (has_leaf row.left n || has_leaf row.right n) ≡ is_in (leaves choice.0 ++ leaves choice.1) n
  in_both choice row is n = same_answer (has_leaf row.left n || has_leaf row.right n) (is_in (leaves choice.0 ++ leaves choice.1) n)
      (let (to, from) = either_test (has_leaf row.left n) (has_leaf row.right n) (λ e. e, λ e. e) (λ e. e, λ e. e) in
      let (over, back) = has_both choice row is n in (λ e. over (to e), λ m. from (back m)))
      (member_test (leaves choice.0 ++ leaves choice.1) n)

  module _ (done : LeafSet LEAF_WORDS) where
    spoilt_step : (choice : Process × Process) (more : List (Process × Process)) (row : FoldRow) (old new : Sides) (spoils : ℕ → Bool) → HaveLeavesIn ns (choice ∷ more) → IsFoldRow choice row →
        TakesFold row done old new → Agrees (has_leaf old.spoilt) spoils → Agrees (has_leaf new.spoilt) (spoiled_by_choice (has_leaf done) spoils (leaves choice.0) (leaves choice.1))
    spoilt_step choice more row old new spoils own is takes same n m =
        let left = have_left ns choice more own in
        let right = have_right ns choice more own in
        let begun_left = met_any row.left done choice.0 (has_leaf done) takes.begun.left is.left left (λ x k. refl) takes.begun_are.left in
        let begun_right = met_any row.right done choice.1 (has_leaf done) takes.begun.right is.right right (λ x k. refl) takes.begun_are.right in
        let spoilt_left = met_any row.left old.spoilt choice.0 spoils takes.spoilt.left is.left left same takes.spoilt_are.left in
        let spoilt_right = met_any row.right old.spoilt choice.1 spoils takes.spoilt.right is.right right same takes.spoilt_are.right in
        let within = in_both choice row is n in
        let before = same n m in
        takes.spoils n ∙ cc

    -- a row of another choice changes nothing
    apart_rows : (row : FoldRow) (n : ℕ) → ¬ (HasLeaf row n) → (has_leaf row.left n ≡ false) × (has_leaf row.right n ≡ false)
    apart_rows row n none = (false_from_ne_true (has_leaf row.left n) (λ e. none (inl e)), false_from_ne_true (has_leaf row.right n) (λ e. none (inr e)))

    spoilt_alone : (row : FoldRow) (old new : Sides) → TakesFold row done old new → (n : ℕ) → ¬ (HasLeaf row n) → has_leaf new.spoilt n ≡ has_leaf old.spoilt n
    spoilt_alone row old new takes n none = let (left, right) = apart_rows row n none in
        takes.spoils n ∙ marked_outside _ (has_leaf old.spoilt n) (has_leaf row.left n || has_leaf row.right n) (or_from (has_leaf row.left n) (has_leaf row.right n) left right)

    pub spoilt_pass : (rows : List FoldRow) (choices : List (Process × Process)) (old new : Sides) (spoils : ℕ → Bool) → HaveLeavesIn ns choices → TellRows ns choices rows →
        Passes done rows old new → Agrees (has_leaf old.spoilt) spoils → Agrees (has_leaf new.spoilt) (spoiled_by choices (has_leaf done) spoils)
    spoilt_pass [] choices old new spoils own e passed same n m =
        subst (λ (l : List (Process × Process)). has_leaf new.spoilt n ≡ spoiled_by l (has_leaf done) spoils n) (sym e)
        (subst (λ (s : Sides). has_leaf s.spoilt n ≡ spoils n) passed (same n m))
    spoilt_pass (row ∷ rows) choices old new spoils own tells (between, takes, rest) same n m = ⊎_elim
        (λ (choice, more, e, is, t).
        let own' = subst (HaveLeavesIn ns) e own in
        subst (λ (l : List (Process × Process)). has_leaf new.spoilt n ≡ spoiled_by l (has_leaf done) spoils n) (sym e)
        (spoilt_pass rows more between new (spoiled_by_choice (has_leaf done) spoils (leaves choice.0) (leaves choice.1)) (have_more ns choice more own') t rest
        (spoilt_step choice more row old between spoils own' is takes same) n m))
        (λ (none, t). spoilt_pass rows choices between new spoils own t rest (λ x k. spoilt_alone row old between takes x (none x k) ∙ same x k) n m) tells

    -- what is barred or closed off
    abbrev pub is_out : Sides → ℕ → Bool
    is_out sides n = has_leaf sides.barred n || has_leaf sides.closed n

    barred_step : (choice : Process × Process) (more : List (Process × Process)) (row : FoldRow) (old new : Sides) (spoils barred : ℕ → Bool) → HaveLeavesIn ns (choice ∷ more) → IsFoldRow choice row →
        TakesFold row done old new → Agrees (has_leaf old.spoilt) spoils → Agrees (is_out old) barred →
        Agrees (is_out new) (barred_by_choice (has_leaf done) spoils barred (leaves choice.0) (leaves choice.1))
    barred_step choice more row old new spoils barred own is takes same out n m =
        let left = have_left ns choice more own in
        let right = have_right ns choice more own in
        let begun_left = met_any row.left done choice.0 (has_leaf done) takes.begun.left is.left left (λ x k. refl) takes.begun_are.left in
        let begun_right = met_any row.right done choice.1 (has_leaf done) takes.begun.right is.right right (λ x k. refl) takes.begun_are.right in
        let spoilt_left = met_any row.left old.spoilt choice.0 spoils takes.spoilt.left is.left left same takes.spoilt_are.left in
        let spoilt_right = met_any row.right old.spoilt choice.1 spoils takes.spoilt.right is.right right same takes.spoilt_are.right in
        let in_left = same_answer (has_leaf row.left n) (is_in (leaves choice.0) n) (is.left n) (member_test (leaves choice.0) n) in
        let in_right = same_answer (has_leaf row.right n) (is_in (leaves choice.1) n) (is.right n) (member_test (leaves choice.1) n) in
        let before = out n m in
        let bars = takes.bars n in
        let closes = takes.closes n in
        let all = merged (has_leaf old.barred n) (has_leaf old.closed n) takes.spoilt.left takes.spoilt.right takes.begun.left takes.begun.right (has_leaf row.left n) (has_leaf row.right n) in cc

    barred_alone : (row : FoldRow) (old new : Sides) → TakesFold row done old new → (n : ℕ) → ¬ (HasLeaf row n) → is_out new n ≡ is_out old n
    barred_alone row old new takes n none =
        let (left, right) = apart_rows row n none in
        let barred = takes.bars n ∙ left_alone (has_leaf old.barred n) takes.spoilt.left (has_leaf row.left n) takes.spoilt.right (has_leaf row.right n) left right in
        let closed = takes.closes n ∙ left_alone (has_leaf old.closed n) takes.begun.left (has_leaf row.right n) takes.begun.right (has_leaf row.left n) right left in cc

    pub barred_pass : (rows : List FoldRow) (choices : List (Process × Process)) (old new : Sides) (spoils barred : ℕ → Bool) → HaveLeavesIn ns choices → TellRows ns choices rows →
        Passes done rows old new → Agrees (has_leaf old.spoilt) spoils → Agrees (is_out old) barred → Agrees (is_out new) (barred_by choices (has_leaf done) spoils barred)
    barred_pass [] choices old new spoils barred own e passed same out n m =
        subst (λ (l : List (Process × Process)). is_out new n ≡ barred_by l (has_leaf done) spoils barred n) (sym e)
        (subst (λ (s : Sides). is_out s n ≡ barred n) passed (out n m))
    barred_pass (row ∷ rows) choices old new spoils barred own tells (between, takes, rest) same out n m = ⊎_elim
        (λ (choice, more, e, is, t).
        let own' = subst (HaveLeavesIn ns) e own in
        subst (λ (l : List (Process × Process)). is_out new n ≡ barred_by l (has_leaf done) spoils barred n) (sym e)
        (barred_pass rows more between new (spoiled_by_choice (has_leaf done) spoils (leaves choice.0) (leaves choice.1))
        (barred_by_choice (has_leaf done) spoils barred (leaves choice.0) (leaves choice.1)) (have_more ns choice more own') t rest
        (spoilt_step choice more row old between spoils own' is takes same) (barred_step choice more row old between spoils barred own' is takes same out) n m))
        (λ (none, t). barred_pass rows choices between new spoils barred own t rest
        (λ x k. spoilt_alone row old between takes x (none x k) ∙ same x k) (λ x k. barred_alone row old between takes x (none x k) ∙ out x k) n m) tells
