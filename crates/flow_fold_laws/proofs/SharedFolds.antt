-- What choices that stay say of a leaf is the same in each goal that has it and to which the goal folds.
use Rattle.std.proofs.Common.{ℕ, Bool, true≢false, ◌++◌, ◌⊎◌, ◌↔◌, inl, inr, ⊎_elim, sym, ◌∙◌, subst, arith}
use Rattle.flow_model.specs.Lists.{◌∈◌, AreDistinct}
use Rattle.flow_model.specs.Process.{Process, Empty, Task, Sequence, Parallel, Choice, Isolated, leaves, IsChoiceFree}
use Rattle.flow_model.proofs.Lists.{mem_by_halves, mem-append, distinct_left, distinct_right, distinct_apart}
use Rattle.flow_laws.proofs.ResolutionsLemmas.{choice_free_resolution}
use Rattle.flow_laws.proofs.FoldingLemmas.{FoldsTo, mem-folded_leaves}
use Rattle.flow_fold_laws.specs.SharedFolds.{InSomeChoice, InSomeFold}

none_where_no_choice : (P : Process → Process → ℕ → Type 0) (q : Process) (n : ℕ) → IsChoiceFree q → ¬ (InSomeChoice P q n)
none_where_no_choice P Empty n free h = h
none_where_no_choice P (Task k) n free h = h
none_where_no_choice P (Sequence a b) n free h = ⊎_elim (none_where_no_choice P a n free.0) (none_where_no_choice P b n free.1) h
none_where_no_choice P (Parallel a b) n free h = ⊎_elim (none_where_no_choice P a n free.0) (none_where_no_choice P b n free.1) h
none_where_no_choice P (Choice a b) n free h = absurd free
none_where_no_choice P (Isolated a) n free h = none_where_no_choice P a n free h

module _ (apart : ℕ → Bool) (P : Process → Process → ℕ → Type 0) (only : (a b : Process) (n : ℕ) → P a b n → n ∈ (leaves a ++ leaves b)) where
  leaf_of_choice : (q : Process) (n : ℕ) → InSomeChoice P q n → n ∈ leaves q
  leaf_of_choice (Sequence a b) n h = mem_by_halves n (leaves a) (leaves b) (leaf_of_choice a n) (leaf_of_choice b n) h
  leaf_of_choice (Parallel a b) n h = mem_by_halves n (leaves a) (leaves b) (leaf_of_choice a n) (leaf_of_choice b n) h
  leaf_of_choice (Choice a b) n h = ⊎_elim (only a b n) (mem_by_halves n (leaves a) (leaves b) (leaf_of_choice a n) (leaf_of_choice b n)) h
  leaf_of_choice (Isolated a) n h = leaf_of_choice a n h
  leaf_of_choice leaf n h = absurd h

  leaf_of_fold : (g : Process) (n : ℕ) → InSomeFold apart P g n → n ∈ leaves g
  leaf_of_fold (Sequence a b) n h = mem_by_halves n (leaves a) (leaves b) (leaf_of_fold a n) (leaf_of_fold b n) h
  leaf_of_fold (Parallel a b) n h = mem_by_halves n (leaves a) (leaves b) (leaf_of_fold a n) (leaf_of_fold b n) h
  leaf_of_fold (Choice a b) n h =
      ⊎_elim (λ yes. leaf_of_choice (Choice a b) n yes.1) (λ no. mem_by_halves n (leaves a) (leaves b) (leaf_of_fold a n) (leaf_of_fold b n) no.1) h
  leaf_of_fold leaf n h = absurd h

  -- of two parts that both stay, where it is known of each
  same_of_both : (a b x y : Process) (n : ℕ) → AreDistinct (leaves a ++ leaves b) → FoldsTo apart a x → FoldsTo apart b y →
      (n ∈ leaves x → InSomeChoice P x n ↔ InSomeFold apart P a n) → (n ∈ leaves y → InSomeChoice P y n ↔ InSomeFold apart P b n) →
      n ∈ (leaves x ++ leaves y) → (InSomeChoice P x n ⊎ InSomeChoice P y n) ↔ (InSomeFold apart P a n ⊎ InSomeFold apart P b n)
  same_of_both a b x y n d hx hy left right m =
      let separate = distinct_apart (leaves a) (leaves b) d n in grind (
        arith,
        left,
        right,
        separate,
        mem-append n (leaves x) (leaves y) m,
        mem-folded_leaves apart a x hx n,
        mem-folded_leaves apart b y hy n,
        leaf_of_choice x n,
        leaf_of_choice y n,
        leaf_of_fold a n,
        leaf_of_fold b n,
      )

  pub shared : (g q : Process) → FoldsTo apart g q → AreDistinct (leaves g) → (n : ℕ) → n ∈ leaves q → InSomeChoice P q n ↔ InSomeFold apart P g n
  shared (Sequence a b) q (x, y, hx, hy, e) d n m = rw e (same_of_both a b x y n d hx hy
      (shared a x hx (distinct_left (leaves a) (leaves b) d) n) (shared b y hy (distinct_right (leaves a) (leaves b) d) n)
      (subst (λ p. n ∈ leaves p) e m))
  shared (Parallel a b) q (x, y, hx, hy, e) d n m = rw e (same_of_both a b x y n d hx hy
      (shared a x hx (distinct_left (leaves a) (leaves b) d) n) (shared b y hy (distinct_right (leaves a) (leaves b) d) n)
      (subst (λ p. n ∈ leaves p) e m))
  shared (Choice a b) q (inl (stays, e)) d n m =
      rw e (λ c. inl (stays, c), λ f. ⊎_elim (λ yes. yes.1) (λ no. absurd (true≢false (sym stays ∙ no.0))) f)
  shared (Choice a b) q (inr (goes, inl h)) d n m =
      let same = shared a q h (distinct_left (leaves a) (leaves b) d) n m in
      let none = λ (f : InSomeFold apart P b n). distinct_apart (leaves a) (leaves b) d n (mem-folded_leaves apart a q h n m) (leaf_of_fold b n f) in (
        λ c. inr (goes, inl (same.0 c)),
        λ f. ⊎_elim (λ yes. absurd (true≢false (sym yes.0 ∙ goes))) (λ no. ⊎_elim same.1 (λ k. absurd (none k)) no.1) f,
      )
  shared (Choice a b) q (inr (goes, inr h)) d n m =
      let same = shared b q h (distinct_right (leaves a) (leaves b) d) n m in
      let none = λ (f : InSomeFold apart P a n). distinct_apart (leaves a) (leaves b) d n (leaf_of_fold a n f) (mem-folded_leaves apart b q h n m) in (
        λ c. inr (goes, inr (same.0 c)),
        λ f. ⊎_elim (λ yes. absurd (true≢false (sym yes.0 ∙ goes))) (λ no. ⊎_elim (λ k. absurd (none k)) same.1 no.1) f,
      )
  shared (Isolated a) q (x, h, e) d n m = rw e (none_where_no_choice P x n (choice_free_resolution a x h), λ f. absurd f)
  shared leaf q e d n m = rw e (λ c. absurd c, λ f. absurd f)
