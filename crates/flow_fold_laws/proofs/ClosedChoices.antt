-- A leaf is closed off by some one of a goal's choices.
use Rattle.std.proofs.Common.{ℕ, List, [], ◌∷◌, ◌++◌, ◌⊎◌, ◌↔◌, inl, inr, ⊎_elim}
use Rattle.flow_model.specs.Lists.{◌∈◌}
use Rattle.flow_model.specs.Process.{Process, Sequence, Parallel, Choice, Isolated, leaves}
use Rattle.flow_model.specs.FoldedReady.{IsBegun, IsClosedOff}
use Rattle.flow_model.specs.Folding.{choices_of}

-- one side of the choice has the leaf, and the other is begun
abbrev pub IsClosedBy : (Process × Process) → (ℕ → Type 0) → ℕ → Type 0
IsClosedBy choice Done n = ((n ∈ leaves choice.0) × IsBegun choice.1 Done) ⊎ ((n ∈ leaves choice.1) × IsBegun choice.0 Done)

-- some one of the choices closes it off
abbrev pub IsClosedIn : List (Process × Process) → (ℕ → Type 0) → ℕ → Type 0
IsClosedIn [] Done n = ⊥
IsClosedIn (choice ∷ more) Done n = IsClosedBy choice Done n ⊎ IsClosedIn more Done n

closed_in-append : (choices more : List (Process × Process)) (D : ℕ → Type 0) (n : ℕ) → IsClosedIn (choices ++ more) D n ↔ (IsClosedIn choices D n ⊎ IsClosedIn more D n)
closed_in-append [] more D n = (inr, ⊎_elim absurd (λ h. h))
closed_in-append (choice ∷ choices) more D n = let (to, from) = closed_in-append choices more D n in (
  ⊎_elim (λ h. inl (inl h)) (λ h. ⊎_elim (λ k. inl (inr k)) inr (to h)),
  ⊎_elim (⊎_elim inl (λ k. inr (from (inl k)))) (λ k. inr (from (inr k))),
)

-- what is said of both halves
of_halves : (a b : Process) (D : ℕ → Type 0) (n : ℕ) → IsClosedOff a D n ↔ IsClosedIn (choices_of a) D n → IsClosedOff b D n ↔ IsClosedIn (choices_of b) D n →
    (IsClosedOff a D n ⊎ IsClosedOff b D n) ↔ IsClosedIn (choices_of a ++ choices_of b) D n
of_halves a b D n left right = let (to, from) = closed_in-append (choices_of a) (choices_of b) D n in (
  ⊎_elim (λ h. from (inl (left.0 h))) (λ h. from (inr (right.0 h))),
  λ h. ⊎_elim (λ k. inl (left.1 k)) (λ k. inr (right.1 k)) (to h),
)

pub closed_by_choices : (q : Process) (D : ℕ → Type 0) (n : ℕ) → IsClosedOff q D n ↔ IsClosedIn (choices_of q) D n
closed_by_choices (Sequence a b) D n = of_halves a b D n (closed_by_choices a D n) (closed_by_choices b D n)
closed_by_choices (Parallel a b) D n = of_halves a b D n (closed_by_choices a D n) (closed_by_choices b D n)
closed_by_choices (Choice a b) D n =
    let (to, from) = closed_in-append (choices_of a ++ choices_of b) ((a, b) ∷ []) D n in
    let (left, right) = of_halves a b D n (closed_by_choices a D n) (closed_by_choices b D n) in (
      ⊎_elim (λ h. from (inr (inl h))) (λ h. from (inl (left h))),
      λ h. ⊎_elim (λ k. inr (right k)) (⊎_elim inl absurd) (to h),
    )
closed_by_choices (Isolated a) D n = closed_by_choices a D n
closed_by_choices leaf D n = (λ h. h, λ h. h)
