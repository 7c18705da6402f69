-- Sequences stay as they are when more come.
use Rattle.std.proofs.Common.{◌≡◌, ◌≢◌, ◌⊎◌, inl, inr, min, ◌≤◌, ◌+◌, ◌-◌, ◌++◌, ◌∷◌, [], ℕ, zero, suc, List, Some, length, slice_get, refl, sym, ap, ◌∙◌, subst, arith}
use Rattle.flow_event_log.specs.declared.sequences.Step.{Step}
use Rattle.flow_event_log.specs.Reached.{AreOlder, IsReached}

pub get_before : {A : Type 0} (xs ys : List A) (k : ℕ) (x : A) → slice_get xs k ≡ Some x → slice_get (xs ++ ys) k ≡ Some x
get_before [] ys k x is = cc
get_before (y ∷ xs) ys zero x is = is
get_before (y ∷ xs) ys (suc k) x is = get_before xs ys k x is

pub get_last : {A : Type 0} (xs : List A) (x : A) → slice_get (xs ++ x ∷ []) (length xs) ≡ Some x
get_last [] x = refl
get_last (y ∷ xs) x = get_last xs x

some_same : {A : Type 0} (a b : A) → Some a ≡ Some b → a ≡ b
some_same a b e = cc

pub get_cases : {A : Type 0} (xs : List A) (y : A) (k : ℕ) (x : A) → slice_get (xs ++ y ∷ []) k ≡ Some x → (slice_get xs k ≡ Some x) ⊎ ((k ≡ length xs) × (x ≡ y))
get_cases [] y zero x e = inr (refl, sym (some_same y x e))
get_cases [] y (suc k) x e = cc
get_cases (z ∷ xs) y zero x e = inl e
get_cases (z ∷ xs) y (suc k) x e = elim (get_cases xs y k x e) [
  | inl before ↦ inl before
  | inr last ↦ inr (ap suc last.0, last.1)
]

pub reached_more : (steps more : List Step) (number : ℕ) (events : List ℕ) → IsReached steps number events → IsReached (steps ++ more) number events
reached_more steps more number [] is = is
reached_more steps more number (event ∷ events) (before, at, rest) = (
  before,
  record { step = at.step; some = at.some; stands = get_before steps more (number - 1) at.step at.stands; from = at.from; by = at.by },
  reached_more steps more before events rest,
)

pub kept_same : (old new : List Step) → new ≡ old → (number : ℕ) (events : List ℕ) → IsReached old number events → IsReached new number events
kept_same old new same number events is = subst (λ (steps : List Step). IsReached steps number events) (sym same) is

pub kept_more : (old new more : List Step) → new ≡ old ++ more → (number : ℕ) (events : List ℕ) → IsReached old number events → IsReached new number events
kept_more old new more grown number events is = kept_same (old ++ more) new grown number events (reached_more old more number events is)

pub reached_last : (old new : List Step) (step : Step) (number before event : ℕ) → new ≡ old ++ step ∷ [] → number ≡ length old + 1 → step.before ≡ before → step.event ≡ event →
    (events : List ℕ) → IsReached old before events → IsReached new number (event ∷ events)
reached_last old new step number before event grown is from by events reached = (
  before,
  record {
    step = step;
    some = omega (arith, is);
    stands = ap (λ (steps : List Step). slice_get steps (number - 1)) grown ∙ ap (λ (k : ℕ). slice_get (old ++ step ∷ []) k) last ∙ get_last old step;
    from = from;
    by = by;
  },
  kept_more old new (step ∷ []) grown before events reached,
)
  where
    last : number - 1 ≡ length old
    last = omega (arith, is)

pub older_more : (steps : List Step) (step : Step) → AreOlder steps → step.before ≤ length steps → AreOlder (steps ++ step ∷ [])
older_more steps step older within k s stands = elim (get_cases steps step k s stands) [
  | inl before ↦ older k s before
  | inr last ↦ (let small = within in subst (λ (t : Step). t.before ≤ k) (sym last.1) (subst (λ (n : ℕ). step.before ≤ n) (sym last.0) small))
]

-- a step of the walk back from a sequence to its first event
pub walk_on : (steps : List Step) (at : ℕ) (step : Step) (rest : List ℕ) → AreOlder steps → at ≢ 0 → slice_get steps (at - 1) ≡ Some step → IsReached steps at rest →
    (more : List ℕ) × (rest ≡ step.event ∷ more) × IsReached steps (min step.before (at - 1)) more
walk_on steps at step [] older some stands is = absurd (some is)
walk_on steps at step (event ∷ more) older some stands (before, here, on) =
    let same : here.step ≡ step = some_same here.step step (sym here.stands ∙ stands) in
    let from : step.before ≡ before = ap (λ (s : Step). s.before) (sym same) ∙ here.from in
    let least : min step.before (at - 1) ≡ before = (let small = older (at - 1) step stands in omega (arith, small, from)) in (
      more,
      ap (λ (e : ℕ). e ∷ more) (sym here.by ∙ ap (λ (s : Step). s.event) same),
      subst (λ (n : ℕ). IsReached steps n more) (sym least) on,
    )

pub walk_end : (steps : List Step) (at : ℕ) (rest : List ℕ) → at ≡ 0 → IsReached steps at rest → rest ≡ []
walk_end steps at [] none is = refl
walk_end steps at (event ∷ more) none (before, here, on) = (let some = here.some in absurd (omega (arith, some, none)))
