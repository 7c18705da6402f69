-- The leaves of a plan from left to right.
use Rattle.std.proofs.Common.{◌≡◌, ℕ, ◌<◌, List, [], ◌∷◌, ◌++◌, refl, sym, subst, ap, ◌∙◌, inl, inr, arith}
use Rattle.std.specs.List.Sorted.{IsStrictlyIncreasing}
use Rattle.flow_model.specs.Lists.{◌∈◌, Each, AreInOrder, StandsBefore, joined}
use Rattle.flow_model.specs.Process.{Process, Empty, Task, Sequence, Parallel, Choice, Isolated, leaves, IsChoiceFree}
use Rattle.flow_model.specs.Resolution.{OptionTrace}
use Rattle.flow_model.specs.Trace.{as_one, Trace}
use Rattle.flow_laws.specs.WellFormed.{AreOfLeaves, IsOrdered}
use Rattle.flow_laws.proofs.Shuffles.{shuffle-append}
use Rattle.flow_model.proofs.Lists.{before_or_after}
use Rattle.flow_model.proofs.MadeLists.{joined-append}
use Rattle.flow_laws.proofs.TraceLeaves.{joined-as_one}
use Rattle.flow_plan.specs.declared.token.OrderToken.{OrderToken}
use Rattle.flow_plan.specs.Planned.{Planned, pairs_of}
use Rattle.flow_plan.specs.Options.{option_of}
use Rattle.flow_sample.proofs.RisingLemmas.{rises}

-- they are one of its traces
pub straight : (q : Process) → IsChoiceFree q → Trace q (leaves q)
straight Empty free = ([], refl, refl)
straight (Task n) free = ((n ∷ []) ∷ [], refl, refl)
straight (Sequence a b) free =
    let (x, i, e) = straight a free.0 in
    let (y, j, f) = straight b free.1 in
    (x ++ y, (x, y, i, j, refl), ap (λ l. l ++ leaves b) e ∙ ap (λ l. joined x ++ l) f ∙ sym (joined-append x y))
straight (Parallel a b) free =
    let (x, i, e) = straight a free.0 in
    let (y, j, f) = straight b free.1 in
    (x ++ y, (x, y, i, j, shuffle-append x y), ap (λ l. l ++ leaves b) e ∙ ap (λ l. joined x ++ l) f ∙ sym (joined-append x y))
straight (Choice a b) free = absurd free
straight (Isolated a) free = let (x, i, e) = straight a free in (as_one x, (x, i, refl), e ∙ sym (joined-as_one x))

-- in a list that rises a member stands before those that are greater

pub rising_before : (xs : List ℕ) → IsStrictlyIncreasing xs → (x y : ℕ) → x ∈ xs → y ∈ xs → x < y → StandsBefore x y xs
rising_before xs rising x y i j less = elim (before_or_after x y xs i j (λ e. omega (arith, e, less))) [
  | inl h ↦ h
  | inr h ↦ absurd (omega (arith, less, rises xs rising y x h))
]

forward_order : (q : Process) → IsStrictlyIncreasing (leaves q) → (tokens : List OrderToken) → AreOfLeaves q (pairs_of tokens) →
    Each (λ (token : OrderToken). token.sender < token.receiver) tokens → AreInOrder (pairs_of tokens) (leaves q)
forward_order q rising [] of_leaves forward = tt
forward_order q rising (t ∷ tokens) of_leaves forward = (
  rising_before (leaves q) rising t.sender t.receiver of_leaves.0.0 of_leaves.0.1 forward.0,
  forward_order q rising tokens of_leaves.1 forward.1,
)

pub forward_run : (p : Planned) → IsOrdered p.process (pairs_of p.tokens) → p.leaves ≡ leaves p.process → IsStrictlyIncreasing p.leaves →
    Each (λ (token : OrderToken). token.sender < token.receiver) p.tokens → OptionTrace (option_of p) p.leaves
forward_run p o listed rising forward =
    subst (OptionTrace (option_of p)) (sym listed)
    (straight p.process o.choice_free, forward_order p.process (subst (λ (l : List ℕ). IsStrictlyIncreasing l) listed rising) p.tokens o.of_leaves forward)
