-- Which leaves may be begun together, where a goal whose choices are folded is to go on without banned ones.
use Rattle.std.specs.Prelude.{◌≡◌, ℕ, Bool, IsTrue, List, [], ◌∷◌, ◌↔◌}
use Rattle.flow_model.specs.Lists.{◌∈◌}
use Rattle.flow_model.specs.Process.{Process}
use Rattle.flow_model.specs.Ready.{DoneOr}
use Rattle.flow_model.specs.FoldedReady.{IsClosedOff}
use Rattle.flow_model.specs.FoldedRun.{CanAvoid}

-- the goal can go on without the banned leaves, also where any one leaf of the list is begun, and none of them closes off another
pub record MayEachBegin (q : Process) (Begun Banned : ℕ → Type 0) (list : List ℕ) : Type 0 where
  pub now : CanAvoid q Begun Banned
  pub each : (x : ℕ) → x ∈ list → CanAvoid q (DoneOr Begun (x ∷ [])) Banned
  pub apart : (x y : ℕ) → x ∈ list → y ∈ list → ¬ (IsClosedOff q (λ n. n ≡ x) y)

-- then it can where all of them are begun, and only then; the begun and the banned leaves are given as tests of their members
abbrev pub AllMayBegin : Type 0
AllMayBegin = (q : Process) (begun banned : ℕ → Bool) (list : List ℕ) →
    CanAvoid q (DoneOr (λ n. IsTrue (begun n)) list) (λ n. IsTrue (banned n))
    ↔ MayEachBegin q (λ n. IsTrue (begun n)) (λ n. IsTrue (banned n)) list
