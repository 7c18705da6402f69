-- Which choices of a goal stay, by the events that are named.
use Rattle.std.specs.Prelude.{◌≡◌, ◌-◌, ◌<◌, ℕ, Bool, true, false, not, ◌&&◌, List, [], ◌∷◌, ◌++◌, get_or}
use Rattle.flow_model.specs.declared.labels.Label.{Label}
use Rattle.flow_model.specs.Lists.{numbers_from}
use Rattle.flow_model.specs.Process.{Process, Empty, Task, Sequence, Parallel, Choice, Isolated, leaves}
use Rattle.flow_model.specs.Facts.{event_at}
use Rattle.flow_model.specs.Folding.{is_among, is_foldable, folded_count, staying_choices}
use Rattle.flow_goal.specs.declared.fold.Fold.{Fold}
use Rattle.flow_goal.specs.declared.folds.Folds.{Folds}
use Rattle.flow_goal.specs.Capped.{capped}
use Rattle.flow_goal.specs.Labelled.{Labelled}

-- the leaf's event is one of these
abbrev pub named_by : List Label → List ℕ → ℕ → Bool
named_by labels events leaf = is_among events (event_at labels leaf)

-- Of each choice from left to right, each before those inside it, whether it stays. In an isolated part none does.
abbrev pub flags_in : (ℕ → Bool) → Bool → Process → List Bool
flags_in apart isolated Empty = []
flags_in apart isolated (Task n) = []
flags_in apart isolated (Sequence a b) = flags_in apart isolated a ++ flags_in apart isolated b
flags_in apart isolated (Parallel a b) = flags_in apart isolated a ++ flags_in apart isolated b
flags_in apart isolated (Choice a b) =
    (not isolated && is_foldable apart (Choice a b)) ∷ (flags_in apart isolated a ++ flags_in apart isolated b)
flags_in apart isolated (Isolated a) = flags_in apart true a

-- The leaves of the left side are those from the first on, and of the right side those from the middle on, up to the end.
-- Each side has a leaf.
pub record IsSpanOf (sides : Process × Process) (fold : Fold) : Type 0 where
  pub left : leaves sides.0 ≡ numbers_from fold.first (fold.middle - fold.first)
  pub right : leaves sides.1 ≡ numbers_from fold.middle (fold.end - fold.middle)
  pub left_some : fold.first < fold.middle
  pub right_some : fold.middle < fold.end

-- one for each, in order
abbrev pub AreSpansOf : List (Process × Process) → List Fold → Type 0
AreSpansOf [] [] = Unit {0}
AreSpansOf [] (fold ∷ folds) = ⊥
AreSpansOf (sides ∷ more) [] = ⊥
AreSpansOf (sides ∷ more) (fold ∷ folds) = IsSpanOf sides fold × AreSpansOf more folds

-- Of the choices those stay that hold no leaf of a named event: so it is said of each choice, of where it has its leaves,
-- and of how many resolutions there are.
pub record AreFoldsOf (t : Labelled) (events : List ℕ) (folds : Folds) : Type 0 where
  pub named : (leaf : ℕ) → get_or folds.named.items leaf false ≡ named_by t.labels events leaf
  pub flags : folds.flags.items ≡ flags_in (named_by t.labels events) false t.process
  pub spans : AreSpansOf (staying_choices (named_by t.labels events) t.process) folds.spans.items
  pub count : folds.count ≡ capped (folded_count (named_by t.labels events) t.process)
