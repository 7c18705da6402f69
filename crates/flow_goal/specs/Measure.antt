-- What a walk of a goal finds of its choices.
use Rattle.std.specs.Prelude.{◌≡◌, ℕ, ◌+◌, ◌*◌, Bool, true, false, not, ◌&&◌, ◌||◌, if◌then◌else◌, List, [], ◌∷◌, ◌++◌, length, get_or}
use Rattle.std.specs.List.{list_any}
use Rattle.flow_model.specs.Process.{Process, Empty, Task, Sequence, Parallel, Choice, Isolated, leaves}
use Rattle.flow_model.specs.Resolution.{resolution_count}
use Rattle.flow_model.specs.Folding.{may_be_empty, has_no_choice, is_foldable, folded_count}
use Rattle.flow_goal.specs.declared.fold.Fold.{Fold}
use Rattle.flow_goal.specs.declared.measure.Measure.{Measure}
use Rattle.flow_goal.specs.declared.walk.Walk.{Walk}
use Rattle.flow_goal.specs.Capped.{capped}
use Rattle.flow_goal.specs.Folds.{flags_in}

-- the test by a flag a leaf
abbrev pub by_flags : List Bool → ℕ → Bool
by_flags flags leaf = get_or flags leaf false

abbrev pub measure_of : (ℕ → Bool) → Process → Measure
measure_of apart g = record {
  apart = list_any apart (leaves g);
  empty = may_be_empty g;
  choice_free = has_no_choice g;
  foldable = is_foldable apart g;
  all = capped (resolution_count g);
  folded = capped (folded_count apart g);
}

-- that of two parts that both stay
abbrev pub both_of : Measure → Measure → Measure
both_of m n = record {
  apart = m.apart || n.apart;
  empty = m.empty && n.empty;
  choice_free = m.choice_free && n.choice_free;
  foldable = m.foldable && n.foldable;
  all = capped (m.all * n.all);
  folded = capped (m.folded * n.folded);
}

-- the choice of two goals stays
abbrev pub stays_of : Measure → Measure → Bool
stays_of m n = (not (m.apart || n.apart) && not (m.empty || n.empty)) && (m.foldable && n.foldable)

-- that of a choice
abbrev pub choice_of : Measure → Measure → Measure
choice_of m n = record {
  apart = m.apart || n.apart;
  empty = m.empty || n.empty;
  choice_free = false;
  foldable = stays_of m n;
  all = capped (m.all + n.all);
  folded = if stays_of m n then 1 else capped (m.folded + n.folded);
}

-- that of an isolated part
abbrev pub isolated_of : Measure → Measure
isolated_of m = record m { foldable = m.choice_free; folded = m.all }

-- the choices that stay, inner ones first, where the leaves are numbered from that number on
abbrev pub spans_in : (ℕ → Bool) → Bool → ℕ → Process → List Fold
spans_in apart isolated next Empty = []
spans_in apart isolated next (Task n) = []
spans_in apart isolated next (Sequence a b) = spans_in apart isolated next a ++ spans_in apart isolated (next + length (leaves a)) b
spans_in apart isolated next (Parallel a b) = spans_in apart isolated next a ++ spans_in apart isolated (next + length (leaves a)) b
spans_in apart isolated next (Choice a b) =
    let middle = next + length (leaves a) in
    let fold : Fold = record { first = next; middle = middle; end = middle + length (leaves b) } in
    (spans_in apart isolated next a ++ spans_in apart isolated middle b)
    ++ (if not isolated && is_foldable apart (Choice a b) then fold ∷ [] else [])
spans_in apart isolated next (Isolated a) = spans_in apart true next a

-- a walk of the goal
pub record Walks (apart : ℕ → Bool) (isolated : Bool) (g : Process) (old new : Walk) : Type 0 where
  pub next : new.next ≡ old.next + length (leaves g)
  pub flags : new.flags.items ≡ old.flags.items ++ flags_in apart isolated g
  pub spans : new.spans.items ≡ old.spans.items ++ spans_in apart isolated old.next g
