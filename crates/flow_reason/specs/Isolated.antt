-- Isolated parts that are begun, and keep a leaf outside from coming next.
use Rattle.std.specs.Prelude.{◌≡◌, ◌<◌, ◌⊎◌, ◌==◌, ℕ, Bool, true, false, ◌&&◌, ◌||◌, not, is_some, is_none, List, length}
use Rattle.flow_model.specs.Lists.{◌∈◌, Each}
use Rattle.flow_model.specs.Process.{Process, Empty, Task, Sequence, Parallel, Choice, Isolated, leaves}
use Rattle.flow_core.specs.Run.{Run, schema, now}
use Rattle.flow_reason.specs.Sides.{has, first, other_side}
use Rattle.flow_reason.specs.Waiting.{BeginsTrace, with_next}

-- the part stands isolated in the goal
abbrev pub IsPart : Process → Process → Type 0
IsPart part Empty = ⊥
IsPart part (Task n) = ⊥
IsPart part (Sequence a b) = IsPart part a ⊎ IsPart part b
IsPart part (Parallel a b) = IsPart part a ⊎ IsPart part b
IsPart part (Choice a b) = IsPart part a ⊎ IsPart part b
IsPart part (Isolated a) = (part ≡ a) ⊎ IsPart part a

-- an isolated part of the goal is begun that does not have the leaf; the other leaf is one of it, and not done
pub record IsLeftOfPart (r : Run) (leaf other : ℕ) : Type 0 where
  pub part : Process
  pub stands : IsPart part (schema r).goal
  pub begun : (n : ℕ) × (n ∈ leaves part) × (n ∈ (now r).journal)
  pub outside : ¬ (leaf ∈ leaves part)
  pub inside : other ∈ leaves part
  pub undone : ¬ (other ∈ (now r).journal)

-- the goal alone does not let it come next; those leaves are left of isolated parts that are begun and do not have it
pub record IsIsolated (r : Run) (leaf : ℕ) (others : List ℕ) : Type 0 where
  pub not_next : ¬ (BeginsTrace r (with_next r leaf))
  pub some : 0 < length others
  pub left : Each (IsLeftOfPart r leaf) others

-- the part is begun and does not have the leaf; the other leaf is one of it, not done, and not on the other side of a choice from a done one
abbrev pub is_left_here : (ℕ → Bool) → ℕ → ℕ → Process → Bool
is_left_here done leaf other part =
    not (has (λ n. n == leaf) part) && (has (λ n. n == other) part && (is_some (first done part) && (not (done other) && is_none (other_side done other part))))

-- the other leaf is so of an isolated part of the goal
abbrev pub is_left : (ℕ → Bool) → ℕ → ℕ → Process → Bool
is_left done leaf other Empty = false
is_left done leaf other (Task n) = false
is_left done leaf other (Sequence a b) = is_left done leaf other a || is_left done leaf other b
is_left done leaf other (Parallel a b) = is_left done leaf other a || is_left done leaf other b
is_left done leaf other (Choice a b) = is_left done leaf other a || is_left done leaf other b
is_left done leaf other (Isolated a) = is_left done leaf other a || is_left_here done leaf other a
