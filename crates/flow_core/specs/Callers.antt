-- How many entries each caller made.
use Rattle.std.specs.Prelude.{◌≡◌, ℕ, ◌==◌, List, length}
use Rattle.std.specs.List.{count_by, sum_by}
use Rattle.flow_model.specs.declared.history.Entry.{Entry}
use Rattle.flow_model.specs.Lists.{◌∈◌, Each, AreDistinct}

-- how many entries of the history the caller made
abbrev pub count_made : List Entry → ℕ → ℕ
count_made history by = count_by (λ (entry : Entry). entry.by == by) history

-- What different callers made, taken together, is the whole history, where each entry is one of theirs.
abbrev pub CallersMadeAll : Type 0
CallersMadeAll = (history : List Entry) (callers : List ℕ) → AreDistinct callers → Each (λ (entry : Entry). entry.by ∈ callers) history →
    sum_by (count_made history) callers ≡ length history
