-- What a search of all options tells.
use Rattle.std.specs.Prelude.{◌≡◌, ℕ, List}
use Rattle.flow_model.specs.Duties.{Duties}
use Rattle.flow_model.specs.Lists.{◌∈◌}
use Rattle.flow_model.specs.Schema.{Schema}
use Rattle.flow_plan.specs.Sampled.{Sampled}
use Rattle.flow_stages.specs.declared.question.Question.{Question}
use Rattle.flow_stages.specs.declared.search.Searched.{Searched}
use Rattle.flow_stages.specs.declared.search.Searched.TheVariants as searched
use Rattle.flow_stages.specs.Asked.{IsNeverSo, IsShown}

-- Nothing: in no run of a plan it is so. A run that is shown is one of a plan, and shows it. Spent: no state is left.
abbrev pub TellsOf : Schema → Duties → List Sampled → Question → ℕ → Searched → Type 0
TellsOf w d plans question left searched.Nothing = (kept : Sampled) → kept ∈ plans → IsNeverSo w d kept.plan question
TellsOf w d plans question left (searched.Shown leaves takers event) = (kept : Sampled) × (kept ∈ plans) × IsShown w d kept.plan question leaves.items takers.items event
TellsOf w d plans question left searched.Spent = left ≡ 0
