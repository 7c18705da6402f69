-- Facts by their numbers, as text.
use Rattle.std.specs.Prelude.{ℕ, List, ◌++◌, codes}
use Rattle.std.specs.List.{flat_map}
use Rattle.flow_workflow.specs.Definition.{Definition}
use Rattle.flow_workflow.specs.Label.{fact_at}

-- each after a blank
abbrev pub spaced_facts : Definition → List ℕ → List ℕ
spaced_facts w facts = flat_map (λ fact. codes " " ++ fact_at w fact) facts
