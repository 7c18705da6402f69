-- What remains, as the fields of a residual tell it.
use Rattle.std.specs.Prelude.{ℕ, List, map}
use Rattle.flow_plan.specs.Sampled.{Sampled}
use Rattle.flow_plan.specs.Options.{options_of}
use Rattle.flow_residual.specs.declared.residual.Ban.{Ban}
use Rattle.flow_residual.specs.Remaining.{Remaining}

-- each ban as the length of the journal and the leaf that was banned there
abbrev pub pairs_of_bans : List Ban → List (ℕ × ℕ)
pairs_of_bans bans = map (λ (ban : Ban). (ban.index, ban.leaf)) bans

abbrev pub remaining : List Sampled → List ℕ → List Ban → Remaining
remaining plans journal bans = record { options = options_of plans; journal = journal; bans = pairs_of_bans bans }
