-- What a checker finds that waits for another.
use Rattle.std.specs.Prelude.{◌≡◌, ◌⊎◌, ℕ, List, codes}
use Rattle.flow_trace.specs.declared.checked.Checked.TheVariants.{Execution, Prefix}
use Rattle.flow_audit.specs.declared.finding.Finding.{Finding}
use Rattle.flow_audit.specs.declared.finding.Finding.TheVariants.{Checked}

-- an execution; of the two texts that wait for each other maybe the front of one
abbrev pub MayBeFound : List ℕ → Finding → Type 0
MayBeFound text finding = (finding ≡ Checked Execution) ⊎ (((text ≡ codes "0") ⊎ (text ≡ codes "1")) × (finding ≡ Checked Prefix))
