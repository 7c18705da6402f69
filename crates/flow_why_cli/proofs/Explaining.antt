-- What is told of a stop, by its cause, and what the words begin with.
use Rattle.std.proofs.Common.{◌≡◌, ◌++◌, ℕ, List, codes, ap, ◌∙◌, append_assoc}
use Rattle.std.specs.List.{flat_map}
use Rattle.flow_model.specs.Lists.{Begins}
use Rattle.flow_excise.specs.declared.refusal.CompileRefusal.TheVariants.{Inconsistent}
use Rattle.flow_findings.specs.declared.refused.Refused.{Refused}
use Rattle.flow_findings.specs.declared.refused.Refused.TheVariants.{Compile}
use Rattle.flow_findings.specs.Refusing.{refused_text, dropped_line}
use Rattle.flow_front.specs.declared.status.Status.{Status}
use Rattle.flow_front.specs.declared.stop.Stop.{Stop}
use Rattle.flow_front.specs.declared.stop.Stop.TheVariants as stop
use Rattle.flow_front.specs.Stop.{IsStop}
use Rattle.flow_why_cli.specs.declared.telling.Form.{Form}
use Rattle.flow_why_cli.specs.declared.telling.Form.TheVariants.{Words, WithCircles, Json}
use Rattle.flow_why_cli.specs.Explained.{BeginsInWords, first_lines, IsExplainedBy, IsExplainedStop}

pub stop_explained : (events : List (List ℕ)) (Cause : Refused → Type 0) (why : Stop) (form : Form) (status : Status) (output : List ℕ) →
    IsStop Cause why → IsExplainedStop events why form status output → IsExplainedBy events Cause form status output
stop_explained events Cause (stop.Refused why) form status output cause told = (why, cause, told)
stop_explained events Cause stop.NoMemory form status output cause told = absurd told

-- what begins with a text begins so in each form
pub in_words : (form : Form) (text front : List ℕ) → Begins text front → BeginsInWords form text front
in_words Words text front begins = begins
in_words WithCircles text front begins = begins
in_words Json text front begins = tt

-- what is told of a refusal begins with its first lines, whatever follows
pub begins_first : (events : List (List ℕ)) (why : Refused) (told more : List ℕ) → told ≡ refused_text events why → Begins (told ++ more) (first_lines events why)
begins_first events (Compile (Inconsistent dropped)) told more is =
    let lines = flat_map dropped_line dropped.items in
    (lines ++ more, ap (λ (text : List ℕ). text ++ more) is ∙ append_assoc (codes "inconsistent\n") lines more)
begins_first events why told more is = (more, ap (λ (text : List ℕ). text ++ more) is)
