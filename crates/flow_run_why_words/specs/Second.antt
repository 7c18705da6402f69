-- A refusal of what stands behind a workflow: where it is, and what is met there.
use Rattle.std.specs.Prelude.{◌≡◌, ℕ, ◌+◌, ◌-◌, ◌^◌, min, List, ◌++◌, length, drop, codes}
use Rattle.flow_policy.specs.declared.refusal.PolicyRefusal.{PolicyRefusal}
use Rattle.flow_policy.specs.declared.refusal.PolicyRefusal.TheVariants.{NotAscii, BadToken, Expected, Unknown, NoMemory}
use Rattle.flow_fault.specs.declared.spot.Spot.{Spot}
use Rattle.flow_fault.specs.declared.met.Met.{Met}
use Rattle.flow_fault.specs.Spot.{IsSpot}
use Rattle.flow_fault.specs.Met.{IsMet}
use Rattle.flow_writer.specs.Json.{number_member}
use Rattle.flow_why_cli.specs.Words.{met_text, place_text}
use Rattle.flow_why_cli.specs.Members.{met_member}
use Rattle.flow_run_why_words.specs.Parts.{part_of}
use Rattle.flow_run_why_words.specs.Lines.{lines_before}

-- the place of a refusal in the policy's text, or its begin
abbrev pub policy_place : PolicyRefusal → ℕ
policy_place (NotAscii place) = place
policy_place (BadToken place) = place
policy_place (Expected place) = place
policy_place (Unknown place) = place
policy_place NoMemory = 0

-- a place in a part that stands so many lines behind others, and what is met there
abbrev pub met_lines : Spot → Met → ℕ → List ℕ
met_lines spot met before = place_text spot before ++ codes "met: " ++ met_text met ++ codes "\n"

-- where the part of the text is refused, and what is met there
pub record IsAt (text : List ℕ) (place : ℕ) (spot : Spot) (met : Met) : Type 0 where
  pub is_spot : IsSpot (part_of text) (min (length (part_of text)) place) spot
  pub is_met : IsMet (drop (min (length (part_of text)) place) (part_of text)) met

abbrev pub IsPolicyMembers : List ℕ → PolicyRefusal → List ℕ → Type 0
IsPolicyMembers policy refusal members =
    (spot : Spot) × (met : Met) × IsAt policy (policy_place refusal) spot met
    × (members ≡ number_member (codes "line") (min (spot.line + lines_before policy) (2 ^ 64 - 1)) ++ number_member (codes "column") spot.column ++ met_member met)
