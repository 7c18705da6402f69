-- A text has one answer as a policy.
use Rattle.std.specs.Prelude.{◌≡◌, ℕ, List, Result, Ok, Err}
use Rattle.flow_form.specs.Script.{Said}
use Rattle.flow_policy.specs.Assigned.{Assigned}
use Rattle.flow_policy.specs.Policy.{IsPolicyOf, IsPolicyRefusal}
use Rattle.flow_policy.specs.declared.refusal.PolicyRefusal.{PolicyRefusal}
use Rattle.flow_policy.specs.declared.refusal.PolicyRefusal.TheVariants.{NoMemory}

-- an answer that tells of the text: its policy, or why it has none, but not want of memory
abbrev pub IsPolicyAnswer : List ℕ → Said → Result Assigned PolicyRefusal → Type 0
IsPolicyAnswer text s (Ok p) = IsPolicyOf text s p
IsPolicyAnswer text s (Err refusal) = IsPolicyRefusal text s refusal × ¬ (refusal ≡ NoMemory)

-- the same policy, or the same refusal with its place
abbrev pub PoliciesAreSingle : Type 0
PoliciesAreSingle = (text : List ℕ) (s : Said) (a b : Result Assigned PolicyRefusal) → IsPolicyAnswer text s a → IsPolicyAnswer text s b → a ≡ b
