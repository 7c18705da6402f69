-- The texts of a step: what they say, or why they are refused.
use Rattle.std.specs.Prelude.{◌≡◌, ◌<◌, ◌≤◌, ◌⊎◌, ℕ, List, [], ◌∷◌, length, Option, None, Some, Result, Err}
use Rattle.flow_model.specs.declared.limits.TheConstants.{GREATEST_INPUT}
use Rattle.flow_form.specs.Script.{Said}
use Rattle.flow_text.specs.Saying.{Says}
use Rattle.flow_text.specs.Parser.{IsParseRefusal}
use Rattle.flow_policy.specs.Assigned.{Assigned}
use Rattle.flow_policy.specs.Policy.{IsPolicyOf}
use Rattle.flow_record.specs.declared.command.Command.{Command}
use Rattle.flow_record.specs.declared.refusal.RecordRefusal.TheVariants.{BadLine}
use Rattle.flow_record.specs.Session.{session_of, commands}
use Rattle.flow_findings.specs.declared.refused.Refused.{Refused}
use Rattle.flow_findings.specs.declared.refused.Refused.TheVariants as refused
use Rattle.flow_findings.specs.Refusing.{IsOfText}
use Rattle.flow_front.specs.Refusal.{the_policy}
use Rattle.flow_front.specs.Stages.{Then}

-- the text of a workflow and that of a policy are no longer than an input may be
abbrev pub AreShort : List ℕ → List ℕ → Type 0
AreShort text policy = (length text ≤ GREATEST_INPUT) × (length policy ≤ GREATEST_INPUT)

-- the texts are short, and the first says this
pub record SaysShort (text policy : List ℕ) (s : Said) : Type 0 where
  pub short : AreShort text policy
  pub says : Says text s

-- one of them is too long, or the first says nothing
abbrev pub IsTextCause : List ℕ → List ℕ → Refused → Type 0
IsTextCause text policy refused.TooLong = (GREATEST_INPUT < length text) ⊎ (GREATEST_INPUT < length policy)
IsTextCause text policy (refused.Text refusal) = AreShort text policy × IsOfText refusal × IsParseRefusal text refusal
IsTextCause text policy other = ⊥

-- No policy where its text is empty. Else it is refused for its first cause, or P says what comes of what it assigns.
abbrev pub Under : {F : Type 0} → Said → List ℕ → (Option Assigned → Result F Refused → Type 0) → Result F Refused → Type 0
Under s [] P came = P None came
Under s (byte ∷ bytes) P came = Then (the_policy s (byte ∷ bytes)) (IsPolicyOf (byte ∷ bytes) s) (λ assigned. P (Some assigned)) came

-- the line is this one command of a session
abbrev pub SaysCommand : List ℕ → Command → Type 0
SaysCommand line command = session_of line ≡ commands (command ∷ [])

-- that it is not
abbrev pub not_one : Refused
not_one = refused.Record (BadLine 0)

-- the line is refused, since it is not one command
abbrev pub IsLineCause : List ℕ → Refused → Type 0
IsLineCause line why = ((command : Command) → ¬ (SaysCommand line command)) × (why ≡ not_one)

-- The line is refused where it is not one command. Else P says what comes of that.
abbrev pub ByLine : {F : Type 0} → List ℕ → (Command → Result F Refused → Type 0) → Result F Refused → Type 0
ByLine line P came =
    ((why : Refused) × IsLineCause line why × (came ≡ Err why)) ⊎ ((command : Command) × SaysCommand line command × P command came)
