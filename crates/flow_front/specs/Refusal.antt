-- Why a call is refused. Every refusal of every mode has its cause here, by what is looked at when it comes.
use Rattle.std.specs.Prelude.{◌≡◌, ◌<◌, ◌≤◌, ℕ, List, length, take, drop, Option, None, Some}
use Rattle.flow_model.specs.declared.limits.TheConstants.{GREATEST_INPUT}
use Rattle.flow_model.specs.Schema.{Schema}
use Rattle.flow_form.specs.Script.{Said}
use Rattle.flow_form.specs.Names.{event_names}
use Rattle.flow_text.specs.Parser.{IsParseRefusal, IsQueryRefusal}
use Rattle.flow_record.specs.Cut.{cut_of}
use Rattle.flow_record.specs.declared.refusal.RecordRefusal.{RecordRefusal}
use Rattle.flow_record.specs.declared.refusal.RecordRefusal.TheVariants.{BadLine, Label, NoMemory}
use Rattle.flow_record.specs.Session as session_text
use Rattle.flow_record.specs.Journal as journal_text
use Rattle.flow_workflow.specs.Definition.{Definition}
use Rattle.flow_policy.specs.Policy.{IsPolicyRefusal}
use Rattle.flow_policy.specs.Session.{duties_of}
use Rattle.flow_expand.specs.Refusals.{IsRefusal}
use Rattle.flow_excise.specs.declared.refusal.CompileRefusal.{CompileRefusal}
use Rattle.flow_excise.specs.declared.refusal.CompileRefusal.TheVariants as compilation
use Rattle.flow_excise.specs.Compilation.{IsRefused}
use Rattle.flow_audit.specs.declared.cuts.TheConstants.{MOST_JOURNALS}
use Rattle.flow_audit.specs.Cuts.{cuts_of}
use Rattle.flow_findings.specs.declared.refused.Refused.{Refused}
use Rattle.flow_findings.specs.declared.refused.Refused.TheVariants as refused
use Rattle.flow_findings.specs.Refusing.{IsOfText, IsOfPolicy, IsOfWorkflow, IsOfOptions}

-- the text of the workflow in an input
abbrev pub workflow_part : List ℕ → List ℕ
workflow_part input = take (cut_of input).0 input

-- what follows it: a session, a query, a journal or several
abbrev pub second_part : List ℕ → List ℕ
second_part input = drop (cut_of input).1 input

-- the bytes are those that the source tells; where it tells none, they are some bytes
abbrev pub Gives : Option (List ℕ) → List ℕ → Type 0
Gives None input = Unit {0}
Gives (Some bytes) input = input ≡ bytes

-- what is looked at, in the order in which it is looked at where a mode looks at it
pub data Looked : Type 0 where
  -- a source, the text of a workflow in what it gives
  the_source : Option (List ℕ) → Looked
  -- a text that is to be a session, a query to what is said, a policy for it, a session of that policy's users, or journals
  the_session : List ℕ → Looked
  the_query : Said → List ℕ → Looked
  the_policy : Said → List ℕ → Looked
  the_duties : List ℕ → Looked
  the_journals : List ℕ → Looked
  -- what is said: its sub-workflows, sizes and events
  the_script : Said → Looked
  -- a text that is to be a journal of the workflow
  the_journal : Definition → List ℕ → Looked
  -- the number of one of its constraints
  the_index : Definition → ℕ → Looked
  -- the options of a workflow that is to be run, and of one of which something is asked
  the_workflow : Schema → Looked
  the_question : Schema → Looked

-- why a text is no journal of the workflow: a bad line comes before a wrong label
abbrev pub IsJournalRefusal : Definition → List ℕ → RecordRefusal → Type 0
IsJournalRefusal w text (BadLine line) = journal_text.journal_of w text ≡ journal_text.bad_line line
IsJournalRefusal w text (Label line) = journal_text.journal_of w text ≡ journal_text.wrong_label line
IsJournalRefusal w text NoMemory = ⊥

-- the refusal is that there is too much of something
abbrev pub IsOfCounts : CompileRefusal → Type 0
IsOfCounts (compilation.Inconsistent dropped) = ⊥
IsOfCounts compilation.NoMemory = ⊥
IsOfCounts other = Unit {0}

-- the first reason for which what is looked at is refused
abbrev pub IsCause : Looked → Refused → Type 0
IsCause (the_source left) refused.Read = Unit {0}
IsCause (the_source left) refused.TooLong = (input : List ℕ) × Gives left input × (GREATEST_INPUT < length input)
IsCause (the_source left) (refused.Text refusal) =
    (input : List ℕ) × Gives left input × (length input ≤ GREATEST_INPUT) × IsOfText refusal × IsParseRefusal (workflow_part input) refusal
IsCause (the_session text) (refused.Record (BadLine line)) = session_text.session_of text ≡ session_text.bad_line line
IsCause (the_query s text) (refused.Query refusal) = IsOfText refusal × IsQueryRefusal text s refusal
IsCause (the_policy s text) (refused.Policy refusal) = IsOfPolicy refusal × IsPolicyRefusal text s refusal
IsCause (the_duties text) (refused.Record (BadLine line)) = duties_of text ≡ session_text.bad_line line
IsCause (the_journals text) (refused.Journals count) = (count ≡ length (cuts_of text)) × (MOST_JOURNALS < count)
IsCause (the_script s) (refused.Expand refusal) = IsOfWorkflow (event_names s.decls) refusal × IsRefusal s refusal
IsCause (the_journal w text) (refused.Record refusal) = IsJournalRefusal w text refusal
IsCause (the_index w index) (refused.NoRule other) = (other ≡ index) × (length w.rules ≤ index)
IsCause (the_workflow w) (refused.Compile refusal) = IsOfOptions refusal × IsRefused w refusal
IsCause (the_question w) (refused.Compile refusal) = IsOfCounts refusal × IsRefused w refusal
IsCause looked why = ⊥
