-- What a call is asked for, and why it is refused before the disk is touched.
use Rattle.std.specs.Prelude.{◌≡◌, ◌⊎◌, ◌+◌, ℕ, List, [], Option}
use Rattle.flow_model.specs.declared.limits.TheConstants.{GREATEST_INPUT}
use Rattle.flow_io.specs.Source.{LosesCount}
use Rattle.flow_form.specs.Script.{Said}
use Rattle.flow_form.specs.Names.{event_names}
use Rattle.flow_workflow.specs.Definition.{Definition}
use Rattle.flow_plan.specs.Compilation.{Compilation}
use Rattle.flow_record.specs.declared.command.Command.{Command}
use Rattle.flow_record.specs.Session as session_text
use Rattle.flow_findings.specs.declared.refused.Refused.{Refused}
use Rattle.flow_front.specs.declared.status.Status.{Status}
use Rattle.flow_front.specs.declared.status.Status.TheVariants as front
use Rattle.flow_front.specs.Status.{Tells}
use Rattle.flow_front.specs.Refusal.{the_source, the_session, IsCause}
use Rattle.flow_front.specs.Input.{IsInputOf, IsReadWhole}
use Rattle.flow_front.specs.Prepared.{IsPrepared, IsNotPrepared}
use Rattle.flow_keep_cli.specs.declared.asked.Looked.{Looked}
use Rattle.flow_keep_cli.specs.declared.asked.Looked.TheVariants as looked
use Rattle.flow_keep_cli.specs.declared.status.KeepStatus.{KeepStatus}
use Rattle.flow_keep_cli.specs.declared.status.KeepStatus.TheVariants as ending
use Rattle.flow_keep_cli.specs.Lines.{words_text, help_text}
use Rattle.flow_keep_cli.specs.Words.{IsHelp, IsCall, IsNoCall}

-- the text is the session, what is said is that workflow, and it is compiled, so some execution of it meets every constraint
pub record IsAskedIn (s : Said) (text : List ℕ) (w : Definition) (c : Compilation) (session : List Command) : Type 0 where
  pub read : session_text.session_of text ≡ session_text.commands session
  pub prepared : IsPrepared s w c

-- the first reason for which a text is no session, or what is said no workflow that can be run
abbrev pub IsNotAskedIn : Said → List ℕ → Refused → Type 0
IsNotAskedIn s text why = IsCause (the_session text) why ⊎ ((session : List Command) × (session_text.session_of text ≡ session_text.commands session) × IsNotPrepared s why)

-- the source asks for a session of the workflow
abbrev pub IsAskedBy : Option (List ℕ) → Definition → Compilation → List Command → Type 0
IsAskedBy source w c session = (s : Said) × ((text : List ℕ) × IsInputOf source s text × IsAskedIn s text w c session)

-- what is said, or the text, is refused, with this status and these words
abbrev pub IsRefusedIn : Said → List ℕ → Status → List ℕ → Type 0
IsRefusedIn s text status output = (why : Refused) × IsNotAskedIn s text why × Tells (event_names s.decls) why status output

-- the source is refused, or what it says
abbrev pub IsRefusedBy : Option (List ℕ) → Status → List ℕ → Type 0
IsRefusedBy source status output =
    ((why : Refused) × IsCause (the_source source) why × Tells [] why status output)
    ⊎ ((s : Said) × ((text : List ℕ) × IsInputOf source s text × IsRefusedIn s text status output))

-- what comes of what is said and the text
abbrev pub IsLookedIn : Said → List ℕ → Looked → Type 0
IsLookedIn s text (looked.Ready asked) = IsAskedIn s text asked.prepared.workflow asked.prepared.compiled asked.commands.items
IsLookedIn s text (looked.Refused output) = IsRefusedIn s text output.status output.text.items

-- what comes of a source
abbrev pub IsLooked : Option (List ℕ) → Looked → Type 0
IsLooked source (looked.Ready asked) = IsAskedBy source asked.prepared.workflow asked.prepared.compiled asked.commands.items
IsLooked source (looked.Refused output) = IsRefusedBy source output.status output.text.items

-- it is a refusal because the source failed
abbrev pub IsOfFault : Looked → Type 0
IsOfFault (looked.Ready asked) = ⊥
IsOfFault (looked.Refused output) = output.status ≡ front.ReadFault

-- what is read of a source: all of it, or where its input is too long one byte more than may be
abbrev pub IsTaken : Option (List ℕ) → Option (List ℕ) → Type 0
IsTaken left left' = IsReadWhole left left' ⊎ LosesCount left left' (GREATEST_INPUT + 1)

-- all of it is read, but where the input is too long, or the source failed
abbrev pub IsTakenBy : Option (List ℕ) → Option (List ℕ) → Looked → Type 0
IsTakenBy left left' (looked.Ready asked) = IsReadWhole left left'
IsTakenBy left left' (looked.Refused output) =
    IsReadWhole left left'
    ⊎ (((output.status ≡ front.Input) × LosesCount left left' (GREATEST_INPUT + 1)) ⊎ (output.status ≡ front.ReadFault))

-- a session of a workflow, kept in the file of that path, in so many steps at most
pub record Wanted : Type 0 where
  pub path : List ℕ
  pub steps : ℕ
  pub workflow : Definition
  pub commands : List Command

-- the words and the source ask for it
pub record IsWanted (words : List (List ℕ)) (source : Option (List ℕ)) (wanted : Wanted) : Type 0 where
  pub no_help : ¬ (IsHelp words)
  pub call : IsCall words wanted.path wanted.steps
  pub compiled : Compilation
  pub asked : IsAskedBy source wanted.workflow compiled wanted.commands

-- the words ask for help, or are no call, or the source is refused, with this status and this text
abbrev pub NeedsNoDisk : List (List ℕ) → Option (List ℕ) → KeepStatus → List ℕ → Type 0
NeedsNoDisk words source status text =
    (IsHelp words × (status ≡ ending.Of front.Fine) × (text ≡ help_text))
    ⊎ ((¬ (IsHelp words)) × ((IsNoCall words × (status ≡ ending.Of front.Words) × (text ≡ words_text))
    ⊎ ((path : List ℕ) × ((steps : ℕ) × IsCall words path steps × ((of : Status) × (status ≡ ending.Of of) × IsRefusedBy source of text)))))
