-- A command that is given to a run, or to what stands over one.
use Rattle.std.specs.Prelude.{◌≡◌, ℕ, ◌++◌, Option, None, Result, Ok, Err}
use Rattle.flow_model.specs.declared.history.Entry.{Entry}
use Rattle.flow_model.specs.Verdict.{AreJust}
use Rattle.flow_ask.specs.declared.ask.Ask.{Ask as Asking}
use Rattle.flow_ask.specs.declared.made.Made.{Made}
use Rattle.flow_ask.specs.declared.refusal.Refusal.{Refusal}
use Rattle.flow_core.specs.Run.{Run, schema}
use Rattle.flow_core.specs.Next.{CanAct}
use Rattle.flow_core.specs.Lawful.{IsLawful}
use Rattle.flow_record.specs.declared.command.Command.{Command}
use Rattle.flow_record.specs.declared.command.Command.TheVariants.{Ask, Look}
use Rattle.flow_reply.specs.Answer.{answer_text}
use Rattle.flow_reply.specs.Look.{IsShown}
use Rattle.flow_step.specs.Records.{entries_in}
use Rattle.flow_step.specs.declared.stepped.Stepped.{Stepped}
use Rattle.flow_step.specs.declared.stepped.Stepped.TheVariants as stepped

-- the run has that entry more, where there is one, and its history is lawful
pub record IsGrown (before after : Run) (entry : Option Entry) : Type 0 where
  pub history_is : after.history ≡ before.history ++ entries_in entry
  pub same_workflow : after.definition ≡ before.definition
  pub same_limit : after.limit ≡ before.limit
  pub lawful : IsLawful (schema after) after.limit after.history

-- What comes of the caller's command: the entry that the run, or what stands over it, makes of it; its reply; and, where something was made
-- or shown, the leaves that may be begun after it.
abbrev pub Gives : {S : Type 0} → (S → Run) → (S → Asking → ℕ → Result Made Refusal → S → Type 0) → (S → S → Type 0) →
    ℕ → S → Command → Stepped → Type 0
Gives {S} run answers same by before (Ask ask) (stepped.Made entry reply next) =
    (made : Made) × (after : S) × answers before ask by (Ok made) after × IsGrown (run before) (run after) entry
    × (reply.items ≡ answer_text (run after) ask (Ok made)) × AreJust (CanAct (run after)) next.items
Gives {S} run answers same by before (Ask ask) (stepped.Refused refusal entry reply) =
    (after : S) × answers before ask by (Err refusal) after × IsGrown (run before) (run after) entry
    × (reply.items ≡ answer_text (run after) ask (Err refusal))
Gives {S} run answers same by before (Look look) (stepped.Made entry reply next) =
    (after : S) × same before after × (entry ≡ None) × IsGrown (run before) (run after) None
    × IsShown (run after) look reply.items × AreJust (CanAct (run after)) next.items
Gives run answers same by before command other = ⊥
