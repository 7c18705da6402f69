-- What a keep that was whole answered, and whether it is whole still.
use Rattle.std.proofs.Common.{◌≡◌, ◌⊎◌, inl, inr, ℕ, Bool, true, false, Result, sym, ◌∙◌, true≢false}
use Rattle.flow_ask.specs.declared.ask.Ask.{Ask}
use Rattle.flow_ask.specs.declared.made.Made.{Made}
use Rattle.flow_ask.specs.declared.refusal.Refusal.{Refusal}
use Rattle.flow_record.specs.declared.command.Command.TheVariants as command
use Rattle.flow_core.specs.Run.{Run}
use Rattle.flow_core.specs.Ask.{Answers}
use Rattle.flow_keep.specs.Answered.{KeepAnswers}
use Rattle.flow_keep_cli.specs.Session.{driver, IsGiven}

module _ (broken broken' : Bool) (r after : Run) (ask : Ask) (answer : Result Made Refusal) (whole : broken ≡ false)
    (answers : KeepAnswers (λ run. run) Answers broken r ask driver answer broken' after) where
  -- it is whole still, so this is the run's own answer
  pub answered : broken' ≡ false → Answers r ask driver answer after
  answered still = elim answers [
    | inl before ↦ absurd (true≢false (sym before.0 ∙ whole))
    | inr then ↦ elim then [
      | inl is ↦ is.2
      | inr fault ↦ absurd (true≢false (sym fault.1 ∙ still))
    ]
  ]

  -- in any case the run has answered
  pub given_so : IsGiven r (command.Ask ask) after
  given_so = elim answers [
    | inl before ↦ absurd (true≢false (sym before.0 ∙ whole))
    | inr then ↦ elim then [ inl is ↦ (answer, is.2) | inr fault ↦ (fault.3.0, fault.3.1) ]
  ]
