use Rattle.std.proofs.Common.{◌≡◌, List, Result, Ok, subst, ap, ◌∙◌, length}
use Rattle.flow_model.specs.declared.history.Entry.{Entry}
use Rattle.flow_model.specs.Verdict.{AreJust}
use Rattle.flow_ask.specs.declared.made.Made.{Made}
use Rattle.flow_ask.specs.declared.refusal.Refusal.{Refusal}
use Rattle.flow_core.specs.Run.{Run}
use Rattle.flow_core.specs.Next.{CanAct}
use Rattle.flow_reply.specs.Answer.{answer_text}
use Rattle.flow_step.proofs.GrowthLemmas.{grown_at}
use Rattle.flow_step.proofs.give.ask_run.Goals as goal

pub returns-in_ok-enabled-in-Ok : goal.returns-in_ok-enabled-in-Ok
returns-in_ok-enabled-in-Ok g c = (
  c.in-Ok.field-0,
  c.answer-answer.new.self,
  subst (λ (a : Result Made Refusal). g.R.Asked.answers c.args.run.now c.args.ask c.args.by a c.answer-answer.new.self) c.in-Ok.is c.answer-answer.ensures.answers,
  grown_at _ _ _ _ c.args.ask c.args.by _ c.answer-answer.ensures.grows c.core.ensures c.core-2.ensures (ap (λ (l : List Entry). length l) c.history-before.ensures.entries)
      c.entry_at-entry.ensures.entry c.entry_at-entry.ensures.lawful,
  subst (λ (r : Run). c.in_ok-reply.reply.items ≡ answer_text r c.args.ask (Ok c.in-Ok.field-0)) c.core-3.ensures
      (subst (λ (a : Result Made Refusal). c.in_ok-reply.reply.items ≡ answer_text c.core-3.result.now c.args.ask a) c.in-Ok.is c.in_ok-reply.ensures),
  subst (λ (r : Run). AreJust (CanAct r) c.in_ok-enabled-in-Ok.field-0.items) (c.core-in-Ok.ensures ∙ c.look_ahead.ensures.run) c.in_ok-enabled-in-Ok.ensures,
)

pub returns-in-Err : goal.returns-in-Err
returns-in-Err g c = (
  c.answer-answer.new.self,
  subst (λ (a : Result Made Refusal). g.R.Asked.answers c.args.run.now c.args.ask c.args.by a c.answer-answer.new.self) c.in-Err.is c.answer-answer.ensures.answers,
  grown_at _ _ _ _ c.args.ask c.args.by _ c.answer-answer.ensures.grows c.core.ensures c.core-2.ensures (ap (λ (l : List Entry). length l) c.history-before.ensures.entries)
      c.entry_at-entry.ensures.entry c.entry_at-entry.ensures.lawful,
  subst (λ (a : Result Made Refusal). c.in_ok-reply.reply.items ≡ answer_text c.core-3.result.now c.args.ask a) c.in-Err.is c.in_ok-reply.ensures,
)
