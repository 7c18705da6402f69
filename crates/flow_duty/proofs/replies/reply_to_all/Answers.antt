use Rattle.std.proofs.Common.{◌≡◌, List, ℕ, ◌++◌, ap, ◌∙◌, subst}
use Rattle.flow_policy.specs.declared.duty.Duty.{Duty}
use Rattle.flow_reply.proofs.SessionLemmas.{after_error, goes_next, next_given}
use Rattle.flow_roles.specs.Desked.{Desked}
use Rattle.flow_duty.specs.Replies.{RepliesToLine, IsLineGiven, Replied, WasGiven}
use Rattle.flow_duty.proofs.DeskLemmas.{line_given}
use Rattle.flow_duty.proofs.replies.reply_to_all.Goals as goal

abbrev given : (s t : Desked × ℕ) (line : Duty) (reply : List ℕ) → Replied s line reply t → WasGiven s line t
given s t line reply replied = line_given s.0 t.0 s.1 t.1 line reply replied

pub loop-line-preserved : goal.loop-line-preserved
loop-line-preserved c =
    let items : c.extend_from_slice.new.self.items ≡ c.loop-line.text.items ++ c.in_ok-reply_to.field-0.items =
    c.in_ok-extend_from_slice.ensures.items ∙ ap (λ (bytes : List ℕ). c.loop-line.text.items ++ bytes) c.deref.ensures.value in
    goes_next Replied (c.args.desk.now, c.args.caller.now) (c.loop-line.desk, c.loop-line.caller) (c.reply_to.new.desk, c.reply_to.new.caller) c.args.lines.now
    c.loop-line.line-index c.line-item.result c.loop-line.text.items c.in_ok-reply_to.field-0.items c.extend_from_slice.new.self.items c.loop-line-test.true c.loop-line.invariant
    (subst (λ (l : Duty). RepliesToLine c.loop-line.desk c.loop-line.caller l c.in_ok-reply_to.field-0.items c.reply_to.new.desk c.reply_to.new.caller) c.line-item.is
    c.in_ok-reply_to.ensures.ok) items

pub returns-in_err-reply_to-clause-err : goal.returns-in_err-reply_to-clause-err
returns-in_err-reply_to-clause-err c =
    after_error c.from_residual.result
    (next_given Replied WasGiven given (c.args.desk.now, c.args.caller.now) (c.loop-line.desk, c.loop-line.caller) (c.reply_to.new.desk, c.reply_to.new.caller) c.args.lines.now
    c.loop-line.line-index c.line-item.result c.loop-line.text.items c.loop-line-test.true c.loop-line.invariant
    (subst (λ (l : Duty). IsLineGiven c.loop-line.desk c.loop-line.caller l c.reply_to.new.desk c.reply_to.new.caller) c.line-item.is c.in_err-reply_to.ensures.err))

pub returns-in_err-extend_from_slice-clause-err : goal.returns-in_err-extend_from_slice-clause-err
returns-in_err-extend_from_slice-clause-err c =
    after_error c.from_residual-in_err-extend_from_slice.result
    (next_given Replied WasGiven given (c.args.desk.now, c.args.caller.now) (c.loop-line.desk, c.loop-line.caller) (c.reply_to.new.desk, c.reply_to.new.caller) c.args.lines.now
    c.loop-line.line-index c.line-item.result c.loop-line.text.items c.loop-line-test.true c.loop-line.invariant
    (subst (λ (l : Duty). IsLineGiven c.loop-line.desk c.loop-line.caller l c.reply_to.new.desk c.reply_to.new.caller) c.line-item.is
    (line_given c.loop-line.desk c.reply_to.new.desk c.loop-line.caller c.reply_to.new.caller c.line-item.result c.in_ok-reply_to.field-0.items c.in_ok-reply_to.ensures.ok)))
