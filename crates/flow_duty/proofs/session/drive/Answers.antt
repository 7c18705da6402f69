use Rattle.flow_reply.proofs.SessionLemmas.{after_error, all_given}
use Rattle.flow_duty.specs.Replies.{Replied, WasGiven}
use Rattle.flow_duty.proofs.DeskLemmas.{line_given}
use Rattle.flow_duty.proofs.SessionLemmas.{session_output}
use Rattle.flow_duty.proofs.session.drive.Goals as goal

pub returns-clause-ok : goal.returns-clause-ok
returns-clause-ok c =
    session_output c.args.desk.now c.reply_to_all.new.desk c.args.caller.now c.reply_to_all.new.caller c.args.lines.now c.in_ok-replies.replies.items c.core.result.now c.conclude.result
    c.core.ensures.run c.in_ok-replies.ensures.ok c.conclude.ensures.lawful c.core.ensures.kept c.conclude.ensures.output

pub returns-clause-err : goal.returns-clause-err
returns-clause-err c =
    after_error c.conclude.result
    (all_given Replied WasGiven (λ s t line reply replied. line_given s.0 t.0 s.1 t.1 line reply replied) (c.args.desk.now, c.args.caller.now)
    (c.reply_to_all.new.desk, c.reply_to_all.new.caller) c.args.lines.now c.in_ok-replies.replies.items c.in_ok-replies.ensures.ok)
