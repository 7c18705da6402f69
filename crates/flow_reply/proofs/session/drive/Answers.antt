use Rattle.std.proofs.Common.{Result, Ok, Err}
use Rattle.flow_core.specs.Ask.{Answers}
use Rattle.flow_reply.specs.Replies.{Replies, Given, IsSame}
use Rattle.flow_reply.proofs.SessionLemmas.{concluded_output, all_given, after_error, was_given}
use Rattle.flow_reply.proofs.session.drive.Goals as goal

pub returns-clause-ok : goal.returns-clause-ok
returns-clause-ok c =
    concluded_output c.args.core.now c.reply_to_all.new.run c.args.by c.args.commands.now c.in_ok-replies.replies.items c.conclude.result c.in_ok-replies.ensures.ok
    c.conclude.ensures.lawful c.conclude.ensures.output

pub returns-clause-err : goal.returns-clause-err
returns-clause-err c =
    after_error c.conclude.result
    (all_given (Replies (λ run. run) Answers IsSame c.args.by) (Given Answers IsSame c.args.by) (was_given (λ run. run) Answers IsSame c.args.by)
    c.args.core.now c.reply_to_all.new.run c.args.commands.now c.in_ok-replies.replies.items c.in_ok-replies.ensures.ok)
