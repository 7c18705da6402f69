use Rattle.flow_core.specs.Ask.{Answers}
use Rattle.flow_reply.specs.Replies.{Given, IsSame}
use Rattle.flow_run_why_cli.proofs.Given.{given_next, given_all}
use Rattle.flow_run_why_cli.proofs.replies.tell_commands.Goals as goal

pub loop-place-preserved : goal.loop-place-preserved
loop-place-preserved c =
    given_next (Given Answers IsSame 0) c.args.core.now c.loop-place.core c.tell_command.new.run c.args.commands.now c.loop-place.place _ c.loop-place-test.true
    c.loop-place.invariant c.tell_command.ensures.given

pub returns : goal.returns
returns c = given_all (Given Answers IsSame 0) c.args.core.now c.loop-place.core c.args.commands.now c.loop-place.place c.loop-place-test.false c.loop-place.invariant
