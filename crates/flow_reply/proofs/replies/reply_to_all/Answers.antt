use Rattle.std.proofs.Common.{◌≡◌, List, ℕ, ◌++◌, ap, ◌∙◌}
use Rattle.flow_reply.specs.Replies.{Replies, Given}
use Rattle.flow_reply.proofs.SessionLemmas.{goes_next, next_given, after_error, was_given}
use Rattle.flow_reply.proofs.replies.reply_to_all.Goals as goal

pub loop-command-preserved : goal.loop-command-preserved
loop-command-preserved g c =
    let items : c.extend_from_slice.new.self.items ≡ c.loop-command.text.items ++ c.in_ok-reply_to.field-0.items =
    c.in_ok-extend_from_slice.ensures.items ∙ ap (λ (bytes : List ℕ). c.loop-command.text.items ++ bytes) c.deref.ensures.value in
    record {
      gone = goes_next (Replies g.R.Asked.run g.R.Asked.answers g.R.Asked.is_same c.args.by) c.args.run.now c.loop-command.run c.reply_to.new.run c.args.commands.now
          c.loop-command.command-index _ c.loop-command.text.items c.in_ok-reply_to.field-0.items c.extend_from_slice.new.self.items c.loop-command-test.true
          c.loop-command.invariant.gone c.in_ok-reply_to.ensures.ok items;
      can = c.in_ok-reply_to.ensures.lasts;
    }

pub returns-in_err-reply_to-clause-err : goal.returns-in_err-reply_to-clause-err
returns-in_err-reply_to-clause-err g c =
    after_error c.from_residual.result
    (next_given (Replies g.R.Asked.run g.R.Asked.answers g.R.Asked.is_same c.args.by) (Given g.R.Asked.answers g.R.Asked.is_same c.args.by)
    (was_given g.R.Asked.run g.R.Asked.answers g.R.Asked.is_same c.args.by) c.args.run.now c.loop-command.run c.reply_to.new.run c.args.commands.now
    c.loop-command.command-index _ c.loop-command.text.items c.loop-command-test.true c.loop-command.invariant.gone c.in_err-reply_to.ensures.err)

pub returns-in_err-extend_from_slice-clause-err : goal.returns-in_err-extend_from_slice-clause-err
returns-in_err-extend_from_slice-clause-err g c =
    after_error c.from_residual-in_err-extend_from_slice.result
    (next_given (Replies g.R.Asked.run g.R.Asked.answers g.R.Asked.is_same c.args.by) (Given g.R.Asked.answers g.R.Asked.is_same c.args.by)
    (was_given g.R.Asked.run g.R.Asked.answers g.R.Asked.is_same c.args.by) c.args.run.now c.loop-command.run c.reply_to.new.run c.args.commands.now
    c.loop-command.command-index _ c.loop-command.text.items c.loop-command-test.true c.loop-command.invariant.gone
    (was_given g.R.Asked.run g.R.Asked.answers g.R.Asked.is_same c.args.by c.loop-command.run c.reply_to.new.run _ _ c.in_ok-reply_to.ensures.ok))
