use Rattle.std.proofs.Common.{sym}
use Rattle.flow_log_cli.specs.Told.{texts_of}
use Rattle.flow_log_cli.proofs.StandLemmas.{activity_more}
use Rattle.flow_log_cli.proofs.vocabulary.add_activities.Goals as goal

pub loop-place-preserved : goal.loop-place-preserved
loop-place-preserved c =
    activity_more c.args.activities.now c.loop-place.place c.in-Some.activity.now c.loop-place.names.items c.push.new.self.items c.in_ok-text.text (texts_of c.args.names.now.items)
    (sym c.in-Some.ensures) c.in_ok-push.ensures.items c.in_ok-text.ensures.items c.loop-place.invariant
