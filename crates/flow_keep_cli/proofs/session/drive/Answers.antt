use Rattle.std.proofs.Common.{[], inl, subst}
use Rattle.flow_core.specs.Run.{Run, schema}
use Rattle.flow_core.specs.Lawful.{IsLawful}
use Rattle.flow_keep.specs.Holding.{run_of, disk_of}
use Rattle.flow_keep_cli.specs.declared.replies.Cut.{Cut}
use Rattle.flow_keep_cli.specs.Session.{IsCut, BehindReplies}
use Rattle.flow_keep_cli.specs.Course.{IsReported}
use Rattle.flow_keep_cli.proofs.Cuts.{cut_said}
use Rattle.flow_keep_cli.proofs.Sessions.{reported}
use Rattle.flow_keep_cli.proofs.session.drive.Goals as goal

pub returns-in-Ok-clause-course : goal.returns-in-Ok-clause-course
returns-in-Ok-clause-course g c =
    let (text, driven, written) = c.in-Ok.ensures.replies in
    let keep = c.reply_to_all.new.keep in
    let held' = g.K.Sink.held c.reply_to_all.new.sink in
    let held'' = g.K.Sink.held c.report.new.sink in
    reported (run_of c.args.keep.now) (run_of keep) c.args.commands.now text (g.K.Sink.held c.args.sink.now) held' held'' c.report.result
    g.D.Disk.tells (g.D.Disk.seen (disk_of keep)) (g.D.Disk.image (disk_of keep) (g.D.Disk.moment (disk_of keep))) driven written
    (subst (λ (r : Run). IsLawful (schema r) r.limit r.history) c.core.ensures.run c.report.ensures.lawful)
    (λ told. c.core.ensures.seen told c.in-Ok.ensures.unbroken) (λ told. c.core.ensures.acknowledged told c.in-Ok.ensures.unbroken)
    (subst (λ (r : Run). IsReported r held' held'' c.report.result) c.core.ensures.run c.report.ensures.said)

pub returns-in-Err-Disk-clause-course : goal.returns-in-Err-Disk-clause-course
returns-in-Err-Disk-clause-course g c =
    let keep = c.reply_to_all.new.keep in
    let first = run_of c.args.keep.now in
    let commands = c.args.commands.now in
    let held = g.K.Sink.held c.args.sink.now in
    let held' = g.K.Sink.held c.reply_to_all.new.sink in
    let images = g.D.Disk.image (disk_of keep) (g.D.Disk.moment (disk_of keep)) in
    inl (cut_said first commands held held' (g.K.Sink.held c.say.new.sink) g.D.Disk.tells images c.say.result
    (subst (λ (why : Cut). IsCut first commands (BehindReplies commands why) [] held held' g.D.Disk.tells images) c.in-Err-Disk.field-0-is c.in-Err-Disk.ensures.cut)
    c.say.ensures.said)
