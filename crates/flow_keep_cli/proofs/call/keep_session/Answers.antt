use Rattle.std.proofs.Common.{◌≡◌, ◌⊎◌, List, length, subst}
use Rattle.flow_record.specs.declared.command.Command.{Command}
use Rattle.flow_keep.specs.Holding.{run_of, disk_of}
use Rattle.flow_keep_cli.specs.Lines.{kept_line}
use Rattle.flow_keep_cli.specs.Session.{IsCut, BehindStatus, IsWhole}
use Rattle.flow_keep_cli.specs.Course.{IsFirstLine}
use Rattle.flow_keep_cli.proofs.Courses.{course_begun}
use Rattle.flow_keep_cli.proofs.call.keep_session.Goals as goal

pub returns-in-Ok-clause-course : goal.returns-in-Ok-clause-course
returns-in-Ok-clause-course g c =
    let first = run_of c.in-Ok.keep in
    let begun = disk_of c.in-Ok.keep in
    let left = disk_of c.go_on-status.new.keep in
    let held = g.K.Sink.held c.args.sink.now in
    let held' = g.K.Sink.held c.go_on-status.new.sink in
    let result = c.go_on-status.result in
    course_begun g.D.Disk.tells g.D.Disk.moment g.D.Disk.image g.D.Disk.synced g.D.Disk.seen g.D.Disk.faults g.D.Disk.chosen g.D.Disk.file_at c.args.call.path.now c.args.asked.prepared.workflow c.args.call.steps c.args.asked.commands.items
    c.args.disk c.into_disk.result held held' result begun left first c.in-Ok.ensures.run c.in-Ok.ensures.found c.in-Ok.ensures.begun c.in-Ok.ensures.no_fault c.in-Ok.ensures.file c.go_on-status.ensures.same_file c.into_disk.ensures.disk
    (subst (λ (commands : List Command).
    ((left ≡ begun) × IsFirstLine first.history held held' result)
    ⊎ (IsCut first commands (BehindStatus commands result) (kept_line (length first.history)) held held' g.D.Disk.tells (g.D.Disk.image left (g.D.Disk.moment left))
    ⊎ IsWhole first commands (kept_line (length first.history)) result held held' g.D.Disk.tells (g.D.Disk.seen left) (g.D.Disk.image left (g.D.Disk.moment left))))
    c.deref.ensures.value c.go_on-status.ensures.course)
