use Rattle.std.proofs.Common.{◌∙◌, ℕ, List, length, inr, ap, subst}
use Rattle.std.specs.Io.KnownBytes.{Appends}
use Rattle.flow_model.specs.declared.history.Entry.{Entry}
use Rattle.flow_core.specs.Run.{Run}
use Rattle.flow_keep.specs.Holding.{run_of, disk_of}
use Rattle.flow_keep_cli.specs.Lines.{kept_line}
use Rattle.flow_keep_cli.proofs.Sessions.{with_front}
use Rattle.flow_keep_cli.proofs.session.go_on.Goals as goal

pub returns-clause-course : goal.returns-clause-course
returns-clause-course g c =
    let first = run_of c.args.keep.now in
    let keep = c.drive.new.keep in
    let held = g.K.Sink.held c.args.sink.now in
    let held' = g.K.Sink.held c.write_all.new.sink in
    let entries = c.history.ensures.entries ∙ ap (λ (r : Run). r.history) c.core.ensures.run in
    let line = c.deref.ensures.value ∙ c.in-Ok.ensures ∙ ap (λ (h : List Entry). kept_line (length h)) entries in
    inr (with_front first c.args.commands.now (kept_line (length first.history)) held held' (g.K.Sink.held c.drive.new.sink) c.drive.result
    g.D.Disk.tells (g.D.Disk.seen (disk_of keep)) (g.D.Disk.image (disk_of keep) (g.D.Disk.moment (disk_of keep)))
    (subst (λ (text : List ℕ). Appends held held' text) line c.in-Ok-write_all.ensures.all) c.drive.ensures.course)
