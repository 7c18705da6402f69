use Rattle.flow_trail.proofs.MomentLemmas.{goes_on_same}
use Rattle.flow_trail.proofs.CloseLemmas.{clear_of, after_write}
use Rattle.flow_trail.proofs.open.close_end.Goals as goal

pub returns-in_default-clause-any_moment : goal.returns-in_default-clause-any_moment
returns-in_default-clause-any_moment g c = λ told.
    let clear = clear_of c.args.place c.args.bytes.now c.has_gate.result c.has_gate.ensures c.if-has_gate.false c.requires.lines in
    after_write g.D.Disk.moment g.D.Disk.image g.D.Disk.seen c.args.disk.now c.args.place c.args.bytes.now (c.requires.seen told) c.requires.near c.requires.lines (c.requires.durable told)
    c.write_at.new.self clear (c.in_default.ensures.crash told)

pub returns-in_default-sync-clause-any_moment : goal.returns-in_default-sync-clause-any_moment
returns-in_default-sync-clause-any_moment g c = λ told.
    let clear = clear_of c.args.place c.args.bytes.now c.has_gate.result c.has_gate.ensures c.if-has_gate.false c.requires.lines in
    let one = after_write g.D.Disk.moment g.D.Disk.image g.D.Disk.seen c.args.disk.now c.args.place c.args.bytes.now (c.requires.seen told) c.requires.near c.requires.lines (c.requires.durable told)
    c.write_at.new.self clear (c.in-Ok.ensures.crash told) in
    goes_on_same g.D.Disk.moment g.D.Disk.image c.args.disk.now c.write_at.new.self c.sync.new.self _ one (c.in_default-sync.ensures.crash told)

pub returns-clause-any_moment : goal.returns-clause-any_moment
returns-clause-any_moment g c = λ told.
    let clear = clear_of c.args.place c.args.bytes.now c.has_gate.result c.has_gate.ensures c.if-has_gate.false c.requires.lines in
    let one = after_write g.D.Disk.moment g.D.Disk.image g.D.Disk.seen c.args.disk.now c.args.place c.args.bytes.now (c.requires.seen told) c.requires.near c.requires.lines (c.requires.durable told)
    c.write_at.new.self clear (c.in-Ok.ensures.crash told) in
    goes_on_same g.D.Disk.moment g.D.Disk.image c.args.disk.now c.write_at.new.self c.sync.new.self _ one (c.in-Ok-sync.ensures.crash told)
