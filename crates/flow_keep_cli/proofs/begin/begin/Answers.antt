use Rattle.flow_keep.specs.Holding.{disk_of}
use Rattle.flow_keep_cli.proofs.Disks.{safe_then, hindered_of}
use Rattle.flow_keep_cli.proofs.begin.begin.Goals as goal

pub returns-in-Ok-open-clause-begun : goal.returns-in-Ok-open-clause-begun
returns-in-Ok-open-clause-begun g c = λ told.
    safe_then g.D.Disk.moment g.D.Disk.image g.D.Disk.synced g.D.Disk.seen c.args.disk c.open.new.self (c.in-Ok.ensures.rests told) (disk_of c.in-Ok-open.keep)
    (c.in-Ok-open.ensures.opened told) (c.in-Ok-open.ensures.opened_syncs told)

pub returns-in-Err-clause-hindered : goal.returns-in-Err-clause-hindered
returns-in-Err-clause-hindered g c =
    hindered_of g.D.Disk.tells g.D.Disk.moment g.D.Disk.image g.D.Disk.synced g.D.Disk.seen g.D.Disk.faults g.D.Disk.chosen g.D.Disk.file_at c.args.call.path.now c.args.prepared.workflow c.args.call.steps c.args.disk c.open.new.self c.in-Err.field-0.disk
    c.in-Err.field-0.why c.in-Ok.ensures.rests c.in-Ok.ensures.cause c.in-Ok.ensures.chooses c.in-Err.ensures.refused_file c.in-Err.ensures.fault c.in-Err.ensures.foreign c.in-Err.ensures.left_alone

pub returns-in-Err-clause-safe : goal.returns-in-Err-clause-safe
returns-in-Err-clause-safe g c = λ told.
    safe_then g.D.Disk.moment g.D.Disk.image g.D.Disk.synced g.D.Disk.seen c.args.disk c.open.new.self (c.in-Ok.ensures.rests told) c.in-Err.field-0.disk
    (c.in-Err.ensures.refused told) (c.in-Err.ensures.refused_syncs told)
