use Rattle.flow_keep.proofs.OpenLemmas.{none_read}
use Rattle.flow_keep.proofs.close.needs_gate.Goals as goal

pub returns-then-got-eq0-clause-needs : goal.returns-then-got-eq0-clause-needs
returns-then-got-eq0-clause-needs g c = λ told yes.
    none_read (g.D.Disk.seen c.args.disk.now) c.args.count (c.requires.place told) c.in-Ok.got c.read_full.new.buf c.read_full.auto.buf (c.in-Ok.ensures.all told) c.if-got-eq0.true
