use Rattle.std.proofs.Common.{map}
use Rattle.flow_trail.specs.Lines.{said_of}
use Rattle.flow_trail.proofs.TellLemmas.{held_says}
use Rattle.flow_trail.proofs.trail.Trail.lines.Goals as goal

pub returns-clause-acknowledged : goal.returns-clause-acknowledged
returns-clause-acknowledged g c = λ told whole file i.
    let t = c.args.self.now in held_says t.start (map said_of t.lines.items) t.place (g.D.Disk.seen t.disk) (g.D.Disk.image t.disk (g.D.Disk.moment t.disk)) t.in_order (t.held told whole) file i
