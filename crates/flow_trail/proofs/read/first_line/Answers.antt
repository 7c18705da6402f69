use Rattle.flow_trail.proofs.ReadLemmas.{first_there}
use Rattle.flow_trail.proofs.read.first_line.Goals as goal

pub returns : goal.returns
returns c = first_there (λ p. p.0.now) (λ p. p.1.now) c.args.bytes.now c.cut_at.result c.if-bytes-ne123.false c.cut_at.ensures
