use Rattle.flow_record.proofs.LineLemmas.{first_place}
use Rattle.flow_trail.proofs.pieces.place_of.Goals as goal

pub returns : goal.returns
returns c = first_place c.args.byte c.args.text.now c.memchr.result c.memchr.ensures
