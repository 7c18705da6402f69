use Rattle.flow_goal.proofs.PatternLemmas.{resolution_written}
use Rattle.flow_goal.proofs.choices.written.Goals as goal

pub returns : goal.returns
returns c = λ apart g are. resolution_written apart g _ c.args.number c.in_ok-out.out c.write.new.out are c.in_ok-out.ensures c.in_ok-write.ensures
