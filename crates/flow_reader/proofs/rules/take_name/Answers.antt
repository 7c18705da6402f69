use Rattle.flow_reader.proofs.rules.take_name.Goals as goal

pub returns-in-Two : goal.returns-in-Two
returns-in-Two c = rw c.in-Two.is
