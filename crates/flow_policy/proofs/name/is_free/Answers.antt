use Rattle.flow_policy.proofs.NameLemmas.{not_free}
use Rattle.flow_policy.proofs.name.is_free.Goals as goal

pub returns-in_default : goal.returns-in_default
returns-in_default c = not_free c.args.word.now c.symbol_of.result c.symbol_of.ensures c.in_default.not-Name
