use Rattle.std.proofs.Common.{sym, ◌∙◌}
use Rattle.flow_stages.proofs.search.Search.look_if_next.Goals as goal

pub returns-then-has-clause-manned : goal.returns-then-has-clause-manned
returns-then-has-clause-manned c = λ to e fits there of. c.look_at_leaf.ensures.manned to e fits of

pub returns-then-has-clause-told : goal.returns-then-has-clause-told
returns-then-has-clause-told c = λ looked may. c.look_at_leaf.ensures.told looked (may (sym c.has.ensures ∙ c.if-has.true))
