use Rattle.std.proofs.Common.{sym, ◌∙◌}
use Rattle.flow_stages.proofs.search.Search.follow_if_next.Goals as goal

pub follow-requires-clause-next : goal.follow-requires-clause-next
follow-requires-clause-next c = λ node at. c.requires.next node at (sym c.has.ensures ∙ c.if-has.true)
