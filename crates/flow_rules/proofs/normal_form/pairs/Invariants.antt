use Rattle.std.proofs.Common.{◌≡◌, ◌++◌, drop, map}
use Rattle.flow_rules.specs.NormalForm.{form_of, order_form}
use Rattle.flow_rules.specs.Normal.{normals_of, linked, pair_form}
use Rattle.flow_rules.proofs.normal_form.pairs.Given as goal

abbrev pub invariant-loop-event : goal.invariant-loop-event
invariant-loop-event l =
    (map form_of l.pairs.items ++ linked (order_form l.wanted) l.earlier (drop l.event-index l.rest) ≡ linked (order_form l.wanted) l.first l.rest) ×
    (normals_of l.pairs.items ++ linked (pair_form l.wanted) l.earlier (drop l.event-index l.rest)
    ≡ linked (pair_form l.wanted) l.first l.rest)
