use Rattle.std.proofs.Common.{◌≡◌, ℕ, Option, false, take}
use Rattle.flow_model.specs.Ways.{is_free}
use Rattle.flow_model.specs.declared.operators.Connective.TheVariants.{And, Or}
use Rattle.flow_rules.specs.WayCount.{Tells, count_of}
use Rattle.flow_rules.specs.WayLists.{ways_of_parts}
use Rattle.flow_rules.proofs.way_count.+counting.Given as goal

abbrev pub invariant-count_all-loop-part : goal.invariant-count_all-loop-part
invariant-count_all-loop-part g l = (leaf : ℕ → Option ℕ) → Tells (g.E.Presence.present l.events) leaf →
    l.count ≡ count_of (ways_of_parts And leaf (take l.part-index l.parts))

abbrev pub invariant-count_any-loop-part : goal.invariant-count_any-loop-part
invariant-count_any-loop-part g l = (leaf : ℕ → Option ℕ) → Tells (g.E.Presence.present l.events) leaf →
    (l.count ≡ count_of (ways_of_parts Or leaf (take l.part-index l.parts)))
    × (is_free (ways_of_parts Or leaf (take l.part-index l.parts)) ≡ false)
