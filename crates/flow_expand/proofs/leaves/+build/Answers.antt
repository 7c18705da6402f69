use Rattle.std.proofs.lemmas.Result.{IfOk-weaker}
use Rattle.std.proofs.Common.{ap, arith, ◌∙◌, ◌++◌, ◌∷◌, []}
use Rattle.flow_model.specs.Process.{Isolated}
use Rattle.flow_goal.specs.declared.goal.Goal.{Goal}
use Rattle.flow_goal.specs.Goal.{process_of}
use Rattle.flow_expand.specs.declared.layout.Piece.TheVariants as piece
use Rattle.flow_expand.proofs.LayLemmas.{placed_below}
use Rattle.flow_expand.proofs.LeavesLemmas.{ok_and, piece_at, buildable_first, buildable_second, built_pair_at, buildable_inside, built_inside_at, built_nothing_at, built_event_at, built_fact_at}
use Rattle.flow_expand.proofs.leaves.+build.Goals as goal

pub index-requires : goal.index-requires
index-requires t c = omega (arith, c.args.layout.now.ok.0, placed_below c.args.layout.now.items c.requires.events c.requires.expansion c.args.place c.requires.placed)

pub build-requires : goal.build-requires
build-requires t c =
    let there = piece_at c.args.layout.now.items c.args.place c.args.leaves.now c.index.result.now (piece.Pair c.in-Pair.how c.in-Pair.left c.in-Pair.right) c.requires c.index.ensures c.in-Pair.is in
    let r = buildable_first c.args.layout.now.items c.args.place c.in-Pair.how c.in-Pair.left c.in-Pair.right c.args.leaves.now c.requires there in
    (omega (arith, c.decreases, r.0), r.2)

pub build-requires-in-Pair : goal.build-requires-in-Pair
build-requires-in-Pair t c =
    let there = piece_at c.args.layout.now.items c.args.place c.args.leaves.now c.index.result.now (piece.Pair c.in-Pair.how c.in-Pair.left c.in-Pair.right) c.requires c.index.ensures c.in-Pair.is in
    let r = buildable_first c.args.layout.now.items c.args.place c.in-Pair.how c.in-Pair.left c.in-Pair.right c.args.leaves.now c.requires there in (
      omega (arith, c.decreases, r.1),
      buildable_second c.args.layout.now.items c.args.place c.in-Pair.how c.in-Pair.left c.in-Pair.right c.args.leaves.now c.build.new.leaves (process_of c.in_ok-first-in-Pair.first) c.requires there c.in_ok-first-in-Pair.ensures,
    )

pub build-requires-in-Iso : goal.build-requires-in-Iso
build-requires-in-Iso t c =
    let there = piece_at c.args.layout.now.items c.args.place c.args.leaves.now c.index.result.now (piece.Iso c.in-Iso.part) c.requires c.index.ensures c.in-Iso.is in
    let r = buildable_inside c.args.layout.now.items c.args.place c.in-Iso.part c.args.leaves.now c.requires there in
    (omega (arith, c.decreases, r.0), r.1)

pub returns-in-Nop : goal.returns-in-Nop
returns-in-Nop t c =
    built_nothing_at c.args.layout.now.items c.args.place c.args.leaves.now
    (piece_at c.args.layout.now.items c.args.place c.args.leaves.now c.index.result.now piece.Nop c.requires c.index.ensures c.in-Nop.is)

pub returns-in-Event : goal.returns-in-Event
returns-in-Event t c =
    let there = piece_at c.args.layout.now.items c.args.place c.args.leaves.now c.index.result.now (piece.Event c.in-Event.event) c.requires c.index.ensures c.in-Event.is in
    ok_and c.add.result _ _ _
    (λ made leaf grown. built_event_at c.args.layout.now.items c.args.place c.in-Event.event c.args.leaves.now c.add.new.self (process_of made) there c.add.ensures.facts leaf grown)
    c.add.ensures.leaf c.add.ensures.labels

pub returns-in_ok-number-in-Fact : goal.returns-in_ok-number-in-Fact
returns-in_ok-number-in-Fact t c =
    let there = piece_at c.args.layout.now.items c.args.place c.args.leaves.now c.index.result.now (piece.Fact c.in-Fact.deed c.in-Fact.fact) c.requires c.index.ensures c.in-Fact.is in
    ok_and c.add-in-Fact.result _ _ _
    (λ made leaf grown. built_fact_at c.args.layout.now.items c.args.place c.in-Fact.deed c.in-Fact.fact c.in_ok-number-in-Fact.number c.number_fact.new.facts c.args.leaves.now c.add-in-Fact.new.self (process_of made) there
    c.in_ok-number-in-Fact.ensures.facts c.in_ok-number-in-Fact.ensures.number c.add-in-Fact.ensures.facts leaf
    (grown ∙ ap (λ l. c.args.leaves.now.labels.items ++ l ∷ []) c.label_of.ensures))
    c.add-in-Fact.ensures.leaf c.add-in-Fact.ensures.labels

pub returns-in_ok-second-in-Pair : goal.returns-in_ok-second-in-Pair
returns-in_ok-second-in-Pair t c =
    let there = piece_at c.args.layout.now.items c.args.place c.args.leaves.now c.index.result.now (piece.Pair c.in-Pair.how c.in-Pair.left c.in-Pair.right) c.requires c.index.ensures c.in-Pair.is in
    IfOk-weaker c.together.result _ _
    (λ made same. built_pair_at c.args.layout.now.items c.args.place c.in-Pair.how c.in-Pair.left c.in-Pair.right c.args.leaves.now c.build.new.leaves c.build-in-Pair.new.leaves
    (process_of c.in_ok-first-in-Pair.first) (process_of c.in_ok-second-in-Pair.second) (process_of made) there c.in_ok-first-in-Pair.ensures c.in_ok-second-in-Pair.ensures same)
    c.together.ensures

pub returns-in_ok-new-in-Iso : goal.returns-in_ok-new-in-Iso
returns-in_ok-new-in-Iso t c =
    let there = piece_at c.args.layout.now.items c.args.place c.args.leaves.now c.index.result.now (piece.Iso c.in-Iso.part) c.requires c.index.ensures c.in-Iso.is in
    built_inside_at c.args.layout.now.items c.args.place c.in-Iso.part c.args.leaves.now c.build-in-Iso.new.leaves (process_of c.in_ok-goal-in-Iso.goal) _ there c.in_ok-goal-in-Iso.ensures
    (ap (λ (g : Goal). Isolated (process_of g)) c.in_ok-new-in-Iso.ensures.ok)
