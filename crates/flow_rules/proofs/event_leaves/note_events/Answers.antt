use Rattle.std.proofs.Common.{◌∙◌, ℕ, List, length, ap, subst, sym}
use Rattle.std.specs.Option.{option_or}
use Rattle.std.proofs.lemmas.List.{take_all}
use Rattle.flow_model.specs.Ways.{leaf_of_event}
use Rattle.flow_rules.specs.EventLeaves.{leaf_in}
use Rattle.flow_rules.specs.Room.{HasRoom}
use Rattle.flow_rules.proofs.LeafLemmas.{noted_more, room_at}
use Rattle.flow_rules.proofs.event_leaves.note_events.Goals as goal

pub note-requires : goal.note-requires
note-requires c =
    room_at c.args.tree.now.labels c.args.leaves.now c.loop-leaf.leaf-index (length c.loop-leaf.events.leaves.items) c.event.result
    c.loop-leaf.invariant.room c.loop-leaf-test.true c.event.ensures

pub loop-leaf-preserved : goal.loop-leaf-preserved
loop-leaf-preserved c = record {
  room = subst (HasRoom c.args.tree.now.labels c.args.leaves.now) (sym c.note.ensures.room) c.loop-leaf.invariant.room;
  noted = λ q.
      noted_more c.args.tree.now.labels c.args.leaves.now c.loop-leaf.leaf-index q c.event.result c.loop-leaf-test.true c.event.ensures
      (leaf_in c.args.events.now q) _ _ (c.loop-leaf.invariant.noted q) (c.note.ensures.noted q);
}

pub returns-clause-noted : goal.returns-clause-noted
returns-clause-noted c = λ event.
    c.loop-leaf.invariant.noted event
    ∙ ap (λ (list : List ℕ). option_or (leaf_in c.args.events.now event) (leaf_of_event c.args.tree.now.labels list event))
    (take_all c.loop-leaf.leaf-index c.args.leaves.now c.loop-leaf-test.false)
