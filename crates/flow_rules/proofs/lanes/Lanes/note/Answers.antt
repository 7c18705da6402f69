use Rattle.std.proofs.Common.{◌==◌, ◌&&◌, ◌||◌, ◌∙◌, ℕ, Bool, List, length, take, ap, refl, subst, sym}
use Rattle.std.specs.Prelude.{is_some}
use Rattle.std.specs.Int.{bit_at}
use Rattle.std.proofs.lemmas.Bool.{eq-eqb}
use Rattle.std.proofs.lemmas.List.{take_all}
use Rattle.flow_model.specs.Ways.{leaf_of_event}
use Rattle.flow_rules.specs.Lanes.{has_event}
use Rattle.flow_rules.specs.Room.{HasRoom}
use Rattle.flow_rules.proofs.LeafLemmas.{marked_all, marked_more, none_marked, room_at, room_kept}
use Rattle.flow_rules.proofs.lanes.Lanes.note.Goals as goal

pub mark-requires-clause-room : goal.mark-requires-clause-room
mark-requires-clause-room c =
    room_at c.args.tree.now.labels c.args.leaves.now c.loop-leaf.leaf-index (length c.loop-leaf.self.words.items) c.event.result
    c.loop-leaf.invariant.room c.loop-leaf-test.true c.event.ensures

pub loop-leaf-preserved : goal.loop-leaf-preserved
loop-leaf-preserved c = record {
  room = subst (HasRoom c.args.tree.now.labels c.args.leaves.now) (sym c.mark.ensures.room) c.loop-leaf.invariant.room;
  noted = λ other q.
      marked_more c.args.tree.now.labels c.args.leaves.now c.loop-leaf.leaf-index q c.event.result c.loop-leaf-test.true c.event.ensures
      (other == c.args.lane) (has_event c.args.self.now other q) _ _ (c.loop-leaf.invariant.noted other q) (c.mark.ensures.marked other q);
}

pub returns-clause-shown : goal.returns-clause-shown
returns-clause-shown c = λ event.
    let lane = c.args.lane in
    let labels = c.args.tree.now.labels in
    let old = has_event c.args.self.now lane event in
    marked_all (lane == lane) old _ (leaf_of_event labels c.args.leaves.now event)
    (c.loop-leaf.invariant.noted lane event
    ∙ ap (λ (list : List ℕ). lane == lane && is_some (leaf_of_event labels list event) || old) (take_all c.loop-leaf.leaf-index c.args.leaves.now c.loop-leaf-test.false))
    (eq-eqb lane lane refl) (c.requires.blank event)

pub returns-clause-others : goal.returns-clause-others
returns-clause-others c = λ other event apart.
    c.loop-leaf.invariant.noted other event
    ∙ ap (λ (b : Bool). b && is_some (leaf_of_event c.args.tree.now.labels (take c.loop-leaf.leaf-index c.args.leaves.now) event) || has_event c.args.self.now other event) apart

pub loop-leaf-init : goal.loop-leaf-init
loop-leaf-init c = record {
  room = room_kept c.args.tree.now.labels c.args.leaves.now c.room_for.result (length c.make_room.new.table.items) c.room_for.ensures c.in_ok-make_room.ensures.room;
  noted = λ other event.
      ap (λ word. bit_at word other == 1) (c.in_ok-make_room.ensures.same event) ∙ none_marked (other == c.args.lane) (has_event c.args.self.now other event);
}
