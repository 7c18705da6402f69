use Rattle.flow_model.specs.declared.history.Entry.{Entry}
use Rattle.flow_model.specs.declared.history.Step.TheVariants.{Took}
use Rattle.flow_move.proofs.MoveLemmas.{moved_at}
use Rattle.flow_move.proofs.again.make_each.Goals as goal

pub loop-place-preserved : goal.loop-place-preserved
loop-place-preserved c =
    let (made, moved, is) = c.loop-place.invariant in
    let (new, moves, now) = c.in_default.ensures.ok in
    let none : Entry = record { by = 0; step = Took 0 0 } in
    moved_at c.args.names.now c.args.run.now c.loop-place.run c.move_entry.new.run c.args.history.now made c.loop-place.place none c.loop-place-test.true
    moved is (record { new = new; moves = moves; is = now })
