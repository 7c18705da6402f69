use Rattle.std.proofs.Common.{rules, ◌≡◌, ◌∙◌, ◌++◌, Ok, Some, slice_get, refl, ap}
use Rattle.std.proofs.lemmas.Option.{slice_get_read}
use Rattle.flow_case_seen.proofs.AllLines.{one_line_more}
use Rattle.flow_case_seen.proofs.all.joined.Goals as goal

pub loop-slot-preserved : goal.loop-slot-preserved
loop-slot-preserved g c =
    let there : slice_get c.args.slots.now c.loop-slot.slot-index ≡ Some (Ok c.in-Ok.line) =
    slice_get_read c.args.slots.now _ _ _ refl c.loop-slot-test.true c.slot-item.is ∙ ap Some c.in-Ok.is in
    let told = c.requires.each c.loop-slot.slot-index c.in-Ok.line there in
    let added : c.extend_from_slice.new.self.items ≡ c.loop-slot.text.items ++ c.in-Ok.line.items = search rules in
    one_line_more (g.C.Cases.tells c.args.cases.now) c.loop-slot.slot-index c.loop-slot.text.items c.extend_from_slice.new.self.items c.in-Ok.line.items added told c.loop-slot.invariant
