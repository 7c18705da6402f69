use Rattle.std.proofs.Common.{◌<◌, arith, length}
use Rattle.std.proofs.lemmas.Option.{slice_get_within, get_or_from_slice_get}
use Rattle.flow_workflow.proofs.Places.{place_of}
use Rattle.flow_expand.proofs.chain.place_of.Goals as goal

pub unreachable-requires : goal.unreachable-requires
unreachable-requires c =
    let (i, at) = place_of c.args.path.now c.args.number c.requires in
    let within : i < length c.args.path.now = slice_get_within c.args.path.now i c.args.number at in
    c.loop-place.invariant i (omega (arith, within)) (get_or_from_slice_get c.args.path.now i c.args.number 0 at)
