use Rattle.std.proofs.Common.{sym, ◌≤◌, length, arith}
use Rattle.std.proofs.lemmas.List.{length-take-le}
use Rattle.flow_view.proofs.short.shown.Goals as goal

pub slice_bounds-extend_from_slice-length : goal.slice_bounds-extend_from_slice-length
slice_bounds-extend_from_slice-length c = let long : 46 ≤ length c.args.text.now = omega arith in sym (length-take-le 46 c.args.text.now long)
