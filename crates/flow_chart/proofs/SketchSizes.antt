-- How many parts of a picture hold others.
use Rattle.std.proofs.Common.{ℕ, ◌+◌}
use Rattle.flow_view.specs.Sketch.{Sketch, gap, box, row, forked, framed}

abbrev pub sketch_size : Sketch → ℕ
sketch_size gap = 0
sketch_size (box n letters) = 0
sketch_size (row a b) = sketch_size a + sketch_size b + 1
sketch_size (forked f a b) = sketch_size a + sketch_size b + 1
sketch_size (framed f a) = sketch_size a + 1
