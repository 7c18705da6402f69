-- What the code looks at beside a goal, without pointers.
use Rattle.std.specs.Prelude.{map}
use Rattle.flow_form.specs.Form.{shape_of}
use Rattle.flow_view.specs.declared.follow.Follow.{Follow}
use Rattle.flow_view.specs.declared.follow.Follow.TheVariants.{Lost, Whole, First}
use Rattle.flow_view.specs.Drawn.{Written, lost, whole, first}

abbrev pub written_of : Follow → Written
written_of Lost = lost
written_of (Whole f) = whole (shape_of f.now)
written_of (First op fs) = first op (map shape_of fs.now)
