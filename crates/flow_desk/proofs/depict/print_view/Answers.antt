use Rattle.std.proofs.lemmas.Result.{IfOk-weaker}
use Rattle.flow_view.specs.Sketch.{sketch_of}
use Rattle.flow_desk.specs.Desk.{IsPicture}
use Rattle.flow_desk.proofs.depict.print_view.Goals as goal

pub returns : goal.returns
returns c =
    let p = c.in_ok-picture.ensures in
    let is : IsPicture c.args.workflow.now (sketch_of c.args.view.now.scene) c.in_ok-picture.picture =
    record { width = p.width; height = p.height; shapes = p.shapes; arrows = p.arrows; left_out = p.left_out } in
    IfOk-weaker c.print_in-text.result _ _ (λ text same. (c.in_ok-picture.picture, is, same)) c.print_in-text.ensures
