use Rattle.std.proofs.Common.{ℕ, List, subst, ◌∙◌}
use Rattle.std.specs.Prelude.{IfOk}
use Rattle.flow_view.specs.Sketch.{sketch_of}
use Rattle.flow_desk.specs.Desk.{IsPrinted}
use Rattle.flow_desk.proofs.depict.print_all.Goals as goal

pub returns : goal.returns
returns c =
    subst (λ (notes : List (List ℕ)). IfOk c.print_view-text.result (λ text.
    IsPrinted c.args.sheet.now (sketch_of c.args.view.now.scene) c.args.view.now.labels c.args.workflow.now c.args.marks.now notes text.items))
    (c.deref.ensures.value ∙ c.in_ok-texts.ensures) c.print_view-text.ensures
