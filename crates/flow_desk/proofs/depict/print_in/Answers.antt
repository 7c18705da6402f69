use Rattle.std.proofs.Common.{◌≡◌, List, sym, subst}
use Rattle.std.specs.Prelude.{IfOk}
use Rattle.flow_view.specs.declared.arrow.Arrow.{Arrow}
use Rattle.flow_view.specs.Sketch.{sketch_of}
use Rattle.flow_draw.specs.declared.format.Format.{Format}
use Rattle.flow_draw.specs.declared.format.Format.TheVariants.{Mermaid}
use Rattle.flow_chart.specs.Chart.{chart_text}
use Rattle.flow_desk.specs.Desk.{IsTextIn}
use Rattle.flow_desk.proofs.depict.print_in.Goals as goal
