-- Why a file tells no run, as what stops the desk.
use Rattle.flow_desk.specs.declared.report.Untold.{Untold}
use Rattle.flow_desk.specs.declared.report.Untold.TheVariants as untold
use Rattle.flow_desk.specs.declared.stop.DeskStop.{DeskStop}
use Rattle.flow_desk.specs.declared.stop.DeskStop.TheVariants.{Line, Label, NoMemory}

abbrev pub untold_stop : Untold → DeskStop
untold_stop (untold.Line line) = Line line
untold_stop (untold.Label line) = Label line
untold_stop untold.NoMemory = NoMemory
