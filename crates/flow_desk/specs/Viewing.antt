-- Why a workflow has no picture, as what stops the desk.
use Rattle.flow_view.specs.declared.refusal.ViewRefusal.{ViewRefusal}
use Rattle.flow_view.specs.declared.refusal.ViewRefusal.TheVariants as view
use Rattle.flow_desk.specs.declared.stop.DeskStop.{DeskStop}
use Rattle.flow_desk.specs.declared.stop.DeskStop.TheVariants.{TooLarge, NoMemory}

abbrev pub view_stop : ViewRefusal → DeskStop
view_stop view.TooLarge = TooLarge
view_stop view.NoMemory = NoMemory
