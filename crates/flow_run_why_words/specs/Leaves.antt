-- Leaves of a run, each with its reason.
use Rattle.std.specs.Prelude.{ℕ, List, [], codes}
use Rattle.flow_why_cli.specs.declared.telling.Form.{Form}
use Rattle.flow_why_cli.specs.declared.telling.Form.TheVariants.{Words, WithCircles, Json}

-- that a run is over: in JSON nothing
abbrev pub over_text : Form → List ℕ
over_text Json = []
over_text Words = codes "the run is over\n"
over_text WithCircles = codes "the run is over\n"
