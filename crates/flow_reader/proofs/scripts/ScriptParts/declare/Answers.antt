use Rattle.std.proofs.Common.{map, ap, ◌∙◌}
use Rattle.std.proofs.lemmas.List.{map-append}
use Rattle.flow_form.specs.Script.{declared}
use Rattle.flow_reader.proofs.scripts.ScriptParts.declare.Goals as goal

pub returns : goal.returns
returns c = ap (map declared) c.in_ok-push.ensures.items ∙ map-append declared _ _
