use Rattle.std.proofs.Common.{take, map}
use Rattle.flow_form.specs.Script.{declared}
use Rattle.flow_text.specs.KnownNames.{KnowsThose}
use Rattle.flow_text.proofs.known.Known.of.Given as goal

abbrev pub invariant-loop-decl : goal.invariant-loop-decl
invariant-loop-decl l = KnowsThose (map declared (take l.decl-index l.decls)) l.known
