use Rattle.std.proofs.Common.{◌≡◌, map, take}
use Rattle.flow_form.specs.Script.{declared}
use Rattle.flow_view.specs.Texts.{captions}
use Rattle.flow_view.proofs.labels.captions.Given as goal

abbrev pub invariant-loop-decl : goal.invariant-loop-decl
invariant-loop-decl l = l.captions.items ≡ captions (map declared (take l.decl-index l.decls))
