use Rattle.std.proofs.Common.{◌≡◌, ℕ, List, map, take, Bor}
use Rattle.std.specs.List.{flat_map}
use Rattle.flow_form.specs.declared.form.Form.{Form}
use Rattle.flow_form.specs.Form.{shape_of}
use Rattle.flow_form.specs.Script.{declared}
use Rattle.flow_form.specs.Names.{flow_goal}
use Rattle.flow_view.specs.Texts.{flow_names}
use Rattle.flow_view.proofs.flows.Flows.declared.Given as goal

abbrev pub invariant-loop-decl : goal.invariant-loop-decl
invariant-loop-decl l = record {
  names : map (λ (name : Bor (List ℕ)). name.now) l.names.items ≡ flow_names (map declared (take l.decl-index l.decls));
  goals : map (λ (f : Bor Form). shape_of f.now) l.goals.items ≡ flat_map flow_goal (map declared (take l.decl-index l.decls));
}
