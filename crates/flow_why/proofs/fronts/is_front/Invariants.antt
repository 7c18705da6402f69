use Rattle.std.proofs.Common.{◌≡◌, take, []}
use Rattle.flow_model.specs.Schema.{Schema}
use Rattle.flow_laws.specs.WellFormed.{IsWellFormed}
use Rattle.flow_plan.specs.Options.{options_of}
use Rattle.flow_plan.specs.Compilation.{IsCompiled}
use Rattle.flow_why.specs.Fronts.{IsFront}
use Rattle.flow_why.proofs.fronts.is_front.Given as goal

abbrev pub invariant-loop-leaf : goal.invariant-loop-leaf
invariant-loop-leaf l = record {
  options : l.residual.options ≡ options_of l.fn.compiled.plans;
  journal : l.residual.journal ≡ take l.leaf-index l.leaves;
  bans : l.residual.bans ≡ [];
  front : (w : Schema) → IsWellFormed w → IsCompiled w l.fn.compiled → IsFront w (take l.leaf-index l.leaves);
}
