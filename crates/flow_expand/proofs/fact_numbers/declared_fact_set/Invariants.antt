use Rattle.std.proofs.Common.{◌≡◌, map, take}
use Rattle.flow_form.specs.Script.{declared}
use Rattle.flow_expand.specs.Numbers.{firsts, declared_facts}
use Rattle.flow_expand.proofs.fact_numbers.declared_fact_set.Given as goal

abbrev pub invariant-loop-decl : goal.invariant-loop-decl
invariant-loop-decl l = l.facts ≡ firsts (declared_facts (map declared (take l.decl-index l.decls)))
