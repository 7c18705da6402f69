use Rattle.std.proofs.Common.{ap, ◌∙◌, map}
use Rattle.std.proofs.lemmas.List.{take_all}
use Rattle.flow_form.specs.Script.{declared}
use Rattle.flow_expand.specs.Numbers.{firsts, declared_facts}
use Rattle.flow_expand.proofs.fact_numbers.declared_fact_set.Goals as goal

pub returns : goal.returns
returns c = c.loop-decl.invariant ∙ ap (λ decls. firsts (declared_facts (map declared decls))) (take_all c.loop-decl.decl-index c.args.decls.now c.loop-decl-test.false)
