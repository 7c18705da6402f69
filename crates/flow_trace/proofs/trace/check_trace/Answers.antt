use Rattle.std.proofs.Common.{List, sym, subst, arith}
use Rattle.flow_model.specs.Folding.{folded_options}
use Rattle.flow_workflow.specs.Definition.{schema_of}
use Rattle.flow_plan.specs.Sampled.{Sampled}
use Rattle.flow_plan.specs.Options.{HasExecution, AreJustThose, options_of}
use Rattle.flow_trace.specs.declared.checked.Checked.TheVariants.{Execution, Prefix, Bad}
use Rattle.flow_trace.proofs.TraceLemmas.{tells_once, reached_few, told_bad, told_execution, told_prefix}
use Rattle.flow_trace.proofs.trace.check_trace.Goals as goal

pub overflow_cast-result : goal.overflow_cast-result
overflow_cast-result c =
    let are = subst (λ (ps : List Sampled). AreJustThose HasExecution (folded_options (schema_of c.args.workflow.now)) (options_of ps)) (sym c.plans.ensures.plans) c.requires.plans in
    let few = reached_few c.args.workflow.now c.tree-tree.ensures.well_formed c.requires.consistent _ are c.args.leaves.now c.in_ok-held.held c.in_ok-held.ensures c.in_ok-longest.longest c.in_ok-longest.ensures.reaching in
    record { fits = omega (arith, few, c.tree-tree.ensures.small) }

pub returns-then-longest-leaves-clause-told : goal.returns-then-longest-leaves-clause-told
returns-then-longest-leaves-clause-told c =
    let are = subst (λ (ps : List Sampled). AreJustThose HasExecution (folded_options (schema_of c.args.workflow.now)) (options_of ps)) (sym c.plans.ensures.plans) c.requires.plans in
    told_bad c.args.workflow.now c.tree-tree.ensures.well_formed c.requires.consistent _ are c.args.leaves.now c.in_ok-held.held c.in_ok-held.ensures c.in_ok-longest.longest c.in_ok-longest.ensures.reaching c.if-longest-leaves.true

pub returns-then-longest-leaves-clause-only : goal.returns-then-longest-leaves-clause-only
returns-then-longest-leaves-clause-only c other tells =
    tells_once (schema_of c.args.workflow.now) c.args.leaves.now (Bad c.in_ok-longest.longest) other (returns-then-longest-leaves-clause-told c) tells

pub returns-then-is_whole-clause-told : goal.returns-then-is_whole-clause-told
returns-then-is_whole-clause-told c =
    let are = subst (λ (ps : List Sampled). AreJustThose HasExecution (folded_options (schema_of c.args.workflow.now)) (options_of ps)) (sym c.plans.ensures.plans) c.requires.plans in
    told_execution c.args.workflow.now c.tree-tree.ensures.well_formed c.requires.consistent _ are c.args.leaves.now c.in_ok-held.held c.in_ok-held.ensures c.in_ok-longest.longest c.in_ok-longest.ensures.reaching
    c.if-longest-leaves.false c.in_ok-longest.is_whole c.in_ok-longest.ensures.whole c.if-is_whole.true

pub returns-then-is_whole-clause-only : goal.returns-then-is_whole-clause-only
returns-then-is_whole-clause-only c other tells =
    tells_once (schema_of c.args.workflow.now) c.args.leaves.now Execution other (returns-then-is_whole-clause-told c) tells

pub returns-else-is_whole-clause-told : goal.returns-else-is_whole-clause-told
returns-else-is_whole-clause-told c =
    let are = subst (λ (ps : List Sampled). AreJustThose HasExecution (folded_options (schema_of c.args.workflow.now)) (options_of ps)) (sym c.plans.ensures.plans) c.requires.plans in
    told_prefix c.args.workflow.now c.tree-tree.ensures.well_formed c.requires.consistent _ are c.args.leaves.now c.in_ok-held.held c.in_ok-held.ensures c.in_ok-longest.longest c.in_ok-longest.ensures.reaching
    c.if-longest-leaves.false c.in_ok-longest.is_whole c.in_ok-longest.ensures.whole c.if-is_whole.false

pub returns-else-is_whole-clause-only : goal.returns-else-is_whole-clause-only
returns-else-is_whole-clause-only c other tells =
    tells_once (schema_of c.args.workflow.now) c.args.leaves.now Prefix other (returns-else-is_whole-clause-told c) tells
