use Rattle.std.proofs.Common.{◌≡◌, ◌∙◌, List, [], ap, map}
use Rattle.flow_model.specs.Lists.{numbers_from}
use Rattle.flow_form.specs.declared.script.Decl.{Decl}
use Rattle.flow_form.specs.declared.script.Script.{Script}
use Rattle.flow_form.specs.Script.{declared, said}
use Rattle.flow_form.specs.Names.{event_names}
use Rattle.flow_goal.specs.Goal.{process_of}
use Rattle.flow_expand.specs.declared.leaves.Leaves.{Leaves}
use Rattle.flow_expand.specs.Numbers.{firsts, declared_facts}
use Rattle.flow_expand.proofs.Declarations.{distinct_events}
use Rattle.flow_expand.proofs.LeavesLemmas.{IsStart, start_buildable, goal_few, numbered_goal}
use Rattle.flow_expand.proofs.numbered_goal.number.Goals as goal

-- before the goal is built
started : (script : Script) (decls : List Decl) (leaves : Leaves) → leaves.facts ≡ firsts (declared_facts (map declared decls)) → decls ≡ script.decls.items → leaves.labels.items ≡ [] →
    IsStart (said script) leaves
started script decls leaves facts same labels = record { facts = facts ∙ ap (λ ds. firsts (declared_facts (map declared ds))) same; labels = labels }

pub build-requires : goal.build-requires
build-requires c =
    start_buildable (said c.args.script.now) c.requires.prepared.expansion c.args.laid.now.layout.items c.args.laid.now.root.place _ c.requires.closed c.requires.prepared.measured c.requires.prepared.placed
    (started c.args.script.now c.deref.result.now _ c.in_ok-facts.ensures c.deref.ensures.value c.new-labels.ensures.items)

pub tree_of-tree-requires : goal.tree_of-tree-requires
tree_of-tree-requires c =
    let s = said c.args.script.now in
    let old : Leaves = record { facts = c.in_ok-facts.facts; labels = c.new-labels.result } in
    let h = goal_few s c.requires.prepared.expansion old c.build.new.leaves (process_of c.in_ok-goal.goal) c.requires.closed c.requires.prepared.measured
    (started c.args.script.now c.deref.result.now old c.in_ok-facts.ensures c.deref.ensures.value c.new-labels.ensures.items)
    (c.in_ok-goal.ensures (event_names s.decls) c.requires.prepared.expansion (distinct_events s.decls c.requires.closed.named.once) c.requires.prepared.placed) in
    record { numbered = h.0; few = h.1 }

pub returns : goal.returns
returns c =
    let s = said c.args.script.now in
    let old : Leaves = record { facts = c.in_ok-facts.facts; labels = c.new-labels.result } in
    numbered_goal s c.requires.prepared.expansion old c.build.new.leaves (process_of c.in_ok-goal.goal) c.requires.closed c.requires.prepared.measured
    (started c.args.script.now c.deref.result.now old c.in_ok-facts.ensures c.deref.ensures.value c.new-labels.ensures.items)
    (c.in_ok-goal.ensures (event_names s.decls) c.requires.prepared.expansion (distinct_events s.decls c.requires.closed.named.once) c.requires.prepared.placed)
    c.args.laid.now.layout.items c.args.laid.now.root.place (record { facts = c.new-facts.result; held = c.in_ok-held.held; tree = c.tree_of-tree.result }) c.requires.prepared.placed
    c.new-facts.ensures (c.in_ok-held.ensures ∙ ap (numbers_from 0) c.count.ensures) c.tree_of-tree.ensures.process c.tree_of-tree.ensures.labels
