use Rattle.std.proofs.Common.{◌≡◌, IfOk, ap, ap₂, subst, ◌∙◌}
use Rattle.flow_facts.specs.Atom.{atom}
use Rattle.flow_grammar.specs.Grammar.{prefixed}
use Rattle.flow_grammar.specs.Machine as machine
use Rattle.flow_reader.specs.Goals.{prefix_of, level_of, goal_step}
use Rattle.flow_reader.proofs.Ended.{atom_ended}
use Rattle.flow_reader.proofs.goals.open_args.Goals as goal

pub returns-in-Opening : goal.returns-in-Opening
returns-in-Opening c = rw (c.in-Opening.is, c.new.ensures.items)

pub returns-in_ok-push-in_default : goal.returns-in_ok-push-in_default
returns-in_ok-push-in_default c =
    let said = ap₂ atom c.new-fact.ensures.relation (c.new-fact.ensures.args ∙ c.new-in_default.ensures.items) in
    subst (λ made. IfOk c.join_atom.result (λ step. goal_step c.join_atom.new.stack step ≡ made))
    (atom_ended (prefix_of c.args.deed) c.args.relation _ _ _ c.args.symbol c.in_default.not-Opening
    (c.in_ok-push-in_default.ensures ∙ ap (machine.push (level_of c.args.stack.now.level)) (c.leaf.ensures ∙ ap (prefixed (prefix_of c.args.deed)) said)))
    c.join_atom.ensures
