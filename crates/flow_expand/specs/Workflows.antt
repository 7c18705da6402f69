-- The workflow that is written.
use Rattle.std.specs.Prelude.{◌≡◌, map}
use Rattle.flow_goal.specs.Repeats.{HoldsNoneTwice}
use Rattle.flow_workflow.specs.Definition.{Definition}
use Rattle.flow_form.specs.Script.{Said}
use Rattle.flow_form.specs.Names.{event_names}
use Rattle.flow_expand.specs.Expansion.{Expansion}
use Rattle.flow_expand.specs.Numbers.{notes_of, facts_of, held_of, labelled_of}
use Rattle.flow_expand.specs.Constraints.{constraint_of}
use Rattle.flow_expand.specs.Refusals.{IsMeasured}

-- what is written, where its goal becomes that one
abbrev pub definition_of : Said → Expansion → Definition
definition_of s e = record {
  events = event_names s.decls;
  notes = notes_of s.decls;
  facts = facts_of s.decls e;
  held = held_of s.decls;
  tree = labelled_of s.decls e;
  rules = map (constraint_of (event_names s.decls)) s.rules;
}

-- no refusal is true of what is written, and the workflow is that
pub record IsExpanded (s : Said) (w : Definition) : Type 0 where
  pub expansion : Expansion
  pub measured : IsMeasured s expansion
  pub unique : HoldsNoneTwice w.tree
  pub is : w ≡ definition_of s expansion
