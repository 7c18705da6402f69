-- A goal of a workflow with its leaves and facts numbered.
use Rattle.std.specs.Prelude.{◌≡◌, length}
use Rattle.flow_model.specs.Lists.{Each}
use Rattle.flow_workflow.specs.Numbers.{IsKnown}
use Rattle.flow_form.specs.Script.{Said}
use Rattle.flow_form.specs.Names.{event_names}
use Rattle.flow_expand.specs.declared.numbered_goal.NumberedGoal.{NumberedGoal}
use Rattle.flow_expand.specs.Expansion.{Expansion}
use Rattle.flow_expand.specs.Numbers.{facts_of, held_of, labelled_of}
use Rattle.flow_expand.specs.Refusals.{IsMeasured}

-- the tree and the facts are those of what is written, and each label has an event or a fact
pub record IsNumberedGoal (s : Said) (n : NumberedGoal) : Type 0 where
  pub expansion : Expansion
  pub measured : IsMeasured s expansion
  pub facts : n.facts ≡ facts_of s.decls expansion
  pub held : n.held.items ≡ held_of s.decls
  pub tree : n.tree ≡ labelled_of s.decls expansion
  pub known : Each (IsKnown (length (event_names s.decls)) (length n.facts)) n.tree.labels
