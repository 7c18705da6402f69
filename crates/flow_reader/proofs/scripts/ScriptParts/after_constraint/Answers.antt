use Rattle.std.proofs.Common.{Some, map, ap, ◌∙◌}
use Rattle.std.proofs.lemmas.List.{map-append}
use Rattle.flow_form.specs.RuleForm.{rule_shape_of}
use Rattle.flow_form.specs.Script.{said}
use Rattle.flow_grammar.specs.Machine as machine
use Rattle.flow_reader.specs.Scripts.{declared_so_far}
use Rattle.flow_reader.proofs.scripts.ScriptParts.after_constraint.Goals as goal

pub returns-in-Reading : goal.returns-in-Reading
returns-in-Reading c = rw c.in-Reading.is

pub returns-in_ok-push-in-Whole : goal.returns-in_ok-push-in-Whole
returns-in_ok-push-in-Whole c =
    rw c.in-Whole.is
    (ap (λ rs. Some (machine.constraint_needed (declared_so_far c.args.self.now) (said c.args.self.now.script).goal rs))
    (ap (map rule_shape_of) c.in_ok-push-in-Whole.ensures.items ∙ map-append rule_shape_of _ _))
