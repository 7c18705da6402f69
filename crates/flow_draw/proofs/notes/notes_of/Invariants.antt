use Rattle.std.proofs.Common.{◌≡◌, map}
use Rattle.flow_form.specs.RuleForm.{rule_shape_of}
use Rattle.flow_draw.specs.Notes.{note_of}
use Rattle.flow_draw.proofs.notes.notes_of.Given as goal

abbrev pub invariant-loop-rule : goal.invariant-loop-rule
invariant-loop-rule l = l.notes.items ≡ map (λ rule. note_of (rule_shape_of rule)) l.yielded
