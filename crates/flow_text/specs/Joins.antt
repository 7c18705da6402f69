-- The kinds of lists.
use Rattle.std.specs.Prelude.{ℕ, Bool, List, codes}
use Rattle.flow_form.specs.Form.{Shape}
use Rattle.flow_form.specs.RuleForm.{RuleShape}
use Rattle.flow_grammar.specs.Print.{in_serial, in_beside, in_either, in_all, in_any}
use Rattle.flow_model.specs.declared.operators.Operator.{Operator}
use Rattle.flow_model.specs.declared.operators.Operator.TheVariants.{Serial, Beside, Either}
use Rattle.flow_model.specs.declared.operators.Connective.{Connective}
use Rattle.flow_model.specs.declared.operators.Connective.TheVariants.{And, Or}

-- what stands between two members
abbrev pub mark_of : Operator → List ℕ
mark_of Serial = codes " * "
mark_of Beside = codes " | "
mark_of Either = codes " + "

-- whether a member stands in parentheses
abbrev pub parted : Operator → Shape → Bool
parted Serial = in_serial
parted Beside = in_beside
parted Either = in_either

abbrev pub word_of : Connective → List ℕ
word_of And = codes " and "
word_of Or = codes " or "

abbrev pub parted_rule : Connective → RuleShape → Bool
parted_rule And = in_all
parted_rule Or = in_any
