-- The constraints of a script as text.
use Rattle.std.specs.Prelude.{ℕ, List, ◌++◌, codes}
use Rattle.flow_form.specs.RuleForm.{RuleShape}
use Rattle.flow_text.specs.Printed.{rule_text}

-- as the canonical print of the script has it, without the line feed
unfoldable pub note_of : RuleShape → List ℕ
note_of rule = codes "constraint " ++ rule_text rule ++ codes ";"
