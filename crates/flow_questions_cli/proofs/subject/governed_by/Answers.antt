use Rattle.flow_questions_cli.proofs.SubjectLemmas.{roles_held}
use Rattle.flow_questions_cli.proofs.subject.governed_by.Goals as goal

pub returns-in-Ok-clause-below : goal.returns-in-Ok-clause-below
returns-in-Ok-clause-below c = roles_held _ _ _ _ _ _ _ c.in-Ok.ensures.ok c.governed.ensures.desk c.governed.ensures.users
