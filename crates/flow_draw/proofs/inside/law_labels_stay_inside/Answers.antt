use Rattle.flow_draw.proofs.InsideLemmas.{svg_inside, mermaid_inside, dot_inside, quoted_inside, quoted_one_line}
use Rattle.flow_draw.proofs.inside.law_labels_stay_inside.Goals as goal

pub returns-clause-svg : goal.returns-clause-svg
returns-clause-svg c = svg_inside

pub returns-clause-mermaid : goal.returns-clause-mermaid
returns-clause-mermaid c = mermaid_inside

pub returns-clause-dot : goal.returns-clause-dot
returns-clause-dot c = dot_inside

pub returns-clause-quoted : goal.returns-clause-quoted
returns-clause-quoted c = quoted_inside

pub returns-clause-one_line : goal.returns-clause-one_line
returns-clause-one_line c = quoted_one_line
