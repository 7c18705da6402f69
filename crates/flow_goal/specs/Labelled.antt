-- A goal with labels at its leaves.
use Rattle.std.specs.Prelude.{List, length, ◌<◌, ◌^◌}
use Rattle.std.proofs.Common.{refl}
use Rattle.std.specs.Coded.{Coded, code_by, coded×}
use Rattle.flow_model.specs.declared.labels.Label.{Label}
use Rattle.flow_model.specs.Process.{Process, IsNumbered}
use Rattle.flow_model.specs.Stored.{process_code, labels_code}
use Rattle.flow_goal.specs.declared.goal.Goal.{Goal}
use Rattle.flow_goal.specs.Goal.{process_of}

pub record Labelled : Type 0 where
  pub process : Process
  pub labels : List Label

abbrev pub labelled_code : Coded Labelled
labelled_code = code_by (Process × List Label) (coded× process_code labels_code)
    (λ t. (t.process, t.labels)) (λ p. record { process = p.0; labels = p.1 }) (λ _. refl)

abbrev pub labelled : Goal → List Label → Labelled
labelled goal labels = record { process = process_of goal; labels = labels }

-- one label a leaf, the leaves numbered from 0 from the left
pub record IsLabelled (t : Labelled) : Type 0 where
  pub numbered : IsNumbered t.process (length t.labels)
  pub few : length t.labels < 2 ^ 32
