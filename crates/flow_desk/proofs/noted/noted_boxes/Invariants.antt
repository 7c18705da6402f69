use Rattle.std.proofs.Common.{◌≡◌, ◌++◌, drop}
use Rattle.flow_desk.specs.Noted.{noted_from, noted_texts}
use Rattle.flow_desk.proofs.noted.noted_boxes.Given as goal

abbrev pub invariant-loop-place : goal.invariant-loop-place
invariant-loop-place l = l.shown.items ++ noted_from l.place l.notes (drop l.place l.boxes) ≡ noted_texts l.notes l.boxes
