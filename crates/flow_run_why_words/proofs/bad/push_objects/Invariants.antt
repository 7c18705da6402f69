use Rattle.std.proofs.Common.{◌≡◌, ◌++◌, drop}
use Rattle.flow_run_why_words.specs.Bad.{objects_from}
use Rattle.flow_run_why_words.proofs.bad.push_objects.Given as goal

abbrev pub invariant-loop-index : goal.invariant-loop-index
invariant-loop-index l =
    l.writer.text.items ++ objects_from l.workflow l.index (drop l.index l.leaves) ≡ l.initial.writer.text.items ++ objects_from l.workflow 0 l.leaves
