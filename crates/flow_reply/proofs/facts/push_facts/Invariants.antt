use Rattle.std.proofs.Common.{◌≡◌, ◌++◌, take}
use Rattle.flow_reply.specs.Facts.{spaced_facts}
use Rattle.flow_reply.proofs.facts.push_facts.Given as goal

abbrev pub invariant-loop-fact : goal.invariant-loop-fact
invariant-loop-fact l = l.text.items ≡ l.initial.text.items ++ spaced_facts l.workflow (take l.fact-index l.facts)
