use Rattle.std.proofs.Common.{◌≡◌, map, take}
use Rattle.flow_run_why_words.specs.Reasons.{claim_number}
use Rattle.flow_run_why_words.proofs.reason_json.claim_numbers.Given as goal

abbrev pub invariant-loop-out : goal.invariant-loop-out
invariant-loop-out l = l.numbers.items ≡ map claim_number (take l.out-index l.claims)
