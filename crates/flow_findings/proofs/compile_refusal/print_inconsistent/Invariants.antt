use Rattle.std.proofs.Common.{◌≡◌, take}
use Rattle.std.specs.String.{string_bytes}
use Rattle.flow_findings.specs.Refusing.{inconsistent_text}
use Rattle.flow_findings.proofs.compile_refusal.print_inconsistent.Given as goal

abbrev pub invariant-loop-option : goal.invariant-loop-option
invariant-loop-option l = string_bytes l.text ≡ inconsistent_text (take l.option-index l.dropped)
