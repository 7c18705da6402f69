use Rattle.std.proofs.Common.{◌≡◌, ◌-◌, ◌^◌, min, drop}
use Rattle.flow_lex.specs.Bytes.{number_value}
use Rattle.flow_lex.proofs.KeptValues.{kept_from}
use Rattle.flow_lex.proofs.digits.kept_value.Given as goal

abbrev pub invariant-loop-digit : goal.invariant-loop-digit
invariant-loop-digit l = min (number_value l.digits) (2 ^ 64 - 1) ≡ kept_from l.value (drop l.digit-index l.digits)
