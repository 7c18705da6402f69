use Rattle.flow_audit.specs.Shares.{IsShare}
use Rattle.flow_audit.proofs.audits.check_share.Given as goal

abbrev pub invariant-loop-turn : goal.invariant-loop-turn
invariant-loop-turn g l = IsShare (g.C.Checker.finds l.checker) l.text l.cuts l.share.items
