use Rattle.flow_conformance.specs.Shares.{IsShare}
use Rattle.flow_conformance.proofs.verdicts.judge_share.Given as goal

abbrev pub invariant-loop-turn : goal.invariant-loop-turn
invariant-loop-turn g l = IsShare (g.J.Judge.judges l.judge) l.sequences l.share.items
