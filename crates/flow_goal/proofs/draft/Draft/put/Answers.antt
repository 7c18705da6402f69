use Rattle.std.proofs.Common.{refl}
use Rattle.flow_goal.proofs.PatternLemmas.{put_laid}
use Rattle.flow_goal.proofs.Writing.{ok_taken}
use Rattle.flow_goal.proofs.draft.Draft.put.Goals as goal

pub returns : goal.returns
returns c = ok_taken c.put.result _ _ c.put.ensures (put_laid c.args.self.now (record { before = c.args.self.now.before; last = c.put.new.self }) _ refl)
