use Rattle.std.proofs.Common.{refl}
use Rattle.flow_goal.proofs.PatternLemmas.{put_laid}
use Rattle.flow_goal.proofs.Writing.{ok_taken}
use Rattle.flow_goal.proofs.draft.Draft.put_goal.Goals as goal

pub returns : goal.returns
returns c = ok_taken c.put_goal.result _ _ c.put_goal.ensures (put_laid c.args.self.now (record { before = c.args.self.now.before; last = c.put_goal.new.out }) _ refl)
