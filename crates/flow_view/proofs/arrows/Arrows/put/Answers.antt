use Rattle.std.proofs.Common.{◌<◌, ◌≤◌, length, refl, true, arith}
use Rattle.flow_view.specs.declared.size.TheConstants.{MOST_ARROWS}
use Rattle.flow_view.proofs.ToldLemmas.{one_kept, one_left_out}
use Rattle.flow_view.proofs.arrows.Arrows.put.Goals as goal

pub returns-in_ok-push : goal.returns-in_ok-push
returns-in_ok-push c =
    let room : length c.args.self.now.list.items < MOST_ARROWS = omega arith in
    one_kept c.args.self.now (record c.args.self.now { list = c.push.new.self }) c.args.arrow room c.in_ok-push.ensures.items refl

pub returns-else-len-lt-MOST_ARROWS : goal.returns-else-len-lt-MOST_ARROWS
returns-else-len-lt-MOST_ARROWS c =
    let full : MOST_ARROWS ≤ length c.args.self.now.list.items = omega arith in
    one_left_out c.args.self.now (record c.args.self.now { left_out = true }) c.args.arrow full refl refl
