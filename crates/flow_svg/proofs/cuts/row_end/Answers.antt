use Rattle.std.proofs.Common.{◌<◌, ◌≤◌, ◌+◌, arith}
use Rattle.flow_svg.proofs.CutLemmas.{near_end}
use Rattle.flow_svg.proofs.cuts.row_end.Goals as goal

pub returns-else-cut-start-clause-cut : goal.returns-else-cut-start-clause-cut
returns-else-cut-start-clause-cut c =
    let room : c.args.start + c.args.width < c.args.end = omega arith in
    let back : c.last_clear-cut.result ≤ c.args.start = omega arith in
    near_end c.args.spans.now c.args.width c.args.end c.args.start c.last_clear-cut.result c.first_clear.result room c.last_clear-cut.ensures.from back
    c.last_clear-cut.ensures.last c.first_clear.ensures.from c.first_clear.ensures.within c.first_clear.ensures.clear c.first_clear.ensures.first
