use Rattle.std.proofs.Common.{◌≤◌, arith}
use Rattle.flow_svg.proofs.CutLemmas.{all_rows}
use Rattle.flow_svg.proofs.cuts.cuts_of.Goals as goal

pub returns : goal.returns
returns c =
    let past : c.args.end ≤ c.rows.start = omega arith in
    all_rows c.args.spans.now c.args.width c.args.end c.rows.start c.rows.cuts.items c.rows.invariant.0 past c.rows.invariant.1
