use Rattle.std.proofs.Common.{rules, ◌≡◌, ◌<◌, length, take, drop}
use Rattle.flow_svg.proofs.LineLemmas.{one_line, one_down, no_more, no_lower}
use Rattle.flow_svg.proofs.lines.push_lines.Goals as goal

pub lines-preserved : goal.lines-preserved
lines-preserved c =
    let t = c.lines.rest.now in
    let some : 0 < length c.lines.rest.now = search rules in
    let first : c.split_at.result.0.now ≡ take c.line_end.result c.lines.rest.now = search rules in
    let behind : c.split_at.result.1.now ≡ drop c.line_end.result c.lines.rest.now = search rules in (
      one_line _ c.lines.text.items c.push_line.new.text.items t c.split_at.result.0.now c.split_at.result.1.now c.line_end.result c.lines.y c.in_ok-y.y
          some c.line_end.ensures.end first behind c.lines.invariant.0 c.in_ok-push_line.ensures c.in_ok-y.ensures,
      one_down _ t c.split_at.result.1.now c.line_end.result c.lines.y c.in_ok-y.y some c.line_end.ensures.end behind c.lines.invariant.1 c.in_ok-y.ensures,
    )

pub returns-clause-lines : goal.returns-clause-lines
returns-clause-lines c =
    let none : length c.lines.rest.now ≡ 0 = search rules in
    no_more _ c.lines.text.items c.lines.rest.now c.lines.y none c.lines.invariant.0

pub returns-clause-bottom : goal.returns-clause-bottom
returns-clause-bottom c =
    let none : length c.lines.rest.now ≡ 0 = search rules in
    no_lower _ c.lines.rest.now c.lines.y none c.lines.invariant.1
