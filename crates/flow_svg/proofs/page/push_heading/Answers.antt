use Rattle.std.proofs.Common.{rules, ◌≡◌, ◌*◌, length, sym, ap}
use Rattle.flow_svg.proofs.LineLemmas.{none_left}
use Rattle.flow_svg.proofs.page.push_heading.Goals as goal

pub returns-then-is_empty-clause-high : goal.returns-then-is_empty-clause-high
returns-then-is_empty-clause-high c =
    let none : length c.args.title.now ≡ 0 = search rules in
    sym (ap (λ ls. 20 * length ls) (none_left c.args.title.now none))
