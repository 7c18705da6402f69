use Rattle.std.proofs.Common.{◌∙◌, sym, ◌≤◌, ◌<◌, length, arith}
use Rattle.std.proofs.lemmas.Bool.{and_parts}
use Rattle.leaf_rows.specs.Leaves.{has_leaf}
use Rattle.flow_residual.specs.Question.{Has}
use Rattle.flow_residual.proofs.OptionLemmas.{found_at, none_more, none_of_all}
use Rattle.flow_residual.proofs.residual.Residual.first_by_rows.Goals as goal

pub returns-then-has_by_row-clause-some : goal.returns-then-has_by_row-clause-some
returns-then-has_by_row-clause-some g c =
    let r = c.args.self.now in
    let within : c.loop-place.place < length r.options = omega (arith, c.count-place-end.ensures, c.loop-place-test.true) in
    found_at (Has r c.args.claims.now c.args.question.now) r.options c.loop-place.place c.has_by_row.result within c.has_by_row.ensures c.if-has_by_row.true

pub loop-place-preserved : goal.loop-place-preserved
loop-place-preserved g c =
    let r = c.args.self.now in
    none_more (Has r c.args.claims.now c.args.question.now) r.options c.loop-place.place c.has_by_row.result c.loop-place.invariant c.has_by_row.ensures c.if-has_by_row.false

pub returns-clause-none : goal.returns-clause-none
returns-clause-none g c =
    let r = c.args.self.now in
    let past : length r.options ≤ c.loop-place.place = omega (arith, c.count-place-end.ensures, c.loop-place-test.false) in
    none_of_all (Has r c.args.claims.now c.args.question.now) r.options c.loop-place.place past c.loop-place.invariant

pub has_by_row-requires : goal.has_by_row-requires
has_by_row-requires g c =
    let place = c.loop-place.place in
    let within : place < length c.args.self.now.options = omega (arith, c.count-place-end.ensures, c.loop-place-test.true) in (
      omega (arith, c.requires.wide),
      (
        within,
        (
          λ o at. c.requires.rows.each place o c.index-rows-place.result at c.index-rows-place.is,
          (
            c.requires.asked,
            λ o yes. let (live, ready) = c.requires.wanted o yes in
                (live, λ n there. ready n (and_parts _ (has_leaf c.args.wanted.now n) (sym (c.resized-mine.ensures n) ∙ there)).1),
          ),
        ),
      ),
    )
