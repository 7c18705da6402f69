use Rattle.std.proofs.Common.{not, sym, ◌∙◌}
use Rattle.std.proofs.lemmas.Bool.{and_parts}
use Rattle.leaf_rows.specs.Leaves.{has_leaf}
use Rattle.flow_residual.proofs.QuestionLemmas.{not_both}
use Rattle.flow_residual.proofs.SetLemmas.{in_both}
use Rattle.flow_residual.proofs.TellingLemmas.{free_begins}
use Rattle.flow_residual.proofs.residual.Residual.candidates.Goals as goal

pub returns : goal.returns
returns c = λ o n at live has.
    let sides = c.sides.result.now in
    let last = and_parts (not (has_leaf c.args.claims.now n)) (has_leaf c.less-free.result n) (sym (c.less.ensures n) ∙ has) in
    let free = and_parts (not (has_leaf sides.barred n)) (has_leaf c.less-next.result n) (sym (c.less-free.ensures n) ∙ last.1) in
    let next = in_both (has_leaf c.next_row.result n) (has_leaf c.args.others.now n) (has_leaf c.less-not_next.result n) (has_leaf c.less-next.result n)
    (c.less-not_next.ensures n) (c.less-next.ensures n) free.1 in
    record {
      ready = (c.next_row.ensures o at live.journal_ready n).0 next;
      begins = free_begins c.args.self.now sides c.sides.ensures.tell c.sides.ensures.ordered n (λ bars. not_both (has_leaf sides.barred n) bars free.0);
      new = λ claimed. not_both (has_leaf c.args.claims.now n) claimed last.0;
    }
