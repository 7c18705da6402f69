use Rattle.std.proofs.Common.{refl, sym, ◌∙◌, true≢false}
use Rattle.leaf_rows.specs.Leaves.{has_leaf}
use Rattle.flow_sample.proofs.OrderLemmas.{not_and}
use Rattle.flow_sample.proofs.item.Item.of_part.Goals as goal

pub unreachable-requires : goal.unreachable-requires
unreachable-requires g c =
    let i = c.requires.some in
    true≢false (sym ((c.all_inside-inside.ensures i.1).1 (i.0, i.2)) ∙ c.in_default.ensures.none i.1)

pub returns : goal.returns
returns g c = record {
  inside = c.all_inside-inside.ensures;
  waits = λ x.
      let both = not_and (has_leaf c.all_inside-inside.result x) (has_leaf c.all_waits-waits.result x) in (
        λ h. let r = both.0 (sym (c.remove_all.ensures x) ∙ h) in
            ((c.all_waits-waits.ensures x).0 r.1, λ k. r.0 ((c.all_inside-inside.ensures x).1 k)),
        λ h. c.remove_all.ensures x ∙ both.1 ((λ k. h.1 ((c.all_inside-inside.ensures x).0 k)), (c.all_waits-waits.ensures x).1 h.0),
      );
  least = c.in-Some.ensures.member;
  none_less = λ k l h. true≢false (sym h ∙ c.in-Some.ensures.least k l);
  runs_so = refl;
}
