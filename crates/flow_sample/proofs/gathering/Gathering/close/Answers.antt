use Rattle.std.proofs.Common.{rules, ap, subst, sym, ◌∙◌, [], ◌∷◌, ◌++◌, Vec, Global}
use Rattle.flow_sample.specs.declared.gathering.Gathering.{Gathering}
use Rattle.flow_sample.specs.declared.item.Item.{Item}
use Rattle.flow_sample.specs.Rows.{AreApart, HasSome}
use Rattle.flow_sample.proofs.GatheringLemmas.{part_read, none_read, none_missed, is_empty, not_empty, inner_apart}
use Rattle.flow_sample.proofs.gathering.Gathering.close.Goals as goal
use Rattle.flow_sample.proofs.gathering.Gathering.close.Goals.{in-Some, then-not-is_empty+in_ok-add_part, else-not-is_empty, in_default}

pub returns : goal.returns
returns g c = elim c.match-pop.branch [
  | in-Some w ↦
      let on = w.in-Some.ensures.items ∙ ap (λ (seen : Gathering g.row.W). seen.outer.items ++ w.in-Some.before ∷ []) (sym w.self-is) in
      let same = ap (λ (seen : Gathering g.row.W). seen.place) w.self-is in
      let left = ap (λ (seen : Gathering g.row.W). seen.items.items) w.self-is in
      elim w.if-not-is_empty.branch [
        | then-not-is_empty+in_ok-add_part v ↦
            part_read c.args.plan.now w.in-Some.before c.args.self.now c.match-pop.self on same v.deref.result.now v.add_part.new.items.items v.deref.ensures.value
            (left ∙ ap (λ (l : Vec (Item g.row.W) Global). l.items) v.before-is) v.in_ok-add_part.ensures
        | else-not-is_empty v ↦
            none_read c.args.plan.now w.in-Some.before c.args.self.now c.match-pop.self on same
            (is_empty c.args.self.now.items.items c.args.self.now.items.len c.args.self.now.items.ok.0 (sym w.is_empty.ensures ∙ v.if-not-is_empty.false))
            (left ∙ ap (λ (l : Vec (Item g.row.W) Global). l.items) v.before-is)
      ]
  | in_default w ↦ none_missed c.args.plan.now c.args.self.now c.match-pop.self (search rules)
]

pub add_part-requires : goal.add_part-requires
add_part-requires g c =
    let inner = inner_apart c.args.plan.now c.in-Some.before c.args.self.now c.pop.new.self c.in-Some.ensures.items c.requires.gathers in
    let wide = c.requires.wide in (
      search rules,
      (
        wide,
        (
          subst AreApart (sym c.deref.ensures.value) inner.0,
          subst HasSome (sym c.deref.ensures.value) (inner.1
              (not_empty c.args.self.now.items.items c.args.self.now.items.len c.args.self.now.items.ok.0 (sym c.is_empty.ensures ∙ c.if-not-is_empty.true))),
        ),
      ),
    )
