use Rattle.std.proofs.Common.{◌++◌, ◌∷◌, [], sym, ap, ◌∙◌, arith, length-append}
use Rattle.flow_policy.specs.declared.event_table.EventTable.{EventTable}
use Rattle.flow_policy.proofs.EventLemmas.{table_same, table_more}
use Rattle.flow_policy.proofs.event_table.EventTable.add.Goals as goal
use Rattle.flow_policy.proofs.event_table.EventTable.add.Goals.{then-number-len+in_ok-push, else-number-len}

pub returns : goal.returns
returns c = λ events h. elim c.if-number-len.branch [
  | then-number-len+in_ok-push w ↦ (
      let (names, places) = table_more events c.args.self.now.names c.add.new.self c.args.self.now.places.items c.args.name.now c.in_ok-number.number h.names h.places
      c.in_ok-number.ensures.keys c.in_ok-number.ensures.number (w.if-number-len.true ∙ c.len.ensures ∙ c.args.self.now.places.ok.0) in
      record {
        names = ap (λ (s : EventTable). s.names) w.self-is ∙ names;
        places = ap (λ (s : EventTable). s.places.items) w.self-is ∙ w.in_ok-push.ensures.items ∙ ap (λ k. c.args.self.now.places.items ++ k ∷ []) h.count ∙ places;
        count = omega (arith, c.in_ok-self.ensures, ap (λ (s : EventTable). s.count) w.self-is, h.count, length-append events (c.args.name.now ∷ []));
      })
  | else-number-len w ↦ (
      let (names, places) = table_same events c.args.self.now.names c.add.new.self c.args.self.now.places.items c.args.name.now c.in_ok-number.number h.names h.places
      c.in_ok-number.ensures.keys c.in_ok-number.ensures.distinct c.in_ok-number.ensures.number (λ e. w.if-number-len.false (e ∙ sym c.args.self.now.places.ok.0 ∙ sym c.len.ensures)) in
      record {
        names = ap (λ (s : EventTable). s.names) w.self-is ∙ names;
        places = ap (λ (s : EventTable). s.places.items) w.self-is ∙ places;
        count = omega (arith, c.in_ok-self.ensures, ap (λ (s : EventTable). s.count) w.self-is, h.count, length-append events (c.args.name.now ∷ []));
      })
]
