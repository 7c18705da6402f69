use Rattle.std.proofs.Common.{rules, ◌≡◌, [], ◌∷◌, sym, refl, ap, ◌∙◌, Some}
use Rattle.std.specs.Option.{option_copied_mut}
use Rattle.atomic_table.specs.Table.{rest}
use Rattle.atomic_table.specs.Lent.{seat_with}
use Rattle.flow_turn.proofs.TurnLemmas.{same_value, counts_work, works}
use Rattle.flow_turn.proofs.turn.work.Goals as goal

pub slot_mut-requires : goal.slot_mut-requires
slot_mut-requires g c = let turn = c.requires.turn in let held : c.args.seat.now.me.1 ≡ (0, Some turn.1.0) ∷ [] = turn.1.1 in
    (search rules, (Some turn.1.0, held ∙ ap (λ cs. (0, Some turn.1.0) ∷ rest cs) (sym held)))

pub fetch_add-requires : goal.fetch_add-requires
fetch_add-requires g c =
    let turn = c.requires.turn in
    let one = same_value c.args.seat.now.me.1 turn.1.0 c.unwrap-value.result.now c.slot_mut.result.now turn.1.1 c.slot_mut.ensures.value (sym c.as_mut.ensures.value ∙ ap option_copied_mut c.unwrap-value.ensures) in (
      search rules,
      search rules,
      counts_work g.T.Kept.entries g.T.Kept.caller g.T.Kept.fixed (g.T.Kept.fixed c.args.top.now.key.value) c.args.top.now.table_id.slots c.args.seat.now.id c.args.seat.now.me
          (seat_with c.args.seat.now 0 (Some c.run-answer.new.value)).me
          c.unwrap-value.result.now c.run-answer.new.value c.args.by c.count-before.result c.count.result turn.0 (turn.1.2 ∙ ap g.T.Kept.entries one) c.requires.number
          (λ i. (c.args.seat.now.me.0, (0, Some c.run-answer.new.value) ∷ rest (turn.1.1 i))) c.run-answer.ensures.list c.count-before.ensures
          c.count.ensures,
    )

pub returns-clause-works : goal.returns-clause-works
returns-clause-works g c =
    let turn = c.requires.turn in
    let one = same_value c.args.seat.now.me.1 turn.1.0 c.unwrap-value.result.now c.slot_mut.result.now turn.1.1 c.slot_mut.ensures.value (sym c.as_mut.ensures.value ∙ ap option_copied_mut c.unwrap-value.ensures) in (
      c.unwrap-value.result.now,
      turn.1.1 ∙ ap (λ v. (0, Some v) ∷ []) one,
      works g.T.Kept.entries g.T.Kept.caller g.T.Kept.fixed (g.J.Job.does c.args.job) c.args.seat.now (seat_with c.args.seat.now 0 (Some c.run-answer.new.value)) c.fetch_add.new.seat
          c.unwrap-value.result.now c.run-answer.new.value c.args.by c.run-answer.result
          refl c.fetch_add.ensures.0 (λ i. (c.args.seat.now.me.0, (0, Some c.run-answer.new.value) ∷ rest (turn.1.1 i))) c.fetch_add.ensures.2
          (turn.1.2 ∙ ap g.T.Kept.entries one, c.requires.number) c.run-answer.ensures.list
          c.run-answer.ensures.fixed c.run-answer.ensures.does,
    )
