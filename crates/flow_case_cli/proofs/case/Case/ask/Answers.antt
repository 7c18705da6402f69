use Rattle.std.proofs.Common.{◌≡◌, ◌⊎◌, inl, inr, ◌<◌, length, refl, ap, sym, ◌∙◌, subst, arith, Result}
use Rattle.flow_ask.specs.declared.made.Made.{Made}
use Rattle.flow_ask.specs.declared.refusal.Refusal.{Refusal}
use Rattle.flow_core.specs.Run.{Run}
use Rattle.flow_core.specs.Ask.{Answers, HasOneMore}
use Rattle.flow_case.specs.CaseRun.{run_of}
use Rattle.flow_keep.specs.Holding as holding
use Rattle.flow_trail.specs.Held as held
use Rattle.flow_trail.specs.Lines.{end_of}
use Rattle.flow_case_cli.specs.Line.{IsLeafOf}
use Rattle.flow_case_cli.proofs.AskLemmas.{comes, entry_told, counted_more, longer}
use Rattle.flow_case_cli.proofs.case.Case.ask.Goals as goal

pub keep_last-requires-clause-comes : goal.keep_last-requires-clause-comes
keep_last-requires-clause-comes g c =
    let t = c.args.self.now in
    let k = holding.run_of t.keep in
    subst (λ (r : Run). (r ≡ k) ⊎ (((answer : Result Made Refusal) × Answers k c.args.ask c.args.by answer r) × HasOneMore k c.args.ask c.args.by r)) (sym c.core-4.ensures.run)
    (comes k t.run c.answer-answer.new.self c.args.ask c.args.by c.answer-answer.result (t.same c.if-self.false) c.answer-answer.ensures.answers c.answer-answer.ensures.grows)

pub returns-in_err-keep_last-clause-told : goal.returns-in_err-keep_last-clause-told
returns-in_err-keep_last-clause-told g c = λ unbroken.
    let t = c.args.self.now in
    let after = c.answer-answer.new.self in
    let before : length c.history-count.result.now ≡ length (run_of t.run).history = ap length (c.history-count.ensures.entries ∙ ap (λ (r : Run). r.history) c.core.ensures.run) in
    elim c.answer-answer.ensures.grows [
      | inl same ↦ inl same
      | inr more ↦
          let step = more.0 in
          let size = longer (run_of t.run) (run_of after) c.args.by step more.2 in
          let here : length c.history-count.result.now < length c.core-3.result.now.history = omega (arith, before, size, ap (λ (r : Run). length r.history) c.core-3.ensures.run) in
          let told = c.in_ok-tell_last.ensures.told here in
          let entry = entry_told (run_of t.run) (run_of after) c.core-3.result.now c.args.ask c.args.by step c.leaf_of-leaf.result c.args.asker told.0 (length c.history-count.result.now) c.core-3.ensures.run more.2
          before more.1 (subst (λ (r : Run). IsLeafOf r c.args.ask c.leaf_of-leaf.result) c.core-2.ensures.run c.leaf_of-leaf.ensures) (told.1 refl) in
          let line = told.2 in
          inr (
            told.0,
            λ fine. entry,
            record { any_moment = line.any_moment; told = λ fine. line.told refl; durable = λ tells fine file i. line.durable tells refl file i },
            inr (λ tells file i. line.durable tells refl file i),
          )
    ]

pub returns-clause-told : goal.returns-clause-told
returns-clause-told g c = λ unbroken.
    let t = c.args.self.now in
    let after = c.answer-answer.new.self in
    let before : length c.history-count.result.now ≡ length (run_of t.run).history = ap length (c.history-count.ensures.entries ∙ ap (λ (r : Run). r.history) c.core.ensures.run) in
    elim c.answer-answer.ensures.grows [
      | inl same ↦ inl same
      | inr more ↦
          let step = more.0 in
          let size = longer (run_of t.run) (run_of after) c.args.by step more.2 in
          let here : length c.history-count.result.now < length c.core-3.result.now.history = omega (arith, before, size, ap (λ (r : Run). length r.history) c.core-3.ensures.run) in
          let told = c.in_ok-tell_last.ensures.told here in
          let entry = entry_told (run_of t.run) (run_of after) c.core-3.result.now c.args.ask c.args.by step c.leaf_of-leaf.result c.args.asker told.0 (length c.history-count.result.now) c.core-3.ensures.run more.2
          before more.1 (subst (λ (r : Run). IsLeafOf r c.args.ask c.leaf_of-leaf.result) c.core-2.ensures.run c.leaf_of-leaf.ensures) (told.1 refl) in
          let line = told.2 in
          inr (
            told.0,
            λ fine. entry,
            record { any_moment = line.any_moment; told = λ fine. line.told refl; durable = λ tells fine file i. line.durable tells refl file i },
            inr (λ tells file i. line.durable tells refl file i),
          )
    ]

pub invariant_of-self-2 : goal.invariant_of-self-2
invariant_of-self-2 g c =
    let t = c.args.self.now in
    let after = c.answer-answer.new.self in
    let before : length c.history-count.result.now ≡ length (run_of t.run).history = ap length (c.history-count.ensures.entries ∙ ap (λ (r : Run). r.history) c.core.ensures.run) in
    record {
      same = λ fine. c.in_ok-keep_last.ensures.run ∙ c.core-4.ensures.run;
      kept = λ fine. c.in_ok-keep_last.ensures.whole;
      told = λ fine. c.in_ok-tell_last.ensures.whole;
      counted = λ fine. elim c.answer-answer.ensures.grows [
        | inl same ↦
            let size : length c.core-3.result.now.history ≡ length c.history-count.result.now = ap (λ (r : Run). length r.history) (c.core-3.ensures.run ∙ same) ∙ sym before in
            let trail = (c.in_ok-tell_last.ensures.idle size).1 in
            ap (λ x. (end_of (held.start_of x) (held.said_in x)).count) trail ∙ t.counted c.if-self.false ∙ sym (ap (λ (r : Run). length r.history) same)
        | inr more ↦
            let step = more.0 in
            let size = longer (run_of t.run) (run_of after) c.args.by step more.2 in
            let here : length c.history-count.result.now < length c.core-3.result.now.history = omega (arith, before, size, ap (λ (r : Run). length r.history) c.core-3.ensures.run) in
            let told = c.in_ok-tell_last.ensures.told here in
            let entry = entry_told (run_of t.run) (run_of after) c.core-3.result.now c.args.ask c.args.by step c.leaf_of-leaf.result c.args.asker told.0 (length c.history-count.result.now) c.core-3.ensures.run more.2
            before more.1 (subst (λ (r : Run). IsLeafOf r c.args.ask c.leaf_of-leaf.result) c.core-2.ensures.run c.leaf_of-leaf.ensures) (told.1 refl) in
            ap (λ e. (end_of e (held.said_in c.tell_last.new.trail)).count) c.in_ok-tell_last.ensures.start
            ∙ counted_more (held.start_of t.trail) (held.said_in t.trail) (held.said_in c.tell_last.new.trail) told.0 (run_of t.run) (run_of after) c.args.ask c.args.by c.args.asker (t.counted c.if-self.false) (told.2.told refl) entry
      ];
    }
