use Rattle.std.proofs.Common.{◌≡◌, ap, sym, ◌∙◌, refl, inl, inr, subst, length, set, not, ◌&&◌, arith}
use Rattle.flow_goal.specs.declared.goal.Goal.{Goal}
use Rattle.flow_goal.specs.declared.measure.Measure.{Measure}
use Rattle.flow_goal.specs.Goal.{process_of}
use Rattle.flow_goal.specs.Measure.{by_flags, measure_of, Walks}
use Rattle.flow_goal.proofs.FoldsLemmas.{both_measured, choice_measured, choice_walked}
use Rattle.flow_goal.proofs.walk.+walk_goal.Goals as goal

pub returns-in-Nop-clause-measure : goal.returns-in-Nop-clause-measure
returns-in-Nop-clause-measure t c =
    c.of_nop.ensures (by_flags c.args.named.now) ∙ ap (λ (g : Goal). measure_of (by_flags c.args.named.now) (process_of g)) (sym c.in-Nop.is)

pub returns-in-Leaf-clause-measure : goal.returns-in-Leaf-clause-measure
returns-in-Leaf-clause-measure t c =
    c.of_leaf.ensures (by_flags c.args.named.now) c.in-Leaf.leaf c.is_apart.ensures
    ∙ ap (λ (g : Goal). measure_of (by_flags c.args.named.now) (process_of g)) (sym c.in-Leaf.is)

pub returns-in_ok-second-in-Serial-clause-measure : goal.returns-in_ok-second-in-Serial-clause-measure
returns-in_ok-second-in-Serial-clause-measure t c =
    let found = λ (g : Goal). measure_of (by_flags c.args.named.now) (process_of g) in
    let both = c.both.ensures
    ∙ both_measured (by_flags c.args.named.now) (process_of c.in-Serial.left.value) (process_of c.in-Serial.right.value) _ _
    (c.in_ok-first-in-Serial.ensures.measure ∙ ap found c.deref-in-Serial.ensures)
    (c.in_ok-second-in-Serial.ensures.measure ∙ ap found c.deref-in-Serial-2.ensures) in
    elim c.in-Serial.is [ inl e ↦ both ∙ ap found (sym e) | inr e ↦ both ∙ ap found (sym e) ]

pub returns-in_ok-end_choice-in-Either-clause-walked : goal.returns-in_ok-end_choice-in-Either-clause-walked
returns-in_ok-end_choice-in-Either-clause-walked t c =
    let test = by_flags c.args.named.now in
    let old = c.args.walk.now in
    let one : Walks test c.args.isolated (process_of c.in-Either.left.value) (record old { flags = c.push.new.self }) c.walk_goal.new.walk =
    subst (λ (g : Goal). Walks test c.args.isolated (process_of g) (record old { flags = c.push.new.self }) c.walk_goal.new.walk)
    c.deref.ensures c.in_ok-one-in-Either.ensures.walked in
    let two : Walks test c.args.isolated (process_of c.in-Either.right.value) c.walk_goal.new.walk c.walk_goal-in-Either.new.walk =
    subst (λ (g : Goal). Walks test c.args.isolated (process_of g) c.walk_goal.new.walk c.walk_goal-in-Either.new.walk)
    c.deref-in-Either.ensures c.in_ok-other-in-Either.ensures.walked in
    let at_end : c.len-place.result ≡ length old.flags.items = omega (arith, old.flags.ok.0) in
    let found = λ (g : Goal). measure_of test (process_of g) in
    let kept = ap (λ (m : Measure). not c.args.isolated && m.foldable) (c.choice-choice.ensures ∙ choice_measured test (process_of c.in-Either.left.value) (process_of c.in-Either.right.value) _ _
    (c.in_ok-one-in-Either.ensures.measure ∙ ap found c.deref.ensures) (c.in_ok-other-in-Either.ensures.measure ∙ ap found c.deref-in-Either.ensures)) in
    subst (λ (g : Goal). Walks test c.args.isolated (process_of g) old c.end_choice.new.self) (sym c.in-Either.is)
    (choice_walked test c.args.isolated (process_of c.in-Either.left.value) (process_of c.in-Either.right.value) old (record old { flags = c.push.new.self })
    c.walk_goal.new.walk c.walk_goal-in-Either.new.walk c.end_choice.new.self _ c.stays.result
    refl c.in_ok-push-in-Either.ensures.items refl one two
    c.in_ok-end_choice-in-Either.ensures.next
    (c.in_ok-end_choice-in-Either.ensures.flags ∙ ap (λ place. set c.walk_goal-in-Either.new.walk.flags.items place c.stays.result) at_end)
    c.in_ok-end_choice-in-Either.ensures.spans refl (c.stays.ensures ∙ kept))
