use Rattle.std.proofs.Common.{◌<◌, ℕ, List, Bor, length, get_or, arith, sym, ap, ◌∙◌}
use Rattle.std.proofs.lemmas.List.{length-map}
use Rattle.flow_view.specs.Flows.{names_in}
use Rattle.flow_view.proofs.FlowsLemmas.{found_here, found_later, name_at}
use Rattle.flow_view.proofs.flows.Flows.number_of.Goals as goal

pub returns-then-is_same : goal.returns-then-is_same
returns-then-is_same c =
    let items = c.args.self.now.names.items in
    let i = c.loop-number.number in
    let x = c.other-item.result in
    let now : Bor (List ℕ) → List ℕ = λ b. b.now in
    let less : i < length (names_in c.args.self.now) = omega (arith, length-map items now, ap length c.deref-other-items.ensures.value) in
    let is = name_at items i x (c.other-item.is ∙ ap (λ (l : List (Bor (List ℕ))). get_or l i x) c.deref-other-items.ensures.value) in
    sym (c.loop-number.invariant ∙ found_here i (names_in c.args.self.now) c.args.name.now x.now less is (sym c.if-is_same.ensures))

pub loop-number-preserved : goal.loop-number-preserved
loop-number-preserved c =
    let items = c.args.self.now.names.items in
    let i = c.loop-number.number in
    let x = c.other-item.result in
    let now : Bor (List ℕ) → List ℕ = λ b. b.now in
    let less : i < length (names_in c.args.self.now) = omega (arith, length-map items now, ap length c.deref-other-items.ensures.value) in
    let is = name_at items i x (c.other-item.is ∙ ap (λ (l : List (Bor (List ℕ))). get_or l i x) c.deref-other-items.ensures.value) in
    c.loop-number.invariant ∙ found_later i (names_in c.args.self.now) c.args.name.now x.now less is (sym c.if-is_same.ensures)
