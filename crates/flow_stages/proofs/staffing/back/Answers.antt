use Rattle.std.proofs.Common.{◌≡◌, ◌≤◌, ◌+◌, ◌++◌, ◌∷◌, [], subst, arith}
use Rattle.flow_stages.specs.Trying.{ComesAt, AreOfFirst, AreTogether}
use Rattle.flow_stages.proofs.TryingLemmas.{first_without, taken_back}
use Rattle.flow_stages.proofs.TogetherLemmas.{together_less}
use Rattle.flow_stages.proofs.staffing.back.Goals as goal

pub returns-in-Some-clause-first : goal.returns-in-Some-clause-first
returns-in-Some-clause-first c = λ events first.
    let items : c.args.taken.now.items ≡ c.pop.new.self.items ++ (c.in-Some.field-0-0, c.in-Some.user) ∷ [] = c.in-Some.ensures.items in
    (first_without events c.pop.new.self.items (c.in-Some.field-0-0, c.in-Some.user) (subst (AreOfFirst events) items first)).0

pub returns-in-Some-clause-remains : goal.returns-in-Some-clause-remains
returns-in-Some-clause-remains c = λ events to first comes.
    let items : c.args.taken.now.items ≡ c.pop.new.self.items ++ (c.in-Some.field-0-0, c.in-Some.user) ∷ [] = c.in-Some.ensures.items in
    let low : c.saturating_add.result ≤ c.in-Some.user + 1 = omega (arith, c.saturating_add.ensures) in
    taken_back events to c.pop.new.self.items c.in-Some.field-0-0 c.in-Some.user c.saturating_add.result (subst (AreOfFirst events) items first) low
    (subst (λ taken. ComesAt taken ⊥ to) items comes)

pub returns-in-Some-clause-together : goal.returns-in-Some-clause-together
returns-in-Some-clause-together c = λ d wanted are.
    let items : c.args.taken.now.items ≡ c.pop.new.self.items ++ (c.in-Some.field-0-0, c.in-Some.user) ∷ [] = c.in-Some.ensures.items in
    together_less d wanted c.pop.new.self.items ((c.in-Some.field-0-0, c.in-Some.user) ∷ []) (subst (AreTogether d wanted) items are)
