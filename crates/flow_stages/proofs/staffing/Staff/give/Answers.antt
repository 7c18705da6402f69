use Rattle.std.proofs.Common.{◌≡◌, ◌≤◌, ◌<◌, ℕ, List, ◌++◌, ◌∷◌, [], sym, subst}
use Rattle.flow_stages.specs.Fitting.{MayHave}
use Rattle.flow_stages.specs.Trying.{IsToCome, AreOfFirst, AreTogether}
use Rattle.flow_stages.proofs.TryingLemmas.{first_with, given, not_given}
use Rattle.flow_stages.proofs.TogetherLemmas.{together_with}
use Rattle.flow_stages.proofs.staffing.Staff.give.Goals as goal

pub returns-in_ok-push-in-Some-clause-first : goal.returns-in_ok-push-in-Some-clause-first
returns-in_ok-push-in-Some-clause-first c = λ events first at.
    let items : c.push.new.self.items ≡ c.args.taken.now.items ++ (c.args.event, c.in-Some.user) ∷ [] = c.in_ok-push-in-Some.ensures.items in
    subst (AreOfFirst events) (sym items) (first_with events c.args.taken.now.items c.args.event c.in-Some.user first at)

pub returns-in_ok-push-in-Some-clause-remains : goal.returns-in_ok-push-in-Some-clause-remains
returns-in_ok-push-in-Some-clause-remains c = λ events to first at fits comes.
    let d = c.args.self.now.policy.now.duties in
    let items : c.push.new.self.items ≡ c.args.taken.now.items ++ (c.args.event, c.in-Some.user) ∷ [] = c.in_ok-push-in-Some.ensures.items in
    let none = subst (λ (taken : List (ℕ × ℕ)). (v : ℕ) → c.args.from ≤ v → v < c.in-Some.user → ¬ (MayHave d c.args.wanted taken c.args.event v)) c.deref.ensures.value c.in-Some.ensures.first in
    subst (λ (taken : List (ℕ × ℕ)). IsToCome events taken 0 to) (sym items)
    (given d c.args.wanted events to c.args.taken.now.items first c.args.event c.in-Some.user c.args.from fits at none comes)

pub returns-in-None-clause-remains : goal.returns-in-None-clause-remains
returns-in-None-clause-remains c = λ events to first at fits comes.
    let d = c.args.self.now.policy.now.duties in
    let users = c.args.self.now.users in
    let none = subst (λ (taken : List (ℕ × ℕ)). (v : ℕ) → c.args.from ≤ v → v < users → ¬ (MayHave d c.args.wanted taken c.args.event v)) c.deref.ensures.value c.in-None.ensures.none in
    c.back.ensures.remains events to first (not_given d c.args.wanted events to c.args.taken.now.items first c.args.event users c.args.from c.requires fits at none comes)

pub returns-in_ok-push-in-Some-clause-together : goal.returns-in_ok-push-in-Some-clause-together
returns-in_ok-push-in-Some-clause-together c = λ are.
    let d = c.args.self.now.policy.now.duties in
    let items : c.push.new.self.items ≡ c.args.taken.now.items ++ (c.args.event, c.in-Some.user) ∷ [] = c.in_ok-push-in-Some.ensures.items in
    let may = subst (λ (taken : List (ℕ × ℕ)). MayHave d c.args.wanted taken c.args.event c.in-Some.user) c.deref.ensures.value c.in-Some.ensures.user in
    subst (AreTogether d c.args.wanted) (sym items) (together_with d c.args.wanted c.args.taken.now.items c.args.event c.in-Some.user are may)
