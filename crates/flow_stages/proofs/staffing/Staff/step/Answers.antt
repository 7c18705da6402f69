use Rattle.std.proofs.Common.{◌≡◌, ◌≤◌, ℕ, List, length, inl, inr, ⊎_elim, refl, subst, arith}
use Rattle.flow_stages.specs.Fitting.{MissesBy}
use Rattle.flow_stages.proofs.TryingLemmas.{missed, all_taken, near_taken}
use Rattle.flow_stages.proofs.staffing.Staff.step.Goals as goal

pub returns-else-is_end-clause-remains : goal.returns-else-is_end-clause-remains
returns-else-is_end-clause-remains c = λ to fits comes.
    let d = c.args.self.now.policy.now.duties in
    let events = c.args.events.now in
    let taken = c.args.taken.now.items in
    let all : length events ≤ length taken = (let (_, _, _, past, _) = c.in-None.ensures.lookup in omega (arith, past, c.len.ensures)) in
    let misses = subst (λ (t : List (ℕ × ℕ)). MissesBy d c.args.wanted t) c.deref-in-None.ensures.value (c.if-is_end.ensures.missed refl) in
    ⊎_elim inl (λ strict. inr (c.back-else-is_end.ensures.remains events to c.requires.first strict))
    (missed d c.args.wanted events to taken c.requires.first c.args.from (all_taken d c.args.wanted events to taken c.requires.first all) misses comes)

pub returns-then-is_missed-clause-remains : goal.returns-then-is_missed-clause-remains
returns-then-is_missed-clause-remains c = λ to fits comes.
    let d = c.args.self.now.policy.now.duties in
    let events = c.args.events.now in
    let taken = c.args.taken.now.items in
    let (count, misses) = subst (λ (t : List (ℕ × ℕ)). (length t ≡ c.args.near) × MissesBy d c.args.wanted t) c.deref.ensures.value (c.if-is_missed.ensures refl) in
    ⊎_elim inl (λ strict. inr (c.back.ensures.remains events to c.requires.first strict))
    (missed d c.args.wanted events to taken c.requires.first c.args.from (near_taken d c.args.wanted events to taken c.requires.first c.args.near count c.requires.far) misses comes)
