use Rattle.std.proofs.Common.{◌<◌, ℕ, List, length, subst, sym, arith, refl}
use Rattle.flow_residual.specs.Remaining.{IsOf}
use Rattle.flow_core.proofs.Steps.{kept_rewound}
use Rattle.flow_core.proofs.GivenClaims.{course_length}
use Rattle.flow_core.proofs.Entries.{epoch_below, entered}
use Rattle.flow_core.proofs.run.Core.record_rewound.Goals as goal

pub rewind_to-requires : goal.rewind_to-requires
rewind_to-requires c =
    let last = rw (← c.self.view_is) at c.requires.last in
    subst (λ (j : List ℕ). c.args.index < length j) c.self.invariant.kept.remains.journal_is last.0.0

pub back_to-requires : goal.back_to-requires
back_to-requires c =
    let last = rw (← c.self.view_is) at c.requires.last in
    let within = last.0.0 in
    let same = course_length c.self.inside c.self.invariant in
    omega arith

pub raise-requires : goal.raise-requires
raise-requires c = let below = epoch_below c.self.inside c.self.invariant c.args.self.now c.self.view_is c.requires.steps in omega arith

pub invariant_of-self : goal.invariant_of-self
invariant_of-self c =
    let i = c.self.inside in
    let last = rw (← c.self.view_is) at c.requires.last in
    entered i c.self.invariant c.args.self.now c.self.view_is _ c.args.by _ refl refl c.enter.ensures.unlooked c.enter.ensures.items c.enter.ensures.capacity c.requires.open c.requires.steps
    (λ going room. rw (c.rewind_to.ensures, c.back_to.ensures) (kept_rewound i c.self.invariant going room c.args.by c.args.index c.raise.new.self last
    (λ w s a b f. c.raise.ensures.claims w s a b (subst (IsOf w s) (sym c.rewind_to.ensures) f), c.raise.ensures.others)))
