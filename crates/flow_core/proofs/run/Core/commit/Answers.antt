use Rattle.std.proofs.Common.{rules, false, refl, sym, ap, true≢false}
use Rattle.flow_model.specs.Schema.{IsGood}
use Rattle.flow_core.specs.Run.{Run, schema, now}
use Rattle.flow_core.proofs.Entries.{ended_inside}
use Rattle.flow_core.proofs.run.Core.commit.Goals as goal

pub returns-then-not-has_steps : goal.returns-then-not-has_steps
returns-then-not-has_steps c =
    let going = ended_inside c.self.inside c.self.invariant c.args.self.now c.self.view_is false c.if-self.false in
    (going, (λ left. true≢false (sym (c.if-not-has_steps.ensures.1 left)), ap (λ (r : Run). r.limit) c.self.view_is), refl)

pub returns-in-Some : goal.returns-in-Some
returns-in-Some c =
    let going = ended_inside c.self.inside c.self.invariant c.args.self.now c.self.view_is false c.if-self.false in
    (going, c.if-not-has_steps.ensures.0 refl, c.in-Some.ensures, refl)

pub record_commit-requires-clause-open : goal.record_commit-requires-clause-open
record_commit-requires-clause-open c = ended_inside c.self.inside c.self.invariant c.args.self.now c.self.view_is false c.if-self.false

pub record_commit-requires-clause-steps : goal.record_commit-requires-clause-steps
record_commit-requires-clause-steps c = c.if-not-has_steps.ensures.0 refl

pub record_commit-requires-clause-no_claim : goal.record_commit-requires-clause-no_claim
record_commit-requires-clause-no_claim c = c.in_default.ensures

pub record_commit-requires-clause-good : goal.record_commit-requires-clause-good
record_commit-requires-clause-good c =
    let good : IsGood (schema c.args.self.now) (now c.args.self.now).journal = search rules depth 2 parts 0 fits 100 in good

pub returns : goal.returns
returns c =
    let r = c.args.self.now in
    let going = ended_inside c.self.inside c.self.invariant r c.self.view_is false c.if-self.false in
    let good : IsGood (schema r) (now r).journal = search rules depth 2 parts 0 fits 100 in
    (going, c.if-not-has_steps.ensures.0 refl, c.in_default.ensures, good, c.record_commit.ensures)
