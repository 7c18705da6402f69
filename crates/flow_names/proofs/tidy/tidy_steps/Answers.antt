use Rattle.std.proofs.Common.{◌≡◌, List, ℕ, length, ap, ◌∙◌, subst, sym, true≢false, arith}
use Rattle.flow_model.specs.declared.history.Step.TheVariants.{Did}
use Rattle.flow_model.specs.Run.{IsOpen}
use Rattle.flow_core.specs.Run.{Run, schema, now, with_entry}
use Rattle.flow_names.specs.Tidy.{AreTidy}
use Rattle.flow_names.proofs.TidyLemmas.{one_longer, tidy_more, tidy_refused}
use Rattle.flow_names.proofs.tidy.tidy_steps.Goals as goal

pub returns-then-not-does-clause-tidy : goal.returns-then-not-does-clause-tidy
returns-then-not-does-clause-tidy g c =
    tidy_refused g.R.Asked.run g.R.Asked.answers (g.R.Asked.run c.args.scout.now) (g.R.Asked.run c.loop-step.scout) c.args.by c.in-Some.step
    c.loop-step.steps.items c.next_update.new.scout c.does.new.scout c.loop-step.invariant.done c.in-Some.ensures.run c.in-Some.ensures.least
    c.if-not-does.ensures.does

pub is_open_at_end-requires : goal.is_open_at_end-requires
is_open_at_end-requires g c =
    let longer = one_longer (g.R.Asked.run c.next_update.new.scout) (g.R.Asked.run c.does.new.scout) c.args.by c.in-Some.step c.if-not-does.ensures.does.1 in
    let after = ap (λ (m : Run). length (now m).journal) c.core-in-Some.ensures in
    let before = ap (λ (l : List ℕ). length l) c.journal-place.ensures ∙ ap (λ (m : Run). length (now m).journal) c.core.ensures in
    omega (arith, longer, after, before)

pub loop-step-preserved : goal.loop-step-preserved
loop-step-preserved g c =
    let r : Run = g.R.Asked.run c.args.scout.now in
    let mid : Run = g.R.Asked.run c.loop-step.scout in
    let after : Run = g.R.Asked.run c.does.new.scout in
    let place : length c.journal-place.result.now ≡ length (now mid).journal =
    ap (λ (l : List ℕ). length l) c.journal-place.ensures ∙ ap (λ (m : Run). length (now m).journal) (c.core.ensures ∙ c.in-Some.ensures.run) in
    let told : ¬ (IsOpen (schema c.core-in-Some.result.now) (now c.core-in-Some.result.now) (length c.journal-place.result.now)) =
    λ free. true≢false (sym (c.is_open_at_end.ensures.1 free) ∙ c.if-is_open_at_end.false) in
    let there : ¬ (IsOpen (schema after) (now after) (length c.journal-place.result.now)) =
    subst (λ (m : Run). ¬ (IsOpen (schema m) (now m) (length c.journal-place.result.now))) c.core-in-Some.ensures told in
    record {
      done = subst (λ (l : List ℕ). AreTidy r c.args.by l after) (sym c.in_ok-push.ensures.items)
          (tidy_more r c.args.by c.loop-step.steps.items mid after c.in-Some.step c.loop-step.invariant.done c.in-Some.ensures.least
          (subst (λ (n : ℕ). ¬ (IsOpen (schema after) (now after) n)) place there)
          (c.if-not-does.ensures.does.1 ∙ ap (λ (m : Run). with_entry m c.args.by (Did c.in-Some.step)) c.in-Some.ensures.run));
      can = c.if-not-does.ensures.lasts;
    }
