use Rattle.std.proofs.Common.{◌≡◌, ◌≢◌, ◌≤◌, ◌+◌, ℕ, Bool, true, false, cond, List, [], ◌∷◌, ◌==◌, refl, sym, ap, ◌∙◌, subst, arith}
use Rattle.std.proofs.lemmas.Bool.{eqb-false}
use Rattle.std.specs.List.{filter}
use Rattle.flow_model.specs.declared.history.Entry.{Entry}
use Rattle.flow_model.specs.Lists.{Each}
use Rattle.flow_model.proofs.MadeLists.{some_same}
use Rattle.flow_workflow.specs.Definition.{Definition}
use Rattle.flow_turn.specs.Passes.{Knowledge}
use Rattle.flow_turn.specs.Entries.{made_by}
use Rattle.flow_core.specs.Run.{Run}
use Rattle.flow_crew.specs.Moves.{IsOfWorker}
use Rattle.flow_crew.proofs.crew.work_all.Goals as goal

none_before : (n : ℕ) → 0 + n ≡ n
none_before n = omega arith

abbrev by_root : Entry → Bool
by_root entry = entry.by == 0

-- where none is the root's, each is a worker's
of_workers : (workers : ℕ) (entries : List Entry) → filter by_root entries ≡ [] → Each (λ (e : Entry). e.by ≤ workers) entries → Each (IsOfWorker workers) entries
of_workers workers [] none within = tt
of_workers workers (x ∷ xs) none within = step (by_root x) refl none (λ empty. of_workers workers xs empty within.1)
  where
    step : (b : Bool) → by_root x ≡ b → cond b (x ∷ filter by_root xs) (filter by_root xs) ≡ [] → (filter by_root xs ≡ [] → Each (IsOfWorker workers) xs) →
        Each (IsOfWorker workers) (x ∷ xs)
    step true is empty rest = cc
    step false is empty rest = let some : x.by ≢ 0 = eqb-false x.by 0 is in ((omega arith, within.0), rest empty)

pub returns-in-Ok : goal.returns-in-Ok
returns-in-Ok g c =
    let given = c.work_beside-root.ensures.2 ∙ ap (λ (k : Knowledge Entry (Definition × ℕ)). k.given + c.args.workers) c.in-Ok.ensures.ok ∙ none_before c.args.workers in
    let part = c.work_beside-root.ensures.4 ∙ ap (λ (k : Knowledge Entry (Definition × ℕ)). k.part) c.in-Ok.ensures.ok in
    let mine = c.work_beside-root.ensures.5 ∙ ap (λ (k : Knowledge Entry (Definition × ℕ)). k.mine) c.in-Ok.ensures.ok in
    let fixed = some_same _ _ (sym c.close.ensures.found.stays ∙ part) in
    let own = subst (λ n. made_by (λ (e : Entry). e.by) n c.close.result.history ≡ c.work_beside-root.result.mine) c.work_beside-root.ensures.1 c.close.ensures.found.own in
    record {
      same = (ap (λ (f : Definition × ℕ). f.0) fixed, ap (λ (f : Definition × ℕ). f.1) fixed);
      workers = of_workers c.args.workers c.close.result.history (own ∙ mine) (subst (λ n. Each (λ (entry : Entry). entry.by ≤ n) c.close.result.history) given c.close.ensures.callers);
    }

pub returns-in-Err : goal.returns-in-Err
returns-in-Err g c = record {
  same = (ap (λ (r : Run). r.definition) c.in-Err.ensures.err, ap (λ (r : Run). r.limit) c.in-Err.ensures.err);
  workers = subst (λ (l : List Entry). Each (IsOfWorker c.args.workers) l) (sym (ap (λ (r : Run). r.history) c.in-Err.ensures.err ∙ c.requires.empty)) tt;
}
