use Rattle.std.proofs.Common.{◌≡◌, ◌≤◌, ℕ, List, sym, ap, subst, arith}
use Rattle.flow_model.specs.declared.history.Entry.{Entry}
use Rattle.flow_model.specs.Lists.{Each}
use Rattle.flow_model.proofs.Lists.{each-append, each_to}
use Rattle.flow_core.specs.Run.{Run}
use Rattle.flow_crew.specs.Moves.{IsContinued, IsOfWorker, IsOfCrew}
use Rattle.flow_crew.proofs.crew.run_crew.Goals as goal

-- the caller 0 is none beyond the workers
within : (workers : ℕ) (history : List Entry) → IsOfCrew workers history → Each (λ (e : Entry). e.by ≤ workers) history
within workers history (worked, rest, is, made, finished) =
    subst (λ (l : List Entry). Each (λ (e : Entry). e.by ≤ workers) l) (sym is)
    (each-append (λ (e : Entry). e.by ≤ workers) worked rest
    (each_to (IsOfWorker workers) (λ (e : Entry). e.by ≤ workers) worked (λ (e : Entry) made. made.1) made)
    (each_to (λ (e : Entry). e.by ≡ 0) (λ (e : Entry). e.by ≤ workers) rest (λ (e : Entry) none. omega (arith, none)) finished))

-- what is added once the workers are joined comes behind what they made
behind : (r after : Run) (workers : ℕ) → IsContinued r 0 after → Each (IsOfWorker workers) r.history → IsOfCrew workers after.history
behind r after workers (added, is, own) made = (r.history, added, ap (λ (a : Run). a.history) is, made, own)

pub returns-clause-crew : goal.returns-clause-crew
returns-clause-crew g c = behind c.work_all-book.result c.finish_rest-end.new.book c.args.workers c.finish_rest-end.ensures.nobody c.work_all-book.ensures.workers

pub returns-clause-callers : goal.returns-clause-callers
returns-clause-callers g c = within c.args.workers c.finish_rest-end.new.book.history (returns-clause-crew g c)
