use Rattle.std.proofs.Common.{◌≡◌, ◌∙◌, Bool, List, [], ◌∷◌, ◌++◌, refl, sym, ap}
use Rattle.flow_model.specs.declared.history.Call.{Call}
use Rattle.flow_model.specs.declared.history.Entry.{Entry}
use Rattle.flow_model.specs.declared.history.Outcome.{Outcome}
use Rattle.flow_model.specs.Run.{IsLegal}
use Rattle.flow_model.specs.Decided.{not_empty}
use Rattle.flow_core.specs.Run.{Run, schema}
use Rattle.flow_crew.specs.Invariant.{IsByWorkers}
use Rattle.flow_crew.proofs.Endings.{not_yet_kept}
use Rattle.flow_crew.proofs.book.Book.new.Goals as goal

first_empty : (earlier later : List Entry) → [] ≡ earlier ++ later → earlier ≡ []
first_empty [] later is = refl
first_empty (x ∷ xs) later is = absurd (not_empty [] x (xs ++ later) is)

-- workers may have made no entry
none_made : (gives : Call → Outcome → Bool) (r : Run) → IsLegal (schema r) r.limit r.history → r.history ≡ [] → IsByWorkers gives r
none_made gives r legal none = record {
  run_legal = (legal, λ earlier later entry is. absurd (not_empty earlier entry later (sym none ∙ is)));
  driven = record {
    stops = λ earlier later entry verdict is. absurd (not_empty earlier entry later (sym none ∙ is));
    goes_back = λ earlier later leaf i is kept free below. absurd (not_yet_kept (schema r) earlier leaf (first_empty earlier later (sym none ∙ is)) kept);
  };
}

pub invariant_of-result : goal.invariant_of-result
invariant_of-result g c = none_made g.G.Gate.gives c.new.result c.new.ensures.legal (ap (λ (r : Run). r.history) c.new.ensures.run ∙ c.requires)
