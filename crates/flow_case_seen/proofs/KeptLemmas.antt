-- A case with the entries that are kept.
use Rattle.std.proofs.Common.{◌≡◌, ℕ, List, [], Option, None, Some, refl, sym, subst}
use Rattle.flow_model.specs.declared.history.Entry.{Entry}
use Rattle.flow_form.specs.Script.{Said}
use Rattle.flow_text.specs.Saying.{Says}
use Rattle.flow_expand.specs.Workflows.{IsExpanded}
use Rattle.flow_core.specs.Run.{Run}
use Rattle.flow_case.specs.declared.case_run.CaseRun.{CaseRun}
use Rattle.flow_case.specs.declared.case_run.CaseRun.TheVariants.{Free}
use Rattle.flow_case.specs.CaseRun.{case_with}
use Rattle.flow_keep.specs.Records.{Keeps}
use Rattle.flow_case_begin.specs.declared.texts.TheConstants.{MOST_STEPS}
use Rattle.flow_case_begin.specs.Begun.{IsBegun}
use Rattle.flow_case_begin.proofs.BeginLemmas.{run_begun, followed, follows}
use Rattle.flow_case_seen.specs.Kept.{IsKeptCase}

pub free_case : (s : Said) (workflow entries : List ℕ) (policy : Option (List ℕ)) (r : Run) → None ≡ policy → Says workflow s → IsExpanded s r.definition → r.limit ≡ MOST_STEPS → Keeps r.history entries →
    IsKeptCase workflow policy entries (Free r)
free_case s workflow entries policy r same says expanded limit keeps = subst (λ (p : Option (List ℕ)). IsKeptCase workflow p entries (Free r)) same (record {
  begun = Free (record r { history = [] });
  of_texts = (s, says, record { workflow = expanded; limit = limit; empty = refl });
  goes_on = refl;
  keeps = keeps;
})

pub ruled_case : (s : Said) (workflow text entries : List ℕ) (policy : Option (List ℕ)) (history : List Entry) (begun c : CaseRun) → Some text ≡ policy → Says workflow s →
    IsBegun s (Some text) begun → c ≡ case_with begun history → Keeps history entries → IsKeptCase workflow policy entries c
ruled_case s workflow text entries policy history begun c same says begins is keeps =
    let empty = (run_begun s (Some text) begun begins).empty in
    subst (λ (p : Option (List ℕ)). IsKeptCase workflow p entries c) same (record {
      begun = begun;
      of_texts = (s, says, begins);
      goes_on = follows begun c history empty is;
      keeps = subst (λ (h : List Entry). Keeps h entries) (sym (followed begun c history empty is)) keeps;
    })
