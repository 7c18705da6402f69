-- The entry that an ask makes, read from the history.
use Rattle.std.proofs.Common.{◌≡◌, ℕ, List, [], ◌∷◌, ◌++◌, length, Option, None, Some, slice_get, refl, sym, ap, subst, ◌∙◌, inl, inr, arith}
use Rattle.std.proofs.lemmas.List.{append-nil}
use Rattle.std.proofs.lemmas.Option.{slice_get_past}
use Rattle.flow_model.proofs.MadeLists.{slice_get_append_right}
use Rattle.flow_model.specs.declared.history.Entry.{Entry}
use Rattle.flow_ask.specs.declared.ask.Ask.{Ask}
use Rattle.flow_core.specs.Run.{Run, schema}
use Rattle.flow_core.specs.Lawful.{IsLawful}
use Rattle.flow_core.specs.Ask.{GrowsAtMost}
use Rattle.flow_step.specs.Records.{entries_in}
use Rattle.flow_step.specs.Given.{IsGrown}

none_past : (history : List Entry) → slice_get history (length history) ≡ None
none_past history = slice_get_past history (length history) (omega arith)

last_past : (history : List Entry) (entry : Entry) → slice_get (history ++ entry ∷ []) (length history) ≡ Some entry
last_past history entry = ap (λ n. slice_get (history ++ entry ∷ []) n) (omega arith) ∙ slice_get_append_right history (entry ∷ []) 0

-- the entry at the place behind those before it
pub grown_by : (before after : Run) (ask : Ask) (by : ℕ) (entry : Option Entry) → GrowsAtMost before ask by after → entry ≡ slice_get after.history (length before.history) →
    IsLawful (schema after) after.limit after.history → IsGrown before after entry
grown_by before after ask by entry (inl same) is lawful =
    let none : entry ≡ None = is ∙ ap (λ (r : Run). slice_get r.history (length before.history)) same ∙ none_past before.history in
    record {
      history_is = ap (λ (r : Run). r.history) same ∙ sym (append-nil before.history) ∙ ap (λ (e : Option Entry). before.history ++ entries_in e) (sym none);
      same_workflow = ap (λ (r : Run). r.definition) same;
      same_limit = ap (λ (r : Run). r.limit) same;
      lawful = lawful;
    }
grown_by before after ask by entry (inr (step, comes, same)) is lawful =
    let made : Entry = record { by = by; step = step } in
    let some : entry ≡ Some made = is ∙ ap (λ (r : Run). slice_get r.history (length before.history)) same ∙ last_past before.history made in
    record {
      history_is = ap (λ (r : Run). r.history) same ∙ ap (λ (e : Option Entry). before.history ++ entries_in e) (sym some);
      same_workflow = ap (λ (r : Run). r.definition) same;
      same_limit = ap (λ (r : Run). r.limit) same;
      lawful = lawful;
    }

-- nothing was made
pub grown_none : (run : Run) → IsLawful (schema run) run.limit run.history → IsGrown run run None
grown_none run lawful = record { history_is = sym (append-nil run.history); same_workflow = refl; same_limit = refl; lawful = lawful }

-- the same, where the runs are read through a core
pub grown_at : (before after one two : Run) (ask : Ask) (by count : ℕ) {entry : Option Entry} → GrowsAtMost before ask by after → one ≡ before → two ≡ after →
    count ≡ length one.history → entry ≡ slice_get two.history count → IsLawful (schema two) two.limit two.history → IsGrown before after entry
grown_at before after one two ask by count {entry} grows first second counted is lawful =
    grown_by before after ask by entry grows
    (is ∙ (λ i. slice_get (second i).history (counted i)) ∙ ap (λ (r : Run). slice_get after.history (length r.history)) first)
    (subst (λ (r : Run). IsLawful (schema r) r.limit r.history) second lawful)

pub grown_still : (before after core : Run) → after ≡ before → core ≡ after → IsLawful (schema core) core.limit core.history → IsGrown before after None
grown_still before after core same is lawful = record {
  history_is = ap (λ (r : Run). r.history) same ∙ sym (append-nil before.history);
  same_workflow = ap (λ (r : Run). r.definition) same;
  same_limit = ap (λ (r : Run). r.limit) same;
  lawful = subst (λ (r : Run). IsLawful (schema r) r.limit r.history) is lawful;
}
