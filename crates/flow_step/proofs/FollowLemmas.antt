-- Entries that are made one after another.
use Rattle.std.proofs.Common.{◌≡◌, List, [], ◌∷◌, ◌++◌, sym, ap, subst, ◌∙◌, append_assoc}
use Rattle.std.proofs.lemmas.List.{append-nil}
use Rattle.flow_model.specs.declared.history.Entry.{Entry}
use Rattle.flow_core.specs.Run.{Run, with_entry}
use Rattle.flow_step.specs.Following.{Makes}

module _ {S : Type 0} (may : S → Entry → Type 0) (grown : S → Entry → S) where
  -- one more
  pub makes_more : (entries : List Entry) (first last : S) (entry : Entry) → Makes may grown first entries last → may last entry →
      Makes may grown first (entries ++ entry ∷ []) (grown last entry)
  makes_more [] first last entry same can = (subst (λ (s : S). may s entry) same can, ap (λ (s : S). grown s entry) same)
  makes_more (head ∷ entries) first last entry (here, rest) can = (here, makes_more entries (grown first head) last entry rest can)

  module _ (run : S → Run) (grows : (one : S) (entry : Entry) → run (grown one entry) ≡ with_entry (run one) entry.by entry.step) where
    pub made_history : (entries : List Entry) (first last : S) → Makes may grown first entries last → (run last).history ≡ (run first).history ++ entries
    made_history [] first last same = ap (λ (s : S). (run s).history) same ∙ sym (append-nil (run first).history)
    made_history (entry ∷ entries) first last (here, rest) =
        made_history entries (grown first entry) last rest ∙ ap (λ (r : Run). r.history ++ entries) (grows first entry)
        ∙ append_assoc (run first).history (entry ∷ []) entries

    pub made_definition : (entries : List Entry) (first last : S) → Makes may grown first entries last → (run last).definition ≡ (run first).definition
    made_definition [] first last same = ap (λ (s : S). (run s).definition) same
    made_definition (entry ∷ entries) first last (here, rest) = made_definition entries (grown first entry) last rest ∙ ap (λ (r : Run). r.definition) (grows first entry)

    pub made_limit : (entries : List Entry) (first last : S) → Makes may grown first entries last → (run last).limit ≡ (run first).limit
    made_limit [] first last same = ap (λ (s : S). (run s).limit) same
    made_limit (entry ∷ entries) first last (here, rest) = made_limit entries (grown first entry) last rest ∙ ap (λ (r : Run). r.limit) (grows first entry)
