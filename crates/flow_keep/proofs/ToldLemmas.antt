-- A history is told by the file that keeps it, and where each of its records tells a legal entry, none is foreign.
use Rattle.std.proofs.Common.{◌≡◌, ℕ, ◌+◌, List, [], ◌∷◌, ◌++◌, map, refl, sym, subst, ◌∙◌, append_assoc}
use Rattle.flow_model.specs.declared.history.Entry.{Entry}
use Rattle.flow_model.specs.Lists.{Each}
use Rattle.flow_model.specs.Decided.{cons_same, not_empty}
use Rattle.flow_model.specs.Schema.{Schema}
use Rattle.flow_model.specs.Run.{RunState, first_state, next_state, IsLegal, IsLegalFrom}
use Rattle.flow_record.specs.History.{IsSmall}
use Rattle.flow_keep.specs.Records.{body_of, records, Keeps}
use Rattle.flow_keep.specs.Opened.{HasNoForeign}
use Rattle.flow_keep.proofs.EntryLemmas.{same_entry}

-- two histories with the same records are one
pub same_history : (a b : List Entry) → Each IsSmall a → Each IsSmall b → map body_of a ≡ map body_of b → a ≡ b
same_history [] [] p q same = refl
same_history [] (y ∷ ys) p q same = absurd (not_empty [] (body_of y) (map body_of ys) same)
same_history (x ∷ xs) [] p q same = absurd (not_empty [] (body_of x) (map body_of xs) (sym same))
same_history (x ∷ xs) (y ∷ ys) p q same =
    let parts = cons_same (body_of x) (body_of y) (map body_of xs) (map body_of ys) same in
    let here : x ≡ y = same_entry x y p.0 q.0 parts.0 in
    let rest : xs ≡ ys = same_history xs ys p.1 q.1 parts.1 in
    λ i. here i ∷ rest i

pub kept_once : (file : List ℕ) (a b : List Entry) → Each IsSmall a → Each IsSmall b → Keeps a file → Keeps b file → a ≡ b
kept_once file a b p q one other = same_history a b p q (sym one ∙ other)

-- a history whose records begin so begins with these entries, and has one more
record Begun (history earlier : List Entry) (body : List ℕ) : Type 0 where
  entry : Entry
  rest : List Entry
  small : IsSmall entry
  is : body_of entry ≡ body
  split : history ≡ earlier ++ entry ∷ rest

begun : (history earlier : List Entry) (body : List ℕ) (later : List (List ℕ)) → Each IsSmall history → Each IsSmall earlier →
    map body_of history ≡ map body_of earlier ++ body ∷ later → Begun history earlier body
begun [] earlier body later p q same = absurd (not_empty (map body_of earlier) body later same)
begun (x ∷ xs) [] body later p q same =
    let parts = cons_same (body_of x) body (map body_of xs) later same in
    record { entry = x; rest = xs; small = p.0; is = parts.0; split = refl }
begun (x ∷ xs) (y ∷ ys) body later p q same =
    let parts = cons_same (body_of x) (body_of y) (map body_of xs) (map body_of ys ++ body ∷ later) same in
    let here : x ≡ y = same_entry x y p.0 q.0 parts.0 in
    let more = begun xs ys body later p.1 q.1 parts.1 in
    record { entry = more.entry; rest = more.rest; small = more.small; is = more.is; split = λ i. here i ∷ more.split i }

legal_front : (w : Schema) (limit : ℕ) (s : RunState) (made : ℕ) (front later : List Entry) → IsLegalFrom w limit s made (front ++ later) → IsLegalFrom w limit s made front
legal_front w limit s made [] later legal = tt
legal_front w limit s made (entry ∷ front) later (going, room, allowed, rest) =
    (going, room, allowed, legal_front w limit (next_state w s entry.step) (made + 1) front later rest)

-- no record of a file that keeps a legal history is foreign
pub none_foreign : (w : Schema) (limit : ℕ) (history : List Entry) (file : List ℕ) → IsLegal w limit history → Each IsSmall history → Keeps history file → HasNoForeign w limit (records file)
none_foreign w limit history file legal small keeps = record {
  none = λ index f.
      let found = begun history f.earlier f.body f.later small f.small (sym keeps ∙ f.split) in
      let whole : history ≡ (f.earlier ++ found.entry ∷ []) ++ found.rest = found.split ∙ sym (append_assoc f.earlier (found.entry ∷ []) found.rest) in
      f.none found.entry found.small found.is
      (legal_front w limit first_state 0 (f.earlier ++ found.entry ∷ []) found.rest (subst (λ (h : List Entry). IsLegal w limit h) whole legal));
}
