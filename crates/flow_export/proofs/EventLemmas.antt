-- The events of a history, an entry at a time.
use Rattle.std.proofs.Common.{◌≡◌, ℕ, zero, suc, ◌+◌, ◌<◌, List, [], ◌∷◌, ◌++◌, length, take, filter_map, Option, Some, None, slice_get, refl, sym, ap, ◌∙◌, arith, append-nil, append_assoc}
use Rattle.std.proofs.lemmas.List.Elements.{filter_map-append}
use Rattle.flow_model.specs.declared.history.Entry.{Entry}
use Rattle.flow_standing.specs.declared.trail.Doing.{Doing}
use Rattle.flow_standing.specs.declared.undone.TakenBack.{TakenBack}
use Rattle.flow_standing.proofs.Fronts.{take_next}
use Rattle.flow_export.specs.Events.{listed, events_at, events_from}

one_listed : {A B : Type 0} (f : A → Option B) (x : A) → filter_map f (x ∷ []) ≡ listed (f x)
one_listed {A} {B} f x = go (f x) refl
  where
    go : (o : Option B) → f x ≡ o → filter_map f (x ∷ []) ≡ listed (f x)
    go None e = rw e refl
    go (Some y) e = rw e refl

-- what a filter makes of one element more
pub filter_next : {A B : Type 0} (f : A → Option B) (list : List A) (k : ℕ) (x : A) → slice_get list k ≡ Some x →
    filter_map f (take (k + 1) list) ≡ filter_map f (take k list) ++ listed (f x)
filter_next f list k x at =
    ap (filter_map f) (take_next list k x at) ∙ filter_map-append f (take k list) (x ∷ []) ∙ ap (λ l. filter_map f (take k list) ++ l) (one_listed f x)

pub take_long : {A : Type 0} (list : List A) (k : ℕ) → k < length list → length (take k list) ≡ k
take_long [] k within = absurd (omega arith)
take_long (x ∷ list) zero within = refl
take_long (x ∷ list) (suc k) within = ap (λ n. suc n) (take_long list k (omega arith))

module _ (leaf_of : ℕ → ℕ) (doings : List Doing) (taken : List TakenBack) where
  events_push : (place : ℕ) (front : List Entry) (entry : Entry) →
      events_from leaf_of doings taken place (front ++ entry ∷ []) ≡ events_from leaf_of doings taken place front
      ++ events_at leaf_of doings taken (place + length front) entry.step
  events_push place [] entry =
      let here : place ≡ place + 0 = omega arith in
      append-nil (events_at leaf_of doings taken place entry.step) ∙ ap (λ p. events_at leaf_of doings taken p entry.step) here
  events_push place (e ∷ front) entry =
      let here = events_at leaf_of doings taken place e.step in
      let there : place + 1 + length front ≡ place + suc (length front) = omega arith in
      ap (λ l. here ++ l) (events_push (place + 1) front entry ∙ ap (λ p. events_from leaf_of doings taken (place + 1) front ++ events_at leaf_of doings taken p entry.step) there)
      ∙ sym (append_assoc here (events_from leaf_of doings taken (place + 1) front) (events_at leaf_of doings taken (place + suc (length front)) entry.step))

  -- with one entry more
  pub events_next : (history : List Entry) (k : ℕ) (entry : Entry) → slice_get history k ≡ Some entry → length (take k history) ≡ k →
      events_from leaf_of doings taken 0 (take (k + 1) history) ≡ events_from leaf_of doings taken 0 (take k history)
      ++ events_at leaf_of doings taken k entry.step
  events_next history k entry at long =
      ap (events_from leaf_of doings taken 0) (take_next history k entry at) ∙ events_push 0 (take k history) entry
      ∙ (let there : 0 + length (take k history) ≡ k = omega (arith, long) in
      ap (λ p. events_from leaf_of doings taken 0 (take k history) ++ events_at leaf_of doings taken p entry.step) there)
