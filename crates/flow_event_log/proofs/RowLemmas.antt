-- Rows stay as they are when more names come.
use Rattle.std.proofs.Common.{◌≡◌, ◌<◌, ◌≤◌, inl, inr, ℕ, zero, suc, List, [], ◌∷◌, ◌++◌, length, Some, slice_get, refl, sym, ap, subst, ◌∙◌, arith, length-append}
use Rattle.std.proofs.Math.ListN.{get_or-append}
use Rattle.std.specs.Prelude.{Bool, true, false, if◌then◌else◌}
use Rattle.std.proofs.lemmas.List.{map-append}
use Rattle.std.proofs.lemmas.Option.{get_or_from_slice_get}
use Rattle.flow_event_log.proofs.ReachedLemmas.{get_cases}
use Rattle.flow_event_log.specs.declared.event_log.Event.{Event}
use Rattle.flow_event_log.specs.Buckets.{name_at}
use Rattle.flow_event_log.specs.Numbers.{IsNumberedIn}
use Rattle.flow_event_log.specs.Rows.{AreNumbered, row_of, rows_of}

-- the names that were there keep their numbers
pub record Keeps (old new : List (List ℕ)) : Type 0 where
  pub as_many : length old ≤ length new
  pub names : (k : ℕ) → k < length old → name_at new k ≡ name_at old k

pub itself : (names : List (List ℕ)) → Keeps names names
itself names = record { as_many = (omega arith); names = λ k below. refl }

pub keeps : (old : List (List ℕ)) (text : List ℕ) (new : List (List ℕ)) → IsNumberedIn old text new → Keeps old new
keeps old text new numbered = elim numbered [
  | inl same ↦ record {
    as_many = (let e = ap length same.1 in omega (arith, e));
    names = λ k below. ap (λ (names : List (List ℕ)). name_at names k) same.1;
  }
  | inr more ↦ record {
    as_many = (let e = ap length more.1 in omega (arith, e, length-append old (text ∷ [])));
    names = λ k below. ap (λ (names : List (List ℕ)). name_at names k) more.1 ∙ get_or-append old (text ∷ []) [] k below;
  }
]

pub numbered_more : (c a c' a' : ℕ) (events : List Event) → c ≤ c' → a ≤ a' → AreNumbered c a events → AreNumbered c' a' events
numbered_more c a c' a' events more_cases more_activities numbered = λ k e stands.
    let old = numbered k e stands in (omega (arith, old.0, more_cases), omega (arith, old.1, more_activities))

pair_same : {X Y : Type 0} (a b : X) (c d : Y) → a ≡ b → c ≡ d → let p : X × Y = (a, c) in let q : X × Y = (b, d) in p ≡ q
pair_same a b c d e f = cc

pub rows_same : (cases activities cases' activities' : List (List ℕ)) (events : List Event) → Keeps cases cases' → Keeps activities activities' →
    AreNumbered (length cases) (length activities) events → rows_of cases' activities' events ≡ rows_of cases activities events
rows_same cases activities cases' activities' [] of_cases of_activities numbered = refl
rows_same cases activities cases' activities' (e ∷ events) of_cases of_activities numbered =
    let here = numbered zero e refl in
    let first : row_of cases' activities' e ≡ row_of cases activities e =
    pair_same (name_at cases' e.case) (name_at cases e.case) (name_at activities' e.activity) (name_at activities e.activity)
    (of_cases.names e.case here.0) (of_activities.names e.activity here.1) in
    let rest = rows_same cases activities cases' activities' events of_cases of_activities (λ k f stands. numbered (suc k) f stands) in
    cc

pub numbered_pushed : (c a : ℕ) (events new : List Event) (e : Event) (pushed : Bool) → new ≡ (if pushed then events ++ e ∷ [] else events) → AreNumbered c a events →
    e.case < c → e.activity < a → AreNumbered c a new
numbered_pushed c a events new e false is numbered of_case of_activity = λ k x stands. numbered k x (ap (λ (es : List Event). slice_get es k) (sym is) ∙ stands)
numbered_pushed c a events new e true is numbered of_case of_activity = λ k x stands.
    elim (get_cases events e k x (ap (λ (es : List Event). slice_get es k) (sym is) ∙ stands)) [
      | inl before ↦ numbered k x before
      | inr last ↦ (subst (λ (y : Event). y.case < c) (sym last.1) of_case, subst (λ (y : Event). y.activity < a) (sym last.1) of_activity)
    ]

pub rows_more : (cases activities cases' activities' : List (List ℕ)) (events new : List Event) (e : Event) (case activity : List ℕ) → Keeps cases cases' → Keeps activities activities' →
    AreNumbered (length cases) (length activities) events → new ≡ events ++ e ∷ [] → slice_get cases' e.case ≡ Some case → slice_get activities' e.activity ≡ Some activity →
    rows_of cases' activities' new ≡ rows_of cases activities events ++ (case, activity) ∷ []
rows_more cases activities cases' activities' events new e case activity of_cases of_activities numbered grown at_case at_activity =
    let same = rows_same cases activities cases' activities' events of_cases of_activities numbered in
    let row : row_of cases' activities' e ≡ (case, activity) =
    pair_same (name_at cases' e.case) case (name_at activities' e.activity) activity
    (get_or_from_slice_get cases' e.case case [] at_case) (get_or_from_slice_get activities' e.activity activity [] at_activity) in
    ap (rows_of cases' activities') grown ∙ map-append (row_of cases' activities') events (e ∷ [])
    ∙ ap (λ (front : List (List ℕ × List ℕ)). front ++ row_of cases' activities' e ∷ []) same
    ∙ ap (λ (r : List ℕ × List ℕ). rows_of cases activities events ++ r ∷ []) row
