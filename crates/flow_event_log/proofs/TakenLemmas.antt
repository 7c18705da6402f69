-- Records are taken one after another.
use Rattle.std.proofs.Common.{◌≡◌, ◌⊎◌, ◌+◌, ◌++◌, ◌∷◌, [], ℕ, List, length, Some, slice_get, inl, inr, refl, sym, ap, subst, ◌∙◌, append-nil, append_assoc, length-append, arith, zero, suc, ◌<◌, take, get_or, Vec, Global}
use Rattle.std.specs.Prelude.{OnOk, Result, Ok, Err}
use Rattle.std.proofs.lemmas.List.{map-append, take_more}
use Rattle.csv.specs.Records.{field_at}
use Rattle.flow_event_log.specs.declared.columns.Columns.{Columns}
use Rattle.flow_event_log.specs.Numbers.{IsNumberedIn}
use Rattle.flow_event_log.specs.declared.event_log.EventLog.{EventLog}
use Rattle.flow_event_log.specs.declared.reading.Reading.{Reading}
use Rattle.flow_event_log.specs.Logs.{rows_in}
use Rattle.flow_event_log.specs.Taken.{AreNames, AreTaken, HasFields, HasNames, IsName, IsRow, IsTaken, IsTakenFrom, TakesUp, texts_of}
use Rattle.flow_event_log.proofs.ReachedLemmas.{get_cases}

module _ (columns : Columns) (fields : List (List ℕ)) (one : List (List ℕ × List ℕ)) (taken : IsTaken columns fields one) where
  pub taken_more : (records : List (List (List ℕ))) (rows : List (List ℕ × List ℕ)) → AreTaken columns records rows → AreTaken columns (records ++ fields ∷ []) (rows ++ one)
  taken_more [] rows are = (one, [], taken, refl, ap (λ (l : List (List ℕ × List ℕ)). l ++ one) are ∙ sym (append-nil one))
  taken_more (front ∷ records) rows (first, more, is, rest, e) =
      (first, more ++ one, is, taken_more records more rest, ap (λ (l : List (List ℕ × List ℕ)). l ++ one) e ∙ append_assoc first more one)

  pub from_more : (records : List (List (List ℕ))) (rows more : List (List ℕ × List ℕ)) (left_out more_out : ℕ) → more ≡ rows ++ one → length one + more_out ≡ 1 + left_out →
      IsTakenFrom columns records rows left_out → IsTakenFrom columns (records ++ fields ∷ []) more more_out
  from_more records rows more left_out more_out grown all is = record {
    taken = subst (AreTaken columns (records ++ fields ∷ [])) (sym grown) (taken_more records rows is.taken);
    all = (let long = ap length grown in omega (arith, long, all, is.all, length-append rows one, length-append records (fields ∷ [])));
  }

pub names_more : (names new : List (List ℕ)) (name : List ℕ) → AreNames names → IsName name → IsNumberedIn names name new → AreNames new
names_more names new name are is numbered = elim numbered [
  | inl known ↦ subst AreNames (sym known.1) are
  | inr added ↦ subst AreNames (sym added.1) (λ k other there. elim (get_cases names name k other there) [
    | inl before ↦ are k other before
    | inr last ↦ subst IsName (sym last.1) is
  ])
]

on_ok : {A E : Type 0} (r : Result A E) (P Q : Type 0) → (P → Q) → OnOk r P → OnOk r Q
on_ok (Ok a) P Q f p = f p
on_ok (Err e) P Q f p = p

some_same : {A : Type 0} (a b : A) → Some a ≡ Some b → a ≡ b
some_same a b e = cc

pub bad_names : (columns : Columns) (fields : List (List ℕ)) (case activity : List ℕ) → HasFields columns fields case activity → ¬ (IsName case × IsName activity) →
    (row : List ℕ × List ℕ) → ¬ (IsRow columns fields row)
bad_names columns fields case activity has bad row is =
    let same_case : row.0 ≡ case = some_same row.0 case (sym is.0.0 ∙ has.0) in
    let same_activity : row.1 ≡ activity = some_same row.1 activity (sym is.0.1 ∙ has.1) in
    bad (subst IsName same_case is.1.0, subst IsName same_activity is.1.1)

module _ (old new : Reading) (fields : List (List ℕ)) where
  left_out : new ≡ record old { bad_rows = new.bad_rows; left_out = old.left_out + 1 } → HasNames old.log → ((row : List ℕ × List ℕ) → ¬ (IsRow old.columns fields row)) → TakesUp old fields new
  left_out same names bad = subst (TakesUp old fields) (sym same) (record {
    rows = [];
    taken = inr (bad, refl);
    grown = sym (append-nil (rows_in old.log));
    all = omega arith;
    names = names;
    columns = refl;
    header = refl;
    was_sorted = refl;
  })

  -- the same of an answer
  pub answered : (E : Type 0) (result : Result (Unit {0}) E) → OnOk result (new ≡ record old { bad_rows = new.bad_rows; left_out = old.left_out + 1 }) → HasNames old.log →
      ((row : List ℕ × List ℕ) → ¬ (IsRow old.columns fields row)) → OnOk result (TakesUp old fields new)
  answered E result left names bad = on_ok result _ _ (λ same. left_out same names bad) left

  pub answered_after : (E : Type 0) (result : Result (Unit {0}) E) (log : EventLog) → log ≡ old.log →
      OnOk result (new ≡ record old { log = log; bad_rows = new.bad_rows; left_out = old.left_out + 1 }) → HasNames old.log →
      ((row : List ℕ × List ℕ) → ¬ (IsRow old.columns fields row)) → OnOk result (TakesUp old fields new)
  answered_after E result log kept left names bad =
      answered E result (subst (λ (l : EventLog). OnOk result (new ≡ record old { log = l; bad_rows = new.bad_rows; left_out = old.left_out + 1 })) kept left) names bad

pub no_names : (names : List (List ℕ)) → names ≡ [] → AreNames names
no_names names none k name there = cc (rw none at there)

field_value : (fields : List (List ℕ)) (place : ℕ) (name : List ℕ) → field_at fields place ≡ Some name → (place < length fields) × (get_or fields place [] ≡ name)
unfolding field_at
field_value [] place name e = cc
field_value (f ∷ fs) zero name e = (omega arith, some_same f name e)
field_value (f ∷ fs) (suc place) name e = (let rest = (field_value fs place name e).0 in omega arith, (field_value fs place name e).1)

-- one more field is copied
pub field_more : (fields : List (List ℕ)) (place : ℕ) (name : List ℕ) (texts more : List (Vec ℕ Global)) (text : Vec ℕ Global) → field_at fields place ≡ Some name →
    more ≡ texts ++ text ∷ [] → text.items ≡ name → texts_of texts ≡ take place fields → texts_of more ≡ take (place + 1) fields
field_more fields place name texts more text there grown is are =
    let value = field_value fields place name there in
    ap texts_of grown ∙ map-append (λ (t : Vec ℕ Global). t.items) texts (text ∷ []) ∙ ap (λ (l : List (List ℕ)). l ++ text.items ∷ []) are ∙ ap (λ (n : List ℕ). take place fields ++ n ∷ []) (is ∙ sym value.1)
    ∙ sym (take_more fields place [] value.0)
