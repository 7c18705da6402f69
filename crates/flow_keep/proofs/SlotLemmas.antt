-- The record of a number, as it is read: seventeen bytes, or fewer at the end.
use Rattle.std.proofs.Common.{◌≡◌, ◌≢◌, ℕ, ◌+◌, ◌*◌, ◌<◌, ◌≤◌, min, true, false, List, [], ◌∷◌, ◌++◌, map, length, get_or, take, drop, sym, ap, subst, ◌∙◌, arith}
use Rattle.std.proofs.lemmas.List.{append-nil, take-take, drop-take, get_or-take, map_push}
use Rattle.flow_model.specs.declared.history.Entry.{Entry}
use Rattle.flow_model.specs.Run.{IsLegal}
use Rattle.flow_core.specs.Run.{Run, schema}
use Rattle.flow_workflow.specs.Definition.{Definition, schema_of}
use Rattle.flow_model.specs.Lists.{Each}
use Rattle.flow_record.specs.History.{IsSmall}
use Rattle.flow_keep.specs.Records.{is_open, body_at, body_of, records, Keeps}
use Rattle.flow_keep.specs.declared.slot.Slot.{Slot}
use Rattle.flow_keep.specs.Slot.{IsSlot}
use Rattle.flow_keep.specs.Opened.{IsForeign, HasNoForeign}
use Rattle.flow_keep.proofs.ToldLemmas.{none_foreign}
use Rattle.flow_keep.proofs.RecordLemmas.{open_made, shut_gate, shut_end, records_open, records_shut, records_from}

-- what seventeen bytes tell
module _ (bytes rest : List ℕ) (size : length bytes ≡ 17) (count : ℕ) (read : take count bytes ≡ take count rest) (all : count ≡ min (length bytes) (length rest)) where
  gate_is : 17 ≤ count → get_or rest 0 0 ≡ get_or bytes 0 0
  gate_is long = sym (get_or-take count rest 0 0 (omega (arith, long))) ∙ ap (λ (l : List ℕ). get_or l 0 0) (sym read) ∙ get_or-take count bytes 0 0 (omega (arith, long))

  pub head_short : count < 17 → is_open rest ≡ false
  head_short few = shut_end rest (omega (arith, few, all, size))

  pub head_shut : 17 ≤ count → get_or bytes 0 0 ≢ 1 → is_open rest ≡ false
  head_shut long shut = shut_gate rest (λ one. shut (sym (gate_is long) ∙ one))

  pub head_open : 17 ≤ count → get_or bytes 0 0 ≡ 1 → is_open rest ≡ true
  head_open long one = open_made rest (gate_is long ∙ one) (omega (arith, long, all, size))

  sixteen : (l : List ℕ) → 17 ≤ count → body_at l ≡ drop 1 (take 16 (take count l))
  sixteen l long = sym (drop-take 1 15 l) ∙ ap (drop 1) (sym (take-take 16 count l (omega (arith, long))))

  pub head_body : 17 ≤ count → body_at bytes ≡ body_at rest
  head_body long = sixteen bytes long ∙ ap (λ (l : List ℕ). drop 1 (take 16 l)) read ∙ sym (sixteen rest long)

-- what stands at a place of a file, by the file that was read
pub same_slot : (read file : List ℕ) (place : ℕ) (slot same : Slot) → read ≡ file → slot ≡ same → IsSlot (drop place read) slot → IsSlot (drop place file) same
same_slot read file place slot same is told at = subst (λ (s : Slot). IsSlot (drop place file) s) told (subst (λ (f : List ℕ). IsSlot (drop place f) slot) is at)

-- at the first record that is not open the history is all that the file keeps
pub kept_all : (file : List ℕ) (k : ℕ) (history : List Entry) → records file ≡ map body_of history ++ records (drop (16 * k) file) → is_open (drop (16 * k) file) ≡ false → Keeps history file
kept_all file k history so_far shut =
    so_far ∙ ap (λ (l : List (List ℕ)). map body_of history ++ l) (records_shut (drop (16 * k) file) shut) ∙ append-nil (map body_of history)

-- one record more
pub kept_more : (file : List ℕ) (k : ℕ) (history : List Entry) (entry : Entry) → records file ≡ map body_of history ++ records (drop (16 * k) file) → length history ≡ k →
    is_open (drop (16 * k) file) ≡ true → body_of entry ≡ body_at (drop (16 * k) file) →
    records file ≡ map body_of (history ++ entry ∷ []) ++ records (drop (16 * (k + 1)) file)
kept_more file k history entry so_far counted open_now is =
    records_from file k (map body_of history) so_far open_now
    ∙ ap (λ (b : List ℕ). (map body_of history ++ b ∷ []) ++ records (drop (16 * (k + 1)) file)) (sym is)
    ∙ ap (λ (l : List (List ℕ)). l ++ records (drop (16 * (k + 1)) file)) (sym (map_push body_of history entry))

-- what is legal for one run is legal for another of the same workflow and limit
legal_too : (r first : Run) → r.definition ≡ first.definition → r.limit ≡ first.limit → (h : List Entry) → IsLegal (schema r) r.limit h → IsLegal (schema first) first.limit h
legal_too r first definition limit h legal =
    subst (λ (d : Definition). IsLegal (schema_of d) first.limit h) definition (subst (λ n. IsLegal (schema r) n h) limit legal)

-- a record that no legal entry has
pub foreign_at : (r first : Run) (file : List ℕ) (k : ℕ) → Each IsSmall r.history → IsLegal (schema r) r.limit r.history → r.definition ≡ first.definition → r.limit ≡ first.limit → length r.history ≡ k →
    records file ≡ map body_of r.history ++ records (drop (16 * k) file) → is_open (drop (16 * k) file) ≡ true →
    ((entry : Entry) → IsSmall entry → body_of entry ≡ body_at (drop (16 * k) file) → ¬ (IsLegal (schema r) r.limit (r.history ++ entry ∷ []))) →
    IsForeign (schema first) first.limit (records file) k
foreign_at r first file k small legal definition limit counted so_far open_now none =
    record {
      earlier = r.history;
      small = small;
      legal = legal_too r first definition limit r.history legal;
      counted = counted;
      body = body_at (drop (16 * k) file);
      later = records (drop 16 (drop (16 * k) file));
      split = so_far ∙ ap (λ (l : List (List ℕ)). map body_of r.history ++ l) (records_open (drop (16 * k) file) open_now);
      none = λ entry small is legal_now. none entry small is (legal_too first r (sym definition) (sym limit) (r.history ++ entry ∷ []) legal_now);
    }

-- a run of all records of a file
pub none_left : (r first : Run) (file : List ℕ) → Each IsSmall r.history → IsLegal (schema r) r.limit r.history → r.definition ≡ first.definition → r.limit ≡ first.limit →
    Keeps r.history file → HasNoForeign (schema first) first.limit (records file)
none_left r first file small legal definition limit keeps =
    none_foreign (schema first) first.limit r.history file (legal_too r first definition limit r.history legal) small keeps
