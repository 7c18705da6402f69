-- Records at the front of bytes.
use Rattle.std.proofs.Common.{◌≡◌, ◌≤◌, ℕ, List, [], ◌∷◌, ◌++◌, length, take, drop, refl, sym, ap, ◌∙◌, arith, append_assoc, length-append, take-append-drop}
use Rattle.std.proofs.lemmas.List.{take_at}
use Rattle.flow_model.specs.declared.history.Entry.{Entry}
use Rattle.flow_model.specs.Decided.{cons_same}
use Rattle.flow_record.specs.History.{IsSmall}
use Rattle.flow_keep.specs.Records.{body_of}
use Rattle.flow_keep.proofs.EntryLemmas.{same_entry}
use Rattle.flow_step.specs.Records.{record_of, records_of}

-- the records of two histories, one behind the other
pub records-append : (a b : List Entry) → records_of (a ++ b) ≡ records_of a ++ records_of b
records-append [] b = refl
records-append (entry ∷ a) b = ap (λ (l : List ℕ). record_of entry ++ l) (records-append a b) ∙ sym (append_assoc (record_of entry) (records_of a) (records_of b))

-- one record more
pub one_more : (entries : List Entry) (entry : Entry) (rest : List ℕ) → records_of (entries ++ entry ∷ []) ++ rest ≡ records_of entries ++ (record_of entry ++ rest)
one_more entries entry rest =
    ap (λ (l : List ℕ). l ++ rest) (records-append entries (entry ∷ [])) ∙ append_assoc (records_of entries) (record_of entry ++ []) rest
    ∙ ap (λ (l : List ℕ). records_of entries ++ l) (append_assoc (record_of entry) [] rest)

-- bytes that begin with a record have fifteen behind its gate
pub body_there : (entry : Entry) (gate : ℕ) (rest more : List ℕ) → gate ∷ rest ≡ record_of entry ++ more → rest ≡ body_of entry ++ more
body_there entry gate rest more same = (cons_same gate 1 rest (body_of entry ++ more) same).1

pub gate_there : (entry : Entry) (gate : ℕ) (rest more : List ℕ) → gate ∷ rest ≡ record_of entry ++ more → gate ≡ 1
gate_there entry gate rest more same = (cons_same gate 1 rest (body_of entry ++ more) same).0

pub body_is : (entry : Entry) (rest more : List ℕ) → rest ≡ body_of entry ++ more → take 15 rest ≡ body_of entry
body_is entry rest more same = ap (λ (l : List ℕ). take 15 l) same ∙ take_at (body_of entry) more 15 refl

pub body_long : (entry : Entry) (rest more : List ℕ) → rest ≡ body_of entry ++ more → 15 ≤ length rest
body_long entry rest more same = let long = ap (λ (l : List ℕ). length l) same in omega (arith, long, length-append (body_of entry) more)

-- the bytes behind a gate, and what follows them
pub record_there : (entry : Entry) (rest body more : List ℕ) → body_of entry ≡ body → body ≡ take 15 rest → more ≡ drop 15 rest → 1 ∷ rest ≡ record_of entry ++ more
record_there entry rest body more is front back =
    ap (λ (l : List ℕ). 1 ∷ l) (sym (take-append-drop 15 rest) ∙ sym (ap (λ (l : List ℕ). l ++ drop 15 rest) (is ∙ front)) ∙ sym (ap (λ (l : List ℕ). body_of entry ++ l) back))

-- two records at the front of the same bytes are one
pub same_record : (a b : Entry) (x y : List ℕ) → IsSmall a → IsSmall b → record_of a ++ x ≡ record_of b ++ y → a ≡ b
same_record a b x y p q same =
    let inner : body_of a ++ x ≡ body_of b ++ y = (cons_same 1 1 (body_of a ++ x) (body_of b ++ y) same).1 in
    same_entry a b p q (sym (take_at (body_of a) x 15 refl) ∙ ap (λ (l : List ℕ). take 15 l) inner ∙ take_at (body_of b) y 15 refl)
