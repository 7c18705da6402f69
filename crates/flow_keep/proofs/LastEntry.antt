-- The last entry of a history.
use Rattle.std.proofs.Common.{◌≡◌, inl, inr, ℕ, ◌+◌, ◌*◌, ◌<◌, ◌≤◌, List, [], ◌∷◌, ◌++◌, map, length, get_or, take, sym, ap, subst, ◌∙◌, arith, length-append}
use Rattle.std.proofs.lemmas.List.{map_more, take_more, take_all, get_or_at, length-take-le}
use Rattle.flow_model.specs.declared.history.Entry.{Entry}
use Rattle.flow_model.specs.Lists.{Each}
use Rattle.flow_model.proofs.Lists.{each-append}
use Rattle.flow_record.specs.History.{IsSmall}
use Rattle.flow_keep.specs.Records.{body_of}
use Rattle.flow_disk.specs.Disk.{Holds}
use Rattle.flow_keep.specs.Kept.{IsBeforeOrAfter, KeepsEither, GainsRecord}

-- the records of a history are those in front of its last entry, and that one's
pub all_kept : (history : List Entry) (count : ℕ) (d : Entry) (body : List ℕ) → length history ≡ count + 1 → body ≡ body_of (get_or history count d) →
    map body_of (take count history) ++ body ∷ [] ≡ map body_of history
all_kept history count d body counted is =
    ap (λ (b : List ℕ). map body_of (take count history) ++ b ∷ []) is ∙ sym (map_more body_of history count d (omega arith))
    ∙ ap (λ (l : List Entry). map body_of l) (take_all (count + 1) history (omega arith))

-- a file of these records or of these and one more keeps the history before or after the last entry
pub either_kept : (history : List Entry) (count : ℕ) (d : Entry) (bodies : List (List ℕ)) (body : List ℕ) → length history ≡ count + 1 → body ≡ body_of (get_or history count d) →
    bodies ≡ map body_of (take count history) → (c : List ℕ) → IsBeforeOrAfter bodies body c → KeepsEither (take count history) history c
either_kept history count d bodies body counted is kept c (inl before) = inl (before ∙ kept)
either_kept history count d bodies body counted is kept c (inr after) =
    inr (after ∙ ap (λ (l : List (List ℕ)). l ++ body ∷ []) kept ∙ all_kept history count d body counted is)

-- the numbers of a history are of 32 bits, where those of its last entry are
pub all_small : (history : List Entry) (count : ℕ) (d : Entry) → length history ≡ count + 1 → IsSmall (get_or history count d) → Each IsSmall (take count history) → Each IsSmall history
all_small history count d counted last others =
    subst (Each IsSmall) (sym (take_more history count d (omega arith)) ∙ take_all (count + 1) history (omega arith))
    (each-append IsSmall (take count history) (get_or history count d ∷ []) others (last, tt))

-- a file that holds the last entry's record behind those before it
pub gains_last : (history : List Entry) (count : ℕ) (d : Entry) (body file file' : List ℕ) → length history ≡ count + 1 → body ≡ body_of (get_or history count d) →
    Holds file (16 * count) (1 ∷ (body ++ 0 ∷ [])) file' → GainsRecord (take count history) history file file'
gains_last history count d body file file' counted is holds entry more =
    let size : length (take count history) ≡ count = length-take-le count history (omega (arith, counted)) in
    let last : entry ≡ get_or history count d = sym (get_or_at (take count history) entry [] d count size) ∙ ap (λ (l : List Entry). get_or l count d) (sym more) in
    subst (λ n. Holds file (16 * n) (1 ∷ (body_of entry ++ 0 ∷ [])) file') (sym size)
    (subst (λ (b : List ℕ). Holds file (16 * count) (1 ∷ (b ++ 0 ∷ [])) file') (is ∙ ap body_of (sym last)) holds)

-- where no entry came
pub gains_nothing : (history : List Entry) (count : ℕ) (file file' : List ℕ) → length history ≤ count → GainsRecord (take count history) history file file'
gains_nothing history count file file' even entry more =
    let longer = ap (λ (l : List Entry). length l) more ∙ length-append (take count history) (entry ∷ []) in
    let same = ap (λ (l : List Entry). length l) (take_all count history even) in
    absurd (omega (arith, longer, same))
