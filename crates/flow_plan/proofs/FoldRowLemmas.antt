-- The rows of choices that stay, by where these have their leaves.
use Rattle.std.proofs.Common.{◌≡◌, ℕ, ◌+◌, ◌-◌, ◌<◌, ◌≤◌, ◌↔◌, Bool, List, [], ◌∷◌, ◌++◌, length, take, get_or, inl, inr, ⊎_elim, sym, subst, arith}
use Rattle.std.proofs.lemmas.List.{take_more}
use Rattle.flow_model.specs.Lists.{◌∈◌, AreDistinct, numbers_from}
use Rattle.flow_model.specs.Process.{Process, leaves}
use Rattle.flow_model.specs.Folding.{choices_of, folded_resolutions, staying_choices}
use Rattle.flow_model.proofs.MadeLists.{numbers_from_least, numbers_from_below, mem-numbers_from}
use Rattle.flow_fold_laws.specs.SharedFolds.{TellsChoices}
use Rattle.flow_fold_laws.proofs.StayingChoices.{HasNoneOf, tells_own, staying_choices_serve_each}
use Rattle.flow_goal.specs.declared.fold.Fold.{Fold}
use Rattle.flow_goal.specs.Folds.{IsSpanOf, AreSpansOf}
use Rattle.flow_plan.specs.declared.fold_row.FoldRow.{FoldRow}
use Rattle.flow_plan.specs.FoldRows.{IsRowFor, IsFoldRow, AreFoldRows}
use Rattle.flow_plan.proofs.FoldPass.{TellRows, has_both}

-- one row each
abbrev pub AreRowsFor : List Fold → List FoldRow → Type 0
AreRowsFor [] [] = Unit {0}
AreRowsFor [] (row ∷ rows) = ⊥
AreRowsFor (fold ∷ folds) [] = ⊥
AreRowsFor (fold ∷ folds) (row ∷ rows) = IsRowFor fold row × AreRowsFor folds rows

rows_end : (folds : List Fold) (rows : List FoldRow) (fold : Fold) (row : FoldRow) → AreRowsFor folds rows → IsRowFor fold row → AreRowsFor (folds ++ fold ∷ []) (rows ++ row ∷ [])
rows_end [] [] fold row are is = (is, tt)
rows_end [] (first ∷ rows) fold row are is = absurd are
rows_end (first ∷ folds) [] fold row are is = absurd are
rows_end (first ∷ folds) (second ∷ rows) fold row are is = (are.0, rows_end folds rows fold row are.1 is)

-- one more
pub rows_more : (folds : List Fold) (i : ℕ) (rows new : List FoldRow) (none : Fold) (row : FoldRow) → i < length folds → new ≡ rows ++ row ∷ [] →
    IsRowFor (get_or folds i none) row → AreRowsFor (take i folds) rows → AreRowsFor (take (i + 1) folds) new
rows_more folds i rows new none row within added is are =
    subst (AreRowsFor (take (i + 1) folds)) (sym added)
    (subst (λ (l : List Fold). AreRowsFor l (rows ++ row ∷ [])) (sym (take_more folds i none within))
    (rows_end (take i folds) rows (get_or folds i none) row are is))

in_span : (list : List ℕ) (first end n : ℕ) → list ≡ numbers_from first (end - first) → first < end → n ∈ list ↔ (first ≤ n × n < end)
in_span list first end n e some = (
  λ m. let k = subst (λ l. n ∈ l) e m in
      let high = numbers_from_below first (end - first) n k in (numbers_from_least first (end - first) n k, omega (arith, high)),
  λ (low, high). subst (λ l. n ∈ l) (sym e) (mem-numbers_from first (end - first) n low (omega arith)),
)

row_of_choice : (choice : Process × Process) (fold : Fold) (row : FoldRow) → IsSpanOf choice fold → IsRowFor fold row → IsFoldRow choice row
row_of_choice choice fold row span is = record {
  left = λ n. let (to, from) = in_span (leaves choice.0) fold.first fold.middle n span.left span.left_some in
      (λ h. from ((is.left n).0 h), λ m. (is.left n).1 (to m));
  right = λ n. let (to, from) = in_span (leaves choice.1) fold.middle fold.end n span.right span.right_some in
      (λ h. from ((is.right n).0 h), λ m. (is.right n).1 (to m));
}

-- rows of choices that tell others tell them too
rows_tell : (ns : List ℕ) (choices all : List (Process × Process)) (folds : List Fold) (rows : List FoldRow) →
    TellsChoices (λ choice entry. choice ≡ entry) (HasNoneOf ns) choices all → AreSpansOf all folds → AreRowsFor folds rows → TellRows ns choices rows
rows_tell ns choices [] [] [] tells spans are = tells
rows_tell ns choices [] [] (row ∷ rows) tells spans are = absurd are
rows_tell ns choices [] (fold ∷ folds) rows tells spans are = absurd spans
rows_tell ns choices (entry ∷ all) [] rows tells spans are = absurd spans
rows_tell ns choices (entry ∷ all) (fold ∷ folds) [] tells spans are = absurd are
rows_tell ns choices (entry ∷ all) (fold ∷ folds) (row ∷ rows) tells spans are =
    let is = row_of_choice entry fold row spans.0 are.0 in ⊎_elim
    (λ (choice, more, e, same, t).
    inl (choice, more, e, subst (λ (c : Process × Process). IsFoldRow c row) (sym same) is, rows_tell ns more all folds rows t spans.1 are.1))
    (λ (none, t). inr (λ n m has. none n m ((has_both entry row is n).0 has), rows_tell ns choices all folds rows t spans.1 are.1)) tells

pub own_rows : (folds : List Fold) (rows : List FoldRow) (q : Process) → AreSpansOf (choices_of q) folds → AreRowsFor folds rows → AreFoldRows q rows
own_rows folds rows q spans are = rows_tell (leaves q) (choices_of q) (choices_of q) folds rows (tells_own (HasNoneOf (leaves q)) (choices_of q)) spans are

pub shared_rows : (folds : List Fold) (rows : List FoldRow) (apart : ℕ → Bool) (g q : Process) → AreDistinct (leaves g) → AreSpansOf (staying_choices apart g) folds →
    q ∈ folded_resolutions apart g → AreRowsFor folds rows → AreFoldRows q rows
shared_rows folds rows apart g q d spans m are =
    rows_tell (leaves q) (choices_of q) (staying_choices apart g) folds rows (staying_choices_serve_each apart g q d m) spans are
