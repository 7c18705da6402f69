-- What the rows of isolated parts say.
use Rattle.std.proofs.Common.{◌≡◌, ◌≢◌, ℕ, ◌+◌, ◌-◌, ◌<◌, ◌≤◌, zero, suc, Bool, true, false, not, ◌==◌, ◌&&◌, ◌||◌, ◌↔◌, IsTrue, List, [], ◌∷◌, ◌++◌, length, take, drop, get_or, inl, inr, ◌⊎◌, ⊎_elim, refl, sym, ◌∙◌, ap, subst, arith, min}
use Rattle.std.proofs.Math.Seq.{take-add}
use Rattle.std.proofs.lemmas.List.{take_more, drop-drop, length-take, length-drop, get_or-take, get_or-drop}
use Rattle.std.proofs.lemmas.Bool.{cases_lt, cases_eq, or_cases, or_left, or_right}
use Rattle.std.specs.List.Sorted.{IsStrictlyIncreasing}
use Rattle.leaf_rows.specs.Leaves.{has_leaf}
use Rattle.leaf_rows.specs.declared.leaf_set.LeafSet.{LeafSet}
use Rattle.flow_model.specs.Lists.{◌∈◌, Each}
use Rattle.flow_model.specs.Process.{Process, leaves}
use Rattle.flow_model.specs.Ready.{DirectlyBefore}
use Rattle.flow_model.proofs.Lists.{mem_append_left, mem_append_right, mem-append, only_one, each_member, each_from_members, mem-slice_get}
use Rattle.flow_plan.specs.declared.part_row.PartRow.{PartRow}
use Rattle.flow_plan.specs.declared.part_row.Reach.{Reach}
use Rattle.flow_plan.specs.declared.span.Span.{Span}
use Rattle.flow_plan.specs.Rows.{IsRowOf, AreRowsOf}
use Rattle.flow_plan.specs.Ahead.{IsInSome, IsOutside}
use Rattle.flow_plan.specs.Span.{at_span, IsEarlier, AreRising, AddsSpans}
use Rattle.flow_plan.specs.Parts.{IsOneAtMost, IsPartFor, IsPlaced, ArePartsFor, Reaches, IsPartRow, HasTwo, HaveSameLeaves, HaveOtherLeaves, ArePartsOf}
use Rattle.std.proofs.lemmas.Option.{slice_get-get_or}
use Rattle.flow_plan.proofs.PlaceLemmas.{place_of_member, read_member}
use Rattle.std.proofs.lemmas.List.Kept.{AllPairs-from_increasing}
use Rattle.flow_plan.proofs.RowLemmas.{row_same, one_more, mem_more}

-- ---- sets made leaf by leaf and row by row

pub leaf_more : {w : ℕ} → (ns : List ℕ) (i : ℕ) (now new : LeafSet w) → i < length ns → IsRowOf (λ x. x ∈ take i ns) now →
    ((x : ℕ) → has_leaf new x ≡ (x == get_or ns i 0 || has_leaf now x)) → IsRowOf (λ x. x ∈ take (i + 1) ns) new
leaf_more ns i now new within is noted x =
    let more = mem_more ns i within x in
    let one = one_more x (get_or ns i 0) (has_leaf now x) in (
      λ has. more.1 (⊎_elim (λ h. inl ((is x).0 h)) (λ last. inr (only_one x _ last)) (one.0 (sym (noted x) ∙ has))),
      λ member. noted x ∙ one.1 (⊎_elim (λ h. inl ((is x).1 h)) (λ same. inr (inl same)) (more.0 member)),
    )

pub row_more : {w : ℕ} → (rows : List (LeafSet w)) (i : ℕ) (now new row : LeafSet w) → i < length rows → row ≡ get_or rows i row → IsRowOf (IsInSome (take i rows)) now →
    ((x : ℕ) → has_leaf new x ≡ (has_leaf now x || has_leaf row x)) → IsRowOf (IsInSome (take (i + 1) rows)) new
row_more {w} rows i now new row within at is union =
    let same : take (i + 1) rows ≡ take i rows ++ row ∷ [] = take_more rows i row within ∙ ap (λ (r : LeafSet w). take i rows ++ r ∷ []) (sym at) in
    subst (λ (l : List (LeafSet w)). IsRowOf (IsInSome l) new) (sym same)
    (λ x. (
      λ has. ⊎_elim (λ h. let found = (is x).0 h in (found.0, mem_append_left found.0 (take i rows) (row ∷ []) found.1, found.2))
          (λ h. (row, mem_append_right row (take i rows) (row ∷ []) (inl refl), h))
          (or_cases (has_leaf now x) (has_leaf row x) (sym (union x) ∙ has)),
      λ found. union x ∙ ⊎_elim (λ h. or_left (has_leaf now x) (has_leaf row x) ((is x).1 (found.0, h, found.2)))
          (λ last. ⊎_elim (λ (equal : found.0 ≡ row). or_right (has_leaf now x) (has_leaf row x) (subst (λ (r : LeafSet w). IsTrue (has_leaf r x)) equal found.2)) (λ none. absurd none) last)
          (mem-append found.0 (take i rows) (row ∷ []) found.1),
    ))

-- what the one has, and the other has not
pub left_over : (P Q : Type 0) (out has new : Bool) → new ≡ (not out && has) → IsTrue out ↔ P → IsTrue has ↔ Q → IsTrue new ↔ (¬ P × Q)
left_over P Q true has new is p q = (λ h. absurd (cc), λ both. absurd (both.0 (p.0 refl)))
left_over P Q false has new is p q = (λ h. ((λ x. let no = p.1 x in absurd (cc)), q.0 (sym is ∙ h)), λ both. is ∙ q.1 both.1)

-- the places of a span: those ahead of one within it, its own, and those behind it
pub span_in_three : {A : Type 0} (l : List A) (s t : Span) → s.first ≤ t.first → t.first ≤ t.end → t.end ≤ s.end →
    at_span s l ≡ take (t.first - s.first) (drop s.first l) ++ (at_span t l ++ take (s.end - t.end) (drop t.end l))
span_in_three l s t begins own ends =
    let front = t.first - s.first in
    let middle = t.end - t.first in
    let back = s.end - t.end in
    let size : s.end - s.first ≡ front + (middle + back) = omega arith in
    let at_first : s.first + front ≡ t.first = omega arith in
    let at_end : t.first + middle ≡ t.end = omega arith in
    ap (λ n. take n (drop s.first l)) size ∙ take-add front (middle + back) (drop s.first l)
    ∙ ap (λ rest. take front (drop s.first l) ++ rest)
    (ap (take (middle + back)) (drop-drop front s.first l ∙ ap (λ n. drop n l) at_first) ∙ take-add middle back (drop t.first l)
    ∙ ap (λ rest. at_span t l ++ rest) (ap (take back) (drop-drop middle t.first l ∙ ap (λ n. drop n l) at_end)))

in_three : {A : Type 0} (x : A) (a m b : List A) → x ∈ (a ++ (m ++ b)) ↔ ((x ∈ m ⊎ x ∈ a) ⊎ x ∈ b)
in_three x a m b = (
  λ h. ⊎_elim (λ p. inl (inr p)) (λ q. ⊎_elim (λ p. inl (inl p)) (λ p. inr p) (mem-append x m b q)) (mem-append x a (m ++ b) h),
  λ h. ⊎_elim (λ p. ⊎_elim (λ q. mem_append_right x a (m ++ b) (mem_append_left x m b q)) (λ q. mem_append_left x a (m ++ b) q) p)
      (λ p. mem_append_right x a (m ++ b) (mem_append_right x m b p)) h,
)

some_in_three : {w : ℕ} → (x : ℕ) (a m b : List (LeafSet w)) → IsInSome (a ++ (m ++ b)) x ↔ ((IsInSome m x ⊎ IsInSome a x) ⊎ IsInSome b x)
some_in_three x a m b = (
  λ h. ⊎_elim (λ p. ⊎_elim (λ q. inl (inl (h.0, q, h.2))) (λ q. inl (inr (h.0, q, h.2))) p) (λ p. inr (h.0, p, h.2)) ((in_three h.0 a m b).0 h.1),
  λ h. ⊎_elim (λ p. ⊎_elim (λ q. (q.0, (in_three q.0 a m b).1 (inl (inl q.1)), q.2)) (λ q. (q.0, (in_three q.0 a m b).1 (inl (inr q.1)), q.2)) p)
      (λ p. (p.0, (in_three p.0 a m b).1 (inr p.1), p.2)) h,
)

twice_more : (P Q R W : Type 0) (old mid new : Bool) → IsTrue old ↔ P → IsTrue mid ↔ (IsTrue old ⊎ Q) → IsTrue new ↔ (IsTrue mid ⊎ R) → W ↔ ((P ⊎ Q) ⊎ R) → IsTrue new ↔ W
twice_more P Q R W old mid new p q r w = (
  λ h. w.1 (⊎_elim (λ m. inl (⊎_elim (λ o. inl (p.0 o)) (λ k. inr k) (q.0 m))) (λ k. inr k) (r.0 h)),
  λ h. r.1 (⊎_elim (λ m. inl (q.1 (⊎_elim (λ o. inl (p.1 o)) (λ k. inr k) m))) (λ k. inr k) (w.0 h)),
)

pub reach_grown : {w : ℕ} → (ns : List ℕ) (rows : List (LeafSet w)) (s : Span) (old mid new : Reach w) → s.first ≤ old.span.first → old.span.first ≤ old.span.end → old.span.end ≤ s.end → Reaches ns rows old
    → ((x : ℕ) → IsTrue (has_leaf mid.inside x) ↔ (IsTrue (has_leaf old.inside x) ⊎ (x ∈ take (old.span.first - s.first) (drop s.first ns))))
    → ((x : ℕ) → IsTrue (has_leaf mid.before x) ↔ (IsTrue (has_leaf old.before x) ⊎ IsInSome (take (old.span.first - s.first) (drop s.first rows)) x))
    → ((x : ℕ) → IsTrue (has_leaf new.inside x) ↔ (IsTrue (has_leaf mid.inside x) ⊎ (x ∈ take (s.end - old.span.end) (drop old.span.end ns))))
    → ((x : ℕ) → IsTrue (has_leaf new.before x) ↔ (IsTrue (has_leaf mid.before x) ⊎ IsInSome (take (s.end - old.span.end) (drop old.span.end rows)) x))
    → IsRowOf (λ x. x ∈ at_span s ns) new.inside × IsRowOf (IsInSome (at_span s rows)) new.before
reach_grown {w} ns rows s old mid new begins own ends reaches front ahead back behind =
    let t = old.span in (
      (λ x. subst (λ l. IsTrue (has_leaf new.inside x) ↔ (x ∈ l)) (sym (span_in_three ns s t begins own ends))
          (twice_more _ _ _ _ _ _ _ (reaches.0 x) (front x) (back x) (in_three x _ (at_span t ns) _))),
      (λ x. subst (λ (l : List (LeafSet w)). IsTrue (has_leaf new.before x) ↔ IsInSome l x) (sym (span_in_three rows s t begins own ends))
          (twice_more _ _ _ _ _ _ _ (reaches.1 x) (ahead x) (behind x) (some_in_three x _ (at_span t rows) _))),
    )

-- ---- what stands at the places of a span

pub in_span : (ns : List ℕ) (s : Span) (x : ℕ) → x ∈ at_span s ns → (k : ℕ) × (s.first ≤ k) × (k < s.end) × (k < length ns) × (get_or ns k 0 ≡ x)
in_span ns s x member =
    let m : ℕ = s.end - s.first in
    let found = place_of_member (at_span s ns) x member in
    let long : length (at_span s ns) ≡ min m (length (drop s.first ns)) = length-take m (drop s.first ns) in
    let short : length (drop s.first ns) ≡ length ns - s.first = length-drop s.first ns in
    let within : found.0 < m = omega (arith, found.1, long) in (
      s.first + found.0,
      omega arith,
      omega (arith, within),
      omega (arith, found.1, long, short),
      sym (get_or-take m (drop s.first ns) found.0 0 within ∙ get_or-drop s.first ns found.0 0) ∙ found.2,
    )

pub at_place : (ns : List ℕ) (s : Span) (k : ℕ) → s.first ≤ k → k < s.end → k < length ns → get_or ns k 0 ∈ at_span s ns
at_place ns s k after before within =
    let m : ℕ = s.end - s.first in
    let j : ℕ = k - s.first in
    let long : length (at_span s ns) ≡ min m (length (drop s.first ns)) = length-take m (drop s.first ns) in
    let short : length (drop s.first ns) ≡ length ns - s.first = length-drop s.first ns in
    let inside : j < length (at_span s ns) = omega (arith, after, before, within, long, short) in
    let here : get_or (at_span s ns) j 0 ∈ at_span s ns = read_member (at_span s ns) j inside in
    let there : s.first + j ≡ k = omega (arith, after) in
    subst (λ (x : ℕ). x ∈ at_span s ns)
    (get_or-take m (drop s.first ns) j 0 (omega (arith, after, before)) ∙ get_or-drop s.first ns j 0 ∙ ap (λ (i : ℕ). get_or ns i 0) there) here

-- ---- the row of a part

rows_take : {w : ℕ} → (P : ℕ → ℕ → Type 0) (m : ℕ) (ns : List ℕ) (rows : List (LeafSet w)) → AreRowsOf P ns rows → AreRowsOf P (take m ns) (take m rows)
rows_take P zero ns rows are = tt
rows_take P (suc m) [] [] are = tt
rows_take P (suc m) [] (row ∷ rows) are = absurd are
rows_take P (suc m) (n ∷ ns) [] are = absurd are
rows_take P (suc m) (n ∷ ns) (row ∷ rows) are = (are.0, rows_take P m ns rows are.1)

rows_drop : {w : ℕ} → (P : ℕ → ℕ → Type 0) (f : ℕ) (ns : List ℕ) (rows : List (LeafSet w)) → AreRowsOf P ns rows → AreRowsOf P (drop f ns) (drop f rows)
rows_drop P zero ns rows are = are
rows_drop P (suc f) [] [] are = tt
rows_drop P (suc f) [] (row ∷ rows) are = absurd are
rows_drop P (suc f) (n ∷ ns) [] are = absurd are
rows_drop P (suc f) (n ∷ ns) (row ∷ rows) are = rows_drop P f ns rows are.1

ahead_of : {w : ℕ} → (P : ℕ → ℕ → Type 0) (ns : List ℕ) (rows : List (LeafSet w)) (x : ℕ) → AreRowsOf P ns rows → IsInSome rows x → (y : ℕ) × (y ∈ ns) × P x y
ahead_of P [] [] x are found = absurd found.1
ahead_of P [] (row ∷ rows) x are found = absurd are
ahead_of P (n ∷ ns) [] x are found = absurd are
ahead_of {w} P (n ∷ ns) (row ∷ rows) x are (r, inl same, has) = (n, inl refl, (are.0 x).0 (subst (λ (r : LeafSet w). IsTrue (has_leaf r x)) same has))
ahead_of P (n ∷ ns) (row ∷ rows) x are (r, inr member, has) =
    let later = ahead_of P ns rows x are.1 (r, member, has) in (later.0, inr later.1, later.2)

is_ahead : {w : ℕ} → (P : ℕ → ℕ → Type 0) (ns : List ℕ) (rows : List (LeafSet w)) (x y : ℕ) → AreRowsOf P ns rows → y ∈ ns → P x y → IsInSome rows x
is_ahead P [] rows x y are member holds = absurd member
is_ahead P (n ∷ ns) [] x y are member holds = absurd are
is_ahead P (n ∷ ns) (row ∷ rows) x y are (inl same) holds = (row, inl refl, (are.0 x).1 (subst (λ (m : ℕ). P x m) same holds))
is_ahead P (n ∷ ns) (row ∷ rows) x y are (inr member) holds =
    let later = is_ahead P ns rows x y are.1 member holds in (later.0, inr later.1, later.2)

pub part_row_of : {w : ℕ} → (q : Process) (pairs : List (ℕ × ℕ)) (ns : List ℕ) (before : List (LeafSet w)) (part : Process) (s : Span) (row : PartRow w) →
    AreRowsOf (DirectlyBefore q pairs) ns before → at_span s ns ≡ leaves part → IsPartFor ns before s row → IsPartRow q pairs part row
part_row_of q pairs ns before part s row are is for =
    let P : ℕ → ℕ → Type 0 = DirectlyBefore q pairs in
    let here : AreRowsOf P (at_span s ns) (at_span s before) = rows_take P (s.end - s.first) (drop s.first ns) (drop s.first before) (rows_drop P s.first ns before are) in record {
      inside = subst (λ (l : List ℕ). IsRowOf (λ x. x ∈ l) row.inside) is for.inside;
      outside = subst (λ (l : List ℕ). IsRowOf (λ x. ¬ (x ∈ l) × ((y : ℕ) × (y ∈ l) × P x y)) row.outside) is
          (row_same (IsOutside (at_span s ns) (at_span s before)) (λ x. ¬ (x ∈ at_span s ns) × ((y : ℕ) × (y ∈ at_span s ns) × P x y)) row.outside
          (λ x out. (out.0, ahead_of P (at_span s ns) (at_span s before) x here out.1))
          (λ x out. (out.0, is_ahead P (at_span s ns) (at_span s before) x out.1.0 here out.1.1 out.1.2)) for.outside);
    }

-- ---- one row a span

pub parts_more : {w : ℕ} → (ns : List ℕ) (before : List (LeafSet w)) (spans : List Span) (rows : List (PartRow w)) (s : Span) (row : PartRow w) →
    ArePartsFor ns before spans rows → IsPartFor ns before s row → ArePartsFor ns before (spans ++ s ∷ []) (rows ++ row ∷ [])
parts_more ns before [] [] s row are is = (is, tt)
parts_more ns before [] (first ∷ rows) s row are is = absurd are
parts_more ns before (t ∷ spans) [] s row are is = absurd are
parts_more ns before (t ∷ spans) (first ∷ rows) s row are is = (are.0, parts_more ns before spans rows s row are.1 is)

span_of_row : {w : ℕ} → (ns : List ℕ) (before : List (LeafSet w)) (spans : List Span) (rows : List (PartRow w)) (row : PartRow w) → ArePartsFor ns before spans rows → row ∈ rows →
    (s : Span) × (s ∈ spans) × IsPartFor ns before s row
span_of_row ns before [] [] row are member = absurd member
span_of_row ns before [] (first ∷ rows) row are member = absurd are
span_of_row ns before (s ∷ spans) [] row are member = absurd member
span_of_row {w} ns before (s ∷ spans) (first ∷ rows) row are (inl same) = (s, inl refl, subst (λ (r : PartRow w). IsPartFor ns before s r) (sym same) are.0)
span_of_row ns before (s ∷ spans) (first ∷ rows) row are (inr member) =
    let found = span_of_row ns before spans rows row are.1 member in (found.0, inr found.1, found.2)

row_of_span : {w : ℕ} → (ns : List ℕ) (before : List (LeafSet w)) (spans : List Span) (rows : List (PartRow w)) (s : Span) → ArePartsFor ns before spans rows → s ∈ spans →
    (row : PartRow w) × (row ∈ rows) × IsPartFor ns before s row
row_of_span ns before [] rows s are member = absurd member
row_of_span ns before (t ∷ spans) [] s are member = absurd are
row_of_span ns before (t ∷ spans) (first ∷ rows) s are (inl same) = (first, inl refl, subst (λ (r : Span). IsPartFor ns before r first) (sym same) are.0)
row_of_span ns before (t ∷ spans) (first ∷ rows) s are (inr member) =
    let found = row_of_span ns before spans rows s are.1 member in (found.0, inr found.1, found.2)

-- ---- each set of leaves once

-- the span has two places within the list
abbrev pub IsLong : List ℕ → Span → Type 0
IsLong ns s = (s.first + 2 ≤ s.end) × (s.end ≤ length ns)

has_two : {w : ℕ} → (ns : List ℕ) (before : List (LeafSet w)) (s : Span) (row : PartRow w) → IsStrictlyIncreasing ns → IsLong ns s → IsPartFor ns before s row → HasTwo row
has_two ns before s row rising long for =
    let x : ℕ = get_or ns s.first 0 in
    let y : ℕ = get_or ns (s.first + 1) 0 in
    let less : x < y = AllPairs-from_increasing ns rising s.first (s.first + 1) 0 (omega arith) (omega (arith, long.0, long.1)) in (
      x,
      y,
      λ same. omega (arith, less, same),
      (for.inside x).1 (at_place ns s s.first (omega arith) (omega (arith, long.0)) (omega (arith, long.0, long.1))),
      (for.inside y).1 (at_place ns s (s.first + 1) (omega arith) (omega (arith, long.0)) (omega (arith, long.0, long.1))),
    )

-- a place of one span and not of the other
differ_at : {w : ℕ} → (ns : List ℕ) (before : List (LeafSet w)) (s t : Span) (one two : PartRow w) (k : ℕ) → IsStrictlyIncreasing ns → t.first ≤ k → k < t.end → k < length ns →
    ((j : ℕ) → s.first ≤ j → j < s.end → j ≢ k) → IsPartFor ns before s one → IsPartFor ns before t two → ¬ HaveSameLeaves one two
differ_at ns before s t one two k rising after below within other for_one for_two same =
    let y : ℕ = get_or ns k 0 in
    let there : IsTrue (has_leaf two.inside y) = (for_two.inside y).1 (at_place ns t k after below within) in
    let found = in_span ns s y ((for_one.inside y).0 (same y ∙ there)) in
    let j : ℕ = found.0 in
    ⊎_elim (λ less. omega (arith, AllPairs-from_increasing ns rising j k 0 less within, found.4))
    (λ more. ⊎_elim (λ equal. other j found.1 found.2 equal)
    (λ differs. let above : k < j = omega (arith, more, differs) in omega (arith, AllPairs-from_increasing ns rising k j 0 above found.3, found.4)) (cases_eq j k))
    (cases_lt j k)

are_apart : {w : ℕ} → (ns : List ℕ) (before : List (LeafSet w)) (s t : Span) (one two : PartRow w) → IsStrictlyIncreasing ns → IsLong ns t → IsEarlier s t →
    IsPartFor ns before s one → IsPartFor ns before t two → ¬ HaveSameLeaves one two
are_apart ns before s t one two rising long earlier for_one for_two same = ⊎_elim
    (λ less. differ_at ns before s t one two (t.end - 1) rising (omega (arith, long.0)) (omega (arith, long.0)) (omega (arith, long.0, long.1))
    (λ j after below equal. omega (arith, less, below, equal, long.0)) for_one for_two same)
    (λ equal_end. let ends : s.end ≡ t.end = omega (arith, equal_end, earlier.end) in
    differ_at ns before s t one two t.first rising (omega arith) (omega (arith, long.0)) (omega (arith, long.0, long.1))
    (λ j after below equal. omega (arith, earlier.first ends, after, equal)) for_one for_two same)
    (cases_lt s.end t.end)

all_apart : {w : ℕ} → (ns : List ℕ) (before : List (LeafSet w)) (spans : List Span) (rows : List (PartRow w)) → IsStrictlyIncreasing ns → Each (IsLong ns) spans → AreRising spans →
    ArePartsFor ns before spans rows → HaveOtherLeaves rows
all_apart ns before [] [] rising long order are = tt
all_apart ns before [] (row ∷ rows) rising long order are = absurd are
all_apart ns before (s ∷ spans) [] rising long order are = absurd are
all_apart ns before (s ∷ spans) (row ∷ rows) rising long order are = (
  each_from_members (λ other. ¬ HaveSameLeaves row other) rows (λ other member.
      let found = span_of_row ns before spans rows other are.1 member in
      are_apart ns before s found.0 row other rising (each_member (IsLong ns) spans long.1 found.0 found.1) (each_member (IsEarlier s) spans order.0 found.0 found.1) are.0 found.2),
  all_apart ns before spans rows rising long.1 order.1 are.1,
)

-- ---- the rows of all parts

row_placed : {w : ℕ} → (ns : List ℕ) (before : List (LeafSet w)) (s : Span) (row : PartRow w) → IsLong ns s → IsPartFor ns before s row → IsPlaced ns row
row_placed ns before s row long for = record {
  inside = subst (λ (t : Span). IsRowOf (λ x. x ∈ at_span t ns) row.inside) (sym for.span) for.inside;
  within = subst (λ (t : Span). t.end ≤ length ns) (sym for.span) long.1;
}

one_at_most : (xs : List ℕ) → length xs < 2 → IsOneAtMost (λ x. x ∈ xs)
one_at_most [] short x y hx hy = absurd hx
one_at_most (z ∷ []) short x y hx hy = ⊎_elim (λ first. ⊎_elim (λ second. first ∙ sym second) (λ none. absurd none) hy) (λ none. absurd none) hx
one_at_most (z ∷ (w ∷ xs)) short x y hx hy = absurd (omega (arith, short))

-- the spans of a whole goal have two places in its list of leaves
pub spans_long : (q : Process) (ns : List ℕ) (none spans : List Span) → none ≡ [] → ns ≡ leaves q → AddsSpans q (leaves q) 0 none spans → Each (IsLong ns) spans
spans_long q ns none spans empty listed adds = each_from_members (IsLong ns) spans (λ s member.
    let old : ¬ (s ∈ none) = λ h. subst (λ (l : List Span). s ∈ l) empty h in (
      ⊎_elim (λ h. absurd (old h)) (λ found. found.3) (adds.sound s member),
      ⊎_elim (λ h. absurd (old h)) (λ inside. omega (arith, inside.1, ap length listed)) (adds.within s member),
    ))

pub spans_fit : (ns : List ℕ) (spans : List Span) → Each (IsLong ns) spans → (k : ℕ) (d : Span) → k < length spans →
    ((get_or spans k d).first ≤ (get_or spans k d).end) × ((get_or spans k d).end ≤ length ns)
spans_fit ns spans all k d within =
    let long = each_member (IsLong ns) spans all (get_or spans k d) (mem-slice_get spans k (get_or spans k d) (slice_get-get_or spans k d within)) in (omega (arith, long.0), long.1)

pub parts_of_spans : {w : ℕ} → (q : Process) (pairs : List (ℕ × ℕ)) (ns : List ℕ) (before : List (LeafSet w)) (none spans : List Span) (rows : List (PartRow w)) → none ≡ [] → ns ≡ leaves q →
    IsStrictlyIncreasing ns → AreRowsOf (DirectlyBefore q pairs) ns before → AddsSpans q (leaves q) 0 none spans → ArePartsFor ns before spans rows → ArePartsOf q pairs rows
parts_of_spans q pairs ns before none spans rows empty listed rising rows_are whole are =
    let adds = subst (λ (l : List ℕ). AddsSpans q l 0 none spans) (sym listed) whole in
    let long = spans_long q ns none spans empty listed whole in
    let old : (s : Span) → ¬ (s ∈ none) = λ s h. subst (λ (l : List Span). s ∈ l) empty h in record {
      sound = λ row member.
          let found = span_of_row ns before spans rows row are member in
          ⊎_elim (λ h. absurd (old found.0 h))
          (λ placed. (placed.0, placed.1, part_row_of q pairs ns before placed.0 found.0 row rows_are placed.2 found.2)) (adds.sound found.0 found.1);
      complete = λ part member.
          ⊎_elim (λ short. inl (one_at_most (leaves part) short))
          (λ span. let row = row_of_span ns before spans rows span.0 are span.1 in
          inr (row.0, row.1, part_row_of q pairs ns before part span.0 row.0 rows_are span.2 row.2))
          (adds.complete part member);
      placed = each_from_members (IsPlaced (leaves q)) rows (λ row member.
          let found = span_of_row ns before spans rows row are member in
          subst (λ (l : List ℕ). IsPlaced l row) listed
          (row_placed ns before found.0 row (each_member (IsLong ns) spans long found.0 found.1) found.2));
      two = each_from_members HasTwo rows (λ row member.
          let found = span_of_row ns before spans rows row are member in
          has_two ns before found.0 row rising (each_member (IsLong ns) spans long found.0 found.1) found.2);
      apart = all_apart ns before spans rows rising long (adds.rising (subst AreRising (sym empty) tt) (λ s h. absurd (old s h))) are;
    }
