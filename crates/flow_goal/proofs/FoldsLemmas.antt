-- Which choices stay: what a walk of a goal finds, step by step.
use Rattle.std.proofs.Common.{◌≡◌, ◌==◌, ◌<◌, ◌≤◌, ◌↔◌, ℕ, Option, Some, None, zero, suc, ◌+◌, ◌-◌, ◌*◌, ◌^◌, Bool, true, false, not, ◌&&◌, ◌||◌, if◌then◌else◌, List, [], ◌∷◌, ◌++◌, length, set, refl, sym, ap, ◌∙◌, subst, append_assoc, length-append, append-nil, get_or, inl, inr, arith, min}
use Rattle.std.proofs.Math.Seq.{set-append_seam}
use Rattle.std.proofs.Math.Bool.{and-false}
use Rattle.std.proofs.lemmas.Bool.{cases_lt, eqb-true, eq-eqb}
use Rattle.std.specs.Cmp.{both_ways}
use Rattle.std.proofs.lemmas.List.{get_or_past}
use Rattle.std.proofs.lemmas.List.Folds.{list_any-append}
use Rattle.flow_model.specs.declared.labels.Label.{Label}
use Rattle.flow_model.specs.Lists.{◌∈◌, each_with_each, numbers_from}
use Rattle.flow_model.specs.Facts.{event_at}
use Rattle.flow_model.specs.Constraint.{all_of}
use Rattle.flow_model.specs.Schema.{Schema}
use Rattle.flow_model.specs.Process.{Process, Empty, Task, Sequence, Parallel, Choice, Isolated, leaves, IsNumbered}
use Rattle.flow_model.specs.Trace.{Blocks}
use Rattle.flow_model.specs.Resolution.{resolutions, resolution_count}
use Rattle.std.specs.List.{list_any}
use Rattle.flow_model.specs.Folding.{named_events, is_among, is_named, may_be_empty, is_foldable, folded_count, folded_resolutions, choices_of, staying_choices}
use Rattle.flow_model.proofs.Lists.{mem_append_left, mem_append_right}
use Rattle.flow_model.proofs.MadeLists.{length-numbers_from, some_passes, passing_member}
use Rattle.flow_laws.proofs.FoldingLemmas.{empty_blocks, may_stay, all_choices_stay, empty_without_leaf}
use Rattle.flow_goal.specs.declared.fold.Fold.{Fold}
use Rattle.flow_goal.specs.declared.measure.Measure.{Measure}
use Rattle.flow_goal.specs.declared.walk.Walk.{Walk}
use Rattle.flow_goal.specs.declared.folds.Folds.{Folds}
use Rattle.flow_goal.specs.Capped.{capped}
use Rattle.flow_goal.specs.Labelled.{Labelled}
use Rattle.flow_goal.specs.Folds.{named_by, flags_in, IsSpanOf, AreSpansOf, AreFoldsOf}
use Rattle.flow_goal.specs.Measure.{by_flags, measure_of, both_of, choice_of, spans_in, Walks}
use Rattle.flow_goal.proofs.Counting.{product_capped, sum_capped}
use Rattle.flow_goal.proofs.Numbers.{AreRows, rows}

-- what is found of two parts that both stay

pub measure-Sequence : (apart : ℕ → Bool) (a b : Process) → both_of (measure_of apart a) (measure_of apart b) ≡ measure_of apart (Sequence a b)
measure-Sequence apart a b = λ i. record {
  apart = sym (list_any-append apart (leaves a) (leaves b)) i;
  empty = (measure_of apart (Sequence a b)).empty;
  choice_free = (measure_of apart (Sequence a b)).choice_free;
  foldable = (measure_of apart (Sequence a b)).foldable;
  all = product_capped (2 ^ 64 - 1) (resolution_count a) (resolution_count b) i;
  folded = product_capped (2 ^ 64 - 1) (folded_count apart a) (folded_count apart b) i;
}

-- the same of what is found of each
pub both_measured : (apart : ℕ → Bool) (a b : Process) (m n : Measure) → m ≡ measure_of apart a → n ≡ measure_of apart b →
    both_of m n ≡ measure_of apart (Sequence a b)
both_measured apart a b m n e f = (λ i. both_of (e i) (f i)) ∙ measure-Sequence apart a b

-- what is found of a choice

kept_capped : (stays : Bool) (m n : ℕ) → (if stays then 1 else min (min m (2 ^ 64 - 1) + min n (2 ^ 64 - 1)) (2 ^ 64 - 1)) ≡ min (if stays then 1 else m + n) (2 ^ 64 - 1)
kept_capped true m n = refl
kept_capped false m n = sum_capped (2 ^ 64 - 1) m n

measure-Choice : (apart : ℕ → Bool) (a b : Process) → choice_of (measure_of apart a) (measure_of apart b) ≡ measure_of apart (Choice a b)
measure-Choice apart a b =
    let some = sym (list_any-append apart (leaves a) (leaves b)) in
    let stays = λ (any : Bool). (not any && not (may_be_empty a || may_be_empty b)) && (is_foldable apart a && is_foldable apart b) in λ i. record {
      apart = some i;
      empty = may_be_empty a || may_be_empty b;
      choice_free = false;
      foldable = stays (some i);
      all = sum_capped (2 ^ 64 - 1) (resolution_count a) (resolution_count b) i;
      folded = (kept_capped (stays (list_any apart (leaves a) || list_any apart (leaves b))) (folded_count apart a) (folded_count apart b)
          ∙ ap (λ any. min (if stays any then 1 else folded_count apart a + folded_count apart b) (2 ^ 64 - 1)) some) i;
    }

pub choice_measured : (apart : ℕ → Bool) (a b : Process) (m n : Measure) → m ≡ measure_of apart a → n ≡ measure_of apart b →
    choice_of m n ≡ measure_of apart (Choice a b)
choice_measured apart a b m n e f = (λ i. choice_of (e i) (f i)) ∙ measure-Choice apart a b

-- a walk of a choice

flags_walked : (old x y : List Bool) (stays : Bool) → set (((old ++ false ∷ []) ++ x) ++ y) (length old) stays ≡ old ++ stays ∷ (x ++ y)
flags_walked old x y stays =
    ap (λ list. set list (length old) stays) (append_assoc (old ++ false ∷ []) x y ∙ append_assoc old (false ∷ []) (x ++ y))
    ∙ set-append_seam old false (x ++ y) stays

spans_walked : (old x y z : List Fold) → ((old ++ x) ++ y) ++ z ≡ old ++ ((x ++ y) ++ z)
spans_walked old x y z = ap (λ list. list ++ z) (append_assoc old x y) ∙ append_assoc old (x ++ y) z

pub choice_walked : (apart : ℕ → Bool) (isolated : Bool) (a b : Process) (old begun middle last new : Walk) (fold : Fold) (stays : Bool) →
    begun.next ≡ old.next → begun.flags.items ≡ old.flags.items ++ false ∷ [] → begun.spans.items ≡ old.spans.items →
    Walks apart isolated a begun middle → Walks apart isolated b middle last →
    new.next ≡ last.next → new.flags.items ≡ set last.flags.items (length old.flags.items) stays →
    new.spans.items ≡ last.spans.items ++ (if stays then fold ∷ [] else []) →
    fold ≡ record { first = old.next; middle = middle.next; end = last.next } → stays ≡ (not isolated && is_foldable apart (Choice a b)) →
    Walks apart isolated (Choice a b) old new
choice_walked apart isolated a b old begun middle last new fold stays n0 f0 s0 one two n1 f1 s1 is kept =
    let at_middle : middle.next ≡ old.next + length (leaves a) = one.next ∙ ap (λ n. n + length (leaves a)) n0 in
    let at_last : last.next ≡ old.next + length (leaves a) + length (leaves b) = two.next ∙ ap (λ n. n + length (leaves b)) at_middle in
    let folds : List Fold = if not isolated && is_foldable apart (Choice a b) then record { first = old.next; middle = middle.next; end = last.next } ∷ [] else [] in
    record {
      next = omega (arith, n1, at_last, length-append (leaves a) (leaves b));
      flags = f1 ∙ (λ i. set (((two.flags ∙ ap (λ list. list ++ flags_in apart isolated b) (one.flags ∙ ap (λ list. list ++ flags_in apart isolated a) f0)) i)) (length old.flags.items) (kept i))
          ∙ flags_walked old.flags.items (flags_in apart isolated a) (flags_in apart isolated b) (not isolated && is_foldable apart (Choice a b));
      spans = s1 ∙ (λ i. (two.spans ∙ (λ j. (one.spans ∙ (λ k. s0 k ++ spans_in apart isolated (n0 k) a)) j ++ spans_in apart isolated (at_middle j) b)) i
          ++ (if kept i then is i ∷ [] else []))
          ∙ spans_walked old.spans.items (spans_in apart isolated old.next a) (spans_in apart isolated (old.next + length (leaves a)) b) folds
          ∙ (λ i. old.spans.items ++ ((spans_in apart isolated old.next a ++ spans_in apart isolated (old.next + length (leaves a)) b)
          ++ (if not isolated && is_foldable apart (Choice a b) then record { first = old.next; middle = at_middle i; end = at_last i } ∷ [] else [])));
    }

-- Where the choices that stay have their leaves

are_spans-append : (xs ys : List (Process × Process)) (s t : List Fold) → AreSpansOf xs s → AreSpansOf ys t → AreSpansOf (xs ++ ys) (s ++ t)
are_spans-append [] ys [] t h k = k
are_spans-append [] ys (fold ∷ s) t h k = absurd h
are_spans-append (x ∷ xs) ys [] t h k = absurd h
are_spans-append (x ∷ xs) ys (fold ∷ s) t h k = (h.0, are_spans-append xs ys s t h.1 k)

none_isolated : (apart : ℕ → Bool) (next : ℕ) (g : Process) → spans_in apart true next g ≡ []
none_isolated apart next Empty = refl
none_isolated apart next (Task n) = refl
none_isolated apart next (Sequence a b) = λ i. none_isolated apart next a i ++ none_isolated apart (next + length (leaves a)) b i
none_isolated apart next (Parallel a b) = λ i. none_isolated apart next a i ++ none_isolated apart (next + length (leaves a)) b i
none_isolated apart next (Choice a b) = λ i. (none_isolated apart next a i ++ none_isolated apart (next + length (leaves a)) b i) ++ []
none_isolated apart next (Isolated a) = none_isolated apart next a

-- a side has a leaf
some_leaf : (g : Process) (first count : ℕ) → leaves g ≡ numbers_from first count → ¬ (Blocks g []) → 0 < count
some_leaf g first zero e busy = absurd (busy (empty_blocks g (empty_without_leaf g (sym e))))
some_leaf g first (suc count) e busy = omega arith

abbrev fold_of : Process → Process → ℕ → Fold
fold_of a b first = record { first = first; middle = first + length (leaves a); end = first + length (leaves a) + length (leaves b) }

is_span : (a b : Process) (first count : ℕ) → AreRows (leaves a) (leaves b) first count → ¬ (Blocks (Choice a b) []) → IsSpanOf (a, b) (fold_of a b first)
is_span a b first count r busy =
    let left : length (leaves a) ≡ r.left = ap length r.front_is ∙ length-numbers_from first r.left in
    let right : length (leaves b) ≡ r.right = ap length r.back_is ∙ length-numbers_from (first + r.left) r.right in
    let one = some_leaf a first r.left r.front_is (λ h. busy (inl h)) in
    let other = some_leaf b (first + r.left) r.right r.back_is (λ h. busy (inr h)) in
    record {
      left = r.front_is ∙ ap (numbers_from first) (omega arith);
      right = r.back_is ∙ (λ i. numbers_from ((ap (λ n. first + n) (sym left)) i) ((let e : r.right ≡ first + length (leaves a) + length (leaves b) - (first + length (leaves a)) = omega arith in e) i));
      left_some = omega arith;
      right_some = omega arith;
    }

-- those inside a choice, and where it stays its own
choice_spans : (apart : ℕ → Bool) (a b : Process) (first count : ℕ) (stays : Bool) → is_foldable apart (Choice a b) ≡ stays → AreRows (leaves a) (leaves b) first count →
    (s t : List Fold) → AreSpansOf (staying_choices apart a) s → AreSpansOf (staying_choices apart b) t →
    AreSpansOf (if stays then choices_of (Choice a b) else staying_choices apart a ++ staying_choices apart b) ((s ++ t) ++ (if stays then fold_of a b first ∷ [] else []))
choice_spans apart a b first count true e r s t h k =
    let stay = may_stay apart a b e in
    are_spans-append (choices_of a ++ choices_of b) ((a, b) ∷ []) (s ++ t) (fold_of a b first ∷ [])
    (are_spans-append (choices_of a) (choices_of b) s t (subst (λ list. AreSpansOf list s) (all_choices_stay apart a stay.left) h)
    (subst (λ list. AreSpansOf list t) (all_choices_stay apart b stay.right) k)) (is_span a b first count r stay.not_empty, tt)
choice_spans apart a b first count false e r s t h k =
    subst (λ list. AreSpansOf (staying_choices apart a ++ staying_choices apart b) list) (sym (append-nil (s ++ t)))
    (are_spans-append (staying_choices apart a) (staying_choices apart b) s t h k)

-- the second of two rows of leaves
next_row : (a b : Process) (first count : ℕ) → (r : AreRows (leaves a) (leaves b) first count) → leaves b ≡ numbers_from (first + length (leaves a)) r.right
next_row a b first count r =
    r.back_is ∙ ap (λ n. numbers_from (first + n) r.right) (sym (ap length r.front_is ∙ length-numbers_from first r.left))

pub are_spans : (apart : ℕ → Bool) (g : Process) (first count : ℕ) → leaves g ≡ numbers_from first count →
    AreSpansOf (staying_choices apart g) (spans_in apart false first g)
are_spans apart Empty first count e = tt
are_spans apart (Task n) first count e = tt
are_spans apart (Sequence a b) first count e =
    let r = rows (leaves a) (leaves b) first count e in
    are_spans-append (staying_choices apart a) (staying_choices apart b) _ _
    (are_spans apart a first r.left r.front_is) (are_spans apart b (first + length (leaves a)) r.right (next_row a b first count r))
are_spans apart (Parallel a b) first count e =
    let r = rows (leaves a) (leaves b) first count e in
    are_spans-append (staying_choices apart a) (staying_choices apart b) _ _
    (are_spans apart a first r.left r.front_is) (are_spans apart b (first + length (leaves a)) r.right (next_row a b first count r))
are_spans apart (Choice a b) first count e =
    let r = rows (leaves a) (leaves b) first count e in
    choice_spans apart a b first count (is_foldable apart (Choice a b)) refl r _ _
    (are_spans apart a first r.left r.front_is) (are_spans apart b (first + length (leaves a)) r.right (next_row a b first count r))
are_spans apart (Isolated a) first count e = subst (λ list. AreSpansOf [] list) (sym (none_isolated apart first a)) tt

-- What is made of a tree

unnamed_past : (labels : List Label) (events : List ℕ) (leaf : ℕ) → length labels ≤ leaf → named_by labels events leaf ≡ false
unnamed_past [] events leaf h = refl
unnamed_past (label ∷ labels) events zero h = absurd (omega arith)
unnamed_past (label ∷ labels) events (suc leaf) h = unnamed_past labels events leaf (omega arith)

pub named_everywhere : (labels : List Label) (events : List ℕ) (flags : List Bool) (size : ℕ) → length flags ≡ size → length labels ≤ size →
    ((leaf : ℕ) → leaf < size → get_or flags leaf false ≡ named_by labels events leaf) → (leaf : ℕ) → get_or flags leaf false ≡ named_by labels events leaf
named_everywhere labels events flags size e le within leaf = elim (cases_lt leaf size) [
  | inl lt ↦ within leaf lt
  | inr ge ↦ get_or_past flags leaf false (omega arith) ∙ sym (unnamed_past labels events leaf (omega arith))
]

-- as many as are numbered
pub leaves_numbered : (g : Process) (size : ℕ) → IsNumbered g size → length (leaves g) ≡ size
leaves_numbered g size whole = ap length whole ∙ length-numbers_from 0 size

-- the folds by the flags of the leaves are those by the events that are named
pub folds_made : (t : Labelled) (events : List ℕ) (size : ℕ) → IsNumbered t.process size → (folds : Folds) (walk last : Walk) (m : Measure) →
    ((leaf : ℕ) → get_or folds.named.items leaf false ≡ named_by t.labels events leaf) →
    walk.next ≡ 0 → walk.flags.items ≡ [] → walk.spans.items ≡ [] → Walks (by_flags folds.named.items) false t.process walk last →
    m ≡ measure_of (by_flags folds.named.items) t.process → folds.flags.items ≡ last.flags.items → folds.spans.items ≡ last.spans.items → folds.count ≡ m.folded →
    AreFoldsOf t events folds
folds_made t events size whole folds walk last m named at_first no_flags no_spans walks measured flags spans count =
    let same : by_flags folds.named.items ≡ named_by t.labels events = λ i leaf. named leaf i in
    record {
      named = named;
      flags = flags ∙ walks.flags ∙ (λ i. no_flags i ++ flags_in (same i) false t.process);
      spans = subst (AreSpansOf (staying_choices (named_by t.labels events) t.process))
          (sym (spans ∙ walks.spans ∙ (λ i. no_spans i ++ spans_in (same i) false (at_first i) t.process)))
          (are_spans (named_by t.labels events) t.process 0 size whole);
      count = count ∙ ap (λ (k : Measure). k.folded) measured ∙ ap (λ apart. capped (folded_count apart t.process)) same;
    }

-- The same events in another list

same_among : (xs ys : List ℕ) (event : ℕ) → ((event ∈ xs) ↔ (event ∈ ys)) → is_among xs (Some event) ≡ is_among ys (Some event)
same_among xs ys event same = both_ways _ _ (passes xs ys same.0) (passes ys xs same.1)
  where
    passes : (us vs : List ℕ) → (event ∈ us → event ∈ vs) → is_among us (Some event) ≡ true → is_among vs (Some event) ≡ true
    passes us vs to e =
        let (x, m, f) = passing_member (λ x. x == event) us e in
        some_passes (λ x. x == event) event vs (to (subst (λ y. y ∈ us) (eqb-true x event f) m)) (eq-eqb event event refl)

-- where the same events are named, the test is the same
pub named_by_members : (labels : List Label) (events others : List ℕ) → ((e : ℕ) → (e ∈ events) ↔ (e ∈ others)) → named_by labels events ≡ named_by labels others
named_by_members labels events others same = λ i leaf. among (event_at labels leaf) i
  where
    among : (event : Option ℕ) → is_among events event ≡ is_among others event
    among None = refl
    among (Some event) = same_among events others event (same event)

-- where just these events are named, the test is that of the workflow
pub named_is : (w : Schema) (events : List ℕ) → ((e : ℕ) → (e ∈ events) ↔ (e ∈ named_events (all_of w.rules))) → named_by w.labels events ≡ is_named w
named_is w events same = named_by_members w.labels events (named_events (all_of w.rules)) same

-- A choice that stays, and one that does not

pub stays_folded : (apart : ℕ → Bool) (a b : Process) → is_foldable apart (Choice a b) ≡ true → folded_resolutions apart (Choice a b) ≡ Choice a b ∷ []
stays_folded apart a b = ap (λ stays. if stays then Choice a b ∷ [] else folded_resolutions apart a ++ folded_resolutions apart b)

pub goes_folded : (apart : ℕ → Bool) (a b : Process) → is_foldable apart (Choice a b) ≡ false →
    folded_resolutions apart (Choice a b) ≡ folded_resolutions apart a ++ folded_resolutions apart b
goes_folded apart a b = ap (λ stays. if stays then Choice a b ∷ [] else folded_resolutions apart a ++ folded_resolutions apart b)

-- Where each leaf keeps choices apart, and in an isolated part

none_folds : (a b : Process) → is_foldable (λ n. true) (Choice a b) ≡ false
none_folds a b = none (leaves a ++ leaves b) refl
  where
    none : (ns : List ℕ) → ns ≡ leaves (Choice a b) → is_foldable (λ n. true) (Choice a b) ≡ false
    none [] e =
        ap (λ empty. (not (list_any (λ n. true) (leaves a ++ leaves b)) && not empty) && (is_foldable (λ n. true) a && is_foldable (λ n. true) b))
        (empty_without_leaf (Choice a b) e) ∙ rw (and-false (not (list_any (λ n. true) (leaves a ++ leaves b)))) refl
    none (n ∷ ns) e =
        sym (ap (λ ns. (not (list_any (λ n. true) ns) && not (may_be_empty a || may_be_empty b)) && (is_foldable (λ n. true) a && is_foldable (λ n. true) b)) e)

pub all_resolved : (g : Process) → folded_resolutions (λ n. true) g ≡ resolutions g
all_resolved Empty = refl
all_resolved (Task n) = refl
all_resolved (Sequence a b) = λ i. each_with_each Sequence (all_resolved a i) (all_resolved b i)
all_resolved (Parallel a b) = λ i. each_with_each Parallel (all_resolved a i) (all_resolved b i)
all_resolved (Choice a b) = λ i. if none_folds a b i then Choice a b ∷ [] else all_resolved a i ++ all_resolved b i
all_resolved (Isolated a) = refl

pub isolated_flags : (apart : ℕ → Bool) (g : Process) → flags_in apart true g ≡ flags_in (λ n. true) false g
isolated_flags apart Empty = refl
isolated_flags apart (Task n) = refl
isolated_flags apart (Sequence a b) = λ i. isolated_flags apart a i ++ isolated_flags apart b i
isolated_flags apart (Parallel a b) = λ i. isolated_flags apart a i ++ isolated_flags apart b i
isolated_flags apart (Choice a b) = λ i. sym (none_folds a b) i ∷ (isolated_flags apart a i ++ isolated_flags apart b i)
isolated_flags apart (Isolated a) = isolated_isolated a
  where
    isolated_isolated : (g : Process) → flags_in apart true g ≡ flags_in (λ n. true) true g
    isolated_isolated Empty = refl
    isolated_isolated (Task n) = refl
    isolated_isolated (Sequence a b) = λ i. isolated_isolated a i ++ isolated_isolated b i
    isolated_isolated (Parallel a b) = λ i. isolated_isolated a i ++ isolated_isolated b i
    isolated_isolated (Choice a b) = λ i. false ∷ (isolated_isolated a i ++ isolated_isolated b i)
    isolated_isolated (Isolated a) = isolated_isolated a

-- Tests that agree on all leaves

-- they agree on these leaves
abbrev pub Agree : (ℕ → Bool) → (ℕ → Bool) → List ℕ → Type 0
Agree p q ns = (n : ℕ) → n ∈ ns → p n ≡ q n

same_any : (p q : ℕ → Bool) (ns : List ℕ) → Agree p q ns → list_any p ns ≡ list_any q ns
same_any p q [] same = refl
same_any p q (n ∷ ns) same = λ i. same n (inl refl) i || same_any p q ns (λ m k. same m (inr k)) i

left_agree : (p q : ℕ → Bool) (xs ys : List ℕ) → Agree p q (xs ++ ys) → Agree p q xs
left_agree p q xs ys same n m = same n (mem_append_left n xs ys m)

right_agree : (p q : ℕ → Bool) (xs ys : List ℕ) → Agree p q (xs ++ ys) → Agree p q ys
right_agree p q xs ys same n m = same n (mem_append_right n xs ys m)

pub same_foldable : (p q : ℕ → Bool) (g : Process) → Agree p q (leaves g) → is_foldable p g ≡ is_foldable q g
same_foldable p q Empty same = refl
same_foldable p q (Task n) same = refl
same_foldable p q (Sequence a b) same =
    λ i. same_foldable p q a (left_agree p q (leaves a) (leaves b) same) i && same_foldable p q b (right_agree p q (leaves a) (leaves b) same) i
same_foldable p q (Parallel a b) same =
    λ i. same_foldable p q a (left_agree p q (leaves a) (leaves b) same) i && same_foldable p q b (right_agree p q (leaves a) (leaves b) same) i
same_foldable p q (Choice a b) same =
    λ i. (not (same_any p q (leaves a ++ leaves b) same i) && not (may_be_empty a || may_be_empty b))
    && (same_foldable p q a (left_agree p q (leaves a) (leaves b) same) i && same_foldable p q b (right_agree p q (leaves a) (leaves b) same) i)
same_foldable p q (Isolated a) same = refl

pub same_resolutions : (p q : ℕ → Bool) (g : Process) → Agree p q (leaves g) → folded_resolutions p g ≡ folded_resolutions q g
same_resolutions p q Empty same = refl
same_resolutions p q (Task n) same = refl
same_resolutions p q (Sequence a b) same =
    λ i. each_with_each Sequence (same_resolutions p q a (left_agree p q (leaves a) (leaves b) same) i)
    (same_resolutions p q b (right_agree p q (leaves a) (leaves b) same) i)
same_resolutions p q (Parallel a b) same =
    λ i. each_with_each Parallel (same_resolutions p q a (left_agree p q (leaves a) (leaves b) same) i)
    (same_resolutions p q b (right_agree p q (leaves a) (leaves b) same) i)
same_resolutions p q (Choice a b) same =
    λ i. if same_foldable p q (Choice a b) same i then Choice a b ∷ [] else
    same_resolutions p q a (left_agree p q (leaves a) (leaves b) same) i ++ same_resolutions p q b (right_agree p q (leaves a) (leaves b) same) i
same_resolutions p q (Isolated a) same = refl

pub same_count : (p q : ℕ → Bool) (g : Process) → Agree p q (leaves g) → folded_count p g ≡ folded_count q g
same_count p q Empty same = refl
same_count p q (Task n) same = refl
same_count p q (Sequence a b) same =
    λ i. same_count p q a (left_agree p q (leaves a) (leaves b) same) i * same_count p q b (right_agree p q (leaves a) (leaves b) same) i
same_count p q (Parallel a b) same =
    λ i. same_count p q a (left_agree p q (leaves a) (leaves b) same) i * same_count p q b (right_agree p q (leaves a) (leaves b) same) i
same_count p q (Choice a b) same =
    λ i. if same_foldable p q (Choice a b) same i then 1 else
    same_count p q a (left_agree p q (leaves a) (leaves b) same) i + same_count p q b (right_agree p q (leaves a) (leaves b) same) i
same_count p q (Isolated a) same = refl

pub same_staying : (p q : ℕ → Bool) (g : Process) → Agree p q (leaves g) → staying_choices p g ≡ staying_choices q g
same_staying p q Empty same = refl
same_staying p q (Task n) same = refl
same_staying p q (Sequence a b) same =
    λ i. same_staying p q a (left_agree p q (leaves a) (leaves b) same) i ++ same_staying p q b (right_agree p q (leaves a) (leaves b) same) i
same_staying p q (Parallel a b) same =
    λ i. same_staying p q a (left_agree p q (leaves a) (leaves b) same) i ++ same_staying p q b (right_agree p q (leaves a) (leaves b) same) i
same_staying p q (Choice a b) same =
    λ i. if same_foldable p q (Choice a b) same i then choices_of (Choice a b) else
    same_staying p q a (left_agree p q (leaves a) (leaves b) same) i ++ same_staying p q b (right_agree p q (leaves a) (leaves b) same) i
same_staying p q (Isolated a) same = refl

pub same_flags : (p q : ℕ → Bool) (isolated : Bool) (g : Process) → Agree p q (leaves g) → flags_in p isolated g ≡ flags_in q isolated g
same_flags p q isolated Empty same = refl
same_flags p q isolated (Task n) same = refl
same_flags p q isolated (Sequence a b) same =
    λ i. same_flags p q isolated a (left_agree p q (leaves a) (leaves b) same) i ++ same_flags p q isolated b (right_agree p q (leaves a) (leaves b) same) i
same_flags p q isolated (Parallel a b) same =
    λ i. same_flags p q isolated a (left_agree p q (leaves a) (leaves b) same) i ++ same_flags p q isolated b (right_agree p q (leaves a) (leaves b) same) i
same_flags p q isolated (Choice a b) same =
    λ i. (not isolated && same_foldable p q (Choice a b) same i)
    ∷ (same_flags p q isolated a (left_agree p q (leaves a) (leaves b) same) i ++ same_flags p q isolated b (right_agree p q (leaves a) (leaves b) same) i)
same_flags p q isolated (Isolated a) same = same_flags p q true a same

-- folds that were made where these events are named are those where the same events are named in another list
pub folds_by_members : (t : Labelled) (events others : List ℕ) (folds : Folds) → ((e : ℕ) → (e ∈ events) ↔ (e ∈ others)) →
    AreFoldsOf t events folds → AreFoldsOf t others folds
folds_by_members t events others folds same are =
    let test = named_by_members t.labels events others same in
    record {
      named = λ leaf. are.named leaf ∙ (λ i. test i leaf);
      flags = are.flags ∙ (λ i. flags_in (test i) false t.process);
      spans = subst (λ apart. AreSpansOf (staying_choices apart t.process) folds.spans.items) test are.spans;
      count = are.count ∙ (λ i. capped (folded_count (test i) t.process));
    }
