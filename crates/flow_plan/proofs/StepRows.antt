-- What may come next in a plan, for all its leaves at once.
use Rattle.std.proofs.Common.{◌≡◌, ℕ, ◌+◌, ◌<◌, ◌≤◌, Bool, true, false, not, ◌==◌, ◌&&◌, ◌||◌, ◌↔◌, IsTrue, eq-eqb, eqb-true, List, [], ◌∷◌, ◌++◌, length, take, get_or, Option, None, Some, inl, inr, ◌⊎◌, ⊎_elim, refl, sym, ap, ◌∙◌, subst}
use Rattle.std.proofs.lemmas.List.{take_all, take_more}
use Rattle.std.specs.Option.{IfNone, IfSome}
use Rattle.std.proofs.lemmas.Bool.{false≢true, or_cases, or_left, or_right}
use Rattle.leaf_rows.specs.Leaves.{has_leaf}
use Rattle.leaf_rows.specs.declared.leaf_set.LeafSet.{LeafSet}
use Rattle.leaf_rows.specs.declared.TheConstants.{LEAF_WORDS}
use Rattle.flow_model.specs.Lists.{◌∈◌, Each, AreDistinct}
use Rattle.flow_model.specs.Process.{Process, leaves}
use Rattle.flow_model.specs.Ready.{DoneOr, isolated_parts}
use Rattle.flow_model.specs.Folding.{choices_of}
use Rattle.flow_model.specs.Decided.{Decided, decide_some}
use Rattle.flow_model.proofs.Lists.{split_at, mem-append, mem_append_left, mem_append_right, each_member, each_from_members, each_parts, each-append, each_to, mem-slice_get, only_one}
use Rattle.flow_model.proofs.MadeLists.{same_order}
use Rattle.flow_laws.proofs.GoalParts.{part_within}
use Rattle.flow_fold_laws.specs.FoldedRows.{IsReadyByRows}
use Rattle.flow_fold_laws.specs.Unfolding.{IsFoldedOrdered}
use Rattle.flow_fold_laws.proofs.AvoidedTogether.{closed_more}
use Rattle.flow_fold_laws.proofs.FoldedByRows.{rows_of_ready}
use Rattle.flow_plan.specs.declared.cut_sides.CutSides.{CutSides}
use Rattle.flow_plan.specs.declared.fold_row.FoldRow.{FoldRow}
use Rattle.flow_plan.specs.declared.part_row.PartRow.{PartRow}
use Rattle.flow_plan.specs.CutSides.{IsFree, TellIn}
use Rattle.flow_plan.specs.FoldRows.{AreFoldRows, HasLeaf, IsFoldRow}
use Rattle.flow_plan.specs.Sided.{StandsWith}
use Rattle.flow_plan.specs.Planned.{Planned, pairs_of}
use Rattle.flow_plan.specs.Orders.{AreApart, IsInChoiceWith, IsSettledWith, MayComeNext, MayFollowInEveryOrder}
use Rattle.flow_plan.specs.Rows.{IsRowOf}
use Rattle.flow_plan.specs.Parts.{IsPartRow, IsWaitedFor, PartAllows, KeepsBeside, KeepsAfter}
use Rattle.flow_plan.specs.Fields.{AreFieldsOf}
use Rattle.std.proofs.lemmas.Option.{slice_get-get_or}
use Rattle.flow_plan.proofs.ClosedLemmas.{AreAllApart, apart_from_each, apart_front, apart_rest, apart_with, closed_by_one, closed_turned, none_closed, settled_with}
use Rattle.flow_plan.proofs.FoldPass.{TellRows, has_both}
use Rattle.flow_plan.proofs.RowLemmas.{one_more, mem_more}
use Rattle.flow_plan.proofs.Readiness.{Before, direct_first, free_of_ready, free_of_unblocked, ready_of_free, parts_of_ready, unblocked_of_free}
use Rattle.flow_plan.proofs.Following.{every_order, by_two, same_orders}
use Rattle.flow_plan.proofs.Together.{apart_by_two, together_beside, distinct_by_two, after_keeps, keeps_after}

-- ---- part by part

pub part_at : {w : ℕ} → (parts : List (PartRow w)) (i : ℕ) (row d : PartRow w) → i < length parts → row ≡ get_or parts i d → row ∈ parts
part_at {w} parts i row d within is = subst (λ (r : PartRow w). r ∈ parts) (sym is) (mem-slice_get parts i (get_or parts i d) (slice_get-get_or parts i d within))

pub kept_step : {w : ℕ} → (P : PartRow w → Type 0) (parts : List (PartRow w)) (i : ℕ) (row : PartRow w) (new now was : Bool) → i < length parts → row ≡ get_or parts i row →
    (IsTrue new ↔ (IsTrue now × P row)) → (IsTrue now ↔ (IsTrue was × Each P (take i parts))) → IsTrue new ↔ (IsTrue was × Each P (take (i + 1) parts))
kept_step {w} P parts i row new now was within is step before =
    let more : take (i + 1) parts ≡ take i parts ++ row ∷ [] = take_more parts i row within ∙ ap (λ (r : PartRow w). take i parts ++ r ∷ []) (sym is) in (
      λ h. let last = step.0 h in let old = before.0 last.0 in
          (old.0, subst (λ l. Each P l) (sym more) (each-append P (take i parts) (row ∷ []) old.1 (last.1, tt))),
      λ both. let parts = each_parts P (take i parts) (row ∷ []) (subst (λ l. Each P l) more both.1) in
          step.1 (before.1 (both.0, parts.0), parts.1.0),
    )

-- each of the first parts, of one more
pub each_part_more : {w : ℕ} → (P : PartRow w → Type 0) (parts : List (PartRow w)) (i : ℕ) (row : PartRow w) → i < length parts → row ≡ get_or parts i row → P row → Each P (take i parts) →
    Each P (take (i + 1) parts)
each_part_more {w} P parts i row within is here so_far =
    subst (λ (l : List (PartRow w)). Each P l) (sym (take_more parts i row within ∙ ap (λ (r : PartRow w). take i parts ++ r ∷ []) (sym is)))
    (each-append P (take i parts) (row ∷ []) so_far (here, tt))

-- each part
pub every_part : {w : ℕ} → (P : PartRow w → Type 0) (parts : List (PartRow w)) (i : ℕ) → length parts ≤ i → Each P (take i parts) → IsTrue true ↔ Each P parts
every_part {w} P parts i past all = (λ yes. subst (λ (l : List (PartRow w)). Each P l) (take_all i parts past) all, λ every. refl)

-- not each part, where some part does not
pub not_every_part : {w : ℕ} → (P : PartRow w → Type 0) (parts : List (PartRow w)) (i : ℕ) (row : PartRow w) (answer : Bool) → i < length parts → row ≡ get_or parts i row →
    (IsTrue answer ↔ P row) → answer ≡ false → IsTrue false ↔ Each P parts
not_every_part P parts i row answer within is says fails = (
  λ wrong. absurd (cc),
  λ all. let yes = says.1 (each_member P parts all row (part_at parts i row row within is)) in absurd (cc),
)

-- ---- leaf by leaf

-- the leaves with F at the first places, of one place more
pub free_more : {w : ℕ} → (ns : List ℕ) (i : ℕ) (F : ℕ → Type 0) (now new : LeafSet w) (test : Bool) → i < length ns → (IsTrue test ↔ F (get_or ns i 0)) → IsRowOf (λ x. (x ∈ take i ns) × F x) now →
    (IsTrue test × ((x : ℕ) → has_leaf new x ≡ (x == get_or ns i 0 || has_leaf now x))) ⊎ ((test ≡ false) × (new ≡ now)) → IsRowOf (λ x. (x ∈ take (i + 1) ns) × F x) new
free_more ns i F now new test within says is (inl (passes, noted)) x =
    let n : ℕ = get_or ns i 0 in
    let more = mem_more ns i within x in (
      λ has. ⊎_elim (λ same. let e = eqb-true x n same in (more.1 (inr e), subst F (sym e) (says.0 passes)))
          (λ old. let h = (is x).0 old in (more.1 (inl h.0), h.1)) (or_cases (x == n) (has_leaf now x) (sym (noted x) ∙ has)),
      λ both. noted x ∙ ⊎_elim (λ h. or_right (x == n) (has_leaf now x) ((is x).1 (h, both.1))) (λ same. or_left (x == n) (has_leaf now x) (eq-eqb x n same)) (more.0 both.0),
    )
free_more {w} ns i F now new test within says is (inr (fails, same)) x =
    let more = mem_more ns i within x in (
      λ has. let h = (is x).0 (subst (λ (r : LeafSet w). IsTrue (has_leaf r x)) same has) in (more.1 (inl h.0), h.1),
      λ both. subst (λ (r : LeafSet w). IsTrue (has_leaf r x)) (sym same)
          (⊎_elim (λ h. (is x).1 (h, both.1)) (λ last. let yes = says.1 (subst F last both.1) in absurd (cc)) (more.0 both.0)),
    )

-- ---- what comes next

pub next_by_rows : {w : ℕ} → {p : Planned} {before : List (LeafSet w)} {parts : List (PartRow w)} → AreFieldsOf p before parts → (D : ℕ → Type 0) (sides : CutSides w) → TellIn p D sides →
    (free keep : LeafSet w) → IsRowOf (λ n. (n ∈ p.leaves) × IsFree (Before p) sides n) free →
    ((n : ℕ) → IsTrue (has_leaf keep n) ↔ (IsTrue (has_leaf free n) × Each (λ r. PartAllows r sides n) parts)) → IsRowOf (MayComeNext p D) keep
next_by_rows kept D sides tell free keep free_is keep_is n = (
  λ has. let both = (keep_is n).0 has in
      let found = (free_is n).0 both.0 in
      ready_of_free kept D sides tell n (unblocked_of_free kept D sides tell n (subst (λ (l : List ℕ). n ∈ l) kept.listed found.0) found.1) both.1,
  λ ready. (keep_is n).1 (
    (free_is n).1 (subst (λ (l : List ℕ). n ∈ l) (sym kept.listed) ready.leaf, free_of_unblocked kept D sides tell n (free_of_ready kept D sides tell n ready)),
    parts_of_ready kept D sides tell n ready,
  ),
)

-- ---- what a leaf waits for

decide_test : (b : Bool) → Decided (IsTrue b)
decide_test true = inl refl
decide_test false = inr (λ wrong. absurd (cc))

module _ {w : ℕ} {p : Planned} {before : List (LeafSet w)} {parts : List (PartRow w)} (kept : AreFieldsOf p before parts) (D : ℕ → Type 0) (sides : CutSides w) (tell : TellIn p D sides)
    (leaf first : ℕ) (refused : ¬ MayComeNext p D leaf) (next : MayComeNext p D first) (after : MayComeNext p (DoneOr D (first ∷ [])) leaf) where
  -- it is neither done nor closed off, since it is neither after the first
  pub not_ruled_out : ¬ (IsTrue (has_leaf sides.done leaf) ⊎ IsTrue (has_leaf sides.closed leaf))
  not_ruled_out = ⊎_elim
      (λ h. after.not_done (inl ((tell.done leaf after.leaf).0 h)))
      (λ h. after.not_closed (closed_more p.process D (DoneOr D (first ∷ [])) leaf (λ _. inl) ((tell.closed leaf after.leaf).0 h)))

  -- what is directly before it, and not settled, is settled with the first
  pub settled_by_first : (x : ℕ) → Before p x leaf → ¬ IsTrue (has_leaf sides.settled x) → (first ≡ x) ⊎ IsInChoiceWith p.process x first
  settled_by_first x direct waits =
      let ready = rows_of_ready p.process (pairs_of p.tokens) kept.ordered (DoneOr D (first ∷ [])) leaf after in
      settled_with p.process D x first (λ h. waits ((tell.settled x (direct_first p kept.ordered x leaf direct)).1 h)) (ready.before x direct)

  -- where all of that is settled, some part refuses it
  pub parts_refuse : ((x : ℕ) → Before p x leaf → IsTrue (has_leaf sides.settled x)) → ¬ Each (λ r. PartAllows r sides leaf) parts
  parts_refuse all allowed = refused (ready_of_free kept D sides tell leaf (record {
    leaf = after.leaf;
    not_done = λ h. after.not_done (inl h);
    not_closed = λ h. after.not_closed (closed_more p.process D (DoneOr D (first ∷ [])) leaf (λ _. inl) h);
    before = λ x direct. (tell.settled x (direct_first p kept.ordered x leaf direct)).0 (all x direct);
  }) allowed)

  -- and what that part waits for is settled with the first
  module _ (row : PartRow w) (stops : ¬ PartAllows row sides leaf) (allows : PartAllows row sides first) (part : Process) (part_in : part ∈ isolated_parts p.process)
      (is : IsPartRow p.process (pairs_of p.tokens) part row) (ready : IsReadyByRows p.process (pairs_of p.tokens) (DoneOr D (first ∷ [])) leaf) (x : ℕ) where
    of_plan : (z : ℕ) → z ∈ leaves part → z ∈ leaves p.process
    of_plan z z_in = part_within p.process part z part_in z_in

    begins_then : IsTrue (has_leaf row.inside leaf) → IsTrue (has_leaf row.outside x) → ¬ IsTrue (has_leaf sides.settled x) → (first ≡ x) ⊎ IsInChoiceWith p.process x first
    begins_then mine outside waits =
        let (x_out, (y, y_in, direct)) = (is.outside x).0 outside in
        let fresh : (z : ℕ) → IsTrue (has_leaf row.inside z) → ¬ IsTrue (has_leaf sides.done z) =
        λ z inside done. stops (record { passes = λ other. absurd (other mine); begins = λ _ none. absurd (none z inside done) }) in
        let other : ¬ IsTrue (has_leaf row.inside first) = λ own. waits (allows.begins own fresh x outside) in
        let still_fresh : (z : ℕ) → z ∈ leaves part → ¬ DoneOr D (first ∷ []) z = λ z z_in. ⊎_elim
        (λ d. fresh z ((is.inside z).1 z_in) ((tell.done z (of_plan z z_in)).1 d))
        (λ e. other (subst (λ (v : ℕ). IsTrue (has_leaf row.inside v)) (only_one z first e) ((is.inside z).1 z_in))) in
        settled_with p.process D x first (λ h. waits ((tell.settled x (direct_first p kept.ordered x y direct)).1 h))
        (ready.begins part part_in ((is.inside leaf).0 mine) still_fresh x y x_out y_in direct)

    passes_then : ¬ IsTrue (has_leaf row.inside leaf) → IsTrue (has_leaf row.inside x) → ¬ IsTrue (has_leaf sides.done x) → (first ≡ x) ⊎ IsInChoiceWith p.process x first
    passes_then other inside waits = ⊎_elim
        (λ (u, u_in, done). ⊎_elim
        (λ d. absurd (waits ((tell.done x (of_plan x ((is.inside x).0 inside))).1 d)))
        (λ e. inl (sym (only_one x first e)))
        (ready.outside part part_in (λ h. other ((is.inside leaf).1 h)) u x u_in (inl ((tell.done u (of_plan u u_in)).0 done)) ((is.inside x).0 inside)))
        (λ none. absurd (stops (record { passes = λ _ u v u_in u_done v_in. absurd (none (u, (is.inside u).0 u_in, u_done)); begins = λ own. absurd (other own) })))
        (decide_some (λ u. IsTrue (has_leaf sides.done u)) (λ u. decide_test (has_leaf sides.done u)) (leaves part))

  pub settled_by_part : (row : PartRow w) → row ∈ parts → ¬ PartAllows row sides leaf → (x : ℕ) → IsWaitedFor row sides leaf x → (first ≡ x) ⊎ IsInChoiceWith p.process x first
  settled_by_part row member stops x =
      let (part, part_in, is) = kept.parts_are.sound row member in
      let allows = each_member (λ r. PartAllows r sides first) parts (parts_of_ready kept D sides tell first next) row member in
      let ready = rows_of_ready p.process (pairs_of p.tokens) kept.ordered (DoneOr D (first ∷ [])) leaf after in
      ⊎_elim
      (λ (mine, outside, waits). begins_then row stops allows part part_in is ready x mine outside waits)
      (λ (other, inside, waits). passes_then row stops allows part part_in is ready x other inside waits)

  -- and so is what is found, where nothing directly before it is missing
  pub settled_by_found : ((x : ℕ) → Before p x leaf → IsTrue (has_leaf sides.settled x)) → (found : Option ℕ) →
      IfSome found (λ x. (row : PartRow w) × (row ∈ parts) × ¬ (PartAllows row sides leaf) × IsWaitedFor row sides leaf x) →
      IfNone found (Each (λ row. PartAllows row sides leaf) parts) → IsSettledWith p first found
  settled_by_found all None some none = parts_refuse all none
  settled_by_found all (Some x) some none = let (row, member, stops, waits) = some in settled_by_part row member stops x waits

-- some part waits for the leaf that is found
pub waits_in : {w : ℕ} (parts : List (PartRow w)) (sides : CutSides w) (leaf : ℕ) (row : PartRow w) → row ∈ parts → ¬ PartAllows row sides leaf → (found : Option ℕ) →
    IfSome found (IsWaitedFor row sides leaf) → IfSome found (λ first. (row : PartRow w) × (row ∈ parts) × ¬ (PartAllows row sides leaf) × IsWaitedFor row sides leaf first)
waits_in parts sides leaf row member stops None waits = waits
waits_in parts sides leaf row member stops (Some first) waits = (row, member, stops, waits)

-- ---- leaves that stand in a choice with one

pub stands_more : (rows : List FoldRow) (i : ℕ) (row : FoldRow) (leaf : ℕ) (now new : LeafSet LEAF_WORDS) → i < length rows → row ≡ get_or rows i row →
    IsRowOf (StandsWith (take i rows) leaf) now → ((n : ℕ) → IsTrue (has_leaf new n) ↔ (IsTrue (has_leaf now n) ⊎ (HasLeaf row leaf × HasLeaf row n))) →
    IsRowOf (StandsWith (take (i + 1) rows) leaf) new
stands_more rows i row leaf now new within at before new_is n =
    let more : take (i + 1) rows ≡ take i rows ++ row ∷ [] = take_more rows i row within ∙ ap (λ (r : FoldRow). take i rows ++ r ∷ []) (sym at) in
    subst (λ (l : List FoldRow). IsTrue (has_leaf new n) ↔ StandsWith l leaf n) (sym more) (
      λ has. ⊎_elim
          (λ old. ⊎_elim (λ same. inl same) (λ (r, m, h, k). inr (r, mem_append_left r (take i rows) (row ∷ []) m, h, k)) ((before n).0 old))
          (λ (h, k). inr (row, mem_append_right row (take i rows) (row ∷ []) (inl refl), h, k))
          ((new_is n).0 has),
      λ stands. (new_is n).1 (⊎_elim
          (λ same. inl ((before n).1 (inl same)))
          (λ (r, m, h, k). ⊎_elim
          (λ old. inl ((before n).1 (inr (r, old, h, k))))
          (λ last. let same = only_one r row last in inr (subst (λ (q : FoldRow). HasLeaf q leaf × HasLeaf q n) same (h, k)))
          (mem-append r (take i rows) (row ∷ []) m))
          stands),
    )

pub stands_alone : (rows : List FoldRow) (leaf : ℕ) (none new : LeafSet LEAF_WORDS) → ((n : ℕ) → has_leaf none n ≡ false) → ((n : ℕ) → has_leaf new n ≡ (n == leaf || has_leaf none n)) →
    IsRowOf (StandsWith (take 0 rows) leaf) new
stands_alone rows leaf none new empty new_is n = (
  λ has. ⊎_elim (λ same. inl (eqb-true n leaf same)) (λ old. absurd (false≢true (sym (empty n) ∙ old))) (or_cases (n == leaf) (has_leaf none n) (sym (new_is n) ∙ has)),
  λ stands. new_is n ∙ ⊎_elim (λ same. or_left (n == leaf) (has_leaf none n) (eq-eqb n leaf same)) (λ (row, m, h, k). absurd (no_first rows row m)) stands,
)
  where
    no_first : (rows : List FoldRow) (row : FoldRow) → ¬ (row ∈ take 0 rows)
    no_first [] row m = m
    no_first (first ∷ rows) row m = m

-- each choice has a row among those that tell it
row_of_choice : (ns : List ℕ) (rows : List FoldRow) (choices : List (Process × Process)) → TellRows ns choices rows → (choice : Process × Process) → choice ∈ choices →
    (row : FoldRow) × (row ∈ rows) × IsFoldRow choice row
row_of_choice ns [] choices tells choice m = absurd (subst (λ (l : List (Process × Process)). choice ∈ l) tells m)
row_of_choice ns (first ∷ rows) choices tells choice m = ⊎_elim
    (λ (own, more, e, is, t). ⊎_elim
    (λ same. (first, inl refl, subst (λ (c : Process × Process). IsFoldRow c first) (sym same) is))
    (λ k. let (row, there, row_is) = row_of_choice ns rows more t choice k in (row, inr there, row_is))
    (subst (λ (l : List (Process × Process)). choice ∈ l) e m))
    (λ (none, t). let (row, there, row_is) = row_of_choice ns rows choices t choice m in (row, inr there, row_is)) tells

pub stands_in_choice : (q : Process) (rows : List FoldRow) → AreFoldRows q rows → (leaf first : ℕ) → (first ≡ leaf) ⊎ IsInChoiceWith q leaf first → StandsWith rows leaf first
stands_in_choice q rows are leaf first = ⊎_elim inl (λ (choice, m, h, k).
    let (row, there, is) = row_of_choice (leaves q) rows (choices_of q) are choice m in
    inr (row, there, (has_both choice row is leaf).1 h, (has_both choice row is first).1 k))

-- ---- what follows in every order

-- leaves that follow in every order are distinct
pub orders_distinct : (p : Planned) (done : ℕ → Bool) (list : List ℕ) → MayFollowInEveryOrder p (λ x. IsTrue (done x)) list → AreDistinct list
orders_distinct p done list all = distinct_by_two p (λ x. IsTrue (done x)) list (by_two p done list all).1

-- and each may come next
pub each_of_orders : (p : Planned) (D : ℕ → Type 0) (list : List ℕ) (n : ℕ) → MayFollowInEveryOrder p D list → n ∈ list → MayComeNext p D n
each_of_orders p D list n all member =
    let (front, back, is) = split_at n list member in
    (all (n ∷ (front ++ back)) (front, back, is, same_order (front ++ back))).0

-- a leaf that they follow is none of them
pub first_is_other : (p : Planned) (D : ℕ → Type 0) (list : List ℕ) (n : ℕ) → MayFollowInEveryOrder p (DoneOr D (n ∷ [])) list → ¬ (n ∈ list)
first_is_other p D list n all member = (each_of_orders p (DoneOr D (n ∷ [])) list n all member).not_done (inr (inl refl))

module _ {w : ℕ} (next claims apart found rest : LeafSet w)
    (rest_is : (n : ℕ) → has_leaf rest n ≡ (not (has_leaf found n) && (not (has_leaf apart n) && (not (has_leaf claims n) && has_leaf next n)))) where
  parted : (f a c x : Bool) → IsTrue (not f && (not a && (not c && x))) → IsTrue x × ¬ IsTrue c × ¬ IsTrue a
  parted false false false x h = (h, (λ wrong. absurd (cc)), (λ wrong. absurd (cc)))
  parted false false true x h = absurd (cc)
  parted false true c x h = absurd (cc)
  parted true a c x h = absurd (cc)

  made : (f a c x : Bool) → IsTrue x → ¬ IsTrue c → ¬ IsTrue a → IsTrue (not f && (not a && (not c && x))) ⊎ IsTrue f
  made true a c x h other away = inr refl
  made false true c x h other away = absurd (away refl)
  made false false true x h other away = absurd (other refl)
  made false false false x h other away = inl h

  pub rest_parts : (n : ℕ) → IsTrue (has_leaf rest n) → IsTrue (has_leaf next n) × ¬ IsTrue (has_leaf claims n) × ¬ IsTrue (has_leaf apart n)
  rest_parts n has = parted (has_leaf found n) (has_leaf apart n) (has_leaf claims n) (has_leaf next n) (sym (rest_is n) ∙ has)

  pub rest_or_found : (n : ℕ) → IsTrue (has_leaf next n) → ¬ IsTrue (has_leaf claims n) → ¬ IsTrue (has_leaf apart n) → IsTrue (has_leaf rest n) ⊎ IsTrue (has_leaf found n)
  rest_or_found n has other away = ⊎_elim (λ h. inl (rest_is n ∙ h)) (λ h. inr h) (made (has_leaf found n) (has_leaf apart n) (has_leaf claims n) (has_leaf next n) has other away)

-- what is known where leaves are looked for that may follow beside the claimed ones, or before them
pub record IsAsked {w : ℕ} (p : Planned) (done : ℕ → Bool) (list : List ℕ) (next claims apart found rest : LeafSet w) : Type 0 where
  pub rest_is : (n : ℕ) → has_leaf rest n ≡ (not (has_leaf found n) && (not (has_leaf apart n) && (not (has_leaf claims n) && has_leaf next n)))
  pub ordered : IsFoldedOrdered p.process (pairs_of p.tokens)
  pub next_is : IsRowOf (MayComeNext p (λ x. IsTrue (done x))) next
  pub claims_are : IsRowOf (λ x. x ∈ list) claims
  pub distinct : AreDistinct list
  pub apart_is : AreApart p list apart

module _ {w : ℕ} {p : Planned} {done : ℕ → Bool} {list : List ℕ} {next claims apart found rest : LeafSet w} (asked : IsAsked p done list next claims apart found rest) where
  abbrev D : ℕ → Type 0
  D x = IsTrue (done x)

  -- what follows with the claimed ones is among the rest or found
  pub beside_or_found : (n : ℕ) → MayFollowInEveryOrder p D (n ∷ list) → IsTrue (has_leaf rest n) ⊎ IsTrue (has_leaf found n)
  beside_or_found n all =
      let (each, two) = by_two p done (n ∷ list) all in
      let off = apart_by_two p D (n ∷ list) asked.ordered two in
      rest_or_found next claims apart found rest asked.rest_is n ((asked.next_is n).1 each.0) (λ claimed. (orders_distinct p done (n ∷ list) all).0 ((asked.claims_are n).0 claimed))
      (λ has. apart_front p.process n list off ((asked.apart_is n each.0.leaf).0 has))

  pub claims_next : (n : ℕ) → MayFollowInEveryOrder p D (n ∷ list) → (k : ℕ) → IsTrue (has_leaf claims k) → IsTrue (has_leaf next k)
  claims_next n all k claimed = (asked.next_is k).1 (each_member (MayComeNext p D) list (by_two p done (n ∷ list) all).0.1 k ((asked.claims_are k).0 claimed))

  -- no claimed leaf is closed off by another, where all may follow
  unmet : AreAllApart p.process list → Each (λ n. n ∈ leaves p.process) list → ¬ ((k : ℕ) × IsTrue (has_leaf claims k) × IsTrue (has_leaf apart k))
  unmet off within (k, claimed, has) =
      let k_in = (asked.claims_are k).0 claimed in none_closed p.process list off k k_in ((asked.apart_is k (each_member (λ n. n ∈ leaves p.process) list within k k_in)).0 has)

  pub beside_unmet : (n : ℕ) → MayFollowInEveryOrder p D (n ∷ list) → ¬ ((k : ℕ) × IsTrue (has_leaf claims k) × IsTrue (has_leaf apart k))
  beside_unmet n all =
      let (each, two) = by_two p done (n ∷ list) all in
      unmet (apart_rest p.process n list (apart_by_two p D (n ∷ list) asked.ordered two)) (each_to (MayComeNext p D) (λ n. n ∈ leaves p.process) list (λ k r. r.leaf) each.1)

  all_apart : ((k : ℕ) → IsTrue (has_leaf claims k) → k ∈ leaves p.process) → ¬ ((k : ℕ) × IsTrue (has_leaf claims k) × IsTrue (has_leaf apart k)) → AreAllApart p.process list
  all_apart within none = apart_from_each p.process list (λ y y_in closed. let claimed = (asked.claims_are y).1 y_in in none (y, claimed, (asked.apart_is y (within y claimed)).1 closed))

  -- the leaf and the claimed ones after it
  abbrev After : ℕ → ℕ → Bool
  After n x = x == n || done x

  to_after : (n : ℕ) → MayFollowInEveryOrder p (DoneOr D (n ∷ [])) list ↔ MayFollowInEveryOrder p (λ x. IsTrue (After n x)) list
  to_after n = same_orders p (DoneOr D (n ∷ [])) (λ x. IsTrue (After n x)) list (λ x. let (to, from) = one_more x n (done x) in (from, to))

  pub first_unmet : (n : ℕ) → MayFollowInEveryOrder p (DoneOr D (n ∷ [])) list → ¬ ((k : ℕ) × IsTrue (has_leaf claims k) × IsTrue (has_leaf apart k))
  first_unmet n all =
      let (each, two) = by_two p (After n) list ((to_after n).0 all) in
      unmet (apart_by_two p (λ x. IsTrue (After n x)) list asked.ordered two) (each_to (MayComeNext p (λ x. IsTrue (After n x))) (λ n. n ∈ leaves p.process) list (λ k r. r.leaf) each)

  pub first_or_found : (n : ℕ) → MayComeNext p D n → MayFollowInEveryOrder p (DoneOr D (n ∷ [])) list → IsTrue (has_leaf rest n) ⊎ IsTrue (has_leaf found n)
  first_or_found n ready all =
      rest_or_found next claims apart found rest asked.rest_is n ((asked.next_is n).1 ready) (λ claimed. first_is_other p D list n all ((asked.claims_are n).0 claimed))
      (λ has.
      let (x, x_in, closed) = closed_by_one p.process (λ x. x ∈ list) n ((asked.apart_is n ready.leaf).0 has) in
      (each_of_orders p (DoneOr D (n ∷ [])) list x all x_in).not_closed
      (closed_more p.process (λ z. z ≡ n) (DoneOr D (n ∷ [])) x (λ z e. inr (inl e)) (closed_turned p.process x n closed)))

  each_next : ((k : ℕ) → IsTrue (has_leaf claims k) → IsTrue (has_leaf next k)) → Each (MayComeNext p D) list
  each_next within = each_from_members (MayComeNext p D) list (λ k member. (asked.next_is k).0 (within k ((asked.claims_are k).1 member)))

  module _ {v : ℕ} {before : List (LeafSet v)} {parts : List (PartRow v)} (kept : AreFieldsOf p before parts) (within : (k : ℕ) → IsTrue (has_leaf claims k) → IsTrue (has_leaf next k))
      (none : ¬ ((k : ℕ) × IsTrue (has_leaf claims k) × IsTrue (has_leaf apart k))) (keep new : LeafSet w)
      (new_is : (n : ℕ) → IsTrue (has_leaf new n) ↔ (IsTrue (has_leaf found n) ⊎ IsTrue (has_leaf keep n))) where
    -- the leaf closes off no claimed one, nor is it closed off, and so are they among themselves
    off : (n : ℕ) → MayComeNext p D n → ¬ IsTrue (has_leaf apart n) → AreAllApart p.process (n ∷ list)
    off n ready away = apart_with p.process n list asked.ordered.distinct (all_apart (λ k claimed. ((asked.next_is k).0 (within k claimed)).leaf) none) (λ closed. away ((asked.apart_is n ready.leaf).1 closed))

    pub adds_beside : ((n : ℕ) → IsTrue (has_leaf keep n) ↔ (IsTrue (has_leaf rest n) × Each (λ r. KeepsBeside r (λ x. IsTrue (has_leaf claims x)) n) parts)) →
        (n : ℕ) → IsTrue (has_leaf new n) ↔ (IsTrue (has_leaf found n) ⊎ MayFollowInEveryOrder p D (n ∷ list))
    adds_beside keep_is n = (
      λ has. ⊎_elim (λ f. inl f)
          (λ k. let both = (keep_is n).0 k in
          let mine = rest_parts next claims apart found rest asked.rest_is n both.0 in
          let ready = (asked.next_is n).0 mine.0 in
          let each : Each (MayComeNext p D) (n ∷ list) = (ready, each_next within) in
          inr (every_order p done (n ∷ list) each
          ((together_beside kept D claims list n asked.claims_are (λ m. mine.1 ((asked.claims_are n).1 m)) asked.distinct each (off n ready mine.2)).0 both.1)))
          ((new_is n).0 has),
      λ either. (new_is n).1 (⊎_elim (λ f. inl f)
          (λ all. let (each, two) = by_two p done (n ∷ list) all in
          ⊎_elim (λ r. inr ((keep_is n).1 (
            r,
            (together_beside kept D claims list n asked.claims_are (orders_distinct p done (n ∷ list) all).0 asked.distinct each (apart_by_two p D (n ∷ list) asked.ordered two)).1 two,
          )))
          (λ f. inl f) (beside_or_found n all))
          either),
    )

    pub adds_first : ((n : ℕ) → IsTrue (has_leaf keep n) ↔ (IsTrue (has_leaf rest n) × Each (λ r. KeepsAfter r (λ x. IsTrue (has_leaf claims x)) n) parts)) →
        (n : ℕ) → IsTrue (has_leaf new n) ↔ (IsTrue (has_leaf found n) ⊎ (MayComeNext p D n × MayFollowInEveryOrder p (DoneOr D (n ∷ [])) list))
    adds_first keep_is n = (
      λ has. ⊎_elim (λ f. inl f)
          (λ k. let both = (keep_is n).0 k in
          let mine = rest_parts next claims apart found rest asked.rest_is n both.0 in
          let ready = (asked.next_is n).0 mine.0 in
          inr (ready, (to_after n).1 (after_keeps kept done claims list n asked.claims_are (λ m. mine.1 ((asked.claims_are n).1 m)) asked.distinct ready (each_next within) (off n ready mine.2) both.1)))
          ((new_is n).0 has),
      λ either. (new_is n).1 (⊎_elim (λ f. inl f)
          (λ both.
          let other : ¬ (n ∈ list) = first_is_other p D list n both.1 in
          ⊎_elim (λ r. inr ((keep_is n).1 (r, keeps_after kept done claims list n asked.claims_are other asked.distinct both.0 (each_next within) ((to_after n).0 both.1))))
          (λ f. inl f) (first_or_found n both.0 both.1))
          either),
    )
