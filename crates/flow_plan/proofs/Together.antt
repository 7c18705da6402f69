-- Leaves that may come next, beside one another.
use Rattle.std.proofs.Common.{◌≡◌, ◌≢◌, ◌+◌, ◌<◌, ℕ, Bool, ◌==◌, ◌||◌, ◌↔◌, IsTrue, List, [], ◌∷◌, ◌++◌, length, take, drop, get_or, ap, inl, inr, ◌⊎◌, ⊎_elim, refl, sym, ◌∙◌, subst}
use Rattle.std.proofs.lemmas.Bool.{cases_Bool}
use Rattle.std.proofs.lemmas.List.{take-append-drop, take_more, drop_more}
use Rattle.leaf_rows.specs.Leaves.{has_leaf}
use Rattle.leaf_rows.specs.declared.leaf_set.LeafSet.{LeafSet}
use Rattle.flow_model.specs.Lists.{◌∈◌, Each, AreDistinct}
use Rattle.flow_model.specs.Process.{leaves}
use Rattle.flow_model.specs.Ready.{DoneOr}
use Rattle.flow_model.specs.FoldedReady.{IsClosedOff}
use Rattle.flow_laws.specs.WellFormed.{EachTwo}
use Rattle.flow_fold_laws.specs.Unfolding.{IsFoldedOrdered}
use Rattle.flow_fold_laws.proofs.AvoidedTogether.{closed_more}
use Rattle.flow_fold_laws.proofs.FoldedByRows.{rows_of_ready, ready_of_rows}
use Rattle.flow_fold_laws.proofs.FoldedOrdersByTwo.{same_folded_ready}
use Rattle.flow_model.proofs.Lists.{each_member, each_from_members, distinct_parts, distinct-append, only_one}
use Rattle.flow_plan.specs.declared.part_row.PartRow.{PartRow}
use Rattle.flow_plan.specs.Planned.{Planned, pairs_of}
use Rattle.flow_plan.specs.Orders.{MayComeNext, MayComeAfter, MayFollowInEveryOrder}
use Rattle.flow_plan.specs.Rows.{IsRowOf}
use Rattle.flow_plan.specs.Parts.{KeepsTogether, KeepsBeside, KeepsAfter}
use Rattle.flow_plan.specs.Fields.{AreFieldsOf}
use Rattle.flow_plan.proofs.ClosedLemmas.{AreAllApart, closed_by_one, not_by_itself, settled_more}
use Rattle.flow_plan.proofs.Following.{by_two, every_order}
use Rattle.flow_plan.proofs.RowLemmas.{one_more}

-- two members of a list are the same, or the one has R with the other
two_members : (R : ℕ → ℕ → Type 0) (list : List ℕ) → EachTwo R list → (x y : ℕ) → x ∈ list → y ∈ list → (x ≡ y) ⊎ R x y
two_members R [] two x y x_in y_in = absurd x_in
two_members R (z ∷ list) two x y (inl first) (inl second) = inl (first ∙ sym second)
two_members R (z ∷ list) two x y (inl first) (inr y_in) = inr (subst (λ (n : ℕ). R n y) (sym first) (each_member (λ n. R z n × R n z) list two.0 y y_in).0)
two_members R (z ∷ list) two x y (inr x_in) (inl second) = inr (subst (λ (n : ℕ). R x n) (sym second) (each_member (λ n. R z n × R n z) list two.0 x x_in).1)
two_members R (z ∷ list) two x y (inr x_in) (inr y_in) = two_members R list two.1 x y x_in y_in

-- leaves each of which may come after each other one do not close one another off
pub apart_by_two : (p : Planned) (D : ℕ → Type 0) (list : List ℕ) → IsFoldedOrdered p.process (pairs_of p.tokens) → EachTwo (MayComeAfter p D) list → AreAllApart p.process list
apart_by_two p D list ordered two x y x_in y_in closed = ⊎_elim
    (λ (same : x ≡ y). not_by_itself p.process x ordered.distinct (subst (λ (n : ℕ). IsClosedOff p.process (λ z. z ≡ x) n) (sym same) closed))
    (λ after. after.not_closed (closed_more p.process (λ z. z ≡ x) (DoneOr D (x ∷ [])) y (λ z e. inr (inl e)) closed))
    (two_members (MayComeAfter p D) list two x y x_in y_in)

module _ {w : ℕ} {p : Planned} {before : List (LeafSet w)} {parts : List (PartRow w)} (kept : AreFieldsOf p before parts) (D : ℕ → Type 0) where
  -- the one may come after the other where no part has it alone, and it does not close it off
  comes_after : (x y : ℕ) → x ≢ y → MayComeNext p D x → MayComeNext p D y → ¬ (IsClosedOff p.process (λ z. z ≡ x) y) →
      ((row : PartRow w) → row ∈ parts → IsTrue (has_leaf row.inside x) → IsTrue (has_leaf row.inside y)) → MayComeAfter p D x y
  comes_after x y other first next apart together =
      let second = rows_of_ready p.process (pairs_of p.tokens) kept.ordered D y next in
      ready_of_rows p.process (pairs_of p.tokens) kept.ordered (DoneOr D (x ∷ [])) y (record {
        leaf = second.leaf;
        not_done = λ either. ⊎_elim (λ done. second.not_done done) (λ last. other (sym (only_one y x last))) either;
        not_closed = λ closed. let (z, done, by) = closed_by_one p.process (DoneOr D (x ∷ [])) y closed in ⊎_elim
            (λ d. second.not_closed (closed_more p.process (λ v. v ≡ z) D y (λ v e. subst D (sym e) d) by))
            (λ e. apart (subst (λ (u : ℕ). IsClosedOff p.process (λ v. v ≡ u) y) (only_one z x e) by)) done;
        before = λ z direct. settled_more p.process D (DoneOr D (x ∷ [])) z (λ _. inl) (second.before z direct);
        outside = λ part member out u v u_in u_done v_in. ⊎_elim
            (λ done. inl (second.outside part member out u v u_in done v_in))
            (λ last. let same : u ≡ x = only_one u x last in ⊎_elim
            (λ single. inr (inl (single v u v_in u_in ∙ same)))
            (λ found. absurd (out ((found.2.inside y).0 (together found.0 found.1 ((found.2.inside x).1 (subst (λ (n : ℕ). n ∈ leaves part) same u_in))))))
            (kept.parts_are.complete part member)) u_done;
        begins = λ part member mine none u v u_out v_in direct.
            settled_more p.process D (DoneOr D (x ∷ [])) u (λ _. inl) (second.begins part member mine (λ z z_in done. none z z_in (inl done)) u v u_out v_in direct);
      })

  -- and only there
  not_alone : (x y : ℕ) → MayComeNext p D x → MayComeNext p D y → MayComeAfter p D x y → (row : PartRow w) → row ∈ parts → IsTrue (has_leaf row.inside x) →
      IsTrue (has_leaf row.inside y)
  not_alone x y first next later row member x_in = ⊎_elim (λ yes. yes)
      (λ no.
      let second = rows_of_ready p.process (pairs_of p.tokens) kept.ordered D y next in
      let after = rows_of_ready p.process (pairs_of p.tokens) kept.ordered (DoneOr D (x ∷ [])) y later in
      let (part, part_in, is) = kept.parts_are.sound row member in
      let out : ¬ (y ∈ leaves part) = λ h. let yes = (is.inside y).1 h in absurd (cc) in
      let two = each_member _ parts kept.parts_are.two row member in
      let begun : (v : ℕ) → v ∈ leaves part → DoneOr D (x ∷ []) v = λ v v_in. after.outside part part_in out x v ((is.inside x).0 x_in) (inr (inl refl)) v_in in
      let undone : (w : ℕ) → w ∈ leaves part → D w → ⊥ = λ w w_in done. first.not_done (second.outside part part_in out w x w_in done ((is.inside x).0 x_in)) in
      let alone : (w : ℕ) → w ∈ leaves part → w ≡ x = λ w w_in. ⊎_elim (λ done. absurd (undone w w_in done)) (λ last. only_one w x last) (begun w w_in) in
      absurd (two.2 (alone two.0 ((is.inside two.0).0 two.3) ∙ sym (alone two.1 ((is.inside two.1).0 two.4)))))
      (cases_Bool (has_leaf row.inside y))

  all_after : (list : List ℕ) → AreDistinct list → Each (MayComeNext p D) list → AreAllApart p.process list → ((x y : ℕ) → x ∈ list → y ∈ list → (row : PartRow w) → row ∈ parts →
      IsTrue (has_leaf row.inside x) → IsTrue (has_leaf row.inside y)) → EachTwo (MayComeAfter p D) list
  all_after [] distinct each apart together = tt
  all_after (x ∷ list) distinct each apart together = (
    each_from_members (λ y. MayComeAfter p D x y × MayComeAfter p D y x) list (λ y member.
        let other : x ≢ y = λ same. distinct.0 (subst (λ (n : ℕ). n ∈ list) (sym same) member) in
        let next = each_member (MayComeNext p D) list each.1 y member in (
          comes_after x y other each.0 next (apart x y (inl refl) (inr member)) (together x y (inl refl) (inr member)),
          comes_after y x (λ same. other (sym same)) next each.0 (apart y x (inr member) (inl refl)) (together y x (inr member) (inl refl)),
        )),
    all_after list distinct.1 each.1 (λ y z y_in z_in. apart y z (inr y_in) (inr z_in)) (λ y z y_in z_in. together y z (inr y_in) (inr z_in)),
  )

  of_all_after : (list : List ℕ) → Each (MayComeNext p D) list → EachTwo (MayComeAfter p D) list → (x y : ℕ) → x ∈ list → y ∈ list → (row : PartRow w) → row ∈ parts →
      IsTrue (has_leaf row.inside x) → IsTrue (has_leaf row.inside y)
  of_all_after list each two x y x_in y_in row member has = ⊎_elim
      (λ (same : x ≡ y). subst (λ (n : ℕ). IsTrue (has_leaf row.inside n)) same has)
      (λ after. not_alone x y (each_member (MayComeNext p D) list each x x_in) (each_member (MayComeNext p D) list each y y_in) after row member has)
      (two_members (MayComeAfter p D) list two x y x_in y_in)

  -- leaves that may come next, none of them twice or closed off by another, may do so after one another where each part keeps them together
  pub together_by_two : {v : ℕ} (set : LeafSet v) (list : List ℕ) (answer : Bool) → (IsTrue answer ↔ Each (λ row. KeepsTogether row (λ x. IsTrue (has_leaf set x))) parts) →
      IsRowOf (λ x. x ∈ list) set → AreDistinct list → Each (MayComeNext p D) list → AreAllApart p.process list → IsTrue answer ↔ EachTwo (MayComeAfter p D) list
  together_by_two set list answer says is distinct each apart = (
    λ yes. all_after list distinct each apart (λ x y x_in y_in row member has.
        each_member (λ row. KeepsTogether row (λ x. IsTrue (has_leaf set x))) parts (says.0 yes) row member x y ((is x).1 x_in) ((is y).1 y_in) has),
    λ two. says.1 (each_from_members (λ row. KeepsTogether row (λ x. IsTrue (has_leaf set x))) parts (λ row member x y x_in y_in has.
        of_all_after list each two x y ((is x).0 x_in) ((is y).0 y_in) row member has)),
  )

  -- the same of one leaf more, where the others are a row
  pub together_beside : {v : ℕ} (claims : LeafSet v) (list : List ℕ) (n : ℕ) → IsRowOf (λ x. x ∈ list) claims → ¬ (n ∈ list) → AreDistinct list → Each (MayComeNext p D) (n ∷ list) →
      AreAllApart p.process (n ∷ list) → Each (λ row. KeepsBeside row (λ x. IsTrue (has_leaf claims x)) n) parts ↔ EachTwo (MayComeAfter p D) (n ∷ list)
  together_beside claims list n is other distinct each apart = (
    λ keeps. all_after (n ∷ list) (other, distinct) each apart (λ x y x_in y_in row member has.
        each_member (λ row. KeepsBeside row (λ x. IsTrue (has_leaf claims x)) n) parts keeps row member x y (into x x_in) (into y y_in) has),
    λ two. each_from_members (λ row. KeepsBeside row (λ x. IsTrue (has_leaf claims x)) n) parts (λ row member x y x_is y_is has.
        of_all_after (n ∷ list) each two x y (out x x_is) (out y y_is) row member has),
  )
    where
      into : (x : ℕ) → x ∈ (n ∷ list) → (x ≡ n) ⊎ IsTrue (has_leaf claims x)
      into x (inl same) = inl same
      into x (inr member) = inr ((is x).1 member)

      out : (x : ℕ) → (x ≡ n) ⊎ IsTrue (has_leaf claims x) → x ∈ (n ∷ list)
      out x (inl same) = inl same
      out x (inr has) = inr ((is x).0 has)

-- ---- the leaves after one

module _ {v w : ℕ} {p : Planned} {before : List (LeafSet w)} {parts : List (PartRow w)} (kept : AreFieldsOf p before parts) (done : ℕ → Bool) (claims : LeafSet v) (list : List ℕ) (n : ℕ)
    (is : IsRowOf (λ x. x ∈ list) claims) (other : ¬ (n ∈ list)) (distinct : AreDistinct list) (next : MayComeNext p (λ x. IsTrue (done x)) n)
    (each : Each (MayComeNext p (λ x. IsTrue (done x))) list) where
  abbrev D : ℕ → Type 0
  D x = IsTrue (done x)

  abbrev E : ℕ → Type 0
  E x = IsTrue (x == n || done x)

  abbrev Keeps : PartRow w → Type 0
  Keeps row = KeepsAfter row (λ x. IsTrue (has_leaf claims x)) n

  to_either : (x : ℕ) → E x → DoneOr D (n ∷ []) x
  to_either x = (one_more x n (done x)).0

  from_either : (x : ℕ) → DoneOr D (n ∷ []) x → E x
  from_either x = (one_more x n (done x)).1

  pub after_keeps : AreAllApart p.process (n ∷ list) → Each Keeps parts → MayFollowInEveryOrder p E list
  after_keeps apart keeps =
      let each_after : Each (MayComeNext p E) list = each_from_members (MayComeNext p E) list (λ y member.
      same_folded_ready p.process (pairs_of p.tokens) (DoneOr D (n ∷ [])) E y from_either to_either
      (comes_after kept D n y (λ same. other (subst (λ (m : ℕ). m ∈ list) (sym same) member)) next (each_member (MayComeNext p D) list each y member)
      (apart n y (inl refl) (inr member)) (λ row row_in mine. (each_member Keeps parts keeps row row_in).1 mine y ((is y).1 member)))) in
      let two = all_after kept E list distinct each_after (λ x y x_in y_in. apart x y (inr x_in) (inr y_in))
      (λ x y x_in y_in row member has. (each_member Keeps parts keeps row member).0 x y ((is x).1 x_in) ((is y).1 y_in) has) in
      every_order p (λ x. x == n || done x) list each_after two

  pub keeps_after : MayFollowInEveryOrder p E list → Each Keeps parts
  keeps_after all =
      let (each_after, two) = by_two p (λ x. x == n || done x) list all in
      each_from_members Keeps parts (λ row member. (
        λ x y x_is y_is has. of_all_after kept E list each_after two x y ((is x).0 x_is) ((is y).0 y_is) row member has,
        λ mine y claimed. let y_in : y ∈ list = (is y).0 claimed in
            not_alone kept D n y next (each_member (MayComeNext p D) list each y y_in)
            (same_folded_ready p.process (pairs_of p.tokens) E (DoneOr D (n ∷ [])) y to_either from_either (each_member (MayComeNext p E) list each_after y y_in)) row member mine,
      ))

-- no leaf twice, where each may come after the others
pub distinct_by_two : (p : Planned) (D : ℕ → Type 0) (list : List ℕ) → EachTwo (MayComeAfter p D) list → AreDistinct list
distinct_by_two p D [] two = tt
distinct_by_two p D (x ∷ list) two = (
  λ member. (each_member _ list two.0 x member).0.not_done (inr (inl refl)),
  distinct_by_two p D list two.1,
)

-- ---- a list with no leaf twice, leaf by leaf

pub twice_there : (list : List ℕ) (i : ℕ) → i < length list → get_or list i 0 ∈ take i list → ¬ AreDistinct list
twice_there list i within before distinct =
    let cut : list ≡ take i list ++ (get_or list i 0 ∷ drop (i + 1) list) = sym (take-append-drop i list) ∙ ap (λ (l : List ℕ). take i list ++ l) (drop_more list i 0 within) in
    let parts = distinct_parts (take i list) (get_or list i 0 ∷ drop (i + 1) list) (subst (λ (l : List ℕ). AreDistinct l) cut distinct) in
    parts.2 (get_or list i 0) before (inl refl)

pub distinct_more : (list : List ℕ) (i : ℕ) → i < length list → ¬ (get_or list i 0 ∈ take i list) → AreDistinct (take i list) → AreDistinct (take (i + 1) list)
distinct_more list i within fresh distinct =
    subst (λ (l : List ℕ). AreDistinct l) (sym (take_more list i 0 within))
    (distinct-append (take i list) (get_or list i 0 ∷ []) distinct ((λ none. none), tt)
    (λ x m k. ⊎_elim (λ same. fresh (subst (λ z. z ∈ take i list) same m)) (λ none. none) k))
