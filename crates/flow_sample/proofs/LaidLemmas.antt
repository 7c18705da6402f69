-- Runs of the items of a part, in an order in which each stands behind those before it.
use Rattle.std.proofs.Common.{◌≡◌, ◌≢◌, ℕ, ◌<◌, List, [], ◌∷◌, map, length, refl, sym, subst, inl, inr, ⊎_elim, arith, slice_get, Result, Ok, Err, IfOk, IfErr, Vec, Global}
use Rattle.std.proofs.lemmas.Bool.{cases_lt}
use Rattle.flow_model.specs.Lists.{◌∈◌, AreDistinct, AreInOrder, StandsBefore, joined}
use Rattle.flow_model.specs.Process.{Process, leaves}
use Rattle.flow_model.specs.Trace.{Trace}
use Rattle.flow_model.specs.Ready.{DirectlyBefore, isolated_parts}
use Rattle.flow_model.specs.Circle.{items_of, IsCircle}
use Rattle.flow_laws.specs.WellFormed.{IsOrdered}
use Rattle.flow_model.proofs.Lists.{distinct-append, before_across, before_left, before_right, before_or_after, not_both_ways, before_members, each_from_members}
use Rattle.flow_model.specs.Decided.{decide_eq}
use Rattle.flow_model.proofs.MadeLists.{mem_joined, list_having, mem-map, of_map}
use Rattle.flow_laws.proofs.Orderings.{trace_of_ordering}
use Rattle.flow_laws.proofs.ReadyRuns.{direct_first, direct_second, arrangement_of}
use Rattle.flow_laws.proofs.CircleOrTrace.{circle_excludes}
use Rattle.flow_laws.proofs.GoalParts.{regions, item_within, item_having, part_or_region}
use Rattle.flow_sample.specs.declared.item.Item.{Item}
use Rattle.flow_sample.specs.Rows.{run_in, IsIn, IsOneOf}
use Rattle.flow_sample.specs.Arranged.{IsWholeOrder, IsRunOf, TellsRing}
use Rattle.flow_sample.specs.Items.{item_at, IsLinedUp, IsItemOf, AreItemsOf, TellsCircle}
use Rattle.flow_plan.specs.Options.{HasExecution}
use Rattle.flow_model.specs.Resolution.{ChoiceOption}
use Rattle.flow_sample.specs.declared.sample.ExciseRefusal.{ExciseRefusal}
use Rattle.flow_sample.proofs.ItemLemmas.{mem-item_at, number_of, same_length, in_list, in_item, waits_list, waits_item, laid_at, one_number, least_is, tells_circle}

-- lists joined in an order

module _ (f : ℕ → List ℕ) where
  mem_block : (order : List ℕ) (n x : ℕ) → n ∈ order → x ∈ f n → x ∈ joined (map f order)
  mem_block order n x m h = mem_joined x (map f order) (f n) (mem-map f n order m) h

  of_block : (order : List ℕ) (x : ℕ) → x ∈ joined (map f order) → (n : ℕ) × (n ∈ order) × (x ∈ f n)
  of_block order x h =
      let r = list_having x (map f order) h in
      let s = of_map f r.0 order r.1 in
      (s.0, s.1, subst (λ z. x ∈ z) s.2 r.2)

  before_blocks : (order : List ℕ) (i j x y : ℕ) → StandsBefore i j order → x ∈ f i → y ∈ f j → StandsBefore x y (joined (map f order))
  before_blocks [] i j x y h k l = absurd h
  before_blocks (z ∷ order) i j x y (inl h) k l = before_across x y (f z) (joined (map f order)) (subst (λ u. x ∈ f u) h.0 k) (mem_block order j y h.1 l)
  before_blocks (z ∷ order) i j x y (inr h) k l = before_right x y (f z) (joined (map f order)) (before_blocks order i j x y h k l)

  before_in : (order : List ℕ) (n x y : ℕ) → n ∈ order → StandsBefore x y (f n) → StandsBefore x y (joined (map f order))
  before_in [] n x y m h = absurd m
  before_in (z ∷ order) n x y (inl e) h = before_left x y (f z) (joined (map f order)) (subst (λ u. StandsBefore x y (f u)) e h)
  before_in (z ∷ order) n x y (inr m) h = before_right x y (f z) (joined (map f order)) (before_in order n x y m h)

  distinct_blocks : (order : List ℕ) → AreDistinct order → ((n : ℕ) → n ∈ order → AreDistinct (f n)) →
      ((i j x : ℕ) → i ∈ order → j ∈ order → x ∈ f i → x ∈ f j → i ≡ j) → AreDistinct (joined (map f order))
  distinct_blocks [] d each one = tt
  distinct_blocks (z ∷ order) d each one =
      distinct-append (f z) (joined (map f order)) (each z (inl refl)) (distinct_blocks order d.1 (λ n m. each n (inr m)) (λ i j x k l. one i j x (inr k) (inr l)))
      (λ x h k. let r = of_block order x k in d.0 (subst (λ u. u ∈ order) (sym (one z r.0 x (inl refl) (inr r.1) h r.2)) r.1))

module _ {words : ℕ} (q : Process) (pairs : List (ℕ × ℕ)) (o : IsOrdered q pairs) (part : Process) (p : part ∈ regions q) (items : List (Item words))
    (a : AreItemsOf q pairs (items_of part) items) (order : List ℕ) (w : IsWholeOrder items order) where
  abbrev f : ℕ → List ℕ
  f n = run_in (slice_get items n)

  abbrev run : List ℕ
  run = joined (map f order)

  there : (n : ℕ) → n ∈ order → n < length (items_of part)
  there n m = omega (arith, w.within n m, same_length q pairs (items_of part) items a)

  listed : (n : ℕ) → n < length (items_of part) → n ∈ order
  listed n l = w.all n (omega (arith, same_length q pairs (items_of part) items a))

  at : (n : ℕ) → n ∈ order → IsLinedUp q pairs (item_at (items_of part) n) (f n)
  at n m = laid_at q pairs (items_of part) items a n (there n m)

  one : (i j x : ℕ) → i ∈ order → j ∈ order → x ∈ f i → x ∈ f j → i ≡ j
  one i j x k l h g = one_number q pairs o part p items a i j x (there i k) (there j l) ((at i k).leaf x h) ((at j l).leaf x g)

  -- the item of a leaf
  holding : (x : ℕ) → x ∈ leaves part → (n : ℕ) × (n ∈ order) × (x ∈ item_at (items_of part) n)
  holding x m =
      let r = item_having part x m in
      let s = number_of (items_of part) r.0 r.1 in
      (s.0, listed s.0 s.1, subst (λ z. x ∈ z) (sym s.2) r.2)

  run_leaf : (x : ℕ) → x ∈ run → x ∈ leaves part
  run_leaf x m =
      let r = of_block f order x m in
      item_within part (item_at (items_of part) r.0) x (mem-item_at (items_of part) r.0 (there r.0 r.1)) ((at r.0 r.1).leaf x r.2)

  run_distinct : AreDistinct run
  run_distinct = distinct_blocks f order w.distinct (λ n m. (at n m).distinct) one

  run_before : (x y : ℕ) → x ∈ leaves part → y ∈ leaves part → DirectlyBefore q pairs x y → StandsBefore x y run
  run_before x y k l b = between (holding x k) (holding y l)
    where
      between : (i : ℕ) × (i ∈ order) × (x ∈ item_at (items_of part) i) → (j : ℕ) × (j ∈ order) × (y ∈ item_at (items_of part) j) → StandsBefore x y run
      between (i, i_in, x_in) (j, j_in, y_in) = ⊎_elim
          (λ e. before_in f order j x y j_in ((at j j_in).before x y (subst (λ z. x ∈ item_at (items_of part) z) e x_in) y_in b))
          (λ n. before_blocks f order i j x y
          (w.behind i j (
            x,
            in_item q pairs (items_of part) items a i x (there i i_in) x_in,
            waits_item q pairs (items_of part) items a j x y (there j j_in) y_in b (λ h. n (one_number q pairs o part p items a i j x (there i i_in) (there j j_in) x_in h)),
          ))
          ((at i i_in).all x x_in) ((at j j_in).all y y_in))
          (decide_eq i j)

  run_together : (inner : Process) → inner ∈ isolated_parts q → (x y z : ℕ) → x ∈ leaves inner → ¬ (y ∈ leaves inner) → z ∈ leaves inner →
      StandsBefore x y run → StandsBefore y z run → ⊥
  run_together inner m x y z x_in y_out z_in b c = around (of_block f order x (before_members x y run b).0) (of_block f order y (before_members x y run b).1)
    where
      differ : x ≢ y
      differ e = y_out (subst (λ u. u ∈ leaves inner) e x_in)

      differ' : y ≢ z
      differ' e = y_out (subst (λ u. u ∈ leaves inner) (sym e) z_in)

      around : (i : ℕ) × (i ∈ order) × (x ∈ f i) → (j : ℕ) × (j ∈ order) × (y ∈ f j) → ⊥
      around (i, i_in, xi) (j, j_in, yj) = ⊎_elim
          within
          (λ h. y_out (h y (run_leaf y (before_members x y run b).1)))
          (part_or_region q part inner (item_at (items_of part) i) x o.distinct p (mem-item_at (items_of part) i (there i i_in)) ((at i i_in).leaf x xi) m x_in)
        where
          within : ((u : ℕ) → u ∈ leaves inner → u ∈ item_at (items_of part) i) → ⊥
          within h = ⊎_elim same apart (decide_eq j i)
            where
              zi : z ∈ f i
              zi = (at i i_in).all z (h z z_in)

              same : j ≡ i → ⊥
              same e =
                  let yi = subst (λ u. y ∈ f u) e yj in
                  let first : StandsBefore x y (f i) = ⊎_elim (λ k. k) (λ k. absurd (not_both_ways x y run run_distinct b (before_in f order i y x i_in k))) (before_or_after x y (f i) xi yi differ) in
                  let second : StandsBefore y z (f i) = ⊎_elim (λ k. k) (λ k. absurd (not_both_ways y z run run_distinct c (before_in f order i z y i_in k))) (before_or_after y z (f i) yi zi differ') in
                  (at i i_in).together inner m x y z x_in y_out z_in first second

              apart : j ≢ i → ⊥
              apart n = ⊎_elim
                  (λ k. not_both_ways x y run run_distinct b (before_blocks f order j i y x k yj xi))
                  (λ k. not_both_ways y z run run_distinct c (before_blocks f order i j z y k zi yj))
                  (before_or_after j i order j_in i_in n)

  pub laid : IsLinedUp q pairs (leaves part) run
  laid = record {
    leaf = run_leaf;
    all = λ x m. let r = holding x m in mem_block f order r.0 x r.1 ((at r.0 r.1).all x r.2);
    distinct = run_distinct;
    before = run_before;
    together = run_together;
  }

pub laid_run : {words : ℕ} → (q : Process) (pairs : List (ℕ × ℕ)) → IsOrdered q pairs → (part : Process) → part ∈ regions q → (items : List (Item words)) → AreItemsOf q pairs (items_of part) items →
    (list : List ℕ) → IsRunOf items list → IsLinedUp q pairs (leaves part) list
laid_run q pairs o part p items a list (order, w, e) = subst (IsLinedUp q pairs (leaves part)) (sym e) (laid q pairs o part p items a order w)

-- a whole goal so laid is executed

pub laid_trace : (q : Process) (pairs : List (ℕ × ℕ)) (run : List ℕ) → IsOrdered q pairs → IsLinedUp q pairs (leaves q) run → Trace q run × AreInOrder pairs run
laid_trace q pairs run o l = (
  trace_of_ordering run q o.choice_free o.distinct (record {
    leaf = l.leaf;
    all = l.all;
    distinct = l.distinct;
    before = λ x y b. ordered x y (inl b);
    together = l.together;
  }),
  each_from_members (λ pair. StandsBefore pair.0 pair.1 run) pairs (λ pair m. ordered pair.0 pair.1 (inr m)),
)
  where
    ordered : (x y : ℕ) → DirectlyBefore q pairs x y → StandsBefore x y run
    ordered x y b = l.before x y (direct_first q pairs o x y b) (direct_second q pairs o x y b) b

pub run_traced : {words : ℕ} → (q : Process) (pairs : List (ℕ × ℕ)) → IsOrdered q pairs → (items seen : List (Item words)) → AreItemsOf q pairs (items_of q) items → seen ≡ items →
    (r : Result (Vec ℕ Global) ExciseRefusal) → IfOk r (λ run. IsRunOf seen run.items) → IfOk r (λ run. Trace q run.items × AreInOrder pairs run.items)
run_traced q pairs o items seen a e (Err x) h = tt
run_traced q pairs o items seen a e (Ok list) h =
    laid_trace q pairs list.items o (laid_run q pairs o q (inl refl) items a list.items (subst (λ z. IsRunOf z list.items) e h))

pub ring_told : {words : ℕ} → (q : Process) (pairs : List (ℕ × ℕ)) → IsOrdered q pairs → (items seen : List (Item words)) → AreItemsOf q pairs (items_of q) items → seen ≡ items →
    (r : Result (Vec ℕ Global) ExciseRefusal) → IfErr r (TellsRing seen) → IfErr r (TellsCircle q pairs)
ring_told q pairs o items seen a e (Ok list) h = tt
ring_told q pairs o items seen a e (Err x) h = tells_circle q pairs o q (inl refl) items a x (subst (λ z. TellsRing z x) e h)

-- a circle excludes executions
pub none_by_circle : (o : ChoiceOption) → IsOrdered o.resolution o.order → (circle : List ℕ) → IsCircle o.resolution o.order circle → ¬ (HasExecution o)
none_by_circle o w circle c t = circle_excludes o.resolution o.order w circle c t.0 (arrangement_of o.resolution o.order t.0 w t.1.0 t.1.1)

-- the items of an isolated part as one item

pub part_item : {words : ℕ} → (q : Process) (pairs : List (ℕ × ℕ)) → IsOrdered q pairs → (body : Process) → body ∈ isolated_parts q → (inner : List (Item words)) →
    AreItemsOf q pairs (items_of body) inner → (item : Item words) → IsOneOf inner item.run.items item → IsRunOf inner item.run.items → IsItemOf q pairs (leaves body) item
part_item q pairs o body m inner a item u r = record {
  inside = λ x. (λ h. down x ((u.inside x).0 h), λ k. (u.inside x).1 (up x k));
  waits = λ x. (
    λ h. let v = (u.waits x).0 h in
        let s = waits_list q pairs (items_of body) inner a v.0.0 x v.0.1 in
        ((s.1.0.0, item_within body (item_at (items_of body) v.0.0) s.1.0.0 (mem-item_at (items_of body) v.0.0 s.0) s.1.0.1, s.1.0.2), λ k. v.1 (up x k)),
    λ h. let s = up h.0.0 h.0.1 in
        let i = in_list q pairs (items_of body) inner a s.0 h.0.0 s.1 in
        (u.waits x).1 (
          (
            s.0,
            waits_item q pairs (items_of body) inner a s.0 x h.0.0 i.0 i.1 h.0.2
                (λ k. h.1 (item_within body (item_at (items_of body) s.0) x (mem-item_at (items_of body) s.0 i.0) k)),
          ),
          λ k. h.1 (down x k),
        ),
  );
  least = least_is (leaves body) item.least (down item.least ((u.inside item.least).0 u.least))
      (λ x k. ⊎_elim (λ l. absurd (u.none_less x l ((u.inside x).1 (up x k)))) (λ l. l) (cases_lt x item.least));
  run = laid_run q pairs o body (inr m) inner a item.run.items r;
}
  where
    down : (x : ℕ) → (n : ℕ) × IsIn inner n x → x ∈ leaves body
    down x (n, i) = let s = in_list q pairs (items_of body) inner a n x i in item_within body (item_at (items_of body) n) x (mem-item_at (items_of body) n s.0) s.1

    up : (x : ℕ) → x ∈ leaves body → (n : ℕ) × IsIn inner n x
    up x k =
        let i = item_having body x k in
        let s = number_of (items_of body) i.0 i.1 in
        (s.0, in_item q pairs (items_of body) inner a s.0 x s.1 (subst (λ z. x ∈ z) (sym s.2) i.2))
