-- The items of a part by their rows: rings of them are circles.
use Rattle.std.proofs.Common.{◌≡◌, ℕ, zero, suc, ◌<◌, ◌≤◌, IsTrue, List, [], ◌∷◌, map, min, length, refl, sym, ap, ◌∙◌, subst, inl, inr, ⊎_elim, arith, Some, slice_get}
use Rattle.std.proofs.lemmas.Bool.{cases_lt}
use Rattle.std.proofs.lemmas.Option.{slice_get-get_or}
use Rattle.flow_model.proofs.Lists.{mem-slice_get, distinct_apart, distinct_right, before_across, before_right}
use Rattle.flow_model.specs.Lists.{◌∈◌, Each, AreDistinct, StandsBefore, joined}
use Rattle.flow_model.specs.Process.{Process, leaves}
use Rattle.flow_model.specs.Ready.{DirectlyBefore}
use Rattle.flow_model.specs.Circle.{items_of, ItemBefore, LeadsBackTo, IsCircle, IsRing, least_of}
use Rattle.flow_laws.specs.WellFormed.{IsOrdered}
use Rattle.flow_model.proofs.MadeLists.{mem_joined}
use Rattle.flow_laws.proofs.GoalParts.{regions, region_distinct, item_has, items_apart, joined_items}
use Rattle.flow_sample.specs.declared.item.Item.{Item}
use Rattle.flow_sample.specs.declared.sample.ExciseRefusal.{ExciseRefusal}
use Rattle.flow_sample.specs.declared.sample.ExciseRefusal.TheVariants.{Circle, NoMemory}
use Rattle.flow_sample.specs.Rows.{has_inside, has_waits, run_in, least_in, least_at, IsIn, WaitsFor, IsEdge, AreApart}
use Rattle.flow_sample.specs.Turned.{IsTurned}
use Rattle.flow_sample.specs.Arranged.{LeadsOn, IsCycle, IsNodeRing, TellsRing}
use Rattle.flow_sample.specs.Items.{item_at, IsLinedUp, IsItemOf, AreItemsOf, TellsCircle}
use Rattle.flow_sample.proofs.OrderLemmas.{is_within, waits_within, ring_within}
use Rattle.flow_sample.proofs.RisingLemmas.{Rises, region_rises}
use Rattle.flow_sample.proofs.TurningLemmas.{circle_from_ring}

-- the least leaf of a list

least_below : (l : List ℕ) (x : ℕ) → x ∈ l → least_of l ≤ x
least_below [] x m = absurd m
least_below (n ∷ []) x (inl e) = omega arith
least_below (n ∷ []) x (inr m) = absurd m
least_below (n ∷ k ∷ more) x (inl e) = omega arith
least_below (n ∷ k ∷ more) x (inr m) = let i = least_below (k ∷ more) x m in omega arith

least_member : (l : List ℕ) (x : ℕ) → x ∈ l → least_of l ∈ l
least_member [] x m = m
least_member (n ∷ []) x m = inl refl
least_member (n ∷ k ∷ more) x m = ⊎_elim
    (λ l. let e : min n (least_of (k ∷ more)) ≡ n = omega arith in inl e)
    (λ l. let e : min n (least_of (k ∷ more)) ≡ least_of (k ∷ more) = omega arith in inr (subst (λ z. z ∈ (k ∷ more)) (sym e) (least_member (k ∷ more) k (inl refl))))
    (cases_lt n (least_of (k ∷ more)))

pub least_is : (l : List ℕ) (m : ℕ) → m ∈ l → ((x : ℕ) → x ∈ l → m ≤ x) → m ≡ least_of l
least_is [] m h all = absurd h
least_is (n ∷ more) m h all = omega (arith, all (least_of (n ∷ more)) (least_member (n ∷ more) n (inl refl)), least_below (n ∷ more) m h)

-- the items of a part

distinct_lists : (list : List (List ℕ)) → AreDistinct (joined list) → ((item : List ℕ) → item ∈ list → (x : ℕ) × (x ∈ item)) → AreDistinct list
distinct_lists [] d h = tt
distinct_lists (item ∷ list) d h =
    let x = h item (inl refl) in (
      λ m. distinct_apart item (joined list) d x.0 x.1 (mem_joined x.0 list item m x.1),
      distinct_lists list (distinct_right item (joined list) d) (λ i m. h i (inr m)),
    )

pub distinct_items : (g : Process) → AreDistinct (leaves g) → AreDistinct (items_of g)
distinct_items g d = distinct_lists (items_of g) (subst AreDistinct (sym (joined_items g)) d) (item_has g)

-- items by their numbers

pub mem-item_at : (items : List (List ℕ)) (n : ℕ) → n < length items → item_at items n ∈ items
mem-item_at items n l = mem-slice_get items n (item_at items n) (slice_get-get_or items n [] l)

pub number_of : (items : List (List ℕ)) (item : List ℕ) → item ∈ items → (n : ℕ) × (n < length items) × (item_at items n ≡ item)
number_of [] item m = absurd m
number_of (i ∷ items) item (inl e) = (0, omega arith, sym e)
number_of (i ∷ items) item (inr m) = let r = number_of items item m in (suc r.0, omega arith, r.2)

pub same_number : (items : List (List ℕ)) (m n : ℕ) → AreDistinct items → m < length items → n < length items → item_at items m ≡ item_at items n → m ≡ n
same_number [] m n d l k e = omega arith
same_number (i ∷ items) zero zero d l k e = refl
same_number (i ∷ items) zero (suc n) d l k e = absurd (d.0 (subst (λ z. z ∈ items) (sym e) (mem-item_at items n (omega arith))))
same_number (i ∷ items) (suc m) zero d l k e = absurd (d.0 (subst (λ z. z ∈ items) e (mem-item_at items m (omega arith))))
same_number (i ∷ items) (suc m) (suc n) d l k e = ap suc (same_number items m n d.1 (omega arith) (omega arith) e)

-- the leaves of an item stand before those of the items behind it
items_in_order : (items : List (List ℕ)) (m n x y : ℕ) → m < n → n < length items → x ∈ item_at items m → y ∈ item_at items n → StandsBefore x y (joined items)
items_in_order [] m n x y less l i j = absurd (omega arith)
items_in_order (item ∷ items) m zero x y less l i j = absurd (omega arith)
items_in_order (item ∷ items) zero (suc n) x y less l i j =
    before_across x y item (joined items) i (mem_joined y items (item_at items n) (mem-item_at items n (omega arith)) j)
items_in_order (item ∷ items) (suc m) (suc n) x y less l i j = before_right x y item (joined items) (items_in_order items m n x y (omega arith) (omega arith) i j)

-- the item of a number, by its rows

module _ (q : Process) (pairs : List (ℕ × ℕ)) where
  pub same_length : {words : ℕ} → (ls : List (List ℕ)) (items : List (Item words)) → AreItemsOf q pairs ls items → length ls ≡ length items
  same_length [] [] a = refl
  same_length [] (i ∷ items) a = absurd a
  same_length (l ∷ ls) [] a = absurd a
  same_length (l ∷ ls) (i ∷ items) a = ap suc (same_length ls items a.1)

  pub item_is : {words : ℕ} → (ls : List (List ℕ)) (items : List (Item words)) (n : ℕ) → AreItemsOf q pairs ls items → n < length ls →
      (item : Item words) × (slice_get items n ≡ Some item) × IsItemOf q pairs (item_at ls n) item
  item_is [] [] n a l = absurd (omega arith)
  item_is [] (i ∷ items) n a l = absurd a
  item_is (k ∷ ls) [] n a l = absurd a
  item_is (k ∷ ls) (i ∷ items) zero a l = (i, refl, a.0)
  item_is (k ∷ ls) (i ∷ items) (suc n) a l = item_is ls items n a.1 (omega arith)

  module _ {words : ℕ} (ls : List (List ℕ)) (items : List (Item words)) (a : AreItemsOf q pairs ls items) where
    pub in_list : (n x : ℕ) → IsIn items n x → (n < length ls) × (x ∈ item_at ls n)
    in_list n x h =
        let l : n < length ls = omega (arith, is_within items n x h, same_length ls items a) in
        let r = item_is ls items n a l in
        (l, (r.2.inside x).0 (subst (λ o. IsTrue (has_inside o x)) r.1 h))

    pub in_item : (n x : ℕ) → n < length ls → x ∈ item_at ls n → IsIn items n x
    in_item n x l m = let r = item_is ls items n a l in subst (λ o. IsTrue (has_inside o x)) (sym r.1) ((r.2.inside x).1 m)

    pub waits_list : (n x : ℕ) → WaitsFor items n x → (n < length ls) × (((y : ℕ) × (y ∈ item_at ls n) × DirectlyBefore q pairs x y) × ¬ (x ∈ item_at ls n))
    waits_list n x h =
        let l : n < length ls = omega (arith, waits_within items n x h, same_length ls items a) in
        let r = item_is ls items n a l in
        (l, (r.2.waits x).0 (subst (λ o. IsTrue (has_waits o x)) r.1 h))

    pub waits_item : (n x y : ℕ) → n < length ls → y ∈ item_at ls n → DirectlyBefore q pairs x y → ¬ (x ∈ item_at ls n) → WaitsFor items n x
    waits_item n x y l m b f = let r = item_is ls items n a l in subst (λ o. IsTrue (has_waits o x)) (sym r.1) ((r.2.waits x).1 ((y, m, b), f))

    pub laid_at : (n : ℕ) → n < length ls → IsLinedUp q pairs (item_at ls n) (run_in (slice_get items n))
    laid_at n l = let r = item_is ls items n a l in subst (λ o. IsLinedUp q pairs (item_at ls n) (run_in o)) (sym r.1) (r.2.run)

    pub least_is_at : (n : ℕ) → n < length ls → least_at items n ≡ least_of (item_at ls n)
    least_is_at n l = let r = item_is ls items n a l in ap least_in r.1 ∙ r.2.least

    pub leasts_are : (ring : List ℕ) → ((n : ℕ) → n ∈ ring → n < length ls) → map (least_at items) ring ≡ map least_of (map (item_at ls) ring)
    leasts_are [] w = refl
    leasts_are (n ∷ ring) w = λ i. least_is_at n (w n (inl refl)) i ∷ leasts_are ring (λ m k. w m (inr k)) i

    -- rings

    edge_before : (from to : ℕ) → IsEdge items from to → ItemBefore q pairs (item_at ls from) (item_at ls to)
    edge_before from to (x, i, v) = let r = waits_list to x v in (x, r.1.0.0, (in_list from x i).1, r.1.0.1, r.1.0.2)

    not_itself : (n : ℕ) → ¬ (IsEdge items n n)
    not_itself n (x, i, v) = (waits_list n x v).1.1 (in_list n x i).1

    leads_back : (first n : ℕ) (more : List ℕ) → LeadsOn items first n more → LeadsBackTo q pairs (item_at ls first) (item_at ls n) (map (item_at ls) more)
    leads_back first n [] h = edge_before n first h
    leads_back first n (next ∷ more) h = (edge_before n next h.0, leads_back first next more h.1)

    ring_closed : (ring : List ℕ) → IsCycle items ring → IsRing q pairs (map (item_at ls) ring)
    ring_closed [] h = h
    ring_closed (n ∷ more) h = leads_back n n more h

    ring_of_two : (ring : List ℕ) → IsCycle items ring → 2 ≤ length (map (item_at ls) ring)
    ring_of_two [] h = absurd h
    ring_of_two (n ∷ []) h = absurd (not_itself n h)
    ring_of_two (n ∷ next ∷ more) h = omega arith

    named_distinct : (ring : List ℕ) → AreDistinct ls → ((n : ℕ) → n ∈ ring → n < length ls) → AreDistinct ring → AreDistinct (map (item_at ls) ring)
    named_distinct [] d w r = tt
    named_distinct (n ∷ ring) d w r = (fresh ring (λ m k. w m (inr k)) r.0, named_distinct ring d (λ m k. w m (inr k)) r.1)
      where
        fresh : (more : List ℕ) → ((m : ℕ) → m ∈ more → m < length ls) → ¬ (n ∈ more) → ¬ (item_at ls n ∈ map (item_at ls) more)
        fresh [] v f m = m
        fresh (k ∷ more) v f (inl e) = f (inl (same_number ls n k d (w n (inl refl)) (v k (inl refl)) e))
        fresh (k ∷ more) v f (inr m) = fresh more (λ j i. v j (inr i)) (λ b. f (inr b)) m

    named_items : (ring : List ℕ) → ((n : ℕ) → n ∈ ring → n < length ls) → Each (λ item. item ∈ ls) (map (item_at ls) ring)
    named_items [] w = tt
    named_items (n ∷ ring) w = (mem-item_at ls n (w n (inl refl)), named_items ring (λ m k. w m (inr k)))

-- the items of a part

module _ {words : ℕ} (q : Process) (pairs : List (ℕ × ℕ)) (o : IsOrdered q pairs) (part : Process) (p : part ∈ regions q) (items : List (Item words))
    (a : AreItemsOf q pairs (items_of part) items) where
  part_is_distinct : AreDistinct (leaves part)
  part_is_distinct = region_distinct q part o.distinct p

  pub one_number : (m n x : ℕ) → m < length (items_of part) → n < length (items_of part) → x ∈ item_at (items_of part) m → x ∈ item_at (items_of part) n → m ≡ n
  one_number m n x k l i j =
      same_number (items_of part) m n (distinct_items part part_is_distinct) k l
      (items_apart part (item_at (items_of part) m) (item_at (items_of part) n) x part_is_distinct (mem-item_at (items_of part) m k) (mem-item_at (items_of part) n l) i j)

  pub are_apart : Rises (leaves q) → AreApart items
  are_apart rising = record {
    some = λ n l.
        let l' : n < length (items_of part) = omega (arith, same_length q pairs (items_of part) items a) in
        let x = item_has part (item_at (items_of part) n) (mem-item_at (items_of part) n l') in
        (x.0, in_item q pairs (items_of part) items a n x.0 l' x.1);
    apart = λ m n x i j.
        let r = in_list q pairs (items_of part) items a m x i in
        let s = in_list q pairs (items_of part) items a n x j in
        one_number m n x r.0 s.0 r.1 s.1;
    others = λ n x v i. (waits_list q pairs (items_of part) items a n x v).1.1 (in_list q pairs (items_of part) items a n x i).1;
    rising = λ m n x y less i j.
        let r = in_list q pairs (items_of part) items a m x i in
        let s = in_list q pairs (items_of part) items a n y j in
        region_rises q part p rising x y (subst (StandsBefore x y) (joined_items part) (items_in_order (items_of part) m n x y less s.0 r.1 s.1));
    least = λ n l.
        let l' : n < length (items_of part) = omega (arith, same_length q pairs (items_of part) items a) in
        let x = item_has part (item_at (items_of part) n) (mem-item_at (items_of part) n l') in
        in_item q pairs (items_of part) items a n (least_at items n) l'
        (subst (λ z. z ∈ item_at (items_of part) n) (sym (least_is_at q pairs (items_of part) items a n l')) (least_member (item_at (items_of part) n) x.0 x.1));
    none_less = λ n x i.
        let r = in_list q pairs (items_of part) items a n x i in
        subst (λ z. z ≤ x) (sym (least_is_at q pairs (items_of part) items a n r.0)) (least_below (item_at (items_of part) n) x r.1);
  }

  circle_of_ring : (ring circle : List ℕ) → IsNodeRing items ring → IsTurned (map (least_at items) ring) circle → IsCircle q pairs circle
  circle_of_ring ring circle r t =
      let w = λ (n : ℕ) (m : n ∈ ring). let l : n < length (items_of part) = omega (arith, ring_within items ring r.cycle n m, same_length q pairs (items_of part) items a) in l in
      circle_from_ring q pairs part (map (item_at (items_of part)) ring) circle p
      (named_items q pairs (items_of part) items a ring w)
      (named_distinct q pairs (items_of part) items a ring (distinct_items part part_is_distinct) w r.distinct)
      (ring_of_two q pairs (items_of part) items a ring r.cycle)
      (ring_closed q pairs (items_of part) items a ring r.cycle)
      (subst (λ l. IsTurned l circle) (leasts_are q pairs (items_of part) items a ring w) t)

  pub tells_circle : (e : ExciseRefusal) → TellsRing items e → TellsCircle q pairs e
  tells_circle (Circle circle) (ring, r, t) = circle_of_ring ring circle.leaves.items r t
  tells_circle NoMemory h = tt
