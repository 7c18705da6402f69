-- A circle excludes an execution, and without one every ready run can be completed: it goes on, or some items of a part
-- wait for each other in a ring.
use Rattle.std.proofs.Common.{◌≡◌, ◌≢◌, ℕ, ◌≤◌, List, [], ◌∷◌, length, sym, ◌∙◌, subst, inl, inr, ⊎_elim, arith, ◌++◌, ◌⊎◌, map, refl, ap, le_refl, append_assoc, append-nil, length-append, zero, suc}
use Rattle.std.proofs.lemmas.Bool.{cases_lt}
use Rattle.flow_model.specs.Lists.{◌∈◌, Each, AreDistinct, StandsBefore, Begins}
use Rattle.flow_model.specs.Process.{Process, leaves, Sequence, Parallel, Choice, Isolated}
use Rattle.flow_model.specs.Ready.{isolated_parts, InSequence, DirectlyBefore, IsReady, IsReadyRun, IsCompleteRun}
use Rattle.flow_model.specs.Circle.{items_of, ItemBefore, LeadsBackTo, IsRing, IsCircle, least_of, BeginsWithLeast}
use Rattle.flow_laws.specs.WellFormed.{IsOrdered}
use Rattle.flow_laws.specs.Circles.{CirclesExcludeTraces, TraceOrCircle}
use Rattle.flow_laws.specs.ReadyRuns.{ReadyRunsExtend}
use Rattle.flow_model.proofs.Lists.{only_one, before_or_after, before_trans, not_both_ways, LeavingOut, by_leaving_out, least_in, mem_with, split_at, distinct_left, distinct_swap, mem_swap, mem_append_left, find_member, first_member, last_of, mem-append, mem_append_right, each_from_members}
use Rattle.flow_model.specs.Decided.{decide_mem, decide_list_eq, Decided, decide_eq, decide_in, decide_not, decide_both, decide_either, decide_some}
use Rattle.flow_model.proofs.MadeLists.{of_map}
use Rattle.flow_laws.proofs.ReadyRuns.{IsArrangement, arrangement_of, direct_stands, direct_first, direct_other, ready_at, run_grow, complete_runs_are_traces}
use Rattle.flow_laws.proofs.GoalParts.{regions, region_within, region_distinct, part_of_region, item_kind, item_has, item_within, items_apart, case_of, part_within, IsWithin, nested, goal_size, part_smaller, item_having, part_or_region}

module _ (q : Process) (pairs : List (ℕ × ℕ)) (t : List ℕ) (w : IsOrdered q pairs) (a : IsArrangement q pairs t) (part : Process) (m : part ∈ regions q) where
  item_stands_in : (item : List ℕ) (x : ℕ) → item ∈ items_of part → x ∈ item → x ∈ t
  item_stands_in item x k h = a.ordering.all x (region_within q part m x (item_within part item x k h))

  -- nothing stands between two leaves of an item
  item_together : (item : List ℕ) (x y z : ℕ) → item ∈ items_of part → x ∈ item → ¬ (y ∈ item) → z ∈ item → StandsBefore x y t → StandsBefore y z t → ⊥
  item_together item x y z k h n l b c = ⊎_elim single whole (item_kind (case_of part) item k)
    where
      single : (i : ℕ) × (item ≡ i ∷ []) → ⊥
      single (i, e) =
          let is = λ (u : ℕ) (p : u ∈ item). only_one u i (subst (λ s. u ∈ s) e p) in
          let same : z ≡ x = is z l ∙ sym (is x h) in
          not_both_ways x y t a.ordering.distinct b (subst (λ u. StandsBefore y u t) same c)

      whole : (p : Process) × (p ∈ isolated_parts part) × (item ≡ leaves p) → ⊥
      whole (p, i, e) = a.ordering.together p (part_of_region q part p m i) x y z
          (subst (λ s. x ∈ s) e h) (λ g. n (subst (λ s. y ∈ s) (sym e) g)) (subst (λ s. z ∈ s) e l) b c

  -- of two items of which one is before the other, all of the one stands before all of the other
  item_order : (one two : List ℕ) → one ∈ items_of part → two ∈ items_of part → one ≢ two → ItemBefore q pairs one two →
      (u v : ℕ) → u ∈ one → v ∈ two → StandsBefore u v t
  item_order one two k l other (x, y, x_in, y_in, b) u v u_in v_in = u_before_v
    where
      apart : (i : ℕ) → i ∈ one → i ∈ two → ⊥
      apart i p r = other (items_apart part one two i (region_distinct q part w.distinct m) k l p r)

      differ : (i j : ℕ) → i ∈ one → j ∈ two → i ≢ j
      differ i j p r e = apart j (subst (λ s. s ∈ one) e p) r

      u_before_y : StandsBefore u y t
      u_before_y =
          let fact = before_or_after u y t (item_stands_in one u k u_in) (item_stands_in two y l y_in) (differ u y u_in y_in) in
          grind (arith, item_together one x y u k x_in (λ i. apart y i y_in) u_in (direct_stands q pairs t a x y b))

      u_before_v : StandsBefore u v t
      u_before_v =
          let fact = before_or_after u v t (item_stands_in one u k u_in) (item_stands_in two v l v_in) (differ u v u_in v_in) in
          grind (arith, λ (h : StandsBefore v u t). item_together two v u y l v_in (λ i. apart u u_in i) y_in h u_before_y)

  -- from an item behind u no way leads back to the item of u
  no_way_back : (first : List ℕ) (u : ℕ) → first ∈ items_of part → u ∈ first → (item : List ℕ) (more : List (List ℕ)) → item ∈ items_of part →
      Each (λ i. i ∈ items_of part) more → AreDistinct (item ∷ more) → item ≢ first → ¬ (first ∈ more) → ((v : ℕ) → v ∈ item → StandsBefore u v t) →
      LeadsBackTo q pairs first item more → ⊥
  no_way_back first u k u_in item [] l e d other fresh behind h =
      let v = item_has part item l in
      not_both_ways u v.0 t a.ordering.distinct (behind v.0 v.1) (item_order item first l k other h v.0 u v.1 u_in)
  no_way_back first u k u_in item (next ∷ more) l e d other fresh behind h =
      let v = item_has part item l in
      no_way_back first u k u_in next more e.0 e.1 d.1 (λ i. fresh (inl (sym i))) (λ i. fresh (inr i))
      (λ z z_in. before_trans u v.0 z t a.ordering.distinct (behind v.0 v.1)
      (item_order item next l e.0 (λ i. d.0 (inl i)) h.0 v.0 z v.1 z_in))
      h.1

  no_ring : (ring : List (List ℕ)) → Each (λ i. i ∈ items_of part) ring → AreDistinct ring → 2 ≤ length ring → IsRing q pairs ring → ⊥
  no_ring [] e d n h = h
  no_ring (item ∷ []) e d n h = omega arith
  no_ring (item ∷ next ∷ more) (m, (l, e)) d n h =
      let (u, u_in) = item_has part item m in
      no_way_back item u m u_in next more l e d.1 (λ i. d.0 (inl (sym i))) (λ i. d.0 (inr i))
      (λ v. item_order item next m l (λ i. d.0 (inl i)) h.0 u v u_in) h.1

pub circle_excludes : (q : Process) (pairs : List (ℕ × ℕ)) → IsOrdered q pairs → (circle : List ℕ) → IsCircle q pairs circle →
    (t : List ℕ) → IsArrangement q pairs t → ⊥
circle_excludes q pairs w circle c t a = no_ring q pairs t w a c.part c.is_part c.ring c.items c.distinct c.two c.closed

pub circles_exclude_traces : CirclesExcludeTraces
circles_exclude_traces q pairs w circle c t h k = circle_excludes q pairs w circle c t (arrangement_of q pairs t w h k)

-- two or more distinct items among these, in a ring
pub record RingAmong (q : Process) (pairs : List (ℕ × ℕ)) (items : List (List ℕ)) (ring : List (List ℕ)) : Type 0 where
  pub members : (item : List ℕ) → item ∈ ring → item ∈ items
  pub distinct : AreDistinct ring
  pub two : 2 ≤ length ring
  pub closed : IsRing q pairs ring

module _ (q : Process) (pairs : List (ℕ × ℕ)) where
  -- each item is before the next
  abbrev IsChain : List (List ℕ) → Type 0
  IsChain [] = Unit {0}
  IsChain (x ∷ []) = Unit {0}
  IsChain (x ∷ y ∷ more) = ItemBefore q pairs x y × IsChain (y ∷ more)

  -- a chain up to an item that is before its first closes a ring
  chain_back : (first item : List ℕ) (middle : List (List ℕ)) (last : List ℕ) (back : List (List ℕ)) → IsChain (item ∷ (middle ++ last ∷ back)) →
      ItemBefore q pairs last first → LeadsBackTo q pairs first item (middle ++ last ∷ [])
  chain_back first item [] last back h k = (h.0, k)
  chain_back first item (next ∷ middle) last back h k = (h.0, chain_back first next middle last back h.1 k)

  -- rings turned

  lead_on : (first next item : List ℕ) (more : List (List ℕ)) → ItemBefore q pairs first next → LeadsBackTo q pairs first item more →
      LeadsBackTo q pairs next item (more ++ first ∷ [])
  lead_on first next item [] b h = (h, b)
  lead_on first next item (m ∷ more) b h = (h.0, lead_on first next m more b h.1)

  turn_once : (first : List ℕ) (more : List (List ℕ)) → IsRing q pairs (first ∷ more) → IsRing q pairs (more ++ first ∷ [])
  turn_once first [] h = h
  turn_once first (next ∷ more) h = lead_on first next next more h.0 h.1

  -- the ring begun at another of its members
  pub turn : (front back : List (List ℕ)) → IsRing q pairs (front ++ back) → IsRing q pairs (back ++ front)
  turn [] back h = subst (IsRing q pairs) (sym (append-nil back)) h
  turn (first ∷ front) back h =
      let turned = subst (IsRing q pairs) (append_assoc front back (first ∷ [])) (turn_once first (front ++ back) h) in
      subst (IsRing q pairs) (append_assoc back (first ∷ []) front) (turn front (back ++ first ∷ []) turned)

  -- a ring found by walking back

  module _ (items : List (List ℕ)) (Waits : List ℕ → Type 0)
      (earlier : (item : List ℕ) → item ∈ items → Waits item → (other : List ℕ) × (other ∈ items) × Waits other × (other ≢ item) × ItemBefore q pairs other item) where
    -- the walk comes back to an item that it has passed
    close_ring : (item : List ℕ) (more : List (List ℕ)) → AreDistinct (item ∷ more) → IsChain (item ∷ more) →
        ((i : List ℕ) → i ∈ (item ∷ more) → i ∈ items) → (other : List ℕ) → other ∈ more → ItemBefore q pairs other item →
        (ring : List (List ℕ)) × RingAmong q pairs items ring
    close_ring item more d c among other m b =
        let s = split_at other more m in
        let ring = item ∷ (s.0 ++ other ∷ []) in
        let laid : more ≡ (s.0 ++ other ∷ []) ++ s.1 = s.2 ∙ sym (append_assoc s.0 (other ∷ []) s.1) in (
          ring,
          record {
            members = λ i k. among i (⊎_elim inl (λ l. inr (subst (λ z. i ∈ z) (sym laid) (mem_append_left i (s.0 ++ other ∷ []) s.1 l))) k);
            distinct = distinct_left ring s.1 (subst (λ z. AreDistinct (item ∷ z)) laid d);
            two = omega (arith, length-append s.0 (other ∷ []));
            closed = chain_back item item s.0 other s.1 (subst (λ z. IsChain (item ∷ z)) s.2 c) b;
          },
        )

    -- from a chain that has passed all but these items
    abbrev WalksFrom : List (List ℕ) → Type 0
    WalksFrom left = (item : List ℕ) (more : List (List ℕ)) → AreDistinct (item ∷ more) → IsChain (item ∷ more) →
        ((i : List ℕ) → i ∈ (item ∷ more) → i ∈ items) → Waits item → ((i : List ℕ) → i ∈ items → (i ∈ left) ⊎ (i ∈ (item ∷ more))) →
        (ring : List (List ℕ)) × RingAmong q pairs items ring

    walk_step : (left : List (List ℕ)) → LeavingOut WalksFrom left → WalksFrom left
    walk_step left on item more d c among h all =
        let e = earlier item (among item (inl refl)) h in
        ⊎_elim
        (⊎_elim (λ i. absurd (e.3 i)) (λ m. close_ring item more d c among e.0 m e.4))
        (λ fresh. ⊎_elim (λ m. next e.0 e.1 e.2 e.4 fresh (split_at e.0 left m)) (λ m. absurd (fresh m)) (all e.0 e.1))
        (decide_mem decide_list_eq e.0 (item ∷ more))
      where
        next : (other : List ℕ) → other ∈ items → Waits other → ItemBefore q pairs other item → ¬ (other ∈ (item ∷ more)) →
            (front back : List (List ℕ)) × (left ≡ front ++ other ∷ back) → (ring : List (List ℕ)) × RingAmong q pairs items ring
        next other m waits b fresh (front, back, e) =
            on front other back e other (item ∷ more) (fresh, d) (b, c)
            (λ i k. ⊎_elim (λ f. subst (λ z. z ∈ items) (sym f) m) (among i) k)
            waits
            (λ i k. ⊎_elim
            (λ l. ⊎_elim (λ f. inr (inl f)) inl (mem_with i other front back (subst (λ z. i ∈ z) e l)))
            (λ l. inr (inr l))
            (all i k))

    pub ring_among : (item : List ℕ) → item ∈ items → Waits item → (ring : List (List ℕ)) × RingAmong q pairs items ring
    ring_among item m h =
        by_leaving_out WalksFrom walk_step items item [] (λ k. k, tt) tt (λ i k. subst (λ z. z ∈ items) (sym (only_one i item k)) m) h (λ i k. inl k)

-- the member with the least number
least_member : {A : Type 0} (f : A → ℕ) (x : A) (list : List A) → (y : A) × (y ∈ (x ∷ list)) × ((z : A) → z ∈ (x ∷ list) → f y ≤ f z)
least_member f x list = ⊎_elim
    (λ none. absurd (none x (inl refl) tt))
    (λ (y, m, _, least). (y, m, λ z k. least z k tt))
    (least_in (λ z. Unit {0}) (λ a b. f a ≤ f b) (λ z. inl tt) (λ z. le_refl (f z)) (λ a b c h k. omega arith) (x ∷ list)
    (λ a b m n p r. ⊎_elim (λ h. inl (omega arith)) inr (cases_lt (f a) (f b))))

-- a ring that begins with the item of the least leaf
pub ring_from_least : (q : Process) (pairs : List (ℕ × ℕ)) (items ring : List (List ℕ)) → RingAmong q pairs items ring →
    (turned : List (List ℕ)) × RingAmong q pairs items turned × BeginsWithLeast (map least_of turned)
ring_from_least q pairs items [] r = absurd r.closed
ring_from_least q pairs items (x ∷ ring) r =
    let least = least_member least_of x ring in
    let s = split_at least.0 (x ∷ ring) least.1 in
    from s.0 s.1 least.0 s.2 least.2
  where
    from : (front back : List (List ℕ)) (item : List ℕ) → x ∷ ring ≡ front ++ item ∷ back → ((z : List ℕ) → z ∈ (x ∷ ring) → least_of item ≤ least_of z) →
        (turned : List (List ℕ)) × RingAmong q pairs items turned × BeginsWithLeast (map least_of turned)
    from front back item e least =
        let old = λ (i : List ℕ) (k : i ∈ (item ∷ (back ++ front))). subst (λ z. i ∈ z) (sym e) (mem_swap i (item ∷ back) front k) in (
          item ∷ (back ++ front),
          record {
            members = λ i k. r.members i (old i k);
            distinct = distinct_swap front (item ∷ back) (subst AreDistinct e r.distinct);
            two = omega (arith, r.two, ap length e, length-append front (item ∷ back), length-append back front);
            closed = turn q pairs front (item ∷ back) (subst (IsRing q pairs) e r.closed);
          },
          each_from_members _ (map least_of (back ++ front)) (λ n m. let (z, k, e) = of_map least_of n (back ++ front) m in rw e (least z (old z (inr k)))),
        )

-- decisions

decide_sequence : (g : Process) (x y : ℕ) → Decided (InSequence g x y)
decide_sequence (Sequence a b) x y =
    decide_either (decide_either (decide_both (decide_in x (leaves a)) (decide_in y (leaves b))) (decide_sequence a x y)) (decide_sequence b x y)
decide_sequence (Parallel a b) x y = decide_either (decide_sequence a x y) (decide_sequence b x y)
decide_sequence (Choice a b) x y = decide_either (decide_sequence a x y) (decide_sequence b x y)
decide_sequence (Isolated a) x y = decide_sequence a x y
decide_sequence leaf x y = inr (λ h. h)

pub decide_direct : (q : Process) (pairs : List (ℕ × ℕ)) (x y : ℕ) → Decided (DirectlyBefore q pairs x y)
decide_direct q pairs x y =
    decide_either (decide_sequence q x y) (decide_mem (λ (a, b) (c, d). grind (arith, decide_eq a c, decide_eq b d)) (x, y) pairs)

-- some leaf of the list is not done
abbrev pub IsUnfinished : List ℕ → List ℕ → Type 0
IsUnfinished run list = (x : ℕ) × (x ∈ list) × ¬ (x ∈ run)

decide_unfinished : (run list : List ℕ) → Decided (IsUnfinished run list)
decide_unfinished run list = decide_some (λ x. ¬ (x ∈ run)) (λ x. decide_not (decide_in x run)) list

-- the part is begun and unfinished
abbrev IsCaught : List ℕ → Process → Type 0
IsCaught run part = ((x : ℕ) × (x ∈ leaves part) × (x ∈ run)) × IsUnfinished run (leaves part)

-- items of one part, each unfinished one of which waits for another
pub record IsTangle (q : Process) (pairs : List (ℕ × ℕ)) (run : List ℕ) (part : Process) : Type 0 where
  pub is_part : part ∈ regions q
  pub start : List ℕ
  pub start_item : start ∈ items_of part
  pub start_waits : IsUnfinished run start
  pub earlier : (item : List ℕ) → item ∈ items_of part → IsUnfinished run item →
      (other : List ℕ) × (other ∈ items_of part) × IsUnfinished run other × (other ≢ item) × ItemBefore q pairs other item

module _ (q : Process) (pairs : List (ℕ × ℕ)) (w : IsOrdered q pairs) (run : List ℕ) (ready : IsReadyRun q pairs run) where
  -- whatever outside is directly before one of its leaves is done
  abbrev IsOpen : Process → Type 0
  IsOpen part = (x y : ℕ) → ¬ (x ∈ leaves part) → y ∈ leaves part → DirectlyBefore q pairs x y → x ∈ run

  whole_open : (part : Process) → IsWithin q part → IsOpen part
  whole_open part h x y n k b = absurd (n (h x (direct_first q pairs w x y b)))

  begun_open : (part : Process) → part ∈ isolated_parts q → (x : ℕ) → x ∈ leaves part → x ∈ run → IsOpen part
  begun_open part m x k l =
      let (front, first, back, there, here, none) = first_member (λ z. z ∈ leaves part) (λ z. decide_in z (leaves part)) run x l k in
      let r = ready_at q pairs front first back (subst (IsReadyRun q pairs) there ready) in
      λ u v n i b. subst (λ z. u ∈ z) (sym there) (mem_append_left u front (first ∷ back) (r.begins part m here (λ z g h. none z h g) u v n i b))

  -- two caught parts both have the last leaf, so that one lies in the other
  caught_nested : (one two : Process) → one ∈ isolated_parts q → two ∈ isolated_parts q → IsCaught run one → IsCaught run two → IsWithin one two ⊎ IsWithin two one
  caught_nested one two m l c d = at (last_of run c.0.0 c.0.2)
    where
      at : (front : List ℕ) × (last : ℕ) × (run ≡ front ++ last ∷ []) → IsWithin one two ⊎ IsWithin two one
      at (front, last, e) = ⊎_elim (λ k. inl (region_within two one k)) (λ k. inr (region_within one two k))
          (nested (case_of q) one two last w.distinct (inr m) (inr l) (has one m c) (has two l d))
        where
          has : (part : Process) → part ∈ isolated_parts q → IsCaught run part → last ∈ leaves part
          has part i ((x, x_in, x_done), (y, y_in, y_fresh)) =
              let r = ready_at q pairs front last [] (subst (IsReadyRun q pairs) e ready) in
              let fact = mem-append x front (last ∷ []) (subst (λ z. x ∈ z) e x_done) in
              let other_fact = λ (no : ¬ (last ∈ leaves part)). r.outside part i no x y x_in in
              grind (arith, x_in, y_in, decide_in last (leaves part), subst (λ z. ¬ (y ∈ z)) e y_fresh, mem_append_left y front (last ∷ []))

  -- a region that may go on by itself: it is unfinished, lies in each caught part, and all around it are open
  record IsFree (part : Process) : Type 0 where
    is_part : part ∈ regions q
    unfinished : IsUnfinished run (leaves part)
    within : (other : Process) → other ∈ isolated_parts q → IsCaught run other → IsWithin part other
    around : (other : Process) → other ∈ regions q → IsWithin part other → IsOpen other

  -- the innermost of the caught parts, or the whole goal
  some_free : IsUnfinished run (leaves q) → (part : Process) × IsFree part
  some_free u = ⊎_elim
      (λ none. (
        q,
        record { is_part = inl refl; unfinished = u; within = λ other m c. absurd (none other m c); around = λ other m. whole_open other },
      ))
      (λ (part, m, c, least). (
        part,
        record {
          is_part = inr m;
          unfinished = c.1;
          within = least;
          around = λ other o k. ⊎_elim
              (λ e. whole_open other (subst (IsWithin q) (sym e) (λ x i. i))) (λ i. begun_open other i c.0.0 (k c.0.0 c.0.1) c.0.2) o;
        },
      ))
      (least_in (IsCaught run) IsWithin
      (λ part. decide_both (decide_some (λ x. x ∈ run) (λ x. decide_in x run) (leaves part)) (decide_unfinished run (leaves part)))
      (λ part x k. k) (λ a b c h k x i. k x (h x i)) (isolated_parts q) caught_nested)

  -- a leaf of the region that is not done, and not of the item, is directly before the item
  abbrev IsBlocked : Process → List ℕ → Type 0
  IsBlocked part item = (x : ℕ) × (x ∈ leaves part) × ((¬ (x ∈ run) × ¬ (x ∈ item)) × ((y : ℕ) × (y ∈ item) × DirectlyBefore q pairs x y))

  decide_blocked : (part : Process) (item : List ℕ) → Decided (IsBlocked part item)
  decide_blocked part item = decide_some _
      (λ x. decide_both (decide_both (decide_not (decide_in x run)) (decide_not (decide_in x item))) (decide_some _ (λ y. decide_direct q pairs x y) item))
      (leaves part)

  -- what is directly before an item that is not blocked is done
  item_waits : (part : Process) → IsFree part → (item : List ℕ) → item ∈ items_of part → ¬ (IsBlocked part item) →
      (x y : ℕ) → ¬ (x ∈ item) → y ∈ item → DirectlyBefore q pairs x y → x ∈ run
  item_waits part r item m n x y a b c =
      let fact = λ (no : ¬ (x ∈ leaves part)). r.around part r.is_part (λ z i. i) x y no (item_within part item y m b) c in
      grind (arith, decide_in x run, decide_in x (leaves part), λ (fresh : ¬ (x ∈ run)) (i : x ∈ leaves part). n (x, i, ((fresh, a), (y, b, c))))

  -- and so is what is directly before a part that has the item
  item_open : (part : Process) → IsFree part → (item : List ℕ) → item ∈ items_of part → ¬ (IsBlocked part item) → (other : Process) → other ∈ regions q →
      ((x : ℕ) → x ∈ item → x ∈ leaves other) → IsOpen other
  item_open part r item m n other o within =
      let u = item_has part item m in
      ⊎_elim
      (λ e. whole_open other (subst (IsWithin q) (sym e) (λ x i. i)))
      (λ i. ⊎_elim
      (λ inside x y a b c. item_waits part r item m n x y (λ h. a (within x h)) (inside y b) c)
      (λ k. r.around other (inr i) k)
      (part_or_region q part other item u.0 w.distinct r.is_part m u.1 i (within u.0 u.1)))
      o

  leaf_ready : (part : Process) → IsFree part → (n : ℕ) → (n ∷ []) ∈ items_of part → ¬ (n ∈ run) → ¬ (IsBlocked part (n ∷ [])) → IsReady q pairs (λ x. x ∈ run) n
  leaf_ready part r n m fresh free = record {
    leaf = region_within q part r.is_part n here;
    not_done = fresh;
    before = λ x b. item_waits part r (n ∷ []) m free x n (λ h. direct_other q pairs w x n b (only_one x n h)) (inl refl) b;
    outside = λ p i no x y k d l. ⊎_elim (λ h. h) (λ f. absurd (no (r.within p i ((x, k, d), (y, l, f)) n here))) (decide_in y run);
    begins = λ p i k none x y a b c. item_open part r (n ∷ []) m free p (inr i) (λ z h. subst (λ u. u ∈ leaves p) (sym (only_one z n h)) k) x y a b c;
  }
    where
      here : n ∈ leaves part
      here = item_within part (n ∷ []) n m (inl refl)

  part_free : (part : Process) → IsFree part → (inner : Process) → inner ∈ isolated_parts part → leaves inner ∈ items_of part → IsUnfinished run (leaves inner) →
      ¬ (IsBlocked part (leaves inner)) → IsFree inner
  part_free part r inner m k u n = record {
    is_part = inr (part_of_region q part inner r.is_part m);
    unfinished = u;
    within = λ other i c x h. r.within other i c x (part_within part inner x m h);
    around = λ other i h. item_open part r (leaves inner) k n other i h;
  }

  tangle_of : (part : Process) → IsFree part → ((item : List ℕ) → item ∈ items_of part → IsUnfinished run item → IsBlocked part item) → IsTangle q pairs run part
  tangle_of part r f = at (item_having part r.unfinished.0 r.unfinished.1)
    where
      at : (item : List ℕ) × (item ∈ items_of part) × (r.unfinished.0 ∈ item) → IsTangle q pairs run part
      at (start, m, h) = record {
        is_part = r.is_part;
        start = start;
        start_item = m;
        start_waits = (r.unfinished.0, h, r.unfinished.2);
        earlier = λ item i u.
            let b = f item i u in
            let o = item_having part b.0 b.1 in
            (o.0, o.1, (b.0, o.2, b.2.0.0), λ e. b.2.0.1 (subst (λ z. b.0 ∈ z) e o.2), (b.0, b.2.1.0, o.2, b.2.1.1, b.2.1.2));
      }

  -- a leaf may come next, or there is a tangle
  abbrev pub GoesOn : Type 0
  GoesOn = ((n : ℕ) × IsReady q pairs (λ x. x ∈ run) n) ⊎ ((tangled : Process) × IsTangle q pairs run tangled)

  -- an unfinished item that is not blocked is a ready leaf or a free part
  step : (part : Process) → IsFree part → ((inner : Process) → inner ∈ isolated_parts part → IsFree inner → GoesOn) → GoesOn
  step part r down = ⊎_elim
      (λ found. open_item found.0 found.1 found.2.0 found.2.1)
      (λ f. inr (part, tangle_of part r (λ item m u. ⊎_elim (λ k. k) (λ n. absurd (f item m (u, n))) (decide_blocked part item))))
      (find_member (λ item. IsUnfinished run item × ¬ (IsBlocked part item)) (λ item. decide_both (decide_unfinished run item) (decide_not (decide_blocked part item))) (items_of part))
    where
      open_item : (item : List ℕ) → item ∈ items_of part → IsUnfinished run item → ¬ (IsBlocked part item) → GoesOn
      open_item item m u n = ⊎_elim
          (λ (leaf, e).
          let (x, x_in, fresh) = subst (IsUnfinished run) e u in
          let undone = subst (λ z. ¬ (z ∈ run)) (only_one x leaf x_in) fresh in
          inl (leaf, leaf_ready part r leaf (subst (λ z. z ∈ items_of part) e m) undone (subst (λ z. ¬ (IsBlocked part z)) e n)))
          (λ (inner, i, e). down inner i
          (part_free part r inner i (subst (λ z. z ∈ items_of part) e m) (subst (IsUnfinished run) e u) (subst (λ z. ¬ (IsBlocked part z)) e n)))
          (item_kind (case_of part) item m)

  -- down the parts
  descend : (k : ℕ) (part : Process) → IsFree part → goal_size part ≤ k → GoesOn
  descend zero part r s = step part r (λ inner m f. absurd (omega (arith, part_smaller (case_of part) inner m)))
  descend (suc k) part r s = step part r (λ inner m f. descend k inner f (omega (arith, part_smaller (case_of part) inner m)))

  pub goes_on : IsUnfinished run (leaves q) → GoesOn
  goes_on u = let r = some_free u in descend (goal_size r.0) r.0 r.1 (omega arith)

-- items that wait for each other hold a circle
pub circle_of_tangle : (q : Process) (pairs : List (ℕ × ℕ)) (run : List ℕ) (part : Process) → IsTangle q pairs run part → (circle : List ℕ) × IsCircle q pairs circle
circle_of_tangle q pairs run part h =
    let found = ring_among q pairs (items_of part) (IsUnfinished run) h.earlier h.start h.start_item h.start_waits in
    let turned = ring_from_least q pairs (items_of part) found.0 found.1 in (
      map least_of turned.0,
      record {
        part = part;
        is_part = h.is_part;
        ring = turned.0;
        items = each_from_members (λ item. item ∈ items_of part) turned.0 turned.1.members;
        distinct = turned.1.distinct;
        two = turned.1.two;
        closed = turned.1.closed;
        written = refl;
        from_least = turned.2;
      },
    )

module _ (q : Process) (pairs : List (ℕ × ℕ)) (w : IsOrdered q pairs) where
  -- the run can be completed, or there is a circle
  abbrev pub GoesOnOrCircle : List ℕ → Type 0
  GoesOnOrCircle run = ((t : List ℕ) × IsCompleteRun q pairs t × Begins t run) ⊎ ((circle : List ℕ) × IsCircle q pairs circle)

  -- for each ready run to which these leaves at most are missing
  abbrev Completes : List ℕ → Type 0
  Completes left = (run : List ℕ) → IsReadyRun q pairs run → ((x : ℕ) → x ∈ leaves q → (x ∈ left) ⊎ (x ∈ run)) → GoesOnOrCircle run

  complete_step : (left : List ℕ) → LeavingOut Completes left → Completes left
  complete_step left on run h all = ⊎_elim
      (λ u. ⊎_elim
      (λ r. ⊎_elim (λ m. next r.0 r.1 (split_at r.0 left m)) (λ m. absurd (r.1.not_done m)) (all r.0 r.1.leaf))
      (λ r. inr (circle_of_tangle q pairs run r.0 r.1))
      (goes_on q pairs w run h u))
      (λ n. inl (run, (h, λ x m. grind (arith, decide_in x run, λ (no : ¬ (x ∈ run)). n (x, m, no))), ([], sym (append-nil run))))
      (decide_unfinished run (leaves q))
    where
      next : (n : ℕ) → IsReady q pairs (λ x. x ∈ run) n → (front back : List ℕ) × (left ≡ front ++ n ∷ back) → GoesOnOrCircle run
      next n r (front, back, e) =
          ⊎_elim
          (λ c. inl (c.0, c.1, (n ∷ c.2.0, c.2.1 ∙ append_assoc run (n ∷ []) c.2.0)))
          inr
          (on front n back e (run ++ n ∷ []) (run_grow q pairs run n h r)
          (λ x k. grind (arith, all x k, mem_with x n front back, e, mem_append_left x run (n ∷ []), mem_append_right x run (n ∷ []))))

  run_or_circle : (run : List ℕ) → IsReadyRun q pairs run → GoesOnOrCircle run
  run_or_circle run h = by_leaving_out Completes complete_step (leaves q) run h (λ x k. inl k)

pub ready_runs_extend : ReadyRunsExtend
ready_runs_extend q pairs w (s, h, k) run r = ⊎_elim
    (λ (t, complete, begins). let (trace, order) = (complete_runs_are_traces q pairs w t).0 complete in (t, trace, order, begins))
    (λ (circle, c). absurd (circle_excludes q pairs w circle c s (arrangement_of q pairs s w h k)))
    (run_or_circle q pairs w run r)

pub trace_or_circle : TraceOrCircle
trace_or_circle q pairs w = ⊎_elim
    (λ (t, complete, begins). let (trace, order) = (complete_runs_are_traces q pairs w t).0 complete in inl (t, trace, order))
    inr
    (run_or_circle q pairs w [] tt)
