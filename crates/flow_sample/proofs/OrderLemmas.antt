-- An order of items that grows, and the walk to the next of them.
use Rattle.std.proofs.Common.{◌≡◌, ℕ, ◌+◌, ◌-◌, ◌<◌, ◌≤◌, Bool, true, false, not, ◌&&◌, IsTrue, List, [], ◌∷◌, ◌++◌, ◌↔◌, ◌⊎◌, length, get_or, map, refl, sym, ap, ◌∙◌, subst, inl, inr, ⊎_elim, arith, length-append, true≢false, ◌||◌, Some, None, Option, slice_get, take, reverse, append-nil}
use Rattle.std.proofs.lemmas.List.{take_all, take_more, map-append, reverse-append, reverse-reverse}
use Rattle.std.proofs.lemmas.Bool.{both_ways, cases_lt, or_cases, or_left, or_right}
use Rattle.std.proofs.lemmas.Option.{slice_get_past, slice_get_read, slice_get_within, slice_get-get_or, get_or_from_slice_get}
use Rattle.std.proofs.Math.Seq.{take-append_seam}
use Rattle.leaf_rows.specs.declared.leaf_set.LeafSet.{LeafSet}
use Rattle.leaf_rows.specs.Leaves.{has_leaf}
use Rattle.flow_model.specs.Lists.{◌∈◌, Each, AreDistinct, StandsBefore, joined}
use Rattle.flow_model.proofs.Lists.{each_member, only_one, distinct-append, before_across, before_left, each_from_members, mem_append_left, mem_append_right, mem-append, at_most, last_none}
use Rattle.flow_model.specs.Decided.{decide_in}
use Rattle.flow_model.proofs.MadeLists.{joined-append}
use Rattle.flow_plan.proofs.PlaceLemmas.{read_member}
use Rattle.flow_sample.specs.declared.item.Item.{Item}
use Rattle.flow_sample.specs.Rows.{has_inside, has_waits, run_in, runs, IsIn, WaitsFor, IsEdge, AreApart}
use Rattle.flow_sample.specs.Arranged.{IsArranged, IsWholeOrder, IsCycle, LeadsOn, TakesIn}
use Rattle.flow_sample.proofs.RingLemmas.{IsTrail, trail_end}

-- tests

pub not_and : (a b : Bool) → IsTrue (not a && b) ↔ (¬ (IsTrue a) × IsTrue b)
not_and true b = (λ h. absurd (true≢false (sym h)), λ h. absurd (h.0 refl))
not_and false b = (λ h. (both_ways false refl, h), λ h. h.1)

row_within : {words : ℕ} → (test : Option (Item words) → ℕ → Bool) (items : List (Item words)) (n x : ℕ) → test None x ≡ false → IsTrue (test (slice_get items n) x) → n < length items
row_within test items n x none h = ⊎_elim (λ l. l)
    (λ l. absurd (both_ways (test None x) none (sym (ap (λ o. test o x) (slice_get_past items n l)) ∙ h))) (cases_lt n (length items))

pub is_within : {words : ℕ} → (items : List (Item words)) (n x : ℕ) → IsIn items n x → n < length items
is_within items n x h = row_within has_inside items n x refl h

pub waits_within : {words : ℕ} → (items : List (Item words)) (n x : ℕ) → WaitsFor items n x → n < length items
waits_within items n x h = row_within has_waits items n x refl h

-- distinct items, each before the next, that are not in the order yet
pub record IsPath {words : ℕ} (items : List (Item words)) (order path : List ℕ) : Type 0 where
  pub distinct : AreDistinct path
  pub within : (n : ℕ) → n ∈ path → n < length items
  pub fresh : (n : ℕ) → n ∈ path → ¬ (n ∈ order)
  pub trail : IsTrail items path

-- how many steps a walk may still take
abbrev pub steps : {words : ℕ} → List (Item words) → List ℕ → List ℕ → ℕ
steps items order path = (length items - length order) + (length items - length order) + (length items - length path)

module _ {words : ℕ} (items : List (Item words)) (w : AreApart items) where
  pub begun : (left : LeafSet words) → ((x : ℕ) → IsTrue (has_leaf left x) ↔ ((n : ℕ) × IsIn items n x)) → IsArranged items left []
  begun left all = record {
    distinct = tt;
    within = λ n m. absurd m;
    rest = λ x. (λ h. let r = (all x).0 h in (r.0, r.1, λ m. m), λ r. (all x).1 (r.0, r.1));
    behind = λ m n k e. absurd k;
  }

  -- an item that waits for none that is left goes behind the order
  pub grown : (left new : LeafSet words) (order longer : List ℕ) (top : ℕ) → IsArranged items left order → top < length items → ¬ (top ∈ order) →
      ((x : ℕ) → WaitsFor items top x → ¬ (IsTrue (has_leaf left x))) →
      ((x : ℕ) → has_leaf new x ≡ (not (has_inside (slice_get items top) x) && has_leaf left x)) → longer ≡ order ++ top ∷ [] → IsArranged items new longer
  grown left new order longer top a there fresh free cleared e = subst (IsArranged items new) (sym e) (record {
    distinct = distinct-append order (top ∷ []) a.distinct ((λ m. m), tt)
        (λ x m k. ⊎_elim (λ i. fresh (subst (λ z. z ∈ order) i m)) (λ f. absurd f) k);
    within = λ n m. ⊎_elim (a.within n) (⊎_elim (λ i. subst (λ z. z < length items) (sym i) there) (λ f. absurd f)) (mem-append n order (top ∷ []) m);
    rest = λ x. (still x, was x);
    behind = λ m n k edge. ⊎_elim (λ i. before_left m n order (top ∷ []) (a.behind m n i edge)) (last m n edge) (mem-append n order (top ∷ []) k);
  })
    where
      still : (x : ℕ) → IsTrue (has_leaf new x) → (n : ℕ) × IsIn items n x × ¬ (n ∈ (order ++ top ∷ []))
      still x h =
          let both = (not_and (has_inside (slice_get items top) x) (has_leaf left x)).0 (sym (cleared x) ∙ h) in
          let r = (a.rest x).0 both.1 in
          (r.0, r.1, λ m. ⊎_elim r.2 (⊎_elim (λ i. both.0 (subst (λ z. IsIn items z x) i r.1)) (λ f. absurd f)) (mem-append r.0 order (top ∷ []) m))

      was : (x : ℕ) → (n : ℕ) × IsIn items n x × ¬ (n ∈ (order ++ top ∷ [])) → IsTrue (has_leaf new x)
      was x (n, i, f) =
          cleared x ∙ (not_and (has_inside (slice_get items top) x) (has_leaf left x)).1 (
            (λ t. f (mem_append_right n order (top ∷ []) (inl (w.apart n top x i t)))),
            (a.rest x).1 (n, i, λ m. f (mem_append_left n order (top ∷ []) m)),
          )

      last : (m n : ℕ) → IsEdge items m n → n ∈ (top ∷ []) → StandsBefore m n (order ++ top ∷ [])
      last m n (x, i, v) (inr k) = absurd k
      last m n (x, i, v) (inl same) = ⊎_elim
          (λ k. before_across m n order (top ∷ []) k (inl same))
          (λ k. absurd (free x (subst (λ z. WaitsFor items z x) same v) ((a.rest x).1 (m, i, k))))
          (decide_in m order)

  -- an item that is left is not in the order
  pub left_out : (left : LeafSet words) (order : List ℕ) (n x : ℕ) → IsArranged items left order → IsIn items n x → IsTrue (has_leaf left x) → ¬ (n ∈ order)
  left_out left order n x a i h m =
      let r = (a.rest x).0 h in
      r.2 (subst (λ z. z ∈ order) (w.apart n r.0 x i r.1) m)

  -- and one of which no leaf is left is in it
  pub not_left : (left : LeafSet words) (order : List ℕ) (n : ℕ) → IsArranged items left order → n < length items →
      ((x : ℕ) → IsIn items n x → ¬ (IsTrue (has_leaf left x))) → n ∈ order
  not_left left order n a l h = ⊎_elim (λ k. k)
      (λ k. let x = w.some n l in absurd (h x.0 x.1 ((a.rest x.0).1 (n, x.1, k))))
      (decide_in n order)

  pub whole_order : (left : LeafSet words) (order : List ℕ) → IsArranged items left order → ((n : ℕ) → n < length items → n ∈ order) → IsWholeOrder items order
  whole_order left order a all = record {
    distinct = a.distinct;
    within = a.within;
    all = all;
    behind = λ m n e. a.behind m n (all n (waits_within items n e.0 e.2)) e;
  }

  -- walks

  pub path_on : (left : LeafSet words) (order path new : List ℕ) (top next : ℕ) (more : List ℕ) → path ≡ top ∷ more → IsArranged items left order → IsPath items order path →
      ((x : ℕ) × IsIn items next x × WaitsFor items top x × IsTrue (has_leaf left x)) → ¬ (next ∈ path) → new ≡ next ∷ path → IsPath items order new
  path_on left order path new top next more e a p (x, i, v, h) fresh f = subst (IsPath items order) (sym f) (record {
    distinct = (fresh, p.distinct);
    within = λ n m. ⊎_elim (λ s. subst (λ z. z < length items) (sym s) (is_within items next x i)) (p.within n) m;
    fresh = λ n m. ⊎_elim {C = ¬ (n ∈ order)} (λ s. subst (λ z. ¬ (z ∈ order)) (sym s) (left_out left order next x a i h)) (p.fresh n) m;
    trail = subst (λ z. IsTrail items (next ∷ z)) (sym e) ((x, i, v), subst (IsTrail items) e p.trail);
  })

  pub path_back : (order longer path : List ℕ) (top : ℕ) (more : List ℕ) → path ≡ top ∷ more → IsPath items order path → longer ≡ order ++ top ∷ [] →
      IsPath items longer more
  path_back order longer path top more e p f =
      let d = subst AreDistinct e p.distinct in
      record {
        distinct = d.1;
        within = λ n m. p.within n (subst (λ z. n ∈ z) (sym e) (inr m));
        fresh = λ n m k. ⊎_elim (p.fresh n (subst (λ z. n ∈ z) (sym e) (inr m)))
            (⊎_elim (λ i. d.0 (subst (λ z. z ∈ more) i m)) (λ f. absurd f))
            (mem-append n order (top ∷ []) (subst (λ z. n ∈ z) f k));
        trail = trail_end items top more (subst (IsTrail items) e p.trail);
      }

  -- fewer steps are left

  pub fewer_on : (order path new : List ℕ) (next : ℕ) → IsPath items order new → new ≡ next ∷ path → steps items order new < steps items order path
  fewer_on order path new next p e =
      let most = at_most (length items) new p.distinct p.within in
      omega (arith, most, ap length e)

  pub fewer_back : (left : LeafSet words) (order longer path : List ℕ) (top : ℕ) (more : List ℕ) → path ≡ top ∷ more → IsPath items order path → longer ≡ order ++ top ∷ [] →
      IsArranged items left longer → steps items longer more < steps items order path
  fewer_back left order longer path top more e p f a =
      let one = at_most (length items) path p.distinct p.within in
      let two = at_most (length items) longer a.distinct a.within in
      omega (arith, one, two, ap length e, ap length f, length-append order (top ∷ []))

-- the first item of a walk
pub begun_path : {words : ℕ} → (items : List (Item words)) (order path : List ℕ) (start : ℕ) → path ≡ start ∷ [] → start < length items → ¬ (start ∈ order) → IsPath items order path
begun_path items order path start e there fresh = subst (IsPath items order) (sym e) (record {
  distinct = ((λ m. m), tt);
  within = λ n m. subst (λ z. z < length items) (sym (only_one n start m)) there;
  fresh = λ n m. subst (λ z. ¬ (z ∈ order)) (sym (only_one n start m)) fresh;
  trail = tt;
})

-- The top of a path, which is kept with its top last: what is said above is of the list turned round.

pub no_top : (path seen : List ℕ) (o p : Option ℕ) → seen ≡ path → o ≡ slice_get seen (length seen - 1) → p ≡ o → p ≡ None → reverse path ≡ []
no_top path seen o p e f g h =
    ap reverse (last_none path (sym (ap (λ (z : List ℕ). slice_get z (length z - 1)) e) ∙ sym f ∙ sym g ∙ h))

abbrev front : List ℕ → List ℕ
front path = take (length path - 1) path

pub top_of : (path seen : List ℕ) (top : ℕ) (o p : Option ℕ) → seen ≡ path → o ≡ slice_get seen (length seen - 1) → p ≡ o → p ≡ Some top → (more : List ℕ) × (reverse path ≡ top ∷ more)
top_of path seen top o p e f g h =
    let last : slice_get path (length path - 1) ≡ Some top = sym (ap (λ (z : List ℕ). slice_get z (length z - 1)) e) ∙ sym f ∙ sym g ∙ h in
    let within = slice_get_within path (length path - 1) top last in
    let whole : path ≡ front path ++ top ∷ [] =
    sym (take_all (length path - 1 + 1) path (omega (arith, within))) ∙ take_more path (length path - 1) 0 within
    ∙ ap (λ y. front path ++ y ∷ []) (get_or_from_slice_get path (length path - 1) top 0 last) in
    (reverse (front path), ap reverse whole ∙ reverse-append (front path) (top ∷ []))

pub rest_of : (path new : List ℕ) (top n : ℕ) (more : List ℕ) → reverse path ≡ top ∷ more → n ≡ length path → new ≡ take (n - 1) path → reverse new ≡ more
rest_of path new top n more e long f =
    let turned : path ≡ reverse more ++ top ∷ [] = sym (reverse-reverse path) ∙ ap reverse e ∙ reverse-append (top ∷ []) more in
    let here : n - 1 ≡ length (reverse more) = omega (arith, long, ap length turned, length-append (reverse more) (top ∷ [])) in
    ap reverse (f ∙ ap (λ k. take k path) here ∙ ap (take (length (reverse more))) turned ∙ take-append_seam (reverse more) (top ∷ [])) ∙ reverse-reverse more

-- the leaves of the items on a path

abbrev pub AreLeavesOn : {words : ℕ} → List (Item words) → LeafSet words → List ℕ → Type 0
AreLeavesOn items set path = (x : ℕ) → IsTrue (has_leaf set x) ↔ ((n : ℕ) × (n ∈ path) × IsIn items n x)

pub leaves_of_one : {words : ℕ} → (items : List (Item words)) (set : LeafSet words) (start : ℕ) (path : List ℕ) → path ≡ start ∷ [] → ((x : ℕ) → has_inside (slice_get items start) x ≡ has_leaf set x) → AreLeavesOn items set path
leaves_of_one items set start path e same x = (
  λ h. (start, subst (λ z. start ∈ z) (sym e) (inl refl), same x ∙ h),
  λ (n, m, i). sym (same x) ∙ subst (λ z. IsIn items z x) (only_one n start (subst (λ z. n ∈ z) e m)) i,
)

pub leaves_more : {words : ℕ} → (items : List (Item words)) (old new : LeafSet words) (next : ℕ) (path longer : List ℕ) → longer ≡ next ∷ path →
    ((x : ℕ) → has_leaf new x ≡ (has_leaf old x || has_inside (slice_get items next) x)) → AreLeavesOn items old path → AreLeavesOn items new longer
leaves_more items old new next path longer e add are x = (
  λ h. ⊎_elim (λ o. let r = (are x).0 o in (r.0, subst (λ z. r.0 ∈ z) (sym e) (inr r.1), r.2)) (λ i. (next, subst (λ z. next ∈ z) (sym e) (inl refl), i))
      (or_cases (has_leaf old x) (has_inside (slice_get items next) x) (sym (add x) ∙ h)),
  λ (n, m, i). add x ∙ ⊎_elim
      (λ s. or_right (has_leaf old x) (has_inside (slice_get items next) x) (subst (λ z. IsIn items z x) s i))
      (λ k. or_left (has_leaf old x) (has_inside (slice_get items next) x) ((are x).1 (n, k, i)))
      (subst (λ z. n ∈ z) e m),
)

module _ {words : ℕ} (items : List (Item words)) (w : AreApart items) (set : LeafSet words) (path : List ℕ) (are : AreLeavesOn items set path) where
  pub leaves_less : (new : LeafSet words) (top : ℕ) (more : List ℕ) → path ≡ top ∷ more → AreDistinct path →
      ((x : ℕ) → has_leaf new x ≡ (not (has_inside (slice_get items top) x) && has_leaf set x)) → AreLeavesOn items new more
  leaves_less new top more e d cleared x =
      let both = not_and (has_inside (slice_get items top) x) (has_leaf set x) in (
        λ h. let r = both.0 (sym (cleared x) ∙ h) in
            let (n, m, i) = (are x).0 r.1 in
            ⊎_elim (λ s. absurd (r.0 (subst (λ z. IsIn items z x) s i))) (λ k. (n, k, i)) (subst (λ z. n ∈ z) e m),
        λ (n, m, i). cleared x ∙ both.1 (
          (λ t. (subst AreDistinct e d).0 (subst (λ z. z ∈ more) (w.apart n top x i t) m)),
          (are x).1 (n, subst (λ z. n ∈ z) (sym e) (inr m), i),
        ),
      )

  -- an item with a leaf in the set is on the path, and no other
  pub came_back : (n x : ℕ) → IsIn items n x → IsTrue (has_leaf set x) → n ∈ path
  came_back n x i h = let (m, there, j) = (are x).0 h in subst (λ z. z ∈ path) (w.apart m n x j i) there

  pub goes_on : (n : ℕ) → n < length items → ((x : ℕ) → IsIn items n x → ¬ (IsTrue (has_leaf set x))) → ¬ (n ∈ path)
  goes_on n l none m = let x = w.some n l in none x.0 x.1 ((are x.0).1 (n, m, x.1))

-- between these places is the item of the leaf
pub record IsBetween {words : ℕ} (items : List (Item words)) (leaf first end : ℕ) : Type 0 where
  pub within : end ≤ length items
  pub first_in : (n : ℕ) → IsIn items n leaf → first ≤ n
  pub end_out : (n : ℕ) → IsIn items n leaf → n < end

-- what is held goes on

pub holds_on : (old order longer : List ℕ) (top : ℕ) → longer ≡ order ++ top ∷ [] → ((m : ℕ) → m ∈ old → m ∈ order) → (m : ℕ) → m ∈ old → m ∈ longer
holds_on old order longer top e kept m k = subst (λ z. m ∈ z) (sym e) (mem_append_left m order (top ∷ []) (kept m k))

pub start_on : (start : ℕ) (order longer path : List ℕ) (top : ℕ) (more : List ℕ) → path ≡ top ∷ more → longer ≡ order ++ top ∷ [] →
    (start ∈ order) ⊎ (start ∈ path) → (start ∈ longer) ⊎ (start ∈ more)
start_on start order longer path top more e f (inl m) = inl (subst (λ z. start ∈ z) (sym f) (mem_append_left start order (top ∷ []) m))
start_on start order longer path top more e f (inr m) = ⊎_elim
    (λ i. inl (subst (λ z. start ∈ z) (sym f) (mem_append_right start order (top ∷ []) (inl i))))
    inr
    (subst (λ z. start ∈ z) e m)

-- rings

on_within : {words : ℕ} → (items : List (Item words)) (first n : ℕ) (more : List ℕ) → LeadsOn items first n more → (m : ℕ) → m ∈ (n ∷ more) → m < length items
on_within items first n [] h m (inl e) = subst (λ z. z < length items) (sym e) (is_within items n h.0 h.1)
on_within items first n [] h m (inr k) = absurd k
on_within items first n (next ∷ more) h m (inl e) = subst (λ z. z < length items) (sym e) (is_within items n h.0.0 h.0.1)
on_within items first n (next ∷ more) h m (inr k) = on_within items first next more h.1 m k

pub ring_within : {words : ℕ} → (items : List (Item words)) (ring : List ℕ) → IsCycle items ring → (m : ℕ) → m ∈ ring → m < length items
ring_within items [] h m k = absurd h
ring_within items (n ∷ more) h m k = on_within items n n more h m k

pub ring_some : {words : ℕ} → (items : List (Item words)) (ring : List ℕ) → IsCycle items ring → 0 < length ring
ring_some items [] h = absurd h
ring_some items (n ∷ more) h = omega arith

pub each_within : {words : ℕ} → (items : List (Item words)) (order seen : List ℕ) → seen ≡ order → ((n : ℕ) → n ∈ order → n < length items) → Each (λ n. n < length items) seen
each_within items order seen e h = each_from_members (λ n. n < length items) seen (λ n m. h n (subst (λ z. n ∈ z) e m))

-- one more place passed
pub passed_more : (old new : List ℕ) (start : ℕ) → ((n : ℕ) → n < start → n ∈ old) → TakesIn start old new → (n : ℕ) → n < start + 1 → n ∈ new
passed_more old new start h k n l =
    elim (cases_lt n start) [ inl i ↦ k.kept n (h n i) | inr i ↦ let e : n ≡ start = omega arith in subst (λ z. z ∈ new) (sym e) k.here ]

-- what the row of the item at a place says
pub row_at : {words : ℕ} → (test : Option (Item words) → ℕ → Bool) (items : List (Item words)) (n : ℕ) (item : Item words) → n < length items → (x : ℕ) → test (slice_get items n) x ≡ test (Some (get_or items n item)) x
row_at test items n item l x = ap (λ o. test o x) (slice_get-get_or items n item l)

-- the union of rows of items
abbrev pub IsUnion : {words : ℕ} → (Option (Item words) → ℕ → Bool) → List (Item words) → ℕ → LeafSet words → Type 0
IsUnion test items k all = (x : ℕ) → IsTrue (has_leaf all x) ↔ ((n : ℕ) × (n < k) × IsTrue (test (slice_get items n) x))

pub union_more : {words : ℕ} → (test : Option (Item words) → ℕ → Bool) (items : List (Item words)) (k : ℕ) (item : Item words) (old new : LeafSet words) → k < length items → item ≡ get_or items k item →
    ((x : ℕ) → has_leaf new x ≡ (has_leaf old x || test (Some item) x)) → IsUnion test items k old → IsUnion test items (k + 1) new
union_more test items k item old new l e add all x =
    let there : test (slice_get items k) x ≡ test (Some item) x = ap (λ o. test o x) (slice_get_read items (length items) k item refl l e) in (
      λ h. ⊎_elim (λ o. let r = (all x).0 o in (r.0, omega (arith, r.1), r.2)) (λ t. (k, omega arith, there ∙ t))
          (or_cases (has_leaf old x) (test (Some item) x) (sym (add x) ∙ h)),
      λ r. add x ∙ ⊎_elim (λ i. or_left (has_leaf old x) (test (Some item) x) ((all x).1 (r.0, i, r.2)))
          (λ i. let last : k ≡ r.0 = omega (arith, r.1) in
          or_right (has_leaf old x) (test (Some item) x) (sym there ∙ ap (λ n. test (slice_get items n) x) last ∙ r.2))
          (cases_lt r.0 k),
    )

-- what is read of each item, with one more
pub read_more : {A : Type 0} {words : ℕ} (of : Option (Item words) → A) (items : List (Item words)) (order : List ℕ) (k : ℕ) (item : Item words) → k < length order → Each (λ n. n < length items) order →
    map (λ n. of (slice_get items n)) (take (k + 1) order) ≡ map (λ n. of (slice_get items n)) (take k order) ++ of (Some (get_or items (get_or order k 0) item)) ∷ []
read_more {A} of items order k item l w =
    let f : ℕ → A = λ n. of (slice_get items n) in
    let there = each_member (λ n. n < length items) order w (get_or order k 0) (read_member order k l) in
    ap (map f) (take_more order k 0 l) ∙ map-append f (take k order) (get_or order k 0 ∷ [])
    ∙ ap (λ o. map f (take k order) ++ of o ∷ []) (slice_get-get_or items (get_or order k 0) item there)

-- and the runs
pub runs_more : {words : ℕ} → (items : List (Item words)) (order : List ℕ) (k : ℕ) (item : Item words) → k < length order → Each (λ n. n < length items) order →
    runs items (take (k + 1) order) ≡ runs items (take k order) ++ (get_or items (get_or order k 0) item).run.items
runs_more items order k item l w =
    let run : List ℕ = (get_or items (get_or order k 0) item).run.items in
    ap joined (read_more run_in items order k item l w) ∙ joined-append (map (λ n. run_in (slice_get items n)) (take k order)) (run ∷ [])
    ∙ ap (λ z. runs items (take k order) ++ z) (append-nil run)

-- the union of the rows of all items
pub union_of_all : {words : ℕ} → (test : Option (Item words) → ℕ → Bool) (items : List (Item words)) (k : ℕ) (all : LeafSet words) → ((n x : ℕ) → IsTrue (test (slice_get items n) x) → n < length items) → length items ≤ k →
    IsUnion test items k all → (x : ℕ) → IsTrue (has_leaf all x) ↔ ((n : ℕ) × IsTrue (test (slice_get items n) x))
union_of_all test items k all within past are x = (
  λ h. let r = (are x).0 h in (r.0, r.2),
  λ r. (are x).1 (r.0, omega (arith, within r.0 x r.1), r.1),
)

-- what an item says by its place
pub item_row : {words : ℕ} → (test : Option (Item words) → ℕ → Bool) (items : List (Item words)) (n : ℕ) (item : Item words) → n < length items → item ≡ get_or items n item → (x : ℕ) →
    test (slice_get items n) x ≡ test (Some item) x
item_row test items n item within is x = ap (λ o. test o x) (slice_get_read items (length items) n item refl within is)
