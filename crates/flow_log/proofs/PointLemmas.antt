-- Points of the search that become more.
use Rattle.std.proofs.Common.{◌≡◌, ◌<◌, ◌≤◌, ◌+◌, ◌⊎◌, ◌↔◌, ℕ, zero, suc, Bool, true, false, true≢false, IsTrue, List, [], ◌∷◌, ◌++◌, length, get_or, reverse, not, ◌&&◌, Option, Some, None, is_some, IfNone, IfSome, slice_get, refl, sym, ap, ◌∙◌, subst, arith, length-append, inl, inr, ⊎_elim}
use Rattle.std.proofs.lemmas.Bool.{cases_lt, and_parts}
use Rattle.std.proofs.lemmas.List.{append-nil, append_assoc, reverse-append}
use Rattle.std.proofs.lemmas.Option.{slice_get_within, slice_get-get_or}
use Rattle.leaf_rows.specs.Leaves.{has_leaf}
use Rattle.leaf_rows.specs.declared.leaf_set.LeafSet.{LeafSet}
use Rattle.flow_model.specs.Lists.{◌∈◌, AreDistinct}
use Rattle.flow_model.specs.Resolution.{ChoiceOption}
use Rattle.flow_model.proofs.Lists.{each_member, mem_append_right, mem-slice_get, slice_get_append_left, distinct-append, only_one}
use Rattle.flow_model.proofs.MadeLists.{some_same}
use Rattle.flow_fold_laws.proofs.FoldedOrdersByTwo.{same_folded_ready}
use Rattle.flow_residual.specs.Options.{HasAt}
use Rattle.flow_residual.proofs.FoldedSteps.{run_grow}
use Rattle.flow_trace.specs.Fronts.{Follows}
use Rattle.flow_log.specs.declared.point.Point.{Point}
use Rattle.flow_model.specs.Facts.{state_with}
use Rattle.flow_plan.specs.Options.{options_of}
use Rattle.flow_residual.proofs.OptionLemmas.{length-options}
use Rattle.flow_log.specs.declared.case.Case.{Case}
use Rattle.flow_log.specs.Case.{AreFacts, Fitted, IsBegun, fitted_of}
use Rattle.flow_log.specs.Search.{IsAfter, LeadsTo, IsOneMore, AreLed, IsLed, AreBefore, Knows, AreLike, IsKnown, IsTried, ArePassed, AreMore, AreShort, IsNoEnd, MayFollow, Goes}
use Rattle.flow_log.proofs.BeginLemmas.{begun_none, begun_once}

-- ---- places

pub place_of : {A : Type 0} (xs : List A) (x : A) → x ∈ xs → (i : ℕ) × (slice_get xs i ≡ Some x)
place_of [] x m = absurd m
place_of (y ∷ xs) x (inl e) = (0, let at : Some y ≡ Some x = cc in at)
place_of (y ∷ xs) x (inr m) = let i = place_of xs x m in (suc i.0, i.1)

pub there_at : {A : Type 0} (xs : List A) (i : ℕ) → i < length xs → (x : A) × (slice_get xs i ≡ Some x)
there_at [] i h = absurd (omega arith)
there_at (y ∷ xs) zero h = (y, refl)
there_at (y ∷ xs) (suc i) h = there_at xs i (omega arith)

pub at_left : {A : Type 0} (xs ys : List A) (i : ℕ) → i < length xs → slice_get (xs ++ ys) i ≡ slice_get xs i
at_left [] ys i h = absurd (omega arith)
at_left (y ∷ xs) ys zero h = refl
at_left (y ∷ xs) ys (suc i) h = at_left xs ys i (omega arith)

pub at_end : {A : Type 0} (xs : List A) (x : A) → slice_get (xs ++ x ∷ []) (length xs) ≡ Some x
at_end [] x = refl
at_end (y ∷ xs) x = at_end xs x

pub at_push : {A : Type 0} (xs : List A) (x y : A) (i : ℕ) → slice_get (xs ++ x ∷ []) i ≡ Some y → ((i < length xs) × (slice_get xs i ≡ Some y)) ⊎ ((i ≡ length xs) × (x ≡ y))
at_push [] x y zero e = inr (refl, some_same x y e)
at_push [] x y (suc i) e = absurd (cc)
at_push (z ∷ xs) x y zero e = inl (omega arith, e)
at_push (z ∷ xs) x y (suc i) e = ⊎_elim (λ (w, h). inl (omega (arith, w), h)) (λ (p, q). inr (ap suc p, q)) (at_push xs x y i e)

pub distinct_place : {A : Type 0} (xs : List A) (x : A) (i j : ℕ) → AreDistinct xs → slice_get xs i ≡ Some x → slice_get xs j ≡ Some x → i ≡ j
distinct_place [] x i j d a b = absurd (cc)
distinct_place (y ∷ xs) x zero zero d a b = refl
distinct_place (y ∷ xs) x zero (suc j) d a b = absurd (d.0 (let e : y ≡ x = some_same y x a in subst (λ z. z ∈ xs) (sym e) (mem-slice_get xs j x b)))
distinct_place (y ∷ xs) x (suc i) zero d a b = absurd (d.0 (let e : y ≡ x = some_same y x b in subst (λ z. z ∈ xs) (sym e) (mem-slice_get xs i x a)))
distinct_place (y ∷ xs) x (suc i) (suc j) d a b = ap suc (distinct_place xs x i j d.1 a b)

pub snoc_same : (a b : List ℕ) (x y : ℕ) → a ++ x ∷ [] ≡ b ++ y ∷ [] → (a ≡ b) × (x ≡ y)
snoc_same [] [] x y e = (refl, cc)
snoc_same [] (z ∷ b) x y e = let r : [] ≡ b ++ y ∷ [] = cc in absurd (omega (arith, ap length r, length-append b (y ∷ [])))
snoc_same (z ∷ a) [] x y e = let r : a ++ x ∷ [] ≡ [] = cc in absurd (omega (arith, ap length r, length-append a (x ∷ [])))
snoc_same (z ∷ a) (w ∷ b) x y e = let r : a ++ x ∷ [] ≡ b ++ y ∷ [] = cc in let h : z ≡ w = cc in let more = snoc_same a b x y r in ((let k = more.0 in cc), more.1)

-- ---- what is known stays known

module _ {w : ℕ} (f : Fitted) (points more : List (Point w)) where
  pub knows_more : (j : ℕ) (list : List ℕ) (count : ℕ) → Knows f points j list count → Knows f (points ++ more) j list count
  knows_more j list count k = record {
    place = k.place;
    point = k.point;
    there = slice_get_append_left points more k.place k.point k.there;
    option = k.option;
    counted = k.counted;
    after = k.after;
  }

  pub known_more : (j : ℕ) (like : Point w) → IsKnown points j like → IsKnown (points ++ more) j like
  known_more j like k = record {
    place = k.place;
    point = k.point;
    there = slice_get_append_left points more k.place k.point k.there;
    option = k.option;
    is_like = k.is_like;
  }

  pub tried_more : (p : Point w) (leaf : ℕ) → IsTried f points p leaf → IsTried f (points ++ more) p leaf
  tried_more p leaf tried j o list count option at after begun ready next = knows_more j (list ++ leaf ∷ []) count (tried j o list count option at after begun ready next)

  pub passed_more : (place : ℕ) → place ≤ length points → ArePassed f points place → ArePassed f (points ++ more) place
  passed_more place within passed i p leaf below there =
      tried_more p leaf (passed i p leaf below (sym (at_left points more i (omega (arith, below, within))) ∙ there))

-- a point like one after the list is after the list
pub knows_like : {w : ℕ} (f : Fitted) (points : List (Point w)) (j : ℕ) (list : List ℕ) (like : Point w) → IsKnown points j like → IsAfter f list like → Knows f points j list like.count
knows_like f points j list like k is = record {
  place = k.place;
  point = k.point;
  there = k.there;
  option = k.option;
  counted = k.is_like.count;
  after = record {
    done = λ n. (λ h. (is.done n).0 (sym (k.is_like.done n) ∙ h), λ m. k.is_like.done n ∙ (is.done n).1 m);
    facts = λ n g speaks. k.is_like.facts _ ∙ is.facts n g speaks;
  };
}

-- ---- one leaf more

pub follows_more : {w : ℕ} (f : Fitted) (list : List ℕ) (p : Point w) (leaf : ℕ) (o : ChoiceOption) → IsAfter f list p → Follows list o → MayFollow p.done leaf o → Follows (list ++ leaf ∷ []) o
follows_more f list p leaf o is run ready =
    run_grow o.resolution o.order list leaf run (same_folded_ready o.resolution o.order (λ n. IsTrue (has_leaf p.done n)) (λ n. n ∈ list) leaf (λ n. (is.done n).0) (λ n. (is.done n).1) ready)

-- a point from which a leaf leads to another
pub record Turns {w : ℕ} (f : Fitted) (p : Point w) (leaf : ℕ) (next : Point w) : Type 0 where
  pub made : (list : List ℕ) → IsBegun f list p.count → IsAfter f list p → IsBegun f (list ++ leaf ∷ []) next.count × IsAfter f (list ++ leaf ∷ []) next

module _ {w : ℕ} (f : Fitted) (points : List (Point w)) (p : Point w) (leaf : ℕ) where
  -- it is tried where what it leads to is known
  pub tried_from : (next : Point w) → Turns f p leaf next → ((j : ℕ) → IsTrue (has_leaf p.options j) → HasAt (MayFollow p.done leaf) f.options j → IsKnown points j next) → IsTried f points p leaf
  tried_from next turns known j o list count option at after begun ready more =
      let made = turns.made list begun after in
      subst (Knows f points j (list ++ leaf ∷ [])) (begun_once f (list ++ leaf ∷ []) next.count count made.0 more)
      (knows_like f points j (list ++ leaf ∷ []) next (known j option (o, at, ready)) made.1)

  -- and where it leads to nothing
  pub tried_none : ((list : List ℕ) (count : ℕ) → IsBegun f list p.count → IsAfter f list p → ¬ (IsBegun f (list ++ leaf ∷ []) count)) → IsTried f points p leaf
  tried_none none j o list count option at after begun ready more = absurd (none list count begun after more)

  pub tried_never : ((j : ℕ) (o : ChoiceOption) → IsTrue (has_leaf p.options j) → slice_get f.options j ≡ Some o → ¬ (MayFollow p.done leaf o)) → IsTried f points p leaf
  tried_never never j o list count option at after begun ready more = absurd (never j o option at ready)

  -- the list of the next point, which has some of the options
  pub leads_more : (q : Point w) (list : List ℕ) → Turns f p leaf q → LeadsTo f list p →
      ((j : ℕ) → IsTrue (has_leaf q.options j) → IsTrue (has_leaf p.options j) × HasAt (MayFollow p.done leaf) f.options j) →
      (j : ℕ) × IsTrue (has_leaf q.options j) → LeadsTo f (list ++ leaf ∷ []) q
  leads_more q list turns leads among some =
      let made = turns.made list leads.begun leads.after in record {
        begun = made.0;
        after = made.1;
        follows = λ j h.
            let (option, (o, at, ready)) = among j h in
            let (o', at', run) = leads.follows j option in
            (o, at, follows_more f list p leaf o leads.after (subst (Follows list) (some_same o' o (sym at' ∙ at)) run) ready);
        some = some;
      }

-- ---- one point more

module _ {w : ℕ} (f : Fitted) (points : List (Point w)) (lists : List (List ℕ)) (led : AreLed f points lists) (place : ℕ) (front : List ℕ) (at : slice_get lists place ≡ Some front)
    (q : Point w) (from : q.before ≡ place) (before : AreBefore points place q.leaf) where
  abbrev new : List ℕ
  new = front ++ q.leaf ∷ []

  is_new : (list : List ℕ) → list ∈ lists → ¬ (list ∈ (new ∷ []))
  is_new list there m = by_place (place_of lists list there) (only_one list new m)
    where
      not_first : (i : ℕ) → slice_get lists i ≡ Some list → list ≡ new → ¬ (i ≡ 0)
      not_first i here is zero_is =
          let none : [] ≡ list = some_same [] list (sym led.first ∙ ap (slice_get lists) (sym zero_is) ∙ here) in
          omega (arith, ap length (none ∙ is), length-append front (q.leaf ∷ []))

      by_place : (i : ℕ) × (slice_get lists i ≡ Some list) → list ≡ new → ⊥
      by_place (i, here) is =
          let inside : i < length points = omega (arith, slice_get_within lists i list here, led.one_each) in
          let (r, there) = there_at points i inside in
          let no = not_first i here is in
          let back = led.back i r list (omega (arith, no)) there here in
          let (fronts, leaf) = snoc_same back.front front r.leaf q.leaf (sym back.is ∙ is) in
          let same : r.before ≡ place = distinct_place lists front r.before place led.different (back.there ∙ ap (λ (l : List ℕ). Some l) fronts) at in
          ⊎_elim (λ less. omega (arith, less, same)) (λ (e, less). omega (arith, less, leaf)) (before i r (omega (arith, no)) there)

  pub led_push : LeadsTo f new q → place < length points → AreLed f (points ++ q ∷ []) (lists ++ new ∷ [])
  led_push leads within = record {
    one_each = length-append lists (new ∷ []) ∙ ap (λ n. n + 1) led.one_each ∙ sym (length-append points (q ∷ []));
    first = slice_get_append_left lists (new ∷ []) 0 [] led.first;
    each = λ i p list here there. both i p list (at_push points q p i here) (at_push lists new list i there)
        (λ a b. led.each i p list a b) (λ end e g. subst (λ (l : List ℕ). LeadsTo f l p) g (subst (LeadsTo f new) e leads));
    back = λ i p list some here there. both {P = IsOneMore (lists ++ new ∷ []) p i list} i p list (at_push points q p i here) (at_push lists new list i there)
        (λ a b. let back = led.back i p list some a b in record {
          earlier = back.earlier;
          front = back.front;
          there = slice_get_append_left lists (new ∷ []) p.before back.front back.there;
          is = back.is;
        })
        (λ end e g. record {
          earlier = let same = ap (λ (r : Point w). r.before) e in omega (arith, within, end, from, same);
          front = front;
          there = slice_get_append_left lists (new ∷ []) p.before front (ap (slice_get lists) (sym (ap (λ (r : Point w). r.before) e) ∙ from) ∙ at);
          is = sym g ∙ ap (λ (r : Point w). front ++ r.leaf ∷ []) e;
        });
    different = distinct-append lists (new ∷ []) led.different (λ m. m, tt) is_new;
    whole = λ p here j small. ⊎_elim (λ (below, old). led.whole p old j small) (λ (end, e). absurd (omega (arith, end, within))) (at_push points q p 0 here);
  }
    where
      both : {P : Type 0} (i : ℕ) (p : Point w) (list : List ℕ) → ((i < length points) × (slice_get points i ≡ Some p)) ⊎ ((i ≡ length points) × (q ≡ p)) →
          ((i < length lists) × (slice_get lists i ≡ Some list)) ⊎ ((i ≡ length lists) × (new ≡ list)) →
          (slice_get points i ≡ Some p → slice_get lists i ≡ Some list → P) → (i ≡ length points → q ≡ p → new ≡ list → P) → P
      both i p list (inl a) (inl b) old end = old a.1 b.1
      both i p list (inl a) (inr b) old end = absurd (omega (arith, a.0, b.0, led.one_each))
      both i p list (inr a) (inl b) old end = absurd (omega (arith, a.0, b.0, led.one_each))
      both i p list (inr a) (inr b) old end = end a.0 a.1 b.1

  pub before_push : AreBefore (points ++ q ∷ []) place (q.leaf + 1)
  before_push i p some here = ⊎_elim
      (λ (below, old). ⊎_elim (λ less. inl less) (λ (e, less). inr (e, omega (arith, less))) (before i p some old))
      (λ (end, e). inr (sym (ap (λ (r : Point w). r.before) e) ∙ from, let leaf = ap (λ (r : Point w). r.leaf) e in omega (arith, leaf)))
      (at_push points q p i here)

pub before_later : {w : ℕ} (points : List (Point w)) (place leaf later : ℕ) → leaf ≤ later → AreBefore points place leaf → AreBefore points place later
before_later points place leaf later more before i p some there = ⊎_elim (λ less. inl less) (λ (e, less). inr (e, omega (arith, less, more))) (before i p some there)

pub before_next : {w : ℕ} (points : List (Point w)) (place leaf : ℕ) → AreBefore points place leaf → AreBefore points (place + 1) 0
before_next points place leaf before i p some there = ⊎_elim (λ less. inl (omega (arith, less))) (λ (e, less). inl (omega (arith, e))) (before i p some there)

-- ---- leaf by leaf

-- no point is made, and the leaf is tried
pub goes_tried : {w : ℕ} (f : Fitted) (budget : ℕ) (points : List (Point w)) (place leaf : ℕ) → IsLed f points → AreBefore points place leaf →
    ((p : Point w) → slice_get points place ≡ Some p → IsTried f points p leaf) → Goes f budget points points place leaf (leaf + 1) true
goes_tried f budget points place leaf led before tried = record {
  more = ([], sym (append-nil points));
  led = led;
  before = before_later points place leaf (leaf + 1) (omega arith) before;
  tried = λ _ p n there from to. let is : leaf ≡ n = omega (arith, from, to) in subst (IsTried f points p) is (tried p there);
  within = λ _. omega arith;
  spent = λ no. absurd (no refl);
}

pub goes_nowhere : {w : ℕ} (f : Fitted) (budget : ℕ) (points : List (Point w)) (place leaf : ℕ) → IsLed f points → AreBefore points place leaf → budget ≤ length points →
    Goes f budget points points place leaf (leaf + 1) false
goes_nowhere f budget points place leaf led before spent = record {
  more = ([], sym (append-nil points));
  led = led;
  before = before_later points place leaf (leaf + 1) (omega arith) before;
  tried = λ yes. absurd (true≢false (sym yes));
  within = λ yes. absurd (true≢false (sym yes));
  spent = λ _. spent;
}

-- nothing is tried yet
pub goes_begins : {w : ℕ} (f : Fitted) (budget : ℕ) (points : List (Point w)) (place : ℕ) → IsLed f points → AreBefore points place 0 → Goes f budget points points place 0 0 true
goes_begins f budget points place led before = record {
  more = ([], sym (append-nil points));
  led = led;
  before = before;
  tried = λ _ p n there from to. absurd (omega (arith, to));
  within = λ _. omega arith;
  spent = λ no. absurd (no refl);
}

-- a point is made
pub goes_on : {w : ℕ} (f : Fitted) (budget : ℕ) (points : List (Point w)) (place : ℕ) (p q : Point w) → IsLed f points → AreBefore points place q.leaf →
    slice_get points place ≡ Some p → q.before ≡ place → length points < budget → Turns f p q.leaf q →
    ((j : ℕ) → IsTrue (has_leaf q.options j) → IsTrue (has_leaf p.options j) × HasAt (MayFollow p.done q.leaf) f.options j) →
    ((j : ℕ) → IsTrue (has_leaf p.options j) → HasAt (MayFollow p.done q.leaf) f.options j → IsTrue (has_leaf q.options j) ⊎ IsKnown points j q) →
    (j : ℕ) × IsTrue (has_leaf q.options j) → Goes f budget points (points ++ q ∷ []) place q.leaf (q.leaf + 1) true
goes_on {w} f budget points place p q (lists, led) before here from room turns among all some = record {
  more = (q ∷ [], refl);
  led = (lists ++ (front ++ q.leaf ∷ []) ∷ [], led_push f points lists led place front at q from before (leads_more f points p q.leaf q front turns (led.each place p front here at) among some) inside);
  before = before_push f points lists led place front at q from before;
  tried = λ _ r n there above below.
      let leaf : q.leaf ≡ n = omega (arith, above, below) in
      let is : p ≡ r = some_same p r (sym (slice_get_append_left points (q ∷ []) place p here) ∙ there) in
      subst (λ (s : Point w). IsTried f (points ++ q ∷ []) s n) is (subst (IsTried f (points ++ q ∷ []) p) leaf tried);
  within = λ _. omega (arith, length-append points (q ∷ []), room);
  spent = λ no. absurd (no refl);
}
  where
    inside : place < length points
    inside = slice_get_within points place p here

    list_there : (list : List ℕ) × (slice_get lists place ≡ Some list)
    list_there = there_at lists place (omega (arith, inside, led.one_each))

    front : List ℕ
    front = list_there.0

    at : slice_get lists place ≡ Some front
    at = list_there.1

    tried : IsTried f (points ++ q ∷ []) p q.leaf
    tried = tried_from f (points ++ q ∷ []) p q.leaf q turns (λ j option ready. ⊎_elim
        (λ h. record { place = length points; point = q; there = at_end points q; option = h; is_like = record { count = refl; done = λ n. refl; facts = λ n. refl } })
        (λ k. known_more f points (q ∷ []) j q k) (all j option ready))

-- the leaves of one step after those of another
pub goes_further : {w : ℕ} (f : Fitted) (budget : ℕ) (old mid new : List (Point w)) (place from leaf : ℕ) (going : Bool) → place < length old →
    Goes f budget old mid place from leaf true → Goes f budget mid new place leaf (leaf + 1) going → Goes f budget old new place from (leaf + 1) going
goes_further {w} f budget old mid new place from leaf going inside one two =
    let (more, is) = one.more in
    let (further, so) = two.more in record {
      more = (more ++ further, so ∙ ap (λ (l : List (Point w)). l ++ further) is ∙ append_assoc old more further);
      led = two.led;
      before = two.before;
      tried = λ yes p n there above below. elim (cases_lt n leaf) [
        | inl less ↦ subst (λ (l : List (Point w)). IsTried f l p n) (sym so) (tried_more f mid further p n (one.tried refl p n
            (sym (at_left mid further place (omega (arith, inside, ap length is, length-append old more))) ∙ ap (λ (l : List (Point w)). slice_get l place) (sym so) ∙ there) above less))
        | inr past ↦ two.tried yes p n there past below
      ];
      within = λ yes. let a = one.within refl in let b = two.within yes in omega (arith, a, b);
      spent = two.spent;
    }

-- ---- the first point

pub first_leads : {w : ℕ} (c : Case) (p : Point w) → p.count ≡ 0 → ((n : ℕ) → has_leaf p.done n ≡ false) →
    AreFacts c.workflow.now.tree.labels c.places.items (state_with c.workflow.now.held) (has_leaf p.facts) →
    ((j : ℕ) → IsTrue (has_leaf p.options j) ↔ (j < length c.plans.now)) → 0 < length c.plans.now → LeadsTo (fitted_of c) [] p
first_leads c p zero_is done facts options some = record {
  begun = subst (IsBegun (fitted_of c) []) (sym zero_is) (begun_none (fitted_of c));
  after = record { done = λ n. (λ h. absurd (true≢false (sym h ∙ done n)), λ m. absurd m); facts = facts };
  follows = λ j h.
      let less : j < length (options_of c.plans.now) = (let small = (options j).0 h in omega (arith, small, length-options c.plans.now)) in
      let (o, at) = there_at (options_of c.plans.now) j less in
      (o, at, tt);
  some = (0, (options 0).1 some);
}

-- one point alone
pub led_first : {w : ℕ} (c : Case) (points : List (Point w)) (p : Point w) → points ≡ p ∷ [] → LeadsTo (fitted_of c) [] p →
    ((j : ℕ) → j < length c.plans.now → IsTrue (has_leaf p.options j)) → IsLed (fitted_of c) points
led_first {w} c points p is leads options = subst (IsLed (fitted_of c)) (sym is) (
  [] ∷ [],
  record {
    one_each = refl;
    first = refl;
    each = λ i q list here there. only i q list here there;
    back = λ i q list some here there. absurd (none i q some here);
    different = (λ m. m, tt);
    whole = λ q here j less. subst (λ (r : Point w). IsTrue (has_leaf r.options j)) (some_same p q here) (options j (omega (arith, less, length-options c.plans.now)));
  },
)
  where
    only : (i : ℕ) (q : Point w) (list : List ℕ) → slice_get (p ∷ []) i ≡ Some q → slice_get ([] ∷ []) i ≡ Some list → LeadsTo (fitted_of c) list q
    only zero q list here there = subst (λ (l : List ℕ). LeadsTo (fitted_of c) l q) (some_same [] list there) (subst (LeadsTo (fitted_of c) []) (some_same p q here) leads)
    only (suc i) q list here there = absurd (cc)

    none : (i : ℕ) (q : Point w) → 0 < i → slice_get (p ∷ []) i ≡ Some q → ⊥
    none zero q some here = omega (arith, some)
    none (suc i) q some here = cc

-- ---- the list of a point, from its end

pub list_ends : {w : ℕ} (f : Fitted) (points : List (Point w)) (lists : List (List ℕ)) (place : ℕ) → AreLed f points lists → place < length points →
    (front : List ℕ) × (slice_get lists place ≡ Some front) × (slice_get lists place ≡ Some (front ++ reverse []))
list_ends f points lists place led within =
    let (list, at) = there_at lists place (omega (arith, within, led.one_each)) in
    (list, at, at ∙ ap (λ (l : List ℕ). Some l) (sym (append-nil list)))

-- one leaf further back
pub list_back : {w : ℕ} (f : Fitted) (points : List (Point w)) (lists : List (List ℕ)) (led : AreLed f points lists) (at place : ℕ) (p : Point w) (leaves : List ℕ) → 0 < at → slice_get points at ≡ Some p →
    (front : List ℕ) × (slice_get lists at ≡ Some front) × (slice_get lists place ≡ Some (front ++ reverse leaves)) →
    (front : List ℕ) × (slice_get lists p.before ≡ Some front) × (slice_get lists place ≡ Some (front ++ reverse (leaves ++ p.leaf ∷ [])))
list_back f points lists led at place p leaves some there (front, here, is) =
    let back = led.back at p front some there here in
    let same : front ++ reverse leaves ≡ back.front ++ reverse (leaves ++ p.leaf ∷ []) =
    ap (λ (l : List ℕ). l ++ reverse leaves) back.is ∙ append_assoc back.front (p.leaf ∷ []) (reverse leaves) ∙ ap (λ (l : List ℕ). back.front ++ l) (sym (reverse-append leaves (p.leaf ∷ []))) in
    (back.front, back.there, is ∙ ap (λ (l : List ℕ). Some l) same)

pub back_less : {w : ℕ} (f : Fitted) (points : List (Point w)) (at : ℕ) (p : Point w) → IsLed f points → 0 < at → slice_get points at ≡ Some p → p.before < at
back_less f points at p (lists, led) some there =
    let (list, here) = there_at lists at (omega (arith, slice_get_within points at p there, led.one_each)) in
    (led.back at p list some there here).earlier

pub list_whole : {w : ℕ} (f : Fitted) (points : List (Point w)) (lists : List (List ℕ)) (led : AreLed f points lists) (at place : ℕ) (leaves : List ℕ) → ¬ (0 < at) →
    (front : List ℕ) × (slice_get lists at ≡ Some front) × (slice_get lists place ≡ Some (front ++ reverse leaves)) → slice_get lists place ≡ Some (reverse leaves)
list_whole f points lists led at place leaves none (front, here, is) =
    let zero_is : at ≡ 0 = omega (arith, none) in
    let empty : front ≡ [] = some_same front [] (sym here ∙ ap (slice_get lists) zero_is ∙ led.first) in
    is ∙ ap (λ (l : List ℕ). Some (l ++ reverse leaves)) empty

-- ---- point by point

-- a list leads to each point
pub leading : {w : ℕ} (f : Fitted) (points : List (Point w)) (place : ℕ) (p : Point w) → IsLed f points → slice_get points place ≡ Some p → (list : List ℕ) × LeadsTo f list p
leading f points place p (lists, led) there =
    let (list, here) = there_at lists place (omega (arith, slice_get_within points place p there, led.one_each)) in
    (list, led.each place p list there here)

-- the place of the point is passed
pub passed_one : {w : ℕ} (f : Fitted) (budget : ℕ) (old new : List (Point w)) (place count : ℕ) → Goes f budget old new place 0 count true → place < length old → length f.schema.labels ≤ count →
    ArePassed f old place → ArePassed f new (place + 1)
passed_one {w} f budget old new place count goes within all passed i p leaf below there =
    let (more, is) = goes.more in elim (cases_lt i place) [
      | inl before ↦ subst (λ (l : List (Point w)). IsTried f l p leaf) (sym is)
          (passed_more f old more place (omega (arith, within)) passed i p leaf before (ap (λ (l : List (Point w)). slice_get l i) (sym is) ∙ there))
      | inr past ↦
          let same : i ≡ place = omega (arith, past, below) in
          elim (cases_lt leaf count) [
            | inl small ↦ goes.tried refl p leaf (ap (slice_get new) (sym same) ∙ there) (omega arith) small
            | inr large ↦ tried_none f new p leaf (λ list n begun after more_begun. absurd (outside list n large more_begun))
          ]
    ]
  where
    outside : (list : List ℕ) (n : ℕ) → count ≤ leaf → IsBegun f (list ++ leaf ∷ []) n → ⊥
    outside list n large begun =
        let less = each_member (λ m. m < length f.schema.labels) (list ++ leaf ∷ []) begun.leaves_are leaf (mem_append_right leaf list (leaf ∷ []) (inl refl)) in
        omega (arith, less, large, all)

-- the furthest so far, and whether the point goes further
pub short_none : {w : ℕ} (f : Fitted) (points : List (Point w)) (p : Point w) → slice_get points 0 ≡ Some p → AreShort f points 0 0
short_none f points p there = record { best = p; there = there; most = λ i q below. absurd (omega (arith, below)); no_end = λ i q below. absurd (omega (arith, below)) }

pub short_one : {w : ℕ} (f : Fitted) (old new : List (Point w)) (place furthest next : ℕ) (p best : Point w) → AreMore old new → place < length old → AreShort f old place furthest →
    slice_get old place ≡ Some p → IsNoEnd f p → slice_get old next ≡ Some best → p.count ≤ best.count → ((q : Point w) → slice_get old furthest ≡ Some q → q.count ≤ best.count) → AreShort f new (place + 1) next
short_one {w} f old new place furthest next p best (more, is) within short there no_end at here before = record {
  best = best;
  there = ap (λ (l : List (Point w)). slice_get l next) is ∙ slice_get_append_left old more next best at;
  most = λ i q below found. by_place i q below found (λ before_it. let most = short.most i q before_it (back i q below found) in let less = before short.best short.there in omega (arith, most, less))
      (λ same. subst (λ (r : Point w). r.count ≤ best.count) same here);
  no_end = λ i q below found. by_place i q below found (λ before_it. short.no_end i q before_it (back i q below found)) (λ same. subst (IsNoEnd f) same no_end);
}
  where
    back : (i : ℕ) (q : Point w) → i < place + 1 → slice_get new i ≡ Some q → slice_get old i ≡ Some q
    back i q below found = sym (at_left old more i (omega (arith, below, within))) ∙ ap (λ (l : List (Point w)). slice_get l i) (sym is) ∙ found

    by_place : {P : Type 0} (i : ℕ) (q : Point w) → i < place + 1 → slice_get new i ≡ Some q → (i < place → P) → (p ≡ q → P) → P
    by_place i q below found less same = elim (cases_lt i place) [
      | inl before_it ↦ less before_it
      | inr past ↦ (let e : i ≡ place = omega (arith, past, below) in same (some_same p q (sym there ∙ ap (slice_get old) (sym e) ∙ back i q below found)))
    ]

pub found_all : {w : ℕ} (f : Fitted) (points : List (Point w)) (place furthest : ℕ) → length points ≤ place → ArePassed f points place → AreShort f points place furthest →
    ArePassed f points (length points) × AreShort f points (length points) furthest
found_all f points place furthest past passed short = (
  λ i p leaf below there. passed i p leaf (omega (arith, below, past)) there,
  record {
    best = short.best;
    there = short.there;
    most = λ i p below there. short.most i p (omega (arith, below, past)) there;
    no_end = λ i p below there. short.no_end i p (omega (arith, below, past)) there;
  },
)

-- of one point alone none was made from another
pub before_first : {w : ℕ} (points : List (Point w)) → length points ≡ 1 → AreBefore points 0 0
before_first points one i p some there = absurd (omega (arith, one, some, slice_get_within points i p there))

-- what was read at a place stands there
pub read_at : {A : Type 0} (xs : List A) (i : ℕ) (x : A) → i < length xs → x ≡ get_or xs i x → slice_get xs i ≡ Some x
read_at xs i x within is = slice_get-get_or xs i x within ∙ ap (λ y. Some y) (sym is)

-- ---- options that are not known yet

module _ {w : ℕ} (points : List (Point w)) (options old new : LeafSet w) (p like : Point w) (place : ℕ) (there : slice_get points place ≡ Some p) (is_like : AreLike p like)
    (changed : (k : ℕ) → has_leaf new k ≡ (not (has_leaf p.options k) && has_leaf old k)) where
  pub fresh_among : ((j : ℕ) → IsTrue (has_leaf old j) → IsTrue (has_leaf options j)) → (j : ℕ) → IsTrue (has_leaf new j) → IsTrue (has_leaf options j)
  fresh_among among j h = among j (and_parts (not (has_leaf p.options j)) (has_leaf old j) (sym (changed j) ∙ h)).1

  pub fresh_all : ((j : ℕ) → IsTrue (has_leaf options j) → IsTrue (has_leaf old j) ⊎ IsKnown points j like) → (j : ℕ) → IsTrue (has_leaf options j) → IsTrue (has_leaf new j) ⊎ IsKnown points j like
  fresh_all all j option = ⊎_elim (λ h. by_test (has_leaf p.options j) refl h) (λ k. inr k) (all j option)
    where
      by_test : (b : Bool) → has_leaf p.options j ≡ b → IsTrue (has_leaf old j) → IsTrue (has_leaf new j) ⊎ IsKnown points j like
      by_test true is h = inr (record { place = place; point = p; there = there; option = is; is_like = is_like })
      by_test false is h = inl (changed j ∙ ap (λ (b : Bool). not b && has_leaf old j) is ∙ h)

-- ---- one leaf is tried

-- with other options
known_as : {w : ℕ} (points : List (Point w)) (j : ℕ) (like q : Point w) → like.count ≡ q.count → like.done ≡ q.done → like.facts ≡ q.facts → IsKnown points j like → IsKnown points j q
known_as {w} points j like q count done facts k = record {
  place = k.place;
  point = k.point;
  there = k.there;
  option = k.option;
  is_like = record {
    count = k.is_like.count ∙ count;
    done = λ n. k.is_like.done n ∙ ap (λ (set : LeafSet w). has_leaf set n) done;
    facts = λ n. k.is_like.facts n ∙ ap (λ (set : LeafSet w). has_leaf set n) facts;
  };
}

module _ {w : ℕ} (f : Fitted) (budget : ℕ) (points : List (Point w)) (place leaf : ℕ) (p next : Point w) (led : IsLed f points) (before : AreBefore points place leaf)
    (there : slice_get points place ≡ Some p)
    (made : (list : List ℕ) → IsBegun f list p.count → IsAfter f list p → IsBegun f (list ++ leaf ∷ []) next.count × IsAfter f (list ++ leaf ∷ []) next)
    (takers fresh : LeafSet w) (takes : (j : ℕ) → IsTrue (has_leaf takers j) ↔ (IsTrue (has_leaf p.options j) × HasAt (MayFollow p.done leaf) f.options j))
    (among : (j : ℕ) → IsTrue (has_leaf fresh j) → IsTrue (has_leaf takers j))
    (all : (j : ℕ) → IsTrue (has_leaf takers j) → IsTrue (has_leaf fresh j) ⊎ IsKnown points j next) where
  -- all that it leads to is known
  pub goes_known : ((j : ℕ) → has_leaf fresh j ≡ false) → Goes f budget points points place leaf (leaf + 1) true
  goes_known none = goes_tried f budget points place leaf led before (λ r here.
      subst (λ (s : Point w). IsTried f points s leaf) (some_same p r (sym there ∙ here))
      (tried_from f points p leaf next (record { made = made }) (λ j option ready. ⊎_elim (λ h. absurd (true≢false (sym h ∙ none j))) (λ k. k) (all j ((takes j).1 (option, ready))))))

  -- and a point is made of the rest
  pub goes_made : (next.before ≡ place) × (next.leaf ≡ leaf) → length points < budget → (j : ℕ) × IsTrue (has_leaf fresh j) → (longer : List (Point w)) →
      longer ≡ points ++ (record next { options = fresh }) ∷ [] → Goes f budget points longer place leaf (leaf + 1) true
  goes_made (from, is) room some longer grown =
      subst (λ (l : List (Point w)). Goes f budget points l place leaf (leaf + 1) true) (sym grown)
      (subst (λ (n : ℕ). Goes f budget points (points ++ q ∷ []) place n (n + 1) true) is
      (goes_on f budget points place p q led (subst (λ (n : ℕ). AreBefore points place n) (sym is) before) there from room
      (record { made = subst (λ (n : ℕ). (list : List ℕ) → IsBegun f list p.count → IsAfter f list p → IsBegun f (list ++ n ∷ []) q.count × IsAfter f (list ++ n ∷ []) q) (sym is) made_so })
      (λ j h. subst (λ (n : ℕ). IsTrue (has_leaf p.options j) × HasAt (MayFollow p.done n) f.options j) (sym is) ((takes j).0 (among j h)))
      (λ j option ready. ⊎_elim (λ h. inl h) (λ k. inr (known_as points j next q refl refl refl k))
      (all j ((takes j).1 (option, subst (λ (n : ℕ). HasAt (MayFollow p.done n) f.options j) is ready))))
      some))
    where
      q : Point w
      q = record next { options = fresh }

      made_so : (list : List ℕ) → IsBegun f list p.count → IsAfter f list p → IsBegun f (list ++ leaf ∷ []) next.count × IsAfter f (list ++ leaf ∷ []) (record next { options = fresh })
      made_so list begun after = let (more, after_it) = made list begun after in (more, record { done = after_it.done; facts = after_it.facts })

-- the budget is spent at a leaf
pub goes_spent : {w : ℕ} (f : Fitted) (budget : ℕ) (old mid new : List (Point w)) (place leaf to : ℕ) → leaf < to → place < length old →
    Goes f budget old mid place 0 leaf true → Goes f budget mid new place leaf (leaf + 1) false → Goes f budget old new place 0 to false
goes_spent f budget old mid new place leaf to below inside one two =
    let both = goes_further f budget old mid new place 0 leaf false inside one two in record {
      more = both.more;
      led = both.led;
      before = before_later new place (leaf + 1) to (omega (arith, below)) both.before;
      tried = λ yes. absurd (true≢false (sym yes));
      within = λ yes. absurd (true≢false (sym yes));
      spent = both.spent;
    }

pub same_point : {w : ℕ} (f : Fitted) (points : List (Point w)) (place leaf : ℕ) (p q : Point w) → slice_get points place ≡ Some p → slice_get points place ≡ Some q → IsTried f points p leaf → IsTried f points q leaf
same_point {w} f points place leaf p q here there = subst (λ (r : Point w). IsTried f points r leaf) (some_same p q (sym here ∙ there))

-- what is told of a set's first member
pub none_of : {Q : Type 0} (r : Option ℕ) (b : Bool) → is_some r ≡ not b → b ≡ true → IfNone r Q → Q
none_of None b is empty q = q
none_of (Some n) b is empty q = absurd (true≢false (is ∙ ap not empty))

pub some_of : (P : ℕ → Type 0) (r : Option ℕ) (b : Bool) → is_some r ≡ not b → b ≡ false → IfSome r P → (n : ℕ) × P n
some_of P None b is full h = absurd (true≢false (sym (is ∙ ap not full)))
some_of P (Some n) b is full h = (n, h)

-- a point stays in its place
pub still_there : {w : ℕ} (old new : List (Point w)) (place : ℕ) (p : Point w) → AreMore old new → slice_get old place ≡ Some p → slice_get new place ≡ Some p
still_there {w} old grown place p (more, is) there = ap (λ (l : List (Point w)). slice_get l place) is ∙ slice_get_append_left old more place p there
