-- What is asked of the plans, one after another, and what is known of facts by their places.
use Rattle.std.proofs.Common.{◌≡◌, ◌<◌, ◌≤◌, ◌+◌, ◌*◌, ◌⊎◌, ◌↔◌, ◌==◌, ◌||◌, ◌&&◌, nat_lt, if◌then◌else◌, ℕ, Bool, true, false, IsTrue, List, [], ◌∷◌, ◌++◌, length, set, take, get_or, get_or-set_same, get_or-set_other, not, Some, None, slice_get, refl, sym, ap, ◌∙◌, subst, arith, inl, inr, zero, suc}
use Rattle.std.specs.Prelude.{slice_index}
use Rattle.std.specs.List.{list_any}
use Rattle.std.proofs.lemmas.Bool.{cases_lt, cases_eq, and_parts}
use Rattle.std.proofs.lemmas.Option.{slice_get_within, slice_get-get_or}
use Rattle.leaf_rows.specs.Leaves.{has_leaf}
use Rattle.leaf_rows.specs.declared.leaf_set.LeafSet.{LeafSet}
use Rattle.leaf_rows.specs.declared.TheConstants.{LEAF_WORDS}
use Rattle.leaf_rows.proofs.Members.{has_leaf-within}
use Rattle.flow_model.specs.declared.labels.Label.{Label}
use Rattle.flow_model.specs.declared.labels.Label.TheVariants.{Event, Test, Absent, Ins, Del}
use Rattle.flow_model.specs.Lists.{◌∈◌, Each, AreDistinct}
use Rattle.flow_model.specs.Process.{Process, leaves}
use Rattle.flow_model.specs.Facts.{State, state_with, Holds, after}
use Rattle.flow_model.specs.Folding.{IsFolded}
use Rattle.flow_model.specs.FoldedReady.{IsFoldedReady}
use Rattle.flow_model.specs.Resolution.{ChoiceOption}
use Rattle.flow_model.proofs.Lists.{each_member, mem-slice_get}
use Rattle.flow_model.proofs.MadeLists.{mem-map, some_same}
use Rattle.flow_fold_laws.proofs.FoldedOrdersByTwo.{same_folded_ready}
use Rattle.flow_plan.specs.Compilation.{AreShared}
use Rattle.flow_plan.specs.FoldRows.{AreFoldRows}
use Rattle.flow_plan.specs.Options.{option_of, options_of}
use Rattle.flow_plan.specs.Orders.{TellOf}
use Rattle.flow_plan.specs.Planned.{Planned, pairs_of}
use Rattle.flow_plan.specs.Sampled.{Sampled}
use Rattle.flow_plan.specs.Sided.{AreSidesOf, IsDoneIn}
use Rattle.flow_plan.specs.declared.fold_row.FoldRow.{FoldRow}
use Rattle.flow_plan.specs.declared.sides.Sides.{Sides}
use Rattle.flow_plan.proofs.Following.{sides_tell}
use Rattle.flow_residual.specs.Options.{HasAt}
use Rattle.flow_residual.specs.Telling.{AreServing, IsOrderedOption}
use Rattle.flow_residual.proofs.Starting.{serving_of}
use Rattle.flow_residual.proofs.OptionLemmas.{plan_at}
use Rattle.flow_trace.specs.Fronts.{Follows, Finishes}
use Rattle.flow_workflow.specs.Numbers.{IsKnown}
use Rattle.std.proofs.Math.ListN.{length-set}
use Rattle.std.proofs.lemmas.List.{take_more}
use Rattle.flow_trace.proofs.FrontLemmas.{plan_read}
use Rattle.flow_log.specs.Case.{fact_in, fact_of, fact_at, ArePlaces, AreFacts}
use Rattle.flow_log.specs.Search.{AreSides, MayFollow}

-- ---- sides

-- what choices tell of each plan
pub sides_of : {w : ℕ} (plans : List Sampled) (folds : List FoldRow) (done : LeafSet w) (wide none : LeafSet LEAF_WORDS) (sides : Sides) → w ≤ LEAF_WORDS →
    ((n : ℕ) → has_leaf wide n ≡ (nat_lt n (64 * LEAF_WORDS) && has_leaf done n)) → AreShared folds plans →
    ((q : Process) → AreFoldRows q folds → IsFolded q → AreDistinct (leaves q) → AreSidesOf q (λ n. IsTrue (has_leaf wide n)) (λ n. IsTrue (has_leaf none n)) sides) →
    AreSides plans done sides
sides_of {w} plans folds done wide none sides small is shared new s m ordered =
    let serves = each_member (AreServing folds) (options_of plans) (serving_of folds plans shared) (option_of s.plan) (mem-map (λ (t : Sampled). option_of t.plan) s plans m) in
    let are = new s.plan.process serves ordered.folded ordered.distinct in (
      sides_tell s.plan sides (has_leaf wide) (has_leaf none) are,
      λ n. (
        λ h. (and_parts (nat_lt n (64 * LEAF_WORDS)) (has_leaf done n) (sym (is n) ∙ (are.done n).0 h)).1,
        λ h. (are.done n).1 (is n ∙ (let less : n < 64 * LEAF_WORDS = omega (arith, has_leaf-within done n h, small) in grind (arith, h, less))),
      ),
    )

-- what is asked of a plan that was read, where it is ordered
pub told_at : {w : ℕ} (plans : List Sampled) (done : LeafSet w) (sides : Sides) (i : ℕ) (s : Sampled) (p : Planned) → AreSides plans done sides → i < length plans → s ≡ get_or plans i s → p ≡ s.plan →
    IsOrderedOption (option_of p) → TellOf p sides
told_at plans done sides i s p are within is same ordered =
    subst (λ (q : Planned). TellOf q sides) (sym same) (are s (plan_read plans i s within is) (subst (λ (q : Planned). IsOrderedOption (option_of q)) same ordered)).0

-- ---- options by their places

module _ {w : ℕ} (plans : List Sampled) (done : LeafSet w) (sides : Sides) (i : ℕ) (s : Sampled) (p : Planned) (are : AreSides plans done sides)
    (within : i < length plans) (is : s ≡ get_or plans i s) (same : p ≡ s.plan) (ordered : IsOrderedOption (option_of p)) where
  pub option_here : slice_get (options_of plans) i ≡ Some (option_of p)
  option_here = plan_at plans i s within is ∙ ap (λ (q : Planned). Some (option_of q)) (sym same)

  done_same : (n : ℕ) → IsDoneIn sides n ↔ IsTrue (has_leaf done n)
  done_same = (are s (plan_read plans i s within is) (subst (λ (q : Planned). IsOrderedOption (option_of q)) same ordered)).1

  -- what may come next by the sides may follow the done leaves
  pub ready_here : (leaf : ℕ) → IsFoldedReady p.process (pairs_of p.tokens) (IsDoneIn sides) leaf ↔ MayFollow done leaf (option_of p)
  ready_here leaf = (
    same_folded_ready p.process (pairs_of p.tokens) (IsDoneIn sides) (λ n. IsTrue (has_leaf done n)) leaf (λ n. (done_same n).0) (λ n. (done_same n).1),
    same_folded_ready p.process (pairs_of p.tokens) (λ n. IsTrue (has_leaf done n)) (IsDoneIn sides) leaf (λ n. (done_same n).1) (λ n. (done_same n).0),
  )

  pub done_list : (list : List ℕ) → ((n : ℕ) → IsTrue (has_leaf done n) ↔ (n ∈ list)) → (n : ℕ) → IsDoneIn sides n ↔ (n ∈ list)
  done_list list are n = (λ h. (are n).0 ((done_same n).0 h), λ m. (done_same n).1 ((are n).1 m))

-- an option at a place where it was read has P
pub at_place : (P : ChoiceOption → Type 0) (os : List ChoiceOption) (i : ℕ) (o : ChoiceOption) → slice_get os i ≡ Some o → HasAt P os i ↔ P o
at_place P os i o at = (λ (other, there, has). subst P (some_same other o (sym there ∙ at)) has, λ has. (o, at, has))

-- what is said of the plan that was read, said of the option at its place
module _ {w : ℕ} (plans : List Sampled) (done : LeafSet w) (sides : Sides) (i : ℕ) (s : Sampled) (p : Planned) (are : AreSides plans done sides)
    (within : i < length plans) (is : s ≡ get_or plans i s) (same : p ≡ s.plan) (ordered : IsOrderedOption (option_of p)) where
  pub ready_there : (leaf : ℕ) (b : Bool) → (IsTrue b ↔ IsFoldedReady p.process (pairs_of p.tokens) (IsDoneIn sides) leaf) → IsTrue b ↔ HasAt (MayFollow done leaf) (options_of plans) i
  ready_there leaf b says =
      let here = option_here plans done sides i s p are within is same ordered in
      let ready = ready_here plans done sides i s p are within is same ordered leaf in
      let at = at_place (MayFollow done leaf) (options_of plans) i (option_of p) here in
      (λ h. at.1 (ready.0 (says.0 h)), λ h. says.1 (ready.1 (at.0 h)))

  pub finished_there : (list : List ℕ) (b : Bool) → ((n : ℕ) → IsTrue (has_leaf done n) ↔ (n ∈ list)) → HasAt (Follows list) (options_of plans) i →
      (Follows list (option_of p) → ((n : ℕ) → IsDoneIn sides n ↔ (n ∈ list)) → IsTrue b ↔ Finishes list (option_of p)) → IsTrue b ↔ HasAt (Finishes list) (options_of plans) i
  finished_there list b done_are follows says =
      let here = option_here plans done sides i s p are within is same ordered in
      let run = (at_place (Follows list) (options_of plans) i (option_of p) here).0 follows in
      let told = says run (done_list plans done sides i s p are within is same ordered list done_are) in
      let at = at_place (Finishes list) (options_of plans) i (option_of p) here in
      (λ h. at.1 (told.0 h), λ h. told.1 (at.0 h))

-- the set has those of the options below the place that have P
abbrev pub AreAsked : {w : ℕ} → (ChoiceOption → Type 0) → List ChoiceOption → LeafSet w → ℕ → LeafSet w → Type 0
AreAsked P os options i found = (j : ℕ) → IsTrue (has_leaf found j) ↔ ((j < i) × (IsTrue (has_leaf options j) × HasAt P os j))

module _ {w : ℕ} (P : ChoiceOption → Type 0) (os : List ChoiceOption) (options found : LeafSet w) (i : ℕ) (so_far : AreAsked P os options i found) where
  -- one more place is asked
  pub one_asked : (new : LeafSet w) → IsTrue (has_leaf options i) → HasAt P os i → ((j : ℕ) → has_leaf new j ≡ (j == i || has_leaf found j)) → AreAsked P os options (i + 1) new
  one_asked new option has changed j = by_place (cases_eq j i)
    where
      taken : (a b : ℕ) (x : Bool) → a ≡ b → (a == b || x) ≡ true
      taken a b x e = grind (arith, e)

      kept : (a b : ℕ) (x : Bool) → ¬ (a ≡ b) → (a == b || x) ≡ x
      kept a b x e = grind (arith, e)

      by_place : (j ≡ i) ⊎ ¬ (j ≡ i) → IsTrue (has_leaf new j) ↔ ((j < i + 1) × (IsTrue (has_leaf options j) × HasAt P os j))
      by_place (inl e) = (
        λ h. (omega (arith, e), (subst (λ k. IsTrue (has_leaf options k)) (sym e) option, subst (HasAt P os) (sym e) has)),
        λ _. changed j ∙ taken j i (has_leaf found j) e,
      )
      by_place (inr apart) = (
        λ h. let (less, there) = (so_far j).0 (sym (kept j i (has_leaf found j) apart) ∙ sym (changed j) ∙ h) in (omega (arith, less), there),
        λ (less, there). changed j ∙ kept j i (has_leaf found j) apart ∙ (so_far j).1 (omega (arith, less, apart), there),
      )

  pub none_asked : ¬ (IsTrue (has_leaf options i) × HasAt P os i) → AreAsked P os options (i + 1) found
  none_asked not j = (
    λ h. let (less, there) = (so_far j).0 h in (omega (arith, less), there),
    λ (less, there). elim (cases_lt j i) [
      | inl before ↦ (so_far j).1 (before, there)
      | inr past ↦ (let e : j ≡ i = omega (arith, past, less) in absurd (not (subst (λ k. IsTrue (has_leaf options k) × HasAt P os k) e there)))
    ],
  )

  -- all places are asked
  pub all_asked : length os ≤ i → (j : ℕ) → IsTrue (has_leaf found j) ↔ (IsTrue (has_leaf options j) × HasAt P os j)
  all_asked past j = (
    λ h. ((so_far j).0 h).1,
    λ (option, (o, at, has)). (so_far j).1 ((let less = slice_get_within os j o at in omega (arith, past, less)), (option, (o, at, has))),
  )

-- the set has what may follow in those of the options below the place
abbrev pub HasNext : {w : ℕ} → List ChoiceOption → LeafSet w → LeafSet w → ℕ → LeafSet w → Type 0
HasNext {w} os options done i next = (j leaf : ℕ) (o : ChoiceOption) → j < i → IsTrue (has_leaf options j) → slice_get os j ≡ Some o → leaf < 64 * w → MayFollow done leaf o → IsTrue (has_leaf next leaf)

module _ {w : ℕ} (os : List ChoiceOption) (options done next : LeafSet w) (i : ℕ) (so_far : HasNext os options done i next) where
  pub next_more : (row new : LeafSet w) → ((k : ℕ) → has_leaf new k ≡ (has_leaf next k || has_leaf row k)) →
      ((leaf : ℕ) → leaf < 64 * w → HasAt (MayFollow done leaf) os i → IsTrue (has_leaf row leaf)) → HasNext os options done (i + 1) new
  next_more row new changed here j leaf o below option at small ready = elim (cases_lt j i) [
    | inl before ↦ changed leaf ∙ first (has_leaf next leaf) (has_leaf row leaf) (so_far j leaf o before option at small ready)
    | inr past ↦ (let e : i ≡ j = omega (arith, past, below) in
        changed leaf ∙ second (has_leaf next leaf) (has_leaf row leaf) (here leaf small (o, ap (slice_get os) e ∙ at, ready)))
  ]
    where
      first : (a b : Bool) → a ≡ true → (a || b) ≡ true
      first true b e = refl
      first false b e = absurd (cc)

      second : (a b : Bool) → b ≡ true → (a || b) ≡ true
      second true b e = refl
      second false b e = e

  pub next_same : ¬ (IsTrue (has_leaf options i)) → HasNext os options done (i + 1) next
  next_same not j leaf o below option at small ready = elim (cases_lt j i) [
    | inl before ↦ so_far j leaf o before option at small ready
    | inr past ↦ (let e : j ≡ i = omega (arith, past, below) in absurd (not (subst (λ k. IsTrue (has_leaf options k)) e option)))
  ]

-- a fact that holds at the start has a number below the count
pub held_small : (count : ℕ) (held read : List ℕ) (i : ℕ) → read ≡ held → Each (λ f. f < count) held → i < length read → get_or read i 0 < count
held_small count held read i is known within =
    each_member (λ f. f < count) held known (get_or read i 0) (subst (λ (l : List ℕ). get_or read i 0 ∈ l) is (mem-slice_get read i (get_or read i 0) (slice_get-get_or read i 0 within)))

-- ---- facts by their places

-- the fact of which a leaf speaks has a number below the count
pub fact_within : (events count : ℕ) (labels : List Label) → Each (IsKnown events count) labels → (n f : ℕ) → fact_at labels n ≡ Some f → f < count
fact_within events count [] known n f at = absurd (cc)
fact_within events count (Event e ∷ labels) known zero f at = absurd (cc)
fact_within events count (Test g ∷ labels) known zero f at = let is : g ≡ f = some_same g f at in subst (λ k. k < count) is known.0
fact_within events count (Absent g ∷ labels) known zero f at = let is : g ≡ f = some_same g f at in subst (λ k. k < count) is known.0
fact_within events count (Ins g ∷ labels) known zero f at = let is : g ≡ f = some_same g f at in subst (λ k. k < count) is known.0
fact_within events count (Del g ∷ labels) known zero f at = let is : g ≡ f = some_same g f at in subst (λ k. k < count) is known.0
fact_within events count (label ∷ labels) known (suc n) f at = fact_within events count labels known.1 n f at

module _ (count : ℕ) (labels : List Label) (places : List ℕ) (are : ArePlaces count labels places) where
  -- the same fact where the places are the same
  pub one_fact : (n m f g : ℕ) → fact_at labels n ≡ Some f → fact_at labels m ≡ Some g → slice_index places f ≡ slice_index places g → f ≡ g
  one_fact n m f g one other same =
      some_same f g (sym (are.told f (are.within n f one) (are.known n f one)) ∙ ap (fact_at labels) same ∙ are.told g (are.within m g other) (are.known m g other))

  module _ (label : Label) (n : ℕ) (at : slice_get labels n ≡ Some label) (fact place : ℕ) (in_label : fact_in label ≡ Some fact) (is : place ≡ slice_index places fact) where
    speaks : fact_at labels n ≡ Some fact
    speaks = ap fact_of at ∙ in_label

    -- at the place of its fact the set tells whether it holds
    pub told_place : (s : State) (set : ℕ → Bool) → AreFacts labels places s set → set place ≡ s fact
    told_place s set facts = ap set is ∙ facts n fact speaks

    -- one fact is said anew
    pub said_anew : (s : State) (holds : Bool) (old new : ℕ → Bool) → AreFacts labels places s old → ((k : ℕ) → new k ≡ (if k == place then holds else old k)) →
        AreFacts labels places (λ g. if g == fact then holds else s g) new
    said_anew s holds old new facts changed m g other = by_cases (cases_eq g fact)
      where
        there : ℕ
        there = slice_index places g

        chosen : (a b c d : ℕ) (x y z : Bool) → a ≡ b → c ≡ d → (if a == b then x else y) ≡ (if c == d then x else z)
        chosen a b c d x y z one two = grind (arith, one, two)

        not_chosen : (a b c d : ℕ) (x y z : Bool) → ¬ (a ≡ b) → ¬ (c ≡ d) → y ≡ z → (if a == b then x else y) ≡ (if c == d then x else z)
        not_chosen a b c d x y z one two same = grind (arith, one, two, same)

        by_cases : (g ≡ fact) ⊎ ¬ (g ≡ fact) → new there ≡ (if g == fact then holds else s g)
        by_cases (inl e) = let same : there ≡ place = ap (slice_index places) e ∙ sym is in changed there ∙ chosen there place g fact holds (old there) (s g) same e
        by_cases (inr apart) = changed there ∙ not_chosen there place g fact holds (old there) (s g) (λ e. apart (one_fact m n g fact other speaks (e ∙ is))) apart (facts m g other)

-- whether the label holds, by what the set has at its place
pub test_holds : (label : Label) (f fact : ℕ) (b : Bool) (s : State) → label ≡ Test f → fact_in label ≡ Some fact → b ≡ s fact → IsTrue b ↔ Holds s label
test_holds label f fact b s is in_label same =
    let e : f ≡ fact = some_same f fact (sym (ap fact_in is) ∙ in_label) in
    subst (λ (l : Label). IsTrue b ↔ Holds s l) (sym is) (λ h. ap s e ∙ sym same ∙ h, λ h. same ∙ sym (ap s e) ∙ h)

pub absence_holds : (label : Label) (f fact : ℕ) (b : Bool) (s : State) → label ≡ Absent f → fact_in label ≡ Some fact → b ≡ s fact → IsTrue (not b) ↔ Holds s label
absence_holds label f fact b s is in_label same =
    let e : f ≡ fact = some_same f fact (sym (ap fact_in is) ∙ in_label) in
    subst (λ (l : Label). IsTrue (not b) ↔ Holds s l) (sym is) (λ h. ap s e ∙ sym same ∙ turned b h, λ h. ap not (same ∙ sym (ap s e) ∙ h))
  where
    turned : (x : Bool) → not x ≡ true → x ≡ false
    turned true h = absurd (cc)
    turned false h = refl

-- the state after an update
pub after_insertion : (label : Label) (f fact : ℕ) (s : State) → label ≡ Ins f → fact_in label ≡ Some fact → (λ (g : ℕ). if g == fact then true else s g) ≡ after s label
after_insertion label f fact s is in_label =
    let e : fact ≡ f = some_same fact f (sym in_label ∙ ap fact_in is) in
    ap (λ (k : ℕ). λ (g : ℕ). if g == k then true else s g) e ∙ ap (after s) (sym is)

pub after_deletion : (label : Label) (f fact : ℕ) (s : State) → label ≡ Del f → fact_in label ≡ Some fact → (λ (g : ℕ). if g == fact then false else s g) ≡ after s label
after_deletion label f fact s is in_label =
    let e : fact ≡ f = some_same fact f (sym in_label ∙ ap fact_in is) in
    ap (λ (k : ℕ). λ (g : ℕ). if g == k then false else s g) e ∙ ap (after s) (sym is)

-- a label with no fact always holds, and changes nothing
pub silent_holds : (label : Label) (s : State) → fact_in label ≡ None → Holds s label × (s ≡ after s label)
silent_holds (Event e) s none = (tt, refl)
silent_holds (Test f) s none = absurd (cc)
silent_holds (Absent f) s none = absurd (cc)
silent_holds (Ins f) s none = absurd (cc)
silent_holds (Del f) s none = absurd (cc)

-- ---- the places are found leaf by leaf

-- the places of the facts of which the leaves below a number speak
pub record ArePlacesBelow (count : ℕ) (labels : List Label) (places : List ℕ) (i : ℕ) : Type 0 where
  pub one_each : length places ≡ count
  pub told : (f : ℕ) → f < count → slice_index places f < length labels → fact_at labels (slice_index places f) ≡ Some f
  pub known : (n f : ℕ) → n < i → fact_at labels n ≡ Some f → slice_index places f < length labels

module _ (count : ℕ) (labels : List Label) (places : List ℕ) (i : ℕ) (are : ArePlacesBelow count labels places i) (within : i < length labels) where
  pub no_place : fact_at labels i ≡ None → ArePlacesBelow count labels places (i + 1)
  no_place none = record {
    one_each = are.one_each;
    told = are.told;
    known = λ n f less at. elim (cases_lt n i) [
      | inl before ↦ are.known n f before at
      | inr past ↦ (let e : n ≡ i = omega (arith, past, less) in absurd (none_some f (sym none ∙ ap (fact_at labels) (sym e) ∙ at)))
    ];
  }
    where
      none_some : (f : ℕ) → None ≡ Some f → ⊥
      none_some f e = cc

  pub one_place : (fact : ℕ) → fact_at labels i ≡ Some fact → fact < count → ArePlacesBelow count labels (set places fact i) (i + 1)
  one_place fact at small = record {
    one_each = length-set places fact i ∙ are.one_each;
    told = λ f less here. by_told f less (cases_eq f fact) here;
    known = λ n f less there. by_known n f less there (cases_eq f fact);
  }
    where
      here_is : slice_index (set places fact i) fact ≡ i
      here_is = get_or-set_same places fact i 0 (omega (arith, small, are.one_each))

      other_is : (f : ℕ) → ¬ (f ≡ fact) → slice_index (set places fact i) f ≡ slice_index places f
      other_is f apart = get_or-set_other places fact f i 0 apart

      by_told : (f : ℕ) → f < count → (f ≡ fact) ⊎ ¬ (f ≡ fact) → slice_index (set places fact i) f < length labels → fact_at labels (slice_index (set places fact i) f) ≡ Some f
      by_told f less (inl e) here = ap (fact_at labels) (ap (slice_index (set places fact i)) e ∙ here_is) ∙ at ∙ ap (λ (k : ℕ). Some k) (sym e)
      by_told f less (inr apart) here = ap (fact_at labels) (other_is f apart) ∙ are.told f less (subst (λ k. k < length labels) (other_is f apart) here)

      by_known : (n f : ℕ) → n < i + 1 → fact_at labels n ≡ Some f → (f ≡ fact) ⊎ ¬ (f ≡ fact) → slice_index (set places fact i) f < length labels
      by_known n f less there (inl e) = subst (λ k. k < length labels) (sym (ap (slice_index (set places fact i)) e ∙ here_is)) within
      by_known n f less there (inr apart) = subst (λ k. k < length labels) (sym (other_is f apart)) (elim (cases_lt n i) [
        | inl before ↦ are.known n f before there
        | inr past ↦ (let e : n ≡ i = omega (arith, past, less) in absurd (apart (some_same f fact (sym there ∙ ap (fact_at labels) e ∙ at))))
      ])

pub all_places : (events count : ℕ) (labels : List Label) (places : List ℕ) (i : ℕ) → Each (IsKnown events count) labels → length labels ≤ i → ArePlacesBelow count labels places i → ArePlaces count labels places
all_places events count labels places i known past are = record {
  one_each = are.one_each;
  within = λ n f at. fact_within events count labels known n f at;
  told = are.told;
  known = λ n f at. are.known n f (let less : n < length labels = speaks_within labels n f at in omega (arith, less, past)) at;
}
  where
    speaks_within : (labels : List Label) (n f : ℕ) → fact_at labels n ≡ Some f → n < length labels
    speaks_within [] n f at = absurd (cc)
    speaks_within (label ∷ labels) zero f at = omega arith
    speaks_within (label ∷ labels) (suc n) f at = let less = speaks_within labels n f at in omega (arith, less)

-- ---- the facts of the start, one by one

module _ (count : ℕ) (labels : List Label) (places : List ℕ) (are : ArePlaces count labels places) (held : List ℕ) (i : ℕ) (within : i < length held) where
  state_more : (g : ℕ) → state_with (take (i + 1) held) g ≡ (state_with (take i held) g || get_or held i 0 == g)
  state_more g = ap (list_any (λ (f : ℕ). f == g)) (take_more held i 0 within) ∙ any_more (λ (f : ℕ). f == g) (take i held) (get_or held i 0)
    where
      any_more : (p : ℕ → Bool) (xs : List ℕ) (x : ℕ) → list_any p (xs ++ x ∷ []) ≡ (list_any p xs || p x)
      any_more p [] x = cases (p x)
        where
          cases : (b : Bool) → (b || false) ≡ (false || b)
          cases true = refl
          cases false = refl
      any_more p (y ∷ xs) x = ap (λ (b : Bool). p y || b) (any_more p xs x) ∙ moved (p y) (list_any p xs) (p x)
        where
          moved : (a b c : Bool) → (a || (b || c)) ≡ ((a || b) || c)
          moved true b c = refl
          moved false b c = refl

  module _ (old : ℕ → Bool) (so_far : AreFacts labels places (state_with (take i held)) old) where
    -- no leaf speaks of the fact
    pub held_unsaid : length labels ≤ slice_index places (get_or held i 0) → AreFacts labels places (state_with (take (i + 1) held)) old
    held_unsaid past n f at =
        let less = are.known n f at in
        let apart : ¬ (get_or held i 0 ≡ f) = λ e. (let same = ap (slice_index places) e in omega (arith, past, less, same)) in
        so_far n f at ∙ sym (state_more f ∙ unsaid (state_with (take i held) f) (get_or held i 0) f apart)
      where
        unsaid : (b : Bool) (x y : ℕ) → ¬ (x ≡ y) → (b || x == y) ≡ b
        unsaid b x y apart = grind (arith, apart)

    pub held_said : (new : ℕ → Bool) → slice_index places (get_or held i 0) < length labels → get_or held i 0 < count →
        ((k : ℕ) → new k ≡ (k == slice_index places (get_or held i 0) || old k)) → AreFacts labels places (state_with (take (i + 1) held)) new
    held_said new less small changed n f at =
        changed (slice_index places f) ∙ said (cases_eq (get_or held i 0) f) ∙ sym (state_more f)
      where
        put : (a b c d : ℕ) (x y : Bool) → a ≡ b → c ≡ d → (a == b || x) ≡ (y || c == d)
        put a b c d x y one two = grind (arith, one, two)

        kept : (a b c d : ℕ) (x y : Bool) → ¬ (a ≡ b) → ¬ (c ≡ d) → x ≡ y → (a == b || x) ≡ (y || c == d)
        kept a b c d x y one two same = grind (arith, one, two, same)

        said : (get_or held i 0 ≡ f) ⊎ ¬ (get_or held i 0 ≡ f) → (slice_index places f == slice_index places (get_or held i 0) || old (slice_index places f)) ≡ (state_with (take i held) f || get_or held i 0 == f)
        said (inl e) = put (slice_index places f) (slice_index places (get_or held i 0)) (get_or held i 0) f (old (slice_index places f)) (state_with (take i held) f) (ap (slice_index places) (sym e)) e
        said (inr apart) = kept (slice_index places f) (slice_index places (get_or held i 0)) (get_or held i 0) f (old (slice_index places f)) (state_with (take i held) f)
            (λ e. apart (some_same (get_or held i 0) f (sym (are.told (get_or held i 0) small less) ∙ ap (fact_at labels) (sym e) ∙ are.told f (are.within n f at) (are.known n f at)))) apart (so_far n f at)
