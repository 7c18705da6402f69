-- Goals that are built of the pieces of a layout, with their leaves and facts by numbers, and the workflows of them.
use Rattle.std.proofs.Common.{◌≡◌, ℕ, Some, slice_get, ◌+◌, ◌≤◌, Bool, true, false, cond, List, [], ◌∷◌, ◌++◌, ◌⊎◌, fold, length, refl, sym, ap, ◌∙◌, subst, inl, inr, ⊎_elim, arith, ◌<◌, get_or, Result, Ok, Err, IfOk, OnOk, Bor, zero, suc, ◌^◌, map}
use Rattle.std.specs.Prelude.{not}
use Rattle.std.specs.List.{list_any, position_or_len, flat_map}
use Rattle.std.proofs.lemmas.List.{length_push, append-nil, append_assoc, length-append}
use Rattle.std.specs.Str.{bytes_eq}
use Rattle.std.specs.Cmp.Lexicographic.{bytes_decides}
use Rattle.std.proofs.lemmas.List.Sums.{fold-append}
use Rattle.flow_model.specs.Lists.{◌∈◌, AreDistinct, Each, numbers_from}
use Rattle.flow_model.specs.declared.labels.Label.TheVariants.{Event, Test, Absent, Ins, Del}
use Rattle.flow_model.specs.Process.{Process, Empty, Task, Isolated, IsNumbered, leaves}
use Rattle.flow_facts.specs.Atom.{Atom, atom_eq}
use Rattle.flow_facts.specs.Same.{atom_eq-Decides}
use Rattle.flow_model.specs.declared.operators.Operator.{Operator}
use Rattle.flow_goal.specs.Goal.{together}
use Rattle.flow_workflow.specs.Numbered.{IsAdded}
use Rattle.std.proofs.lemmas.Option.{slice_get-get_or}
use Rattle.flow_workflow.proofs.FirstPlaces.{place_in, within}
use Rattle.flow_expand.specs.Numbers.{with_fact, fact_number, facts_in, labels_of, leaf_count, numbered, firsts, declared_facts, facts_of, labelled_of, notes_of}
use Rattle.flow_model.specs.declared.labels.Deed.{Deed}
use Rattle.flow_expand.specs.declared.leaves.Leaves.{Leaves}
use Rattle.flow_expand.specs.Expansion.{Expansion, nothing, happens, holds, lacks, adds, takes, in_turn, at_once, one_of, alone, ends_in}
use Rattle.flow_expand.specs.Layout.{paired, fact_leaf, label_of, IsPlaced, placed_nothing, placed_event, placed_fact, placed_pair, placed_alone}
use Rattle.flow_expand.specs.Leaves.{HasRoom, IsBuilt, IsBuildable, IsBuiltAt}
use Rattle.flow_expand.specs.declared.layout.Piece.{Piece}
use Rattle.flow_expand.specs.declared.layout.Piece.TheVariants as piece
use Rattle.flow_model.proofs.Lists.{mem_append_left, mem_append_right, mem-slice_get, each-append}
use Rattle.flow_expand.proofs.Members.{any_member, member_any}
use Rattle.flow_expand.proofs.LayLemmas.{IsFactLeaf, fact_kind, ArePaired, pair_kind, placed_below, goal_of}
use Rattle.flow_model.specs.declared.limits.TheConstants.{MOST_LEAVES}
use Rattle.flow_model.specs.declared.labels.Note.{Note}
use Rattle.flow_model.specs.Constraint.{Constraint}
use Rattle.flow_goal.specs.Repeats.{HoldsNoneTwice}
use Rattle.flow_goal.proofs.Numbers.{numbers_from-+}
use Rattle.flow_workflow.specs.Numbers.{IsKnown}
use Rattle.flow_workflow.specs.Definition.{Definition, IsWorkflow}
use Rattle.flow_form.specs.Script.{Said}
use Rattle.flow_form.specs.Names.{event_names, IsClosed, names_in_rule, names_in_rules}
use Rattle.flow_form.specs.RuleForm.{RuleShape, rule_shapes}
use Rattle.flow_expand.specs.declared.numbered_goal.NumberedGoal.{NumberedGoal}
use Rattle.flow_expand.specs.Refusals.{IsMeasured}
use Rattle.flow_expand.specs.NumberedGoal.{IsNumberedGoal}
use Rattle.flow_expand.specs.Constraints.{constraint_of}
use Rattle.flow_expand.specs.Workflows.{definition_of, IsExpanded}
use Rattle.flow_model.specs.declared.labels.Deed.TheVariants as deed
use Rattle.flow_expand.proofs.Declarations.{distinct_events, facts_few, events_few, events_noted, names_in_all}

-- one more fact was there, or goes to the end
with_cases : (facts : List Atom) (a : Atom) → ((a ∈ facts) × (with_fact facts a ≡ facts)) ⊎ (¬ (a ∈ facts) × (with_fact facts a ≡ facts ++ a ∷ []))
with_cases facts a = go (list_any (atom_eq a) facts) refl
  where
    go : (t : Bool) → list_any (atom_eq a) facts ≡ t → ((a ∈ facts) × (with_fact facts a ≡ facts)) ⊎ (¬ (a ∈ facts) × (with_fact facts a ≡ facts ++ a ∷ []))
    go true e = inl (any_member atom_eq atom_eq-Decides a facts e, ap (λ t. cond t facts (facts ++ a ∷ [])) e)
    go false e = inr ((λ m. let f : true ≡ false = sym (member_any atom_eq atom_eq-Decides a facts m) ∙ e in absurd (cc)), ap (λ t. cond t facts (facts ++ a ∷ [])) e)

pub added_with : (facts : List Atom) (a : Atom) (new : List Atom) → IsAdded facts a new → new ≡ with_fact facts a
added_with facts a new h = ⊎_elim (λ p. h.there p.0 ∙ sym p.1) (λ p. h.missing p.0 ∙ sym p.1) (with_cases facts a)

pub number_at : (facts : List Atom) (a : Atom) (n : ℕ) → AreDistinct facts → slice_get facts n ≡ Some a → n ≡ fact_number facts a
number_at facts a n distinct at = sym (place_in atom_eq atom_eq-Decides facts n a distinct at)

-- members

with_there : (facts : List Atom) (a : Atom) → a ∈ with_fact facts a
with_there facts a = ⊎_elim (λ h. subst (λ l. a ∈ l) (sym h.1) h.0) (λ h. subst (λ l. a ∈ l) (sym h.1) (mem_append_right a facts (a ∷ []) (inl refl))) (with_cases facts a)

with_stays : (facts : List Atom) (a x : Atom) → x ∈ facts → x ∈ with_fact facts a
with_stays facts a x m = ⊎_elim (λ h. subst (λ l. x ∈ l) (sym h.1) m) (λ h. subst (λ l. x ∈ l) (sym h.1) (mem_append_left x facts (a ∷ []) m)) (with_cases facts a)

-- a fact that is there stays
pub fact_stays : (facts more : List Atom) (x : Atom) → x ∈ facts → x ∈ fold with_fact facts more
fact_stays facts [] x m = m
fact_stays facts (a ∷ more) x m = fact_stays (with_fact facts a) more x (with_stays facts a x m)

-- each fact that is put in is there
pub fact_there : (facts more : List Atom) (x : Atom) → x ∈ more → x ∈ fold with_fact facts more
fact_there facts [] x m = absurd m
fact_there facts (a ∷ more) x (inl e) = fact_stays (with_fact facts a) more x (subst (λ z. z ∈ with_fact facts a) (sym e) (with_there facts a))
fact_there facts (a ∷ more) x (inr m) = fact_there (with_fact facts a) more x m

-- numbers

number_left : (x : Atom) (facts rest : List Atom) → x ∈ facts → fact_number (facts ++ rest) x ≡ fact_number facts x
number_left x [] rest m = absurd m
number_left x (y ∷ facts) rest m = go (atom_eq x y) refl (number_left x facts rest) m
  where
    head : (xs : List Atom) (t : Bool) → atom_eq x y ≡ t → position_or_len (atom_eq x) (y ∷ xs) ≡ cond (not t) (1 + position_or_len (atom_eq x) xs) 0
    head xs t e = ap (λ v. cond (not v) (1 + position_or_len (atom_eq x) xs) 0) e

    go : (t : Bool) → atom_eq x y ≡ t → (x ∈ facts → fact_number (facts ++ rest) x ≡ fact_number facts x) → (x ≡ y) ⊎ (x ∈ facts) →
        fact_number ((y ∷ facts) ++ rest) x ≡ fact_number (y ∷ facts) x
    go true e same h = head (facts ++ rest) true e ∙ sym (head facts true e)
    go false e same (inl h) = let f : true ≡ false = sym ((atom_eq-Decides x y).1 h) ∙ e in absurd (cc)
    go false e same (inr h) = head (facts ++ rest) false e ∙ ap (λ n. 1 + n) (same h) ∙ sym (head facts false e)

number_with : (facts : List Atom) (a x : Atom) → x ∈ facts → fact_number (with_fact facts a) x ≡ fact_number facts x
number_with facts a x m = ⊎_elim (λ h. ap (λ l. fact_number l x) h.1) (λ h. ap (λ l. fact_number l x) h.1 ∙ number_left x facts (a ∷ []) m) (with_cases facts a)

-- a fact keeps its number
pub number_kept : (facts more : List Atom) (x : Atom) → x ∈ facts → fact_number (fold with_fact facts more) x ≡ fact_number facts x
number_kept facts [] x m = refl
number_kept facts (a ∷ more) x m = number_kept (with_fact facts a) more x (with_stays facts a x m) ∙ number_with facts a x m

-- how many

length_with : (facts : List Atom) (a : Atom) → (length facts ≤ length (with_fact facts a)) × (length (with_fact facts a) ≤ length facts + 1)
length_with facts a =
    ⊎_elim (λ h. let e = ap length h.1 in (omega (arith, e), omega (arith, e))) (λ h. let e = ap length h.1 ∙ length_push facts a in (omega (arith, e), omega (arith, e))) (with_cases facts a)

-- facts are put in, and no more than there are
pub length_fold : (facts more : List Atom) → (length facts ≤ length (fold with_fact facts more)) × (length (fold with_fact facts more) ≤ length facts + length more)
length_fold facts [] = (omega arith, omega arith)
length_fold facts (a ∷ more) =
    let one = length_with facts a in
    let rest = length_fold (with_fact facts a) more in
    (omega (arith, one.0, rest.0), omega (arith, one.1, rest.1))

-- counts

pub labels_counted : (events : List (List ℕ)) (facts : List Atom) (e : Expansion) → length (labels_of events facts e) ≡ leaf_count e
labels_counted events facts (in_turn a b) = omega (arith, length-append (labels_of events facts a) (labels_of events facts b), labels_counted events facts a, labels_counted events facts b)
labels_counted events facts (at_once a b) = omega (arith, length-append (labels_of events facts a) (labels_of events facts b), labels_counted events facts a, labels_counted events facts b)
labels_counted events facts (one_of a b) = omega (arith, length-append (labels_of events facts a) (labels_of events facts b), labels_counted events facts a, labels_counted events facts b)
labels_counted events facts (alone a) = labels_counted events facts a
labels_counted events facts e = refl

pub facts_counted : (e : Expansion) → length (facts_in e) ≤ leaf_count e
facts_counted (in_turn a b) = omega (arith, length-append (facts_in a) (facts_in b), facts_counted a, facts_counted b)
facts_counted (at_once a b) = omega (arith, length-append (facts_in a) (facts_in b), facts_counted a, facts_counted b)
facts_counted (one_of a b) = omega (arith, length-append (facts_in a) (facts_in b), facts_counted a, facts_counted b)
facts_counted (alone a) = facts_counted a
facts_counted e = omega arith

pub leaves_are_ends : (e : Expansion) → leaf_count e ≤ ends_in e
leaves_are_ends (in_turn a b) = omega (arith, leaves_are_ends a, leaves_are_ends b)
leaves_are_ends (at_once a b) = omega (arith, leaves_are_ends a, leaves_are_ends b)
leaves_are_ends (one_of a b) = omega (arith, leaves_are_ends a, leaves_are_ends b)
leaves_are_ends (alone a) = leaves_are_ends a
leaves_are_ends e = omega arith

-- labels

-- they stay as more facts are put in
abbrev AreKept : List (List ℕ) → List Atom → List Atom → Expansion → Type 0
AreKept events facts more e = ((x : Atom) → x ∈ facts_in e → x ∈ facts) → labels_of events (fold with_fact facts more) e ≡ labels_of events facts e

both_kept : (events : List (List ℕ)) (facts more : List Atom) (a b : Expansion) → AreKept events facts more a → AreKept events facts more b → ((x : Atom) → x ∈ (facts_in a ++ facts_in b) → x ∈ facts) →
    labels_of events (fold with_fact facts more) a ++ labels_of events (fold with_fact facts more) b ≡ labels_of events facts a ++ labels_of events facts b
both_kept events facts more a b one two all = λ i. one (λ x m. all x (mem_append_left x (facts_in a) (facts_in b) m)) i ++ two (λ x m. all x (mem_append_right x (facts_in a) (facts_in b) m)) i

labels_kept : (events : List (List ℕ)) (facts more : List Atom) (e : Expansion) → AreKept events facts more e
labels_kept events facts more (holds a) all = ap (λ k. Test k ∷ []) (number_kept facts more a (all a (inl refl)))
labels_kept events facts more (lacks a) all = ap (λ k. Absent k ∷ []) (number_kept facts more a (all a (inl refl)))
labels_kept events facts more (adds a) all = ap (λ k. Ins k ∷ []) (number_kept facts more a (all a (inl refl)))
labels_kept events facts more (takes a) all = ap (λ k. Del k ∷ []) (number_kept facts more a (all a (inl refl)))
labels_kept events facts more (in_turn a b) all = both_kept events facts more a b (labels_kept events facts more a) (labels_kept events facts more b) all
labels_kept events facts more (at_once a b) all = both_kept events facts more a b (labels_kept events facts more a) (labels_kept events facts more b) all
labels_kept events facts more (one_of a b) all = both_kept events facts more a b (labels_kept events facts more a) (labels_kept events facts more b) all
labels_kept events facts more (alone a) all = labels_kept events facts more a all
labels_kept events facts more e all = refl

-- what is built

pub built_as : (events : List (List ℕ)) (e f : Expansion) (old new : Leaves) (goal : Process) → e ≡ f → IsBuilt events f old new goal → IsBuilt events e old new goal
built_as events e f old new goal same h = subst (λ g. IsBuilt events g old new goal) (sym same) h

pub built_event : (events : List (List ℕ)) (n : List ℕ) (k : ℕ) (old new : Leaves) (goal : Process) → AreDistinct events → slice_get events k ≡ Some n →
    new.facts ≡ old.facts → new.labels.items ≡ old.labels.items ++ Event k ∷ [] → goal ≡ Task (length old.labels.items) → IsBuilt events (happens n) old new goal
built_event events n k old new goal distinct at same grown is = record {
  process = is;
  facts = same;
  labels = grown ∙ ap (λ m. old.labels.items ++ Event m ∷ []) (sym (place_in bytes_eq bytes_decides events k n distinct at));
}

-- a leaf with a fact
pub built_fact : (events : List (List ℕ)) (d : Deed) (a : Atom) (number : ℕ) (old new : Leaves) (keys : List Atom) (goal : Process) →
    keys ≡ with_fact old.facts a → number ≡ fact_number keys a → new.facts ≡ keys →
    new.labels.items ≡ old.labels.items ++ label_of d number ∷ [] → goal ≡ Task (length old.labels.items) → IsBuilt events (fact_leaf d a) old new goal
built_fact events d a number old new keys goal put is same grown at = record {
  process = at ∙ sym (kind.task (length old.labels.items) a);
  facts = same ∙ put ∙ sym (ap (fold with_fact old.facts) (kind.facts a));
  labels = grown ∙ ap (λ k. old.labels.items ++ label_of d k ∷ []) (is ∙ ap (λ l. fact_number l a) (sym same)) ∙ sym (ap (λ l. old.labels.items ++ l) (kind.labels events new.facts a));
}
  where
    kind : IsFactLeaf d
    kind = fact_kind d

-- what a goal that is built leaves for the next one

pub labels_after : (events : List (List ℕ)) (e : Expansion) (old new : Leaves) (goal : Process) → IsBuilt events e old new goal →
    length new.labels.items ≡ length old.labels.items + leaf_count e
labels_after events e old new goal h =
    ap length h.labels ∙ length-append old.labels.items (labels_of events new.facts e) ∙ ap (λ n. length old.labels.items + n) (labels_counted events new.facts e)

pub facts_after : (events : List (List ℕ)) (e : Expansion) (old new : Leaves) (goal : Process) → IsBuilt events e old new goal →
    length new.facts ≤ length old.facts + leaf_count e
facts_after events e old new goal h = omega (arith, ap length h.facts, (length_fold old.facts (facts_in e)).1, facts_counted e)

pub room_before : (leaves : Leaves) (first second : ℕ) → HasRoom leaves (first + second) → HasRoom leaves first
room_before leaves first second room = record { labels = omega (arith, room.labels); facts = omega (arith, room.facts) }

pub room_after : (events : List (List ℕ)) (e : Expansion) (count : ℕ) (old new : Leaves) (goal : Process) → IsBuilt events e old new goal →
    HasRoom old (leaf_count e + count) → HasRoom new count
room_after events e count old new goal h room = record {
  labels = omega (arith, room.labels, labels_after events e old new goal h);
  facts = omega (arith, room.facts, facts_after events e old new goal h);
}

-- two goals together

module _ (events : List (List ℕ)) (a b : Expansion) (old middle new : Leaves) (left right : Process) (first : IsBuilt events a old middle left) (second : IsBuilt events b middle new right) where
  both_facts : new.facts ≡ fold with_fact old.facts (facts_in a ++ facts_in b)
  both_facts = second.facts ∙ ap (λ l. fold with_fact l (facts_in b)) first.facts ∙ sym (fold-append with_fact old.facts (facts_in a) (facts_in b))

  labels_stay : labels_of events middle.facts a ≡ labels_of events new.facts a
  labels_stay =
      sym (ap (λ l. labels_of events l a) second.facts
      ∙ labels_kept events middle.facts (facts_in b) a (λ x m. subst (λ l. x ∈ l) (sym first.facts) (fact_there old.facts (facts_in a) x m)))

  both_labels : new.labels.items ≡ old.labels.items ++ (labels_of events new.facts a ++ labels_of events new.facts b)
  both_labels =
      second.labels ∙ ap (λ l. l ++ labels_of events new.facts b) (first.labels ∙ ap (λ l. old.labels.items ++ l) labels_stay)
      ∙ append_assoc old.labels.items (labels_of events new.facts a) (labels_of events new.facts b)

  both_numbered : right ≡ numbered (length old.labels.items + leaf_count a) b
  both_numbered = second.process ∙ ap (λ n. numbered n b) (labels_after events a old middle left first)

  pub built_both : (by : Operator) (whole : Process) → whole ≡ together by left right → IsBuilt events (paired by a b) old new whole
  built_both by whole is = record {
    process = is ∙ (λ i. together by (first.process i) (both_numbered i)) ∙ sym (kind.numbers (length old.labels.items));
    facts = both_facts ∙ sym (ap (fold with_fact old.facts) kind.facts);
    labels = both_labels ∙ sym (ap (λ l. old.labels.items ++ l) (kind.labels events new.facts));
  }
    where
      kind : ArePaired by a b
      kind = pair_kind by a b

-- where both outcomes of a call that went well are known
pub ok_and : {T E : Type 0} (r : Result T E) (P : T → Type 0) (Q : Type 0) (R : T → Type 0) → ((x : T) → P x → Q → R x) → IfOk r P → OnOk r Q → IfOk r R
ok_and (Ok x) P Q R f h k = f x h k
ok_and (Err e) P Q R f h k = h

module _ (layout : List Piece) (i : ℕ) where
  pub piece_at : (leaves : Leaves) (found p : Piece) → IsBuildable layout i leaves → found ≡ get_or layout i found → found ≡ p → slice_get layout i ≡ Some p
  piece_at leaves found p h is same = slice_get-get_or layout i found (placed_below layout h.events h.expansion i h.placed) ∙ ap Some (sym is ∙ same)

  -- two goals together

  -- both lie below the piece, and the first is to be built
  pub buildable_first : (by : Operator) (j k : ℕ) (leaves : Leaves) → IsBuildable layout i leaves → slice_get layout i ≡ Some (piece.Pair by j k) → (j < i) × (k < i) × IsBuildable layout j leaves
  buildable_first by j k leaves h at =
      let (a, b, is, l, m, (x, y)) = goal_of layout h.events i (piece.Pair by j k) h.expansion at h.placed in (
        l,
        m,
        record {
          events = h.events;
          distinct = h.distinct;
          expansion = a;
          placed = x;
          room = room_before leaves (leaf_count a) (leaf_count b) (subst (HasRoom leaves) (ap leaf_count is ∙ (pair_kind by a b).leaves) h.room);
        },
      )

  -- and then the second
  pub buildable_second : (by : Operator) (j k : ℕ) (old middle : Leaves) (left : Process) → IsBuildable layout i old → slice_get layout i ≡ Some (piece.Pair by j k) →
      IsBuiltAt layout j old middle left → IsBuildable layout k middle
  buildable_second by j k old middle left h at built =
      let (a, b, is, l, m, (x, y)) = goal_of layout h.events i (piece.Pair by j k) h.expansion at h.placed in
      record {
        events = h.events;
        distinct = h.distinct;
        expansion = b;
        placed = y;
        room = room_after h.events a (leaf_count b) old middle left (built h.events a h.distinct x) (subst (HasRoom old) (ap leaf_count is ∙ (pair_kind by a b).leaves) h.room);
      }

  pub built_pair_at : (by : Operator) (j k : ℕ) (old middle new : Leaves) (left right goal : Process) → slice_get layout i ≡ Some (piece.Pair by j k) →
      IsBuiltAt layout j old middle left → IsBuiltAt layout k middle new right → goal ≡ together by left right → IsBuiltAt layout i old new goal
  built_pair_at by j k old middle new left right goal at first second same = λ events e d s.
      let (a, b, is, l, m, (x, y)) = goal_of layout events i (piece.Pair by j k) e at s in
      built_as events e (paired by a b) old new goal is (built_both events a b old middle new left right (first events a d x) (second events b d y) by goal same)

  -- isolated goals

  pub buildable_inside : (j : ℕ) (leaves : Leaves) → IsBuildable layout i leaves → slice_get layout i ≡ Some (piece.Iso j) → (j < i) × IsBuildable layout j leaves
  buildable_inside j leaves h at =
      let (a, is, l, x) = goal_of layout h.events i (piece.Iso j) h.expansion at h.placed in
      (l, record { events = h.events; distinct = h.distinct; expansion = a; placed = x; room = subst (HasRoom leaves) (ap leaf_count is) h.room })

  pub built_inside_at : (j : ℕ) (old new : Leaves) (inside whole : Process) → slice_get layout i ≡ Some (piece.Iso j) → IsBuiltAt layout j old new inside →
      whole ≡ Isolated inside → IsBuiltAt layout i old new whole
  built_inside_at j old new inside whole at built same = λ events e d s.
      let (a, is, l, x) = goal_of layout events i (piece.Iso j) e at s in
      built_as events e (alone a) old new whole is (let h = built events a d x in record { process = same ∙ ap Isolated h.process; facts = h.facts; labels = h.labels })

  -- leaves and nothing

  pub built_nothing_at : (leaves : Leaves) → slice_get layout i ≡ Some piece.Nop → IsBuiltAt layout i leaves leaves Empty
  built_nothing_at leaves at = λ events e d s.
      built_as events e nothing leaves leaves Empty (goal_of layout events i piece.Nop e at s) (record { process = refl; facts = refl; labels = sym (append-nil leaves.labels.items) })

  pub built_event_at : (k : ℕ) (old new : Leaves) (goal : Process) → slice_get layout i ≡ Some (piece.Event k) → new.facts ≡ old.facts →
      goal ≡ Task (length old.labels.items) → new.labels.items ≡ old.labels.items ++ Event k ∷ [] → IsBuiltAt layout i old new goal
  built_event_at k old new goal at same is grown = λ events e d s.
      let (n, one, there) = goal_of layout events i (piece.Event k) e at s in
      built_as events e (happens n) old new goal one (built_event events n k old new goal d there same grown is)

  pub built_fact_at : (deed : Deed) (f : Bor Atom) (number : ℕ) (keys : List Atom) (old new : Leaves) (goal : Process) → slice_get layout i ≡ Some (piece.Fact deed f) →
      keys ≡ with_fact old.facts f.now → number ≡ fact_number keys f.now → new.facts ≡ keys →
      goal ≡ Task (length old.labels.items) → new.labels.items ≡ old.labels.items ++ label_of deed number ∷ [] → IsBuiltAt layout i old new goal
  built_fact_at deed f number keys old new goal at put is same leaf grown = λ events e d s.
      built_as events e (fact_leaf deed f.now) old new goal (goal_of layout events i (piece.Fact deed f) e at s)
      (built_fact events deed f.now number old new keys goal put is same grown leaf)

-- the goal of a script, and the workflow

-- numbers in a row

pub numbers_below : (first count end : ℕ) → first + count ≤ end → Each (λ n. n < end) (numbers_from first count)
numbers_below first zero end le = tt
numbers_below first (suc count) end le = (omega arith, numbers_below (first + 1) count end (omega arith))

-- leaves

both_in_row : (next m n : ℕ) (xs ys : List ℕ) → xs ≡ numbers_from next m → ys ≡ numbers_from (next + m) n → xs ++ ys ≡ numbers_from next (m + n)
both_in_row next m n xs ys e f = (λ i. e i ++ f i) ∙ sym (numbers_from-+ next m n)

pub leaves_in_row : (next : ℕ) (e : Expansion) → leaves (numbered next e) ≡ numbers_from next (leaf_count e)
leaves_in_row next (in_turn a b) = both_in_row next (leaf_count a) (leaf_count b) _ _ (leaves_in_row next a) (leaves_in_row (next + leaf_count a) b)
leaves_in_row next (at_once a b) = both_in_row next (leaf_count a) (leaf_count b) _ _ (leaves_in_row next a) (leaves_in_row (next + leaf_count a) b)
leaves_in_row next (one_of a b) = both_in_row next (leaf_count a) (leaf_count b) _ _ (leaves_in_row next a) (leaves_in_row (next + leaf_count a) b)
leaves_in_row next (alone a) = leaves_in_row next a
leaves_in_row next e = refl

-- labels

-- each label of a goal of the layout has an event, or a fact that is numbered
module _ (layout : List Piece) (events : List (List ℕ)) (facts : List Atom) where
  abbrev AreKnown : Expansion → Type 0
  AreKnown e = Each (IsKnown (length events) (length facts)) (labels_of events facts e)

  abbrev AreThere : Expansion → Type 0
  AreThere e = (x : Atom) → x ∈ facts_in e → x ∈ facts

  labels_known : (e : Expansion) (i : ℕ) → IsPlaced layout events e i → AreThere e → AreKnown e
  labels_known e i (placed_nothing at) all = tt
  labels_known e i (placed_event {k = k} {n = n} at there) all = (within bytes_eq bytes_decides n events (mem-slice_get events k n there), tt)
  labels_known e i (placed_fact {d = d} {f = f} at) all =
      subst (Each (IsKnown (length events) (length facts))) (sym ((fact_kind d).labels events facts f.now))
      (known_label d (fact_number facts f.now) (within atom_eq atom_eq-Decides f.now facts (all f.now (subst (λ l. f.now ∈ l) (sym ((fact_kind d).facts f.now)) (inl refl)))), tt)
    where
      known_label : (d : Deed) (n : ℕ) → n < length facts → IsKnown (length events) (length facts) (label_of d n)
      known_label deed.Test n lt = lt
      known_label deed.Absent n lt = lt
      known_label deed.Ins n lt = lt
      known_label deed.Del n lt = lt
  labels_known e i (placed_pair {j = j} {k = k} {by = by} {a = a} {b = b} at l m x y) all =
      let pair = pair_kind by a b in
      subst (Each (IsKnown (length events) (length facts))) (sym (pair.labels events facts))
      (each-append (IsKnown (length events) (length facts)) (labels_of events facts a) (labels_of events facts b)
      (labels_known a j x (λ z h. all z (subst (λ l. z ∈ l) (sym pair.facts) (mem_append_left z (facts_in a) (facts_in b) h))))
      (labels_known b k y (λ z h. all z (subst (λ l. z ∈ l) (sym pair.facts) (mem_append_right z (facts_in a) (facts_in b) h)))))
  labels_known e i (placed_alone {j = j} {a = a} at l x) all = labels_known a j x all

-- before the goal is built

-- the facts that are declared are numbered, and there are no leaves
pub record IsStart (s : Said) (leaves : Leaves) : Type 0 where
  pub facts : leaves.facts ≡ firsts (declared_facts s.decls)
  pub labels : leaves.labels.items ≡ []

declared_firsts_few : (s : Said) → IsClosed s → length (firsts (declared_facts s.decls)) < 2 ^ 31
declared_firsts_few s closed = omega (arith, (length_fold [] (declared_facts s.decls)).1, facts_few s.decls, closed.few)

pub leaves_few : (s : Said) (e : Expansion) → IsMeasured s e → leaf_count e ≤ MOST_LEAVES
leaves_few s e h = omega (arith, leaves_are_ends e, h.fitting.fits)

pub start_room : (s : Said) (e : Expansion) (leaves : Leaves) → IsClosed s → IsMeasured s e → IsStart s leaves → HasRoom leaves (leaf_count e)
start_room s e leaves closed measured start = record {
  labels = omega (arith, ap length start.labels, leaves_few s e measured);
  facts = omega (arith, ap length start.facts, declared_firsts_few s closed, leaves_few s e measured);
}

pub start_buildable : (s : Said) (e : Expansion) (layout : List Piece) (place : ℕ) (leaves : Leaves) → IsClosed s → IsMeasured s e → IsPlaced layout (event_names s.decls) e place →
    IsStart s leaves → IsBuildable layout place leaves
start_buildable s e layout place leaves closed measured placed start = record {
  events = event_names s.decls;
  distinct = distinct_events s.decls closed.named.once;
  expansion = e;
  placed = placed;
  room = start_room s e leaves closed measured start;
}

-- after it

module _ (s : Said) (e : Expansion) (old new : Leaves) (goal : Process) (closed : IsClosed s) (measured : IsMeasured s e) (start : IsStart s old)
    (built : IsBuilt (event_names s.decls) e old new goal) where
  all_labelled : length new.labels.items ≡ leaf_count e
  all_labelled = omega (arith, labels_after (event_names s.decls) e old new goal built, ap length start.labels)

  goal_is : goal ≡ numbered 0 e
  goal_is = built.process ∙ ap (λ n. numbered n e) (ap length start.labels)

  pub goal_few : IsNumbered goal (length new.labels.items) × (length new.labels.items < 2 ^ 32)
  goal_few = (ap leaves goal_is ∙ leaves_in_row 0 e ∙ ap (numbers_from 0) (sym all_labelled), omega (arith, all_labelled, leaves_few s e measured))

  facts_are : new.facts ≡ facts_of s.decls e
  facts_are = built.facts ∙ ap (λ l. fold with_fact l (facts_in e)) start.facts ∙ sym (fold-append with_fact [] (declared_facts s.decls) (facts_in e))

  labels_are : new.labels.items ≡ labels_of (event_names s.decls) (facts_of s.decls e) e
  labels_are =
      built.labels ∙ ap (λ l. l ++ labels_of (event_names s.decls) new.facts e) start.labels
      ∙ ap (λ l. labels_of (event_names s.decls) l e) facts_are

  pub numbered_goal : (layout : List Piece) (place : ℕ) (n : NumberedGoal) → IsPlaced layout (event_names s.decls) e place → n.facts ≡ new.facts →
      n.held.items ≡ numbers_from 0 (length old.facts) → n.tree.process ≡ goal → n.tree.labels ≡ new.labels.items → IsNumberedGoal s n
  numbered_goal layout place n placed table held process labels = record {
    expansion = e;
    measured = measured;
    facts = table ∙ facts_are;
    held = held ∙ ap (λ l. numbers_from 0 (length l)) start.facts;
    tree = tree_is;
    known = known;
  }
    where
      tree_is : n.tree ≡ labelled_of s.decls e
      tree_is = λ i. record { process = (process ∙ goal_is) i; labels = (labels ∙ labels_are) i }

      there : (x : Atom) → x ∈ facts_in e → x ∈ facts_of s.decls e
      there x m = subst (λ l. x ∈ l) (sym (fold-append with_fact [] (declared_facts s.decls) (facts_in e))) (fact_there (firsts (declared_facts s.decls)) (facts_in e) x m)

      known : Each (IsKnown (length (event_names s.decls)) (length n.facts)) n.tree.labels
      known =
          subst (λ l. Each (IsKnown (length (event_names s.decls)) (length n.facts)) l) (sym (labels ∙ labels_are))
          (subst (λ l. Each (IsKnown (length (event_names s.decls)) (length l)) (labels_of (event_names s.decls) (facts_of s.decls e) e)) (sym (table ∙ facts_are))
          (labels_known layout (event_names s.decls) (facts_of s.decls e) e place placed there))

-- without constraints yet
abbrev pub parts : NumberedGoal → List (List ℕ) → List Note → Definition
parts n events notes = record { events = events; notes = notes; facts = n.facts; held = n.held.items; tree = n.tree; rules = [] }

-- constraints speak of events that are declared
pub rules_known : (s : Said) (events : List (List ℕ)) (rules : List RuleShape) → IsClosed s → events ≡ event_names s.decls → rules ≡ s.rules →
    Each (λ n. n ∈ events) (names_in_rules (rule_shapes rules))
rules_known s events rules closed names same =
    subst (λ ns. Each (λ n. n ∈ events) ns) (sym (ap (λ l. names_in_rules (rule_shapes l)) same ∙ names_in_all s.rules))
    (subst (λ l. Each (λ n. n ∈ l) (flat_map names_in_rule s.rules)) (sym names) closed.named.in_rules)

module _ (s : Said) (n : NumberedGoal) (closed : IsClosed s) (numbered : IsNumberedGoal s n) (unique : HoldsNoneTwice n.tree)
    (events : List (List ℕ)) (names : events ≡ event_names s.decls) where
  held_below : Each (λ f. f < length n.facts) n.held.items
  held_below =
      subst (λ l. Each (λ f. f < length n.facts) l) (sym numbered.held)
      (numbers_below 0 (length (firsts (declared_facts s.decls))) (length n.facts)
      (omega (
        arith,
        ap length (numbered.facts ∙ fold-append with_fact [] (declared_facts s.decls) (facts_in numbered.expansion)),
        (length_fold (firsts (declared_facts s.decls)) (facts_in numbered.expansion)).0,
      )))

  labels_within : length n.tree.labels ≤ MOST_LEAVES
  labels_within =
      omega (
        arith,
        ap (λ t. length t.labels) numbered.tree,
        labels_counted (event_names s.decls) (facts_of s.decls numbered.expansion) numbered.expansion,
        leaves_few s numbered.expansion numbered.measured,
      )

  pub parts_kept : (notes : List Note) → notes ≡ notes_of s.decls → IsWorkflow (parts n events notes)
  parts_kept notes noted = record {
    distinct = subst AreDistinct (sym names) (distinct_events s.decls closed.named.once);
    few_events = omega (arith, ap length names, events_few s.decls, closed.few);
    noted = ap length noted ∙ events_noted s.decls ∙ sym (ap length names);
    held = held_below;
    known = subst (λ l. Each (IsKnown (length l) (length n.facts)) n.tree.labels) (sym names) numbered.known;
    unique = unique;
    small = labels_within;
  }

  pub expanded : (notes : List Note) (rules : List Constraint) (w : Definition) → notes ≡ notes_of s.decls → rules ≡ map (constraint_of events) s.rules →
      w ≡ record { events = events; notes = notes; facts = n.facts; held = n.held.items; tree = n.tree; rules = rules } → IsExpanded s w
  expanded notes rules w noted ruled is = record {
    expansion = numbered.expansion;
    measured = numbered.measured;
    unique = subst (λ (v : Definition). HoldsNoneTwice v.tree) (sym is) unique;
    is = is ∙ whole;
  }
    where
      whole : record { events = events; notes = notes; facts = n.facts; held = n.held.items; tree = n.tree; rules = rules } ≡ definition_of s numbered.expansion
      whole = λ i. record {
        events = names i;
        notes = noted i;
        facts = numbered.facts i;
        held = numbered.held i;
        tree = numbered.tree i;
        rules = (ruled ∙ ap (λ l. map (constraint_of l) s.rules) names) i;
      }
