-- Trails of updates: one more, and one less.
use Rattle.std.proofs.Common.{◌≡◌, ◌==◌, ℕ, Bool, true, false, not, if◌then◌else◌, List, [], ◌∷◌, ◌++◌, ◌-◌, ◌<◌, ◌≤◌, min, length, take, drop, refl, sym, ap, subst, ◌∙◌, arith}
use Rattle.std.specs.List.{list_any}
use Rattle.std.proofs.lemmas.List.{length-append, length-map, length-take, map-append, take-append-drop, take-append-le}
use Rattle.std.proofs.Math.Seq.{take-append_seam, take-length}
use Rattle.flow_model.specs.declared.labels.Label.{Label}
use Rattle.flow_model.specs.declared.labels.Label.TheVariants.{Ins, Del}
use Rattle.flow_model.specs.Facts.{State, state_with, after}
use Rattle.flow_facts.specs.Held.{is_held}
use Rattle.flow_facts.specs.declared.update.Update.{Update}
use Rattle.flow_facts.specs.Changes.{HasFactBelow, changes}
use Rattle.flow_facts.specs.Course.{Course, after_all}
use Rattle.flow_facts.specs.Fields.{IsTrailFrom, IsKept, labels_of}

pub after_all-append : (s : State) (a b : List Label) → after_all s (a ++ b) ≡ after_all (after_all s a) b
after_all-append s [] b = refl
after_all-append s (label ∷ a) b = after_all-append (after s label) a b

-- states with the same facts change alike
after-same : (s s' : State) (label : Label) → ((n : ℕ) → s n ≡ s' n) → (n : ℕ) → after s label n ≡ after s' label n
after-same s s' (Ins f) same n = ap (λ b. if n == f then true else b) (same n)
after-same s s' (Del f) same n = ap (λ b. if n == f then false else b) (same n)
after-same s s' other same n = same n

changes-same : (s s' : State) (label : Label) → ((n : ℕ) → s n ≡ s' n) → changes s label ≡ changes s' label
changes-same s s' (Ins f) same = ap not (same f)
changes-same s s' (Del f) same = same f
changes-same s s' other same = refl

labels_of-push : (trail : List Update) (u : Update) → labels_of (trail ++ u ∷ []) ≡ labels_of trail ++ u.label ∷ []
labels_of-push trail u = map-append (λ (v : Update). v.label) trail (u ∷ [])

trail_with : (count : ℕ) (s : State) (trail : List Update) (u : Update) → IsTrailFrom count s trail → HasFactBelow count u.label
    → u.changed ≡ changes (after_all s (labels_of trail)) u.label → IsTrailFrom count s (trail ++ u ∷ [])
trail_with count s [] u tt below changed = (below, changed, tt)
trail_with count s (v ∷ trail) u (b, c, rest) below changed = (b, c, trail_with count (after s v.label) trail u rest below changed)

-- what is kept of the last update and of those before it
record Parts (count : ℕ) (s : State) (trail : List Update) (u : Update) : Type 0 where
  before : IsTrailFrom count s trail
  below : HasFactBelow count u.label
  changed : u.changed ≡ changes (after_all s (labels_of trail)) u.label

trail_parts : (count : ℕ) (s : State) (trail : List Update) (u : Update) → IsTrailFrom count s (trail ++ u ∷ []) → Parts count s trail u
trail_parts count s [] u (below, changed, _) = record { before = tt; below = below; changed = changed }
trail_parts count s (v ∷ trail) u (b, c, rest) =
    let parts = trail_parts count (after s v.label) trail u rest in
    record { before = (b, c, parts.before); below = parts.below; changed = parts.changed }

-- the state after one label more
last_after : (held : List ℕ) (trail : List Update) (u : Update) (n : ℕ)
    → after_all (state_with held) (labels_of (trail ++ u ∷ [])) n ≡ after (after_all (state_with held) (labels_of trail)) u.label n
last_after held trail u n =
    ap (λ (s : State). s n) (ap (after_all (state_with held)) (labels_of-push trail u) ∙ after_all-append (state_with held) (labels_of trail) (u.label ∷ []))

-- after `perform`
pub kept_performed : (held : List ℕ) (facts facts' : List Bool) (trail trail' : List Update) (u : Update) (label : Label) → IsKept held facts trail
    → trail' ≡ trail ++ u ∷ [] → u.label ≡ label → length facts' ≡ length facts
    → HasFactBelow (length facts) label → u.changed ≡ changes (is_held facts) label
    → ((n : ℕ) → is_held facts' n ≡ after (is_held facts) label n) → IsKept held facts' trail'
kept_performed held facts facts' trail trail' u label kept longer is same below changed now =
    let below' : HasFactBelow (length facts) u.label = subst (HasFactBelow (length facts)) (sym is) below in
    let changed' : u.changed ≡ changes (after_all (state_with held) (labels_of trail)) u.label
    = changed ∙ ap (changes (is_held facts)) (sym is) ∙ changes-same _ _ u.label kept.now in
    subst (IsKept held facts') (sym longer) (record {
      updates = subst (λ count. IsTrailFrom count (state_with held) (trail ++ u ∷ [])) (sym same)
          (trail_with (length facts) (state_with held) trail u kept.updates below' changed');
      now = λ n. now n ∙ ap (λ (l : Label). after (is_held facts) l n) (sym is) ∙ after-same _ _ u.label kept.now n ∙ sym (last_after held trail u n);
    })

-- the last update has a fact below the count
pub last_below : (held : List ℕ) (facts : List Bool) (all trail : List Update) (u : Update) → IsKept held facts all → all ≡ trail ++ u ∷ []
    → HasFactBelow (length facts) u.label
last_below held facts all trail u kept longer =
    (trail_parts (length facts) (state_with held) trail u (subst (IsTrailFrom (length facts) (state_with held)) longer kept.updates)).below

-- after `take_back_last`
pub kept_taken_back : (held : List ℕ) (facts facts' : List Bool) (all trail : List Update) (u : Update) → IsKept held facts all
    → all ≡ trail ++ u ∷ [] → length facts' ≡ length facts
    → ((before : State) → u.changed ≡ changes before u.label → ((n : ℕ) → is_held facts n ≡ after before u.label n) → (n : ℕ) → is_held facts' n ≡ before n)
    → IsKept held facts' trail
kept_taken_back held facts facts' all trail u kept longer same back =
    let kept' : IsKept held facts (trail ++ u ∷ []) = subst (IsKept held facts) longer kept in
    let parts = trail_parts (length facts) (state_with held) trail u kept'.updates in
    record {
      updates = subst (λ count. IsTrailFrom count (state_with held) trail) (sym same) parts.before;
      now = back (after_all (state_with held) (labels_of trail)) parts.changed (λ n. kept'.now n ∙ last_after held trail u n);
    }

-- what the fields say, after a change of the facts and of the trail
changed_view : (held : List ℕ) (facts facts' : List Bool) (all : List Update) (labels : List Label) (room : ℕ) → length facts' ≡ length facts → labels_of all ≡ labels →
    ◌≡◌ {A = Course} (record { held = held; count = length facts'; labels = labels_of all; room = room }) (record { held = held; count = length facts; labels = labels; room = room })
changed_view held facts facts' all labels room same is = λ i. record { held = held; count = same i; labels = is i; room = room }

pub course_performed : (held : List ℕ) (facts facts' : List Bool) (trail trail' : List Update) (u : Update) (label : Label) (room : ℕ) (now : Course) →
    ◌≡◌ {A = Course} (record { held = held; count = length facts; labels = labels_of trail; room = room }) now → trail' ≡ trail ++ u ∷ [] → u.label ≡ label → length facts' ≡ length facts →
    ◌≡◌ {A = Course} (record { held = held; count = length facts'; labels = labels_of trail'; room = room }) (record now { labels = now.labels ++ label ∷ [] })
course_performed held facts facts' trail trail' u label room now view longer is same =
    changed_view held facts facts' trail' (labels_of trail ++ label ∷ []) room same (ap labels_of longer ∙ labels_of-push trail u ∙ ap (λ (l : Label). labels_of trail ++ l ∷ []) is)
    ∙ ap (λ (w : Course). record w { labels = w.labels ++ label ∷ [] }) view

all_but_last : {A : Type 0} (xs : List A) (x : A) → take (length (xs ++ x ∷ []) - 1) (xs ++ x ∷ []) ≡ xs
all_but_last xs x =
    let fewer : length (xs ++ x ∷ []) - 1 ≡ length xs = omega (arith, length-append xs (x ∷ [])) in
    ap (λ n. take n (xs ++ x ∷ [])) fewer ∙ take-append_seam xs (x ∷ [])

pub course_taken_back : (held : List ℕ) (facts facts' : List Bool) (all trail : List Update) (u : Update) (room : ℕ) (now : Course) →
    ◌≡◌ {A = Course} (record { held = held; count = length facts; labels = labels_of all; room = room }) now → all ≡ trail ++ u ∷ [] → length facts' ≡ length facts →
    ◌≡◌ {A = Course} (record { held = held; count = length facts'; labels = labels_of trail; room = room }) (record now { labels = take (length now.labels - 1) now.labels })
course_taken_back held facts facts' all trail u room now view longer same =
    let were : labels_of all ≡ labels_of trail ++ u.label ∷ [] = ap labels_of longer ∙ labels_of-push trail u in
    changed_view held facts facts' trail (take (length (labels_of all) - 1) (labels_of all)) room same
    (sym (ap (λ (ls : List Label). take (length ls - 1) ls) were ∙ all_but_last (labels_of trail) u.label))
    ∙ ap (λ (w : Course). record w { labels = take (length w.labels - 1) w.labels }) view

-- at the start
pub kept_started : (held now : List ℕ) (facts : List Bool) (trail : List Update) → held ≡ now → trail ≡ [] → ((n : ℕ) → is_held facts n ≡ list_any (λ h. h == n) now) → IsKept held facts trail
kept_started held now facts trail same none is =
    subst (IsKept held facts) (sym none) (record { updates = tt; now = λ n. is n ∙ ap (λ list. state_with list n) (sym same) })

-- Fewer labels

-- how many labels the trail has
pub labels_there : (held : List ℕ) (facts : List Bool) (trail : List Update) (room : ℕ) (now : Course) →
    ◌≡◌ {A = Course} (record { held = held; count = length facts; labels = labels_of trail; room = room }) now → length now.labels ≡ length trail
labels_there held facts trail room now view = sym (ap (λ (w : Course). length w.labels) view) ∙ length-map trail (λ (u : Update). u.label)

pub all_labels : (now : Course) → now ≡ record now { labels = take (length now.labels) now.labels }
all_labels now = ap (λ (ls : List Label). record now { labels = ls }) (sym (take-length now.labels))

pub one_fewer : (now next : Course) → next ≡ record now { labels = take (length now.labels - 1) now.labels } → length next.labels ≡ length now.labels - 1
one_fewer now next e =
    let n = length now.labels in
    let least : min (n - 1) n ≡ n - 1 = omega arith in
    ap (λ (w : Course). length w.labels) e ∙ length-take (n - 1) now.labels ∙ least

-- one fewer of a front is a front
pub front_fewer : (old now next : Course) → now ≡ record old { labels = take (length now.labels) old.labels } → next ≡ record now { labels = take (length now.labels - 1) now.labels } →
    next ≡ record old { labels = take (length next.labels) old.labels }
front_fewer old now next front e =
    let n = length now.labels in
    let behind = drop n old.labels in
    let within : n - 1 ≤ n = omega arith in
    let whole : now.labels ++ behind ≡ old.labels = ap (λ (w : Course). w.labels ++ behind) front ∙ take-append-drop n old.labels in
    let fewer = sym (take-append-le (n - 1) now.labels behind within) ∙ ap (take (n - 1)) whole in
    e ∙ ap (λ (w : Course). record w { labels = take (n - 1) now.labels }) front
    ∙ ap (λ (ls : List Label). record old { labels = ls }) (fewer ∙ ap (λ k. take k old.labels) (sym (one_fewer now next e)))

-- while more labels are there than are kept, the last may go
module _ (held : List ℕ) (facts : List Bool) (trail : List Update) (room kept size : ℕ) (now : Course)
    (view : ◌≡◌ {A = Course} (record { held = held; count = length facts; labels = labels_of trail; room = room }) now) (sized : size ≡ length trail) where
  pub labels_over : kept < size → kept < length now.labels
  labels_over more = omega (arith, labels_there held facts trail room now view)

  pub all_kept : size ≤ kept → kept ≤ length now.labels → length now.labels ≡ kept
  all_kept done enough = omega (arith, labels_there held facts trail room now view)

pub still_enough : (kept : ℕ) (now next : Course) → kept < length now.labels → next ≡ record now { labels = take (length now.labels - 1) now.labels } →
    (kept ≤ length next.labels) × (length next.labels < length now.labels)
still_enough kept now next over e = let fewer = one_fewer now next e in (omega arith, omega arith)

-- there is room for one label more
pub room_left : (held : List ℕ) (facts : List Bool) (trail : List Update) (room : ℕ) (now : Course) →
    ◌≡◌ {A = Course} (record { held = held; count = length facts; labels = labels_of trail; room = room }) now → length now.labels < now.room →
    {size capacity : ℕ} → size ≡ length trail → room ≤ capacity → size < capacity
room_left held facts trail room now view fits sized enough = omega (arith, labels_there held facts trail room now view, ap (λ (w : Course). w.room) view)
