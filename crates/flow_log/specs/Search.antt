-- Points of the search: what is done after a list of leaves, which facts hold then, and the options in which that is so.
use Rattle.std.specs.Prelude.{◌≡◌, ◌<◌, ◌≤◌, ◌⊎◌, ◌↔◌, ℕ, max, Bool, IsTrue, List, [], ◌∷◌, ◌++◌, Some, length, slice_get}
use Rattle.leaf_rows.specs.Leaves.{has_leaf}
use Rattle.leaf_rows.specs.declared.leaf_set.LeafSet.{LeafSet}
use Rattle.flow_model.specs.Lists.{◌∈◌, AreDistinct}
use Rattle.flow_model.specs.Facts.{replay}
use Rattle.flow_model.specs.FoldedReady.{IsFoldedReady}
use Rattle.flow_model.specs.Resolution.{ChoiceOption}
use Rattle.flow_model.specs.Schema.{start_of}
use Rattle.flow_plan.specs.Options.{option_of}
use Rattle.flow_plan.specs.Orders.{TellOf}
use Rattle.flow_plan.specs.Sampled.{Sampled}
use Rattle.flow_plan.specs.Sided.{IsDoneIn}
use Rattle.flow_plan.specs.declared.sides.Sides.{Sides}
use Rattle.flow_residual.specs.Options.{HasAt, SomeOption}
use Rattle.flow_residual.specs.Telling.{IsOrderedOption}
use Rattle.flow_trace.specs.Fronts.{Follows, Finishes}
use Rattle.flow_log.specs.declared.found.Found.{Found}
use Rattle.flow_log.specs.declared.found.Found.TheVariants.{Whole, Furthest, Spent}
use Rattle.flow_log.specs.declared.point.Point.{Point}
use Rattle.flow_log.specs.Case.{Fitted, IsBegun, AreFacts}

-- the sides tell of each plan, by these done leaves
abbrev pub AreSides : {w : ℕ} → List Sampled → LeafSet w → Sides → Type 0
AreSides plans done sides = (s : Sampled) → s ∈ plans → IsOrderedOption (option_of s.plan) →
    TellOf s.plan sides × ((n : ℕ) → IsDoneIn sides n ↔ IsTrue (has_leaf done n))

-- the leaf may come next in the option where those are done
abbrev pub MayFollow : {w : ℕ} → LeafSet w → ℕ → ChoiceOption → Type 0
MayFollow done leaf o = IsFoldedReady o.resolution o.order (λ n. IsTrue (has_leaf done n)) leaf

-- the point has what is done after the list, and which facts hold then
pub record IsAfter {w : ℕ} (f : Fitted) (list : List ℕ) (p : Point w) : Type 0 where
  pub done : (n : ℕ) → IsTrue (has_leaf p.done n) ↔ (n ∈ list)
  pub facts : AreFacts f.schema.labels f.places (replay f.schema.labels (start_of f.schema) list) (has_leaf p.facts)

-- the list has so many of the events as the point says, and it is a ready run of each option of the point, of which there is one
pub record LeadsTo {w : ℕ} (f : Fitted) (list : List ℕ) (p : Point w) : Type 0 where
  pub begun : IsBegun f list p.count
  pub after : IsAfter f list p
  pub follows : (j : ℕ) → IsTrue (has_leaf p.options j) → HasAt (Follows list) f.options j
  pub some : (j : ℕ) × IsTrue (has_leaf p.options j)

-- the list is that of the point before, and the point's leaf
pub record IsOneMore {w : ℕ} (lists : List (List ℕ)) (p : Point w) (place : ℕ) (list : List ℕ) : Type 0 where
  pub earlier : p.before < place
  pub front : List ℕ
  pub there : slice_get lists p.before ≡ Some front
  pub is : list ≡ front ++ p.leaf ∷ []

-- one list for each point, no two of them the same; each but the first is one leaf longer than that of the point before it
pub record AreLed {w : ℕ} (f : Fitted) (points : List (Point w)) (lists : List (List ℕ)) : Type 0 where
  pub one_each : length lists ≡ length points
  pub first : slice_get lists 0 ≡ Some []
  pub each : (i : ℕ) (p : Point w) (list : List ℕ) → slice_get points i ≡ Some p → slice_get lists i ≡ Some list → LeadsTo f list p
  pub back : (i : ℕ) (p : Point w) (list : List ℕ) → 0 < i → slice_get points i ≡ Some p → slice_get lists i ≡ Some list → IsOneMore lists p i list
  pub different : AreDistinct lists
  -- the first point has all options
  pub whole : (p : Point w) → slice_get points 0 ≡ Some p → (j : ℕ) → j < length f.options → IsTrue (has_leaf p.options j)

abbrev pub IsLed : {w : ℕ} → Fitted → List (Point w) → Type 0
IsLed f points = (lists : List (List ℕ)) × AreLed f points lists

-- each point but the first was made from a point before that place, or from the one there by a lesser leaf
abbrev pub AreBefore : {w : ℕ} → List (Point w) → ℕ → ℕ → Type 0
AreBefore {w} points place leaf = (i : ℕ) (p : Point w) → 0 < i → slice_get points i ≡ Some p → (p.before < place) ⊎ ((p.before ≡ place) × (p.leaf < leaf))

-- some point has the option, is one after the list, and has so many of the events
pub record Knows {w : ℕ} (f : Fitted) (points : List (Point w)) (j : ℕ) (list : List ℕ) (count : ℕ) : Type 0 where
  pub place : ℕ
  pub point : Point w
  pub there : slice_get points place ≡ Some point
  pub option : IsTrue (has_leaf point.options j)
  pub counted : point.count ≡ count
  pub after : IsAfter f list point

-- the two have as many events, the same done leaves and the same facts
pub record AreLike {w : ℕ} (p q : Point w) : Type 0 where
  pub count : p.count ≡ q.count
  pub done : (n : ℕ) → has_leaf p.done n ≡ has_leaf q.done n
  pub facts : (n : ℕ) → has_leaf p.facts n ≡ has_leaf q.facts n

-- some point like that one has the option
pub record IsKnown {w : ℕ} (points : List (Point w)) (j : ℕ) (like : Point w) : Type 0 where
  pub place : ℕ
  pub point : Point w
  pub there : slice_get points place ≡ Some point
  pub option : IsTrue (has_leaf point.options j)
  pub is_like : AreLike point like

-- what the leaf may lead to from the point is known
abbrev pub IsTried : {w : ℕ} → Fitted → List (Point w) → Point w → ℕ → Type 0
IsTried f points p leaf = (j : ℕ) (o : ChoiceOption) (list : List ℕ) (count : ℕ) → IsTrue (has_leaf p.options j) → slice_get f.options j ≡ Some o →
    IsAfter f list p → IsBegun f list p.count → MayFollow p.done leaf o → IsBegun f (list ++ leaf ∷ []) count → Knows f points j (list ++ leaf ∷ []) count

-- every leaf is tried from each point before the place
abbrev pub ArePassed : {w : ℕ} → Fitted → List (Point w) → ℕ → Type 0
ArePassed {w} f points place = (i : ℕ) (p : Point w) (leaf : ℕ) → i < place → slice_get points i ≡ Some p → IsTried f points p leaf

-- every list that leads to the point is a whole execution of some option
abbrev pub IsEnd : {w : ℕ} → Fitted → Point w → Type 0
IsEnd f p = (p.count ≡ length f.events) × ((list : List ℕ) → LeadsTo f list p → SomeOption (Finishes list) f.options)

-- no list after the point is one of an option that it has
abbrev pub IsNoEnd : {w : ℕ} → Fitted → Point w → Type 0
IsNoEnd f p = (j : ℕ) (list : List ℕ) → IsTrue (has_leaf p.options j) → IsAfter f list p → p.count ≡ length f.events → ¬ (HasAt (Finishes list) f.options j)

-- none of the points before the place is an end, and none has more events than the one that is the furthest
pub record AreShort {w : ℕ} (f : Fitted) (points : List (Point w)) (place furthest : ℕ) : Type 0 where
  pub best : Point w
  pub there : slice_get points furthest ≡ Some best
  pub most : (i : ℕ) (p : Point w) → i < place → slice_get points i ≡ Some p → p.count ≤ best.count
  pub no_end : (i : ℕ) (p : Point w) → i < place → slice_get points i ≡ Some p → IsNoEnd f p

-- what was found
abbrev pub IsFound : {w : ℕ} → Fitted → ℕ → List (Point w) → Found → Type 0
IsFound {w} f budget points (Whole place) = (p : Point w) × (slice_get points place ≡ Some p) × IsEnd f p
IsFound f budget points (Furthest place) = ArePassed f points (length points) × AreShort f points (length points) place
IsFound f budget points Spent = budget ≤ length points

-- some points more, or none
abbrev pub AreMore : {w : ℕ} → List (Point w) → List (Point w) → Type 0
AreMore {w} old new = (more : List (Point w)) × (new ≡ old ++ more)

-- the leaves from the one to below the other were tried from the point at the place, where this goes on; else the budget is spent
pub record Goes {w : ℕ} (f : Fitted) (budget : ℕ) (old new : List (Point w)) (place from to : ℕ) (going : Bool) : Type 0 where
  pub more : AreMore old new
  pub led : IsLed f new
  pub before : AreBefore new place to
  pub tried : IsTrue going → (p : Point w) (leaf : ℕ) → slice_get new place ≡ Some p → from ≤ leaf → leaf < to → IsTried f new p leaf
  pub within : IsTrue going → length new ≤ max (length old) budget
  pub spent : ¬ (IsTrue going) → budget ≤ length new
