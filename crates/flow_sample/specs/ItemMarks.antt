-- Marks of a goal that are read for the items of its parts.
use Rattle.std.specs.Prelude.{◌≡◌, ◌<◌, ◌+◌, ℕ, List, [], ◌∷◌, ◌++◌, MatchOption, length, map, reverse, slice_get}
use Rattle.std.proofs.Common.{Vec, Global}
use Rattle.flow_model.specs.Process.{Process}
use Rattle.flow_model.specs.Circle.{items_of}
use Rattle.flow_goal.specs.declared.node.Node.{Node}
use Rattle.flow_goal.specs.declared.node.Node.TheVariants.{Leaf, Open, Close}
use Rattle.flow_plan.specs.Planned.{Planned, pairs_of}
use Rattle.flow_plan.specs.Stacks.{WithTop}
use Rattle.flow_sample.specs.declared.sample.ExciseRefusal.{ExciseRefusal}
use Rattle.flow_sample.specs.declared.gathering.Gathering.{Gathering}
use Rattle.flow_sample.specs.declared.item.Item.{Item}
use Rattle.flow_sample.specs.Arranged.{AddsOneOf, TellsRing}
use Rattle.flow_sample.specs.Items.{IsItemOf, AreItemsOf, TellsCircle}
use Rattle.flow_sample.specs.Rows.{AreApart, HasSome}

-- the inner items may become one item behind those before it, of which Then holds: unless there are none, or some
-- are in a ring, which is then a circle of the goal
pub record CanClose {words : ℕ} (q : Process) (pairs : List (ℕ × ℕ)) (inner before : List (Item words)) (Then : List (Item words) → Type 0) : Type 0 where
  pub apart : AreApart inner
  pub some : 0 < length inner → HasSome inner
  pub none : inner ≡ [] → Then before
  pub one : (new : List (Item words)) → AddsOneOf inner before new → Then new
  pub ring : (refusal : ExciseRefusal) → TellsRing inner refusal → TellsCircle q pairs refusal

-- whatever the items that come are, the rest of the marks makes the items of q: with the leaves from that place on,
-- the items so far of the innermost part that has begun, and a stack of those of the parts around it
abbrev pub MakesItems : {words : ℕ} → Process → List (ℕ × ℕ) → List Node → List ℕ → ℕ → List (Item words) → List (List (Item words)) → Type 0
MakesItems {words} q pairs [] ns k items outer = AreItemsOf q pairs (items_of q) items
MakesItems {words} q pairs (Leaf ∷ nodes) ns k items outer = MatchOption (slice_get ns k) ⊥
    (λ n. (item : Item words) → IsItemOf q pairs (n ∷ []) item → MakesItems q pairs nodes ns (k + 1) (items ++ item ∷ []) outer)
MakesItems {words} q pairs (Open ∷ nodes) ns k items outer = MakesItems q pairs nodes ns k [] (items ∷ outer)
MakesItems {words} q pairs (Close ∷ nodes) ns k items outer = WithTop outer
    (λ before more. CanClose q pairs items before (λ new. MakesItems q pairs nodes ns k new more))
MakesItems {words} q pairs (node ∷ nodes) ns k items outer = MakesItems q pairs nodes ns k items outer

abbrev pub stack_of : {words : ℕ} → List (Vec (Item words) Global) → List (List (Item words))
stack_of {words} lists = reverse (map (λ (list : Vec (Item words) Global). list.items) lists)

-- so do the marks from a gathering on
abbrev pub Gathers : {words : ℕ} → Planned → List Node → Gathering words → Type 0
Gathers p nodes g = MakesItems p.process (pairs_of p.tokens) nodes p.leaves g.place g.items.items (stack_of g.outer.items)

-- the mark was read
abbrev pub ReadsMark : {words : ℕ} → Planned → Node → Gathering words → Gathering words → Type 0
ReadsMark p node old new = (nodes : List Node) → Gathers p (node ∷ nodes) old → Gathers p nodes new
