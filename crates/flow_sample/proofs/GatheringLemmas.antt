-- Items that are made of the marks of a goal.
use Rattle.std.proofs.Common.{◌≡◌, ℕ, ◌+◌, ◌<◌, List, [], ◌∷◌, ◌++◌, length, map, reverse, Some, None, MatchOption, slice_get, inl, inr, refl, sym, ◌∙◌, ap, subst, append-nil, arith, Vec, Global, ◌==◌, true, false, eq-eqb}
use Rattle.std.proofs.lemmas.List.{map-append, reverse-append, nil_from_length}
use Rattle.std.specs.List.Sorted.{IsStrictlyIncreasing}
use Rattle.std.proofs.lemmas.Bool.{eqb-true}
use Rattle.flow_plan.specs.Stacks.{WithTop}
use Rattle.flow_sample.specs.Arranged.{AddsOneOf}
use Rattle.flow_model.specs.Process.{Process, Empty, Task, Sequence, Parallel, Choice, Isolated, leaves, IsChoiceFree}
use Rattle.flow_model.specs.Lists.{◌∈◌}
use Rattle.flow_model.specs.Ready.{isolated_parts}
use Rattle.flow_model.specs.Circle.{items_of}
use Rattle.flow_model.proofs.Lists.{mem_append_left, mem_append_right}
use Rattle.flow_laws.specs.WellFormed.{IsOrdered}
use Rattle.flow_goal.specs.declared.node.Node.{Node}
use Rattle.flow_goal.specs.declared.node.Node.TheVariants.{Leaf, Serial, Split, Join, Close}
use Rattle.flow_goal.specs.Written.{nodes_of}
use Rattle.flow_goal.proofs.WrittenLemmas.{StandAt, first_stand, second_stand, sequence_nodes, parallel_nodes, isolated_nodes, both_long, leaf_stands}
use Rattle.flow_plan.specs.Planned.{Planned, pairs_of}
use Rattle.flow_sample.specs.declared.gathering.Gathering.{Gathering}
use Rattle.flow_sample.specs.declared.item.Item.{Item}
use Rattle.flow_sample.specs.Rows.{AreApart, HasSome}
use Rattle.flow_sample.specs.Items.{IsItemOf, AreItemsOf, AddsItems}
use Rattle.flow_sample.specs.ItemMarks.{CanClose, MakesItems, Gathers, ReadsMark, stack_of}
use Rattle.flow_sample.proofs.PieceLemmas.{adds_both, adds_none, adds_one, can_close}
use Rattle.flow_sample.proofs.RisingLemmas.{Rises, rises}

module _ (q : Process) (pairs : List (ℕ × ℕ)) (o : IsOrdered q pairs) (rising : Rises (leaves q)) (ns : List ℕ) where
  -- the marks of a goal make its items
  goal_items : {words : ℕ} → (g : Process) (nodes : List Node) (k : ℕ) (items : List (Item words)) (outer : List (List (Item words))) → IsChoiceFree g → ((p : Process) → p ∈ isolated_parts g → p ∈ isolated_parts q) → StandAt ns k (leaves g) →
      ((new : List (Item words)) → AddsItems q pairs g items new → MakesItems q pairs nodes ns (k + length (leaves g)) new outer) →
      MakesItems q pairs (nodes_of g ++ nodes) ns k items outer
  goal_items {words} Empty nodes k items outer free parts at then =
      subst (λ (j : ℕ). MakesItems q pairs nodes ns j items outer) (omega arith) (then items (adds_none q pairs Empty items refl))
  goal_items {words} (Task n) nodes k items outer free parts at then =
      subst (λ p. MatchOption p ⊥ (λ n. (item : Item words) → IsItemOf q pairs (n ∷ []) item → MakesItems q pairs nodes ns (k + 1) (items ++ item ∷ []) outer))
      (sym (leaf_stands ns k n at.0 at.1))
      (λ item is. then (items ++ item ∷ []) (adds_one q pairs (Task n) (n ∷ []) items (items ++ item ∷ []) item refl refl is))
  goal_items {words} (Sequence a b) nodes k items outer free parts at then =
      subst (λ l. MakesItems q pairs l ns k items outer) (sym (sequence_nodes a b nodes))
      (goal_items a (nodes_of b ++ (Serial ∷ nodes)) k items outer free.0 (λ p m. parts p (mem_append_left p (isolated_parts a) (isolated_parts b) m)) (first_stand ns k (leaves a) (leaves b) at)
      (λ mid adds_a. goal_items b (Serial ∷ nodes) (k + length (leaves a)) mid outer free.1 (λ p m. parts p (mem_append_right p (isolated_parts a) (isolated_parts b) m)) (second_stand ns k (leaves a) (leaves b) at)
      (λ new adds_b. rw (both_long k (leaves a) (leaves b)) (then new (adds_both q pairs (Sequence a b) a b items mid new refl adds_a adds_b)))))
  goal_items {words} (Parallel a b) nodes k items outer free parts at then =
      subst (λ l. MakesItems q pairs l ns k items outer) (sym (parallel_nodes a b nodes))
      (goal_items a (Split ∷ (nodes_of b ++ (Join ∷ nodes))) k items outer free.0 (λ p m. parts p (mem_append_left p (isolated_parts a) (isolated_parts b) m)) (first_stand ns k (leaves a) (leaves b) at)
      (λ mid adds_a. goal_items b (Join ∷ nodes) (k + length (leaves a)) mid outer free.1 (λ p m. parts p (mem_append_right p (isolated_parts a) (isolated_parts b) m)) (second_stand ns k (leaves a) (leaves b) at)
      (λ new adds_b. rw (both_long k (leaves a) (leaves b)) (then new (adds_both q pairs (Parallel a b) a b items mid new refl adds_a adds_b)))))
  goal_items {words} (Choice a b) nodes k items outer free parts at then = absurd free
  goal_items {words} (Isolated a) nodes k items outer free parts at then =
      subst (λ l. MakesItems q pairs l ns k items outer) (sym (isolated_nodes a nodes))
      (goal_items a (Close ∷ nodes) k [] (items ∷ outer) free (λ p m. parts p (inr m)) at
      (λ inner adds. can_close q pairs o rising a inner (parts a (inl refl)) adds items
      (λ new. MakesItems q pairs nodes ns (k + length (leaves a)) new outer) then))

pub begun_items : {words : ℕ} → (p : Planned) (nodes : List Node) (g : Gathering words) → IsOrdered p.process (pairs_of p.tokens) → nodes ≡ nodes_of p.process → p.leaves ≡ leaves p.process →
    IsStrictlyIncreasing p.leaves → g.place ≡ 0 → g.items.items ≡ [] → g.outer.items ≡ [] → Gathers p nodes g
begun_items {words} p nodes g o are listed rising place items outer =
    let q : Process = p.process in
    let pairs : List (ℕ × ℕ) = pairs_of p.tokens in
    rw (place, items, outer, are) (subst (λ l. MakesItems {words = words} q pairs l p.leaves 0 [] []) (append-nil (nodes_of q))
    (goal_items q pairs o (rises (leaves q) (subst IsStrictlyIncreasing listed rising)) p.leaves q [] 0 [] [] o.choice_free (λ part m. m) ([], listed ∙ sym (append-nil (leaves q)))
    (λ new adds. subst (AreItemsOf q pairs (items_of q)) (sym adds.is) adds.items)))

-- ---- one mark

pub leaf_read : {words : ℕ} → (p : Planned) (leaf : ℕ) (item : Item words) (old new : Gathering words) → slice_get p.leaves old.place ≡ Some leaf → IsItemOf p.process (pairs_of p.tokens) (leaf ∷ []) item →
    new.place ≡ old.place + 1 → new.items.items ≡ old.items.items ++ item ∷ [] → new.outer ≡ old.outer → ReadsMark p Leaf old new
leaf_read {words} p leaf item old new at is place items outer nodes h =
    let q : Process = p.process in
    let pairs : List (ℕ × ℕ) = pairs_of p.tokens in
    rw (place, items, outer)
    (subst (λ o. MatchOption o ⊥ (λ n. (item : Item words) → IsItemOf q pairs (n ∷ []) item →
    MakesItems q pairs nodes p.leaves (old.place + 1) (old.items.items ++ item ∷ []) (stack_of old.outer.items))) at h item is)

pub leaf_missed : {words : ℕ} → (p : Planned) (old new : Gathering words) → slice_get p.leaves old.place ≡ None → ReadsMark p Leaf old new
leaf_missed {words} p old new at nodes h =
    absurd (subst (λ o. MatchOption o ⊥ (λ n. (item : Item words) → IsItemOf p.process (pairs_of p.tokens) (n ∷ []) item →
    MakesItems p.process (pairs_of p.tokens) nodes p.leaves (old.place + 1) (old.items.items ++ item ∷ []) (stack_of old.outer.items))) at h)

-- what stands on the stack
stack_top : {words : ℕ} → (lists more : List (Vec (Item words) Global)) (last : Vec (Item words) Global) → lists ≡ more ++ last ∷ [] → stack_of lists ≡ last.items ∷ stack_of more
stack_top {words} lists more last e =
    ap stack_of e ∙ ap reverse (map-append (λ (v : Vec (Item words) Global). v.items) more (last ∷ [])) ∙ reverse-append (map (λ (v : Vec (Item words) Global). v.items) more) (last.items ∷ [])

module _ {words : ℕ} (p : Planned) (before : Vec (Item words) Global) (old new : Gathering words) (on : old.outer.items ≡ new.outer.items ++ before ∷ []) (same : new.place ≡ old.place) where
  closing : (nodes : List Node) → Gathers p (Close ∷ nodes) old →
      CanClose p.process (pairs_of p.tokens) old.items.items before.items (λ items. MakesItems p.process (pairs_of p.tokens) nodes p.leaves new.place items (stack_of new.outer.items))
  closing nodes h =
      subst (λ (k : ℕ). CanClose p.process (pairs_of p.tokens) old.items.items before.items (λ items. MakesItems p.process (pairs_of p.tokens) nodes p.leaves k items (stack_of new.outer.items))) (sym same)
      (subst (λ l. WithTop l (λ before more. CanClose p.process (pairs_of p.tokens) old.items.items before (λ items. MakesItems p.process (pairs_of p.tokens) nodes p.leaves old.place items more)))
      (stack_top old.outer.items new.outer.items before on) h)

  pub part_read : (seen made : List (Item words)) → seen ≡ old.items.items → new.items.items ≡ made → AddsOneOf seen before.items made → ReadsMark p Close old new
  part_read seen made is kept adds nodes h =
      subst (λ (l : List (Item words)). MakesItems p.process (pairs_of p.tokens) nodes p.leaves new.place l (stack_of new.outer.items)) (sym kept)
      ((closing nodes h).one made (subst (λ l. AddsOneOf l before.items made) is adds))

  pub none_read : old.items.items ≡ [] → new.items.items ≡ before.items → ReadsMark p Close old new
  none_read none kept nodes h =
      subst (λ (l : List (Item words)). MakesItems p.process (pairs_of p.tokens) nodes p.leaves new.place l (stack_of new.outer.items)) (sym kept) ((closing nodes h).none none)

pub none_missed : {words : ℕ} → (p : Planned) (old new : Gathering words) → old.outer.items ≡ [] → ReadsMark p Close old new
none_missed {words} p old new none nodes h =
    absurd (subst (λ (l : List (Vec (Item words) Global)). WithTop (stack_of l) (λ before more. CanClose p.process (pairs_of p.tokens) old.items.items before
    (λ items. MakesItems p.process (pairs_of p.tokens) nodes p.leaves old.place items more))) none h)

-- of the items of a part that ends
pub inner_apart : {words : ℕ} → (p : Planned) (before : Vec (Item words) Global) (old : Gathering words) (rest : Vec (Vec (Item words) Global) Global) → old.outer.items ≡ rest.items ++ before ∷ [] →
    (nodes : List Node) × Gathers p (Close ∷ nodes) old → AreApart old.items.items × (0 < length old.items.items → HasSome old.items.items)
inner_apart p before old rest on (nodes, h) = let can = closing p before old (record old { outer = rest }) on refl nodes h in (can.apart, can.some)

-- a vector of no length
pub is_empty : {A : Type 0} (xs : List A) (n : ℕ) → n ≡ length xs → (n == 0) ≡ true → xs ≡ []
is_empty xs n e t = nil_from_length xs (sym e ∙ eqb-true n 0 t)

pub not_empty : {A : Type 0} (xs : List A) (n : ℕ) → n ≡ length xs → (n == 0) ≡ false → 0 < length xs
not_empty [] n e t = let zero = eq-eqb n 0 e in absurd (cc)
not_empty (x ∷ xs) n e t = omega arith
