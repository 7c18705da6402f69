-- Walks from each item to one that is before it.
use Rattle.std.proofs.Common.{◌≡◌, ℕ, ◌+◌, ◌<◌, List, [], ◌∷◌, ◌++◌, length, get_or, take, drop, refl, sym, ap, ◌∙◌, subst}
use Rattle.std.proofs.lemmas.List.{take_more, take-append-drop}
use Rattle.flow_model.specs.Lists.{◌∈◌, AreDistinct}
use Rattle.flow_model.proofs.Lists.{distinct_left}
use Rattle.flow_model.specs.Decided.{cons_same}
use Rattle.flow_plan.proofs.PlaceLemmas.{place_of_member}
use Rattle.flow_sample.specs.declared.item.Item.{Item}
use Rattle.flow_sample.specs.Rows.{IsEdge}
use Rattle.flow_sample.specs.Arranged.{LeadsOn, IsCycle, IsNodeRing}

-- members by places

pub not_there : (xs : List ℕ) (x : ℕ) → ((k : ℕ) → k < length xs → get_or xs k 0 ≡ x → ⊥) → ¬ (x ∈ xs)
not_there xs x h m = let (k, within, is) = place_of_member xs x m in h k within is

module _ {words : ℕ} (items : List (Item words)) where
  -- each item is before the next
  abbrev pub IsTrail : List ℕ → Type 0
  IsTrail [] = Unit {0}
  IsTrail (x ∷ []) = Unit {0}
  IsTrail (x ∷ y ∷ more) = IsEdge items x y × IsTrail (y ∷ more)

  pub trail_end : (x : ℕ) (more : List ℕ) → IsTrail (x ∷ more) → IsTrail more
  trail_end x [] h = tt
  trail_end x (y ∷ more) h = h.1

  chain_back : (first node : ℕ) (middle : List ℕ) (last : ℕ) (back : List ℕ) →
      IsTrail (node ∷ ((middle ++ last ∷ []) ++ back)) → IsEdge items last first → LeadsOn items first node (middle ++ last ∷ [])
  chain_back first node [] last back h k = (h.0, k)
  chain_back first node (next ∷ middle) last back h k = (h.0, chain_back first next middle last back h.1 k)

  -- a walk that comes back to an item has gone round a ring
  come_back : (front back : List ℕ) (other node : ℕ) (more : List ℕ) →
      node ∷ more ≡ (front ++ other ∷ []) ++ back → AreDistinct (node ∷ more) → IsTrail (node ∷ more) → IsEdge items other node → IsNodeRing items (front ++ other ∷ [])
  come_back front back other node more e d t b = record {
    distinct = distinct_left (front ++ other ∷ []) back (subst AreDistinct e d);
    cycle = round front (cons_same node (head_of front) more (rest_of front) (e ∙ whole front)).0 (subst IsTrail e t);
  }
    where
      head_of : List ℕ → ℕ
      head_of [] = other
      head_of (f ∷ middle) = f

      rest_of : List ℕ → List ℕ
      rest_of [] = back
      rest_of (f ∷ middle) = (middle ++ other ∷ []) ++ back

      whole : (front : List ℕ) → (front ++ other ∷ []) ++ back ≡ head_of front ∷ rest_of front
      whole [] = refl
      whole (f ∷ middle) = refl

      round : (front : List ℕ) → node ≡ head_of front → IsTrail ((front ++ other ∷ []) ++ back) → IsCycle items (front ++ other ∷ [])
      round [] same t = subst (IsEdge items other) same b
      round (f ∷ middle) same t = chain_back f f middle other back t (subst (IsEdge items other) same b)

  -- a walk that has come back, by the place where
  pub ring_at : (path seen final : List ℕ) (node : ℕ) (more : List ℕ) (place other : ℕ) →
      path ≡ node ∷ more → AreDistinct path → IsTrail path → seen ≡ path → place < length seen → get_or seen place 0 ≡ other →
      IsEdge items other node → final ≡ take (place + 1) path → IsNodeRing items final
  ring_at path seen final node more place other e d w s l is b t =
      let l' = subst (λ (z : List ℕ). place < length z) s l in
      let is' = subst (λ (z : List ℕ). get_or z place 0 ≡ other) s is in
      let laid : take (place + 1) path ≡ take place path ++ other ∷ [] = take_more path place 0 l' ∙ ap (λ y. take place path ++ y ∷ []) is' in
      let all : node ∷ more ≡ (take place path ++ other ∷ []) ++ drop (place + 1) path =
      sym e ∙ sym (take-append-drop (place + 1) path) ∙ ap (λ z. z ++ drop (place + 1) path) laid in
      subst (IsNodeRing items) (sym (t ∙ laid)) (come_back (take place path) (drop (place + 1) path) other node more all (subst AreDistinct e d) (subst IsTrail e w) b)
