-- The leaves that wait where a run is stuck make a list.
use Rattle.std.proofs.Common.{◌≡◌, ◌<◌, ◌+◌, ℕ, zero, suc, List, [], ◌∷◌, ◌++◌, length, map, Option, Some, None, refl, sym, ap, subst, inl, inr, arith}
use Rattle.flow_model.specs.Facts.{event_at}
use Rattle.flow_model.specs.Schema.{Schema, IsOtherLeaf}
use Rattle.flow_model.specs.Decided.{Decided, decide_both, decide_all_follow, order_of_none}
use Rattle.flow_model.specs.Run.{Claim, RunState, current_leaves, MayFollow, MayFollowFirst, CanDoAside, IsStuck, Waits}
use Rattle.flow_model.specs.Verdict.{AreJust}
use Rattle.flow_core.proofs.RisingLists.{Below, none_yet, one_found, one_passed, all_found}
use Rattle.flow_model.proofs.MadeLists.{order_of_one, same_order}

-- ---- numbers that have a property

module _ (P : ℕ → Type 0) (d : (n : ℕ) → Decided (P n)) where
  abbrev SomeBelow : ℕ → Type 0
  SomeBelow bound = (list : List ℕ) × AreJust (Below P bound) list

  one_more : (i : ℕ) → Decided (P i) → SomeBelow i → SomeBelow (i + 1)
  one_more i (inl has) (list, just) = (list ++ i ∷ [], one_found P i list just has)
  one_more i (inr lacks) (list, just) = (list, one_passed P i list just lacks)

  some_below : (bound : ℕ) → SomeBelow bound
  some_below zero = ([], none_yet P)
  some_below (suc i) = let next : i + 1 ≡ suc i = omega arith in subst SomeBelow next (one_more i (d i) (some_below i))

  some_just : (bound : ℕ) → ((n : ℕ) → P n → n < bound) → (list : List ℕ) × AreJust P list
  some_just bound within = let (list, just) = some_below bound in (list, all_found P bound list just within)

-- ---- leaves that can be done where no claim is out

decide_none : (o : Option ℕ) → Decided (o ≡ None)
decide_none None = inl refl
decide_none (Some e) = inr (λ h. cc)

decide_less : (n : ℕ) (m : ℕ) → Decided (n < m)
decide_less n zero = inr (λ h. absurd (omega (arith, h)))
decide_less zero (suc m) = inl (omega arith)
decide_less (suc n) (suc m) = elim (decide_less n m) [ inl h ↦ inl (omega (arith, h)) | inr h ↦ inr (λ k. h (omega (arith, k))) ]

decide_other : (w : Schema) (n : ℕ) → Decided (IsOtherLeaf w n)
decide_other w n = decide_both (decide_less n (length w.labels)) (decide_none (event_at w.labels n))

-- one leaf that may follow comes first, and nothing after it
decide_alone : (w : Schema) (s : RunState) (n : ℕ) → Decided (MayFollowFirst w s n [])
decide_alone w s n = elim (decide_all_follow w s.journal s.bans (n ∷ [])) [
  | inl may ↦ inl (may.0, may.1, λ order h. subst (λ (l : List ℕ). MayFollow w s may.0 (n ∷ l)) (sym (order_of_none order h)) (may.2 (n ∷ []) (same_order (n ∷ []))))
  | inr none ↦ inr (λ may. none (may.0, may.1, λ order h. subst (λ (l : List ℕ). MayFollow w s may.0 l) (sym (order_of_one order n h)) (may.2 [] refl)))
]

decide_aside : (w : Schema) (s : RunState) → current_leaves s ≡ [] → (n : ℕ) → Decided (CanDoAside w s n)
decide_aside w s none n = decide_both (decide_other w n) (subst (λ (l : List ℕ). Decided (MayFollowFirst w s n l)) (sym none) (decide_alone w s n))

-- the leaves that wait
pub waiting_of : (w : Schema) (s : RunState) → IsStuck w s → (list : List ℕ) × AreJust (Waits w s) list
waiting_of w s stuck =
    let none : current_leaves s ≡ [] = ap (λ (cs : List Claim). map (λ (c : Claim). c.leaf) cs) stuck.no_claim in
    let (list, just) = some_just (CanDoAside w s) (decide_aside w s none) (length w.labels) (λ n can. can.0.0) in (
      list,
      record {
        rising = just.rising;
        exact = λ n. (λ there. stuck.only_waiting n (inr ((just.exact n).0 there)), λ waits. (just.exact n).1 waits.0);
      },
    )
