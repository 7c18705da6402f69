-- Leaves rise from left to right: in a goal, in its isolated parts, and from item to item.
use Rattle.std.proofs.Common.{ℕ, suc, ◌<◌, List, [], ◌∷◌, inl, inr, ⊎_elim, sym, subst, arith}
use Rattle.std.specs.List.{AllPairs}
use Rattle.std.specs.List.Sorted.{IsStrictlyIncreasing}
use Rattle.std.proofs.lemmas.List.Kept.{AllPairs-from_increasing}
use Rattle.flow_model.specs.Lists.{◌∈◌, StandsBefore}
use Rattle.flow_model.specs.Process.{Process, leaves}
use Rattle.flow_model.specs.Ready.{isolated_parts}
use Rattle.flow_model.proofs.Lists.{before_left, before_right, mem-append}
use Rattle.flow_laws.proofs.GoalParts.{Case, case_of, halves, isolated, regions}
use Rattle.flow_plan.proofs.PlaceLemmas.{place_of_member}

-- what stands before a member is less
abbrev pub Rises : List ℕ → Type 0
Rises xs = (x y : ℕ) → StandsBefore x y xs → x < y

above_all : (x : ℕ) (xs : List ℕ) → AllPairs (λ y z. y < z) (x ∷ xs) → (y : ℕ) → y ∈ xs → x < y
above_all x xs pairs y m = let place = place_of_member xs y m in omega (arith, place.2, pairs 0 (suc place.0) 0 (omega arith) (omega (arith, place.1)))

never_falls : (xs : List ℕ) → AllPairs (λ y z. y < z) xs → Rises xs
never_falls [] pairs x y h = absurd h
never_falls (z ∷ zs) pairs x y (inl (e, m)) = omega (arith, e, above_all z zs pairs y m)
never_falls (z ∷ zs) pairs x y (inr h) = never_falls zs (λ i j d less within. pairs (suc i) (suc j) d (omega arith) (omega arith)) x y h

pub rises : (xs : List ℕ) → IsStrictlyIncreasing xs → Rises xs
rises xs rising = never_falls xs (AllPairs-from_increasing xs rising)

-- so do the leaves of a part
rises_in : {g : Process} → Case g → (part : Process) → part ∈ regions g → Rises (leaves g) → Rises (leaves part)
rises_in c part (inl e) h = subst (λ q. Rises (leaves q)) (sym e) h
rises_in (halves {a = u} {b = v} r a b) part (inr m) h = ⊎_elim
    (λ k. rises_in a part (inr k) (λ x y s. h x y (subst (StandsBefore x y) (sym r.leaves_are.is) (before_left x y (leaves u) (leaves v) s))))
    (λ k. rises_in b part (inr k) (λ x y s. h x y (subst (StandsBefore x y) (sym r.leaves_are.is) (before_right x y (leaves u) (leaves v) s))))
    (mem-append part (isolated_parts u) (isolated_parts v) (subst (λ l. part ∈ l) r.parts_are.is m))
rises_in (isolated c) part (inr m) h = rises_in c part m h
rises_in none part (inr m) h = absurd m

pub region_rises : (q part : Process) → part ∈ regions q → Rises (leaves q) → Rises (leaves part)
region_rises q = rises_in (case_of q)
