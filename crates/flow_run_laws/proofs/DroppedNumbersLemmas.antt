-- The numbers of the options that are told.
use Rattle.std.proofs.Common.{◌≡◌, ℕ, zero, suc, ◌+◌, List, [], ◌∷◌, length, map, Some, slice_get, refl, sym, ap, ◌∙◌, subst, inl, inr, arith}
use Rattle.std.proofs.lemmas.List.{length-map}
use Rattle.flow_model.specs.Lists.{◌∈◌, Each}
use Rattle.flow_model.specs.Process.{Process}
use Rattle.flow_model.specs.Resolution.{ChoiceOption}
use Rattle.flow_model.specs.Folding.{folded_options_in, folded_resolutions, folded_ways, is_named}
use Rattle.flow_model.proofs.Lists.{mem_append_left, mem_append_right, each-append, each_to, each_member}
use Rattle.flow_model.proofs.MadeLists.{some_same}
use Rattle.flow_excise.specs.declared.refusal.Dropped.{Dropped}
use Rattle.flow_excise.specs.Executions.{NumberedOption, numbered_ways, numbered_options, TellsOf, TellOfAll}
use Rattle.flow_excise.specs.Compilation.{all_numbered}
use Rattle.flow_excise.proofs.CompilationLemmas.{told_options}
use Rattle.flow_run_laws.specs.DroppedNumbers.{IsOptionOf, NumberedAreTheOptions, TellsByNumber, DroppedAreByNumber}
use Rattle.flow_run_laws.proofs.Numbered.{of_mapped, mapped}

abbrev numbered : ℕ → ℕ → ChoiceOption → NumberedOption
numbered i j o = record { resolution = i; way = j; option = o }

-- With their numbers

-- it is of the resolution of that number, and stands at the place of its way behind the first
abbrev IsWayFrom : ℕ → ℕ → List ChoiceOption → NumberedOption → Type 0
IsWayFrom i j os n = (n.resolution ≡ i) × ((k : ℕ) × (n.way ≡ j + k) × (slice_get os k ≡ Some n.option))

ways_numbered : (i j : ℕ) (os : List ChoiceOption) → Each (IsWayFrom i j os) (numbered_ways i j os)
ways_numbered i j [] = tt
ways_numbered i j (o ∷ os) = (
  (refl, (0, omega arith, refl)),
  each_to (IsWayFrom i (j + 1) os) (IsWayFrom i j (o ∷ os)) (numbered_ways i (j + 1) os) (λ n (r, (k, e, s)). (r, (suc k, omega (arith, e), s))) (ways_numbered i (j + 1) os),
)

abbrev IsOptionFrom : ℕ → List (List ChoiceOption) → NumberedOption → Type 0
IsOptionFrom i oss n = (k : ℕ) × (os : List ChoiceOption) × (n.resolution ≡ i + k) × (slice_get oss k ≡ Some os) × (slice_get os n.way ≡ Some n.option)

options_numbered : (i : ℕ) (oss : List (List ChoiceOption)) → Each (IsOptionFrom i oss) (numbered_options i oss)
options_numbered i [] = tt
options_numbered i (os ∷ oss) = each-append (IsOptionFrom i (os ∷ oss)) (numbered_ways i 0 os) (numbered_options (i + 1) oss)
    (each_to (IsWayFrom i 0 os) (IsOptionFrom i (os ∷ oss)) (numbered_ways i 0 os)
    (λ n (r, (k, e, s)). (0, os, omega (arith, r), refl, subst (λ m. slice_get os m ≡ Some n.option) (sym (way_is n.way k e)) s)) (ways_numbered i 0 os))
    (each_to (IsOptionFrom (i + 1) oss) (IsOptionFrom i (os ∷ oss)) (numbered_options (i + 1) oss)
    (λ n (k, more, r, e, s). (suc k, more, omega (arith, r), e, s)) (options_numbered (i + 1) oss))
  where
    way_is : (m k : ℕ) → m ≡ 0 + k → m ≡ k
    way_is m k e = omega (arith, e)

pub numbered_are_the_options : NumberedAreTheOptions
numbered_are_the_options w = (
  told_options w,
  each_to (IsOptionFrom 0 (map (folded_options_in w) goals)) (λ n. IsOptionOf w n.option n.resolution n.way) (all_numbered w) has_numbers
      (options_numbered 0 (map (folded_options_in w) goals)),
)
  where
    goals : List Process
    goals = folded_resolutions (is_named w) w.goal

    has_numbers : (n : NumberedOption) → IsOptionFrom 0 (map (folded_options_in w) goals) n → IsOptionOf w n.option n.resolution n.way
    has_numbers n (k, os, r, e, s) =
        let (q, at, is) = of_mapped (folded_options_in w) goals k os e in
        let (way, there, same) = of_mapped (λ way. record { resolution = q; order = way }) (folded_ways w q) n.way n.option (subst (λ l. slice_get l n.way ≡ Some n.option) is s) in
        let place : k ≡ n.resolution = omega (arith, r) in
        subst (λ (o : ChoiceOption). IsOptionOf w o n.resolution n.way) (sym same)
        (record { goal = subst (λ m. slice_get goals m ≡ Some q) place at; way = there })

-- an option with its numbers is there

way_there : (i j : ℕ) (os : List ChoiceOption) (k : ℕ) (o : ChoiceOption) → slice_get os k ≡ Some o → numbered i (j + k) o ∈ numbered_ways i j os
way_there i j [] k o e = cc
way_there i j (p ∷ os) zero o e =
    let same : o ≡ p = sym (some_same p o e) in
    let place : j + 0 ≡ j = omega arith in
    inl (λ t. numbered i (place t) (same t))
way_there i j (p ∷ os) (suc k) o e =
    let place : j + 1 + k ≡ j + suc k = omega arith in
    inr (subst (λ m. numbered i m o ∈ numbered_ways i (j + 1) os) place (way_there i (j + 1) os k o e))

option_there : (i : ℕ) (oss : List (List ChoiceOption)) (k : ℕ) (os : List ChoiceOption) (j : ℕ) (o : ChoiceOption) → slice_get oss k ≡ Some os → slice_get os j ≡ Some o →
    numbered (i + k) j o ∈ numbered_options i oss
option_there i [] k os j o e s = cc
option_there i (ps ∷ oss) zero os j o e s =
    let place : i ≡ i + 0 = omega arith in
    let from_first : 0 + j ≡ j = omega arith in
    mem_append_left (numbered (i + 0) j o) (numbered_ways i 0 ps) (numbered_options (i + 1) oss)
    (subst (λ r. numbered r j o ∈ numbered_ways i 0 ps) place (subst (λ m. numbered i m o ∈ numbered_ways i 0 ps) from_first
    (way_there i 0 ps j o (subst (λ l. slice_get l j ≡ Some o) (sym (some_same ps os e)) s))))
option_there i (ps ∷ oss) (suc k) os j o e s =
    let place : i + 1 + k ≡ i + suc k = omega arith in
    mem_append_right (numbered (i + suc k) j o) (numbered_ways i 0 ps) (numbered_options (i + 1) oss)
    (subst (λ r. numbered r j o ∈ numbered_options (i + 1) oss) place (option_there (i + 1) oss k os j o e s))

-- What is told

abbrev TellsOfSome : List NumberedOption → Dropped → Type 0
TellsOfSome ns d = (n : NumberedOption) × (n ∈ ns) × TellsOf n d

told_of_some : (ns : List NumberedOption) (ds : List Dropped) → TellOfAll ns ds → Each (TellsOfSome ns) ds
told_of_some [] [] h = tt
told_of_some [] (d ∷ ds) h = absurd h
told_of_some (n ∷ ns) [] h = absurd h
told_of_some (n ∷ ns) (d ∷ ds) (t, h) =
    ((n, inl refl, t), each_to (TellsOfSome ns) (TellsOfSome (n ∷ ns)) ds (λ d (m, k, u). (m, inr k, u)) (told_of_some ns ds h))

told_each : (ns : List NumberedOption) (ds : List Dropped) → TellOfAll ns ds → (n : NumberedOption) → n ∈ ns → (d : Dropped) × (d ∈ ds) × TellsOf n d
told_each [] ds h n m = absurd m
told_each (k ∷ ns) [] h n m = absurd h
told_each (k ∷ ns) (d ∷ ds) (t, h) n (inl e) = (d, inl refl, subst (λ (k : NumberedOption). TellsOf k d) (sym e) t)
told_each (k ∷ ns) (d ∷ ds) (t, h) n (inr m) = let (c, i, u) = told_each ns ds h n m in (c, inr i, u)

told_as_many : (ns : List NumberedOption) (ds : List Dropped) → TellOfAll ns ds → length ds ≡ length ns
told_as_many [] [] h = refl
told_as_many [] (d ∷ ds) h = absurd h
told_as_many (n ∷ ns) [] h = absurd h
told_as_many (n ∷ ns) (d ∷ ds) (t, h) = ap suc (told_as_many ns ds h)

pub dropped_are_by_number : DroppedAreByNumber
dropped_are_by_number w dropped told = record {
  count = told_as_many (all_numbered w) dropped told ∙ (sym (length-map (all_numbered w) (λ (n : NumberedOption). n.option)) ∙ ap length (numbered_are_the_options w).0);
  of_some = each_to (TellsOfSome (all_numbered w)) (λ d. (o : ChoiceOption) × IsOptionOf w o d.resolution d.way × TellsByNumber o d.resolution d.way d) dropped
      (λ d (n, m, t). (
        n.option,
        subst (λ i. IsOptionOf w n.option i d.way) (sym t.resolution) (subst (λ j. IsOptionOf w n.option n.resolution j) (sym t.way)
            (each_member (λ (n : NumberedOption). IsOptionOf w n.option n.resolution n.way) (all_numbered w) (numbered_are_the_options w).1 n m)),
        record { resolution = refl; way = refl; circle = t.circle },
      ))
      (told_of_some (all_numbered w) dropped told);
  each = λ o i j h.
      let goals = folded_resolutions (is_named w) w.goal in
      let first : 0 + i ≡ i = omega arith in
      let there = subst (λ r. numbered r j o ∈ all_numbered w) first (option_there 0 (map (folded_options_in w) goals) i (folded_options_in w o.resolution) j o
      (mapped (folded_options_in w) goals i o.resolution h.goal)
      (mapped (λ way. record { resolution = o.resolution; order = way }) (folded_ways w o.resolution) j o.order h.way)) in
      let (d, m, t) = told_each (all_numbered w) dropped told (numbered i j o) there in
      (d, m, record { resolution = t.resolution; way = t.way; circle = t.circle });
}
