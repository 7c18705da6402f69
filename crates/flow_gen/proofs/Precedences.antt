-- The constraints of a generated workflow: each is that one event precedes another, so the leaves of a resolution meet them in one way.
use Rattle.std.proofs.Common.{◌≡◌, ℕ, ◌+◌, ◌-◌, ◌*◌, ◌%◌, ◌<◌, ◌≤◌, List, [], ◌∷◌, length, map, drop, refl, arith, suc, ◌==◌, ◌||◌, if◌then◌else◌, Bool, true, false, Option, Some, ◌++◌, sum, sym, ap, ap₂, subst, ◌∙◌, inl, inr, length-append}
use Rattle.std.proofs.lemmas.List.{length-map}
use Rattle.std.specs.List.{flat_map}
use Rattle.std.proofs.Math.Nat.{suc-mul}
use Rattle.std.proofs.lemmas.Bool.{ne_eqb}
use Rattle.flow_model.specs.declared.limits.TheConstants.{GREATEST_SIZE}
use Rattle.flow_model.specs.Lists.{Each, ◌∈◌, each_with_each}
use Rattle.flow_model.specs.Constraint.{Constraint, Never, Order, Always, And, conjoined, all_of}
use Rattle.flow_model.specs.declared.labels.Label.{Label}
use Rattle.flow_model.specs.Process.{Process, leaves}
use Rattle.flow_model.specs.Ways.{normal_form, ways, ways_of, ways_of_never, ways_of_before, leaf_of_event, free_way, is_free}
use Rattle.flow_model.specs.Resolution.{ChoiceOption, option_size}
use Rattle.flow_workflow.specs.Rule.{any_of}
use Rattle.flow_form.specs.Names.{event_names}
use Rattle.flow_expand.specs.Constraints.{constraint_of}
use Rattle.flow_excise.proofs.TallyLemmas.{bulk-cons}
use Rattle.flow_gen.specs.Generated.{all_draws, constraints, generated}
use Rattle.flow_gen.proofs.SaidTexts.{rule_draws}
use Rattle.flow_gen.proofs.Expanded.{number_is}

-- the constraint that the first of two events precedes the second
abbrev pub precedence : ℕ → ℕ → Constraint
precedence x y = any_of (Never x ∷ Never y ∷ Order (x ∷ y ∷ []) ∷ [])

-- it is that of two events in the order of their numbers
pub record IsPrecedence (c : Constraint) : Type 0 where
  pub first : ℕ
  pub second : ℕ
  pub less : first < second
  pub is : c ≡ precedence first second

module _ (seed size : ℕ) (some : 1 ≤ size) (few : size ≤ GREATEST_SIZE) where
  each_is : (first : ℕ) (ds : List ℕ) → first + 8 + 4 * length ds ≤ 8 * size → Each IsPrecedence (map (constraint_of (event_names (generated seed size).decls)) (constraints first ds))
  each_is first (f ∷ g ∷ ds) fits =
      let x = number_is seed size some few (first + f % 8) (omega arith) in
      let y = number_is seed size some few (first + 8 + g % 8) (omega arith) in
      (record { first = _; second = _; less = omega (arith, x, y); is = refl }, each_is (first + 8) ds (omega arith))
  each_is first fewer fits = tt

  -- each is that one event of a block precedes one of the next block
  pub rules_are : Each IsPrecedence (map (constraint_of (event_names (generated seed size).decls)) (generated seed size).rules)
  rules_are = let left = rule_draws seed size in each_is 0 (drop size (all_draws seed size)) (omega (arith, left, some))

constraints_count : (first : ℕ) (ds : List ℕ) → 2 * length (constraints first ds) ≤ length ds
constraints_count first (f ∷ g ∷ ds) = omega (arith, constraints_count (first + 8) ds)
constraints_count first fewer = omega arith

pub few_rules : (seed size : ℕ) → length (map (constraint_of (event_names (generated seed size).decls)) (generated seed size).rules) ≤ size - 1
few_rules seed size =
    let same = length-map (generated seed size).rules (constraint_of (event_names (generated seed size).decls)) in
    omega (arith, same, constraints_count 0 (drop size (all_draws seed size)), rule_draws seed size)

-- Ways

-- it is one way, and that has no more pairs
pub record IsOneWay (most : ℕ) (ws : List (List (ℕ × ℕ))) : Type 0 where
  pub way : List (ℕ × ℕ)
  pub only : ws ≡ way ∷ []
  pub pairs : length way ≤ most

-- the ways of one and of another, or the one that asks for nothing
abbrev one_or : List (List (ℕ × ℕ)) → List (List (ℕ × ℕ)) → List (List (ℕ × ℕ))
one_or vs ws = if is_free vs || is_free ws then free_way else vs ++ ws

precede_ways : (same : Bool) → same ≡ false → (o p : Option ℕ) →
    IsOneWay 1 (one_or (one_or (one_or [] (ways_of_never o)) (ways_of_never p)) (if same then [] else ways_of_before o p))
precede_ways true e o p = cc
precede_ways false e (Some x) (Some y) = record { way = (x, y) ∷ []; only = refl; pairs = omega arith }
precede_ways false e o p = record { way = []; only = refl; pairs = omega arith }

module _ (leaf : ℕ → Option ℕ) where
  precedence_way : (c : Constraint) → IsPrecedence c → IsOneWay 1 (ways (normal_form c true) leaf)
  precedence_way c p =
      let apart : (p.first == p.second) ≡ false = ne_eqb p.first p.second (λ e. omega (arith, e, p.less)) in
      let one : IsOneWay 1 (ways (normal_form (precedence p.first p.second) true) leaf) = precede_ways (p.first == p.second) apart (leaf p.first) (leaf p.second) in
      subst (λ d. IsOneWay 1 (ways (normal_form d true) leaf)) (sym p.is) one

  -- and all of them are
  both_ways : (m n : ℕ) (vs ws : List (List (ℕ × ℕ))) → IsOneWay m vs → IsOneWay n ws → IsOneWay (m + n) (each_with_each (λ v w. v ++ w) vs ws)
  both_ways m n vs ws p q = record {
    way = p.way ++ q.way;
    only = ap₂ (each_with_each (λ v w. v ++ w)) p.only q.only;
    pairs = omega (arith, length-append p.way q.way, p.pairs, q.pairs);
  }

  conjoined_way : (cs : List Constraint) → Each IsPrecedence cs → (c : Constraint) (most : ℕ) → IsOneWay most (ways (normal_form c true) leaf) →
      IsOneWay (most + length cs) (ways (normal_form (conjoined c cs) true) leaf)
  conjoined_way [] h c most one = record { way = one.way; only = one.only; pairs = omega (arith, one.pairs) }
  conjoined_way (d ∷ cs) h c most one =
      let both : IsOneWay (most + 1) (ways (normal_form (And c d) true) leaf) = both_ways most 1 (ways (normal_form c true) leaf) (ways (normal_form d true) leaf) one (precedence_way d h.0) in
      let rest = conjoined_way cs h.1 (And c d) (most + 1) both in
      record { way = rest.way; only = rest.only; pairs = omega (arith, rest.pairs) }

pub one_way : (cs : List Constraint) (labels : List Label) (ls : List ℕ) → Each IsPrecedence cs → IsOneWay (length cs) (ways_of (all_of cs) labels ls)
one_way cs labels ls h =
    let none : 0 + length cs ≡ length cs = omega arith in
    let free : IsOneWay 0 (ways (normal_form Always true) (leaf_of_event labels ls)) = record { way = []; only = refl; pairs = omega arith } in
    subst (λ n. IsOneWay n (ways_of (all_of cs) labels ls)) none (conjoined_way (leaf_of_event labels ls) cs h Always 0 free)

-- Options

-- the options of one resolution, by its ways
abbrev pub options_by : (Process → List (List (ℕ × ℕ))) → Process → List ChoiceOption
options_by ways_of_one q = map (λ (way : List (ℕ × ℕ)). let x : ChoiceOption = record { resolution = q; order = way } in x) (ways_of_one q)

-- each resolution is one option, with few leaves and pairs
pub record AreSingle (ways_of_one : Process → List (List (ℕ × ℕ))) (qs : List Process) (most : ℕ) : Type 0 where
  pub count : length (flat_map (options_by ways_of_one) qs) ≡ length qs
  pub size : sum (map option_size (flat_map (options_by ways_of_one) qs)) ≤ length qs * most

pub are_single : (ways_of_one : Process → List (List (ℕ × ℕ))) (qs : List Process) (many most : ℕ) → ((q : Process) → q ∈ qs → length (leaves q) ≤ many) →
    ((q : Process) → IsOneWay most (ways_of_one q)) → AreSingle ways_of_one qs (many + most)
are_single ways_of_one [] many most few one = record { count = refl; size = omega arith }
are_single ways_of_one (q ∷ qs) many most few one =
    let rest : AreSingle ways_of_one qs (many + most) = are_single ways_of_one qs many most (λ p m. few p (inr m)) one in
    let o : ChoiceOption = record { resolution = q; order = (one q).way } in
    let others = flat_map (options_by ways_of_one) qs in
    let here : options_by ways_of_one q ≡ o ∷ [] = ap (map (λ (way : List (ℕ × ℕ)). let x : ChoiceOption = record { resolution = q; order = way } in x)) (one q).only in
    let all : flat_map (options_by ways_of_one) (q ∷ qs) ≡ o ∷ others = ap (λ (os : List ChoiceOption). os ++ others) here in
    record {
      count = ap length all ∙ ap (λ n. suc n) rest.count;
      size = subst (λ (os : List ChoiceOption). sum (map option_size os) ≤ suc (length qs) * (many + most)) (sym all)
          (omega (arith, bulk-cons o others, suc-mul (length qs) (many + most), few q (inl refl), (one q).pairs, rest.size));
    }
