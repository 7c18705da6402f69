-- How many ways lists have that are put together, and how many pairs.
use Rattle.std.proofs.Common.{◌≡◌, ℕ, suc, ◌+◌, ◌*◌, ◌-◌, ◌^◌, ◌==◌, Bool, true, false, ◌||◌, ◌&&◌, if◌then◌else◌, not, true≢false, List, [], ◌∷◌, ◌++◌, length, map, Option, Some, None, refl, sym, ap, ◌∙◌, inl, inr, arith}
use Rattle.std.specs.Option.{is_some}
use Rattle.std.proofs.Math.Nat.{zero-mul, mul-zero, suc-mul, mul-suc, add-mul}
use Rattle.std.proofs.lemmas.Bool.{ne_eqb}
use Rattle.std.proofs.lemmas.List.{length-append}
use Rattle.flow_model.proofs.MadeLists.{joined-append, length-each_with_each}
use Rattle.flow_model.specs.Lists.{joined}
use Rattle.flow_model.specs.Ways.{free_way, is_free}
use Rattle.flow_goal.specs.Capped.{capped}
use Rattle.flow_goal.proofs.Counting.{min_cases, product_capped, sum_capped}
use Rattle.flow_rules.specs.WayCount.{count_of, counts_beside, counts_of_both, is_free_count}
use Rattle.flow_rules.specs.WayLists.{both_ways, decided, either_way, is_none, ways_of_pair}

-- lengths

joined_length : (vs ws : List (List (ℕ × ℕ))) → length (joined (vs ++ ws)) ≡ length (joined vs) + length (joined ws)
joined_length vs ws = ap length (joined-append vs ws) ∙ length-append (joined vs) (joined ws)

front_pairs : (v : List (ℕ × ℕ)) (ws : List (List (ℕ × ℕ))) →
    length (joined (map (λ w. v ++ w) ws)) ≡ length v * length ws + length (joined ws)
front_pairs v [] = sym (ap (λ t. t + 0) (mul-zero (length v)))
front_pairs v (w ∷ ws) =
    let e = front_pairs v ws in
    let f = length-append (v ++ w) (joined (map (λ u. v ++ u) ws)) in
    let g = length-append v w in
    let h = length-append w (joined ws) in
    let i = mul-suc (length v) (length ws) in
    omega arith

both_pairs : (vs ws : List (List (ℕ × ℕ))) →
    length (joined (both_ways vs ws)) ≡ length (joined vs) * length ws + length vs * length (joined ws)
both_pairs [] ws = sym (λ k. zero-mul (length ws) k + zero-mul (length (joined ws)) k)
both_pairs (v ∷ vs) ws =
    let e = both_pairs vs ws in
    let f = joined_length (map (λ w. v ++ w) ws) (both_ways vs ws) in
    let g = front_pairs v ws in
    let h = length-append v (joined vs) in
    let i = ap (λ t. t * length ws) h in
    let j = add-mul (length v) (length (joined vs)) (length ws) in
    let l = suc-mul (length vs) (length (joined ws)) in
    omega arith

-- counts

pub count_both : (vs ws : List (List (ℕ × ℕ))) → count_of (both_ways vs ws) ≡ counts_of_both (count_of vs) (count_of ws)
count_both vs ws =
    let m : ℕ = 2 ^ 64 - 1 in
    let ways = ap capped (length-each_with_each (λ v w. v ++ w) vs ws) ∙ sym (product_capped m (length vs) (length ws)) in
    let front = product_capped m (length (joined vs)) (length ws) in
    let back = product_capped m (length vs) (length (joined ws)) in
    let pairs =
    ap capped (both_pairs vs ws) ∙ sym (sum_capped m (length (joined vs) * length ws) (length vs * length (joined ws)))
    ∙ sym (λ k. capped (front k + back k)) in
    λ k. record { ways = ways k; pairs = pairs k }

some_left : (n : ℕ) → (capped (suc n) == 0) ≡ false
some_left n = ne_eqb (capped (suc n)) 0 (λ e. elim (min_cases (suc n) (2 ^ 64 - 1)) [ inl (p, f) ↦ omega arith | inr (p, f) ↦ omega arith ])

two_left : (n : ℕ) → (capped (suc (suc n)) == 1) ≡ false
two_left n =
    ne_eqb (capped (suc (suc n))) 1
    (λ e. elim (min_cases (suc (suc n)) (2 ^ 64 - 1)) [ inl (p, f) ↦ omega arith | inr (p, f) ↦ omega arith ])

and_false : (b c : Bool) → c ≡ false → (b && c) ≡ false
and_false true c e = e
and_false false c e = refl

pub free_count : (ws : List (List (ℕ × ℕ))) → is_free_count (count_of ws) ≡ is_free ws
free_count [] = refl
free_count ((pair ∷ pairs) ∷ ws) = and_false (capped (suc (length ws)) == 1) _ (some_left (length (pairs ++ joined ws)))
free_count ([] ∷ []) = refl
free_count ([] ∷ w ∷ ws) = ap (λ b. b && (capped (length (joined (w ∷ ws))) == 0)) (two_left (length ws))

pub count_beside : (vs ws : List (List (ℕ × ℕ))) → is_free vs ≡ false → is_free ws ≡ false → count_of (either_way vs ws) ≡ counts_beside (count_of vs) (count_of ws)
count_beside vs ws p q =
    let m : ℕ = 2 ^ 64 - 1 in
    let ways = ap capped (length-append vs ws) ∙ sym (sum_capped m (length vs) (length ws)) in
    let pairs = ap capped (joined_length vs ws) ∙ sym (sum_capped m (length (joined vs)) (length (joined ws))) in
    (λ k. count_of (if p k || q k then free_way else vs ++ ws)) ∙ (λ k. record { ways = ways k; pairs = pairs k })

pub none_left : (ws : List (List (ℕ × ℕ))) → ((count_of ws).ways == 0) ≡ is_none ws
none_left [] = refl
none_left (w ∷ ws) = some_left (length ws)

-- two events

pub pair_there : (wanted : Bool) (pair : Option (ℕ × ℕ)) → is_some pair ≡ true → record { ways = 1; pairs = 1 } ≡ count_of (ways_of_pair wanted pair)
pair_there wanted None there = absurd (true≢false (sym there))
pair_there wanted (Some pair) there = refl

pub none_there : (wanted : Bool) (pair : Option (ℕ × ℕ)) → is_some pair ≡ false → decided (not wanted) ≡ ways_of_pair wanted pair
none_there wanted None none = refl
none_there wanted (Some pair) none = absurd (true≢false none)
