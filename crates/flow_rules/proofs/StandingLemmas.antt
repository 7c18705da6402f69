-- The lanes of words put together, and what they say of ways put together.
use Rattle.std.proofs.Common.{◌≡◌, ℕ, ◌-◌, ◌^◌, ◌+◌, ◌<◌, min, Bool, true, false, not, ◌==◌, ◌||◌, ◌&&◌, if◌then◌else◌, List, length, take, get_or, Option, Some, None, refl, sym, ap, ◌∙◌, arith, bit_and, bit_or, w64}
use Rattle.std.specs.Int.{bit_at}
use Rattle.std.specs.Option.{is_some}
use Rattle.std.proofs.lemmas.Bool.Decides.{nat_tests}
use Rattle.std.proofs.lemmas.Nat.Bits.{bit_at_and, bit_at_or, bit_at_not, bit_at_ones, bit_at-lt, bit_at-zero}
use Rattle.leaf_rows.proofs.Rows.{one_or}
use Rattle.flow_model.specs.Ways.{is_free, ways, ways_of_must, ways_of_never}
use Rattle.flow_rules.specs.declared.lanes.Lanes.{Lanes}
use Rattle.flow_rules.specs.declared.standing.Standing.{Standing}
use Rattle.flow_rules.specs.Lanes.{Shows, word_of}
use Rattle.flow_model.specs.declared.operators.Connective.{Connective}
use Rattle.flow_rules.specs.declared.normal.Nnf.{Nnf}
use Rattle.flow_rules.specs.Normal.{event_form, normal_of, pair_form}
use Rattle.flow_rules.specs.Standing.{Stands, StandsIn, has_lane, lanes_where}
use Rattle.flow_rules.specs.WayLists.{decided, decider, is_decided, is_none, joined_by, pair_in, pair_of, ways_of_pair, ways_of_parts}
use Rattle.flow_rules.proofs.NormalViews.{pair_ways}
use Rattle.flow_rules.proofs.WayListLemmas.{decided_by_both, decided_by_one, parts_more}

-- lanes of words

one_and : (a b : ℕ) → a < 2 → b < 2 → (min a b == 1) ≡ (a == 1 && b == 1)
one_and a b small_a small_b = grind (arith, nat_tests)

one_not : (a : ℕ) → a < 2 → (1 - a == 1) ≡ not (a == 1)
one_not a small = grind (arith, nat_tests)

pub lane_and : (a b lane : ℕ) → has_lane (bit_and a b) lane ≡ (has_lane a lane && has_lane b lane)
lane_and a b lane = ap (λ (d : ℕ). d == 1) (bit_at_and a b lane) ∙ one_and (bit_at a lane) (bit_at b lane) (bit_at-lt a lane) (bit_at-lt b lane)

pub lane_or : (a b lane : ℕ) → has_lane (bit_or a b) lane ≡ (has_lane a lane || has_lane b lane)
lane_or a b lane = ap (λ (d : ℕ). d == 1) (bit_at_or a b lane) ∙ one_or (bit_at a lane) (bit_at b lane) (bit_at-lt a lane) (bit_at-lt b lane)

pub lane_not : (n lane : ℕ) → n < 2 ^ 64 → lane < 64 → has_lane (2 ^ 64 - 1 - n) lane ≡ not (has_lane n lane)
lane_not n lane fits within = ap (λ (d : ℕ). d == 1) (bit_at_not w64 n lane fits within) ∙ one_not (bit_at n lane) (bit_at-lt n lane)

pub lane_none : (lane : ℕ) → has_lane 0 lane ≡ false
lane_none lane = ap (λ (d : ℕ). d == 1) (bit_at-zero lane)

pub lane_all : (lane : ℕ) → lane < 64 → has_lane (2 ^ 64 - 1) lane ≡ true
lane_all lane within = ap (λ (d : ℕ). d == 1) (bit_at_ones 64 lane within)

-- the two words of a standing

pub stand_of : (s : Standing) (met : Bool) (lane : ℕ) (vs : List (List (ℕ × ℕ))) → has_lane (lanes_where s met) lane ≡ is_decided met vs →
    has_lane (lanes_where s (not met)) lane ≡ is_decided (not met) vs → StandsIn s lane vs
stand_of s true lane vs h n true = h
stand_of s true lane vs h n false = n
stand_of s false lane vs h n true = n
stand_of s false lane vs h n false = h

pub stand_as : (s : Standing) (lane : ℕ) (vs ws : List (List (ℕ × ℕ))) → vs ≡ ws → StandsIn s lane vs → StandsIn s lane ws
stand_as s lane vs ws same p = λ met. p met ∙ ap (is_decided met) same

stand_with : (c : Connective) (a b new : Standing) (lane : ℕ) (vs ws : List (List (ℕ × ℕ))) →
    lanes_where new (decider c) ≡ bit_or (lanes_where a (decider c)) (lanes_where b (decider c)) →
    lanes_where new (not (decider c)) ≡ bit_and (lanes_where a (not (decider c))) (lanes_where b (not (decider c))) →
    StandsIn a lane vs → StandsIn b lane ws → StandsIn new lane (joined_by c vs ws)
stand_with c a b new lane vs ws one both p q = stand_of new (decider c) lane (joined_by c vs ws)
    (ap (λ (w : ℕ). has_lane w lane) one ∙ lane_or (lanes_where a (decider c)) (lanes_where b (decider c)) lane
    ∙ (λ k. p (decider c) k || q (decider c) k) ∙ sym (decided_by_one c vs ws))
    (ap (λ (w : ℕ). has_lane w lane) both ∙ lane_and (lanes_where a (not (decider c))) (lanes_where b (not (decider c))) lane
    ∙ (λ k. p (not (decider c)) k && q (not (decider c)) k) ∙ sym (decided_by_both c vs ws))

-- where parts stand with one part more
pub stand_more : (c : Connective) (lanes : Lanes) (parts : List Nnf) (i : ℕ) (part : Nnf) → i < length parts → part ≡ get_or parts i part → (a b new : Standing) →
    lanes_where new (decider c) ≡ bit_or (lanes_where a (decider c)) (lanes_where b (decider c)) →
    lanes_where new (not (decider c)) ≡ bit_and (lanes_where a (not (decider c))) (lanes_where b (not (decider c))) →
    Stands a lanes (λ leaf. ways_of_parts c leaf (take i parts)) → Stands b lanes (ways (normal_of part)) →
    Stands new lanes (λ leaf. ways_of_parts c leaf (take (i + 1) parts))
stand_more c lanes parts i part inside is a b new one both p q lane leaf within shows =
    stand_as new lane (joined_by c (ways_of_parts c leaf (take i parts)) (ways (normal_of part) leaf)) (ways_of_parts c leaf (take (i + 1) parts))
    (sym (parts_more c leaf parts i part inside is))
    (stand_with c a b new lane (ways_of_parts c leaf (take i parts)) (ways (normal_of part) leaf) one both (p lane leaf within shows) (q lane leaf within shows))

decided_so : (met : Bool) → (is_decided met (decided met) ≡ true) × (is_decided (not met) (decided met) ≡ false)
decided_so true = (refl, refl)
decided_so false = (refl, refl)

pub stand_everywhere : (s : Standing) (met : Bool) → lanes_where s met ≡ 2 ^ 64 - 1 → lanes_where s (not met) ≡ 0 → (lane : ℕ) → lane < 64 → StandsIn s lane (decided met)
stand_everywhere s met all none lane within = stand_of s met lane (decided met)
    (ap (λ (w : ℕ). has_lane w lane) all ∙ lane_all lane within ∙ sym (decided_so met).0)
    (ap (λ (w : ℕ). has_lane w lane) none ∙ lane_none lane ∙ sym (decided_so met).1)

-- an event

must_decided : (o : Option ℕ) → (is_free (ways_of_must o) ≡ is_some o) × (is_none (ways_of_must o) ≡ not (is_some o))
must_decided None = (refl, refl)
must_decided (Some x) = (refl, refl)

never_decided : (o : Option ℕ) → (is_none (ways_of_never o) ≡ is_some o) × (is_free (ways_of_never o) ≡ not (is_some o))
never_decided None = (refl, refl)
never_decided (Some x) = (refl, refl)

event_decided : (leaf : ℕ → Option ℕ) (wanted : Bool) (event : ℕ) →
    (is_decided wanted (ways (event_form wanted event) leaf) ≡ is_some (leaf event)) × (is_decided (not wanted) (ways (event_form wanted event) leaf) ≡ not (is_some (leaf event)))
event_decided leaf true event = must_decided (leaf event)
event_decided leaf false event = never_decided (leaf event)

here : (lanes : Lanes) (event word lane : ℕ) (leaf : ℕ → Option ℕ) → word ≡ word_of lanes event → Shows lanes lane leaf →
    has_lane word lane ≡ is_some (leaf event)
here lanes event word lane leaf is shows = ap (λ (w : ℕ). has_lane w lane) is ∙ shows event

pub stand_event : (lanes : Lanes) (wanted : Bool) (event word : ℕ) (s : Standing) → word ≡ word_of lanes event → word < 2 ^ 64 →
    lanes_where s wanted ≡ word → lanes_where s (not wanted) ≡ 2 ^ 64 - 1 - word → Stands s lanes (ways (event_form wanted event))
stand_event lanes wanted event word s is fits free unmet lane leaf within shows =
    let there = here lanes event word lane leaf is shows in
    let decides = event_decided leaf wanted event in
    stand_of s wanted lane (ways (event_form wanted event) leaf) (ap (λ (w : ℕ). has_lane w lane) free ∙ there ∙ sym decides.0)
    (ap (λ (w : ℕ). has_lane w lane) unmet ∙ lane_not word lane fits within ∙ ap not there ∙ sym decides.1)

-- two events

pair_there : (wanted : Bool) (o p : Option ℕ) → is_some (pair_of wanted o p) ≡ (is_some o && is_some p)
pair_there true (Some x) (Some y) = refl
pair_there false (Some x) (Some y) = refl
pair_there wanted o p = refl

pub both_there : (lanes : Lanes) (a b v w lane : ℕ) (leaf : ℕ → Option ℕ) (wanted : Bool) → v ≡ word_of lanes a → w ≡ word_of lanes b → (a == b) ≡ false →
    Shows lanes lane leaf → has_lane (bit_and v w) lane ≡ is_some (pair_in leaf wanted a b)
both_there lanes a b v w lane leaf wanted is_a is_b apart shows =
    lane_and v w lane ∙ (λ k. here lanes a v lane leaf is_a shows k && here lanes b w lane leaf is_b shows k)
    ∙ sym (ap (λ (same : Bool). is_some (if same then None else pair_of wanted (leaf a) (leaf b))) apart ∙ pair_there wanted (leaf a) (leaf b))

pair_decided : (wanted : Bool) (pair : Option (ℕ × ℕ)) →
    (is_decided wanted (ways_of_pair wanted pair) ≡ false) × (is_decided (not wanted) (ways_of_pair wanted pair) ≡ not (is_some pair))
pair_decided true None = (refl, refl)
pair_decided true (Some p) = (refl, refl)
pair_decided false None = (refl, refl)
pair_decided false (Some p) = (refl, refl)

pub stand_order : (lanes : Lanes) (wanted : Bool) (a b word : ℕ) (s : Standing) →
    ((lane : ℕ) (leaf : ℕ → Option ℕ) (wanted : Bool) → Shows lanes lane leaf → has_lane word lane ≡ is_some (pair_in leaf wanted a b)) → word < 2 ^ 64 →
    lanes_where s wanted ≡ 0 → lanes_where s (not wanted) ≡ 2 ^ 64 - 1 - word → Stands s lanes (ways (pair_form wanted a b))
stand_order lanes wanted a b word s there fits free unmet lane leaf within shows =
    let pair = pair_in leaf wanted a b in
    let decides = pair_decided wanted pair in
    stand_as s lane (ways_of_pair wanted pair) (ways (pair_form wanted a b) leaf) (sym (pair_ways leaf wanted a b))
    (stand_of s wanted lane (ways_of_pair wanted pair) (ap (λ (w : ℕ). has_lane w lane) free ∙ lane_none lane ∙ sym decides.0)
    (ap (λ (w : ℕ). has_lane w lane) unmet ∙ lane_not word lane fits within ∙ ap not (there lane leaf wanted shows) ∙ sym decides.1))
