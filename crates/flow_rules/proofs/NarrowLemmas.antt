-- What is kept of parts in some lanes, and the ways of narrowed rules.
use Rattle.std.proofs.Common.{◌≡◌, ℕ, ◌+◌, ◌-◌, ◌^◌, ◌<◌, Bool, true, false, not, true≢false, ◌||◌, ◌&&◌, if◌then◌else◌, List, [], ◌∷◌, ◌++◌, length, take, get_or, Option, refl, sym, ap, ◌∙◌, bit_and, bit_or, ◌==◌, ◌↔◌, arith, below_more}
use Rattle.std.proofs.lemmas.List.{get_or_append_left, get_or_push, get_or_read, length-append}
use Rattle.std.proofs.lemmas.Bool.{eq-eqb, eqb-true, not-false}
use Rattle.std.proofs.lemmas.Bool.Decides.{nat_tests}
use Rattle.std.proofs.lemmas.Nat.{and_le_l}
use Rattle.std.proofs.lemmas.Nat.Bits.{bit_at-lt, bit_at-zero, same_from_bits_below}
use Rattle.std.specs.Int.{bit_at}
use Rattle.std.proofs.lemmas.List.Sums.{fold-append}
use Rattle.flow_model.specs.Ways.{free_way, is_free, ways}
use Rattle.flow_rules.specs.declared.lanes.Lanes.{Lanes}
use Rattle.flow_rules.specs.declared.narrowed.LaneRule.{LaneRule}
use Rattle.flow_rules.specs.declared.normal.Nnf.{Nnf}
use Rattle.flow_rules.specs.declared.standing.Standing.{Standing}
use Rattle.flow_rules.specs.Lanes.{Shows}
use Rattle.flow_rules.specs.Narrowed.{AreFreeTo, HasWaysIn, HasFreeLanes, IsUnmet, LeftOf, open_ways, with_open}
use Rattle.flow_rules.specs.Normal.{normal_of}
use Rattle.flow_model.specs.declared.operators.Connective.{Connective}
use Rattle.flow_model.specs.declared.operators.Connective.TheVariants.{And}
use Rattle.flow_rules.specs.Standing.{Stands, has_lane, lanes_where}
use Rattle.flow_rules.specs.WayLists.{both_ways, decided, decider, joined_by, ways_of_parts}
use Rattle.flow_rules.proofs.StandingLemmas.{lane_and, lane_none, lane_not, lane_or}
use Rattle.flow_rules.proofs.WayListLemmas.{decided_is, fold_more, joined_idle, none_is, parts_more}

-- a word that covers the lanes of another

out_of : (b d : Bool) → (b && not d) ≡ false → b ≡ true → d ≡ true
out_of true true e h = refl
out_of true false e h = absurd (true≢false e)
out_of false d e h = absurd (true≢false (sym h))

into : (b d : Bool) → (b ≡ true → d ≡ true) → (b && not d) ≡ false
into true d h = ap not (h refl)
into false d h = refl

zero_digit : (d : ℕ) → d < 2 → (d == 1) ≡ false → d ≡ 0
zero_digit d small e = grind (arith, nat_tests)

-- a word with no lane is zero
no_lane : (n : ℕ) → n < 2 ^ 64 → ((lane : ℕ) → lane < 64 → has_lane n lane ≡ false) → n ≡ 0
no_lane n fits none =
    same_from_bits_below 64 n 0 fits (omega arith)
    (λ lane within. zero_digit (bit_at n lane) (bit_at-lt n lane) (none lane within) ∙ sym (bit_at-zero lane))

module _ (word wanted : ℕ) (fits : word < 2 ^ 64) (wanted_fits : wanted < 2 ^ 64) where
  left_out_of : (lane : ℕ) → lane < 64 → has_lane (bit_and wanted (2 ^ 64 - 1 - word)) lane ≡ (has_lane wanted lane && not (has_lane word lane))
  left_out_of lane within = lane_and wanted (2 ^ 64 - 1 - word) lane ∙ (λ k. has_lane wanted lane && lane_not word lane fits within k)

  pub covered : (bit_and wanted (2 ^ 64 - 1 - word) == 0) ≡ true ↔ ((lane : ℕ) → lane < 64 → has_lane wanted lane ≡ true → has_lane word lane ≡ true)
  covered = (
    λ none lane within.
        out_of (has_lane wanted lane) (has_lane word lane)
        (sym (left_out_of lane within) ∙ ap (λ (w : ℕ). has_lane w lane) (eqb-true (bit_and wanted (2 ^ 64 - 1 - word)) 0 none) ∙ lane_none lane),
    λ all.
        eq-eqb (bit_and wanted (2 ^ 64 - 1 - word)) 0
        (no_lane (bit_and wanted (2 ^ 64 - 1 - word)) (omega (arith, and_le_l wanted (2 ^ 64 - 1 - word)))
        (λ lane within. left_out_of lane within ∙ into (has_lane wanted lane) (has_lane word lane) (all lane within))),
  )

-- what is kept has the ways of the parts in each of the wanted lanes

abbrev pub KeepsWays : Connective → ℕ → Lanes → List Nnf → List Nnf → Type 0
KeepsWays c wanted lanes kept parts = (lane : ℕ) (leaf : ℕ → Option ℕ) → lane < 64 → Shows lanes lane leaf → has_lane wanted lane ≡ true →
    ways_of_parts c leaf kept ≡ ways_of_parts c leaf parts

module _ (c : Connective) (wanted : ℕ) (lanes : Lanes) (parts : List Nnf) (i : ℕ) (part : Nnf) (inside : i < length parts) (is : part ≡ get_or parts i part) where
  pub keeps_with : (kept new : List Nnf) (rule : Nnf) → new ≡ kept ++ rule ∷ [] → HasWaysIn rule wanted lanes (ways (normal_of part)) →
      KeepsWays c wanted lanes kept (take i parts) → KeepsWays c wanted lanes new (take (i + 1) parts)
  keeps_with kept new rule pushed same so_far = λ lane leaf within shows has.
      ap (ways_of_parts c leaf) pushed ∙ fold-append (λ vs r. joined_by c vs (ways (normal_of r) leaf)) (decided (not (decider c))) kept (rule ∷ [])
      ∙ (λ k. joined_by c (so_far lane leaf within shows has k) (same lane leaf within shows has k)) ∙ sym (parts_more c leaf parts i part inside is)

  pub keeps_without : (kept : List Nnf) (s : Standing) → Stands s lanes (ways (normal_of part)) →
      ((lane : ℕ) → lane < 64 → has_lane wanted lane ≡ true → has_lane (lanes_where s (not (decider c))) lane ≡ true) →
      KeepsWays c wanted lanes kept (take i parts) → KeepsWays c wanted lanes kept (take (i + 1) parts)
  keeps_without kept s stands idle so_far = λ lane leaf within shows has.
      let adds_none : ways (normal_of part) leaf ≡ decided (not (decider c)) =
      decided_is (not (decider c)) (ways (normal_of part) leaf) (sym (stands lane leaf within shows (not (decider c))) ∙ idle lane within has) in
      so_far lane leaf within shows has
      ∙ sym (parts_more c leaf parts i part inside is ∙ ap (joined_by c (ways_of_parts c leaf (take i parts))) adds_none ∙ joined_idle c (ways_of_parts c leaf (take i parts)))

-- rules that are open in some lanes

pub frees_more : (lanes : Lanes) (rules : List Nnf) (i : ℕ) (rule : Nnf) → i < length rules → rule ≡ get_or rules i rule → (words new : List ℕ) (word : ℕ) →
    new ≡ words ++ word ∷ [] → HasFreeLanes word lanes rule → AreFreeTo i words lanes rules → AreFreeTo (i + 1) new lanes rules
frees_more lanes rules i rule inside is words new word pushed frees so_far = record {
  size = ap length pushed ∙ length-append words (word ∷ []) ∙ ap (λ n. n + 1) so_far.size;
  each = below_more (λ k. (r : Nnf) → r ≡ get_or rules k r → HasFreeLanes (get_or new k 0) lanes r) i
      (λ k below r there lane leaf within shows.
      ap (λ (w : ℕ). has_lane w lane) (ap (λ (ws : List ℕ). get_or ws k 0) pushed ∙ get_or_append_left words (word ∷ []) 0 k (omega (arith, so_far.size)))
      ∙ so_far.each k below r there lane leaf within shows)
      (λ r there lane leaf within shows.
      ap (λ (w : ℕ). has_lane w lane) (ap (λ (ws : List ℕ). get_or ws i 0) pushed ∙ get_or_push words word 0 i so_far.size)
      ∙ frees lane leaf within shows
      ∙ ap (λ (q : Nnf). is_free (ways (normal_of q) leaf)) (is ∙ sym (get_or_read rules i r inside there rule)));
}

open_in : (free unmet lane : ℕ) → bit_or free unmet < 2 ^ 64 → lane < 64 → has_lane unmet lane ≡ false →
    has_lane (2 ^ 64 - 1 - bit_or free unmet) lane ≡ not (has_lane free lane)
open_in free unmet lane fits within met =
    lane_not (bit_or free unmet) lane fits within ∙ ap not (lane_or free unmet lane ∙ (λ k. has_lane free lane || met k))
    ∙ at (has_lane free lane)
  where
    at : (b : Bool) → not (b || false) ≡ not b
    at true = refl
    at false = refl

module _ (unmet : ℕ) (lanes : Lanes) (rules : List Nnf) (i : ℕ) (rule : Nnf) (inside : i < length rules) (is : rule ≡ get_or rules i rule)
    (free : ℕ) (frees : HasFreeLanes free lanes rule) (fits : bit_or free unmet < 2 ^ 64) where
  -- where it is not open there, the rule adds nothing
  closed : (left : List LaneRule) (lane : ℕ) (leaf : ℕ → Option ℕ) → lane < 64 → Shows lanes lane leaf → has_lane unmet lane ≡ false →
      has_lane (2 ^ 64 - 1 - bit_or free unmet) lane ≡ false → open_ways lane leaf left ≡ ways_of_parts And leaf (take i rules) → open_ways lane leaf left ≡ ways_of_parts And leaf (take (i + 1) rules)
  closed left lane leaf within shows met shut so_far =
      let here : has_lane free lane ≡ true = not-false (has_lane free lane) (sym (open_in free unmet lane fits within met) ∙ shut) in
      let these : ways (normal_of rule) leaf ≡ free_way = decided_is true (ways (normal_of rule) leaf) (sym (frees lane leaf within shows) ∙ here) in
      so_far
      ∙ sym (parts_more And leaf rules i rule inside is ∙ ap (joined_by And (ways_of_parts And leaf (take i rules))) these ∙ joined_idle And (ways_of_parts And leaf (take i rules)))

  pub left_out : (left : List LaneRule) → 2 ^ 64 - 1 - bit_or free unmet ≡ 0 → LeftOf unmet lanes left (take i rules) → LeftOf unmet lanes left (take (i + 1) rules)
  left_out left none so_far = λ lane leaf within shows met.
      closed left lane leaf within shows met (ap (λ (w : ℕ). has_lane w lane) none ∙ lane_none lane) (so_far lane leaf within shows met)

  pub left_in : (left new : List LaneRule) (r : LaneRule) → new ≡ left ++ r ∷ [] → r.lanes ≡ 2 ^ 64 - 1 - bit_or free unmet →
      HasWaysIn r.rule (2 ^ 64 - 1 - bit_or free unmet) lanes (ways (normal_of rule)) →
      LeftOf unmet lanes left (take i rules) → LeftOf unmet lanes new (take (i + 1) rules)
  left_in left new r pushed opens same so_far = λ lane leaf within shows met.
      let this : (b : Bool) → has_lane r.lanes lane ≡ b → (if b then both_ways (open_ways lane leaf left) (ways (normal_of r.rule) leaf) else open_ways lane leaf left) ≡ ways_of_parts And leaf (take (i + 1) rules) =
      at lane leaf within shows met in
      ap (open_ways lane leaf) pushed ∙ fold-append (with_open lane leaf) free_way left (r ∷ []) ∙ this (has_lane r.lanes lane) refl
    where
      at : (lane : ℕ) (leaf : ℕ → Option ℕ) → lane < 64 → Shows lanes lane leaf → has_lane unmet lane ≡ false → (b : Bool) → has_lane r.lanes lane ≡ b →
          (if b then both_ways (open_ways lane leaf left) (ways (normal_of r.rule) leaf) else open_ways lane leaf left) ≡ ways_of_parts And leaf (take (i + 1) rules)
      at lane leaf within shows met true e =
          (λ k. both_ways (so_far lane leaf within shows met k) (same lane leaf within shows (sym (ap (λ (w : ℕ). has_lane w lane) opens) ∙ e) k))
          ∙ sym (parts_more And leaf rules i rule inside is)
      at lane leaf within shows met false e =
          closed left lane leaf within shows met (sym (ap (λ (w : ℕ). has_lane w lane) opens) ∙ e) (so_far lane leaf within shows met)

-- the ways of all in a lane, where some are unmet in it and where none is
pub ways_of_left : (unmet : ℕ) (lanes : Lanes) (left : List LaneRule) (rules : List Nnf) → IsUnmet unmet lanes rules → LeftOf unmet lanes left rules →
    (lane : ℕ) (leaf : ℕ → Option ℕ) → lane < 64 → Shows lanes lane leaf → (if has_lane unmet lane then [] else open_ways lane leaf left) ≡ ways_of_parts And leaf rules
ways_of_left unmet lanes left rules is_unmet these lane leaf within shows = at (has_lane unmet lane) refl
  where
    at : (b : Bool) → has_lane unmet lane ≡ b → (if b then [] else open_ways lane leaf left) ≡ ways_of_parts And leaf rules
    at true e = sym (none_is (ways_of_parts And leaf rules) (sym (is_unmet lane leaf within shows) ∙ e))
    at false e = these lane leaf within shows e

-- the ways of one rule more, where it is open in the lane and where it is not
module _ (lane : ℕ) (leaf : ℕ → Option ℕ) (rules : List LaneRule) (i : ℕ) (rule : LaneRule) (inside : i < length rules) (is : rule ≡ get_or rules i rule) where
  abbrev before : List (List (ℕ × ℕ))
  before = open_ways lane leaf (take i rules)

  with_one : (b : Bool) → has_lane rule.lanes lane ≡ b → open_ways lane leaf (take (i + 1) rules) ≡ (if b then both_ways before (ways (normal_of rule.rule) leaf) else before)
  with_one b e = fold_more (with_open lane leaf) free_way rules i rule inside is ∙ ap (λ c. if c then both_ways before (ways (normal_of rule.rule) leaf) else before) e

  pub open_more : has_lane rule.lanes lane ≡ true → open_ways lane leaf (take (i + 1) rules) ≡ both_ways before (ways (normal_of rule.rule) leaf)
  open_more e = with_one true e

  pub closed_more : has_lane rule.lanes lane ≡ false → open_ways lane leaf (take (i + 1) rules) ≡ before
  closed_more e = with_one false e
