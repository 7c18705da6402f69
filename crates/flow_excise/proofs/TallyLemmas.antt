-- Tallies of options, resolution by resolution.
use Rattle.std.proofs.Common.{◌≡◌, ◌==◌, Bool, not, subst, ℕ, ◌+◌, ◌*◌, ◌-◌, ◌^◌, List, [], ◌∷◌, ◌++◌, length, take, map, sum, sym, ap, ◌∙◌, arith, Some, slice_get, append-nil}
use Rattle.std.specs.List.{flat_map}
use Rattle.std.proofs.Math.Nat.{zero-mul, suc-mul, mul_comm, add-zero}
use Rattle.std.proofs.lemmas.List.{length-append, length-map, map-append}
use Rattle.std.proofs.lemmas.List.Sums.{sum-map, sum_by-append, sum_by-cons}
use Rattle.std.proofs.lemmas.Grind.{flat_map-append}
use Rattle.std.proofs.lemmas.Option.{slice_get_within, get_or_from_slice_get}
use Rattle.std.proofs.lemmas.List.{take_more}
use Rattle.flow_model.specs.Lists.{joined}
use Rattle.flow_model.specs.Process.{Process, leaves}
use Rattle.flow_model.specs.Ways.{Normal}
use Rattle.flow_model.specs.Resolution.{ChoiceOption, option_size}
use Rattle.flow_rules.specs.declared.way_count.WayCount.{WayCount}
use Rattle.flow_goal.specs.Capped.{capped}
use Rattle.flow_rules.specs.WayCount.{count_of}
use Rattle.flow_goal.proofs.Counting.{product_right, sum_capped}
use Rattle.flow_rules.proofs.WayCountLemmas.{none_left}
use Rattle.flow_excise.specs.declared.tally.Counted.{Counted}
use Rattle.flow_excise.specs.declared.tally.Tally.{Tally}
use Rattle.flow_excise.specs.Tally.{IsCountedTo, tally_of, added, tally_by}
use Rattle.flow_excise.specs.Options.{FoldedTree, has_ways, option_by, options_by, resolutions_in, ways_by}

-- two lists of options

pub bulk-append : (a b : List ChoiceOption) → sum (map option_size (a ++ b)) ≡ sum (map option_size a) + sum (map option_size b)
bulk-append a b =
    sum-map option_size (a ++ b) ∙ sum_by-append option_size a b ∙ sym (λ k. sum-map option_size a k + sum-map option_size b k)

pub bulk-cons : (o : ChoiceOption) (os : List ChoiceOption) → sum (map option_size (o ∷ os)) ≡ option_size o + sum (map option_size os)
bulk-cons o os =
    sum-map option_size (o ∷ os) ∙ sum_by-cons option_size o os ∙ sym (ap (λ n. option_size o + n) (sum-map option_size os))

pub tally-append : (a b : List ChoiceOption) → tally_of (a ++ b) ≡ added (tally_of a) (tally_of b)
tally-append a b =
    let m : ℕ = 2 ^ 64 - 1 in
    let options = ap capped (length-append a b) ∙ sym (sum_capped m (length a) (length b)) in
    let size = ap capped (bulk-append a b) ∙ sym (sum_capped m (sum (map option_size a)) (sum (map option_size b))) in
    λ k. record { options = options k; bulk = size k }

-- one resolution

sizes_by : (q : Process) (ws : List (List (ℕ × ℕ))) →
    sum (map option_size (map (option_by q) ws)) ≡ length ws * length (leaves q) + length (joined ws)
sizes_by q [] = sym (add-zero (0 * length (leaves q)) ∙ zero-mul (length (leaves q)))
sizes_by q (w ∷ ws) =
    let e = sizes_by q ws in
    let f = suc-mul (length ws) (length (leaves q)) in
    let g = length-append w (joined ws) in
    let h = bulk-cons (option_by q w) (map (option_by q) ws) in
    omega arith

tally_of_ways : (q : Process) (ws : List (List (ℕ × ℕ))) → tally_of (map (option_by q) ws) ≡ tally_by (length (leaves q)) (count_of ws)
tally_of_ways q ws =
    let m : ℕ = 2 ^ 64 - 1 in
    let l : ℕ = length (leaves q) in
    let held : capped (length ws * l) ≡ capped (capped (length ws) * l) =
    ap capped (mul_comm (length ws) l) ∙ sym (product_right m l (length ws)) ∙ ap capped (mul_comm l (capped (length ws))) in
    let size : capped (sum (map option_size (map (option_by q) ws))) ≡ capped (capped (capped (length ws) * l) + capped (length (joined ws))) =
    ap capped (sizes_by q ws) ∙ sym (sum_capped m (length ws * l) (length (joined ws))) ∙ ap (λ n. capped (n + capped (length (joined ws)))) held in
    λ k. record { options = capped (length-map ws (option_by q) k); bulk = size k }

tally_found : (t : FoldedTree) (n : Normal) (q : Process) (count : WayCount) → count ≡ count_of (ways_by t n q) →
    tally_by (length (leaves q)) count ≡ tally_of (options_by t n q)
tally_found t n q count counted = ap (tally_by (length (leaves q))) counted ∙ sym (tally_of_ways q (ways_by t n q))

-- whether it has an option
met_found : (t : FoldedTree) (n : Normal) (q : Process) (count : WayCount) → count ≡ count_of (ways_by t n q) → not (count.ways == 0) ≡ has_ways t n q
met_found t n q count counted = ap (λ (c : WayCount). not (c.ways == 0)) counted ∙ ap not (none_left (ways_by t n q))

-- one resolution more

pub taken_more : {A : Type 0} (xs : List A) (i : ℕ) (x : A) → slice_get xs i ≡ Some x → take (i + 1) xs ≡ take i xs ++ x ∷ []
taken_more xs i x h = take_more xs i x (slice_get_within xs i x h) ∙ ap (λ y. take i xs ++ y ∷ []) (get_or_from_slice_get xs i x x h)

pub flat_more : {A B : Type 0} (f : A → List B) (xs : List A) (i : ℕ) (x : A) → slice_get xs i ≡ Some x →
    flat_map f (take (i + 1) xs) ≡ flat_map f (take i xs) ++ f x
flat_more f xs i x h =
    ap (flat_map f) (taken_more xs i x h) ∙ flat_map-append f (take i xs) (x ∷ []) ∙ ap (λ l. flat_map f (take i xs) ++ l) (append-nil (f x))

tally_more : (t : FoldedTree) (n : Normal) (i : ℕ) (q : Process) (old one new : Tally) → slice_get (resolutions_in t) i ≡ Some q →
    old ≡ tally_of (flat_map (options_by t n) (take i (resolutions_in t))) → one ≡ tally_of (options_by t n q) → new ≡ added old one →
    new ≡ tally_of (flat_map (options_by t n) (take (i + 1) (resolutions_in t)))
tally_more t n i q old one new there so_far this made =
    made ∙ (λ k. added (so_far k) (this k))
    ∙ sym (ap tally_of (flat_more (options_by t n) (resolutions_in t) i q there)
    ∙ tally-append (flat_map (options_by t n) (take i (resolutions_in t))) (options_by t n q))

met_more : (t : FoldedTree) (n : Normal) (i : ℕ) (q : Process) (old new : List Bool) (b : Bool) → slice_get (resolutions_in t) i ≡ Some q →
    old ≡ map (has_ways t n) (take i (resolutions_in t)) → b ≡ has_ways t n q → new ≡ old ++ b ∷ [] →
    new ≡ map (has_ways t n) (take (i + 1) (resolutions_in t))
met_more t n i q old new b there so_far this made =
    made ∙ (λ k. so_far k ++ this k ∷ [])
    ∙ sym (ap (map (has_ways t n)) (taken_more (resolutions_in t) i q there)
    ∙ map-append (has_ways t n) (take i (resolutions_in t)) (q ∷ []))

pub counted_more : (t : FoldedTree) (n : Normal) (i next long : ℕ) (q : Process) (count : WayCount) (old new : Counted) → next ≡ i + 1 →
    slice_get (resolutions_in t) i ≡ Some q → count ≡ count_of (ways_by t n q) → long ≡ length (leaves q) →
    new.tally ≡ added old.tally (tally_by long count) → new.met.items ≡ old.met.items ++ not (count.ways == 0) ∷ [] →
    IsCountedTo t n i old → IsCountedTo t n next new
counted_more t n i next long q count old new e there counted length_is more met so_far =
    let after : IsCountedTo t n (i + 1) new = record {
      tally = tally_more t n i q old.tally (tally_by long count) new.tally there so_far.tally
          (ap (λ l. tally_by l count) length_is ∙ tally_found t n q count counted) more;
      met = met_more t n i q old.met.items new.met.items (not (count.ways == 0)) there so_far.met (met_found t n q count counted) met;
    } in
    subst (λ k. IsCountedTo t n k new) (sym e) after

-- as many where the lists of them are the same
pub counted_same : (t : FoldedTree) (n : Normal) (i j : ℕ) (counted : Counted) → take i (resolutions_in t) ≡ take j (resolutions_in t) →
    IsCountedTo t n i counted → IsCountedTo t n j counted
counted_same t n i j counted e so_far = record {
  tally = so_far.tally ∙ ap (λ qs. tally_of (flat_map (options_by t n) qs)) e;
  met = so_far.met ∙ ap (map (has_ways t n)) e;
}
