-- Rings begun at another of their members.
use Rattle.std.proofs.Common.{◌≡◌, ℕ, suc, ◌+◌, ◌<◌, ◌≤◌, List, ◌∷◌, ◌++◌, map, length, get_or, take, drop, sym, ap, ◌∙◌, subst, inr, arith, length-append, drop-cons}
use Rattle.std.proofs.lemmas.List.{take-append-drop, map-append, take-map, drop-map}
use Rattle.flow_model.specs.Lists.{◌∈◌, Each, AreDistinct}
use Rattle.flow_model.specs.Process.{Process}
use Rattle.flow_model.specs.Ready.{isolated_parts}
use Rattle.flow_model.specs.Circle.{items_of, IsCircle, IsRing, least_of, BeginsWithLeast}
use Rattle.flow_model.proofs.Lists.{distinct_swap, each_member, mem_swap, each_from_members}
use Rattle.flow_laws.proofs.CircleOrTrace.{turn}
use Rattle.flow_sample.specs.Turned.{IsTurned}
use Rattle.flow_plan.proofs.PlaceLemmas.{place_of_member}

-- members by places

pub mem_turned : {A : Type 0} (p : ℕ) (xs : List A) (x : A) → x ∈ (drop p xs ++ take p xs) → x ∈ xs
mem_turned p xs x m = subst (λ z. x ∈ z) (take-append-drop p xs) (mem_swap x (drop p xs) (take p xs) m)

pub begins_with_least : (xs : List ℕ) (p : ℕ) → p < length xs → ((k : ℕ) → k < length xs → get_or xs p 0 ≤ get_or xs k 0) →
    BeginsWithLeast (drop p xs ++ take p xs)
begins_with_least xs p l h =
    subst (λ (z : List ℕ). BeginsWithLeast (z ++ take p xs)) (sym (drop-cons xs p 0 l))
    (each_from_members (λ m. get_or xs p 0 ≤ m) (drop (suc p) xs ++ take p xs)
    (λ m k. let r = place_of_member xs m (mem_turned p xs m (subst (λ (z : List ℕ). m ∈ (z ++ take p xs)) (sym (drop-cons xs p 0 l)) (inr k))) in
    subst (λ n. get_or xs p 0 ≤ n) r.2 (h r.0 r.1)))

-- a ring of items, written and turned, is a circle
pub circle_from_ring : (q : Process) (pairs : List (ℕ × ℕ)) (part : Process) (ring : List (List ℕ)) (circle : List ℕ) → part ∈ (q ∷ isolated_parts q) →
    Each (λ item. item ∈ items_of part) ring → AreDistinct ring → 2 ≤ length ring → IsRing q pairs ring →
    IsTurned (map least_of ring) circle → IsCircle q pairs circle
circle_from_ring q pairs part ring circle is_part items distinct two closed t =
    let whole : take t.place ring ++ drop t.place ring ≡ ring = take-append-drop t.place ring in
    let long : length (take t.place ring) + length (drop t.place ring) ≡ length ring =
    sym (length-append (take t.place ring) (drop t.place ring)) ∙ ap length whole in
    record {
      part = part;
      is_part = is_part;
      ring = drop t.place ring ++ take t.place ring;
      items = each_from_members (λ item. item ∈ items_of part) (drop t.place ring ++ take t.place ring)
          (λ item m. each_member (λ i. i ∈ items_of part) ring items item (mem_turned t.place ring item m));
      distinct = distinct_swap (take t.place ring) (drop t.place ring) (subst AreDistinct (sym whole) distinct);
      two = omega (arith, length-append (drop t.place ring) (take t.place ring));
      closed = turn q pairs (take t.place ring) (drop t.place ring) (subst (IsRing q pairs) (sym whole) closed);
      written = t.turned ∙ (λ i. drop-map least_of t.place ring i ++ take-map least_of t.place ring i)
          ∙ sym (map-append least_of (drop t.place ring) (take t.place ring));
      from_least = t.from_least;
    }

pub turned_list : (old list seen new : List ℕ) (place : ℕ) → list ≡ old → seen ≡ list → new ≡ drop place list ++ take place list →
    place < length seen → ((k : ℕ) → k < length seen → get_or seen place 0 ≤ get_or seen k 0) → IsTurned old new
turned_list old list seen new place e f g l h =
    let begun = begins_with_least seen place l h in
    let is : new ≡ drop place seen ++ take place seen = g ∙ sym (ap (λ (z : List ℕ). drop place z ++ take place z) f) in
    record {
      place = place;
      turned = g ∙ ap (λ (z : List ℕ). drop place z ++ take place z) e;
      from_least = subst BeginsWithLeast (sym is) begun;
    }
