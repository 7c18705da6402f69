-- A test that a workflow is well-formed: the leaves of each of its resolutions have different events.
use Rattle.std.proofs.Common.{◌≡◌, ℕ, Bool, true, false, not, ◌&&◌, ◌==◌, List, [], ◌∷◌, length, refl, sym, ap, ◌∙◌, subst, inl, inr}
use Rattle.std.specs.List.{list_all}
use Rattle.std.proofs.lemmas.Bool.{eq-eqb}
use Rattle.flow_model.specs.Lists.{◌∈◌, AreDistinct}
use Rattle.flow_model.specs.Process.{leaves, IsNumbered}
use Rattle.flow_model.specs.Facts.{event_at, events_of}
use Rattle.flow_model.specs.Schema.{Schema, HasUniqueEvents}
use Rattle.flow_model.specs.Resolution.{resolutions}
use Rattle.flow_laws.specs.WellFormed.{IsWellFormed}
use Rattle.flow_model.proofs.MadeLists.{distinct-filter_map, distinct-numbers_from, same_source}
use Rattle.flow_laws.proofs.TraceLeaves.{leaf_of_trace, distinct_trace}
use Rattle.flow_laws.proofs.ResolutionsLemmas.{blocks_of_a_resolution}
use Rattle.flow_laws.proofs.ClaimLemmas.{and_parts}

abbrev pub are_distinct : List ℕ → Bool
are_distinct [] = true
are_distinct (x ∷ xs) = list_all (λ y. not (x == y)) xs && are_distinct xs

abbrev pub have_unique_events : Schema → Bool
have_unique_events w = list_all (λ q. are_distinct (events_of w.labels (leaves q))) (resolutions w.goal)

all_at : {A : Type 0} (p : A → Bool) (xs : List A) → list_all p xs ≡ true → (x : A) → x ∈ xs → p x ≡ true
all_at p [] h x m = absurd m
all_at p (y ∷ xs) h x (inl e) = subst (λ z. p z ≡ true) (sym e) (and_parts (p y) (list_all p xs) h).0
all_at p (y ∷ xs) h x (inr m) = all_at p xs (and_parts (p y) (list_all p xs) h).1 x m

distinct_by_test : (xs : List ℕ) → are_distinct xs ≡ true → AreDistinct xs
distinct_by_test [] h = tt
distinct_by_test (x ∷ xs) h =
    let (new, rest) = and_parts (list_all (λ y. not (x == y)) xs) (are_distinct xs) h in (
      λ m. let no : false ≡ true = sym (ap not (eq-eqb x x refl)) ∙ all_at (λ y. not (x == y)) xs new x m in cc,
      distinct_by_test xs rest,
    )

-- an execution is one of a resolution, so it has an event at one leaf at most
pub well_formed : (w : Schema) → IsNumbered w.goal (length w.labels) → have_unique_events w ≡ true → IsWellFormed w
well_formed w numbered h = record { numbered = numbered; unique = unique }
  where
    unique : HasUniqueEvents w
    unique t (bs, b, k) =
        let (q, m, c) = blocks_of_a_resolution w.goal bs b in
        let d = distinct_by_test (events_of w.labels (leaves q)) (all_at (λ q. are_distinct (events_of w.labels (leaves q))) (resolutions w.goal) h q m) in
        let leaf = leaf_of_trace q t (bs, c, k) in
        distinct-filter_map (event_at w.labels) t
        (distinct_trace w.goal (subst AreDistinct (sym numbered) (distinct-numbers_from 0 (length w.labels))) t (bs, b, k))
        (λ x y e mx my differ i j. differ (same_source (event_at w.labels) (leaves q) d x y e (leaf x mx) (leaf y my) i j))
