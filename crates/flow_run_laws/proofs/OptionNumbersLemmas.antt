-- Options by number.
use Rattle.std.proofs.Common.{◌≡◌, ℕ, ◌+◌, ◌<◌, Bool, List, [], ◌∷◌, ◌++◌, length, map, flat_map, sum_by, refl, sym, ap, ◌∙◌, subst, inl, inr, arith}
use Rattle.std.proofs.lemmas.Bool.{cases_Bool}
use Rattle.std.proofs.lemmas.List.{length-map, length-append}
use Rattle.std.proofs.lemmas.List.Sums.{sum_by-append}
use Rattle.std.proofs.lemmas.List.Concat.{length-flat_map}
use Rattle.std.proofs.lemmas.Option.{slice_get_within}
use Rattle.flow_model.specs.Lists.{◌∈◌, each_with_each}
use Rattle.flow_model.specs.Process.{Process, Empty, Task, Sequence, Parallel, Choice, Isolated, IsChoiceFree}
use Rattle.flow_model.specs.Constraint.{all_of}
use Rattle.flow_model.specs.Ways.{ways}
use Rattle.flow_model.specs.Resolution.{ChoiceOption, options, options_in, ways_in, resolutions, resolution_count}
use Rattle.flow_model.specs.Folding.{is_foldable, folded_resolutions, folded_ways, folded_options_in, folded_options_by}
use Rattle.flow_model.proofs.Lists.{slice_get_append_left}
use Rattle.flow_model.proofs.MadeLists.{slice_get_append_right, length-each_with_each, slice_get-each_with_each}
use Rattle.flow_laws.proofs.ResolutionsLemmas.{resolves_of, choice_free_resolution, length-resolutions}
use Rattle.flow_laws.proofs.FoldingLemmas.{folds_to}
use Rattle.flow_fold_laws.proofs.UnfoldedWays.{ways_unfold}
use Rattle.flow_run_laws.specs.OptionNumbers.{ways_before, HasNumbers, AreByNumber, OptionsAreByNumber, FoldedOptionsAreByNumber, WaysAreByNumber, unfoldings_of, UnfoldingsMeasureTheSame, UnfoldingsAreCounted}
use Rattle.flow_run_laws.proofs.Numbered.{of_mapped, mapped, piece_at, IsPieceAt, piece_of, piece_of_one, sum_same, sum_mapped, sum_pieces, sum_each_with_each, sum_swap, length_is_sum}

-- By resolutions and ways

-- the options of one goal, by its ways
abbrev options_with : (Process → List (List (ℕ × ℕ))) → Process → List ChoiceOption
options_with its_ways q = map (λ way. record { resolution = q; order = way }) (its_ways q)

by_number : (its_ways : Process → List (List (ℕ × ℕ))) (goals : List Process) → AreByNumber its_ways goals (flat_map (options_with its_ways) goals)
by_number its_ways goals = record {
  count = length-flat_map (options_with its_ways) goals ∙ sum_same (λ q. length (options_with its_ways q)) size goals (λ q m. sized q);
  there = λ o i j h. piece_at (options_with its_ways) size sized goals i j o.resolution o h.goal (mapped (λ way. record { resolution = o.resolution; order = way }) (its_ways o.resolution) j o.order h.way);
  of_some = λ k o e. some k o (piece_of (options_with its_ways) size sized goals k o e);
  of_one = λ o p i j m n h g. piece_of_one (options_with its_ways) size sized goals i j m n o.resolution p.resolution h.goal g.goal (within o i j h) (within p m n g);
}
  where
    size : Process → ℕ
    size q = length (its_ways q)

    sized : (q : Process) → length (options_with its_ways q) ≡ size q
    sized q = length-map (its_ways q) (λ way. record { resolution = q; order = way })

    within : (o : ChoiceOption) (i j : ℕ) → HasNumbers its_ways goals o i j → j < length (options_with its_ways o.resolution)
    within o i j h = subst (λ n. j < n) (sym (sized o.resolution)) (slice_get_within (its_ways o.resolution) j o.order h.way)

    some : (k : ℕ) (o : ChoiceOption) → IsPieceAt (options_with its_ways) size sized goals o k →
        (i : ℕ) × (j : ℕ) × HasNumbers its_ways goals o i j × (k ≡ ways_before its_ways goals i + j)
    some k o p =
        let (way, e, is) = of_mapped (λ way. record { resolution = p.member; order = way }) (its_ways p.member) p.j o p.of_piece in
        (p.i, p.j, subst (λ (o : ChoiceOption). HasNumbers its_ways goals o p.i p.j) (sym is) (record { goal = p.of_list; way = e }), p.place)

pub options_are_by_number : OptionsAreByNumber
options_are_by_number w = by_number (ways_in w) (resolutions w.goal)

pub folded_options_are_by_number : FoldedOptionsAreByNumber
folded_options_are_by_number apart w = by_number (folded_ways w) (folded_resolutions apart w.goal)

pub ways_are_by_number : WaysAreByNumber
ways_are_by_number x y leaf = (
  (
    length-each_with_each (λ v w. v ++ w) (ways x leaf) (ways y leaf),
    slice_get-each_with_each (λ v w. v ++ w) (ways x leaf) (ways y leaf),
  ),
  λ one two. (
    rw (one, two) (length-append (ways x leaf) (ways y leaf)),
    λ i way. (
      λ e. rw (one, two) (slice_get_append_left (ways x leaf) (ways y leaf) i way e),
      λ e. rw (one, two) (slice_get_append_right (ways x leaf) (ways y leaf) i ∙ e),
    ),
  ),
)

-- Unfoldings of resolutions

one_resolution : (q : Process) → IsChoiceFree q → resolutions q ≡ q ∷ []
one_resolution Empty free = refl
one_resolution (Task n) free = refl
one_resolution (Sequence a b) free = λ i. each_with_each Sequence (one_resolution a free.0 i) (one_resolution b free.1 i)
one_resolution (Parallel a b) free = λ i. each_with_each Parallel (one_resolution a free.0 i) (one_resolution b free.1 i)
one_resolution (Choice a b) free = absurd free
one_resolution (Isolated a) free = ap (map Isolated) (one_resolution a free)

-- a sum over resolutions, by what folded resolutions resolve to
abbrev SumsUnfold : (ℕ → Bool) → Process → Type 0
SumsUnfold apart g = (f : Process → ℕ) → sum_by f (resolutions g) ≡ sum_by (λ q. sum_by f (resolutions q)) (folded_resolutions apart g)

-- of two goals that both stay
both_unfold : (apart : ℕ → Bool) (join : Process → Process → Process) → ((x y : Process) → resolutions (join x y) ≡ each_with_each join (resolutions x) (resolutions y)) →
    (a b : Process) → SumsUnfold apart a → SumsUnfold apart b → (f : Process → ℕ) →
    sum_by f (each_with_each join (resolutions a) (resolutions b))
    ≡ sum_by (λ q. sum_by f (resolutions q)) (each_with_each join (folded_resolutions apart a) (folded_resolutions apart b))
both_unfold apart join joins a b left right f =
    let fa = folded_resolutions apart a in
    let fb = folded_resolutions apart b in
    sum_each_with_each f join (resolutions a) (resolutions b)
    ∙ (sum_same (λ u. sum_by (λ v. f (join u v)) (resolutions b)) (λ u. sum_by (λ y. sum_by (λ v. f (join u v)) (resolutions y)) fb) (resolutions a) (λ u m. right (λ v. f (join u v)))
    ∙ (left (λ u. sum_by (λ y. sum_by (λ v. f (join u v)) (resolutions y)) fb)
    ∙ (sum_same (λ x. sum_by (λ u. sum_by (λ y. sum_by (λ v. f (join u v)) (resolutions y)) fb) (resolutions x)) (λ x. sum_by (λ y. sum_by f (resolutions (join x y))) fb) fa
    (λ x m. sum_swap (λ u y. sum_by (λ v. f (join u v)) (resolutions y)) (resolutions x) fb
    ∙ sum_same (λ y. sum_by (λ u. sum_by (λ v. f (join u v)) (resolutions y)) (resolutions x)) (λ y. sum_by f (resolutions (join x y))) fb
    (λ y k. sym (ap (sum_by f) (joins x y) ∙ sum_each_with_each f join (resolutions x) (resolutions y))))
    ∙ sym (sum_each_with_each (λ q. sum_by f (resolutions q)) join fa fb))))

sums_unfold : (apart : ℕ → Bool) (g : Process) → SumsUnfold apart g
sums_unfold apart Empty f = omega arith
sums_unfold apart (Task n) f = omega arith
sums_unfold apart (Sequence a b) f = both_unfold apart Sequence (λ x y. refl) a b (sums_unfold apart a) (sums_unfold apart b) f
sums_unfold apart (Parallel a b) f = both_unfold apart Parallel (λ x y. refl) a b (sums_unfold apart a) (sums_unfold apart b) f
sums_unfold apart (Choice a b) f = elim (cases_Bool (is_foldable apart (Choice a b))) [
  | inl stays ↦ rw stays (omega arith)
  | inr goes ↦ rw goes (omega (
    arith,
    sum_by-append f (resolutions a) (resolutions b),
    sum_by-append (λ q. sum_by f (resolutions q)) (folded_resolutions apart a) (folded_resolutions apart b),
    sums_unfold apart a f,
    sums_unfold apart b f,
  ))
]
sums_unfold apart (Isolated a) f =
    sum_mapped f Isolated (resolutions a)
    ∙ (sum_same (λ u. f (Isolated u)) (λ u. sum_by f (resolutions (Isolated u))) (resolutions a)
    (λ u m. let one = ap (λ l. sum_by f (map Isolated l)) (one_resolution u (choice_free_resolution a u (resolves_of a u m))) in omega (arith, one))
    ∙ sym (sum_mapped (λ q. sum_by f (resolutions q)) Isolated (resolutions a)))

-- Unfoldings of options

pub unfoldings_measure_the_same : UnfoldingsMeasureTheSame
unfoldings_measure_the_same apart w keeps f =
    sum_pieces f (options_in w) (resolutions w.goal)
    ∙ (sums_unfold apart w.goal (λ u. sum_by f (options_in w u))
    ∙ (sum_same (λ q. sum_by (λ u. sum_by f (options_in w u)) (resolutions q)) (λ q. sum_by unfolded (folded_options_in w q)) (folded_resolutions apart w.goal) of_one
    ∙ sym (sum_pieces unfolded (folded_options_in w) (folded_resolutions apart w.goal))))
  where
    unfolded : ChoiceOption → ℕ
    unfolded o = sum_by f (unfoldings_of o)

    with_way : Process → List (ℕ × ℕ) → ChoiceOption
    with_way q way = record { resolution = q; order = way }

    of_one : (q : Process) → q ∈ folded_resolutions apart w.goal → sum_by (λ u. sum_by f (options_in w u)) (resolutions q) ≡ sum_by unfolded (folded_options_in w q)
    of_one q m =
        sum_same (λ u. sum_by f (options_in w u)) (λ u. sum_by (λ way. f (with_way u way)) (folded_ways w q)) (resolutions q)
        (λ u k. sum_mapped f (with_way u) (ways_in w u)
        ∙ ap (sum_by (λ way. f (with_way u way))) (ways_unfold apart w keeps (all_of w.rules) (λ e i. i) q u (folds_to apart w.goal q m) (resolves_of q u k)))
        ∙ (sum_swap (λ u way. f (with_way u way)) (resolutions q) (folded_ways w q)
        ∙ (sum_same (λ way. sum_by (λ u. f (with_way u way)) (resolutions q)) (λ way. unfolded (with_way q way)) (folded_ways w q)
        (λ way i. sym (sum_mapped f (λ u. with_way u way) (resolutions q)))
        ∙ sym (sum_mapped unfolded (with_way q) (folded_ways w q))))

pub unfoldings_are_counted : UnfoldingsAreCounted
unfoldings_are_counted apart w keeps =
    length_is_sum (options w)
    ∙ (unfoldings_measure_the_same apart w keeps (λ o. 1)
    ∙ sum_same (λ o. sum_by (λ u. 1) (unfoldings_of o)) (λ o. resolution_count o.resolution) (folded_options_by apart w)
    (λ o m. sym (length_is_sum (unfoldings_of o)) ∙ (length-map (resolutions o.resolution) (λ u. record { resolution = u; order = o.order }) ∙ length-resolutions o.resolution)))
