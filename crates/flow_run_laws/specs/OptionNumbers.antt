-- Options by number. Each has the number of its resolution and that of its way; and as often as an
-- option stands in the list, folded options have it as an unfolding.
use Rattle.std.specs.Prelude.{◌≡◌, ℕ, ◌+◌, ◌*◌, Bool, false, List, ◌++◌, length, map, take, Some, Option, slice_get}
use Rattle.std.specs.List.{sum_by}
use Rattle.flow_model.specs.Process.{Process}
use Rattle.flow_model.specs.Ways.{Normal, both, either, ways, is_free}
use Rattle.flow_model.specs.Schema.{Schema}
use Rattle.flow_model.specs.Resolution.{ChoiceOption, options, ways_in, resolutions, resolution_count}
use Rattle.flow_model.specs.Folding.{folded_resolutions, folded_ways, folded_options_by, KeepsNamedApart}

-- how many ways the first of the goals have
abbrev pub ways_before : (Process → List (List (ℕ × ℕ))) → List Process → ℕ → ℕ
ways_before its_ways goals i = sum_by (λ q. length (its_ways q)) (take i goals)

-- the option is of the goal of number i, and of its way of number j
pub record HasNumbers (its_ways : Process → List (List (ℕ × ℕ))) (goals : List Process) (o : ChoiceOption) (i j : ℕ) : Type 0 where
  pub goal : slice_get goals i ≡ Some o.resolution
  pub way : slice_get (its_ways o.resolution) j ≡ Some o.order

-- the options stand in the order of the goals, and those of one goal in the order of its ways
pub record AreByNumber (its_ways : Process → List (List (ℕ × ℕ))) (goals : List Process) (list : List ChoiceOption) : Type 0 where
  pub count : length list ≡ sum_by (λ q. length (its_ways q)) goals
  -- that of goal i and way j has the number j behind those of the goals before
  pub there : (o : ChoiceOption) (i j : ℕ) → HasNumbers its_ways goals o i j → slice_get list (ways_before its_ways goals i + j) ≡ Some o
  -- each number is that of a goal and a way, and of no others
  pub of_some : (k : ℕ) (o : ChoiceOption) → slice_get list k ≡ Some o →
      (i : ℕ) × (j : ℕ) × HasNumbers its_ways goals o i j × (k ≡ ways_before its_ways goals i + j)
  pub of_one : (o p : ChoiceOption) (i j m n : ℕ) → HasNumbers its_ways goals o i j → HasNumbers its_ways goals p m n →
      ways_before its_ways goals i + j ≡ ways_before its_ways goals m + n → (i ≡ m) × (j ≡ n)

abbrev pub OptionsAreByNumber : Type 0
OptionsAreByNumber = (w : Schema) → AreByNumber (ways_in w) (resolutions w.goal) (options w)

abbrev pub FoldedOptionsAreByNumber : Type 0
FoldedOptionsAreByNumber = (apart : ℕ → Bool) (w : Schema) → AreByNumber (folded_ways w) (folded_resolutions apart w.goal) (folded_options_by apart w)

-- the ways of two constraints that are both to be met, the second running faster
abbrev pub WaysOfBoth : Normal → Normal → (ℕ → Option ℕ) → Type 0
WaysOfBoth x y leaf = (length (ways (both x y) leaf) ≡ length (ways x leaf) * length (ways y leaf))
    × ((i j : ℕ) (one two : List (ℕ × ℕ)) → slice_get (ways x leaf) i ≡ Some one → slice_get (ways y leaf) j ≡ Some two →
    slice_get (ways (both x y) leaf) (i * length (ways y leaf) + j) ≡ Some (one ++ two))

-- of two of which one is to be met: those of the first, and then those of the second
abbrev pub WaysOfEither : Normal → Normal → (ℕ → Option ℕ) → Type 0
WaysOfEither x y leaf = (length (ways (either x y) leaf) ≡ length (ways x leaf) + length (ways y leaf))
    × ((i : ℕ) (one : List (ℕ × ℕ)) → (slice_get (ways x leaf) i ≡ Some one → slice_get (ways (either x y) leaf) i ≡ Some one)
    × (slice_get (ways y leaf) i ≡ Some one → slice_get (ways (either x y) leaf) (length (ways x leaf) + i) ≡ Some one))

-- where neither of the two is free, since else the one free way is all
abbrev pub WaysAreByNumber : Type 0
WaysAreByNumber = (x y : Normal) (leaf : ℕ → Option ℕ) →
    WaysOfBoth x y leaf × (is_free (ways x leaf) ≡ false → is_free (ways y leaf) ≡ false → WaysOfEither x y leaf)

-- the unfoldings of a folded option, by number
abbrev pub unfoldings_of : ChoiceOption → List ChoiceOption
unfoldings_of o = map (λ u. record { resolution = u; order = o.order }) (resolutions o.resolution)

-- whatever is measured of an option, the options have as much as the unfoldings of the folded
-- options: so none is lost, none comes in, and one that stands twice does so in both
abbrev pub UnfoldingsMeasureTheSame : Type 0
UnfoldingsMeasureTheSame = (apart : ℕ → Bool) (w : Schema) → KeepsNamedApart apart w → (measure : ChoiceOption → ℕ) →
    sum_by measure (options w) ≡ sum_by (λ o. sum_by measure (unfoldings_of o)) (folded_options_by apart w)

-- and they are as many
abbrev pub UnfoldingsAreCounted : Type 0
UnfoldingsAreCounted = (apart : ℕ → Bool) (w : Schema) → KeepsNamedApart apart w →
    length (options w) ≡ sum_by (λ o. resolution_count o.resolution) (folded_options_by apart w)
