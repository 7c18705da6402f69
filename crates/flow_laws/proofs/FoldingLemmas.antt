-- Goals in which choices stay: whether a goal may be empty, which such goals are, what each has, and their numbers.
use Rattle.std.proofs.Common.{◌≡◌, ℕ, ◌+◌, ◌*◌, Bool, true, false, not, ◌&&◌, ◌||◌, if◌then◌else◌, true≢false, List, [], ◌∷◌, ◌++◌, length, slice_get, Some, ◌⊎◌, inl, inr, ⊎_elim, refl, sym, ap, ◌∙◌, subst, length-append, arith}
use Rattle.std.proofs.lemmas.Bool.{and_parts, and_from, or_cases, or_left, or_right, not-true}
use Rattle.std.proofs.lemmas.List.{length-map}
use Rattle.std.specs.List.{list_any}
use Rattle.flow_model.specs.Lists.{◌∈◌, AreDistinct, each_with_each}
use Rattle.flow_model.specs.Process.{Process, Empty, Task, Sequence, Parallel, Choice, Isolated, leaves, IsChoiceFree}
use Rattle.flow_model.specs.Trace.{Shuffle, both_end, from_left, from_right, as_one, Blocks}
use Rattle.flow_model.specs.Resolution.{resolutions}
use Rattle.flow_model.specs.Folding.{may_be_empty, has_no_choice, is_foldable, folded_resolutions, folded_count, choices_of, staying_choices, IsFolded}
use Rattle.flow_laws.specs.Resolutions.{Resolves}
use Rattle.flow_model.proofs.Lists.{mem_append_left, mem_append_right, mem-append, only_one, slice_get_append_left}
use Rattle.flow_model.proofs.MadeLists.{mem-map, of_map, mem-each_with_each, of_each_with_each, length-each_with_each, slice_get-each_with_each, slice_get_append_right}
use Rattle.flow_laws.proofs.ResolutionsLemmas.{resolves_of, mem-resolutions, length-resolutions, choice_free_resolution, KeepsLeaves, halves_kept, side_kept, kept_leaves}

-- Whether it may be executed with no block

both_none : {A : Type 0} (x y : List A) → [] ≡ x ++ y → (x ≡ []) × (y ≡ [])
both_none [] y e = (refl, sym e)
both_none (a ∷ x) y e = cc

none_shuffled : {x y z : List (List ℕ)} → Shuffle x y z → z ≡ [] → (x ≡ []) × (y ≡ [])
none_shuffled both_end e = (refl, refl)
none_shuffled (from_left s) e = cc
none_shuffled (from_right s) e = cc

none_as_one : (x : List (List ℕ)) → [] ≡ as_one x → x ≡ []
none_as_one [] e = refl
none_as_one (block ∷ x) e = cc

pub empty_blocks : (g : Process) → may_be_empty g ≡ true → Blocks g []
empty_blocks Empty e = refl
empty_blocks (Task n) e = cc
empty_blocks (Sequence a b) e =
    let (ea, eb) = and_parts (may_be_empty a) (may_be_empty b) e in ([], [], empty_blocks a ea, empty_blocks b eb, refl)
empty_blocks (Parallel a b) e =
    let (ea, eb) = and_parts (may_be_empty a) (may_be_empty b) e in ([], [], empty_blocks a ea, empty_blocks b eb, both_end)
empty_blocks (Choice a b) e = ⊎_elim (λ k. inl (empty_blocks a k)) (λ k. inr (empty_blocks b k)) (or_cases (may_be_empty a) (may_be_empty b) e)
empty_blocks (Isolated a) e = ([], empty_blocks a e, refl)

pub seen_empty : (g : Process) → Blocks g [] → may_be_empty g ≡ true
seen_empty Empty h = refl
seen_empty (Task n) h = cc
seen_empty (Sequence a b) (x, y, ha, hb, e) =
    let (ex, ey) = both_none x y e in
    and_from (may_be_empty a) (may_be_empty b) (seen_empty a (subst (Blocks a) ex ha)) (seen_empty b (subst (Blocks b) ey hb))
seen_empty (Parallel a b) (x, y, ha, hb, s) =
    let (ex, ey) = none_shuffled s refl in
    and_from (may_be_empty a) (may_be_empty b) (seen_empty a (subst (Blocks a) ex ha)) (seen_empty b (subst (Blocks b) ey hb))
seen_empty (Choice a b) (inl h) = or_left (may_be_empty a) (may_be_empty b) (seen_empty a h)
seen_empty (Choice a b) (inr h) = or_right (may_be_empty a) (may_be_empty b) (seen_empty b h)
seen_empty (Isolated a) (x, h, e) = seen_empty a (subst (Blocks a) (none_as_one x e) h)

-- What is seen of a choice that stays

pub no_choice : (g : Process) → has_no_choice g ≡ true → IsChoiceFree g
no_choice Empty e = tt
no_choice (Task n) e = tt
no_choice (Sequence a b) e = let (ea, eb) = and_parts (has_no_choice a) (has_no_choice b) e in (no_choice a ea, no_choice b eb)
no_choice (Parallel a b) e = let (ea, eb) = and_parts (has_no_choice a) (has_no_choice b) e in (no_choice a ea, no_choice b eb)
no_choice (Choice a b) e = cc
no_choice (Isolated a) e = no_choice a e

-- it holds no leaf that the test keeps apart, has a block at least, and its sides are foldable
pub record MayStay (apart : ℕ → Bool) (a b : Process) : Type 0 where
  pub none_apart : list_any apart (leaves a ++ leaves b) ≡ false
  pub not_empty : ¬ (Blocks (Choice a b) [])
  pub left : is_foldable apart a ≡ true
  pub right : is_foldable apart b ≡ true

pub may_stay : (apart : ℕ → Bool) (a b : Process) → is_foldable apart (Choice a b) ≡ true → MayStay apart a b
may_stay apart a b e =
    let none = list_any apart (leaves a ++ leaves b) in let empty = may_be_empty a || may_be_empty b in
    let (here, inside) = and_parts (not none && not empty) (is_foldable apart a && is_foldable apart b) e in
    let (first, second) = and_parts (not none) (not empty) here in
    let (left, right) = and_parts (is_foldable apart a) (is_foldable apart b) inside in record {
      none_apart = not-true none first;
      not_empty = λ h. true≢false (sym (seen_empty (Choice a b) h) ∙ not-true empty second);
      left = left;
      right = right;
    }

-- a goal without choices is folded
pub folded_where_free : (q : Process) → IsChoiceFree q → IsFolded q
folded_where_free (Sequence a b) (f, g) = (folded_where_free a f, folded_where_free b g)
folded_where_free (Parallel a b) (f, g) = (folded_where_free a f, folded_where_free b g)
folded_where_free (Choice a b) f = absurd f
folded_where_free (Isolated a) f = f
folded_where_free leaf f = tt

pub foldable_is_folded : (apart : ℕ → Bool) (g : Process) → is_foldable apart g ≡ true → IsFolded g
foldable_is_folded apart Empty e = tt
foldable_is_folded apart (Task n) e = tt
foldable_is_folded apart (Sequence a b) e =
    let (ea, eb) = and_parts (is_foldable apart a) (is_foldable apart b) e in (foldable_is_folded apart a ea, foldable_is_folded apart b eb)
foldable_is_folded apart (Parallel a b) e =
    let (ea, eb) = and_parts (is_foldable apart a) (is_foldable apart b) e in (foldable_is_folded apart a ea, foldable_is_folded apart b eb)
foldable_is_folded apart (Choice a b) e =
    let stay = may_stay apart a b e in (stay.not_empty, foldable_is_folded apart a stay.left, foldable_is_folded apart b stay.right)
foldable_is_folded apart (Isolated a) e = no_choice a e

no_choices : (g : Process) → has_no_choice g ≡ true → choices_of g ≡ []
no_choices Empty e = refl
no_choices (Task n) e = refl
no_choices (Sequence a b) e = let (ea, eb) = and_parts (has_no_choice a) (has_no_choice b) e in λ i. no_choices a ea i ++ no_choices b eb i
no_choices (Parallel a b) e = let (ea, eb) = and_parts (has_no_choice a) (has_no_choice b) e in λ i. no_choices a ea i ++ no_choices b eb i
no_choices (Choice a b) e = cc
no_choices (Isolated a) e = no_choices a e

-- where each stays, those that stay are all
pub all_choices_stay : (apart : ℕ → Bool) (g : Process) → is_foldable apart g ≡ true → staying_choices apart g ≡ choices_of g
all_choices_stay apart Empty e = refl
all_choices_stay apart (Task n) e = refl
all_choices_stay apart (Sequence a b) e =
    let (ea, eb) = and_parts (is_foldable apart a) (is_foldable apart b) e in λ i. all_choices_stay apart a ea i ++ all_choices_stay apart b eb i
all_choices_stay apart (Parallel a b) e =
    let (ea, eb) = and_parts (is_foldable apart a) (is_foldable apart b) e in λ i. all_choices_stay apart a ea i ++ all_choices_stay apart b eb i
all_choices_stay apart (Choice a b) e = ap (λ stays. if stays then choices_of (Choice a b) else staying_choices apart a ++ staying_choices apart b) e
all_choices_stay apart (Isolated a) e = sym (no_choices a e)

-- a goal with no leaf may be executed with no block
pub empty_without_leaf : (g : Process) → [] ≡ leaves g → may_be_empty g ≡ true
empty_without_leaf Empty e = refl
empty_without_leaf (Task n) e = cc
empty_without_leaf (Sequence a b) e =
    let (ea, eb) = both_none (leaves a) (leaves b) e in and_from (may_be_empty a) (may_be_empty b) (empty_without_leaf a (sym ea)) (empty_without_leaf b (sym eb))
empty_without_leaf (Parallel a b) e =
    let (ea, eb) = both_none (leaves a) (leaves b) e in and_from (may_be_empty a) (may_be_empty b) (empty_without_leaf a (sym ea)) (empty_without_leaf b (sym eb))
empty_without_leaf (Choice a b) e =
    let (ea, eb) = both_none (leaves a) (leaves b) e in or_left (may_be_empty a) (may_be_empty b) (empty_without_leaf a (sym ea))
empty_without_leaf (Isolated a) e = empty_without_leaf a e

-- Which they are

-- the second goal is the first with one side taken at each choice that does not stay
abbrev pub FoldsTo : (ℕ → Bool) → Process → Process → Type 0
FoldsTo apart Empty q = q ≡ Empty
FoldsTo apart (Task n) q = q ≡ Task n
FoldsTo apart (Sequence a b) q = (x y : Process) × FoldsTo apart a x × FoldsTo apart b y × (q ≡ Sequence x y)
FoldsTo apart (Parallel a b) q = (x y : Process) × FoldsTo apart a x × FoldsTo apart b y × (q ≡ Parallel x y)
FoldsTo apart (Choice a b) q =
    ((is_foldable apart (Choice a b) ≡ true) × (q ≡ Choice a b))
    ⊎ ((is_foldable apart (Choice a b) ≡ false) × (FoldsTo apart a q ⊎ FoldsTo apart b q))
FoldsTo apart (Isolated a) q = (x : Process) × Resolves a x × (q ≡ Isolated x)

-- the choice alone, where it stays, and else what its sides become
abbrev kept_or : {A : Type 0} → Bool → A → List A → List A → List A
kept_or stays choice left right = if stays then choice ∷ [] else left ++ right

choice_folds : (apart : ℕ → Bool) (a b q : Process) (stays : Bool) → is_foldable apart (Choice a b) ≡ stays →
    q ∈ kept_or stays (Choice a b) (folded_resolutions apart a) (folded_resolutions apart b) →
    (q ∈ folded_resolutions apart a → FoldsTo apart a q) → (q ∈ folded_resolutions apart b → FoldsTo apart b q) → FoldsTo apart (Choice a b) q
choice_folds apart a b q true e m left right = inl (e, only_one q (Choice a b) m)
choice_folds apart a b q false e m left right =
    inr (e, ⊎_elim (λ k. inl (left k)) (λ k. inr (right k)) (mem-append q (folded_resolutions apart a) (folded_resolutions apart b) m))

pub folds_to : (apart : ℕ → Bool) (g q : Process) → q ∈ folded_resolutions apart g → FoldsTo apart g q
folds_to apart (Sequence a b) q m =
    let (x, (y, mx, my, e)) = of_each_with_each Sequence q (folded_resolutions apart a) (folded_resolutions apart b) m in
    (x, y, folds_to apart a x mx, folds_to apart b y my, e)
folds_to apart (Parallel a b) q m =
    let (x, (y, mx, my, e)) = of_each_with_each Parallel q (folded_resolutions apart a) (folded_resolutions apart b) m in
    (x, y, folds_to apart a x mx, folds_to apart b y my, e)
folds_to apart (Choice a b) q m = choice_folds apart a b q (is_foldable apart (Choice a b)) refl m (folds_to apart a q) (folds_to apart b q)
folds_to apart (Isolated a) q m = let (x, mx, e) = of_map Isolated q (resolutions a) m in (x, resolves_of a x mx, e)
folds_to apart leaf q m = only_one q _ m

pub mem-folded_resolutions : (apart : ℕ → Bool) (g q : Process) → FoldsTo apart g q → q ∈ folded_resolutions apart g
mem-folded_resolutions apart (Sequence a b) q (x, y, hx, hy, e) =
    rw e (mem-each_with_each Sequence x y _ _ (mem-folded_resolutions apart a x hx) (mem-folded_resolutions apart b y hy))
mem-folded_resolutions apart (Parallel a b) q (x, y, hx, hy, e) =
    rw e (mem-each_with_each Parallel x y _ _ (mem-folded_resolutions apart a x hx) (mem-folded_resolutions apart b y hy))
mem-folded_resolutions apart (Choice a b) q (inl (stays, e)) =
    subst (λ fold. q ∈ kept_or fold (Choice a b) (folded_resolutions apart a) (folded_resolutions apart b)) (sym stays) (inl e)
mem-folded_resolutions apart (Choice a b) q (inr (goes, inl h)) =
    subst (λ fold. q ∈ kept_or fold (Choice a b) (folded_resolutions apart a) (folded_resolutions apart b)) (sym goes)
    (mem_append_left q _ _ (mem-folded_resolutions apart a q h))
mem-folded_resolutions apart (Choice a b) q (inr (goes, inr h)) =
    subst (λ fold. q ∈ kept_or fold (Choice a b) (folded_resolutions apart a) (folded_resolutions apart b)) (sym goes)
    (mem_append_right q _ _ (mem-folded_resolutions apart b q h))
mem-folded_resolutions apart (Isolated a) q (x, h, e) = rw e (mem-map Isolated x _ (mem-resolutions a x h))
mem-folded_resolutions apart leaf q e = inl e

-- What each has

pub is_folded : (apart : ℕ → Bool) (g q : Process) → FoldsTo apart g q → IsFolded q
is_folded apart (Sequence a b) q (x, y, hx, hy, e) = rw e (is_folded apart a x hx, is_folded apart b y hy)
is_folded apart (Parallel a b) q (x, y, hx, hy, e) = rw e (is_folded apart a x hx, is_folded apart b y hy)
is_folded apart (Choice a b) q (inl (stays, e)) = rw e (foldable_is_folded apart (Choice a b) stays)
is_folded apart (Choice a b) q (inr (goes, h)) = ⊎_elim (is_folded apart a q) (is_folded apart b q) h
is_folded apart (Isolated a) q (x, h, e) = rw e (choice_free_resolution a x h)
is_folded apart leaf q e = rw e tt

keeps_leaves : (apart : ℕ → Bool) (g q : Process) → FoldsTo apart g q → KeepsLeaves g q
keeps_leaves apart (Sequence a b) q (x, y, hx, hy, e) = rw e (halves_kept a b x y (keeps_leaves apart a x hx) (keeps_leaves apart b y hy))
keeps_leaves apart (Parallel a b) q (x, y, hx, hy, e) = rw e (halves_kept a b x y (keeps_leaves apart a x hx) (keeps_leaves apart b y hy))
keeps_leaves apart (Choice a b) q (inl (stays, e)) = rw e (λ n m. m, λ d. d)
keeps_leaves apart (Choice a b) q (inr (goes, inl h)) = side_kept a b q (inl (keeps_leaves apart a q h))
keeps_leaves apart (Choice a b) q (inr (goes, inr h)) = side_kept a b q (inr (keeps_leaves apart b q h))
keeps_leaves apart (Isolated a) q (x, h, e) = rw e (kept_leaves a x h)
keeps_leaves apart leaf q e = rw e (λ n m. m, λ d. d)

-- each leaf is a leaf of the goal
pub mem-folded_leaves : (apart : ℕ → Bool) (g q : Process) → FoldsTo apart g q → (n : ℕ) → n ∈ leaves q → n ∈ leaves g
mem-folded_leaves apart g q h = (keeps_leaves apart g q h).0

pub distinct-folded_leaves : (apart : ℕ → Bool) (g q : Process) → FoldsTo apart g q → AreDistinct (leaves g) → AreDistinct (leaves q)
distinct-folded_leaves apart g q h = (keeps_leaves apart g q h).1

-- Their numbers

length-kept_or : {A : Type 0} (stays : Bool) (choice : A) (left right : List A) (m n : ℕ) → length left ≡ m → length right ≡ n →
    length (kept_or stays choice left right) ≡ (if stays then 1 else m + n)
length-kept_or true choice left right m n e k = refl
length-kept_or false choice left right m n e k = omega (arith, length-append left right, e, k)

pub length-folded : (apart : ℕ → Bool) (g : Process) → length (folded_resolutions apart g) ≡ folded_count apart g
length-folded apart (Sequence a b) =
    grind (arith, length-each_with_each Sequence (folded_resolutions apart a) (folded_resolutions apart b), length-folded apart a, length-folded apart b)
length-folded apart (Parallel a b) =
    grind (arith, length-each_with_each Parallel (folded_resolutions apart a) (folded_resolutions apart b), length-folded apart a, length-folded apart b)
length-folded apart (Choice a b) = length-kept_or (is_foldable apart (Choice a b)) (Choice a b) _ _ _ _ (length-folded apart a) (length-folded apart b)
length-folded apart (Isolated a) = length-map (resolutions a) Isolated ∙ length-resolutions a
length-folded apart leaf = refl

-- the number of one of two parts that both stay
pub number_of_both_folded : (apart : ℕ → Bool) (f : Process → Process → Process) (a b x y : Process) (i j : ℕ) →
    slice_get (folded_resolutions apart a) i ≡ Some x → slice_get (folded_resolutions apart b) j ≡ Some y →
    slice_get (each_with_each f (folded_resolutions apart a) (folded_resolutions apart b)) (i * folded_count apart b + j) ≡ Some (f x y)
number_of_both_folded apart f a b x y i j e k =
    subst (λ n. slice_get (each_with_each f (folded_resolutions apart a) (folded_resolutions apart b)) (i * n + j) ≡ Some (f x y)) (length-folded apart b)
    (slice_get-each_with_each f (folded_resolutions apart a) (folded_resolutions apart b) i j x y e k)

-- the number of one of a choice, by whether that stays
number_in_choice : (apart : ℕ → Bool) (a b q : Process) (stays : Bool) (i : ℕ) → is_foldable apart (Choice a b) ≡ stays →
    slice_get (kept_or stays (Choice a b) (folded_resolutions apart a) (folded_resolutions apart b)) i ≡ Some q →
    slice_get (folded_resolutions apart (Choice a b)) i ≡ Some q
number_in_choice apart a b q stays i e =
    subst (λ fold. slice_get (kept_or fold (Choice a b) (folded_resolutions apart a) (folded_resolutions apart b)) i ≡ Some q) (sym e)

pub number_of_left_folded : (apart : ℕ → Bool) (a b x : Process) (i : ℕ) → is_foldable apart (Choice a b) ≡ false →
    slice_get (folded_resolutions apart a) i ≡ Some x → slice_get (folded_resolutions apart (Choice a b)) i ≡ Some x
number_of_left_folded apart a b x i goes e =
    number_in_choice apart a b x false i goes (slice_get_append_left (folded_resolutions apart a) (folded_resolutions apart b) i x e)

pub number_of_right_folded : (apart : ℕ → Bool) (a b x : Process) (i : ℕ) → is_foldable apart (Choice a b) ≡ false →
    slice_get (folded_resolutions apart b) i ≡ Some x → slice_get (folded_resolutions apart (Choice a b)) (folded_count apart a + i) ≡ Some x
number_of_right_folded apart a b x i goes e =
    subst (λ n. slice_get (folded_resolutions apart (Choice a b)) (n + i) ≡ Some x) (length-folded apart a)
    (number_in_choice apart a b x false (length (folded_resolutions apart a) + i) goes
    (slice_get_append_right (folded_resolutions apart a) (folded_resolutions apart b) i ∙ e))

pub number_of_choice : (apart : ℕ → Bool) (a b : Process) → is_foldable apart (Choice a b) ≡ true →
    slice_get (folded_resolutions apart (Choice a b)) 0 ≡ Some (Choice a b)
number_of_choice apart a b stays = number_in_choice apart a b (Choice a b) true 0 stays refl
