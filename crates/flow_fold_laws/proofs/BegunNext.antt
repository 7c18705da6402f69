-- Which leaves may be begun next, by the choices that keep them out.
use Rattle.std.proofs.Common.{◌≡◌, ℕ, Bool, true, ◌&&◌, ◌||◌, ◌==◌, List, [], ◌∷◌, ◌++◌, ◌⊎◌, ◌↔◌, IsTrue, refl, sym, subst, ◌∙◌, inl, inr, ⊎_elim, eqb-true}
use Rattle.std.specs.List.{list_any}
use Rattle.std.proofs.lemmas.Bool.{both_ways, cases_Bool, and_parts, and_from, or_cases, or_left, or_right, false_from_ne_true}
use Rattle.flow_model.specs.Lists.{◌∈◌, AreDistinct}
use Rattle.flow_model.specs.Process.{Process, Empty, Task, Sequence, Parallel, Choice, Isolated, leaves}
use Rattle.flow_model.specs.Ready.{DoneOr}
use Rattle.flow_model.specs.Folding.{IsFolded, choices_of}
use Rattle.flow_model.specs.FoldedReady.{IsBegun}
use Rattle.flow_model.specs.FoldedRun.{CanAvoid}
use Rattle.flow_model.proofs.Lists.{only_one, mem_append_left, mem_append_right, mem-append, mem_by_halves, distinct_parts}
use Rattle.flow_model.proofs.MadeLists.{some_passes, passing_member, none_passes}
use Rattle.flow_fold_laws.specs.FoldedRows.{spoiled_by_choice, spoiled_by}
use Rattle.flow_fold_laws.specs.Beginning.{barred_by_choice, barred_by, MayBeginByOnePass}
use Rattle.flow_laws.proofs.FoldingLemmas.{folded_where_free}
use Rattle.flow_fold_laws.proofs.AvoidedTogether.{avoid_less, avoid_begun}
use Rattle.flow_fold_laws.proofs.FoldedAvoid.{is_in, member_is_in, leaves_others, after_halves, TellsHalf, left_half, right_half, tells_avoided, avoided_in_one_pass}

-- Tests

pub both_tests : {P Q : Type 0} (x y : Bool) → (x ≡ true) ↔ P → (y ≡ true) ↔ Q → ((x && y) ≡ true) ↔ (P × Q)
both_tests x y p q = (λ e. let (a, b) = and_parts x y e in (p.0 a, q.0 b), λ (a, b). and_from x y (p.1 a) (q.1 b))

pub either_test : {P Q : Type 0} (x y : Bool) → (x ≡ true) ↔ P → (y ≡ true) ↔ Q → ((x || y) ≡ true) ↔ (P ⊎ Q)
either_test x y p q = (
  λ e. ⊎_elim (λ h. inl (p.0 h)) (λ h. inr (q.0 h)) (or_cases x y e),
  ⊎_elim (λ h. or_left x y (p.1 h)) (λ h. or_right x y (q.1 h)),
)

pub member_test : (list : List ℕ) (n : ℕ) → (is_in list n ≡ true) ↔ (n ∈ list)
member_test list n = (
  λ e. let (x, m, k) = passing_member (λ x. x == n) list e in subst (λ z. z ∈ list) (eqb-true x n k) m,
  member_is_in list n,
)

pub begun_test : (g : Process) (begun : ℕ → Bool) → (list_any begun (leaves g) ≡ true) ↔ IsBegun g (λ n. IsTrue (begun n))
begun_test g begun = (λ e. let (x, m, k) = passing_member begun (leaves g) e in (x, m, k), λ (x, m, k). some_passes begun x (leaves g) m k)

-- Leaves that a choice keeps out

-- the leaf is on a side of the choice that cannot go on, or whose other side is begun
abbrev pub IsKeptOutBy : Process → Process → (ℕ → Type 0) → (ℕ → Type 0) → ℕ → Type 0
IsKeptOutBy a b D B n = ((n ∈ leaves a) × (¬ (CanAvoid a D B) ⊎ IsBegun b D)) ⊎ ((n ∈ leaves b) × (¬ (CanAvoid b D B) ⊎ IsBegun a D))

-- some choice of the goal keeps it out
abbrev pub IsKeptOut : Process → (ℕ → Type 0) → (ℕ → Type 0) → ℕ → Type 0
IsKeptOut Empty D B n = ⊥
IsKeptOut (Task m) D B n = ⊥
IsKeptOut (Sequence a b) D B n = IsKeptOut a D B n ⊎ IsKeptOut b D B n
IsKeptOut (Parallel a b) D B n = IsKeptOut a D B n ⊎ IsKeptOut b D B n
IsKeptOut (Choice a b) D B n = IsKeptOutBy a b D B n ⊎ (IsKeptOut a D B n ⊎ IsKeptOut b D B n)
IsKeptOut (Isolated a) D B n = IsKeptOut a D B n

kept_out_leaf : (q : Process) (D B : ℕ → Type 0) (n : ℕ) → IsKeptOut q D B n → n ∈ leaves q
kept_out_leaf (Sequence a b) D B n h = mem_by_halves n (leaves a) (leaves b) (kept_out_leaf a D B n) (kept_out_leaf b D B n) h
kept_out_leaf (Parallel a b) D B n h = mem_by_halves n (leaves a) (leaves b) (kept_out_leaf a D B n) (kept_out_leaf b D B n) h
kept_out_leaf (Choice a b) D B n h = ⊎_elim
    (mem_by_halves n (leaves a) (leaves b) (λ k. k.0) (λ k. k.0))
    (mem_by_halves n (leaves a) (leaves b) (kept_out_leaf a D B n) (kept_out_leaf b D B n)) h
kept_out_leaf (Isolated a) D B n h = kept_out_leaf a D B n h
kept_out_leaf leaf D B n h = absurd h

-- it does not matter how the banned leaves are told
abbrev SameIn : Process → (ℕ → Type 0) → (ℕ → Type 0) → Type 0
SameIn q B C = (n : ℕ) → n ∈ leaves q → B n ↔ C n

avoid_same : (q : Process) (D B C : ℕ → Type 0) → SameIn q B C → CanAvoid q D B ↔ CanAvoid q D C
avoid_same q D B C same = (
  avoid_less q D D B C (λ n m d. d) (λ n m c. (same n m).1 c),
  avoid_less q D D C B (λ n m d. d) (λ n m c. (same n m).0 c),
)

same_left : (a b : Process) (B C : ℕ → Type 0) → SameIn (Parallel a b) B C → SameIn a B C
same_left a b B C same n m = same n (mem_append_left n (leaves a) (leaves b) m)

same_right : (a b : Process) (B C : ℕ → Type 0) → SameIn (Parallel a b) B C → SameIn b B C
same_right a b B C same n m = same n (mem_append_right n (leaves a) (leaves b) m)

kept_out_as : (q : Process) (D B C : ℕ → Type 0) (n : ℕ) → SameIn q B C → IsKeptOut q D B n → IsKeptOut q D C n
kept_out_as (Sequence a b) D B C n same h = ⊎_elim (λ k. inl (kept_out_as a D B C n (same_left a b B C same) k)) (λ k. inr (kept_out_as b D B C n (same_right a b B C same) k)) h
kept_out_as (Parallel a b) D B C n same h = ⊎_elim (λ k. inl (kept_out_as a D B C n (same_left a b B C same) k)) (λ k. inr (kept_out_as b D B C n (same_right a b B C same) k)) h
kept_out_as (Choice a b) D B C n same h =
    let left = avoid_same a D B C (same_left a b B C same) in
    let right = avoid_same b D B C (same_right a b B C same) in
    ⊎_elim
    (⊎_elim
    (λ (m, k). inl (inl (m, ⊎_elim (λ never. inl (λ can. never (left.1 can))) inr k)))
    (λ (m, k). inl (inr (m, ⊎_elim (λ never. inl (λ can. never (right.1 can))) inr k))))
    (⊎_elim
    (λ k. inr (inl (kept_out_as a D B C n (same_left a b B C same) k)))
    (λ k. inr (inr (kept_out_as b D B C n (same_right a b B C same) k)))) h
kept_out_as (Isolated a) D B C n same h = kept_out_as a D B C n same h
kept_out_as leaf D B C n same h = absurd h

-- The pass finds them

barred-append : (choices more : List (Process × Process)) (begun spoils barred : ℕ → Bool) (n : ℕ) →
    barred_by (choices ++ more) begun spoils barred n ≡ barred_by more begun (spoiled_by choices begun spoils) (barred_by choices begun spoils barred) n
barred-append [] more begun spoils barred n = refl
barred-append (choice ∷ choices) more begun spoils barred n =
    barred-append choices more begun (spoiled_by_choice begun spoils (leaves choice.0) (leaves choice.1)) (barred_by_choice begun spoils barred (leaves choice.0) (leaves choice.1)) n

-- the pass of the goal bars the leaves that its choices keep out
abbrev Bars : Process → (ℕ → Bool) → (ℕ → Bool) → (ℕ → Bool) → ℕ → Type 0
Bars q begun spoils barred n =
    (barred_by (choices_of q) begun spoils barred n ≡ true) ↔ ((barred n ≡ true) ⊎ IsKeptOut q (λ m. IsTrue (begun m)) (λ m. IsTrue (spoils m)) n)

halves_bar : (a b : Process) (begun spoils barred : ℕ → Bool) (n : ℕ) → AreDistinct (leaves a ++ leaves b) → Bars a begun spoils barred n →
    ((more other : ℕ → Bool) → Bars b begun more other n) →
    (barred_by (choices_of a ++ choices_of b) begun spoils barred n ≡ true)
    ↔ ((barred n ≡ true) ⊎ (IsKeptOut a (λ m. IsTrue (begun m)) (λ m. IsTrue (spoils m)) n ⊎ IsKeptOut b (λ m. IsTrue (begun m)) (λ m. IsTrue (spoils m)) n))
halves_bar a b begun spoils barred n d left right = (
  λ e. ⊎_elim
      (λ h. ⊎_elim inl (λ k. inr (inl k)) (left.0 h))
      (λ h. inr (inr (kept_out_as b D U S n (λ x m. (λ k. sym (same x m) ∙ k, λ k. same x m ∙ k)) h)))
      ((right more other).0 (sym (barred-append (choices_of a) (choices_of b) begun spoils barred n) ∙ e)),
  λ h. barred-append (choices_of a) (choices_of b) begun spoils barred n ∙ (right more other).1 (⊎_elim
      (λ k. inl (left.1 (inl k)))
      (⊎_elim (λ k. inl (left.1 (inr k))) (λ k. inr (kept_out_as b D S U n (λ x m. (λ k. same x m ∙ k, λ k. sym (same x m) ∙ k)) k))) h),
)
  where
    more : ℕ → Bool
    more = spoiled_by (choices_of a) begun spoils

    other : ℕ → Bool
    other = barred_by (choices_of a) begun spoils barred

    D : ℕ → Type 0
    D m = IsTrue (begun m)

    S : ℕ → Type 0
    S m = IsTrue (spoils m)

    U : ℕ → Type 0
    U m = IsTrue (more m)

    same : (x : ℕ) → x ∈ leaves b → more x ≡ spoils x
    same x m = leaves_others a begun spoils x (λ k. (distinct_parts (leaves a) (leaves b) d).2 x k m)

-- a half that cannot go on has a leaf that something spoils
spoilt_test : (a b g : Process) (begun spoils : ℕ → Bool) → TellsHalf a b begun spoils g →
    (list_any (after_halves a b begun spoils) (leaves g) ≡ true) ↔ ¬ (CanAvoid g (λ m. IsTrue (begun m)) (λ m. IsTrue (spoils m)))
spoilt_test a b g begun spoils (to, from) = (
  λ e can. let (x, m, k) = passing_member (after_halves a b begun spoils) (leaves g) e in both_ways (after_halves a b begun spoils x) (to can x m) k,
  λ never. ⊎_elim (λ e. e) (λ e. absurd (never (from (none_passes (after_halves a b begun spoils) (leaves g) e)))) (cases_Bool (list_any (after_halves a b begun spoils) (leaves g))),
)

bars : (q : Process) → IsFolded q → AreDistinct (leaves q) → (begun spoils barred : ℕ → Bool) (n : ℕ) → Bars q begun spoils barred n
bars (Sequence a b) (f, g) d begun spoils barred n = let (da, db, _) = distinct_parts (leaves a) (leaves b) d in
    halves_bar a b begun spoils barred n d (bars a f da begun spoils barred n) (λ more other. bars b g db begun more other n)
bars (Parallel a b) (f, g) d begun spoils barred n = let (da, db, _) = distinct_parts (leaves a) (leaves b) d in
    halves_bar a b begun spoils barred n d (bars a f da begun spoils barred n) (λ more other. bars b g db begun more other n)
bars (Choice a b) (never, f, g) d begun spoils barred n = let (da, db, _) = distinct_parts (leaves a) (leaves b) d in
    whole (halves_bar a b begun spoils barred n d (bars a f da begun spoils barred n) (λ more other. bars b g db begun more other n))
    (left_half a b begun spoils d (tells_avoided a f da begun spoils)) (right_half a b begun spoils d (tells_avoided b g db begun))
  where
    S : ℕ → Bool
    S = after_halves a b begun spoils

    T : ℕ → Bool
    T = barred_by (choices_of a ++ choices_of b) begun spoils barred

    last : barred_by (choices_of (Choice a b)) begun spoils barred n ≡ barred_by_choice begun S T (leaves a) (leaves b) n
    last = barred-append (choices_of a ++ choices_of b) ((a, b) ∷ []) begun spoils barred n

    whole : (T n ≡ true) ↔ ((barred n ≡ true) ⊎ (IsKeptOut a (λ m. IsTrue (begun m)) (λ m. IsTrue (spoils m)) n ⊎ IsKeptOut b (λ m. IsTrue (begun m)) (λ m. IsTrue (spoils m)) n)) →
        TellsHalf a b begun spoils a → TellsHalf a b begun spoils b → Bars (Choice a b) begun spoils barred n
    whole halves left right =
        let both = either_test (is_in (leaves a) n && (list_any S (leaves a) || list_any begun (leaves b))) (is_in (leaves b) n && (list_any S (leaves b) || list_any begun (leaves a)))
        (both_tests (is_in (leaves a) n) (list_any S (leaves a) || list_any begun (leaves b)) (member_test (leaves a) n)
        (either_test (list_any S (leaves a)) (list_any begun (leaves b)) (spoilt_test a b a begun spoils left) (begun_test b begun)))
        (both_tests (is_in (leaves b) n) (list_any S (leaves b) || list_any begun (leaves a)) (member_test (leaves b) n)
        (either_test (list_any S (leaves b)) (list_any begun (leaves a)) (spoilt_test a b b begun spoils right) (begun_test a begun))) in
        let (to, from) = either_test (T n) _ halves both in (
          λ e. ⊎_elim (⊎_elim inl (λ k. inr (inr k))) (λ k. inr (inl k)) (to (sym last ∙ e)),
          λ h. last ∙ from (⊎_elim (λ k. inl (inl k)) (⊎_elim inr (λ k. inl (inr k))) h),
        )
bars (Isolated a) f d begun spoils barred n = bars a (folded_where_free a f) d begun spoils barred n
bars leaf f d begun spoils barred n = (inl, ⊎_elim (λ h. h) absurd)

-- And they are those that may not be begun

-- what cannot fail to be avoided can be
avoid_decided : (q : Process) (begun banned : ℕ → Bool) → IsFolded q → AreDistinct (leaves q) →
    ¬ (¬ (CanAvoid q (λ n. IsTrue (begun n)) (λ n. IsTrue (banned n)))) → CanAvoid q (λ n. IsTrue (begun n)) (λ n. IsTrue (banned n))
avoid_decided q begun banned f d nearly = let (to, from) = avoided_in_one_pass q begun banned f d in
    ⊎_elim (λ e. absurd (nearly (λ can. both_ways (list_any (spoiled_by (choices_of q) begun banned) (leaves q)) (to can) e))) from
    (cases_Bool (list_any (spoiled_by (choices_of q) begun banned) (leaves q)))

module _ (begun banned : ℕ → Bool) (n : ℕ) where
  abbrev D : ℕ → Type 0
  D m = IsTrue (begun m)

  abbrev B : ℕ → Type 0
  B m = IsTrue (banned m)

  abbrev E : ℕ → Type 0
  E = DoneOr D (n ∷ [])

  abbrev MayBegin : Process → Type 0
  MayBegin q = CanAvoid q E B ↔ (¬ (B n) × ¬ (IsKeptOut q D B n))

  -- a half that lacks the leaf is as it was
  other_half : (q : Process) → ¬ (n ∈ leaves q) → CanAvoid q D B → CanAvoid q E B
  other_half q out = avoid_begun q D E B (λ x m. ⊎_elim (λ e. e) (λ k. absurd (out (subst (λ z. z ∈ leaves q) (only_one x n k) m))))

  not_begun : (q : Process) → ¬ (n ∈ leaves q) → ¬ (IsBegun q D) → ¬ (IsBegun q E)
  not_begun q out none (x, m, e) = ⊎_elim (λ k. none (x, m, k)) (λ k. out (subst (λ z. z ∈ leaves q) (only_one x n k) m)) e

  in_left : (a b : Process) → n ∈ leaves a → ¬ (n ∈ leaves b) → CanAvoid b D B → MayBegin a → (CanAvoid a E B × CanAvoid b E B) ↔ (¬ (B n) × ¬ (IsKeptOut a D B n ⊎ IsKeptOut b D B n))
  in_left a b m out rest (to, from) = (
    λ (h, k). let (may, free) = to h in (may, ⊎_elim free (λ c. out (kept_out_leaf b D B n c))),
    λ (may, free). (from (may, λ c. free (inl c)), other_half b out rest),
  )

  in_right : (a b : Process) → ¬ (n ∈ leaves a) → n ∈ leaves b → CanAvoid a D B → MayBegin b → (CanAvoid a E B × CanAvoid b E B) ↔ (¬ (B n) × ¬ (IsKeptOut a D B n ⊎ IsKeptOut b D B n))
  in_right a b out m rest (to, from) = (
    λ (h, k). let (may, free) = to k in (may, ⊎_elim (λ c. out (kept_out_leaf a D B n c)) free),
    λ (may, free). (other_half a out rest, from (may, λ c. free (inr c))),
  )

  fewer : (q : Process) → CanAvoid q E B → CanAvoid q D B
  fewer q = avoid_begun q E D B (λ x m. inl)

  choice_left : (a b : Process) → IsFolded a → AreDistinct (leaves a) → n ∈ leaves a → ¬ (n ∈ leaves b) → (CanAvoid a D B → MayBegin a) → MayBegin (Choice a b)
  choice_left a b f d m out may = (
    ⊎_elim
        (λ (h, none). let (unbanned, free) = (may (fewer a h)).0 h in (
          unbanned,
          ⊎_elim
              (⊎_elim (λ (k, c). ⊎_elim (λ never. never (fewer a h)) (λ (x, l, e). none (x, l, inl e)) c) (λ (k, c). out k))
              (⊎_elim free (λ c. out (kept_out_leaf b D B n c))),
        ))
        (λ (h, none). absurd (none (n, m, inr (inl refl)))),
    λ (unbanned, free). let can = avoid_decided a begun banned f d (λ never. free (inl (inl (m, inl never)))) in
        inl ((may can).1 (unbanned, λ c. free (inr (inl c))), not_begun b out (λ k. free (inl (inl (m, inr k))))),
  )

  choice_right : (a b : Process) → IsFolded b → AreDistinct (leaves b) → ¬ (n ∈ leaves a) → n ∈ leaves b → (CanAvoid b D B → MayBegin b) → MayBegin (Choice a b)
  choice_right a b f d out m may = (
    ⊎_elim
        (λ (h, none). absurd (none (n, m, inr (inl refl))))
        (λ (h, none). let (unbanned, free) = (may (fewer b h)).0 h in (
          unbanned,
          ⊎_elim
              (⊎_elim (λ (k, c). out k) (λ (k, c). ⊎_elim (λ never. never (fewer b h)) (λ (x, l, e). none (x, l, inl e)) c))
              (⊎_elim (λ c. out (kept_out_leaf a D B n c)) free),
        )),
    λ (unbanned, free). let can = avoid_decided b begun banned f d (λ never. free (inl (inr (m, inl never)))) in
        inr ((may can).1 (unbanned, λ c. free (inr (inr c))), not_begun a out (λ k. free (inl (inr (m, inr k))))),
  )

  may_begin : (q : Process) → IsFolded q → AreDistinct (leaves q) → CanAvoid q D B → n ∈ leaves q → MayBegin q
  may_begin Empty f d h m = absurd m
  may_begin (Task k) f d h m = (
    λ may. (subst (λ z. ¬ (B z)) (sym (only_one n k m)) may, λ c. c),
    λ (may, free). subst (λ z. ¬ (B z)) (only_one n k m) may,
  )
  may_begin (Sequence a b) (f, g) d (h, k) m = let (da, db, apart) = distinct_parts (leaves a) (leaves b) d in ⊎_elim
      (λ l. in_left a b l (apart n l) k (may_begin a f da h l))
      (λ l. in_right a b (λ o. apart n o l) l h (may_begin b g db k l)) (mem-append n (leaves a) (leaves b) m)
  may_begin (Parallel a b) (f, g) d (h, k) m = let (da, db, apart) = distinct_parts (leaves a) (leaves b) d in ⊎_elim
      (λ l. in_left a b l (apart n l) k (may_begin a f da h l))
      (λ l. in_right a b (λ o. apart n o l) l h (may_begin b g db k l)) (mem-append n (leaves a) (leaves b) m)
  may_begin (Choice a b) (never, f, g) d h m = let (da, db, apart) = distinct_parts (leaves a) (leaves b) d in ⊎_elim
      (λ l. choice_left a b f da l (apart n l) (λ can. may_begin a f da can l))
      (λ l. choice_right a b g db (λ o. apart n o l) l (λ can. may_begin b g db can l)) (mem-append n (leaves a) (leaves b) m)
  may_begin (Isolated a) f d h m = may_begin a (folded_where_free a f) d h m

pub may_begin_by_one_pass : MayBeginByOnePass
may_begin_by_one_pass q begun banned f d h n m =
    let (to, from) = may_begin begun banned n q f d h m in
    let (found, finds) = bars q f d begun banned banned n in (
      λ can. let (may, free) = to can in false_from_ne_true (barred_by (choices_of q) begun banned banned n) (λ e. ⊎_elim may free (found e)),
      λ e. from (λ k. both_ways (barred_by (choices_of q) begun banned banned n) e (finds (inl k)), λ k. both_ways (barred_by (choices_of q) begun banned banned n) e (finds (inr k))),
    )
