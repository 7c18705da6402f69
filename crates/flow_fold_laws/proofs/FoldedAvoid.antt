-- Going through the choices once, inner ones first, tells whether the banned leaves can be avoided.
use Rattle.std.proofs.Common.{◌≡◌, ℕ, Bool, true, false, not, ◌&&◌, ◌||◌, ◌==◌, if◌then◌else◌, List, [], ◌∷◌, ◌++◌, ◌↔◌, IsTrue, refl, sym, subst, ◌∙◌, inl, inr, ⊎_elim}
use Rattle.std.specs.List.{list_any}
use Rattle.std.proofs.lemmas.Bool.{both_ways, eq-eqb, eqb-true, or_from, or_parts, or_right, and_left, and_right, and_cases, not_from_true, not_from_false, false_from_ne_true}
use Rattle.flow_model.specs.Lists.{◌∈◌, AreDistinct, joined}
use Rattle.flow_model.specs.Process.{Process, Empty, Task, Sequence, Parallel, Choice, Isolated, leaves}
use Rattle.flow_model.specs.Trace.{Blocks}
use Rattle.flow_model.specs.Folding.{IsFolded, choices_of}
use Rattle.flow_model.specs.FoldedReady.{IsBegun}
use Rattle.flow_model.specs.FoldedRun.{CanAvoid}
use Rattle.flow_model.proofs.Lists.{only_one, mem_append_left, mem_append_right, mem-append, distinct_parts}
use Rattle.flow_model.proofs.MadeLists.{some_passes, none_passes, each_fails}
use Rattle.flow_laws.proofs.TraceLeaves.{some_blocks, leaf_of_blocks, blocks_of_none}
use Rattle.flow_fold_laws.specs.FoldedRows.{spoiled_by_choice, spoiled_by, AvoidedInOnePass}
use Rattle.flow_laws.proofs.FoldingLemmas.{folded_where_free}
use Rattle.flow_fold_laws.proofs.AvoidedTogether.{avoid_less}

abbrev pub is_in : List ℕ → ℕ → Bool
is_in list n = list_any (λ x. x == n) list

pub member_is_in : (list : List ℕ) (n : ℕ) → n ∈ list → is_in list n ≡ true
member_is_in list n m = some_passes (λ x. x == n) n list m (eq-eqb n n refl)

pub other_is_out : (list : List ℕ) (n : ℕ) → ¬ (n ∈ list) → is_in list n ≡ false
other_is_out list n out = each_fails (λ x. x == n) list (λ x m. false_from_ne_true (x == n) (λ e. out (subst (λ z. z ∈ list) (eqb-true x n e) m)))

-- One more choice

-- whether something spoils a leaf once a choice was looked at, by whether neither side can be taken and whether it is in the choice
abbrev pub marked : Bool → Bool → Bool → Bool
marked neither spoils within = if neither then spoils || within else spoils && not within

pub marked_outside : (neither spoils within : Bool) → within ≡ false → marked neither spoils within ≡ spoils
marked_outside true true within e = refl
marked_outside true false within e = e
marked_outside false true within e = not_from_false within e
marked_outside false false within e = refl

marked_lost : (neither spoils within : Bool) → neither ≡ true → within ≡ true → marked neither spoils within ≡ true
marked_lost true spoils within e k = or_right spoils within k
marked_lost false spoils within e k = absurd (both_ways false refl e)

marked_saved : (neither spoils within : Bool) → neither ≡ false → within ≡ true → marked neither spoils within ≡ false
marked_saved true spoils within e k = absurd (both_ways true e refl)
marked_saved false spoils within e k = and_right spoils (not within) (not_from_true within k)

-- What a pass leaves alone

pub spoiled-append : (choices more : List (Process × Process)) (begun spoils : ℕ → Bool) (n : ℕ) →
    spoiled_by (choices ++ more) begun spoils n ≡ spoiled_by more begun (spoiled_by choices begun spoils) n
spoiled-append [] more begun spoils n = refl
spoiled-append (choice ∷ choices) more begun spoils n =
    spoiled-append choices more begun (spoiled_by_choice begun spoils (leaves choice.0) (leaves choice.1)) n

-- the pass of the goal changes nothing for leaves that it lacks
abbrev pub LeavesOthers : Process → (ℕ → Bool) → Type 0
LeavesOthers q begun = (spoils : ℕ → Bool) (n : ℕ) → ¬ (n ∈ leaves q) → spoiled_by (choices_of q) begun spoils n ≡ spoils n

others_of_halves : (a b : Process) (begun : ℕ → Bool) → LeavesOthers a begun → LeavesOthers b begun → (spoils : ℕ → Bool) (n : ℕ) →
    ¬ (n ∈ (leaves a ++ leaves b)) → spoiled_by (choices_of a ++ choices_of b) begun spoils n ≡ spoils n
others_of_halves a b begun left right spoils n out =
    spoiled-append (choices_of a) (choices_of b) begun spoils n
    ∙ right (spoiled_by (choices_of a) begun spoils) n (λ m. out (mem_append_right n (leaves a) (leaves b) m))
    ∙ left spoils n (λ m. out (mem_append_left n (leaves a) (leaves b) m))

pub leaves_others : (q : Process) (begun : ℕ → Bool) → LeavesOthers q begun
leaves_others (Sequence a b) begun spoils n out = others_of_halves a b begun (leaves_others a begun) (leaves_others b begun) spoils n out
leaves_others (Parallel a b) begun spoils n out = others_of_halves a b begun (leaves_others a begun) (leaves_others b begun) spoils n out
leaves_others (Choice a b) begun spoils n out =
    spoiled-append (choices_of a ++ choices_of b) ((a, b) ∷ []) begun spoils n
    ∙ marked_outside _ _ (is_in (leaves a ++ leaves b) n) (other_is_out (leaves a ++ leaves b) n out)
    ∙ others_of_halves a b begun (leaves_others a begun) (leaves_others b begun) spoils n out
leaves_others (Isolated a) begun spoils n out = leaves_others a begun spoils n out
leaves_others leaf begun spoils n out = refl

-- What is avoided

-- the pass marks no leaf of the goal exactly where it can avoid what spoils it
abbrev pub TellsAvoided : Process → (ℕ → Bool) → (ℕ → Bool) → Type 0
TellsAvoided q begun spoils =
    CanAvoid q (λ n. IsTrue (begun n)) (λ n. IsTrue (spoils n)) ↔ ((x : ℕ) → x ∈ leaves q → spoiled_by (choices_of q) begun spoils x ≡ false)

module _ (a b : Process) (begun spoils : ℕ → Bool) where
  -- what spoils a leaf once the choices in both halves were looked at
  abbrev pub after_halves : ℕ → Bool
  after_halves = spoiled_by (choices_of a ++ choices_of b) begun spoils

  abbrev pub TellsHalf : Process → Type 0
  TellsHalf g = CanAvoid g (λ n. IsTrue (begun n)) (λ n. IsTrue (spoils n)) ↔ ((x : ℕ) → x ∈ leaves g → after_halves x ≡ false)

  pub left_half : AreDistinct (leaves a ++ leaves b) → TellsAvoided a begun spoils → TellsHalf a
  left_half d left =
      let (da, db, apart) = distinct_parts (leaves a) (leaves b) d in
      let same = λ (x : ℕ) (m : x ∈ leaves a). spoiled-append (choices_of a) (choices_of b) begun spoils x
      ∙ leaves_others b begun (spoiled_by (choices_of a) begun spoils) x (apart x m) in
      (λ h x m. same x m ∙ left.0 h x m, λ each. left.1 (λ x m. sym (same x m) ∙ each x m))

  pub right_half : AreDistinct (leaves a ++ leaves b) → ((more : ℕ → Bool) → TellsAvoided b begun more) → TellsHalf b
  right_half d right =
      let (da, db, apart) = distinct_parts (leaves a) (leaves b) d in
      let U : ℕ → Bool = spoiled_by (choices_of a) begun spoils in
      let same = λ (x : ℕ) (m : x ∈ leaves b). leaves_others a begun spoils x (λ k. apart x k m) in (
        λ h x m. spoiled-append (choices_of a) (choices_of b) begun spoils x
            ∙ (right U).0 (avoid_less b (λ n. IsTrue (begun n)) (λ n. IsTrue (begun n)) (λ n. IsTrue (spoils n)) (λ n. IsTrue (U n)) (λ n k e. e) (λ n k e. sym (same n k) ∙ e) h) x m,
        λ each. avoid_less b (λ n. IsTrue (begun n)) (λ n. IsTrue (begun n)) (λ n. IsTrue (U n)) (λ n. IsTrue (spoils n)) (λ n k e. e) (λ n k e. same n k ∙ e)
            ((right U).1 (λ x m. sym (spoiled-append (choices_of a) (choices_of b) begun spoils x) ∙ each x m)),
      )

  both_halves : TellsHalf a → TellsHalf b →
      (CanAvoid a (λ n. IsTrue (begun n)) (λ n. IsTrue (spoils n)) × CanAvoid b (λ n. IsTrue (begun n)) (λ n. IsTrue (spoils n)))
      ↔ ((x : ℕ) → x ∈ (leaves a ++ leaves b) → after_halves x ≡ false)
  both_halves left right = (
    λ (h, k) x m. ⊎_elim (left.0 h x) (right.0 k x) (mem-append x (leaves a) (leaves b) m),
    λ each. (left.1 (λ x m. each x (mem_append_left x (leaves a) (leaves b) m)), right.1 (λ x m. each x (mem_append_right x (leaves a) (leaves b) m))),
  )

  -- neither side of the choice can be taken
  abbrev neither : Bool
  neither = (list_any after_halves (leaves a) || list_any begun (leaves b)) && (list_any after_halves (leaves b) || list_any begun (leaves a))

  none_begun : (g : Process) → ¬ (IsBegun g (λ n. IsTrue (begun n))) → list_any begun (leaves g) ≡ false
  none_begun g none = each_fails begun (leaves g) (λ x m. false_from_ne_true (begun x) (λ e. none (x, m, e)))

  not_begun : (g : Process) → list_any begun (leaves g) ≡ false → ¬ (IsBegun g (λ n. IsTrue (begun n)))
  not_begun g e (x, m, k) = both_ways (begun x) (none_passes begun (leaves g) e x m) k

  one_taken : TellsHalf a → TellsHalf b → CanAvoid (Choice a b) (λ n. IsTrue (begun n)) (λ n. IsTrue (spoils n)) ↔ (neither ≡ false)
  one_taken left right = (
    ⊎_elim
        (λ (h, none). and_left (list_any after_halves (leaves a) || list_any begun (leaves b)) (list_any after_halves (leaves b) || list_any begun (leaves a))
        (or_from (list_any after_halves (leaves a)) (list_any begun (leaves b)) (each_fails after_halves (leaves a) (left.0 h)) (none_begun b none)))
        (λ (h, none). and_right (list_any after_halves (leaves a) || list_any begun (leaves b)) (list_any after_halves (leaves b) || list_any begun (leaves a))
        (or_from (list_any after_halves (leaves b)) (list_any begun (leaves a)) (each_fails after_halves (leaves b) (right.0 h)) (none_begun a none))),
    λ e. ⊎_elim
        (λ k. let (clean, none) = or_parts (list_any after_halves (leaves a)) (list_any begun (leaves b)) k in
        inl (left.1 (none_passes after_halves (leaves a) clean), not_begun b none))
        (λ k. let (clean, none) = or_parts (list_any after_halves (leaves b)) (list_any begun (leaves a)) k in
        inr (right.1 (none_passes after_halves (leaves b) clean), not_begun a none))
        (and_cases (list_any after_halves (leaves a) || list_any begun (leaves b)) (list_any after_halves (leaves b) || list_any begun (leaves a)) e),
  )

-- a goal that is never executed with no block has a leaf
some_leaf : (q : Process) → ¬ (Blocks q []) → (x : ℕ) × (x ∈ leaves q)
some_leaf q never =
    let (bs, h) = some_blocks q in
    first_leaf (joined bs) (λ n m. leaf_of_blocks q bs h n m) (λ none. never (subst (Blocks q) (blocks_of_none q bs h (λ n m. subst (λ l. n ∈ l) none m)) h))
  where
    first_leaf : (list : List ℕ) → ((n : ℕ) → n ∈ list → n ∈ leaves q) → ¬ (list ≡ []) → (x : ℕ) × (x ∈ leaves q)
    first_leaf [] of_goal some = absurd (some refl)
    first_leaf (x ∷ list) of_goal some = (x, of_goal x (inl refl))

pub tells_avoided : (q : Process) → IsFolded q → AreDistinct (leaves q) → (begun spoils : ℕ → Bool) → TellsAvoided q begun spoils
tells_avoided Empty f d begun spoils = (λ h x m. absurd m, λ each. tt)
tells_avoided (Task n) f d begun spoils = (
  λ h x m. false_from_ne_true (spoils x) (λ e. h (subst (λ z. spoils z ≡ true) (only_one x n m) e)),
  λ each e. both_ways (spoils n) (each n (inl refl)) e,
)
tells_avoided (Sequence a b) (f, g) d begun spoils = let (da, db, _) = distinct_parts (leaves a) (leaves b) d in
    both_halves a b begun spoils (left_half a b begun spoils d (tells_avoided a f da begun spoils)) (right_half a b begun spoils d (tells_avoided b g db begun))
tells_avoided (Parallel a b) (f, g) d begun spoils = let (da, db, _) = distinct_parts (leaves a) (leaves b) d in
    both_halves a b begun spoils (left_half a b begun spoils d (tells_avoided a f da begun spoils)) (right_half a b begun spoils d (tells_avoided b g db begun))
tells_avoided (Choice a b) (never, f, g) d begun spoils = let (da, db, _) = distinct_parts (leaves a) (leaves b) d in
    choice_told (one_taken a b begun spoils (left_half a b begun spoils d (tells_avoided a f da begun spoils)) (right_half a b begun spoils d (tells_avoided b g db begun)))
  where
    last : (x : ℕ) → spoiled_by (choices_of (Choice a b)) begun spoils x ≡ marked (neither a b begun spoils) (after_halves a b begun spoils x) (is_in (leaves a ++ leaves b) x)
    last x = spoiled-append (choices_of a ++ choices_of b) ((a, b) ∷ []) begun spoils x

    choice_told : CanAvoid (Choice a b) (λ n. IsTrue (begun n)) (λ n. IsTrue (spoils n)) ↔ (neither a b begun spoils ≡ false) → TellsAvoided (Choice a b) begun spoils
    choice_told taken = (
      λ h x m. last x ∙ marked_saved (neither a b begun spoils) (after_halves a b begun spoils x) (is_in (leaves a ++ leaves b) x) (taken.0 h) (member_is_in (leaves a ++ leaves b) x m),
      λ each. taken.1 (false_from_ne_true (neither a b begun spoils) (λ e.
          let (x, m) = some_leaf (Choice a b) never in
          both_ways (spoiled_by (choices_of (Choice a b)) begun spoils x) (each x m)
          (last x ∙ marked_lost (neither a b begun spoils) (after_halves a b begun spoils x) (is_in (leaves a ++ leaves b) x) e (member_is_in (leaves a ++ leaves b) x m)))),
    )
tells_avoided (Isolated a) f d begun spoils = tells_avoided a (folded_where_free a f) d begun spoils

pub avoided_in_one_pass : AvoidedInOnePass
avoided_in_one_pass q begun banned f d =
    let (to, from) = tells_avoided q f d begun banned in (
      λ h. each_fails (spoiled_by (choices_of q) begun banned) (leaves q) (to h),
      λ e. from (none_passes (spoiled_by (choices_of q) begun banned) (leaves q) e),
    )
