-- The claims: what an answer and a new epoch do to them, and which are current.
use Rattle.std.proofs.Common.{◌≡◌, ◌≢◌, ℕ, ◌+◌, ◌≤◌, Bool, true, false, not, ◌&&◌, ◌==◌, nat_lt, IsSomeAnd, List, [], ◌∷◌, ◌++◌, map, filter, find, refl, sym, ap, ◌∙◌, subst, inl, inr, Option, Some, None, arith, ◌↔◌, IsTrue, append_assoc, append-nil, true≢false}
pub use Rattle.std.proofs.lemmas.Bool.{and_parts}
use Rattle.std.proofs.lemmas.Bool.{eqb-true, ltb-true, cases_Bool, false_from_ne_true, and_from, eq-eqb}
use Rattle.flow_model.specs.Lists.{◌∈◌, Each, AreDistinct}
use Rattle.flow_model.specs.Run.{Claim, RunState, claim_at, leaf_of_claim, answer, is_current, MayAllFollow, spare}
use Rattle.flow_model.specs.Schema.{Schema}
use Rattle.flow_model.specs.Decided.{Decided, told, decide_all_follow, can_all_follow}
use Rattle.flow_laws.specs.Spared.{IsSpared, AreSpared, spared_leaves, AnswersAreTheTest, OthersStay, SparedPieceByPiece}
use Rattle.flow_model.proofs.MadeLists.{of_find}

abbrev pub number_of : Claim → ℕ
number_of claim = claim.number

abbrev pub leaf_of : Claim → ℕ
leaf_of claim = claim.leaf

-- unanswered, and of that epoch
abbrev pub is_of : ℕ → Claim → Bool
is_of epoch claim = not claim.answered && (claim.epoch == epoch)

-- the claim once answered
abbrev pub answered : Claim → Claim
answered claim = record claim { answered = true }

pub and_false : (a : Bool) → (a && false) ≡ false
and_false true = refl
and_false false = refl

-- What an answer keeps

pub answer_keeps : (P : Claim → Type 0) → ((claim : Claim) → P claim → P (answered claim)) → (number : ℕ) (claims : List Claim) →
    Each P claims → Each P (answer number claims)
answer_keeps P keeps number [] h = tt
answer_keeps P keeps number (x ∷ xs) (h, t) = grind (arith, cases_Bool (x.number == number), h, keeps x h, answer_keeps P keeps number xs t)

pub numbers-answer : (number : ℕ) (claims : List Claim) → map number_of (answer number claims) ≡ map number_of claims
numbers-answer number [] = refl
numbers-answer number (x ∷ xs) = grind (arith, cases_Bool (x.number == number), numbers-answer number xs)

answer_of_none : (number : ℕ) (claims : List Claim) → ¬ (number ∈ map number_of claims) → answer number claims ≡ claims
answer_of_none number [] none = refl
answer_of_none number (x ∷ xs) none =
    grind (arith, cases_Bool (x.number == number), eqb-true x.number number, none, answer_of_none number xs)

-- nothing else is answered by the number of the first claim
answer_of_first : (x : Claim) (xs : List Claim) (number : ℕ) → ¬ (x.number ∈ map number_of xs) → (x.number == number) ≡ true → answer number xs ≡ xs
answer_of_first x xs number new e = answer_of_none number xs (λ m. new (subst (λ n. n ∈ map number_of xs) (sym (eqb-true x.number number e)) m))

-- The current claims without the answered one

pub taken_out : (epoch number : ℕ) (claims : List Claim) (claim : Claim) → AreDistinct (map number_of claims) →
    find (λ (x : Claim). x.number == number) claims ≡ Some claim → is_of epoch claim ≡ true →
    (a b : List ℕ) × (map leaf_of (filter (is_of epoch) claims) ≡ a ++ claim.leaf ∷ b)
    × (map leaf_of (filter (is_of epoch) (answer number claims)) ≡ a ++ b)
taken_out epoch number [] claim d e h = cc
taken_out epoch number (x ∷ xs) claim (new, d) e h = elim (cases_Bool (x.number == number)) [
  | inl i ↦ ([], map leaf_of (filter (is_of epoch) xs), grind (arith, e, h, i), grind (arith, e, h, i, answer_of_first x xs number new))
  | inr i ↦ (let (a, b, j, k) = taken_out epoch number xs claim d (rw i at e) h in
      elim (cases_Bool (is_of epoch x)) [
        | inl current ↦ rw (i, current) (x.leaf ∷ a, b, ap (λ w. x.leaf ∷ w) j, ap (λ w. x.leaf ∷ w) k)
        | inr past ↦ rw (i, past) (a, b, j, k)
      ])
]

-- an answer to a claim that is not current changes none that is
pub none_taken_out : (epoch number : ℕ) (claims : List Claim) (claim : Claim) → AreDistinct (map number_of claims) →
    find (λ (x : Claim). x.number == number) claims ≡ Some claim → is_of epoch claim ≡ false →
    filter (is_of epoch) (answer number claims) ≡ filter (is_of epoch) claims
none_taken_out epoch number [] claim d e h = refl
none_taken_out epoch number (x ∷ xs) claim (new, d) e h =
    grind (arith, cases_Bool (x.number == number), e, h, answer_of_first x xs number new, none_taken_out epoch number xs claim d)

-- a claim of another epoch is not of that one
not_of_other : (epoch : ℕ) (claim : Claim) → claim.epoch ≢ epoch → is_of epoch claim ≡ false
not_of_other epoch claim n =
    ap (λ b. not claim.answered && b) (false_from_ne_true (claim.epoch == epoch) (λ e. n (eqb-true claim.epoch epoch e))) ∙ and_false (not claim.answered)

pub lapsed_is_not_current : (epoch : ℕ) (claim : Claim) → (not claim.answered && nat_lt claim.epoch epoch) ≡ true → is_of epoch claim ≡ false
lapsed_is_not_current epoch claim h =
    not_of_other epoch claim (λ e. omega (arith, e, ltb-true claim.epoch epoch (and_parts (not claim.answered) (nat_lt claim.epoch epoch) h).1))

-- The claim of a number

pub leaf_of_claim_is : (s : RunState) (number : ℕ) (claim : Claim) → claim_at s number ≡ Some claim → leaf_of_claim s number ≡ claim.leaf
leaf_of_claim_is s number claim e = rw e refl

pub some_claim : (P : Claim → Type 0) (o : Option Claim) → IsSomeAnd o P → (claim : Claim) × (o ≡ Some claim) × P claim
some_claim P None h = absurd h
some_claim P (Some claim) h = (claim, refl, h)

pub claim_in : (claims : List Claim) (number : ℕ) (claim : Claim) →
    find (λ (x : Claim). x.number == number) claims ≡ Some claim → claim ∈ claims
claim_in claims number claim e = (of_find (λ (x : Claim). x.number == number) claims claim e).0

-- The test

pub told_true : {P : Type 0} (d : Decided P) → told d ≡ true ↔ P
told_true (inl p) = (λ e. p, λ q. refl)
told_true (inr n) = (λ e. absurd (true≢false (sym e)), λ q. absurd (n q))

pub can_follow : (w : Schema) (s : RunState) (list : List ℕ) → IsTrue (can_all_follow w s list) ↔ MayAllFollow w s list
can_follow w s list = told_true (decide_all_follow w s.journal s.bans list)

pub answers_are_the_test : AnswersAreTheTest
answers_are_the_test w s list answer = grind (arith, can_follow w s list, cases_Bool (can_all_follow w s list), cases_Bool answer)

-- whether the claim is spared
abbrev pub is_spared : Schema → RunState → List ℕ → Claim → Bool
is_spared w s before claim = is_current s claim && can_all_follow w s (before ++ claim.leaf ∷ [])

pub spared_told : (w : Schema) (s : RunState) (before : List ℕ) (claim : Claim) → is_spared w s before claim ≡ true ↔ IsSpared w s before claim
spared_told w s before claim =
    let test = can_all_follow w s (before ++ claim.leaf ∷ []) in
    grind (arith, can_follow w s (before ++ claim.leaf ∷ []), and_parts (is_current s claim) test, and_from (is_current s claim) test)

-- What sparing keeps

-- the claim in the epoch that begins
abbrev pub renewed : RunState → Claim → Claim
renewed s claim = record claim { epoch = s.epoch + 1 }

pub spare_keeps : (P : Claim → Type 0) (w : Schema) (s : RunState) → ((claim : Claim) → P claim → P (renewed s claim)) →
    (before : List ℕ) (claims : List Claim) → Each P claims → Each P (spare w s before claims)
spare_keeps P w s keeps before [] h = tt
spare_keeps P w s keeps before (x ∷ xs) (h, t) =
    let fact = spare_keeps P w s keeps (before ++ x.leaf ∷ []) xs t in
    grind (arith, h, keeps x h, cases_Bool (is_spared w s before x), spare_keeps P w s keeps before xs t)

pub numbers-spare : (w : Schema) (s : RunState) (before : List ℕ) (claims : List Claim) → map number_of (spare w s before claims) ≡ map number_of claims
numbers-spare w s before [] = refl
numbers-spare w s before (x ∷ xs) =
    grind (arith, cases_Bool (is_spared w s before x), numbers-spare w s (before ++ x.leaf ∷ []) xs, numbers-spare w s before xs)

-- The claims that are current in the new epoch

pub spared_are_current : (w : Schema) (s : RunState) (before : List ℕ) (claims : List Claim) → Each (λ (claim : Claim). claim.epoch ≤ s.epoch) claims →
    map leaf_of (filter (is_of (s.epoch + 1)) (spare w s before claims)) ≡ spared_leaves w s before claims
spared_are_current w s before [] h = refl
spared_are_current w s before (x ∷ xs) (h, t) =
    let fact = spared_are_current w s (before ++ x.leaf ∷ []) xs t in
    let other_fact = and_parts (not x.answered) (x.epoch == s.epoch) in
    let older = not_of_other (s.epoch + 1) x (omega (arith, h)) in
    grind (arith, spared_told w s before x, eq-eqb (s.epoch + 1) (s.epoch + 1) refl, spared_are_current w s before xs t, cases_Bool (is_spared w s before x))

-- in two pieces: the second is looked at after what is spared of the first
pub spared-append : SparedPieceByPiece
spared-append w s before [] b = (ap (λ l. spare w s l b) (sym (append-nil before)), ap (λ l. spared_leaves w s l b) (sym (append-nil before)))
spared-append w s before (x ∷ xs) b = let next = before ++ x.leaf ∷ [] in
    let fact = append_assoc before (x.leaf ∷ []) (spared_leaves w s next xs) in
    grind (arith, spared-append w s next xs b, spared-append w s before xs b, cases_Bool (is_spared w s before x))

-- where none is current, all stay as they are
pub spare_of_none : OthersStay
spare_of_none w s before [] e = (refl, refl)
spare_of_none w s before (x ∷ xs) e = grind (arith, cases_Bool (is_current s x), e, spare_of_none w s before xs)

-- what is spared may follow what was spared before
pub spared_may_follow : (w : Schema) (s : RunState) (before : List ℕ) (claims : List Claim) → MayAllFollow w s before →
    MayAllFollow w s (before ++ spared_leaves w s before claims)
spared_may_follow w s before [] may = subst (MayAllFollow w s) (sym (append-nil before)) may
spared_may_follow w s before (x ∷ xs) may = let next = before ++ x.leaf ∷ [] in
    let fact = spared_may_follow w s before xs may in let other_fact = append_assoc before (x.leaf ∷ []) (spared_leaves w s next xs) in
    grind (arith, (spared_told w s before x).0, spared_may_follow w s next xs, cases_Bool (is_spared w s before x))

-- Just those

pub spare_is : (w : Schema) (s : RunState) (before : List ℕ) (claims : List Claim) → AreSpared w s before claims (spare w s before claims)
spare_is w s before [] = refl
spare_is w s before (x ∷ xs) = elim (cases_Bool (is_spared w s before x)) [
  | inl e ↦ (spare w s (before ++ x.leaf ∷ []) xs, grind (arith, e, spared_told w s before x, spare_is w s (before ++ x.leaf ∷ []) xs))
  | inr e ↦ (spare w s before xs, grind (arith, e, spared_told w s before x, spare_is w s before xs))
]

pub spare_only : (w : Schema) (s : RunState) (before : List ℕ) (claims left : List Claim) → AreSpared w s before claims left → left ≡ spare w s before claims
spare_only w s before [] left h = h
spare_only w s before (x ∷ xs) left (rest, h) =
    let fact = spare_only w s (before ++ x.leaf ∷ []) xs rest in
    grind (arith, h, spared_told w s before x, spare_only w s before xs rest, cases_Bool (is_spared w s before x))
