-- The members of a set: which numbers they are, and that they rise.
use Rattle.std.proofs.Common.{◌≡◌, ℕ, zero, suc, ◌+◌, ◌*◌, ◌<◌, ◌↔◌, Bool, true, false, IsTrue, List, [], ◌∷◌, ◌++◌, length, get_or, sym, ap, ◌∙◌, ⊎_elim, arith, cond, length-append, append-nil}
use Rattle.std.specs.List.{Contains}
use Rattle.std.specs.List.Sorted.{IsStrictlyIncreasing}
use Rattle.std.proofs.lemmas.Bool.{cases_Bool, cases_lt, cases_eq}
use Rattle.std.proofs.lemmas.Grind.{common_steps}
use Rattle.std.proofs.lemmas.List.Elements.{Contains-append_left, Contains-get_or, Contains-push, Contains-push_cases}
use Rattle.leaf_rows.specs.declared.leaf_set.LeafSet.{LeafSet}
use Rattle.leaf_rows.specs.Leaves.{has_leaf, LiesIn, members, passing_below}
use Rattle.leaf_rows.proofs.Rows.{has_bit-parts}

-- a member is below 64 times the row's words
pub has_leaf-within : {w : ℕ} (set : LeafSet w) (n : ℕ) → IsTrue (has_leaf set n) → n < 64 * w
unfolding has_leaf
has_leaf-within {w} set n has = (has_bit-parts w set.words n has).0

pub lies_within : {w : ℕ} (set : LeafSet w) → LiesIn 0 w set
lies_within set n has = (omega arith, has_leaf-within set n has)

-- one number more, where it passes and where not
passing_below-true : (test : ℕ → Bool) (n : ℕ) → test n ≡ true → passing_below test (suc n) ≡ passing_below test n ++ n ∷ []
unfolding passing_below
passing_below-true test n passes = ap (λ b. passing_below test n ++ cond b (n ∷ []) []) passes

passing_below-false : (test : ℕ → Bool) (n : ℕ) → test n ≡ false → passing_below test (suc n) ≡ passing_below test n
unfolding passing_below
passing_below-false test n fails = ap (λ b. passing_below test n ++ cond b (n ∷ []) []) fails ∙ append-nil _

-- what is listed passes, and is below the bound
pub passing_below-listed : (test : ℕ → Bool) (bound n : ℕ) → Contains (passing_below test bound) n → (n < bound) × (test n ≡ true)
unfolding passing_below
passing_below-listed test zero n listed = absurd (omega (arith, listed.1))
passing_below-listed test (suc bound) n listed = ⊎_elim
    (λ passes. ⊎_elim
    (λ before. let earlier = passing_below-listed test bound n before in (omega (arith, earlier.0), earlier.1))
    (λ same. (omega arith, ap test (sym same) ∙ passes))
    (Contains-push_cases (passing_below test bound) bound n (rw (passing_below-true test bound passes) at listed)))
    (λ fails. let earlier = passing_below-listed test bound n (rw (passing_below-false test bound fails) at listed) in (omega (arith, earlier.0), earlier.1))
    (cases_Bool (test bound))

-- what passes, and is below the bound, is listed
pub passing_below-lists : (test : ℕ → Bool) (bound n : ℕ) → n < bound → test n ≡ true → Contains (passing_below test bound) n
unfolding passing_below
passing_below-lists test zero n below passes = absurd (omega arith)
passing_below-lists test (suc bound) n below passes = ⊎_elim
    (λ same. rw same (rw (passing_below-true test bound (ap test (sym same) ∙ passes)) (Contains-push (passing_below test bound) bound)))
    (λ other. Contains-append_left (passing_below test bound) (cond (test bound) (bound ∷ []) []) n
    (passing_below-lists test bound n (omega arith) passes))
    (cases_eq n bound)

-- exactly the members are listed
pub contains_members : {w : ℕ} (set : LeafSet w) (n : ℕ) → Contains (members set) n ↔ IsTrue (has_leaf set n)
unfolding members
contains_members {w} set n = (
  (λ listed. (passing_below-listed (has_leaf set) (64 * w) n listed).1),
  (λ has. passing_below-lists (has_leaf set) (64 * w) n (has_leaf-within set n has) has),
)

-- a number above all of a rising list, behind it
IsStrictlyIncreasing-push : (xs : List ℕ) (y : ℕ) → IsStrictlyIncreasing xs → ((k : ℕ) → k < length xs → get_or xs k 0 < y)
    → IsStrictlyIncreasing (xs ++ y ∷ [])
IsStrictlyIncreasing-push xs y rise above k within = ⊎_elim
    (λ inside. let before = rise k inside in grind (arith, common_steps, before))
    (λ last. let before : get_or xs k 0 < y = above k (omega (arith, length-append xs (y ∷ []))) in
    grind (arith, common_steps, before))
    (cases_lt (k + 1) (length xs))

-- the list rises
pub passing_below-rises : (test : ℕ → Bool) (bound : ℕ) → IsStrictlyIncreasing (passing_below test bound)
unfolding passing_below
passing_below-rises test zero = λ k within. absurd (omega arith)
passing_below-rises test (suc bound) = ⊎_elim
    (λ passes. rw (passing_below-true test bound passes)
    (IsStrictlyIncreasing-push (passing_below test bound) bound (passing_below-rises test bound)
    (λ k within. (passing_below-listed test bound _ (Contains-get_or (passing_below test bound) k 0 within)).0)))
    (λ fails. rw (passing_below-false test bound fails) (passing_below-rises test bound))
    (cases_Bool (test bound))

-- the members rise
pub members_rise : {w : ℕ} (set : LeafSet w) → IsStrictlyIncreasing (members set)
unfolding members
members_rise {w} set = passing_below-rises (has_leaf set) (64 * w)
