-- Sets of leaves that grow by one, and lists that some members leave.
use Rattle.std.proofs.Common.{◌≡◌, ℕ, zero, suc, ◌+◌, ◌<◌, ◌==◌, ◌||◌, Bool, true, false, List, [], ◌∷◌, ◌++◌, length, take, get_or, refl, ap, sym, subst, inl, inr, ⊎_elim, true≢false, ◌∙◌, arith, ◌↔◌, ◌*◌, not, ◌&&◌, IsTrue}
use Rattle.std.specs.List.{filter}
use Rattle.std.proofs.lemmas.Bool.{cases_Bool, cases_lt}
use Rattle.std.proofs.lemmas.List.{take_more}
use Rattle.leaf_rows.specs.Leaves.{has_leaf}
use Rattle.leaf_rows.specs.declared.leaf_set.LeafSet.{LeafSet}
use Rattle.leaf_rows.specs.declared.TheConstants.{LEAF_WORDS}
use Rattle.leaf_rows.proofs.Members.{has_leaf-within}
use Rattle.flow_model.specs.Lists.{◌∈◌, AreDistinct}
use Rattle.flow_model.proofs.Lists.{mem_append_left, mem_append_right, mem-append, mem_swap, each_member, each_from_members}
use Rattle.flow_model.proofs.MadeLists.{each-filter}
use Rattle.flow_plan.proofs.RowLemmas.{one_more}
use Rattle.flow_residual.specs.declared.residual.Ban.{Ban}
use Rattle.flow_residual.specs.Remaining.{banned}
use Rattle.flow_residual.specs.View.{pairs_of_bans}
use Rattle.flow_residual.specs.Telling.{IsSetOf}

-- no leaf
pub none_in : (set : LeafSet LEAF_WORDS) → ((n : ℕ) → has_leaf set n ≡ false) → IsSetOf [] set
none_in set none n = (λ h. absurd (true≢false (sym h ∙ none n)), λ m. absurd m)

-- one leaf more
pub set_push : (old new : LeafSet LEAF_WORDS) (list more : List ℕ) (leaf : ℕ) → ((n : ℕ) → has_leaf new n ≡ (n == leaf || has_leaf old n)) → more ≡ list ++ leaf ∷ [] →
    IsSetOf list old → IsSetOf more new
set_push old new list more leaf added is same n =
    let step = one_more n leaf (has_leaf old n) in (
      λ h. subst (λ (l : List ℕ). n ∈ l) (sym is)
          (⊎_elim (λ before. mem_append_left n list (leaf ∷ []) ((same n).0 before)) (λ last. mem_append_right n list (leaf ∷ []) last) (step.0 (sym (added n) ∙ h))),
      λ m. added n ∙ step.1 (⊎_elim (λ before. inl ((same n).1 before)) inr (mem-append n list (leaf ∷ []) (subst (λ (l : List ℕ). n ∈ l) is m))),
    )

pub set_more : (old new : LeafSet LEAF_WORDS) (xs : List ℕ) (i : ℕ) → i < length xs → ((n : ℕ) → has_leaf new n ≡ (n == get_or xs i 0 || has_leaf old n)) →
    IsSetOf (take i xs) old → IsSetOf (take (i + 1) xs) new
set_more old new xs i within added same = set_push old new (take i xs) (take (i + 1) xs) (get_or xs i 0) added (take_more xs i 0 within) same

-- the order of a list does not matter
pub set_first : (list : List ℕ) (leaf : ℕ) (set : LeafSet LEAF_WORDS) → IsSetOf (list ++ leaf ∷ []) set → IsSetOf (leaf ∷ list) set
set_first list leaf set is n = (λ h. mem_swap n list (leaf ∷ []) ((is n).0 h), λ m. (is n).1 (mem_swap n (leaf ∷ []) list m))

-- the list has the numbers below one that pass a test, none twice
abbrev IsPassing : (ℕ → Bool) → ℕ → List ℕ → Type 0
IsPassing test k list = AreDistinct list × ((n : ℕ) → (n ∈ list) ↔ ((n < k) × IsTrue (test n)))

-- one number more, where it passes and where not
one_more_passing : (test : ℕ → Bool) (k : ℕ) (list : List ℕ) (b : Bool) → test k ≡ b → IsPassing test k list → (more : List ℕ) × IsPassing test (suc k) more
one_more_passing test k list true passes (distinct, is) = (
  k ∷ list,
  (
    (λ m. omega (arith, ((is k).0 m).0), distinct),
    λ n. (
      ⊎_elim (λ same. (omega (arith, same), ap test same ∙ passes)) (λ m. let (small, told) = (is n).0 m in (omega (arith, small), told)),
      λ (small, told). ⊎_elim (λ less. inr ((is n).1 (less, told))) (λ past. inl (omega (arith, small, past))) (cases_lt n k),
    ),
  ),
)
one_more_passing test k list false fails (distinct, is) = (
  list,
  (
    distinct,
    λ n. (
      λ m. let (small, told) = (is n).0 m in (omega (arith, small), told),
      λ (small, told). ⊎_elim (λ less. (is n).1 (less, told)) (λ past. let same : n ≡ k = omega (arith, small, past) in absurd (true≢false (sym told ∙ ap test same ∙ fails)))
          (cases_lt n k),
    ),
  ),
)

passing_list : (test : ℕ → Bool) (k : ℕ) → (list : List ℕ) × IsPassing test k list
passing_list test zero = ([], (tt, λ n. (λ m. absurd m, λ (h, _). absurd (omega (arith, h)))))
passing_list test (suc k) = let (list, passing) = passing_list test k in one_more_passing test k list (test k) refl passing

-- a set has a list of its leaves, none twice
pub list_of : (set : LeafSet LEAF_WORDS) → (list : List ℕ) × AreDistinct list × IsSetOf list set
list_of set =
    let (list, (distinct, is)) = passing_list (has_leaf set) (64 * LEAF_WORDS) in
    (list, distinct, λ n. (λ h. (is n).1 (has_leaf-within set n h, h), λ m. ((is n).0 m).1))

-- what is left of a set without what it has beside another is in both
pub in_both : (next other gone more : Bool) → gone ≡ (not next && other) → more ≡ (not gone && other) → IsTrue more → IsTrue next
in_both true other gone more is here h = refl
in_both false true gone more is here h = absurd (true≢false (sym h ∙ here ∙ ap (λ b. not b && true) is))
in_both false false gone more is here h = absurd (true≢false (sym h ∙ here ∙ ap (λ b. not b && false) is))

-- ---- members that leave a list

pub mem-filter : {A : Type 0} (p : A → Bool) (xs : List A) (x : A) → p x ≡ true → x ∈ xs → x ∈ filter p xs
mem-filter p [] x stays member = member
mem-filter p (y ∷ xs) x stays member = grind (arith, cases_Bool (p y), stays, member, mem-filter p xs x stays)

pub of_filter : {A : Type 0} (p : A → Bool) (xs : List A) (x : A) → x ∈ filter p xs → (x ∈ xs) × (p x ≡ true)
of_filter p xs x member = each_member (λ y. (y ∈ xs) × (p y ≡ true)) (filter p xs)
    (each-filter (λ y. (y ∈ xs) × (p y ≡ true)) (λ y. y ∈ xs) p xs (λ y stays there. (there, stays)) (each_from_members (λ y. y ∈ xs) xs (λ y m. m))) x member

-- ---- the leaves of bans

pub length-banned : (bans : List Ban) → length (banned (pairs_of_bans bans)) ≡ length bans
length-banned [] = refl
length-banned (ban ∷ bans) = ap suc (length-banned bans)

pub banned_at : (bans : List Ban) (i : ℕ) (d : Ban) → i < length bans → get_or (banned (pairs_of_bans bans)) i 0 ≡ (get_or bans i d).leaf
banned_at [] i d within = absurd (omega arith)
banned_at (ban ∷ bans) zero d within = refl
banned_at (ban ∷ bans) (suc i) d within = banned_at bans i d (omega arith)

pub banned_more : (bans new : List Ban) (ban : Ban) → new ≡ bans ++ ban ∷ [] → banned (pairs_of_bans new) ≡ banned (pairs_of_bans bans) ++ ban.leaf ∷ []
banned_more bans new ban is = ap (λ (l : List Ban). banned (pairs_of_bans l)) is ∙ more bans
  where
    more : (list : List Ban) → banned (pairs_of_bans (list ++ ban ∷ [])) ≡ banned (pairs_of_bans list) ++ ban.leaf ∷ []
    more [] = refl
    more (b ∷ list) = ap (λ (l : List ℕ). b.leaf ∷ l) (more list)
