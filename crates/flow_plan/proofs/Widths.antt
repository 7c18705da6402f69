-- What is asked and answered by sets of another width than a table's.
use Rattle.std.proofs.Common.{◌≡◌, ℕ, ◌*◌, ◌<◌, ◌≤◌, Bool, ◌||◌, ◌&&◌, nat_lt, ◌↔◌, IsTrue, List, [], ◌∷◌, inl, inr, ◌⊎◌, ⊎_elim, ap, arith, sym, ◌∙◌, subst, length, take, get_or, ◌+◌}
use Rattle.std.proofs.lemmas.Bool.{and_from, and_parts, cases_lt, false_from_ne_true, le-ltb, lt-ltb, or_cases, or_left, or_right}
use Rattle.std.proofs.lemmas.List.{take_more}
use Rattle.leaf_rows.specs.Leaves.{has_leaf}
use Rattle.leaf_rows.specs.declared.leaf_set.LeafSet.{LeafSet}
use Rattle.leaf_rows.proofs.Members.{has_leaf-within}
use Rattle.flow_model.specs.Lists.{◌∈◌, Each}
use Rattle.flow_model.specs.FoldedReady.{IsClosedOff}
use Rattle.flow_model.proofs.Lists.{each-append, each_from_members, each_member}
use Rattle.flow_plan.specs.declared.table.Table.{Table}
use Rattle.flow_plan.specs.CutSides.{IsCut}
use Rattle.flow_plan.specs.Fields.{IsTableOf}
use Rattle.flow_plan.specs.Orders.{AreApart, MayComeNext, MayFollowInEveryOrder}
use Rattle.flow_plan.specs.Planned.{Planned}
use Rattle.flow_plan.specs.Rows.{IsRowOf}
use Rattle.flow_plan.proofs.Cuts.{cut_row_whole, cut_same, cut_says, leaf_small, wide_same}
use Rattle.flow_plan.proofs.Following.{by_two}

module _ {w : ℕ} (p : Planned) (t : Table w) (table : IsTableOf p t) where
  -- what comes next
  pub next_cut : {v : ℕ} (D : ℕ → Type 0) (next : LeafSet v) (cut : LeafSet w) → IsCut next cut → IsRowOf (MayComeNext p D) next → IsRowOf (MayComeNext p D) cut
  next_cut D next cut is row = cut_row_whole (MayComeNext p D) next cut is row (λ x ready. leaf_small p t table x ready.leaf)

  -- what is closed off
  pub apart_cut : {v : ℕ} (list : List ℕ) (apart : LeafSet v) (cut : LeafSet w) → IsCut apart cut → AreApart p list apart → AreApart p list cut
  apart_cut list apart cut is are n member = cut_says p t table apart cut (IsClosedOff p.process (λ x. x ∈ list) n) n is member (are n member)

  -- claims that all come next are leaves of the plan
  pub next_small : {v : ℕ} (D : ℕ → Type 0) (claims next : LeafSet v) → IsRowOf (MayComeNext p D) next → ((k : ℕ) → IsTrue (has_leaf claims k) → IsTrue (has_leaf next k)) →
      (k : ℕ) → IsTrue (has_leaf claims k) → k < 64 * w
  next_small D claims next row within k claimed = leaf_small p t table k ((row k).0 (within k claimed)).leaf

  -- where some claim is no leaf of the plan, nothing follows with them
  pub past_width : {v : ℕ} (done : ℕ → Bool) (list : List ℕ) (claims : LeafSet v) → IsRowOf (λ x. x ∈ list) claims → ¬ ((k : ℕ) → IsTrue (has_leaf claims k) → k < 64 * w) →
      (n : ℕ) → ¬ (MayFollowInEveryOrder p (λ x. IsTrue (done x)) (n ∷ list))
  past_width done list claims row past n all =
      past (λ k claimed. leaf_small p t table k (each_member (MayComeNext p (λ x. IsTrue (done x))) list (by_two p done (n ∷ list) all).0.1 k ((row k).0 claimed)).leaf)

-- the claims, where there is room for all
pub list_cut : {v w : ℕ} (list : List ℕ) (set : LeafSet v) (cut : LeafSet w) → IsCut set cut → ((k : ℕ) → IsTrue (has_leaf set k) → k < 64 * w) → IsRowOf (λ x. x ∈ list) set →
    IsRowOf (λ x. x ∈ list) cut
list_cut list set cut is small row = cut_row_whole (λ x. x ∈ list) set cut is row (λ x member. small x ((row x).1 member))

pub within_cut : {v w : ℕ} (claims next : LeafSet v) (mine here : LeafSet w) → IsCut claims mine → IsCut next here → ((k : ℕ) → IsTrue (has_leaf claims k) → IsTrue (has_leaf next k)) →
    (k : ℕ) → IsTrue (has_leaf mine k) → IsTrue (has_leaf here k)
within_cut claims next mine here mine_is here_is within k has =
    let small = has_leaf-within mine k has in cut_same next here here_is k small ∙ within k (sym (cut_same claims mine mine_is k small) ∙ has)

-- a set that is as wide or wider has room for each member
pub with_room : {w : ℕ} (v : ℕ) (set : LeafSet w) → w ≤ v → (n : ℕ) → (nat_lt n (64 * v) && has_leaf set n) ≡ has_leaf set n
with_room {w} v set fits n = ⊎_elim
    (λ within. ap (λ b. b && has_leaf set n) (lt-ltb n (64 * v) within))
    (λ past. ap (λ b. b && has_leaf set n) (le-ltb n (64 * v) past) ∙ sym (false_from_ne_true (has_leaf set n) (λ has. omega (arith, has_leaf-within set n has, past, fits))))
    (cases_lt n (64 * v))

-- what is found is added, as far as there is room, and there is room for all that has P
pub joined : {v w : ℕ} (found new : LeafSet v) (cut more : LeafSet w) (P : ℕ → Type 0) → IsCut found cut →
    ((n : ℕ) → has_leaf new n ≡ (has_leaf found n || (nat_lt n (64 * v) && has_leaf more n))) → ((n : ℕ) → P n → n < 64 * v) →
    ((n : ℕ) → IsTrue (has_leaf more n) ↔ (IsTrue (has_leaf cut n) ⊎ P n)) → (n : ℕ) → IsTrue (has_leaf new n) ↔ (IsTrue (has_leaf found n) ⊎ P n)
joined {v} {w} found new cut more P is new_is small more_is n = (
  λ has. ⊎_elim (λ old. inl old)
      (λ m. ⊎_elim (λ c. inl (sym (cut_same found cut is n (has_leaf-within cut n c)) ∙ c)) (λ holds. inr holds) ((more_is n).0 (and_parts (nat_lt n (64 * v)) (has_leaf more n) m).1))
      (or_cases (has_leaf found n) (nat_lt n (64 * v) && has_leaf more n) (sym (new_is n) ∙ has)),
  λ either. new_is n ∙ ⊎_elim (λ old. or_left (has_leaf found n) (nat_lt n (64 * v) && has_leaf more n) old)
      (λ holds. or_right (has_leaf found n) (nat_lt n (64 * v) && has_leaf more n)
      (and_from (nat_lt n (64 * v)) (has_leaf more n) (lt-ltb n (64 * v) (small n holds)) ((more_is n).1 (inr holds)))) either,
)

-- what follows with the claimed ones may come next, so there is room for it where there is room for all that may
pub follows_small : {v : ℕ} (p : Planned) (done : ℕ → Bool) (list : List ℕ) (next : LeafSet v) → IsRowOf (MayComeNext p (λ x. IsTrue (done x))) next →
    (n : ℕ) → MayFollowInEveryOrder p (λ x. IsTrue (done x)) (n ∷ list) → n < 64 * v
follows_small p done list next row n all = has_leaf-within next n ((row n).1 (by_two p done (n ∷ list) all).0.0)

-- a wider set tells the same of what is closed off
pub apart_wide : {v w : ℕ} (p : Planned) (list : List ℕ) (apart : LeafSet v) (wide : LeafSet w) → v ≤ w → IsCut apart wide → AreApart p list apart → AreApart p list wide
apart_wide p list apart wide fits is are n member =
    let same = wide_same apart wide fits is n in
    (λ has. (are n member).0 (sym same ∙ has), λ closed. same ∙ (are n member).1 closed)

-- claims have a place in what callers hand in
pub claims_small : {v : ℕ} (list : List ℕ) (claims : LeafSet v) → IsRowOf (λ x. x ∈ list) claims → Each (λ n. n < 64 * v) list
claims_small {v} list claims row = each_from_members (λ n. n < 64 * v) list (λ n member. has_leaf-within claims n ((row n).1 member))

-- each of the first ones, of one more
pub each_more : (P : ℕ → Type 0) (list : List ℕ) (i : ℕ) → i < length list → P (get_or list i 0) → Each P (take i list) → Each P (take (i + 1) list)
each_more P list i within here so_far = subst (λ (l : List ℕ). Each P l) (sym (take_more list i 0 within)) (each-append P (take i list) (get_or list i 0 ∷ []) so_far (here, tt))
