-- Rows of one width that are asked by sets of another, and answer by them.
use Rattle.std.proofs.Common.{◌≡◌, ℕ, ◌*◌, ◌<◌, ◌≤◌, Bool, ◌&&◌, ◌↔◌, IsTrue, nltb→le, List, ⊎_elim, sym, ap, ◌∙◌, subst, arith}
use Rattle.std.proofs.lemmas.Bool.{cases_lt, lt-ltb, le-ltb, false_from_ne_true}
use Rattle.leaf_rows.specs.Leaves.{has_leaf}
use Rattle.leaf_rows.specs.declared.leaf_set.LeafSet.{LeafSet}
use Rattle.leaf_rows.specs.declared.TheConstants.{LEAF_WORDS}
use Rattle.leaf_rows.proofs.Members.{has_leaf-within}
use Rattle.flow_model.specs.Lists.{◌∈◌, Each, AreDistinct}
use Rattle.flow_model.specs.Process.{leaves}
use Rattle.flow_model.specs.FoldedReady.{IsClosedOff}
use Rattle.flow_model.proofs.Lists.{each_member}
use Rattle.flow_laws.specs.WellFormed.{EachTwo}
use Rattle.flow_fold_laws.specs.FoldedRows.{IsSettled}
use Rattle.flow_plan.specs.declared.cut_sides.CutSides.{CutSides}
use Rattle.flow_plan.specs.declared.sides.Sides.{Sides}
use Rattle.flow_plan.specs.declared.table.TheConstants.{NARROW_WORDS, MIDDLE_WORDS, WIDE_WORDS}
use Rattle.flow_plan.specs.declared.table.Table.{Table}
use Rattle.flow_plan.specs.CutSides.{AreCut, IsCut, TellIn}
use Rattle.flow_plan.specs.Fields.{IsTableOf}
use Rattle.flow_plan.specs.Orders.{MayComeNext, MayComeAfter, TellOf}
use Rattle.flow_plan.specs.Parts.{KeepsTogether}
use Rattle.flow_plan.specs.Planned.{Planned}
use Rattle.flow_plan.specs.Rows.{IsRowOf}
use Rattle.flow_plan.specs.Sided.{IsDoneIn}
use Rattle.flow_plan.proofs.ClosedLemmas.{apart_from_each}
use Rattle.flow_plan.proofs.Together.{together_by_two}

pub cut_same : {v w : ℕ} (set : LeafSet v) (cut : LeafSet w) → IsCut set cut → (n : ℕ) → n < 64 * w → has_leaf cut n ≡ has_leaf set n
cut_same {v} {w} set cut is n within = is n ∙ ap (λ b. b && has_leaf set n) (lt-ltb n (64 * w) within)

-- all of it, where there is room for all
pub cut_whole : {v w : ℕ} (set : LeafSet v) (cut : LeafSet w) → IsCut set cut → ((n : ℕ) → IsTrue (has_leaf set n) → n < 64 * w) → (n : ℕ) → has_leaf cut n ≡ has_leaf set n
cut_whole {v} {w} set cut is small n = ⊎_elim
    (λ within. cut_same set cut is n within)
    (λ past. is n ∙ ap (λ b. b && has_leaf set n) (le-ltb n (64 * w) past) ∙ sym (false_from_ne_true (has_leaf set n) (λ has. omega (arith, small n has, past))))
    (cases_lt n (64 * w))

-- a wider set has the same members
pub wide_same : {v w : ℕ} (set : LeafSet v) (wide : LeafSet w) → v ≤ w → IsCut set wide → (n : ℕ) → has_leaf wide n ≡ has_leaf set n
wide_same {v} {w} set wide fits is = cut_whole set wide is (λ n has. omega (arith, has_leaf-within set n has, fits))

pub wide_row : {v w : ℕ} (P : ℕ → Type 0) (set : LeafSet v) (wide : LeafSet w) → v ≤ w → IsCut set wide → IsRowOf P set → IsRowOf P wide
wide_row P set wide fits is row x = (λ has. (row x).0 (sym (wide_same set wide fits is x) ∙ has), λ holds. wide_same set wide fits is x ∙ (row x).1 holds)

-- of a row, what there is room for
pub cut_row : {v w : ℕ} (P : ℕ → Type 0) (set : LeafSet v) (cut : LeafSet w) → IsCut set cut → IsRowOf P set → (x : ℕ) → IsTrue (has_leaf cut x) ↔ ((x < 64 * w) × P x)
cut_row P set cut is row x = (
  λ has. let within = has_leaf-within cut x has in (within, (row x).0 (sym (cut_same set cut is x within) ∙ has)),
  λ (within, holds). cut_same set cut is x within ∙ (row x).1 holds,
)

pub cut_row_whole : {v w : ℕ} (P : ℕ → Type 0) (set : LeafSet v) (cut : LeafSet w) → IsCut set cut → IsRowOf P set → ((x : ℕ) → P x → x < 64 * w) → IsRowOf P cut
cut_row_whole P set cut is row small x =
    let (to, from) = cut_row P set cut is row x in (λ has. (to has).1, λ holds. from (small x holds, holds))

module _ {w : ℕ} (p : Planned) (t : Table w) (table : IsTableOf p t) where
  listed_small : (x : ℕ) → x ∈ p.leaves → x < 64 * w
  listed_small x member = each_member (λ n. n < 64 * w) p.leaves table.within x member

  pub leaf_small : (x : ℕ) → x ∈ leaves p.process → x < 64 * w
  leaf_small x member = listed_small x (subst (λ (l : List ℕ). x ∈ l) (sym table.fields.listed) member)

  pub cut_says : {v : ℕ} (set : LeafSet v) (cut : LeafSet w) (P : Type 0) (n : ℕ) → IsCut set cut → n ∈ leaves p.process → IsTrue (has_leaf set n) ↔ P → IsTrue (has_leaf cut n) ↔ P
  cut_says set cut P n is member says = let same = cut_same set cut is n (leaf_small n member) in (λ has. says.0 (sym same ∙ has), λ holds. same ∙ says.1 holds)

  -- what sides tell of the plan, they tell as far as there is room
  pub cut_tells : (sides : Sides) (cut : CutSides w) → TellOf p sides → AreCut sides cut → TellIn p (IsDoneIn sides) cut
  cut_tells sides cut tell is = let are = tell.1 in record {
    done = λ n member. cut_says sides.done cut.done (IsDoneIn sides n) n is.done member (are.done n);
    settled = λ n member. cut_says sides.settled cut.settled (IsSettled p.process (IsDoneIn sides) n) n is.settled member (are.settled n member);
    closed = λ n member. cut_says sides.closed cut.closed (IsClosedOff p.process (IsDoneIn sides) n) n is.closed member (are.closed n member);
  }

  -- some leaf of the plan is in the set
  pub some_by_cut : {v : ℕ} (set : LeafSet v) (cut : LeafSet w) → IsCut set cut → (answer : Bool) →
      (IsTrue answer ↔ ((n : ℕ) × (n ∈ leaves p.process) × IsTrue (has_leaf cut n))) → IsTrue answer ↔ ((n : ℕ) × (n ∈ leaves p.process) × IsTrue (has_leaf set n))
  some_by_cut set cut is answer says = (
    λ yes. let (n, member, has) = says.0 yes in (n, member, sym (cut_same set cut is n (leaf_small n member)) ∙ has),
    λ (n, member, has). says.1 (n, member, cut_same set cut is n (leaf_small n member) ∙ has),
  )

  pub together_by_cut : {v : ℕ} (set : LeafSet v) (cut : LeafSet w) → IsCut set cut → (answer : Bool) →
      (IsTrue answer ↔ Each (λ row. KeepsTogether row (λ x. IsTrue (has_leaf cut x))) t.parts.items) → (done : ℕ → Bool) (list : List ℕ) →
      IsRowOf (λ x. x ∈ list) set → AreDistinct list → Each (MayComeNext p (λ n. IsTrue (done n))) list → Each (λ n. ¬ (IsClosedOff p.process (λ x. x ∈ list) n)) list →
      IsTrue answer ↔ EachTwo (MayComeAfter p (λ n. IsTrue (done n))) list
  together_by_cut set cut is answer says done list set_is distinct each apart =
      let same = cut_whole set cut is (λ n has. leaf_small n (each_member (MayComeNext p (λ n. IsTrue (done n))) list each n ((set_is n).0 has)).leaf) in
      together_by_two table.fields (λ n. IsTrue (done n)) cut list answer says
      (λ x. (λ has. (set_is x).0 (sym (same x) ∙ has), λ member. same x ∙ (set_is x).1 member)) distinct each
      (apart_from_each p.process list (λ y y_in. each_member (λ n. ¬ (IsClosedOff p.process (λ x. x ∈ list) n)) list apart y y_in))

-- what callers hand in is as wide as any row
pub narrow_fits : NARROW_WORDS ≤ LEAF_WORDS
narrow_fits = nltb→le LEAF_WORDS NARROW_WORDS tt

pub middle_fits : MIDDLE_WORDS ≤ LEAF_WORDS
middle_fits = nltb→le LEAF_WORDS MIDDLE_WORDS tt

pub wide_fits : WIDE_WORDS ≤ LEAF_WORDS
wide_fits = nltb→le LEAF_WORDS WIDE_WORDS tt
