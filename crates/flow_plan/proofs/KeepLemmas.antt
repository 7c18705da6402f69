-- Leaves that a part keeps.
use Rattle.std.proofs.Common.{◌≡◌, ℕ, Bool, true, false, cond, not, ◌&&◌, ◌↔◌, inl, inr, ⊎_elim, IsTrue, refl, sym, subst, ◌∙◌}
use Rattle.leaf_rows.specs.Leaves.{has_leaf}
use Rattle.leaf_rows.specs.declared.leaf_set.LeafSet.{LeafSet}
use Rattle.flow_plan.specs.declared.cut_sides.CutSides.{CutSides}
use Rattle.flow_plan.specs.declared.part_row.PartRow.{PartRow}
use Rattle.flow_plan.specs.declared.part_row.Use.{Use}
use Rattle.flow_plan.specs.declared.part_row.Use.TheVariants.{Beside, First}
use Rattle.flow_plan.specs.Parts.{PartAllows, Keeps, KeepsBeside, KeepsAfter}

-- what is not so
is_not : (b : Bool) → ¬ IsTrue b → IsTrue (not b)
is_not true wrong = absurd (wrong refl)
is_not false wrong = refl

-- what is kept, where the two tests say P of what is inside and of what is not
pub kept_where : (new has inside inner outer : Bool) (P : Type 0) → new ≡ (has && cond inside inner outer) →
    (IsTrue inside → IsTrue inner ↔ P) → (¬ IsTrue inside → IsTrue outer ↔ P) → IsTrue new ↔ (IsTrue has × P)
kept_where new true true inner outer P is in_says out_says = (λ h. (refl, (in_says refl).0 (sym is ∙ h)), λ both. is ∙ (in_says refl).1 both.1)
kept_where new true false inner outer P is in_says out_says =
    (λ h. (refl, (out_says (λ e. absurd (cc))).0 (sym is ∙ h)), λ both. is ∙ (out_says (λ e. absurd (cc))).1 both.1)
kept_where new false inside inner outer P is in_says out_says = (λ h. absurd (cc), λ both. absurd (let no = both.0 in cc))

-- a part that is not begun
module _ {w : ℕ} (row : PartRow w) (sides : CutSides w) (n : ℕ) (untouched : (k : ℕ) → IsTrue (has_leaf row.inside k) → ¬ IsTrue (has_leaf sides.done k)) where
  pub fresh_outside : ¬ IsTrue (has_leaf row.inside n) → PartAllows row sides n
  fresh_outside other = record { passes = λ o y z y_in y_done z_in. absurd (untouched y y_in y_done); begins = λ mine. absurd (other mine) }

  pub allows_to_begin : (answer : Bool) → IsTrue (has_leaf row.inside n) → (IsTrue answer ↔ ((k : ℕ) → IsTrue (has_leaf row.outside k) → IsTrue (has_leaf sides.settled k))) →
      IsTrue answer ↔ PartAllows row sides n
  allows_to_begin answer mine is = (
    λ h. record { passes = λ other x y x_in x_done y_in. absurd (other mine); begins = λ m none x out. is.0 h x out },
    λ allows. is.1 (λ k out. allows.begins mine untouched k out),
  )

module _ {w : ℕ} (row : PartRow w) (claims : LeafSet w) (n : ℕ) (within meets : Bool) (within_is : IsTrue within ↔ ((k : ℕ) → IsTrue (has_leaf claims k) → IsTrue (has_leaf row.inside k)))
    (meets_is : IsTrue meets ↔ ((k : ℕ) × IsTrue (has_leaf row.inside k) × IsTrue (has_leaf claims k))) where
  -- where no claimed leaf is inside
  apart : IsTrue (not meets) → (k : ℕ) → IsTrue (has_leaf claims k) → IsTrue (has_leaf row.inside k) → ⊥
  apart none k claimed inside = absurd (let both = meets_is.1 (k, inside, claimed) in cc)

  -- a part keeps a leaf beside the claimed ones
  pub keeps_beside_inside : IsTrue (has_leaf row.inside n) → IsTrue within ↔ KeepsBeside row (λ x. IsTrue (has_leaf claims x)) n
  keeps_beside_inside mine = (
    λ yes x y x_in y_in has. ⊎_elim (λ same. subst (λ (k : ℕ). IsTrue (has_leaf row.inside k)) (sym same) mine) (λ claimed. within_is.0 yes y claimed) y_in,
    λ all. within_is.1 (λ k claimed. all n k (inl refl) (inr claimed) mine),
  )

  pub keeps_beside_outside : ¬ IsTrue (has_leaf row.inside n) → IsTrue (not meets) ↔ KeepsBeside row (λ x. IsTrue (has_leaf claims x)) n
  keeps_beside_outside other = (
    λ yes x y x_in y_in has. ⊎_elim (λ same. absurd (other (subst (λ (k : ℕ). IsTrue (has_leaf row.inside k)) same has))) (λ claimed. absurd (apart yes x claimed has)) x_in,
    λ all. is_not meets (λ met. let both = meets_is.0 met in other (all both.0 n (inr both.2) (inl refl) both.1)),
  )

  -- a part keeps the claimed ones after a leaf, where some of them is not inside
  pub keeps_after_inside : within ≡ false → IsTrue (has_leaf row.inside n) → IsTrue false ↔ KeepsAfter row (λ x. IsTrue (has_leaf claims x)) n
  keeps_after_inside some mine = (λ wrong. absurd (cc), λ all. let yes = within_is.1 (all.1 mine) in absurd (cc))

  pub keeps_after_outside : within ≡ false → ¬ IsTrue (has_leaf row.inside n) → IsTrue (not meets) ↔ KeepsAfter row (λ x. IsTrue (has_leaf claims x)) n
  keeps_after_outside some other = (
    λ yes. (λ x y x_in y_in has. absurd (apart yes x x_in has), λ inside. absurd (other inside)),
    λ all. is_not meets (λ met. let both = meets_is.0 met in let yes = within_is.1 (λ k claimed. all.0 both.0 k both.2 claimed both.1) in absurd (cc)),
  )

-- beside no claimed ones a part keeps each leaf
pub keeps_beside_none : {w : ℕ} → (what : Use) (row : PartRow w) (P : ℕ → Type 0) (n : ℕ) → ((x : ℕ) → ¬ P x) → Keeps what row P n
keeps_beside_none Beside row P n none = λ x y x_in y_in has.
    ⊎_elim (λ one. ⊎_elim (λ two. subst (λ (k : ℕ). IsTrue (has_leaf row.inside k)) (one ∙ sym two) has) (λ claimed. absurd (none y claimed)) y_in) (λ claimed. absurd (none x claimed)) x_in
keeps_beside_none First row P n none = (λ x y claimed. absurd (none x claimed), λ inside x claimed. absurd (none x claimed))
