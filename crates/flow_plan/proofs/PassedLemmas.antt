-- What the last leaves up to a place say of a part that ends there.
use Rattle.std.proofs.Common.{◌≡◌, ℕ, zero, suc, ◌+◌, ◌<◌, ◌≤◌, Bool, true, false, true≢false, cond, not, IsTrue, List, get_or, length, ⊎_elim, refl, sym, ◌∙◌, subst, arith, Option, Some}
use Rattle.std.proofs.lemmas.Bool.{cases_lt}
use Rattle.leaf_rows.specs.Leaves.{has_leaf}
use Rattle.leaf_rows.specs.declared.leaf_set.LeafSet.{LeafSet}
use Rattle.flow_model.specs.Lists.{◌∈◌}
use Rattle.flow_plan.specs.declared.cut_sides.CutSides.{CutSides}
use Rattle.flow_plan.specs.declared.part_row.PartRow.{PartRow}
use Rattle.flow_plan.specs.declared.passed.Passed.{Passed}
use Rattle.flow_plan.specs.declared.span.Span.{Span}
use Rattle.flow_plan.specs.Parts.{IsPlaced, PartAllows}
use Rattle.flow_plan.specs.Passed.{IsLast, ArePassed, AreAt}
use Rattle.flow_plan.specs.Span.{at_span}
use Rattle.flow_plan.proofs.KeepLemmas.{fresh_outside}
use Rattle.flow_plan.proofs.PartLemmas.{in_span, at_place}

pub cond_not : (b : Bool) (x y : ℕ) → cond b x y ≡ cond (not b) y x
cond_not true x y = refl
cond_not false x y = refl

pub last_of_none : (test : ℕ → Bool) (ns : List ℕ) → IsLast test ns 0 0
last_of_none test ns = record { after = λ k above below. absurd (omega (arith, below)); here = λ k is. absurd (omega (arith, is)) }

-- one leaf more
pub last_more : (test : ℕ → Bool) (ns : List ℕ) (place last : ℕ) (so : Bool) → so ≡ test (get_or ns place 0) → IsLast test ns place last →
    IsLast test ns (place + 1) (cond so (place + 1) last)
last_more test ns place last true is old = record {
  after = λ k above below. absurd (omega (arith, above, below));
  here = λ k same. let equal : k ≡ place = omega (arith, same) in (omega (arith, equal), subst (λ (i : ℕ). test (get_or ns i 0) ≡ true) (sym equal) (sym is));
}
last_more test ns place last false is old = record {
  after = λ k above below. ⊎_elim (λ less. old.after k above less)
      (λ not_less. let equal : k ≡ place = omega (arith, below, not_less) in subst (λ (i : ℕ). test (get_or ns i 0) ≡ false) (sym equal) (sym is))
      (cases_lt k place);
  here = λ k same. let before = old.here k same in (omega (arith, before.0), before.1);
}

-- no leaf of the span passes, where the last one stands before it
none_in : (test : ℕ → Bool) (ns : List ℕ) (s : Span) (last : ℕ) → IsLast test ns s.end last → last ≤ s.first → (x : ℕ) → x ∈ at_span s ns → test x ≡ false
none_in test ns s last is before x member =
    let found = in_span ns s x member in
    subst (λ (y : ℕ). test y ≡ false) found.4 (is.after found.0 (omega (arith, before, found.1)) found.2)

-- else some leaf does
some_in : (test : ℕ → Bool) (ns : List ℕ) (s : Span) (last : ℕ) → IsLast test ns s.end last → s.end ≤ length ns → s.first < last → (x : ℕ) × (x ∈ at_span s ns) × (test x ≡ true)
some_in test ns s zero is within behind = absurd (omega (arith, behind))
some_in test ns s (suc k) is within behind =
    let here = is.here k refl in
    (get_or ns k 0, at_place ns s k (omega (arith, behind)) here.0 (omega (arith, here.0, within)), here.1)

-- a part that ends at the place
module _ {w : ℕ} (ns : List ℕ) (row : PartRow w) (sides : CutSides w) (asked : LeafSet w) (passed : Passed) (placed : IsPlaced ns row) (are : ArePassed ns sides asked passed) (ends : passed.place ≡ row.span.end) where
  at_end : (test : ℕ → Bool) (last : ℕ) → IsLast test ns passed.place last → IsLast test ns row.span.end last
  at_end test last is = subst (λ (place : ℕ). IsLast test ns place last) ends is

  -- it is not begun
  fresh : passed.done ≤ row.span.first → (k : ℕ) → IsTrue (has_leaf row.inside k) → ¬ IsTrue (has_leaf sides.done k)
  fresh before k inside done =
      true≢false (sym done ∙ none_in (has_leaf sides.done) ns row.span passed.done (at_end (has_leaf sides.done) passed.done are.done) before k ((placed.inside k).0 inside))

  -- it is begun
  begun : row.span.first < passed.done → (x : ℕ) × IsTrue (has_leaf row.inside x) × IsTrue (has_leaf sides.done x)
  begun behind =
      let found = some_in (has_leaf sides.done) ns row.span passed.done (at_end (has_leaf sides.done) passed.done are.done) placed.within behind in
      (found.0, (placed.inside found.0).1 found.1, found.2)

  not_false : (b : Bool) → not b ≡ false → IsTrue b
  not_false true is = refl
  not_false false is = absurd (cc)

  not_true : (b : Bool) → not b ≡ true → ¬ IsTrue b
  not_true true is = absurd (cc)
  not_true false is = λ yes. absurd (cc)

  -- not begun, and with no leaf that is asked about
  pub allows_fresh : passed.done ≤ row.span.first → passed.asked ≤ row.span.first → (n : ℕ) → IsTrue (has_leaf asked n) → PartAllows row sides n
  allows_fresh before none n wanted = fresh_outside row sides n (fresh before)
      (λ inside. true≢false (sym wanted ∙ none_in (has_leaf asked) ns row.span passed.asked (at_end (has_leaf asked) passed.asked are.asked) none n ((placed.inside n).0 inside)))

  -- finished
  pub allows_finished : row.span.first < passed.done → passed.lacking ≤ row.span.first → (n : ℕ) → PartAllows row sides n
  allows_finished behind none n = record {
    passes = λ other x y x_in x_done y_in.
        not_false (has_leaf sides.done y) (none_in (λ z. not (has_leaf sides.done z)) ns row.span passed.lacking (at_end (λ z. not (has_leaf sides.done z)) passed.lacking are.lacking) none y ((placed.inside y).0 y_in));
    begins = λ mine untouched. let some = begun behind in absurd (untouched some.0 some.1 some.2);
  }

  -- begun, and with the leaf
  pub allows_inside : row.span.first < passed.done → (n : ℕ) → IsTrue (has_leaf row.inside n) → PartAllows row sides n
  allows_inside behind n mine = record {
    passes = λ other. absurd (other mine);
    begins = λ inside untouched. let some = begun behind in absurd (untouched some.0 some.1 some.2);
  }

  decided : (b : Bool) → ¬ (¬ IsTrue b) → IsTrue b
  decided true = λ no. refl
  decided false = λ no. absurd (no (λ (e : IsTrue false). absurd (cc)))

  -- begun and not finished: it lets none come next but its own
  pub holds_inside : row.span.first < passed.done → row.span.first < passed.lacking → (n : ℕ) → PartAllows row sides n → n ∈ at_span row.span ns
  holds_inside behind left n allows =
      let rest = some_in (λ z. not (has_leaf sides.done z)) ns row.span passed.lacking (at_end (λ z. not (has_leaf sides.done z)) passed.lacking are.lacking) placed.within left in
      let some = begun behind in
      (placed.inside n).0 (decided (has_leaf row.inside n) (λ other.
      not_true (has_leaf sides.done rest.0) rest.2 (allows.passes other some.0 rest.0 some.1 some.2 ((placed.inside rest.0).1 rest.1))))

-- what stands in a span stands in each that reaches as far
pub span_within : (ns : List ℕ) (s t : Span) → t.first ≤ s.first → s.end ≤ t.end → (x : ℕ) → x ∈ at_span s ns → x ∈ at_span t ns
span_within ns s t begins ends x member =
    let found = in_span ns s x member in
    subst (λ (y : ℕ). y ∈ at_span t ns) found.4 (at_place ns t found.0 (omega (arith, begins, found.1)) (omega (arith, ends, found.2)) found.3)

pub all_inside : {w : ℕ} → (ns : List ℕ) (row : PartRow w) (leaves : LeafSet w) (within : Option Span) (s : Span) → within ≡ Some s → row.span.first ≤ s.first → s.end ≤ row.span.end → IsPlaced ns row → AreAt ns leaves within →
    (n : ℕ) → IsTrue (has_leaf leaves n) → IsTrue (has_leaf row.inside n)
all_inside ns row leaves within s is begins ends placed held n has =
    (placed.inside n).1 (span_within ns s row.span begins ends n (subst (AreAt ns leaves) is held n has))
