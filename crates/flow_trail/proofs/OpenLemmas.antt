-- The calls of an opening, one after another.
use Rattle.std.proofs.Common.{◌≡◌, inl, inr, ℕ, List, length, take, sym, ◌∙◌, ap, subst, arith}
use Rattle.std.proofs.lemmas.Bool.{cases_lt}
use Rattle.std.proofs.lemmas.List.{take_at}
use Rattle.flow_disk.specs.Disk.{Passes, Same, Leaves}
use Rattle.flow_trail.specs.declared.line.TrailEnd.{TrailEnd}
use Rattle.flow_trail.specs.Whole.{HasLines}
use Rattle.flow_trail.specs.Lines.{Said, trail_text, Says}
use Rattle.flow_trail.specs.Opened.{SaysLike, Opens}

module _ {D : Type 0} (moment : D → ℕ) (image : D → ℕ → List ℕ → Type 0) where
  -- the first call, which writes nothing
  pub opens_first : (old new : D) (P : List ℕ → Type 0) → Passes (moment old) (moment new) (image old) (image new) Same → Opens moment image old new P
  opens_first old new P call = record {
    later = call.later;
    each = λ t c from to i. let (d, was, same) = call.during t c from to i in inl (subst (image old (moment old)) (sym same) was);
  }

  -- a further call, at whose beginning each image has Q
  pub opens_then : (old mid new : D) (P Q : List ℕ → Type 0) (step : List ℕ → List ℕ → Type 0) → Opens moment image old mid P →
      Passes (moment mid) (moment new) (image mid) (image new) step → ((c : List ℕ) → image mid (moment mid) c → Q c) → ((d c : List ℕ) → Q d → step d c → P c) →
      Opens moment image old new P
  opens_then old mid new P Q step so_far call here goes = record {
    later = omega (arith, so_far.later, call.later);
    each = λ t c from to i. elim (cases_lt t (moment mid)) [
      | inl before ↦ so_far.each t c from (omega (arith, before)) (call.past t c before i)
      | inr after ↦ let (d, was, stepped) = call.during t c after to i in inr (goes d c (here d was) stepped)
    ];
  }

  -- calls at each of whose moments a crash leaves what has P
  pub opens_more : (old mid new : D) (P Q : List ℕ → Type 0) → Opens moment image old mid P → Leaves moment image mid new Q → ((c : List ℕ) → Q c → P c) → Opens moment image old new P
  opens_more old mid new P Q so_far calls turn = record {
    later = omega (arith, so_far.later, calls.later);
    each = λ t c from to i. elim (cases_lt t (moment mid)) [
      | inl before ↦ so_far.each t c from (omega (arith, before)) (calls.past t c before i)
      | inr after ↦ inr (turn c (calls.each t c after to i))
    ];
  }

  -- no further call
  pub opens_same : (old mid new : D) (P : List ℕ → Type 0) → new ≡ mid → Opens moment image old mid P → Opens moment image old new P
  opens_same old mid new P same so_far = subst (λ d. Opens moment image old d P) (sym same) so_far

-- what a file with the same lines says
pub like : (e : TrailEnd) (line : Said) (seen : List ℕ) (saying : List Said) (front : List ℕ) → Says e saying seen → front ≡ trail_text e saying →
    (c : List ℕ) → HasLines front c → SaysLike e line seen c
like e line seen saying front says is c has =
    inr (saying, says, inl (record { in_order = says.in_order; lines = subst (λ (l : List ℕ). HasLines l c) is has }))

-- the front of a file that says something
pub front_is : (e : TrailEnd) (saying : List Said) (seen : List ℕ) (place : ℕ) → Says e saying seen → place ≡ length (trail_text e saying) → take place seen ≡ trail_text e saying
front_is e saying seen place says is =
    let (behind, split, shut) = says.lines in
    ap (take place) split ∙ take_at (trail_text e saying) behind place (sym is)

pub has_front : (e : TrailEnd) (saying : List Said) (seen : List ℕ) (place : ℕ) → Says e saying seen → place ≡ length (trail_text e saying) → HasLines (take place seen) seen
has_front e saying seen place says is = subst (λ (l : List ℕ). HasLines l seen) (sym (front_is e saying seen place says is)) says.lines
