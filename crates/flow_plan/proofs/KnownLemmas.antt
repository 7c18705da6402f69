-- Parts that need not be read.
use Rattle.std.proofs.Common.{◌≡◌, ℕ, zero, suc, arith, ◌+◌, ◌<◌, ◌≤◌, IsTrue, List, [], ◌∷◌, length, drop, map, get_or, Option, None, Some, ⊎_elim, ◌⊎◌, refl, sym, ap, subst, ◌∙◌}
use Rattle.std.proofs.lemmas.List.{drop_more}
use Rattle.std.specs.Option.{IfNone}
use Rattle.leaf_rows.specs.Leaves.{has_leaf}
use Rattle.flow_model.specs.Lists.{Each}
use Rattle.flow_model.proofs.Lists.{each_member}
use Rattle.flow_plan.specs.declared.cut_sides.CutSides.{CutSides}
use Rattle.flow_plan.specs.declared.known.Known.{Known}
use Rattle.flow_plan.specs.declared.part_row.PartRow.{PartRow}
use Rattle.flow_plan.specs.declared.span.Span.{Span}
use Rattle.flow_plan.specs.Known.{AreAside, AreSpansOf, IsAround, IsAside, IsKnown, IsWithin}
use Rattle.flow_plan.specs.Parts.{IsPlaced, PartAllows}
use Rattle.flow_plan.specs.Span.{at_span}
use Rattle.flow_plan.proofs.PassedLemmas.{span_within}

pub known_holds : {w : ℕ} → (P : PartRow w → Type 0) (ns : List ℕ) (known : Known) (row : PartRow w) → IsKnown P ns known → IsAround known.around row.span ⊎ IsWithin known.within row.span → IsPlaced ns row → P row
known_holds P ns known row is lies placed = ⊎_elim (λ a. is.around row placed a) (λ b. is.within row placed b) lies

-- of two parts, of which the one stands at places of the other
inside_other : {w : ℕ} → (ns : List ℕ) (one other : PartRow w) → IsPlaced ns one → IsPlaced ns other → other.span.first ≤ one.span.first → one.span.end ≤ other.span.end →
    (x : ℕ) → IsTrue (has_leaf one.inside x) → IsTrue (has_leaf other.inside x)
inside_other ns one other one_placed other_placed begins ends x has =
    (other_placed.inside x).1 (span_within ns one.span other.span begins ends x ((one_placed.inside x).0 has))

-- a part that has the leaf, and is begun
pub allows_around : {w : ℕ} → (ns : List ℕ) (sides : CutSides w) (n : ℕ) (one other : PartRow w) → IsPlaced ns one → IsTrue (has_leaf one.inside n) →
    ((x : ℕ) × IsTrue (has_leaf one.inside x) × IsTrue (has_leaf sides.done x)) → IsPlaced ns other → IsAround (Some one.span) other.span → PartAllows other sides n
allows_around ns sides n one other placed mine begun there lies =
    let up = inside_other ns one other placed there lies.0 lies.1 in record {
      passes = λ lacks. absurd (lacks (up n mine));
      begins = λ has untouched. absurd (untouched begun.0 (up begun.0 begun.1) begun.2);
    }

-- a part that lacks the leaf, and lets it come next
pub allows_within : {w : ℕ} → (ns : List ℕ) (sides : CutSides w) (n : ℕ) (one other : PartRow w) → IsPlaced ns one → ¬ IsTrue (has_leaf one.inside n) →
    PartAllows one sides n → IsPlaced ns other → IsWithin (Some one.span) other.span → PartAllows other sides n
allows_within ns sides n one other placed lacks allows there lies =
    let up = inside_other ns other one there placed lies.0 lies.1 in record {
      passes = λ none x y x_in x_done y_in. allows.passes lacks x y (up x x_in) x_done (up y y_in);
      begins = λ has. absurd (lacks (up n has));
    }

-- each of the last parts, of one more
pub each_part_before : {w : ℕ} → (P : PartRow w → Type 0) (parts : List (PartRow w)) (i : ℕ) (row d : PartRow w) → i < length parts → row ≡ get_or parts i d → P row → Each P (drop (i + 1) parts) →
    Each P (drop i parts)
each_part_before {w} P parts i row d within is here others =
    subst (λ (l : List (PartRow w)). Each P l) (sym (drop_more parts i d within)) (subst P is here, others)

-- a part that lacks the leaf, and of which all leaves are done or none is
pub aside_allows : {w : ℕ} → (ns : List ℕ) (sides : CutSides w) (n : ℕ) (row : PartRow w) → IsPlaced ns row → AreAside sides.done n (at_span row.span ns) →
    ¬ IsTrue (has_leaf row.inside n) × PartAllows row sides n
aside_allows ns sides n row placed (so, all) =
    let at : (x : ℕ) → IsTrue (has_leaf row.inside x) → IsAside sides.done so n x = λ x has.
    each_member (IsAside sides.done so n) (at_span row.span ns) all x ((placed.inside x).0 has) in (
      λ mine. (at n mine).0 refl,
      record {
        passes = λ lacks x y x_in x_done y_in. (at y y_in).1 ∙ sym (at x x_in).1 ∙ x_done;
        begins = λ mine. absurd ((at n mine).0 refl);
      },
    )

-- what is known where a part lacks the leaf, and lets it come next
pub known_within : {w : ℕ} → (ns : List ℕ) (sides : CutSides w) (n : ℕ) (row : PartRow w) (span : Span) (known : Known) → span ≡ row.span → IsPlaced ns row →
    ¬ IsTrue (has_leaf row.inside n) × PartAllows row sides n → IsKnown (λ (row : PartRow w). PartAllows row sides n) ns known →
    IsKnown (λ (row : PartRow w). PartAllows row sides n) ns (record { around = known.around; within = Some span }) × PartAllows row sides n
known_within ns sides n row span known same placed (lacks, allows) is = (
  record {
    around = is.around;
    within = λ other there lies. allows_within ns sides n row other placed lacks allows there
        (subst (λ (s : Span). IsWithin (Some s) other.span) same lies);
  },
  allows,
)

-- what holds where none is found, of which the premise holds
pub none_given : (P Q : Type 0) (found : Option ℕ) → P → IfNone found (P → Q) → IfNone found Q
none_given P Q None holds all = all holds
none_given P Q (Some x) holds all = tt

-- of no part anything
pub nothing_known : {w : ℕ} → (P : PartRow w → Type 0) (ns : List ℕ) → IsKnown P ns (record { around = None; within = None })
nothing_known P ns = record { around = λ row placed none. absurd none; within = λ row placed none. absurd none }

-- around a part that has the leaf, and is begun
pub known_around : {w : ℕ} → (ns : List ℕ) (sides : CutSides w) (n : ℕ) (one : PartRow w) → IsPlaced ns one →
    IsTrue (has_leaf one.inside n) × ((x : ℕ) × IsTrue (has_leaf one.inside x) × IsTrue (has_leaf sides.done x)) →
    IsKnown (λ (row : PartRow w). PartAllows row sides n) ns (record { around = Some one.span; within = None })
known_around ns sides n one placed entered = record {
  around = λ other there lies. allows_around ns sides n one other placed entered.0 entered.1 there lies;
  within = λ other there none. absurd none;
}

-- the span at a place is that of the part there
span_mapped : {w : ℕ} → (parts : List (PartRow w)) (i : ℕ) (d : Span) (e : PartRow w) → i < length parts → get_or (map (λ (row : PartRow w). row.span) parts) i d ≡ (get_or parts i e).span
span_mapped [] i d e within = absurd (omega (arith, within))
span_mapped (row ∷ parts) zero d e within = refl
span_mapped (row ∷ parts) (suc i) d e within = span_mapped parts i d e (omega (arith, within))

pub span_there : {w : ℕ} → (spans : List Span) (parts : List (PartRow w)) (i : ℕ) (s d : Span) (row e : PartRow w) → AreSpansOf spans parts → i < length parts →
    s ≡ get_or spans i d → row ≡ get_or parts i e → s ≡ row.span
span_there {w} spans parts i s d row e are within at is =
    at ∙ ap (λ (l : List Span). get_or l i d) are ∙ span_mapped parts i d e within ∙ ap (λ (r : PartRow w). r.span) (sym is)
