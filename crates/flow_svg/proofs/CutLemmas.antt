-- Places that are clear, and those that are not.
use Rattle.std.proofs.Common.{◌≡◌, ◌<◌, ◌≤◌, ◌⊎◌, ℕ, ◌+◌, ◌&&◌, true, false, if◌then◌else◌, List, [], ◌∷◌, ◌++◌, Option, Some, None, inl, inr, refl, sym, ap, subst, ◌∙◌, arith, append_assoc, append-nil}
use Rattle.std.specs.Prelude.{nat_lt, nat_le}
use Rattle.std.proofs.lemmas.Bool.{cases_Bool}
use Rattle.std.proofs.lemmas.Grind.{common_steps}
use Rattle.flow_model.proofs.MadeLists.{some_same}
use Rattle.flow_svg.specs.declared.cuts.Span.{Span}
use Rattle.flow_svg.specs.Cuts.{span_at, IsClear, IsFarthest, IsNearest, IsRowEnd, AreCuts}

-- what a span is that has a place between its ends
pub record IsFound (ss : List Span) (x : ℕ) (s : Span) : Type 0 where
  pub before : s.left < x
  pub behind : x < s.right
  pub none : (y : ℕ) → s.left < y → y < s.right → ¬ (IsClear ss y)

between : (s : Span) (x : ℕ) → (nat_lt s.left x && nat_lt x s.right) ≡ true → (s.left < x) × (x < s.right)
between s x is = grind (arith, common_steps)

beside : (s : Span) (x : ℕ) → (nat_lt s.left x && nat_lt x s.right) ≡ false → (x ≤ s.left) ⊎ (s.right ≤ x)
beside s x is = grind (arith, common_steps)

not_both : (s : Span) (y : ℕ) → s.left < y → y < s.right → ¬ ((y ≤ s.left) ⊎ (s.right ≤ y))
not_both s y low high (inl le) = absurd (omega (arith, low, le))
not_both s y low high (inr le) = absurd (omega (arith, high, le))

pub found : (ss : List Span) (x : ℕ) (s : Span) → span_at ss x ≡ Some s → IsFound ss x s
found [] x s e = cc
found (t ∷ ss) x s e = elim (cases_Bool (nat_lt t.left x && nat_lt x t.right)) [
  | inl is ↦
      let same : t ≡ s = some_same t s (sym (ap (λ b. if b then Some t else span_at ss x) is) ∙ e) in
      let at : (t.left < x) × (x < t.right) = between t x is in
      subst (IsFound (t ∷ ss) x) same (record { before = at.0; behind = at.1; none = λ y low high clear. not_both t y low high clear.0 })
  | inr not ↦
      let later : IsFound ss x s = found ss x s (sym (ap (λ b. if b then Some t else span_at ss x) not) ∙ e) in
      record { before = later.before; behind = later.behind; none = λ y low high clear. later.none y low high clear.1 }
]

pub unfound : (ss : List Span) (x : ℕ) → span_at ss x ≡ None → IsClear ss x
unfound [] x e = tt
unfound (t ∷ ss) x e = elim (cases_Bool (nat_lt t.left x && nat_lt x t.right)) [
  | inl is ↦ absurd (some_none t (sym (ap (λ b. if b then Some t else span_at ss x) is) ∙ e))
  | inr not ↦ (beside t x not, unfound ss x (sym (ap (λ b. if b then Some t else span_at ss x) not) ∙ e))
]
  where
    some_none : (t : Span) → ¬ (Some t ≡ None)
    some_none t e = cc

-- one place or the other
within_or_past : (x p : ℕ) → (x ≤ p) ⊎ (p < x)
within_or_past x p = elim (cases_Bool (nat_le x p)) [
  | inl is ↦ inl (grind (arith, common_steps))
  | inr not ↦ inr (grind (arith, common_steps))
]

-- back over a span that has the place
pub back_step : (ss : List Span) (place limit : ℕ) (s : Span) → span_at ss place ≡ Some s → place ≤ limit →
    ((x : ℕ) → place < x → x ≤ limit → ¬ (IsClear ss x)) → (s.left ≤ limit) × ((x : ℕ) → s.left < x → x ≤ limit → ¬ (IsClear ss x))
back_step ss place limit s e within past =
    let f : IsFound ss place s = found ss place s e in
    let low : s.left < place = f.before in
    let high : place < s.right = f.behind in (
      omega (arith, low, within),
      λ x from to. elim (within_or_past x place) [
        | inl le ↦ f.none x from (omega (arith, le, high))
        | inr lt ↦ past x lt to
      ],
    )

-- on over a span that has the place
pub on_step : (ss : List Span) (place from : ℕ) (s : Span) → span_at ss place ≡ Some s → from ≤ place →
    ((x : ℕ) → from ≤ x → x < place → ¬ (IsClear ss x)) → (from ≤ s.right) × ((x : ℕ) → from ≤ x → x < s.right → ¬ (IsClear ss x))
on_step ss place from s e behind past =
    let f : IsFound ss place s = found ss place s e in
    let low : s.left < place = f.before in
    let high : place < s.right = f.behind in (
      omega (arith, high, behind),
      λ x least to. elim (within_or_past place x) [
        | inl le ↦ f.none x (omega (arith, le, low)) to
        | inr lt ↦ past x least lt
      ],
    )

-- a row that ends at the farthest clear place
pub far_end : (ss : List Span) (width end start cut : ℕ) → start + width < end → start < cut → cut ≤ start + width → (start < cut → IsClear ss cut) →
    ((x : ℕ) → cut < x → x ≤ start + width → ¬ (IsClear ss x)) → IsRowEnd ss width end start cut
far_end ss width end start cut room behind narrow clear last =
    inr (room, inl (record { behind = behind; narrow = narrow; clear = clear behind; last = last }))

-- a row that ends at the nearest one, or at the end
pub near_end : (ss : List Span) (width end start back cut : ℕ) → start + width < end → start ≤ back → back ≤ start →
    ((x : ℕ) → back < x → x ≤ start + width → ¬ (IsClear ss x)) → start + width + 1 ≤ cut → cut ≤ end → (cut ≡ end) ⊎ IsClear ss cut →
    ((x : ℕ) → start + width + 1 ≤ x → x < cut → ¬ (IsClear ss x)) → IsRowEnd ss width end start cut
near_end ss width end start back cut room from none last beyond within clear first =
    let same : back ≡ start = omega (arith, from, none) in
    inr (
      room,
      inr (record {
        beyond = omega (arith, beyond);
        within = within;
        clear = clear;
        first = λ x low high. elim (within_or_past x (start + width)) [
          | inl le ↦ last x (omega (arith, low, same)) le
          | inr lt ↦ first x (omega (arith, lt)) high
        ];
      }),
    )

-- one row more
pub more_rows : (ss : List Span) (width end start cut : ℕ) (cuts new : List ℕ) → start < end → IsRowEnd ss width end start cut →
    ((rest : List ℕ) → AreCuts ss width end start rest → AreCuts ss width end 0 (cuts ++ rest)) → new ≡ cuts ++ cut ∷ [] →
    (rest : List ℕ) → AreCuts ss width end cut rest → AreCuts ss width end 0 (new ++ rest)
more_rows ss width end start cut cuts new below is so grown rest are =
    subst (λ (l : List ℕ). AreCuts ss width end 0 l) (sym (ap (λ (l : List ℕ). l ++ rest) grown ∙ append_assoc cuts (cut ∷ []) rest))
    (so (cut ∷ rest) (below, is, are))

-- no row more
pub all_rows : (ss : List Span) (width end start : ℕ) (cuts : List ℕ) → start ≤ end → end ≤ start →
    ((rest : List ℕ) → AreCuts ss width end start rest → AreCuts ss width end 0 (cuts ++ rest)) → AreCuts ss width end 0 cuts
all_rows ss width end start cuts within none so =
    let same : start ≡ end = omega (arith, within, none) in
    subst (λ (l : List ℕ). AreCuts ss width end 0 l) (append-nil cuts) (so [] same)
