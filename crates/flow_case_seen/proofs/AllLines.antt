-- Lines that are put one behind another.
use Rattle.std.proofs.Common.{◌≡◌, ◌+◌, ◌∙◌, ◌⊎◌, ℕ, zero, suc, List, [], ◌∷◌, ◌++◌, length, Some, slice_get, refl, sym, ap, subst, append-nil, append_assoc, length-append, inl, inr, arith}
use Rattle.flow_model.specs.Lists.{joined}
use Rattle.flow_case_seen.specs.All.{AreLines}

some_same : {A : Type 0} (a b : A) → Some a ≡ Some b → a ≡ b
some_same a b e = cc

joined_more : (lines : List (List ℕ)) (line : List ℕ) → joined (lines ++ line ∷ []) ≡ joined lines ++ line
joined_more [] line = append-nil line
joined_more (x ∷ xs) line = ap (λ (l : List ℕ). x ++ l) (joined_more xs line) ∙ sym (append_assoc x (joined xs) line)

at_one_more : (lines : List (List ℕ)) (last line : List ℕ) (k : ℕ) → slice_get (lines ++ last ∷ []) k ≡ Some line →
    (slice_get lines k ≡ Some line) ⊎ ((k ≡ length lines) × (line ≡ last))
at_one_more [] last line zero e = inr (refl, sym (some_same last line e))
at_one_more [] last line (suc k) e = cc
at_one_more (x ∷ xs) last line zero e = inl e
at_one_more (x ∷ xs) last line (suc k) e = elim (at_one_more xs last line k e) [
  | inl before ↦ inl before
  | inr end ↦ inr (ap suc end.0, end.1)
]

pub no_lines : (Tells : ℕ → List ℕ → Type 0) → AreLines Tells 0 []
no_lines Tells = record { lines = []; as_many = refl; each = λ place line e. cc; text_is = refl }

pub one_line_more : (Tells : ℕ → List ℕ → Type 0) (count : ℕ) (text new line : List ℕ) → new ≡ text ++ line → Tells count line → AreLines Tells count text → AreLines Tells (count + 1) new
one_line_more Tells count text new line added told are = record {
  lines = are.lines ++ line ∷ [];
  as_many = (let long = length-append are.lines (line ∷ []) in omega (arith, long, are.as_many));
  each = λ place other there. elim (at_one_more are.lines line other place there) [
    | inl before ↦ are.each place other before
    | inr end ↦ (let same : place ≡ count = end.0 ∙ are.as_many in
        subst (λ (l : List ℕ). Tells place l) (sym end.1) (subst (λ (p : ℕ). Tells p line) (sym same) told))
  ];
  text_is = added ∙ ap (λ (l : List ℕ). l ++ line) are.text_is ∙ sym (joined_more are.lines line);
}
