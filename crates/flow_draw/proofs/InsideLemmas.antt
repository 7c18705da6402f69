-- A label stays where it is written.
use Rattle.std.proofs.Common.{◌≡◌, ℕ, ◌==◌, ◌&&◌, ◌⊎◌, inl, inr, Bool, true, false, List, [], ◌∷◌, ◌++◌, refl, ◌∙◌, arith}
use Rattle.std.specs.List.{list_all}
use Rattle.std.specs.Prelude.{nat_lt}
use Rattle.std.proofs.lemmas.Grind.{common_steps}
use Rattle.std.proofs.lemmas.List.Folds.{list_all-append}
use Rattle.flow_draw.specs.declared.format.Format.TheVariants.{Svg, Mermaid, Dot}
use Rattle.flow_draw.specs.Escape.{in_svg, in_mermaid, in_dot, escaped, quoted_byte, quoted}
use Rattle.flow_draw.specs.Inside.{is_tame, SvgStaysInside, MermaidStaysInside, stays_quoted, DotStaysInside, QuotedStaysInside, QuotedIsOneLine}

either_way : (b : Bool) → (b ≡ true) ⊎ (b ≡ false)
either_way true = inl refl
either_way false = inr refl

svg_byte : (b : ℕ) → list_all is_tame (in_svg b) ≡ true
svg_byte b = elim (either_way (b == 38)) [
  | inl e ↦ rw e refl
  | inr and ↦ elim (either_way (b == 60)) [
    | inl e ↦ rw (and, e) refl
    | inr less ↦ elim (either_way (b == 62)) [
      | inl e ↦ rw (and, less, e) refl
      | inr more ↦ elim (either_way (b == 34)) [
        | inl e ↦ rw (and, less, more, e) refl
        | inr quote ↦ simp (and, less, more, quote) refl
      ]
    ]
  ]
]

mermaid_byte : (b : ℕ) → list_all is_tame (in_mermaid b) ≡ true
mermaid_byte b = elim (either_way (b == 34)) [
  | inl e ↦ rw e refl
  | inr quote ↦ elim (either_way (b == 35)) [
    | inl e ↦ rw (quote, e) refl
    | inr hash ↦ elim (either_way (b == 38)) [
      | inl e ↦ rw (quote, hash, e) refl
      | inr and ↦ elim (either_way (b == 60)) [
        | inl e ↦ rw (quote, hash, and, e) refl
        | inr less ↦ elim (either_way (b == 62)) [
          | inl e ↦ rw (quote, hash, and, less, e) refl
          | inr more ↦ simp (quote, hash, and, less, more) refl
        ]
      ]
    ]
  ]
]

dot_byte : (b : ℕ) (rest : List ℕ) → stays_quoted false (in_dot b ++ rest) ≡ stays_quoted false rest
dot_byte b rest = elim (either_way (b == 34)) [
  | inl e ↦ rw e refl
  | inr quote ↦ elim (either_way (b == 92)) [
    | inl e ↦ rw (quote, e) refl
    | inr slash ↦ elim (either_way (b == 38)) [
      | inl e ↦ rw (quote, slash, e) refl
      | inr and ↦ simp (quote, slash, and) refl
    ]
  ]
]

both_tame : (a b : List ℕ) → list_all is_tame a ≡ true → list_all is_tame b ≡ true → list_all is_tame (a ++ b) ≡ true
both_tame a b p q = list_all-append is_tame a b ∙ (λ i. p i && q i)

pub svg_inside : SvgStaysInside
svg_inside [] = refl
svg_inside (b ∷ bs) = both_tame (in_svg b) (escaped Svg bs) (svg_byte b) (svg_inside bs)

pub mermaid_inside : MermaidStaysInside
mermaid_inside [] = refl
mermaid_inside (b ∷ bs) = both_tame (in_mermaid b) (escaped Mermaid bs) (mermaid_byte b) (mermaid_inside bs)

pub dot_inside : DotStaysInside
dot_inside [] = refl
dot_inside (b ∷ bs) = dot_byte b (escaped Dot bs) ∙ dot_inside bs

quoted_stays : (b : ℕ) (rest : List ℕ) → stays_quoted false (quoted_byte b ++ rest) ≡ stays_quoted false rest
quoted_stays b rest = elim (either_way (b == 34)) [
  | inl e ↦ rw e refl
  | inr quote ↦ elim (either_way (b == 92)) [
    | inl e ↦ rw (quote, e) refl
    | inr slash ↦ elim (either_way (nat_lt b 32)) [
      | inl e ↦ rw (quote, slash, e) refl
      | inr low ↦ simp (quote, slash, low) refl
    ]
  ]
]

pub quoted_inside : QuotedStaysInside
quoted_inside [] = refl
quoted_inside (b ∷ bs) = quoted_stays b (quoted bs) ∙ quoted_inside bs

past : (b : ℕ) → nat_lt b 32 ≡ false → nat_lt 31 b ≡ true
past b e = grind (arith, common_steps)

line_byte : (b : ℕ) → list_all (nat_lt 31) (quoted_byte b) ≡ true
line_byte b = elim (either_way (b == 34)) [
  | inl e ↦ rw e refl
  | inr quote ↦ elim (either_way (b == 92)) [
    | inl e ↦ rw (quote, e) refl
    | inr slash ↦ elim (either_way (nat_lt b 32)) [
      | inl e ↦ rw (quote, slash, e) refl
      | inr low ↦ let high : nat_lt 31 b ≡ true = past b low in simp (quote, slash, low, high) refl
    ]
  ]
]

pub quoted_one_line : QuotedIsOneLine
quoted_one_line [] = refl
quoted_one_line (b ∷ bs) = list_all-append (nat_lt 31) (quoted_byte b) (quoted bs) ∙ (λ i. line_byte b i && quoted_one_line bs i)
