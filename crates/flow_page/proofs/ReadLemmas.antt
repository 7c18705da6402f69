-- What is escaped is read as it is.
use Rattle.std.proofs.Common.{◌≡◌, ℕ, ◌==◌, ◌⊎◌, inl, inr, Bool, true, false, List, [], ◌∷◌, ◌++◌, arith, refl, ◌∙◌, ap}
use Rattle.std.proofs.lemmas.Bool.Decides.{nat_tests}
use Rattle.flow_draw.specs.declared.format.Format.TheVariants.{Svg}
use Rattle.flow_draw.specs.Escape.{in_svg, escaped}
use Rattle.flow_page.specs.Reading.{before, read_text, TextsAreReadBack}

either_way : (b : Bool) → (b ≡ true) ⊎ (b ≡ false)
either_way true = inl refl
either_way false = inr refl

is_number : (b n : ℕ) → (b == n) ≡ true → b ≡ n
is_number b n e = grind (arith, nat_tests)

byte_read : (b : ℕ) (rest : List ℕ) → read_text (in_svg b ++ rest) ≡ before b (read_text rest)
byte_read b rest = elim (either_way (b == 38)) [
  | inl e ↦ let q : b ≡ 38 = is_number b 38 e in rw q refl
  | inr and ↦ elim (either_way (b == 60)) [
    | inl e ↦ let q : b ≡ 60 = is_number b 60 e in rw q refl
    | inr less ↦ elim (either_way (b == 62)) [
      | inl e ↦ let q : b ≡ 62 = is_number b 62 e in rw q refl
      | inr more ↦ elim (either_way (b == 34)) [
        | inl e ↦ let q : b ≡ 34 = is_number b 34 e in rw q refl
        | inr quote ↦ simp (and, less, more, quote) refl
      ]
    ]
  ]
]

pub read_back : TextsAreReadBack
read_back [] = refl
read_back (b ∷ bs) = byte_read b (escaped Svg bs) ∙ ap (before b) (read_back bs)
