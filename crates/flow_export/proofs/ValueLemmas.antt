-- The value of an attribute of XML is read back.
use Rattle.std.proofs.Common.{◌≡◌, ℕ, ◌+◌, ◌<◌, ◌==◌, ◌⊎◌, inl, inr, Bool, true, false, List, [], ◌∷◌, ◌++◌, arith, refl, ◌∙◌, ap, Option, Some}
use Rattle.std.specs.Prelude.{nat_lt}
use Rattle.std.proofs.lemmas.Bool.Decides.{nat_tests}
use Rattle.flow_draw.specs.Escape.{in_svg}
use Rattle.flow_page.specs.Reading.{before}
use Rattle.flow_export.specs.Value.{is_barred, ends_noncharacter, sign_of, placed_byte, placed_from, has_place_from, value_byte, value_from, read_value, ValuesAreReadBack}

either_way : (b : Bool) → (b ≡ true) ⊎ (b ≡ false)
either_way true = inl refl
either_way false = inr refl

is_number : (b n : ℕ) → (b == n) ≡ true → b ≡ n
is_number b n e = grind (arith, nat_tests)

-- bytes in front of what is read
abbrev all_before : List ℕ → Option (List ℕ) → Option (List ℕ)
all_before [] o = o
all_before (b ∷ bs) o = before b (all_before bs o)

some_before : (a bytes : List ℕ) → all_before a (Some bytes) ≡ Some (a ++ bytes)
some_before [] bytes = refl
some_before (b ∷ a) bytes = ap (before b) (some_before a bytes)

-- a byte that is not taken for anything else
plain_read : (b : ℕ) (rest : List ℕ) → 127 < b → read_value (b ∷ rest) ≡ before b (read_value rest)
plain_read b rest l = simp (no38, no9, no10, no13, no32, no60, no62, no34) refl
  where
    no38 : (b == 38) ≡ false
    no38 = grind (arith, nat_tests)

    no9 : (b == 9) ≡ false
    no9 = grind (arith, nat_tests)

    no10 : (b == 10) ≡ false
    no10 = grind (arith, nat_tests)

    no13 : (b == 13) ≡ false
    no13 = grind (arith, nat_tests)

    no32 : nat_lt b 32 ≡ false
    no32 = grind (arith, nat_tests)

    no60 : (b == 60) ≡ false
    no60 = grind (arith, nat_tests)

    no62 : (b == 62) ≡ false
    no62 = grind (arith, nat_tests)

    no34 : (b == 34) ≡ false
    no34 = grind (arith, nat_tests)

sign_read : (b : ℕ) (rest : List ℕ) → read_value (sign_of b ++ rest) ≡ all_before (sign_of b) (read_value rest)
sign_read b rest = ap (λ o. before 226 (before 144 o)) (plain_read (128 + b) rest (omega arith))

-- what is no control byte
svg_read : (b : ℕ) (rest : List ℕ) → nat_lt b 32 ≡ false → read_value (in_svg b ++ rest) ≡ before b (read_value rest)
svg_read b rest high = elim (either_way (b == 38)) [
  | inl e ↦ let q : b ≡ 38 = is_number b 38 e in rw q refl
  | inr and ↦ elim (either_way (b == 60)) [
    | inl e ↦ let q : b ≡ 60 = is_number b 60 e in rw q refl
    | inr less ↦ elim (either_way (b == 62)) [
      | inl e ↦ let q : b ≡ 62 = is_number b 62 e in rw q refl
      | inr more ↦ elim (either_way (b == 34)) [
        | inl e ↦ let q : b ≡ 34 = is_number b 34 e in rw q refl
        | inr quote ↦ simp (and, less, more, quote, high, no9, no10, no13) refl
      ]
    ]
  ]
]
  where
    no9 : (b == 9) ≡ false
    no9 = grind (arith, nat_tests)

    no10 : (b == 10) ≡ false
    no10 = grind (arith, nat_tests)

    no13 : (b == 13) ≡ false
    no13 = grind (arith, nat_tests)

byte_read : (x y b : ℕ) (rest : List ℕ) → read_value (value_byte x y b ++ rest) ≡ all_before (placed_byte x y b) (read_value rest)
byte_read x y b rest = elim (either_way (ends_noncharacter x y b)) [
  | inl e ↦ rw e refl
  | inr fits ↦ elim (either_way (b == 9)) [
    | inl e ↦ let q : b ≡ 9 = is_number b 9 e in rw fits (rw q refl)
    | inr tab ↦ elim (either_way (b == 10)) [
      | inl e ↦ let q : b ≡ 10 = is_number b 10 e in rw fits (rw q refl)
      | inr feed ↦ elim (either_way (b == 13)) [
        | inl e ↦ let q : b ≡ 13 = is_number b 13 e in rw fits (rw q refl)
        | inr back ↦ elim (either_way (nat_lt b 32)) [
          | inl low ↦ simp (fits, tab, feed, back, low) (sign_read b rest)
          | inr high ↦ simp (fits, tab, feed, back, high) (svg_read b rest high)
        ]
      ]
    ]
  ]
]

values_from : (x y : ℕ) (text : List ℕ) → read_value (value_from x y text) ≡ Some (placed_from x y text)
values_from x y [] = refl
values_from x y (b ∷ text) =
    byte_read x y b (value_from y b text) ∙ ap (all_before (placed_byte x y b)) (values_from y b text) ∙ some_before (placed_byte x y b) (placed_from y b text)

same_from : (x y : ℕ) (text : List ℕ) → has_place_from x y text ≡ true → placed_from x y text ≡ text
same_from x y [] e = refl
same_from x y (b ∷ text) e = elim (either_way (ends_noncharacter x y b)) [
  | inl ends ↦ absurd (no_end ends e)
  | inr fits ↦ elim (either_way (is_barred b)) [
    | inl barred ↦ absurd (no_bar fits barred e)
    | inr free ↦ rw (fits, free) (ap (λ l. b ∷ l) (same_from y b text (later fits free e)))
  ]
]
  where
    no_end : ends_noncharacter x y b ≡ true → has_place_from x y (b ∷ text) ≡ true → ⊥
    no_end ends e = let e2 = rw ends at e in cc

    no_bar : ends_noncharacter x y b ≡ false → is_barred b ≡ true → has_place_from x y (b ∷ text) ≡ true → ⊥
    no_bar fits barred e = let e2 = rw (fits, barred) at e in cc

    later : ends_noncharacter x y b ≡ false → is_barred b ≡ false → has_place_from x y (b ∷ text) ≡ true → has_place_from y b text ≡ true
    later fits free e = rw (fits, free) at e

pub values_read : ValuesAreReadBack
values_read = record {
  read = λ text. values_from 0 0 text;
  same = λ text e. same_from 0 0 text e;
}
