-- A source cut at its first line that divides it.
use Rattle.std.proofs.Common.{◌≡◌, ℕ, ◌+◌, min, true, false, List, [], ◌∷◌, ◌++◌, length, refl, sym, ◌∙◌, ap, length-append, arith, Some, None}
use Rattle.flow_record.specs.Lines.{lines_of, cut_at}
use Rattle.flow_record.specs.Cut.{is_divider, cut_from, cut_of}
use Rattle.flow_record.proofs.LineLemmas.{lacks, first_other, others_lack, parts_are, uncut_lacks}

pub ended : (x y : List ℕ) → lacks 10 x ≡ true → lines_of (x ++ 10 ∷ y) ≡ x ∷ lines_of y
ended [] y h = refl
ended (b ∷ x) y h = rw (first_other 10 b x h, ended x y (others_lack 10 b x h)) refl

pub whole : (b : ℕ) (bs : List ℕ) → lacks 10 (b ∷ bs) ≡ true → lines_of (b ∷ bs) ≡ (b ∷ bs) ∷ []
whole b [] h = rw (first_other 10 b [] h) refl
whole b (c ∷ cs) h = rw (first_other 10 b (c ∷ cs) h, whole c cs (others_lack 10 b (c ∷ cs) h)) refl

-- a line is told apart from what stands after it
pub fed : (text line more : List ℕ) → cut_at 10 text ≡ Some (line, more) → length line + 1 + length more ≡ length text
fed text line more cut = let same = ap length (parts_are 10 text line more cut).0 in omega (arith, length-append line (10 ∷ more))

-- what is left to cut: the rest, which begins at the place
pub record IsCutFrom (source : List ℕ) (place : ℕ) (rest : List ℕ) : Type 0 where
  pub left : cut_of source ≡ cut_from (length source) place (lines_of rest)
  pub placed : place + length rest ≡ length source

module _ (source : List ℕ) (place : ℕ) (rest : List ℕ) (is : IsCutFrom source place rest) where
  -- the next line divides the source, or does not
  pub at_divider : (line more : List ℕ) → cut_at 10 rest ≡ Some (line, more) → is_divider line ≡ true → (place, place + length line + 1) ≡ cut_of source
  at_divider line more cut divides =
      let (parts, lack) = parts_are 10 rest line more cut in
      let within : min (place + length line + 1) (length source) ≡ place + length line + 1 = omega (arith, is.placed, fed rest line more cut) in
      sym (is.left ∙ ap (λ (t : List ℕ). cut_from (length source) place (lines_of t)) parts ∙ rw (ended line more lack, divides, within) refl)

  pub at_other : (line more : List ℕ) → cut_at 10 rest ≡ Some (line, more) → is_divider line ≡ false → IsCutFrom source (place + length line + 1) more
  at_other line more cut other =
      let (parts, lack) = parts_are 10 rest line more cut in record {
        left = is.left ∙ ap (λ (t : List ℕ). cut_from (length source) place (lines_of t)) parts ∙ rw (ended line more lack, other) refl;
        placed = omega (arith, is.placed, fed rest line more cut);
      }

  -- so does the last line, or it does not
  pub at_end : cut_at 10 rest ≡ None → is_divider rest ≡ true → (place, length source) ≡ cut_of source
  at_end none divides = sym (is.left ∙ ends rest (uncut_lacks 10 rest none) divides is.placed)
    where
      ends : (rest : List ℕ) → lacks 10 rest ≡ true → is_divider rest ≡ true → place + length rest ≡ length source →
          cut_from (length source) place (lines_of rest) ≡ (place, length source)
      ends [] h divides placed = cc
      ends (b ∷ bs) h divides placed =
          let past : min (place + length (b ∷ bs) + 1) (length source) ≡ length source = omega (arith, placed) in rw (whole b bs h, divides, past) refl

  pub at_whole : cut_at 10 rest ≡ None → is_divider rest ≡ false → (length source, length source) ≡ cut_of source
  at_whole none other = sym (is.left ∙ ends rest (uncut_lacks 10 rest none) other)
    where
      ends : (rest : List ℕ) → lacks 10 rest ≡ true → is_divider rest ≡ false → cut_from (length source) place (lines_of rest) ≡ (length source, length source)
      ends [] h other = refl
      ends (b ∷ bs) h other = rw (whole b bs h, other) refl
