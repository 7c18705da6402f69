-- A literal of SQL is read back.
use Rattle.std.proofs.Common.{◌≡◌, ℕ, ◌==◌, ◌⊎◌, inl, inr, Bool, true, false, List, [], ◌∷◌, ◌++◌, arith, refl, ◌∙◌, ap, Option, Some, append_assoc}
use Rattle.std.proofs.lemmas.Bool.Decides.{nat_tests}
use Rattle.flow_export.specs.Literal.{literal_byte, quoted, kept, kept_byte, text_before, read_quoted, literal_text, begins_with_quote, has_nul, LiteralsAreReadBack}

either_way : (b : Bool) → (b ≡ true) ⊎ (b ≡ false)
either_way true = inl refl
either_way false = inr refl

is_number : (b n : ℕ) → (b == n) ≡ true → b ≡ n
is_number b n e = grind (arith, nat_tests)

end_read : (rest : List ℕ) → begins_with_quote rest ≡ false → read_quoted true rest ≡ Some ([], rest)
end_read [] e = refl
end_read (b ∷ rest) e = rw e refl

-- a text in front of the text that is read
abbrev texts_before : List ℕ → Option (List ℕ × List ℕ) → Option (List ℕ × List ℕ)
texts_before [] o = o
texts_before (b ∷ bs) o = text_before b (texts_before bs o)

some_before : (a text rest : List ℕ) → texts_before a (Some (text, rest)) ≡ Some (a ++ text, rest)
some_before [] text rest = refl
some_before (b ∷ a) text rest = ap (text_before b) (some_before a text rest)

byte_read : (b : ℕ) (behind : List ℕ) → read_quoted false (literal_byte b ++ behind) ≡ texts_before (kept_byte b) (read_quoted false behind)
byte_read b behind = elim (either_way (b == 39)) [
  | inl e ↦ let q : b ≡ 39 = is_number b 39 e in rw q refl
  | inr quote ↦ elim (either_way (b == 0)) [
    | inl e ↦ let q : b ≡ 0 = is_number b 0 e in rw q refl
    | inr nul ↦ simp (quote, nul) refl
  ]
]

quoted_read : (text rest : List ℕ) → begins_with_quote rest ≡ false → read_quoted false (quoted text ++ 39 ∷ rest) ≡ Some (kept text, rest)
quoted_read [] rest e = end_read rest e
quoted_read (b ∷ text) rest e =
    ap (read_quoted false) (append_assoc (literal_byte b) (quoted text) (39 ∷ rest))
    ∙ byte_read b (quoted text ++ 39 ∷ rest) ∙ ap (texts_before (kept_byte b)) (quoted_read text rest e) ∙ some_before (kept_byte b) (kept text) rest

kept_same : (text : List ℕ) → has_nul text ≡ false → kept text ≡ text
kept_same [] e = refl
kept_same (b ∷ text) e = elim (either_way (b == 0)) [
  | inl nul ↦ absurd (nul_there nul e)
  | inr other ↦ rw other (ap (λ l. b ∷ l) (kept_same text (later other e)))
]
  where
    later : (b == 0) ≡ false → has_nul (b ∷ text) ≡ false → has_nul text ≡ false
    later o e = rw o at e

    nul_there : (b == 0) ≡ true → has_nul (b ∷ text) ≡ false → ⊥
    nul_there n e = cc

pub literals_read : LiteralsAreReadBack
unfolding literal_text
literals_read = record {
  read = λ text rest e. ap (read_quoted false) (append_assoc (quoted text) (39 ∷ []) rest) ∙ quoted_read text rest e;
  same = kept_same;
}
