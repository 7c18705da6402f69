-- The first word of a line, and what stands after it.
use Rattle.std.proofs.Common.{◌≡◌, ◌⊎◌, inl, inr, ℕ, ◌-◌, Bool, true, false, not, ltb, List, [], ◌∷◌, length, take, drop, refl, one-add, sym, ◌∙◌, ap, subst, arith, Option}
use Rattle.std.specs.List.{position_or_len, position}
use Rattle.std.specs.Option.{unwrap_or}
use Rattle.std.proofs.lemmas.Bool.{false≢true, not-true, cases_Bool}
use Rattle.std.proofs.lemmas.Bool.Decides.{nat_tests}
use Rattle.std.proofs.lemmas.List.{take_rest}
use Rattle.std.proofs.lemmas.List.Sums.{prefix_len-le-length}
use Rattle.flow_record.specs.Words.{is_blank, begins_in_word, words_of, with_word}

-- where the first byte stands that is no blank
abbrev pub word_start : List ℕ → ℕ
word_start line = position_or_len (λ b. not (is_blank b)) line

-- where the first blank stands
abbrev pub word_end : List ℕ → ℕ
word_end line = position_or_len is_blank line

-- the blanks before the first word do not count
skipped : (line : List ℕ) → words_of line ≡ words_of (drop (word_start line) line)
skipped [] = refl
skipped (b ∷ bs) = elim (cases_Bool (is_blank b)) [
  | inl e ↦ rw (e, one-add) (skipped bs)
  | inr e ↦ rw (e, e) refl
]

-- the text is empty or begins in a word
abbrev AtWord : List ℕ → Type 0
AtWord line = (line ≡ []) ⊎ (begins_in_word line ≡ true)

begins : (line : List ℕ) → AtWord (drop (word_start line) line)
begins [] = inl refl
begins (b ∷ bs) = elim (cases_Bool (is_blank b)) [
  | inl e ↦ rw (e, one-add) (begins bs)
  | inr e ↦ rw e (inr (rw e refl))
]

none-left : (bs : List ℕ) → begins_in_word bs ≡ false → word_end bs ≡ 0
none-left [] e = refl
none-left (b ∷ bs) e = rw e refl

-- a text that begins in a word is that word and what stands after it
abbrev Splits : List ℕ → Type 0
Splits line = words_of line ≡ take (word_end line) line ∷ words_of (drop (word_end line) line)

splits : (line : List ℕ) → begins_in_word line ≡ true → Splits line
splits [] e = absurd (false≢true e)
splits (b ∷ bs) e = let here = not-true (is_blank b) e in elim (cases_Bool (begins_in_word bs)) [
  | inl f ↦ rw (here, f, one-add, splits bs f) refl
  | inr f ↦ rw (here, f, none-left bs f) refl
]

-- the word is not empty
with_word-some : (line : List ℕ) (words : List (List ℕ)) → begins_in_word line ≡ true →
    with_word (take (word_end line) line) words ≡ take (word_end line) line ∷ words
with_word-some [] words e = absurd (false≢true e)
with_word-some (b ∷ bs) words e = rw (e, one-add) refl

first : (line : List ℕ) → AtWord line →
    words_of line ≡ with_word (take (word_end line) line) (words_of (drop (word_end line) line))
first line (inl e) = rw e refl
first line (inr e) = splits line e ∙ sym (with_word-some line _ e)

-- the first place, or the length
place : {X : Type 0} (p : X → Bool) (xs : List X) → unwrap_or (position p xs) (length xs) ≡ position_or_len p xs
place p xs = grind (arith, nat_tests, cases_Bool (ltb (position_or_len p xs) (length xs)), prefix_len-le-length (λ x. not (p x)) xs)

-- the first word of a line by the places of its ends
pub split_word : (line words front back : List ℕ) (begin finish : Option ℕ) (start stop : ℕ) →
    begin ≡ position (λ b. not (is_blank b)) line → start ≡ unwrap_or begin (length line) →
    words ≡ take (length line - start) (drop start line) →
    finish ≡ position is_blank words → stop ≡ unwrap_or finish (length words) →
    front ≡ take stop words → back ≡ drop stop words →
    words_of line ≡ with_word front (words_of back)
split_word line words front back begin finish start stop g s w h e f b =
    let from : start ≡ word_start line = s ∙ ap (λ o. unwrap_or o (length line)) g ∙ place (λ b. not (is_blank b)) line in
    let here : words ≡ drop (word_start line) line = w ∙ take_rest line start ∙ ap (λ n. drop n line) from in
    let there : stop ≡ word_end words = e ∙ ap (λ o. unwrap_or o (length words)) h ∙ place is_blank words in
    let at_word : AtWord words = subst AtWord (sym here) (begins line) in
    skipped line ∙ ap words_of (sym here) ∙ first words at_word ∙ rw (f, b, there) refl
