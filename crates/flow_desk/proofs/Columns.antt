-- Columns, a byte at a time.
use Rattle.std.proofs.Common.{◌≡◌, ◌≢◌, ◌+◌, ◌<◌, ℕ, List, [], ◌∷◌, ◌++◌, length, take, get_or, refl, sym, ap, subst, ◌∙◌, inl, inr, arith, append_assoc}
use Rattle.std.proofs.lemmas.List.{take_more, length_push}
use Rattle.flow_model.proofs.Lists.{each-append}
use Rattle.flow_desk.specs.Place.{IsColumn}

pub column_first : IsColumn [] 1
column_first = record { lines = []; rest = []; split = refl; ended = inl refl; no_feed = tt; counted = refl }

-- behind a line feed
feed : (text : List ℕ) (b : ℕ) → b ≡ 10 → IsColumn (text ++ b ∷ []) 1
feed text b is = record {
  lines = text ++ b ∷ [];
  rest = [];
  split = simp (append-nil) refl;
  ended = inr (text, ap (λ c. text ++ c ∷ []) is);
  no_feed = tt;
  counted = refl;
}
  where
    append-nil : (xs : List ℕ) → xs ++ [] ≡ xs
    append-nil [] = refl
    append-nil (x ∷ xs) = ap (λ l. x ∷ l) (append-nil xs)

-- behind any other byte
other : (text : List ℕ) (column b : ℕ) → IsColumn text column → b ≢ 10 → IsColumn (text ++ b ∷ []) (column + 1)
other text column b is differs = record {
  lines = is.lines;
  rest = is.rest ++ b ∷ [];
  split = ap (λ t. t ++ b ∷ []) is.split ∙ append_assoc is.lines is.rest (b ∷ []);
  ended = is.ended;
  no_feed = each-append (λ (b : ℕ). b ≢ 10) is.rest (b ∷ []) is.no_feed (differs, tt);
  counted = let l = length_push is.rest b in omega (arith, l, is.counted);
}

module _ (text : List ℕ) (k d : ℕ) (within : k < length text) where
  pub column_feed : get_or text k d ≡ 10 → IsColumn (take (k + 1) text) 1
  column_feed is = subst (λ t. IsColumn t 1) (sym (take_more text k d within)) (feed (take k text) (get_or text k d) is)

  pub column_other : (column : ℕ) → IsColumn (take k text) column → get_or text k d ≢ 10 → IsColumn (take (k + 1) text) (column + 1)
  column_other column is differs = subst (λ t. IsColumn t (column + 1)) (sym (take_more text k d within)) (other (take k text) column (get_or text k d) is differs)
