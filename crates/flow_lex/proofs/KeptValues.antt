-- Values of digits that are kept within a limit.
use Rattle.std.proofs.Common.{◌≡◌, ℕ, ◌+◌, ◌*◌, ◌-◌, ◌^◌, ◌<◌, min, List, [], ◌∷◌, length, drop, get_or, refl, sym, ap, ◌∙◌, arith}
use Rattle.std.proofs.lemmas.List.{drop_more}
use Rattle.std.specs.Prelude.{fold}
use Rattle.flow_lex.specs.Bytes.{number_value, kept_with}

abbrev pub kept_from : ℕ → List ℕ → ℕ
kept_from value [] = value
kept_from value (d ∷ ds) = kept_from (kept_with value d) ds

kept-step : (v d : ℕ) → kept_with (min v (2 ^ 64 - 1)) d ≡ min (10 * v + (d - 48)) (2 ^ 64 - 1)
kept-step v d = omega arith

kept-fold : (v : ℕ) (ds : List ℕ) → kept_from (min v (2 ^ 64 - 1)) ds ≡ min (fold (λ value digit. 10 * value + (digit - 48)) v ds) (2 ^ 64 - 1)
kept-fold v [] = refl
kept-fold v (d ∷ ds) = ap (λ w. kept_from w ds) (kept-step v d) ∙ kept-fold (10 * v + (d - 48)) ds

pub kept_value : (ds : List ℕ) → min (number_value ds) (2 ^ 64 - 1) ≡ kept_from 0 ds
kept_value ds = sym (kept-fold 0 ds)

pub kept_more : (value i : ℕ) (ds : List ℕ) → i < length ds → kept_from value (drop i ds) ≡ kept_from (kept_with value (get_or ds i 0)) (drop (i + 1) ds)
kept_more value i ds h = rw (drop_more ds i 0 h) refl
