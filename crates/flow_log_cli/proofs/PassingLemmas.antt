-- The ways of sequences, one after another; and counts of leaves.
use Rattle.std.proofs.Common.{◌≡◌, ◌⊎◌, ◌+◌, ◌++◌, ◌∷◌, [], ℕ, suc, List, length, map, Some, slice_get, inl, inr, sym, ap, subst, ◌∙◌, length-append, arith, Vec, Global}
use Rattle.std.proofs.lemmas.List.{map-append}
use Rattle.flow_model.specs.Lists.{numbers_from}
use Rattle.flow_model.proofs.MadeLists.{numbers_from_more}
use Rattle.flow_workflow.specs.Definition.{Definition}
use Rattle.flow_log_cli.proofs.Places.{at_one_more, some_same}
use Rattle.flow_log_cli.specs.Passing.{AreWays, IsWay}

module _ (d : Definition) (budget : ℕ) (sequences : List (Vec ℕ Global)) where
  -- the ways of the first so many sequences
  pub record AreFirstWays (count : ℕ) (ways : List (Vec ℕ Global)) : Type 0 where
    pub so_many : length ways ≡ count
    pub each : (i : ℕ) (events way : Vec ℕ Global) → slice_get sequences i ≡ Some events → slice_get ways i ≡ Some way → IsWay d budget events.items way.items

  pub next_way : (count : ℕ) (ways more : List (Vec ℕ Global)) (way : Vec ℕ Global) → more ≡ ways ++ way ∷ [] → AreFirstWays count ways →
      ((events : Vec ℕ Global) → slice_get sequences count ≡ Some events → IsWay d budget events.items way.items) → AreFirstWays (count + 1) more
  next_way count ways more way grown are new = record {
    so_many = (let long = ap length grown in omega (arith, long, are.so_many, length-append ways (way ∷ [])));
    each = λ i other told there stands. elim (at_one_more ways way told i (subst (λ (l : List (Vec ℕ Global)). slice_get l i ≡ Some told) grown stands)) [
      | inl before ↦ are.each i other told there before
      | inr last ↦
          let same : i ≡ count = last.0 ∙ are.so_many in
          let here : slice_get sequences count ≡ Some other = ap (slice_get sequences) (sym same) ∙ there in
          subst (λ (v : Vec ℕ Global). IsWay d budget other.items v.items) (sym last.1) (new other here)
    ];
  }

  pub all_ways : (count : ℕ) (ways : List (Vec ℕ Global)) → count ≡ length sequences → AreFirstWays count ways → AreWays d budget sequences ways
  all_ways count ways whole are = record { count = are.so_many ∙ whole; each = are.each }

pub counts_more : (f : ℕ → ℕ) (n : ℕ) → map f (numbers_from 0 n) ++ f n ∷ [] ≡ map f (numbers_from 0 (n + 1))
counts_more f n =
    let next : suc n ≡ n + 1 = omega arith in
    let same : 0 + n ≡ n = omega arith in
    ap (λ k. map f (numbers_from 0 n) ++ f k ∷ []) (sym same) ∙ sym (map-append f (numbers_from 0 n) ((0 + n) ∷ [])) ∙ ap (map f) (sym (numbers_from_more 0 n)) ∙ ap (λ k. map f (numbers_from 0 k)) next
