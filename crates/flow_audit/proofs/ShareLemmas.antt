-- Findings of several workers put in the order of the pieces.
use Rattle.std.proofs.Common.{◌≡◌, ◌<◌, ℕ, zero, suc, ◌⊎◌, List, [], ◌∷◌, ◌++◌, length, Option, Some, None, slice_get, refl, sym, ap, subst, ◌∙◌, ◌+◌, length-append, arith, inl, inr}
use Rattle.std.proofs.Math.ListN.{replicate, set, length-set}
use Rattle.std.proofs.lemmas.List.{length-replicate, get_or-replicate}
use Rattle.std.proofs.lemmas.Option.{slice_get_within, get_or_from_slice_get}
use Rattle.flow_model.proofs.MadeLists.{some_same}
use Rattle.flow_audit.specs.declared.finding.Finding.{Finding}
use Rattle.flow_audit.specs.Cuts.{piece}
use Rattle.flow_audit.specs.Findings.{AreFindings}
use Rattle.flow_audit.specs.Shares.{IsShare}
use Rattle.flow_audit.proofs.PlaceLemmas.{at_one_more}

at_set : {A : Type 0} (xs : List A) (k i : ℕ) (y x : A) → slice_get (set xs k y) i ≡ Some x → (slice_get xs i ≡ Some x) ⊎ ((i ≡ k) × (x ≡ y))
at_set [] k i y x e = inl e
at_set (z ∷ xs) zero zero y x e = inr (refl, sym (some_same y x e))
at_set (z ∷ xs) zero (suc i) y x e = inl e
at_set (z ∷ xs) (suc k) zero y x e = inl e
at_set (z ∷ xs) (suc k) (suc i) y x e = elim (at_set xs k i y x e) [
  | inl before ↦ inl before
  | inr here ↦ inr (ap suc here.0, here.1)
]

module _ (Finds : List ℕ → Finding → Type 0) (text : List ℕ) (cuts : List (ℕ × ℕ)) where
  pub none_yet : (share : List (Option Finding)) → share ≡ replicate (length cuts) None → IsShare Finds text cuts share
  none_yet share is = record {
    places = ap length is ∙ length-replicate (length cuts) None;
    each = λ place cut finding there stands.
        let at = subst (λ (l : List (Option Finding)). slice_get l place ≡ Some (Some finding)) is stands in
        let below = subst (λ (k : ℕ). place < k) (length-replicate (length cuts) None) (slice_get_within (replicate (length cuts) None) place (Some finding) at) in
        let none : None ≡ Some finding = sym (get_or-replicate (length cuts) place None (Some finding) below)
        ∙ get_or_from_slice_get (replicate (length cuts) None) place (Some finding) (Some finding) at in cc;
  }

  -- one finding is put in its place
  pub one_more : (share more : List (Option Finding)) (k : ℕ) (cut : ℕ × ℕ) (finding : Finding) → more ≡ set share k (Some finding) →
      IsShare Finds text cuts share → slice_get cuts k ≡ Some cut → Finds (piece text cut) finding → IsShare Finds text cuts more
  one_more share more k cut finding is of at finds = record {
    places = ap length is ∙ length-set share k (Some finding) ∙ of.places;
    each = λ place other told there stands. elim (at_set share k place (Some finding) (Some told) (subst (λ (l : List (Option Finding)). slice_get l place ≡ Some (Some told)) is stands)) [
      | inl before ↦ of.each place other told there before
      | inr here ↦
          let cut_is : other ≡ cut = some_same other cut (sym there ∙ ap (slice_get cuts) here.0 ∙ at) in
          let told_is : told ≡ finding = some_same told finding here.1 in
          subst (λ (f : Finding). Finds (piece text other) f) (sym told_is) (subst (λ (c : ℕ × ℕ). Finds (piece text c) finding) (sym cut_is) finds)
    ];
  }

  -- the findings of the first so many pieces
  pub record AreFirst (count : ℕ) (all : List Finding) : Type 0 where
    pub so_many : length all ≡ count
    pub each : (i : ℕ) (cut : ℕ × ℕ) (finding : Finding) → slice_get cuts i ≡ Some cut → slice_get all i ≡ Some finding → Finds (piece text cut) finding

  pub next_first : (count : ℕ) (all more : List Finding) (cut : ℕ × ℕ) (finding : Finding) → more ≡ all ++ finding ∷ [] →
      AreFirst count all → slice_get cuts count ≡ Some cut → Finds (piece text cut) finding → AreFirst (count + 1) more
  next_first count all more cut finding grown are at finds = record {
    so_many = (let long = ap length grown in omega (arith, long, are.so_many, length-append all (finding ∷ [])));
    each = λ i other told there stands. elim (at_one_more all finding told i (subst (λ (l : List Finding). slice_get l i ≡ Some told) grown stands)) [
      | inl before ↦ are.each i other told there before
      | inr last ↦
          let same : i ≡ count = last.0 ∙ are.so_many in
          let cut_is : other ≡ cut = some_same other cut (sym there ∙ ap (slice_get cuts) same ∙ at) in
          subst (λ (f : Finding). Finds (piece text other) f) (sym last.1) (subst (λ (c : ℕ × ℕ). Finds (piece text c) finding) (sym cut_is) finds)
    ];
  }

  pub all_found : (count : ℕ) (all : List Finding) → count ≡ length cuts → AreFirst count all → AreFindings Finds text cuts all
  all_found count all whole are = record { count = are.so_many ∙ whole; each = are.each }
