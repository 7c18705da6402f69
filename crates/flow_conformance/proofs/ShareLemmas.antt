-- What workers find, put in the order of the sequences.
use Rattle.std.proofs.Common.{◌≡◌, ◌<◌, ℕ, zero, suc, ◌⊎◌, List, [], ◌∷◌, ◌++◌, length, Option, Some, None, slice_get, refl, sym, ap, subst, ◌∙◌, ◌+◌, length-append, arith, inl, inr, Vec, Global}
use Rattle.std.proofs.Math.ListN.{replicate, set, length-set}
use Rattle.std.proofs.lemmas.List.{length-replicate, get_or-replicate}
use Rattle.std.proofs.lemmas.Option.{slice_get_within, get_or_from_slice_get}
use Rattle.flow_conformance.specs.declared.judge.Verdict.{Verdict}
use Rattle.flow_conformance.specs.declared.cause.Finding.{Finding}
use Rattle.flow_conformance.specs.Judged.{AreFindings}
use Rattle.flow_conformance.specs.Shares.{IsShare}

pub some_same : {A : Type 0} (a b : A) → Some a ≡ Some b → a ≡ b
some_same a b e = cc

at_one_more : {A : Type 0} (xs : List A) (y x : A) (k : ℕ) → slice_get (xs ++ y ∷ []) k ≡ Some x →
    (slice_get xs k ≡ Some x) ⊎ ((k ≡ length xs) × (x ≡ y))
at_one_more [] y x zero e = inr (refl, sym (some_same y x e))
at_one_more [] y x (suc k) e = cc
at_one_more (z ∷ xs) y x zero e = inl e
at_one_more (z ∷ xs) y x (suc k) e = elim (at_one_more xs y x k e) [
  | inl before ↦ inl before
  | inr last ↦ inr (ap suc last.0, last.1)
]

at_set : {A : Type 0} (xs : List A) (k i : ℕ) (y x : A) → slice_get (set xs k y) i ≡ Some x → (slice_get xs i ≡ Some x) ⊎ ((i ≡ k) × (x ≡ y))
at_set [] k i y x e = inl e
at_set (z ∷ xs) zero zero y x e = inr (refl, sym (some_same y x e))
at_set (z ∷ xs) zero (suc i) y x e = inl e
at_set (z ∷ xs) (suc k) zero y x e = inl e
at_set (z ∷ xs) (suc k) (suc i) y x e = elim (at_set xs k i y x e) [
  | inl before ↦ inl before
  | inr here ↦ inr (ap suc here.0, here.1)
]

module _ (Judges : List ℕ → Verdict → Type 0) (sequences : List (Vec ℕ Global)) where
  pub none_yet : (share : List (Option Finding)) → share ≡ replicate (length sequences) None → IsShare Judges sequences share
  none_yet share is = record {
    places = ap length is ∙ length-replicate (length sequences) None;
    each = λ place events finding there stands.
        let at = subst (λ (l : List (Option Finding)). slice_get l place ≡ Some (Some finding)) is stands in
        let below = subst (λ (k : ℕ). place < k) (length-replicate (length sequences) None) (slice_get_within (replicate (length sequences) None) place (Some finding) at) in
        let none : None ≡ Some finding = sym (get_or-replicate (length sequences) place None (Some finding) below)
        ∙ get_or_from_slice_get (replicate (length sequences) None) place (Some finding) (Some finding) at in cc;
  }

  -- one finding is put in its place
  pub one_more : (share more : List (Option Finding)) (k : ℕ) (events : Vec ℕ Global) (finding : Finding) → more ≡ set share k (Some finding) →
      IsShare Judges sequences share → slice_get sequences k ≡ Some events → Judges events.items finding.verdict → IsShare Judges sequences more
  one_more share more k events finding is of at finds = record {
    places = ap length is ∙ length-set share k (Some finding) ∙ of.places;
    each = λ place other told there stands. elim (at_set share k place (Some finding) (Some told) (subst (λ (l : List (Option Finding)). slice_get l place ≡ Some (Some told)) is stands)) [
      | inl before ↦ of.each place other told there before
      | inr here ↦
          let events_is : other ≡ events = some_same other events (sym there ∙ ap (slice_get sequences) here.0 ∙ at) in
          let told_is : told ≡ finding = some_same told finding here.1 in
          subst (λ (f : Finding). Judges other.items f.verdict) (sym told_is) (subst (λ (c : Vec ℕ Global). Judges c.items finding.verdict) (sym events_is) finds)
    ];
  }

  -- the findings of the first so many sequences
  pub record AreFirst (count : ℕ) (all : List Finding) : Type 0 where
    pub so_many : length all ≡ count
    pub each : (i : ℕ) (events : Vec ℕ Global) (finding : Finding) → slice_get sequences i ≡ Some events → slice_get all i ≡ Some finding → Judges events.items finding.verdict

  pub next_first : (count : ℕ) (all more : List Finding) (finding : Finding) → more ≡ all ++ finding ∷ [] → AreFirst count all →
      ((events : Vec ℕ Global) → slice_get sequences count ≡ Some events → Judges events.items finding.verdict) → AreFirst (count + 1) more
  next_first count all more finding grown are judged = record {
    so_many = (let long = ap length grown in omega (arith, long, are.so_many, length-append all (finding ∷ [])));
    each = λ i other told there stands. elim (at_one_more all finding told i (subst (λ (l : List Finding). slice_get l i ≡ Some told) grown stands)) [
      | inl before ↦ are.each i other told there before
      | inr last ↦
          let same : i ≡ count = last.0 ∙ are.so_many in
          let here : slice_get sequences count ≡ Some other = ap (slice_get sequences) (sym same) ∙ there in
          subst (λ (f : Finding). Judges other.items f.verdict) (sym last.1) (judged other here)
    ];
  }

  pub all_found : (count : ℕ) (all : List Finding) → count ≡ length sequences → AreFirst count all → AreFindings Judges sequences all
  all_found count all whole are = record { count = are.so_many ∙ whole; each = are.each }
