-- Keys by their numbers.
use Rattle.std.proofs.Common.{◌≡◌, ℕ, ◌+◌, ◌<◌, ◌^◌, Bool, true, false, ◌||◌, List, [], ◌∷◌, ◌++◌, length, get_or, slice_get, position, Some, refl, sym, ap, ◌∙◌, subst, inl, inr, arith}
use Rattle.std.specs.Prelude.{if◌then◌else◌}
use Rattle.std.specs.List.{list_any}
use Rattle.std.proofs.lemmas.List.{length-append}
use Rattle.std.proofs.lemmas.List.Quantifiers.{position-Some}
use Rattle.std.proofs.lemmas.Option.{slice_get-get_or}
use Rattle.indexmap.specs.IndexSet.{insert_key}
use Rattle.flow_model.specs.Lists.{◌∈◌}
use Rattle.flow_workflow.specs.Numbered.{AreNumbered, IsAdded}
use Rattle.flow_workflow.proofs.Places.{distinct_more}

module _ {K : Type 0} (eq : K → K → Bool) where
  -- a member is found
  list_any-member : ((k : K) → eq k k ≡ true) → (keys : List K) (k : K) → k ∈ keys → list_any (eq k) keys ≡ true
  list_any-member itself [] k m = absurd m
  list_any-member itself (x ∷ keys) k (inl e) = ap (λ b. b || list_any (eq k) keys) (subst (λ z. eq k z ≡ true) e (itself k))
  list_any-member itself (x ∷ keys) k (inr m) = ap (λ b. eq k x || b) (list_any-member itself keys k m) ∙ or_true (eq k x)
    where
      or_true : (b : Bool) → b || true ≡ true
      or_true true = refl
      or_true false = refl

  -- what is not found is no member
  pub not_found : ((k : K) → eq k k ≡ true) → (keys now : List K) (k : K) → keys ≡ now → false ≡ list_any (eq k) keys → ¬ (k ∈ now)
  not_found itself keys now k same none m =
      let f : false ≡ true = none ∙ list_any-member itself keys k (subst (λ list. k ∈ list) (sym same) m) in cc

  -- what is found is a member
  member_found : ((a b : K) → eq a b ≡ true → a ≡ b) → (keys : List K) (k : K) → list_any (eq k) keys ≡ true → k ∈ keys
  member_found same [] k e = absurd (let f : false ≡ true = e in cc)
  member_found same (x ∷ keys) k e = by (eq k x) refl (member_found same keys k)
    where
      by : (b : Bool) → eq k x ≡ b → (list_any (eq k) keys ≡ true → k ∈ keys) → k ∈ (x ∷ keys)
      by true is later = inl (same k x is)
      by false is later = inr (later (sym (ap (λ b. b || list_any (eq k) keys) is) ∙ e))

  -- at the place that is found stands the key
  pub slice_get-position : ((a b : K) → eq a b ≡ true → a ≡ b) → (keys : List K) (k : K) (i : ℕ) → position (eq k) keys ≡ Some i → slice_get keys i ≡ Some k
  slice_get-position same keys k i at =
      let found = position-Some (eq k) keys i k at in
      slice_get-get_or keys i k found.0 ∙ ap Some (sym (same k (get_or keys i k) found.1))

  -- a new key goes last
  pub insert_key-new : ((a b : K) → eq a b ≡ true → a ≡ b) → (keys : List K) (k : K) → ¬ (k ∈ keys) → insert_key eq keys k ≡ keys ++ k ∷ []
  insert_key-new same keys k new = by (list_any (eq k) keys) refl
    where
      by : (b : Bool) → list_any (eq k) keys ≡ b → insert_key eq keys k ≡ keys ++ k ∷ []
      by true e = absurd (new (member_found same keys k e))
      by false e = ap (λ b. if b then keys else keys ++ k ∷ []) e

-- one more at the end
pub numbered_more : {K : Type 0} (old new : List K) (key : K) → AreNumbered old → ¬ (key ∈ old) → length old + 1 < 2 ^ 32 → new ≡ old ++ key ∷ [] → AreNumbered new
numbered_more old new key are other few grown = subst AreNumbered (sym grown) (record {
  distinct = distinct_more old key are.distinct other;
  few = omega (arith, length-append old (key ∷ []), few);
})

module _ {K : Type 0} (eq : K → K → Bool) (itself : (k : K) → eq k k ≡ true) (same : (a b : K) → eq a b ≡ true → a ≡ b) where
  -- a key that is put in was added
  pub key_added : (keys now : List K) (k : K) → keys ≡ now → IsAdded now k (insert_key eq keys k)
  key_added keys now k is = subst (λ old. IsAdded old k (insert_key eq keys k)) is (record {
    there = λ m. ap (λ b. if b then keys else keys ++ k ∷ []) (list_any-member eq itself keys k m);
    missing = λ new. insert_key-new eq same keys k new;
  })

  -- with it the keys are numbered
  pub key_numbered : (keys : List K) (k : K) → AreNumbered keys → length keys + 1 < 2 ^ 32 → AreNumbered (insert_key eq keys k)
  key_numbered keys k are few = by (list_any (eq k) keys) refl
    where
      by : (b : Bool) → list_any (eq k) keys ≡ b → AreNumbered (insert_key eq keys k)
      by true e = subst AreNumbered (sym (ap (λ b. if b then keys else keys ++ k ∷ []) e)) are
      by false e =
          let new = not_found eq itself keys keys k refl (sym e) in
          numbered_more keys (insert_key eq keys k) k are new few (insert_key-new eq same keys k new)
