-- Names in buckets: a search leaves none out, and one more name leaves all linked.
use Rattle.std.proofs.Common.{◌≡◌, ◌≢◌, ◌+◌, ◌<◌, ◌≤◌, ◌⊎◌, ℕ, List, [], ◌∷◌, ◌++◌, length, slice_index, sym, ap, subst, ◌∙◌, inl, inr, arith, length-append, get_or-set_other, get_or-set_same, refl, zero, suc}
use Rattle.std.proofs.Math.ListN.{set, length-set, get_or-append, replicate}
use Rattle.std.proofs.Math.Seq.{get_or-append_seam}
use Rattle.std.proofs.lemmas.Bool.{cases_lt, cases_order}
use Rattle.std.proofs.lemmas.List.{length-replicate}
use Rattle.flow_event_log.specs.Buckets.{IsLinked, bucket_at, name_at}

zero_at : (n b : ℕ) → slice_index (replicate n 0) b ≡ 0
zero_at zero b = refl
zero_at (suc n) zero = refl
zero_at (suc n) (suc b) = zero_at n b

-- no names, and buckets that lead to none
pub none_linked : (in_bucket : ℕ → List ℕ → ℕ) (buckets : ℕ) (newest older : List ℕ) (names : List (List ℕ)) → 0 < buckets → newest ≡ replicate buckets 0 →
    older ≡ [] → names ≡ [] → IsLinked in_bucket (length newest) newest older names
none_linked in_bucket buckets newest older names some empty no_older no_names =
    let wide : length newest ≡ buckets = ap length empty ∙ length-replicate buckets 0 in
    let none : length names ≡ 0 = ap length no_names in
    let older_none : length older ≡ 0 = ap length no_older in
    record {
      some = omega (arith, some, wide);
      wide = refl;
      one_each = older_none ∙ sym none;
      newest_is_last = λ k below. absurd (omega (arith, below, none));
      newest_in = λ b k is.
          let zero_there : slice_index newest b ≡ 0 = ap (λ (l : List ℕ). slice_index l b) empty ∙ zero_at buckets b in
          absurd (omega (arith, is, zero_there));
      older_is_next = λ i k below. absurd (omega (arith, below, none));
      older_in = λ i k below. absurd (omega (arith, below, none));
    }

-- the names that are newer than a link, and do not lead to the text
pub record IsPast (names : List (List ℕ)) (text : List ℕ) (link : ℕ) : Type 0 where
  pub others : (k : ℕ) → link ≤ k → k < length names → name_at names k ≡ text → ⊥

-- the link is to a name of the text's bucket
pub record IsInside (in_bucket : ℕ → List ℕ → ℕ) (buckets : ℕ) (names : List (List ℕ)) (text : List ℕ) (link : ℕ) : Type 0 where
  pub within : (k : ℕ) → link ≡ k + 1 → (k < length names) × (bucket_at in_bucket buckets names k ≡ in_bucket buckets text)

module _ (in_bucket : ℕ → List ℕ → ℕ) (buckets : ℕ) (newest older : List ℕ) (names : List (List ℕ)) (text : List ℕ) (linked : IsLinked in_bucket buckets newest older names) where
  pub first_past : IsPast names text (slice_index newest (in_bucket buckets text))
  first_past = record {
    others = λ k above below same.
        let last = linked.newest_is_last k below in
        let there : k < slice_index newest (in_bucket buckets text) = subst (λ (t : List ℕ). k < slice_index newest (in_bucket buckets t)) same last in
        omega (arith, above, there);
  }

  pub first_inside : IsInside in_bucket buckets names text (slice_index newest (in_bucket buckets text))
  first_inside = record { within = λ k is. linked.newest_in (in_bucket buckets text) k is }

  pub next_past : (number : ℕ) → number < length names → bucket_at in_bucket buckets names number ≡ in_bucket buckets text → (name_at names number ≡ text → ⊥) →
      IsPast names text (number + 1) → IsPast names text (slice_index older number)
  next_past number there bucket differs past = record {
    others = λ k above below same. elim (cases_order k number) [
      | inl here ↦ differs (subst (λ (n : ℕ). name_at names n ≡ text) here same)
      | inr apart ↦ elim apart [
        | inl before ↦
            let next = linked.older_is_next number k there before (ap (in_bucket buckets) same ∙ sym bucket) in
            omega (arith, above, next)
        | inr behind ↦ past.others k (omega (arith, behind)) below same
      ]
    ];
  }

  pub next_inside : (number : ℕ) → number < length names → bucket_at in_bucket buckets names number ≡ in_bucket buckets text →
      IsInside in_bucket buckets names text (slice_index older number)
  next_inside number there bucket = record {
    within = λ k is.
        let before = linked.older_in number k there is in
        (omega (arith, before.0, there), before.1 ∙ bucket);
  }

name_before : (names : List (List ℕ)) (text : List ℕ) (k : ℕ) → k < length names → name_at (names ++ text ∷ []) k ≡ name_at names k
name_before names text k below = get_or-append names (text ∷ []) [] k below

name_last : (names : List (List ℕ)) (text : List ℕ) (k : ℕ) → k ≡ length names → name_at (names ++ text ∷ []) k ≡ text
name_last names text k is = ap (λ (n : ℕ). name_at (names ++ text ∷ []) n) is ∙ get_or-append_seam names text [] []

old_before : (older : List ℕ) (n k : ℕ) → k < length older → slice_index (older ++ n ∷ []) k ≡ slice_index older k
old_before older n k below = get_or-append older (n ∷ []) 0 k below

old_last : (older : List ℕ) (n k : ℕ) → k ≡ length older → slice_index (older ++ n ∷ []) k ≡ n
old_last older n k is = ap (λ (i : ℕ). slice_index (older ++ n ∷ []) i) is ∙ get_or-append_seam older n [] 0

at_set : (newest : List ℕ) (b v q : ℕ) → b < length newest → ((q ≡ b) × (slice_index (set newest b v) q ≡ v)) ⊎ ((q ≢ b) × (slice_index (set newest b v) q ≡ slice_index newest q))
at_set newest b v q below = elim (cases_order q b) [
  | inl is ↦ inl (is, ap (λ (i : ℕ). slice_index (set newest b v) i) is ∙ get_or-set_same newest b v 0 below)
  | inr apart ↦
      let other : q ≢ b = λ is. elim apart [ inl before ↦ omega (arith, before, is) | inr behind ↦ omega (arith, behind, is) ] in
      inr (other, get_or-set_other newest b q v 0 other)
]

below_more : (n k : ℕ) → k < n + 1 → (k < n) ⊎ (k ≡ n)
below_more n k h = elim (cases_lt k n) [ inl before ↦ inl before | inr least ↦ inr (omega (arith, least, h)) ]

module _ (in_bucket : ℕ → List ℕ → ℕ) (buckets : ℕ) (newest older : List ℕ) (names : List (List ℕ)) (text : List ℕ) (linked : IsLinked in_bucket buckets newest older names) (below : in_bucket buckets text < buckets) where
  -- the newest of each bucket once the text is added
  abbrev pub after : List ℕ
  after = set newest (in_bucket buckets text) (length names + 1)

  here : (q : ℕ) → ((q ≡ in_bucket buckets text) × (slice_index after q ≡ length names + 1)) ⊎ ((q ≢ in_bucket buckets text) × (slice_index after q ≡ slice_index newest q))
  here q = at_set newest (in_bucket buckets text) (length names + 1) q (let wide = linked.wide in omega (arith, below, wide))

  bucket_before : (k : ℕ) → k < length names → bucket_at in_bucket buckets (names ++ text ∷ []) k ≡ bucket_at in_bucket buckets names k
  bucket_before k within = ap (in_bucket buckets) (name_before names text k within)

  bucket_last : (k : ℕ) → k ≡ length names → bucket_at in_bucket buckets (names ++ text ∷ []) k ≡ in_bucket buckets text
  bucket_last k is = ap (in_bucket buckets) (name_last names text k is)

  is_last : (k : ℕ) → k < length (names ++ text ∷ []) → k < slice_index after (bucket_at in_bucket buckets (names ++ text ∷ []) k)
  is_last k within = elim (below_more (length names) k (omega (arith, within, length-append names (text ∷ [])))) [
    | inl before ↦
        let q = bucket_at in_bucket buckets (names ++ text ∷ []) k in
        let old : k < slice_index newest q = subst (λ (b : ℕ). k < slice_index newest b) (sym (bucket_before k before)) (linked.newest_is_last k before) in
        elim (here q) [ inl changed ↦ omega (arith, before, changed.1) | inr same ↦ omega (arith, old, same.1) ]
    | inr last ↦
        elim (here (bucket_at in_bucket buckets (names ++ text ∷ []) k)) [
          | inl changed ↦ omega (arith, last, changed.1)
          | inr same ↦ absurd (same.0 (bucket_last k last))
        ]
  ]

  is_in : (b k : ℕ) → slice_index after b ≡ k + 1 → (k < length (names ++ text ∷ [])) × (bucket_at in_bucket buckets (names ++ text ∷ []) k ≡ b)
  is_in b k is = elim (here b) [
    | inl changed ↦
        let last : k ≡ length names = (let e = changed.1 in omega (arith, is, e)) in
        (omega (arith, last, length-append names (text ∷ [])), bucket_last k last ∙ sym changed.0)
    | inr same ↦
        let old = linked.newest_in b k (sym same.1 ∙ is) in
        (omega (arith, old.0, length-append names (text ∷ [])), bucket_before k old.0 ∙ old.1)
  ]

  abbrev pub olders : List ℕ
  olders = older ++ slice_index newest (in_bucket buckets text) ∷ []

  one_each : length olders ≡ length (names ++ text ∷ [])
  one_each = (let each = linked.one_each in omega (arith, each, length-append older (slice_index newest (in_bucket buckets text) ∷ []), length-append names (text ∷ [])))

  old_at : (i : ℕ) → i < length names → slice_index olders i ≡ slice_index older i
  old_at i before = old_before older (slice_index newest (in_bucket buckets text)) i (let each = linked.one_each in omega (arith, before, each))

  last_at : (i : ℕ) → i ≡ length names → slice_index olders i ≡ slice_index newest (in_bucket buckets text)
  last_at i last = old_last older (slice_index newest (in_bucket buckets text)) i (last ∙ sym linked.one_each)

  is_next : (i k : ℕ) → i < length (names ++ text ∷ []) → k < i → bucket_at in_bucket buckets (names ++ text ∷ []) k ≡ bucket_at in_bucket buckets (names ++ text ∷ []) i → k < slice_index olders i
  is_next i k within less same = elim (below_more (length names) i (omega (arith, within, length-append names (text ∷ [])))) [
    | inl before ↦
        let early : k < length names = omega (arith, less, before) in
        let next = linked.older_is_next i k before less (sym (bucket_before k early) ∙ same ∙ bucket_before i before) in
        omega (arith, next, old_at i before)
    | inr last ↦
        let early : k < length names = omega (arith, less, last) in
        let bucket : bucket_at in_bucket buckets names k ≡ in_bucket buckets text = sym (bucket_before k early) ∙ same ∙ bucket_last i last in
        let new : k < slice_index newest (in_bucket buckets text) = subst (λ (b : ℕ). k < slice_index newest b) bucket (linked.newest_is_last k early) in
        omega (arith, new, last_at i last)
  ]

  is_older_in : (i k : ℕ) → i < length (names ++ text ∷ []) → slice_index olders i ≡ k + 1 → (k < i) × (bucket_at in_bucket buckets (names ++ text ∷ []) k ≡ bucket_at in_bucket buckets (names ++ text ∷ []) i)
  is_older_in i k within is = elim (below_more (length names) i (omega (arith, within, length-append names (text ∷ [])))) [
    | inl before ↦
        let old = linked.older_in i k before (sym (old_at i before) ∙ is) in
        let early : k < length names = (let less = old.0 in omega (arith, less, before)) in
        (old.0, bucket_before k early ∙ old.1 ∙ sym (bucket_before i before))
    | inr last ↦
        let old = linked.newest_in (in_bucket buckets text) k (sym (last_at i last) ∙ is) in
        (let early = old.0 in omega (arith, early, last), bucket_before k old.0 ∙ old.1 ∙ sym (bucket_last i last))
  ]

  pub linked_more : IsLinked in_bucket buckets after olders (names ++ text ∷ [])
  linked_more = record {
    some = linked.some;
    wide = length-set newest (in_bucket buckets text) (length names + 1) ∙ linked.wide;
    one_each = one_each;
    newest_is_last = is_last;
    newest_in = is_in;
    older_is_next = is_next;
    older_in = is_older_in;
  }

  -- the same of lists that are these
  pub linked_after : (newest' olders' : List ℕ) (names' : List (List ℕ)) → newest' ≡ after → olders' ≡ olders → names' ≡ names ++ text ∷ [] →
      IsLinked in_bucket (length newest') newest' olders' names'
  linked_after newest' olders' names' of_newest of_olders of_names =
      let first = subst (λ (x : List ℕ). IsLinked in_bucket buckets x olders (names ++ text ∷ [])) (sym of_newest) linked_more in
      let second = subst (λ (x : List ℕ). IsLinked in_bucket buckets newest' x (names ++ text ∷ [])) (sym of_olders) first in
      let third : IsLinked in_bucket buckets newest' olders' names' = subst (λ (x : List (List ℕ)). IsLinked in_bucket buckets newest' olders' x) (sym of_names) second in
      subst (λ (n : ℕ). IsLinked in_bucket n newest' olders' names') (sym third.wide) third
