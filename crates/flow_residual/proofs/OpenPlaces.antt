-- Whether a place of the journal is open is settled when its leaf is put there.
use Rattle.std.proofs.Common.{◌≡◌, ◌<◌, ◌≤◌, ℕ, ◌+◌, ◌-◌, nat_le, nat_lt, Bool, true, false, if◌then◌else◌, ◌↔◌, IsTrue, List, [], ◌∷◌, ◌++◌, length, take, drop, slice_index, Option, slice_get, MatchOption, ◌⊎◌, inl, inr, ⊎_elim, refl, sym, ap, ◌∙◌, subst, subst₂, true≢false, arith}
use Rattle.std.specs.List.{filter}
use Rattle.std.specs.List.Sorted.{IsStrictlyIncreasing}
use Rattle.std.proofs.lemmas.Bool.{cases_lt, le-leb, ltb-true, lt-ltb}
use Rattle.std.proofs.lemmas.List.{take-append-le, take-append-drop, length-append, length-take-le, get_or_append_left, get_or_push}
use Rattle.std.proofs.lemmas.List.Kept.{IsStrictlyIncreasing-filter}
use Rattle.std.proofs.lemmas.Option.{slice_get-get_or}
use Rattle.std.proofs.Math.Seq.{take-append_seam, get_or-append_seam}
use Rattle.flow_model.specs.Lists.{◌∈◌, Each, Begins}
use Rattle.flow_model.specs.Schema.{Schema, IsGood}
use Rattle.flow_model.specs.Run.{RunState, IsOpen, IsOpenIndex}
use Rattle.flow_model.proofs.Lists.{each_to, each_member, each_from_members, each-append, mem-append, mem_append_left, mem_append_right, only_one, at_most}
use Rattle.flow_plan.proofs.PlaceLemmas.{distinct_of_rising, place_of_member, read_member, rising_never_falls}
use Rattle.flow_residual.specs.Remaining.{Remaining, IsOf, IsAvoidable}
use Rattle.flow_residual.specs.Invariant.{AreOpenPlaces}
use Rattle.flow_residual.proofs.SetLemmas.{mem-filter, of_filter}

-- ---- of the definitions alone

-- another execution is free at a place with that front, these bans and that leaf
abbrev IsFreeAt : Schema → List ℕ → List (ℕ × ℕ) → ℕ → ℕ → Type 0
IsFreeAt w front bans i leaf = (t : List ℕ) × IsGood w t × Begins t front × Each (λ ban. ban.0 ≤ i → ¬ (ban.1 ∈ t)) bans × ¬ (leaf ∈ t)

abbrev pushed : RunState → List ℕ → RunState
pushed s more = record s { journal = s.journal ++ more }

-- more leaves change nothing before them
open_before : (w : Schema) (s : RunState) (more : List ℕ) (i : ℕ) → i < length s.journal → IsOpen w (pushed s more) i ↔ IsOpen w s i
open_before w s more i within =
    let front : take i (s.journal ++ more) ≡ take i s.journal = take-append-le i s.journal more (omega (arith, within)) in
    let leaf : slice_index (s.journal ++ more) i ≡ slice_index s.journal i = get_or_append_left s.journal more 0 i within in (
      λ opening. (within, subst₂ (λ f l. IsFreeAt w f s.bans i l) front leaf opening.1),
      λ opening. (omega (arith, within, length-append s.journal more), subst₂ (λ f l. IsFreeAt w f s.bans i l) (sym front) (sym leaf) opening.1),
    )

-- the place of a leaf is open exactly where the leaf could be avoided before it was put there
open_last : (w : Schema) (s : RunState) (n : ℕ) → Each (λ ban. ban.0 ≤ length s.journal) s.bans →
    IsOpen w (pushed s (n ∷ [])) (length s.journal) ↔ IsAvoidable w s n
open_last w s n early =
    let front : take (length s.journal) (s.journal ++ n ∷ []) ≡ s.journal = take-append_seam s.journal (n ∷ []) in
    let leaf : slice_index (s.journal ++ n ∷ []) (length s.journal) ≡ n = get_or-append_seam s.journal n [] 0 in (
      λ opening.
          let (t, good, begins, none, lacks) = subst₂ (λ f l. IsFreeAt w f s.bans (length s.journal) l) front leaf opening.1 in
          (t, (good, begins, each_from_members (λ ban. ¬ (ban.1 ∈ t)) s.bans (λ ban m. each_member (λ ban. ban.0 ≤ length s.journal → ¬ (ban.1 ∈ t)) s.bans none ban m (each_member (λ ban. ban.0 ≤ length s.journal) s.bans early ban m))), lacks),
      λ (t, (good, begins, none), lacks). (
        omega (arith, length-append s.journal (n ∷ [])),
        subst₂ (λ f l. IsFreeAt w f s.bans (length s.journal) l) (sym front) (sym leaf) (t, good, begins, each_to (λ ban. ¬ (ban.1 ∈ t)) (λ ban. ban.0 ≤ length s.journal → ¬ (ban.1 ∈ t)) s.bans (λ ban not early. not) none, lacks),
      ),
    )

-- where the front of the journal is kept, so are its open places
open_cut : (w : Schema) (s : RunState) (index i : ℕ) → i < index → index ≤ length s.journal → IsOpen w (record s { journal = take index s.journal }) i ↔ IsOpen w s i
open_cut w s index i before within =
    let cut : RunState = record s { journal = take index s.journal } in
    let same = open_before w cut (drop index s.journal) i (omega (arith, before, length-take-le index s.journal within)) in
    subst (λ (j : List ℕ). IsOpen w cut i ↔ IsOpen w (record s { journal = j }) i) (take-append-drop index s.journal) (same.1, same.0)

-- both have the same bans up to that place
abbrev AgreeUpTo : ℕ → List (ℕ × ℕ) → List (ℕ × ℕ) → Type 0
AgreeUpTo i bans others = (ban : ℕ × ℕ) → ban.0 ≤ i → (ban ∈ bans) ↔ (ban ∈ others)

-- bans at later places change nothing
open_with_bans : (w : Schema) (s : RunState) (bans : List (ℕ × ℕ)) (i : ℕ) → AgreeUpTo i bans s.bans → IsOpen w (record s { bans = bans }) i ↔ IsOpen w s i
open_with_bans w s bans i agree =
    let lacks = λ (t : List ℕ) (ban : ℕ × ℕ). ban.0 ≤ i → ¬ (ban.1 ∈ t) in (
      λ (within, (t, good, begins, none, not)).
          (within, (t, good, begins, each_from_members (lacks t) s.bans (λ ban m early. each_member (lacks t) bans none ban ((agree ban early).1 m) early), not)),
      λ (within, (t, good, begins, none, not)).
          (within, (t, good, begins, each_from_members (lacks t) bans (λ ban m early. each_member (lacks t) s.bans none ban ((agree ban early).0 m) early), not)),
    )

-- a ban at a later place
later : (i : ℕ) (bans others : List (ℕ × ℕ)) (index leaf : ℕ) → i < index → AgreeUpTo i bans others → AgreeUpTo i (bans ++ (index, leaf) ∷ []) others
later i bans others index leaf late agree ban early = (
  λ m. ⊎_elim (agree ban early).0 (λ last. let is : ban.0 ≡ index = ap (λ (b : ℕ × ℕ). b.0) (only_one ban (index, leaf) last) in absurd (omega (arith, is, late, early)))
      (mem-append ban bans ((index, leaf) ∷ []) m),
  λ m. mem_append_left ban bans ((index, leaf) ∷ []) ((agree ban early).1 m),
)

-- later bans are lifted
lifted : (i : ℕ) (bans : List (ℕ × ℕ)) (index : ℕ) → i ≤ index → AgreeUpTo i (filter (λ ban. nat_le ban.0 index) bans) bans
lifted i bans index below ban early = (
  λ m. (of_filter (λ (b : ℕ × ℕ). nat_le b.0 index) bans ban m).0,
  λ m. mem-filter (λ (b : ℕ × ℕ). nat_le b.0 index) bans ban (le-leb ban.0 index (omega (arith, early, below))) m,
)

-- the state's own journal and bans, by other names
renamed : (w : Schema) (s : RunState) (journal : List ℕ) (bans : List (ℕ × ℕ)) (i : ℕ) → s.journal ≡ journal → s.bans ≡ bans →
    IsOpen w s i ↔ IsOpen w (record s { journal = journal; bans = bans }) i
renamed w s journal bans i same_journal same_bans =
    subst₂ (λ (j : List ℕ) (b : List (ℕ × ℕ)). IsOpen w s i ↔ IsOpen w (record s { journal = j; bans = b }) i) same_journal same_bans (λ o. o, λ o. o)

-- ---- of what remains

rising_more : (xs : List ℕ) (n : ℕ) → IsStrictlyIncreasing xs → Each (λ x. x < n) xs → IsStrictlyIncreasing (xs ++ n ∷ [])
rising_more xs n rising below k within =
    let long = length-append xs (n ∷ []) in
    let here : slice_index (xs ++ n ∷ []) k ≡ slice_index xs k = get_or_append_left xs (n ∷ []) 0 k (omega (arith, within, long)) in
    ⊎_elim
    (λ inside. rw (here, get_or_append_left xs (n ∷ []) 0 (k + 1) inside) (rising k inside))
    (λ past. rw (here, get_or_push xs n 0 (k + 1) (omega (arith, within, long, past))) (each_member (λ x. x < n) xs below (slice_index xs k) (read_member xs k (omega (arith, within, long)))))
    (cases_lt (k + 1) (length xs))

module _ (r : Remaining) (opens : List ℕ) (k : AreOpenPlaces r opens) where
  -- what remained of the workflow before the journal and the bans changed
  before : (w : Schema) (s : RunState) (journal : List ℕ) (bans : List (ℕ × ℕ)) → IsOf w s (record r { journal = journal; bans = bans }) →
      IsOf w (record s { journal = r.journal; bans = r.bans }) r
  before w s journal bans of = record { well_formed = of.well_formed; options_are = of.options_are; journal_is = refl; bans_are = refl }

  here : (i : ℕ) → i ∈ opens → i < length r.journal
  here i m = each_member (λ i. i < length r.journal) opens k.within i m

  -- there is a place for each of them and one more
  pub few_open : length opens ≤ length r.journal
  few_open = at_most (length r.journal) opens (distinct_of_rising opens k.rising) here

  module _ (leaf : ℕ) (early : Each (λ ban. ban.0 ≤ length r.journal) r.bans) (is_open : Bool) (told : (w : Schema) (s : RunState) → IsOf w s r → IsTrue is_open ↔ IsAvoidable w s leaf) where
    abbrev more : List ℕ
    more = r.journal ++ leaf ∷ []

    with_leaf : (w : Schema) (s : RunState) → IsOf w s (record r { journal = more }) → (i : ℕ) → ((i ∈ opens) ⊎ ((i ≡ length r.journal) × IsTrue is_open)) ↔ IsOpen w s i
    with_leaf w s of i =
        let was : RunState = record s { journal = r.journal; bans = r.bans } in
        let of_was : IsOf w was r = before w s more r.bans of in
        let named = renamed w s more r.bans i of.journal_is of.bans_are in
        let last = open_last w was leaf early in (
          ⊎_elim
              (λ m. named.1 ((open_before w was (leaf ∷ []) i (here i m)).1 ((k.exact w was of_was i).0 m)))
              (λ (same, told_so). named.1 (subst (λ n. IsOpen w (pushed was (leaf ∷ [])) n) (sym same) (last.1 ((told w was of_was).0 told_so)))),
          λ opening. let now = named.0 opening in ⊎_elim
              (λ inside. inl ((k.exact w was of_was i).1 ((open_before w was (leaf ∷ []) i inside).0 now)))
              (λ past. let same : i ≡ length r.journal = omega (arith, now.0, past, length-append r.journal (leaf ∷ [])) in
              inr (same, (told w was of_was).1 (last.0 (subst (λ n. IsOpen w (pushed was (leaf ∷ [])) n) same now))))
              (cases_lt i (length r.journal)),
        )

    within_more : Each (λ i. i < length more) opens
    within_more = each_to (λ i. i < length r.journal) (λ i. i < length more) opens (λ i below. omega (arith, below, length-append r.journal (leaf ∷ []))) k.within

  pub opens_pushed : (leaf : ℕ) → Each (λ ban. ban.0 ≤ length r.journal) r.bans → (is_open : Bool) → ((w : Schema) (s : RunState) → IsOf w s r → IsTrue is_open ↔ IsAvoidable w s leaf) →
      AreOpenPlaces (record r { journal = r.journal ++ leaf ∷ [] }) (if is_open then opens ++ length r.journal ∷ [] else opens)
  opens_pushed leaf early true told = record {
    within = each-append (λ i. i < length (r.journal ++ leaf ∷ [])) opens (length r.journal ∷ []) (within_more leaf early true told) (omega (arith, length-append r.journal (leaf ∷ [])), tt);
    rising = rising_more opens (length r.journal) k.rising k.within;
    exact = λ w s of i. let same = with_leaf leaf early true told w s of i in (
      λ m. same.0 (⊎_elim inl (λ last. inr (only_one i (length r.journal) last, refl)) (mem-append i opens (length r.journal ∷ []) m)),
      λ opening. ⊎_elim (mem_append_left i opens (length r.journal ∷ [])) (λ (e, told_so). mem_append_right i opens (length r.journal ∷ []) (inl e)) (same.1 opening),
    );
  }
  opens_pushed leaf early false told = record {
    within = within_more leaf early false told;
    rising = k.rising;
    exact = λ w s of i. let same = with_leaf leaf early false told w s of i in (
      λ m. same.0 (inl m),
      λ opening. ⊎_elim (λ m. m) (λ (e, told_so). absurd (true≢false (sym told_so))) (same.1 opening),
    );
  }

  pub opens_banned : (index leaf : ℕ) → index ≡ length r.journal → AreOpenPlaces (record r { bans = r.bans ++ (index, leaf) ∷ [] }) opens
  opens_banned index leaf is = record {
    within = k.within;
    rising = k.rising;
    exact = λ w s of i.
        let bans = r.bans ++ (index, leaf) ∷ [] in
        let was : RunState = record s { journal = r.journal; bans = r.bans } in
        let exact = k.exact w was (before w s r.journal bans of) i in
        let named = renamed w s r.journal bans i of.journal_is of.bans_are in
        let same = λ (inside : i < length r.journal).
        open_with_bans w was bans i (later i r.bans r.bans index leaf (omega (arith, inside, is)) (λ ban early. (λ m. m, λ m. m))) in (
          λ m. named.1 ((same (here i m)).1 (exact.0 m)),
          λ opening. let now = named.0 opening in exact.1 ((same now.0).0 now),
        );
  }

  pub opens_rewound : (index leaf : ℕ) → index < length r.journal →
      AreOpenPlaces (record r { journal = take index r.journal; bans = filter (λ ban. nat_le ban.0 index) r.bans ++ (index, leaf) ∷ [] }) (filter (λ place. nat_lt place index) opens)
  opens_rewound index leaf inside = record {
    within = each_from_members (λ i. i < length (take index r.journal)) (filter (λ place. nat_lt place index) opens)
        (λ i m. omega (arith, long, ltb-true i index (of_filter (λ place. nat_lt place index) opens i m).1));
    rising = IsStrictlyIncreasing-filter (λ place. nat_lt place index) opens k.rising;
    exact = λ w s of i.
        let journal = take index r.journal in
        let bans = filter (λ ban. nat_le ban.0 index) r.bans ++ (index, leaf) ∷ [] in
        let was : RunState = record s { journal = r.journal; bans = r.bans } in
        let cut : RunState = record s { journal = journal; bans = r.bans } in
        let exact = k.exact w was (before w s journal bans of) i in
        let named = renamed w s journal bans i of.journal_is of.bans_are in
        let kept = λ (below : i < index). open_cut w was index i below (omega (arith, inside)) in
        let same = λ (below : i < index). open_with_bans w cut bans i (later i (filter (λ ban. nat_le ban.0 index) r.bans) r.bans index leaf below (lifted i r.bans index (omega (arith, below)))) in (
          λ m. let (there, low) = of_filter (λ place. nat_lt place index) opens i m in
              let below = ltb-true i index low in named.1 ((same below).1 ((kept below).1 (exact.0 there))),
          λ opening. let now = named.0 opening in
              let below : i < index = omega (arith, now.0, long) in
              mem-filter (λ place. nat_lt place index) opens i (lt-ltb i index below) (exact.1 ((kept below).0 ((same below).0 now))),
        );
  }
    where
      long : length (take index r.journal) ≡ index
      long = length-take-le index r.journal (omega (arith, inside))

-- the last of them is the greatest
pub last_open : (r : Remaining) (opens : List ℕ) → AreOpenPlaces r opens → (w : Schema) (s : RunState) → IsOf w s r → (result : Option ℕ) → result ≡ slice_get opens (length opens - 1) →
    MatchOption result ((i : ℕ) → ¬ (IsOpen w s i)) (λ i. IsOpenIndex w s i)
last_open r [] k w s of result is = subst (λ o. MatchOption o ((i : ℕ) → ¬ (IsOpen w s i)) (λ i. IsOpenIndex w s i)) (sym is) (λ i opening. (k.exact w s of i).1 opening)
last_open r (x ∷ xs) k w s of result is =
    let opens = x ∷ xs in
    let last = length opens - 1 in
    let within : last < length opens = omega arith in
    subst (λ o. MatchOption o ((i : ℕ) → ¬ (IsOpen w s i)) (λ i. IsOpenIndex w s i)) (sym (is ∙ slice_get-get_or opens last 0 within)) (
      (k.exact w s of (slice_index opens last)).0 (read_member opens last within),
      λ i opening. let (place, inside, there) = place_of_member opens i ((k.exact w s of i).1 opening) in
          subst (λ n. n ≤ slice_index opens last) there (rising_never_falls opens k.rising place last (omega (arith, inside)) within),
    )
