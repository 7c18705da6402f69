-- Members are left out one after the other: what is known of those that stayed so far and of the rest.
use Rattle.std.proofs.Common.{◌≡◌, ◌<◌, ◌≤◌, ◌+◌, ◌-◌, ℕ, List, [], ◌∷◌, ◌++◌, ◌⊎◌, length, take, drop, get_or, sym, ap, ◌∙◌, subst, inl, inr, ⊎_elim, append_assoc, append-nil}
use Rattle.std.proofs.lemmas.List.{drop_more, drop_all, take_rest}
use Rattle.flow_model.specs.Lists.{◌∈◌, Each}
use Rattle.flow_conflict.specs.Lists.{IsAmong, IsRising, without}
use Rattle.flow_conflict.specs.Conflict.{IsConflict, IsLeast, IsPast}
use Rattle.flow_model.proofs.Lists.{mem_append_left, mem_append_right, mem-append}
use Rattle.flow_conflict.proofs.Members.{mem_less, only_one, without_among, without_middle}
use Rattle.flow_conflict.proofs.Rising.{each_less, rising_less, rising_once}
use Rattle.flow_conflict.proofs.Conflicts.{same_conflict}

-- those that stayed are needed beside the rest
pub record IsPruned (met within : List ℕ → Type 0) (count : ℕ) (kept undecided rest : List ℕ) : Type 0 where
  pub conflict : IsConflict met count (kept ++ rest)
  pub needed : (c : ℕ) → c ∈ kept → (c ∈ undecided) ⊎ met (without (kept ++ rest) c)
  pub undecided_members : IsAmong undecided kept
  pub undecided_past : (c : ℕ) → c ∈ undecided → (asked : List ℕ) × IsPast within (kept ++ rest) c asked

module _ (met within : List ℕ → Type 0) (count : ℕ) (antitone : (fewer more : List ℕ) → IsAmong fewer more → met more → met fewer) where
  pub pruned_none : (members : List ℕ) → IsConflict met count members → IsPruned met within count [] [] members
  pruned_none members h = record { conflict = h; needed = λ c m. absurd m; undecided_members = λ c m. m; undecided_past = λ c m. absurd m }

  pub conflict_less : (kept : List ℕ) (x : ℕ) (rest : List ℕ) → IsConflict met count (kept ++ x ∷ rest) → ¬ (met (kept ++ rest)) → IsConflict met count (kept ++ rest)
  conflict_less kept x rest h unmet =
      record { rising = rising_less kept x rest h.rising; below = each_less (λ m. m < count) kept x rest h.below; unmet = unmet }

  -- the next one goes
  pub pruned_goes : (kept undecided : List ℕ) (x : ℕ) (rest : List ℕ) → IsPruned met within count kept undecided (x ∷ rest) → ¬ (met (kept ++ rest)) →
      IsPruned met within count kept undecided rest
  pruned_goes kept undecided x rest h unmet =
      let fewer : (c : ℕ) → IsAmong (without (kept ++ rest) c) (without (kept ++ x ∷ rest) c) =
      λ c. without_among (kept ++ rest) (kept ++ x ∷ rest) c (λ y. mem_less y x kept rest) in
      record {
        conflict = conflict_less kept x rest h.conflict unmet;
        needed = λ c m. ⊎_elim inl (λ met_before. inr (antitone (without (kept ++ rest) c) (without (kept ++ x ∷ rest) c) (fewer c) met_before)) (h.needed c m);
        undecided_members = h.undecided_members;
        undecided_past = λ c m. let (asked, past) = h.undecided_past c m in
            (asked, record { others = λ y among. past.others y (fewer c y among); left_out = past.left_out; past = past.past });
      }

  -- the next one stays, since some trace meets the others
  pub pruned_stays : (kept undecided : List ℕ) (x : ℕ) (rest : List ℕ) → IsPruned met within count kept undecided (x ∷ rest) → met (kept ++ rest) →
      IsPruned met within count (kept ++ x ∷ []) undecided rest
  pruned_stays kept undecided x rest h others =
      let same : kept ++ x ∷ rest ≡ (kept ++ x ∷ []) ++ rest = sym (append_assoc kept (x ∷ []) rest) in
      record {
        conflict = same_conflict met count (kept ++ x ∷ rest) ((kept ++ x ∷ []) ++ rest) same h.conflict;
        needed = λ c m.
            let P : List ℕ → Type 0 = λ all. (c ∈ undecided) ⊎ met (without all c) in
            subst P same
            (⊎_elim (h.needed c)
            (λ last. let e : c ≡ x = only_one c x last in
            let Q : ℕ → Type 0 = λ d. met (without (kept ++ x ∷ rest) d) in
            inr (subst Q (sym e) (antitone (without (kept ++ x ∷ rest) x) (kept ++ rest) (without_middle kept rest x) others)))
            (mem-append c kept (x ∷ []) m));
        undecided_members = λ c m. mem_append_left c kept (x ∷ []) (h.undecided_members c m);
        undecided_past = λ c m.
            let P : List ℕ → Type 0 = λ all. (asked : List ℕ) × IsPast within all c asked in
            subst P same (h.undecided_past c m);
      }

  -- the next one stays, since to judge the others would pass the limits
  pub pruned_undecided : (kept undecided : List ℕ) (x : ℕ) (rest : List ℕ) → IsPruned met within count kept undecided (x ∷ rest) → ¬ (within (kept ++ rest)) →
      IsPruned met within count (kept ++ x ∷ []) (undecided ++ x ∷ []) rest
  pruned_undecided kept undecided x rest h past =
      let same : kept ++ x ∷ rest ≡ (kept ++ x ∷ []) ++ rest = sym (append_assoc kept (x ∷ []) rest) in
      record {
        conflict = same_conflict met count (kept ++ x ∷ rest) ((kept ++ x ∷ []) ++ rest) same h.conflict;
        needed = λ c m.
            let P : List ℕ → Type 0 = λ all. (c ∈ (undecided ++ x ∷ [])) ⊎ met (without all c) in
            subst P same
            (⊎_elim (λ early. ⊎_elim (λ u. inl (mem_append_left c undecided (x ∷ []) u)) inr (h.needed c early))
            (λ last. inl (mem_append_right c undecided (x ∷ []) last))
            (mem-append c kept (x ∷ []) m));
        undecided_members = λ c m.
            ⊎_elim (λ u. mem_append_left c kept (x ∷ []) (h.undecided_members c u)) (λ last. mem_append_right c kept (x ∷ []) last)
            (mem-append c undecided (x ∷ []) m);
        undecided_past = λ c m.
            let P : List ℕ → Type 0 = λ all. (asked : List ℕ) × IsPast within all c asked in
            subst P same
            (⊎_elim (h.undecided_past c)
            (λ last. let Q : ℕ → Type 0 = λ d. (asked : List ℕ) × IsPast within (kept ++ x ∷ rest) d asked in
            subst Q (sym (only_one c x last))
            (kept ++ rest, record { others = without_middle kept rest x; left_out = rising_once kept x rest h.conflict.rising; past = past }))
            (mem-append c undecided (x ∷ []) m));
      }

  -- nothing is left
  pub pruned_all : (kept undecided : List ℕ) → IsPruned met within count kept undecided [] → IsConflict met count kept × IsLeast met within kept undecided
  pruned_all kept undecided h =
      let same : kept ++ [] ≡ kept = append-nil kept in (
        same_conflict met count (kept ++ []) kept same h.conflict,
        let P : List ℕ → Type 0 = λ all. (c : ℕ) → c ∈ kept → (c ∈ undecided) ⊎ met (without all c) in
            let Q : List ℕ → Type 0 = λ all. (c : ℕ) → c ∈ undecided → (asked : List ℕ) × IsPast within all c asked in
            record { needed = subst P same h.needed; undecided_members = h.undecided_members; undecided_past = subst Q same h.undecided_past },
      )

-- Over a list, from place to place

module _ (met within : List ℕ → Type 0) (count : ℕ) (antitone : (fewer more : List ℕ) → IsAmong fewer more → met more → met fewer) where
  at_place : (kept undecided all : List ℕ) (i : ℕ) → i < length all → IsPruned met within count kept undecided (drop i all) →
      IsPruned met within count kept undecided (get_or all i 0 ∷ drop (i + 1) all)
  at_place kept undecided all i below h =
      let P : List ℕ → Type 0 = λ rest. IsPruned met within count kept undecided rest in subst P (drop_more all i 0 below) h

  pub others_rise : (kept undecided all others : List ℕ) (i : ℕ) → i < length all → others ≡ kept ++ drop (i + 1) all → IsPruned met within count kept undecided (drop i all) →
      IsRising others
  others_rise kept undecided all others i below e h =
      subst IsRising (sym e) (rising_less kept (get_or all i 0) (drop (i + 1) all) (at_place kept undecided all i below h).conflict.rising)

  pub others_below : (kept undecided all others : List ℕ) (i : ℕ) → i < length all → others ≡ kept ++ drop (i + 1) all → IsPruned met within count kept undecided (drop i all) →
      Each (λ m. m < count) others
  others_below kept undecided all others i below e h =
      let P : List ℕ → Type 0 = Each (λ m. m < count) in
      subst P (sym e) (each_less (λ m. m < count) kept (get_or all i 0) (drop (i + 1) all) (at_place kept undecided all i below h).conflict.below)

  pub goes_at : (kept undecided all others : List ℕ) (i : ℕ) → i < length all → others ≡ kept ++ drop (i + 1) all → IsPruned met within count kept undecided (drop i all) →
      ¬ (met others) → IsPruned met within count kept undecided (drop (i + 1) all)
  goes_at kept undecided all others i below e h unmet =
      pruned_goes met within count antitone kept undecided (get_or all i 0) (drop (i + 1) all) (at_place kept undecided all i below h)
      (λ m. unmet (subst met (sym e) m))

  pub stays_at : (kept undecided all others : List ℕ) (i x : ℕ) → i < length all → x ≡ get_or all i 0 → others ≡ kept ++ drop (i + 1) all →
      IsPruned met within count kept undecided (drop i all) → met others → IsPruned met within count (kept ++ x ∷ []) undecided (drop (i + 1) all)
  stays_at kept undecided all others i x below read e h m =
      let P : ℕ → Type 0 = λ y. IsPruned met within count (kept ++ y ∷ []) undecided (drop (i + 1) all) in
      subst P (sym read) (pruned_stays met within count antitone kept undecided (get_or all i 0) (drop (i + 1) all) (at_place kept undecided all i below h) (subst met e m))

  pub undecided_at : (kept undecided all others : List ℕ) (i x : ℕ) → i < length all → x ≡ get_or all i 0 → others ≡ kept ++ drop (i + 1) all →
      IsPruned met within count kept undecided (drop i all) → ¬ (within others) → IsPruned met within count (kept ++ x ∷ []) (undecided ++ x ∷ []) (drop (i + 1) all)
  undecided_at kept undecided all others i x below read e h past =
      let P : ℕ → Type 0 = λ y. IsPruned met within count (kept ++ y ∷ []) (undecided ++ y ∷ []) (drop (i + 1) all) in
      subst P (sym read) (pruned_undecided met within count antitone kept undecided (get_or all i 0) (drop (i + 1) all) (at_place kept undecided all i below h)
      (λ w. past (subst within (sym e) w)))

  pub same_pruned : (kept' kept undecided' undecided rest : List ℕ) → kept' ≡ kept → undecided' ≡ undecided → IsPruned met within count kept undecided rest →
      IsPruned met within count kept' undecided' rest
  same_pruned kept' kept undecided' undecided rest e f h =
      let P : List ℕ → Type 0 = λ l. IsPruned met within count l undecided' rest in
      let Q : List ℕ → Type 0 = λ l. IsPruned met within count kept l rest in
      subst P (sym e) (subst Q (sym f) h)

  pub all_pruned : (kept undecided all : List ℕ) (i : ℕ) → length all ≤ i → IsPruned met within count kept undecided (drop i all) →
      IsConflict met count kept × IsLeast met within kept undecided
  all_pruned kept undecided all i past h =
      let P : List ℕ → Type 0 = λ rest. IsPruned met within count kept undecided rest in
      pruned_all met within count antitone kept undecided (subst P (drop_all i all past) h)

-- what is asked about, as the code puts it together
pub others_are : (others front kept all : List ℕ) (i : ℕ) → others ≡ front ++ take (length all - i) (drop i all) → front ≡ kept → others ≡ kept ++ drop i all
others_are others front kept all i e f = e ∙ ap (λ l. l ++ take (length all - i) (drop i all)) f ∙ ap (λ l. kept ++ l) (take_rest all i)
