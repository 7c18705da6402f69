-- Conflicts of lists that are put together in another way, or of which a part is enough.
use Rattle.std.proofs.Common.{◌≡◌, ◌<◌, ◌≤◌, arith, ℕ, List, [], ◌++◌, sym, ap, ◌∙◌, subst, append_assoc, append-nil}
use Rattle.std.specs.List.{range_with_len}
use Rattle.flow_model.specs.Lists.{Each}
use Rattle.flow_conflict.specs.Lists.{IsRising}
use Rattle.flow_conflict.specs.Conflict.{IsConflict}
use Rattle.flow_conflict.proofs.Rising.{each_outside, range_below, range_rises, rising_outside}

module _ (met : List ℕ → Type 0) (count : ℕ) where
  pub same_conflict : (xs ys : List ℕ) → xs ≡ ys → IsConflict met count xs → IsConflict met count ys
  same_conflict xs ys e h = let P : List ℕ → Type 0 = λ zs. IsConflict met count zs in subst P e h

  -- where the others alone are not met, nothing of the middle is needed
  pub conflict_outside : (a b c : List ℕ) → IsConflict met count ((a ++ b) ++ c) → ¬ (met (a ++ c)) → IsConflict met count ((a ++ []) ++ c)
  conflict_outside a b c h unmet =
      same_conflict (a ++ c) ((a ++ []) ++ c) (ap (λ l. l ++ c) (sym (append-nil a)))
      (record { rising = rising_outside a b c h.rising; below = each_outside (λ m. m < count) a b c h.below; unmet = unmet })

  -- the left part of the middle goes to the front
  pub conflict_right : (a l r c : List ℕ) → IsConflict met count ((a ++ (l ++ r)) ++ c) → IsConflict met count (((a ++ l) ++ r) ++ c)
  conflict_right a l r c = same_conflict ((a ++ (l ++ r)) ++ c) (((a ++ l) ++ r) ++ c) (simp append_assoc)

  -- the right part of the middle goes behind
  pub conflict_left : (a l r c : List ℕ) → IsConflict met count (((a ++ l) ++ r) ++ c) → IsConflict met count ((a ++ l) ++ (r ++ c))
  conflict_left a l r c = same_conflict (((a ++ l) ++ r) ++ c) ((a ++ l) ++ (r ++ c)) (simp append_assoc)

  -- and comes back
  pub conflict_both : (a l r c : List ℕ) → IsConflict met count ((a ++ l) ++ (r ++ c)) → IsConflict met count ((a ++ (l ++ r)) ++ c)
  conflict_both a l r c = same_conflict ((a ++ l) ++ (r ++ c)) ((a ++ (l ++ r)) ++ c) (simp append_assoc)

  -- what is asked about
  pub asked_rises : (a b c asked : List ℕ) → asked ≡ a ++ c → IsConflict met count ((a ++ b) ++ c) → IsRising asked
  asked_rises a b c asked e h = subst IsRising (sym e) (rising_outside a b c h.rising)

  pub asked_below : (a b c asked : List ℕ) → asked ≡ a ++ c → IsConflict met count ((a ++ b) ++ c) → Each (λ m. m < count) asked
  asked_below a b c asked e h =
      let P : List ℕ → Type 0 = Each (λ m. m < count) in subst P (sym e) (each_outside (λ m. m < count) a b c h.below)

  -- what both halves give is enough
  pub conflict_found : (before early late behind tail found first second : List ℕ) → found ≡ first ++ second → first ≡ early → second ≡ late → tail ≡ late ++ behind →
      IsConflict met count ((before ++ early) ++ tail) → IsConflict met count ((before ++ found) ++ behind)
  conflict_found before early late behind tail found first second e f g k h =
      let all : early ++ late ≡ found = sym (e ∙ ap (λ l. l ++ second) f ∙ ap (λ l. early ++ l) g) in
      same_conflict ((before ++ (early ++ late)) ++ behind) ((before ++ found) ++ behind) (ap (λ l. (before ++ l) ++ behind) all)
      (conflict_both before early late behind (same_conflict ((before ++ early) ++ tail) ((before ++ early) ++ (late ++ behind)) (ap (λ l. (before ++ early) ++ l) k) h))

  -- all constraints, where they are not met
  pub whole_conflict : (n : ℕ) (all : List ℕ) → all ≡ range_with_len 0 n → n ≤ count → ¬ (met all) → IsConflict met count (all ++ [])
  whole_conflict n all e few unmet =
      let P : List ℕ → Type 0 = Each (λ m. m < count) in
      same_conflict all (all ++ []) (sym (append-nil all))
      (record { rising = subst IsRising (sym e) (range_rises 0 n); below = subst P (sym e) (range_below 0 n count (omega arith)); unmet = unmet })
