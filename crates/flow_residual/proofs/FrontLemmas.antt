-- How far options follow a journal.
use Rattle.std.proofs.Common.{◌≡◌, ℕ, zero, suc, ◌+◌, ◌<◌, ◌≤◌, ◌↔◌, List, [], ◌∷◌, ◌++◌, length, take, drop, min, refl, sym, ap, ◌∙◌, subst, subst₂, ⊎_elim, arith, length-append}
use Rattle.std.proofs.lemmas.Bool.{cases_lt}
use Rattle.std.proofs.lemmas.List.{take_all, take-append-drop, take-append-le, length-take-le}
use Rattle.flow_model.specs.Lists.{◌∈◌}
use Rattle.flow_model.specs.Resolution.{ChoiceOption}
use Rattle.flow_model.specs.FoldedReady.{IsFoldedReady, IsFoldedRun}
use Rattle.flow_residual.proofs.FoldedSteps.{run_front, run_grow, ready_at}
use Rattle.flow_residual.specs.Track.{IsFollowedTo, IsFront}

-- a shorter front of a front
take_twice : (xs : List ℕ) (k m : ℕ) → m ≤ k → take m (take k xs) ≡ take m xs
take_twice xs k zero h = refl
take_twice [] zero (suc m) h = refl
take_twice [] (suc k) (suc m) h = refl
take_twice (x ∷ xs) zero (suc m) h = absurd (omega arith)
take_twice (x ∷ xs) (suc k) (suc m) h = ap (λ (t : List ℕ). x ∷ t) (take_twice xs k m (omega arith))

-- ---- the front of an option

-- where a front is a ready run, so is each shorter one
pub followed_before : (o : ChoiceOption) (journal : List ℕ) (k m : ℕ) → k ≤ length journal → m ≤ k → IsFollowedTo o journal k → IsFollowedTo o journal m
followed_before o journal k m within below followed =
    let l : length (take k journal) ≡ k = length-take-le k journal within in
    let cut : take k journal ≡ take m journal ++ drop m (take k journal) =
    sym (take-append-drop m (take k journal)) ∙ ap (λ (t : List ℕ). t ++ drop m (take k journal)) (take_twice journal k m below) in
    run_front o.resolution o.order (λ n. ⊥) (take m journal) (drop m (take k journal)) (subst (IsFoldedRun o.resolution o.order) cut followed)

-- of the whole journal
pub ready_whole : (o : ChoiceOption) (journal : List ℕ) (f : ℕ) → IsFront journal o f → (f ≡ length journal) ↔ IsFoldedRun o.resolution o.order journal
ready_whole o journal f is = (
  λ e. subst (IsFoldedRun o.resolution o.order) (take_all f journal (let b : length journal ≤ f = omega arith in b)) is.followed,
  λ ready. let b : length journal ≤ f = is.longest (length journal) (omega arith) (subst (IsFoldedRun o.resolution o.order) (sym (take_all (length journal) journal (let b : length journal ≤ length journal = omega arith in b))) ready) in
      let w = is.within in omega arith,
)

-- ---- one leaf more

module _ (o : ChoiceOption) (journal : List ℕ) (leaf : ℕ) where
  followed_still : (m : ℕ) → m ≤ length journal → IsFollowedTo o (journal ++ leaf ∷ []) m → IsFollowedTo o journal m
  followed_still m h = subst (IsFoldedRun o.resolution o.order) (take-append-le m journal (leaf ∷ []) h)

  followed_then : (m : ℕ) → m ≤ length journal → IsFollowedTo o journal m → IsFollowedTo o (journal ++ leaf ∷ []) m
  followed_then m h = subst (IsFoldedRun o.resolution o.order) (sym (take-append-le m journal (leaf ∷ []) h))

  longer : length (journal ++ leaf ∷ []) ≡ length journal + 1
  longer = length-append journal (leaf ∷ [])

  -- the leaf may come next
  pub front_longer : (f : ℕ) → IsFront journal o f → f ≡ length journal → IsFoldedReady o.resolution o.order (λ n. n ∈ journal) leaf →
      IsFront (journal ++ leaf ∷ []) o (f + 1)
  front_longer f is e ready = record {
    within = let l = longer in omega arith;
    followed = let l = longer in let b : length (journal ++ leaf ∷ []) ≤ f + 1 = omega arith in
        subst (IsFoldedRun o.resolution o.order) (sym (take_all (f + 1) (journal ++ leaf ∷ []) b))
        (run_grow o.resolution o.order journal leaf ((ready_whole o journal f is).0 e) ready);
    longest = λ m h b. let l = longer in omega arith;
  }

  -- it may not
  pub front_same : (f : ℕ) → IsFront journal o f → ¬ ((f ≡ length journal) × IsFoldedReady o.resolution o.order (λ n. n ∈ journal) leaf) →
      IsFront (journal ++ leaf ∷ []) o f
  front_same f is stays = record {
    within = let l = longer in let w = is.within in omega arith;
    followed = followed_then f is.within is.followed;
    longest = λ m h b. ⊎_elim (λ past. absurd (stays (grown m h b past))) (λ here. is.longest m here (followed_still m here b)) (cases_lt (length journal) m);
  }
    where
      grown : (m : ℕ) → m ≤ length (journal ++ leaf ∷ []) → IsFollowedTo o (journal ++ leaf ∷ []) m → length journal < m → (f ≡ length journal) × IsFoldedReady o.resolution o.order (λ n. n ∈ journal) leaf
      grown m h b past =
          let l = longer in
          let whole : length (journal ++ leaf ∷ []) ≤ m = omega arith in
          let run : IsFoldedRun o.resolution o.order (journal ++ leaf ∷ []) = subst (IsFoldedRun o.resolution o.order) (take_all m (journal ++ leaf ∷ []) whole) b in (
            (ready_whole o journal f is).1 (run_front o.resolution o.order (λ n. ⊥) journal (leaf ∷ []) run),
            ready_at o.resolution o.order journal leaf [] run,
          )

-- ---- a cut journal

front_shorter : (o : ChoiceOption) (journal : List ℕ) (f i : ℕ) → IsFront journal o f → i ≤ length journal → IsFront (take i journal) o (min f i)
front_shorter o journal f i is within = record {
  within = let l = length-take-le i journal within in omega arith;
  followed = followed_cut (min f i) (omega arith) (followed_before o journal f (min f i) is.within (omega arith) is.followed);
  longest = λ m h b. let l = length-take-le i journal within in
      let below : m ≤ i = omega arith in
      let far = is.longest m (omega arith) (followed_whole m below b) in omega arith;
}
  where
    followed_cut : (m : ℕ) → m ≤ i → IsFollowedTo o journal m → IsFollowedTo o (take i journal) m
    followed_cut m h = subst (IsFoldedRun o.resolution o.order) (sym (take_twice journal i m h))

    followed_whole : (m : ℕ) → m ≤ i → IsFollowedTo o (take i journal) m → IsFollowedTo o journal m
    followed_whole m h = subst (IsFoldedRun o.resolution o.order) (take_twice journal i m h)

-- past its end nothing is cut
pub front_cut : (o : ChoiceOption) (journal : List ℕ) (f i : ℕ) → IsFront journal o f → IsFront (take i journal) o (min f i)
front_cut o journal f i is = ⊎_elim
    (λ past. subst₂ (λ (j : List ℕ) (k : ℕ). IsFront j o k) (sym (take_all i journal (let b : length journal ≤ i = omega (arith, past) in b))) (let w = is.within in let same : f ≡ min f i = omega (arith, w, past) in same) is)
    (λ within. front_shorter o journal f i is within) (cases_lt (length journal) i)
