-- Leaving out what says nothing.
use Rattle.std.proofs.Common.{◌≡◌, ℕ, Bool, true, false, cond, List, [], ◌∷◌, ◌++◌, ◌↔◌, ⊎_elim, refl, sym, ap, ◌∙◌, subst, inl, inr, append-nil}
use Rattle.flow_model.specs.Lists.{joined}
use Rattle.flow_model.specs.Process.{Process, Empty, Task, Sequence, Parallel, Choice, Isolated, IsChoiceFree, leaves}
use Rattle.flow_model.specs.Folding.{IsFolded, fixed_leaves}
use Rattle.flow_model.specs.Trace.{Blocks, Shuffle, both_end, from_left, from_right, as_one}
use Rattle.flow_laws.proofs.FoldingLemmas.{folded_where_free}
use Rattle.flow_goal.specs.Simple.{IsBusy, IsSimple, IsSimplified, is_empty, simple_isolation, simple_of}

abbrev SameBlocks : Process → Process → Type 0
SameBlocks g h = (blocks : List (List ℕ)) → Blocks g blocks ↔ Blocks h blocks

-- in a sequence
same_sequence : (a b x y : Process) → SameBlocks x a → SameBlocks y b → SameBlocks (Sequence x y) (Sequence a b)
same_sequence a b x y p q blocks =
    ((λ (v, w, hv, hw, e). (v, w, (p v).0 hv, (q w).0 hw, e)), (λ (v, w, hv, hw, e). (v, w, (p v).1 hv, (q w).1 hw, e)))

same_parallel : (a b x y : Process) → SameBlocks x a → SameBlocks y b → SameBlocks (Parallel x y) (Parallel a b)
same_parallel a b x y p q blocks =
    ((λ (v, w, hv, hw, e). (v, w, (p v).0 hv, (q w).0 hw, e)), (λ (v, w, hv, hw, e). (v, w, (p v).1 hv, (q w).1 hw, e)))

same_isolated : (a x : Process) → SameBlocks x a → SameBlocks (Isolated x) (Isolated a)
same_isolated a x p blocks = ((λ (v, hv, e). (v, (p v).0 hv, e)), (λ (v, hv, e). (v, (p v).1 hv, e)))

then : (a b c : Process) → SameBlocks a b → SameBlocks b c → SameBlocks a c
then a b c p q blocks = ((λ h. (q blocks).0 ((p blocks).0 h)), (λ h. (p blocks).1 ((q blocks).1 h)))

-- nothing in a sequence
nothing_first : (b : Process) → SameBlocks b (Sequence Empty b)
nothing_first b blocks =
    ((λ h. ([], blocks, refl, h, refl)), (λ (v, w, hv, hw, e). subst (λ u. Blocks b u) (sym (e ∙ ap (λ u. u ++ w) hv)) hw))

nothing_last : (a : Process) → SameBlocks a (Sequence a Empty)
nothing_last a blocks = (
  (λ h. (blocks, [], h, refl, sym (append-nil blocks))),
  (λ (v, w, hv, hw, e). subst (λ u. Blocks a u) (sym (e ∙ ap (λ u. v ++ u) hw ∙ append-nil v)) hv),
)

-- nothing beside a goal
shuffle_nothing_left : (y : List (List ℕ)) → Shuffle [] y y
shuffle_nothing_left [] = both_end
shuffle_nothing_left (b ∷ y) = from_right (shuffle_nothing_left y)

shuffle_nothing_right : (x : List (List ℕ)) → Shuffle x [] x
shuffle_nothing_right [] = both_end
shuffle_nothing_right (b ∷ x) = from_left (shuffle_nothing_right x)

only_right : {x y blocks : List (List ℕ)} → Shuffle x y blocks → x ≡ [] → blocks ≡ y
only_right both_end e = refl
only_right (from_left s) e = cc
only_right (from_right {x = b} s) e = ap (λ u. b ∷ u) (only_right s e)

only_left : {x y blocks : List (List ℕ)} → Shuffle x y blocks → y ≡ [] → blocks ≡ x
only_left both_end e = refl
only_left (from_left {x = b} s) e = ap (λ u. b ∷ u) (only_left s e)
only_left (from_right s) e = cc

nothing_left : (b : Process) → SameBlocks b (Parallel Empty b)
nothing_left b blocks =
    ((λ h. ([], blocks, refl, h, shuffle_nothing_left blocks)), (λ (v, w, hv, hw, s). subst (λ u. Blocks b u) (sym (only_right s hv)) hw))

nothing_right : (a : Process) → SameBlocks a (Parallel a Empty)
nothing_right a blocks =
    ((λ h. (blocks, [], h, refl, shuffle_nothing_right blocks)), (λ (v, w, hv, hw, s). subst (λ u. Blocks a u) (sym (only_left s hw)) hv))

-- the isolation of nothing, of a leaf and of an isolation
isolated_nothing : SameBlocks Empty (Isolated Empty)
isolated_nothing blocks = ((λ h. ([], refl, h)), (λ (v, hv, e). e ∙ ap as_one hv))

isolated_leaf : (n : ℕ) → SameBlocks (Task n) (Isolated (Task n))
isolated_leaf n blocks = ((λ h. ((n ∷ []) ∷ [], refl, h)), (λ (v, hv, e). e ∙ ap as_one hv))

as_one_again : (blocks : List (List ℕ)) → as_one (as_one blocks) ≡ as_one blocks
as_one_again [] = refl
as_one_again (block ∷ blocks) = ap (λ u. u ∷ []) (append-nil (joined (block ∷ blocks)))

isolated_again : (a : Process) → SameBlocks (Isolated a) (Isolated (Isolated a))
isolated_again a blocks = (
  (λ (v, hv, e). (as_one v, (v, hv, refl), e ∙ sym (as_one_again v))),
  (λ (v, (w, hw, e), f). (w, hw, f ∙ ap as_one e ∙ as_one_again w)),
)

pub when_empty : (g : Process) → is_empty g ≡ true → g ≡ Empty
when_empty Empty e = refl
when_empty g e = cc

when_busy : (g : Process) → IsSimple g → is_empty g ≡ false → IsBusy g
when_busy g (inl e) f = let h : true ≡ false = sym (ap is_empty e) ∙ f in cc
when_busy g (inr h) f = h

-- Two parts that both stay

-- what makes one goal of two that both stay keeps
record Keeps (f : Process → Process → Process) : Type 0 where
  same : (a b x y : Process) → SameBlocks x a → SameBlocks y b → SameBlocks (f x y) (f a b)
  nothing_first : (b : Process) → SameBlocks b (f Empty b)
  nothing_last : (a : Process) → SameBlocks a (f a Empty)
  busy : (a b : Process) → IsBusy a → IsBusy b → IsBusy (f a b)
  leaves_are : (a b : Process) → leaves (f a b) ≡ leaves a ++ leaves b
  folded : (a b : Process) → IsFolded a → IsFolded b → IsFolded (f a b)
  choice_free : (a b : Process) → IsChoiceFree a → IsChoiceFree b → IsChoiceFree (f a b)
  free_parts : (a b : Process) → IsChoiceFree (f a b) → IsChoiceFree a × IsChoiceFree b
  fixed_are : (a b : Process) → fixed_leaves (f a b) ≡ fixed_leaves a ++ fixed_leaves b

sequence_keeps : Keeps Sequence
sequence_keeps = record {
  same = same_sequence;
  nothing_first = nothing_first;
  nothing_last = nothing_last;
  busy = λ a b p q. (p, q);
  leaves_are = λ a b. refl;
  folded = λ a b p q. (p, q);
  choice_free = λ a b p q. (p, q);
  free_parts = λ a b p. p;
  fixed_are = λ a b. refl;
}

parallel_keeps : Keeps Parallel
parallel_keeps = record {
  same = same_parallel;
  nothing_first = nothing_left;
  nothing_last = nothing_right;
  busy = λ a b p q. (p, q);
  leaves_are = λ a b. refl;
  folded = λ a b p q. (p, q);
  choice_free = λ a b p q. (p, q);
  free_parts = λ a b p. p;
  fixed_are = λ a b. refl;
}

simplified_both : (f : Process → Process → Process) → Keeps f → (a b x y : Process) → IsSimplified a x → IsSimplified b y →
    (s t : Bool) → is_empty x ≡ s → is_empty y ≡ t → IsSimplified (f a b) (cond s y (cond t x (f x y)))
simplified_both f keeps a b x y p q true t e _ =
    let none : x ≡ Empty = when_empty x e in
    record {
      same = then y (f Empty y) (f a b) (keeps.nothing_first y) (keeps.same a b Empty y (subst (λ u. SameBlocks u a) none p.same) q.same);
      simple = q.simple;
      leaves_kept = q.leaves_kept ∙ ap (λ u. u ++ leaves b) (sym (ap leaves none) ∙ p.leaves_kept) ∙ sym (keeps.leaves_are a b);
      fixed_kept = q.fixed_kept ∙ ap (λ u. u ++ fixed_leaves b) (sym (ap fixed_leaves none) ∙ p.fixed_kept) ∙ sym (keeps.fixed_are a b);
      folded = q.folded;
      choice_free = λ free. q.choice_free (keeps.free_parts a b free).1;
    }
simplified_both f keeps a b x y p q false true _ e =
    let none : y ≡ Empty = when_empty y e in
    record {
      same = then x (f x Empty) (f a b) (keeps.nothing_last x) (keeps.same a b x Empty p.same (subst (λ u. SameBlocks u b) none q.same));
      simple = p.simple;
      leaves_kept = p.leaves_kept ∙ sym (append-nil (leaves a)) ∙ ap (λ u. leaves a ++ u) (sym (ap leaves none) ∙ q.leaves_kept) ∙ sym (keeps.leaves_are a b);
      fixed_kept = p.fixed_kept ∙ sym (append-nil (fixed_leaves a)) ∙ ap (λ u. fixed_leaves a ++ u) (sym (ap fixed_leaves none) ∙ q.fixed_kept) ∙ sym (keeps.fixed_are a b);
      folded = p.folded;
      choice_free = λ free. p.choice_free (keeps.free_parts a b free).0;
    }
simplified_both f keeps a b x y p q false false e g = record {
  same = keeps.same a b x y p.same q.same;
  simple = inr (keeps.busy x y (when_busy x p.simple e) (when_busy y q.simple g));
  leaves_kept = keeps.leaves_are x y ∙ (λ i. p.leaves_kept i ++ q.leaves_kept i) ∙ sym (keeps.leaves_are a b);
  fixed_kept = keeps.fixed_are x y ∙ (λ i. p.fixed_kept i ++ q.fixed_kept i) ∙ sym (keeps.fixed_are a b);
  folded = keeps.folded x y p.folded q.folded;
  choice_free = λ free. keeps.choice_free x y (p.choice_free (keeps.free_parts a b free).0) (q.choice_free (keeps.free_parts a b free).1);
}

-- A choice, neither side of which is nothing

-- a simple goal that takes a block at least
busy_side : (a x : Process) → IsSimplified a x → ¬ (Blocks a []) → IsBusy x
busy_side a x p some = by_cases p.simple
  where
    by_cases : IsSimple x → IsBusy x
    by_cases (inl none) = absurd (some ((p.same []).0 (subst (λ u. Blocks u []) (sym none) refl)))
    by_cases (inr busy) = busy

simplified_choice : (a b x y : Process) → ¬ (Blocks (Choice a b) []) → IsSimplified a x → IsSimplified b y → IsSimplified (Choice a b) (Choice x y)
simplified_choice a b x y some p q = record {
  same = λ blocks. (⊎_elim (λ h. inl ((p.same blocks).0 h)) (λ h. inr ((q.same blocks).0 h)), ⊎_elim (λ h. inl ((p.same blocks).1 h)) (λ h. inr ((q.same blocks).1 h)));
  simple = inr (busy_side a x p (λ h. some (inl h)), busy_side b y q (λ h. some (inr h)));
  leaves_kept = λ i. p.leaves_kept i ++ q.leaves_kept i;
  fixed_kept = refl;
  folded = (λ h. some (⊎_elim (λ k. inl ((p.same []).0 k)) (λ k. inr ((q.same []).0 k)) h), p.folded, q.folded);
  choice_free = λ free. absurd free;
}

-- A part alone

isolated_as : (a x y : Process) → SameBlocks y (Isolated x) → IsSimple y → leaves y ≡ leaves x → fixed_leaves y ≡ fixed_leaves x → IsFolded y →
    (IsChoiceFree x → IsChoiceFree y) → IsSimplified a x → IsSimplified (Isolated a) y
isolated_as a x y same simple listed fixed folded free p = record {
  same = then y (Isolated x) (Isolated a) same (same_isolated a x p.same);
  simple = simple;
  leaves_kept = listed ∙ p.leaves_kept;
  fixed_kept = fixed ∙ p.fixed_kept;
  folded = folded;
  choice_free = λ h. free (p.choice_free h);
}

alike : (g : Process) → SameBlocks g g
alike g blocks = ((λ h. h), (λ h. h))

simplified_isolated : (a x : Process) → IsChoiceFree a → IsSimplified a x → IsSimplified (Isolated a) (simple_isolation x)
simplified_isolated a Empty free p = isolated_as a Empty Empty isolated_nothing p.simple refl refl tt (λ h. h) p
simplified_isolated a (Task n) free p = isolated_as a (Task n) (Task n) (isolated_leaf n) p.simple refl refl tt (λ h. h) p
simplified_isolated a (Sequence x y) free p =
    let g = Sequence x y in isolated_as a g (Isolated g) (alike (Isolated g)) (inr (tt, when_busy g p.simple refl)) refl refl (p.choice_free free) (λ h. h) p
simplified_isolated a (Parallel x y) free p =
    let g = Parallel x y in isolated_as a g (Isolated g) (alike (Isolated g)) (inr (tt, when_busy g p.simple refl)) refl refl (p.choice_free free) (λ h. h) p
simplified_isolated a (Choice x y) free p = absurd (p.choice_free free)
simplified_isolated a (Isolated x) free p =
    isolated_as a (Isolated x) (Isolated x) (isolated_again x) p.simple refl refl p.folded (λ h. h) p

-- The whole

pub simplified : (g : Process) → IsFolded g → IsSimplified g (simple_of g)
simplified Empty folded = record { same = alike Empty; simple = inl refl; leaves_kept = refl; fixed_kept = refl; folded = tt; choice_free = λ h. h }
simplified (Task n) folded = record { same = alike (Task n); simple = inr tt; leaves_kept = refl; fixed_kept = refl; folded = tt; choice_free = λ h. h }
simplified (Sequence a b) folded =
    simplified_both Sequence sequence_keeps a b (simple_of a) (simple_of b) (simplified a folded.0) (simplified b folded.1) (is_empty (simple_of a)) (is_empty (simple_of b)) refl refl
simplified (Parallel a b) folded =
    simplified_both Parallel parallel_keeps a b (simple_of a) (simple_of b) (simplified a folded.0) (simplified b folded.1) (is_empty (simple_of a)) (is_empty (simple_of b)) refl refl
simplified (Choice a b) folded = simplified_choice a b (simple_of a) (simple_of b) folded.0 (simplified a folded.1) (simplified b folded.2)
simplified (Isolated a) free = simplified_isolated a (simple_of a) free (simplified a (folded_where_free a free))

pub simplified_as : {g old new : Process} → old ≡ g → IsFolded g → new ≡ simple_of old → IsSimplified g new
simplified_as {g} e folded is = subst (IsSimplified g) (sym (is ∙ ap simple_of e)) (simplified g folded)
