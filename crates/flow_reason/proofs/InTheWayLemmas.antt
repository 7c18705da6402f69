-- What may come with some claims out may come with fewer.
use Rattle.std.proofs.Common.{◌≡◌, ℕ, Bool, true, false, List, [], ◌∷◌, ◌++◌, ◌+◌, take, drop, inl, ⊎_elim, refl, sym, ap, subst, ◌∙◌, append_assoc, append-nil}
use Rattle.std.proofs.lemmas.List.{map-append, take-append-drop}
use Rattle.flow_model.specs.declared.labels.Note.TheVariants.{Done}
use Rattle.flow_model.specs.Lists.{◌∈◌, Begins}
use Rattle.flow_model.proofs.Lists.{mem_append_right}
use Rattle.flow_model.specs.Schema.{Schema}
use Rattle.flow_model.specs.Run.{RunState, MayAllFollow, MayFollowFirst}
use Rattle.flow_model.proofs.MadeLists.{begins_front, order_with_last, two_cuts}
use Rattle.flow_standing.specs.declared.claims.Out.{Out}
use Rattle.flow_reason.specs.InTheWay.{leaves_of, MayCome}

follow_less : (w : Schema) (s : RunState) (a b : List ℕ) (x : ℕ) → MayAllFollow w s (a ++ x ∷ b) → MayAllFollow w s (a ++ b)
follow_less w s a b x (o, among, all) = (
  o,
  among,
  λ order is.
      let (t, trace, free, begins) = all (order ++ x ∷ []) (order_with_last order x a b is) in
      (t, trace, free, begins_front t (s.journal ++ order) (x ∷ []) (subst (Begins t) (sym (append_assoc s.journal order (x ∷ []))) begins)),
)

first_less : (w : Schema) (s : RunState) (first : ℕ) (a b : List ℕ) (x : ℕ) → MayFollowFirst w s first (a ++ x ∷ b) → MayFollowFirst w s first (a ++ b)
first_less w s first a b x (o, among, all) = (
  o,
  among,
  λ order is.
      let (t, trace, free, begins) = all (order ++ x ∷ []) (order_with_last order x a b is) in
      (t, trace, free, begins_front t (s.journal ++ first ∷ order) (x ∷ []) (subst (Begins t) (sym (append_assoc s.journal (first ∷ order) (x ∷ []))) begins)),
)

leaves_less : (event : Bool) (w : Schema) (s : RunState) (leaf : ℕ) (a b : List ℕ) (x : ℕ) → MayCome event w s leaf (a ++ x ∷ b) → MayCome event w s leaf (a ++ b)
leaves_less true w s leaf a b x may =
    subst (MayAllFollow w s) (sym (append_assoc a b (leaf ∷ [])))
    (follow_less w s a (b ++ leaf ∷ []) x (subst (MayAllFollow w s) (append_assoc a (x ∷ b) (leaf ∷ [])) may))
leaves_less false w s leaf a b x may = first_less w s leaf a b x may

module _ (event : Bool) (w : Schema) (s : RunState) (leaf : ℕ) where
  abbrev May : List Out → Type 0
  May outs = MayCome event w s leaf (leaves_of outs)

  less : (a b : List Out) (x : Out) → May (a ++ x ∷ b) → May (a ++ b)
  less a b x may =
      subst (MayCome event w s leaf) (sym (map-append (λ (out : Out). out.call.leaf) a b))
      (leaves_less event w s leaf (leaves_of a) (leaves_of b) x.call.leaf
      (subst (MayCome event w s leaf) (map-append (λ (out : Out). out.call.leaf) a (x ∷ b)) may))

  -- each of them can be left out: the others, and the rest, may be out
  abbrev AreNeeded : List Out → List Out → Type 0
  AreNeeded kept rest = (front back : List Out) (out : Out) → kept ≡ front ++ out ∷ back → May ((front ++ back) ++ rest)

  pub needed_fewer : (kept rest : List Out) (x : Out) → AreNeeded kept (x ∷ rest) → AreNeeded kept rest
  needed_fewer kept rest x needed front back out is = less (front ++ back) rest x (needed front back out is)

  not_both : (x o : Out) (m b : List Out) → [] ≡ m ++ o ∷ b → ⊥
  not_both x o [] b e = let f : [] ≡ o ∷ b = e in cc
  not_both x o (y ∷ m) b e = let f : [] ≡ y ∷ (m ++ o ∷ b) = e in cc

  last_needed : (kept rest : List Out) (x : Out) → May (kept ++ rest) → (front back m : List Out) (out : Out) → front ≡ kept ++ m → x ∷ [] ≡ m ++ out ∷ back →
      May ((front ++ back) ++ rest)
  last_needed kept rest x may front back [] out p q =
      let none : [] ≡ back = cc in
      let same : front ≡ kept = p ∙ append-nil kept in
      let whole : (front ++ back) ++ rest ≡ kept ++ rest =
      ap (λ (l : List Out). (front ++ l) ++ rest) (sym none) ∙ ap (λ (l : List Out). l ++ rest) (append-nil front) ∙ ap (λ (l : List Out). l ++ rest) same in
      subst May (sym whole) may
  last_needed kept rest x may front back (y ∷ m) out p q =
      let later : [] ≡ m ++ out ∷ back = cc in absurd (not_both x out m back later)

  pub needed_more : (kept rest : List Out) (x : Out) → May (kept ++ rest) → AreNeeded kept (x ∷ rest) → AreNeeded (kept ++ x ∷ []) rest
  needed_more kept rest x may needed front back out is =
      ⊎_elim
      (λ (m, p, q).
      let whole : (front ++ back) ++ rest ≡ (front ++ m) ++ x ∷ rest =
      ap (λ (l : List Out). (front ++ l) ++ rest) q ∙ simp append_assoc in
      subst May (sym whole) (needed front m out p))
      (λ (m, p, q). last_needed kept rest x may front back m out p q)
      (two_cuts kept (x ∷ []) front out back is)

  pub kept_needed : (outs kept new : List Out) (i : ℕ) (x : Out) → drop i outs ≡ x ∷ drop (i + 1) outs → new ≡ kept ++ x ∷ [] → May (kept ++ drop (i + 1) outs) →
      AreNeeded kept (drop i outs) → AreNeeded new (drop (i + 1) outs)
  kept_needed outs kept new i x split is may needed =
      subst (λ (l : List Out). AreNeeded l (drop (i + 1) outs)) (sym is) (needed_more kept (drop (i + 1) outs) x may (subst (AreNeeded kept) split needed))

  pub kept_blocked : (outs kept new : List Out) (i : ℕ) (x : Out) → drop i outs ≡ x ∷ drop (i + 1) outs → new ≡ kept ++ x ∷ [] → ¬ (May (kept ++ drop i outs)) →
      ¬ (May (new ++ drop (i + 1) outs))
  kept_blocked outs kept new i x split is none may =
      none (subst May (ap (λ (l : List Out). l ++ drop (i + 1) outs) is ∙ append_assoc kept (x ∷ []) (drop (i + 1) outs) ∙ ap (λ (l : List Out). kept ++ l) (sym split)) may)

  pub dropped_needed : (outs kept : List Out) (i : ℕ) (x : Out) → drop i outs ≡ x ∷ drop (i + 1) outs → AreNeeded kept (drop i outs) → AreNeeded kept (drop (i + 1) outs)
  dropped_needed outs kept i x split needed = needed_fewer kept (drop (i + 1) outs) x (subst (AreNeeded kept) split needed)

pub there_at : (outs : List Out) (i : ℕ) (x : Out) → drop i outs ≡ x ∷ drop (i + 1) outs → x ∈ outs
there_at outs i x split =
    subst (λ (l : List Out). x ∈ l) (take-append-drop i outs)
    (mem_append_right x (take i outs) (drop i outs) (subst (λ (l : List Out). x ∈ l) (sym split) (inl refl)))

-- a claim in the place of none
abbrev pub no_out : Out
no_out = record { call = record { claim = 0; leaf = 0; event = 0; attempt = 0; note = Done }; holder = 0; place = 0 }
