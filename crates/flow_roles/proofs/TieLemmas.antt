-- The least constraint of an event by which something is so, found along its ties.
use Rattle.std.proofs.Common.{◌≡◌, ◌≤◌, ◌<◌, ◌+◌, ◌∙◌, ℕ, suc, List, [], ◌∷◌, ◌++◌, length, take, drop, get_or, drop-cons, inl, inr, ⊎_elim, sym, ap, subst, arith}
use Rattle.std.proofs.lemmas.List.{take_more, take-append-drop}
use Rattle.flow_model.specs.Lists.{◌∈◌, Each}
use Rattle.flow_model.specs.Duties.{IsConstraintOf}
use Rattle.flow_model.proofs.Lists.{mem-append, mem_here, each_member, each-append}
use Rattle.flow_core.specs.Answers.{IsLeast}
use Rattle.flow_policy.specs.declared.tie.Tie.{Tie}
use Rattle.flow_policy.specs.Ties.{AreTies, IndicesRise}
use Rattle.flow_roles.specs.Desked.{Desked}
use Rattle.flow_roles.specs.Answers.{IsKeptApart, IsTiedElsewhere}
use Rattle.flow_roles.specs.Having.{HasEvent, IsWithAnother}

-- no index is less than one before it
rises : (front : List Tie) (tie : Tie) (back : List Tie) → IndicesRise (front ++ tie ∷ back) → (later : Tie) → later ∈ (tie ∷ back) → tie.index ≤ later.index
rises [] tie back r later (inl e) = let same : later.index ≡ tie.index = ap (λ (t : Tie). t.index) e in omega arith
rises [] tie back r later (inr m) = each_member (λ (t : Tie). tie.index ≤ t.index) back r.0 later m
rises (x ∷ front) tie back r later m = rises front tie back r.1 later m

-- none of these ties is to an event of which it is so
abbrev pub NoneIs : (ℕ → Type 0) → List Tie → Type 0
NoneIs Is ties = Each (λ (tie : Tie). ¬ (Is tie.other)) ties

module _ (pairs : List (ℕ × ℕ)) (event : ℕ) (Is : ℕ → Type 0) where
  -- the constraint of that number is of the event and another of which it is so
  abbrev Applies : ℕ → Type 0
  Applies i = (other : ℕ) × IsConstraintOf pairs i event other × Is other

  none_applies : (ties : List Tie) → AreTies pairs event ties → NoneIs Is ties → (i : ℕ) → ¬ (Applies i)
  none_applies ties are none i (other, of, is) =
      let (tie, m, to, below) = are.all i other of in
      each_member (λ (tie : Tie). ¬ (Is tie.other)) ties none tie m (subst Is (sym to) is)

  least_applies : (front : List Tie) (tie : Tie) (back : List Tie) → AreTies pairs event (front ++ tie ∷ back) → NoneIs Is front → Is tie.other → IsLeast Applies tie.index
  least_applies front tie back are none is = ((tie.other, are.each tie (mem_here tie front back), is), λ i (other, of, h). least i other of h)
    where
      least : (i other : ℕ) → IsConstraintOf pairs i event other → Is other → tie.index ≤ i
      least i other of h =
          let (found, in_ties, to, below) = are.all i other of in
          ⊎_elim
          (λ before. absurd (each_member (λ (tie : Tie). ¬ (Is tie.other)) front none found before (subst Is (sym to) h)))
          (λ from. let up = rises front tie back are.rise found from in omega arith)
          (mem-append found front (tie ∷ back) in_ties)

  -- the same at a place of the ties
  least_at : (ties : List Tie) (k : ℕ) (or : Tie) → k < length ties → AreTies pairs event ties → NoneIs Is (take k ties) → Is (get_or ties k or).other →
      IsLeast Applies (get_or ties k or).index
  least_at ties k or inside are none is =
      let cut : ties ≡ take k ties ++ get_or ties k or ∷ drop (suc k) ties =
      sym (take-append-drop k ties) ∙ ap (λ (rest : List Tie). take k ties ++ rest) (drop-cons ties k or inside) in
      least_applies (take k ties) (get_or ties k or) (drop (suc k) ties) (subst (AreTies pairs event) cut are) none is

-- one tie more
pub none_more : (Is : ℕ → Type 0) (ties : List Tie) (k : ℕ) (or : Tie) → k < length ties → NoneIs Is (take k ties) → ¬ (Is (get_or ties k or).other) → NoneIs Is (take (k + 1) ties)
none_more Is ties k or inside none not =
    subst (NoneIs Is) (sym (take_more ties k or inside)) (each-append (λ (tie : Tie). ¬ (Is tie.other)) (take k ties) (get_or ties k or ∷ []) none (not, tt))

module _ (d : Desked) (by event : ℕ) where
  -- the user has it
  abbrev pub IsHad : ℕ → Type 0
  IsHad other = HasEvent d other by

  pub none_apart : (ties : List Tie) → AreTies d.assigned.duties.separate event ties → NoneIs IsHad ties → (i : ℕ) → ¬ (IsKeptApart d by event i)
  none_apart ties are none i (f, n, of, at, taken) = none_applies d.assigned.duties.separate event IsHad ties are none i (f, of, (n, at, taken))

  pub least_apart : (ties : List Tie) (k : ℕ) (or : Tie) → k < length ties → AreTies d.assigned.duties.separate event ties → NoneIs IsHad (take k ties) →
      IsHad (get_or ties k or).other → IsLeast (IsKeptApart d by event) (get_or ties k or).index
  least_apart ties k or inside are none is =
      let ((f, of, (n, at, taken)), least) = least_at d.assigned.duties.separate event IsHad ties k or inside are none is in
      ((f, n, of, at, taken), λ i (f, n, of, at, taken). least i (f, of, (n, at, taken)))

  -- another user has it
  abbrev pub IsElsewhere : ℕ → Type 0
  IsElsewhere other = IsWithAnother d other by

  pub none_elsewhere : (ties : List Tie) → AreTies d.assigned.duties.bound event ties → NoneIs IsElsewhere ties → (i : ℕ) → ¬ (IsTiedElsewhere d by event i)
  none_elsewhere ties are none i (f, n, user, of, at, taken, unlike) =
      none_applies d.assigned.duties.bound event IsElsewhere ties are none i (f, of, (user, (n, at, taken), unlike))

  pub least_elsewhere : (ties : List Tie) (k : ℕ) (or : Tie) → k < length ties → AreTies d.assigned.duties.bound event ties → NoneIs IsElsewhere (take k ties) →
      IsElsewhere (get_or ties k or).other → IsLeast (IsTiedElsewhere d by event) (get_or ties k or).index
  least_elsewhere ties k or inside are none is =
      let ((f, of, (user, (n, at, taken), unlike)), least) = least_at d.assigned.duties.bound event IsElsewhere ties k or inside are none is in
      ((f, n, user, of, at, taken, unlike), λ i (f, n, user, of, at, taken, unlike). least i (f, of, (user, (n, at, taken), unlike)))
