-- Fronts of good traces, a leaf at a time.
use Rattle.std.proofs.Common.{◌≡◌, ◌<◌, ◌+◌, ◌↔◌, ℕ, Bool, true, false, IsTrue, List, [], ◌∷◌, ◌++◌, ◌∙◌, length, take, drop, get_or, refl, sym, ap, subst, append_assoc}
use Rattle.std.proofs.lemmas.List.{take_more, take-append-drop}
use Rattle.flow_model.specs.Lists.{Begins, IsOrderOf}
use Rattle.flow_model.specs.Folding.{folded_options}
use Rattle.flow_model.specs.Schema.{Schema}
use Rattle.flow_model.specs.Run.{RunState, first_state, MayFollowFirst}
use Rattle.flow_laws.specs.WellFormed.{IsWellFormed, IsConsistent}
use Rattle.flow_laws.proofs.OptionsLemmas.{option_of_good}
use Rattle.flow_plan.specs.Options.{options_of, HasExecution, AreJustThose}
use Rattle.flow_plan.specs.Compilation.{Compilation, IsCompiled}
use Rattle.flow_residual.specs.Remaining.{Remaining, IsOf}
use Rattle.flow_why.specs.Fronts.{IsFront}

-- a run that has done these leaves, with no claim and no ban
abbrev pub after : List ℕ → RunState
after list = record first_state { journal = list }

pub begun_none : (w : Schema) → IsConsistent w → IsFront w []
begun_none w (t, good) = (t, good, (t, refl))

pub begun_less : (w : Schema) (front rest : List ℕ) → IsFront w (front ++ rest) → IsFront w front
begun_less w front rest (t, good, (more, is)) = (t, good, (rest ++ more, is ∙ append_assoc front rest more))

-- a leaf that may come first after these follows them in a good trace
pub begun_more : (w : Schema) (list : List ℕ) (leaf : ℕ) → MayFollowFirst w (after list) leaf [] → IsFront w (list ++ leaf ∷ [])
begun_more w list leaf (o, among, each) =
    let (t, of_option, free, begins) = each [] refl in (t, free.0, begins)

no_order : (order : List ℕ) → IsOrderOf order [] → order ≡ []
no_order [] is = refl
no_order (x ∷ order) (front, back, is, rest) = absurd (none front back x is)
  where
    none : (front back : List ℕ) (x : ℕ) → [] ≡ front ++ x ∷ back → ⊥
    none [] back x is = let e : [] ≡ x ∷ back = is in cc
    none (y ∷ front) back x is = let e : [] ≡ y ∷ (front ++ x ∷ back) = is in cc

-- and a leaf that follows them in a good trace may come first
pub may_come : (w : Schema) (list : List ℕ) (leaf : ℕ) → IsWellFormed w → IsFront w (list ++ leaf ∷ []) → MayFollowFirst w (after list) leaf []
may_come w list leaf f (t, good, (rest, is)) =
    let (o, among, of_option) = option_of_good w f t good in
    let begins : Begins t list = (leaf ∷ [] ++ rest, is ∙ append_assoc list (leaf ∷ []) rest) in (
      o,
      among,
      λ order is_order. (
        t,
        of_option,
        (good, begins, tt),
        subst (λ (l : List ℕ). Begins t (list ++ leaf ∷ l)) (sym (no_order order is_order)) (rest, is),
      ),
    )

-- What remains of a workflow after some leaves tells which may follow them

module _ (w : Schema) (c : Compilation) (f : IsWellFormed w) (k : IsCompiled w c) (r : Remaining) (leaves : List ℕ) (i : ℕ) (below : i < length leaves)
    (options_are : r.options ≡ options_of c.plans) (journal_is : r.journal ≡ take i leaves) (bans_are : r.bans ≡ []) (leaf : ℕ) (read : leaf ≡ get_or leaves i 0)
    (told : Bool) (tells : (v : Schema) (s : RunState) → IsOf v s r → IsTrue told ↔ MayFollowFirst v s leaf []) where
  remains : IsOf w (after (take i leaves)) r
  remains = record {
    well_formed = f;
    options_are = subst (AreJustThose HasExecution (folded_options w)) (sym options_are) k.plans;
    journal_is = sym journal_is;
    bans_are = sym bans_are;
  }

  one_more : take (i + 1) leaves ≡ take i leaves ++ leaf ∷ []
  one_more = take_more leaves i 0 below ∙ ap (λ x. take i leaves ++ x ∷ []) (sym read)

  pub front_more : told ≡ true → IsFront w (take (i + 1) leaves)
  front_more may =
      subst (IsFront w) (sym one_more)
      (begun_more w (take i leaves) leaf ((tells w (after (take i leaves)) remains).0 may))

  pub no_front : told ≡ false → ¬ (IsFront w leaves)
  no_front not_told front =
      let whole : leaves ≡ take (i + 1) leaves ++ drop (i + 1) leaves = sym (take-append-drop (i + 1) leaves) in
      let less : IsFront w (take (i + 1) leaves) = begun_less w (take (i + 1) leaves) (drop (i + 1) leaves) (subst (IsFront w) whole front) in
      let may : told ≡ true = (tells w (after (take i leaves)) remains).1 (may_come w (take i leaves) leaf f (subst (IsFront w) one_more less)) in
      cc
