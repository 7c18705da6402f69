-- Options that are sifted one by one.
use Rattle.std.proofs.Common.{◌≡◌, ◌≢◌, ℕ, suc, ◌+◌, List, [], ◌∷◌, ◌++◌, length, map, refl, sym, ap, ◌∙◌, subst, inl, inr, arith, append-nil, append_assoc, add-zero}
use Rattle.flow_model.specs.Lists.{◌∈◌}
use Rattle.flow_model.specs.Resolution.{ChoiceOption}
use Rattle.flow_fold_laws.specs.Unfolding.{IsFoldedOrdered}
use Rattle.flow_fold_laws.proofs.OutsideChoices.{folded_circles_exclude_traces}
use Rattle.flow_model.specs.Decided.{not_empty}
use Rattle.flow_excise.specs.declared.refusal.Dropped.{Dropped}
use Rattle.flow_plan.specs.Options.{HasExecution, AreJustThose}
use Rattle.flow_excise.specs.Executions.{NumberedOption, numbered_ways, numbered_options, TellsOf, TellOfAll, AreSifted}

-- one option more

pub keep_one : (ns : List NumberedOption) (n : NumberedOption) (kept : List ChoiceOption) (dropped : List Dropped) → AreSifted ns kept dropped →
    HasExecution n.option → AreSifted (ns ++ n ∷ []) (kept ++ n.option ∷ []) dropped
keep_one [] n kept dropped (e, f) h = inl (h, ([], ap (λ (l : List ChoiceOption). l ++ n.option ∷ []) e, (refl, f)))
keep_one (m ∷ ns) n kept dropped (inl (g, (rest, e, s))) h =
    inl (g, (rest ++ n.option ∷ [], ap (λ (l : List ChoiceOption). l ++ n.option ∷ []) e, keep_one ns n rest dropped s h))
keep_one (m ∷ ns) n kept dropped (inr (d, t, (rest, e, s))) h = inr (d, t, (rest, e, keep_one ns n kept rest s h))

pub drop_one : (ns : List NumberedOption) (n : NumberedOption) (kept : List ChoiceOption) (dropped : List Dropped) (d : Dropped) → AreSifted ns kept dropped →
    TellsOf n d → AreSifted (ns ++ n ∷ []) kept (dropped ++ d ∷ [])
drop_one [] n kept dropped d (e, f) h = inr (d, h, ([], ap (λ (l : List Dropped). l ++ d ∷ []) f, (e, refl)))
drop_one (m ∷ ns) n kept dropped d (inl (g, (rest, e, s))) h = inl (g, (rest, e, drop_one ns n rest dropped d s h))
drop_one (m ∷ ns) n kept dropped d (inr (c, t, (rest, e, s))) h =
    inr (c, t, (rest ++ d ∷ [], ap (λ (l : List Dropped). l ++ d ∷ []) e, drop_one ns n kept rest d s h))

-- numbers of more options

abbrev pub numbered : ℕ → ℕ → ChoiceOption → NumberedOption
numbered r k o = record { resolution = r; way = k; option = o }

pub more_ways : (r k : ℕ) (os : List ChoiceOption) (o : ChoiceOption) →
    numbered_ways r k (os ++ o ∷ []) ≡ numbered_ways r k os ++ numbered r (k + length os) o ∷ []
more_ways r k [] o = ap (λ n. numbered r n o ∷ []) (sym (add-zero k))
more_ways r k (p ∷ os) o =
    let e : (k + 1) + length os ≡ k + suc (length os) = omega arith in
    ap (λ (l : List NumberedOption). numbered r k p ∷ l) (more_ways r (k + 1) os o ∙ ap (λ n. numbered_ways r (k + 1) os ++ numbered r n o ∷ []) e)

pub more_resolutions : (r : ℕ) (oss : List (List ChoiceOption)) (os : List ChoiceOption) →
    numbered_options r (oss ++ os ∷ []) ≡ numbered_options r oss ++ numbered_ways (r + length oss) 0 os
more_resolutions r [] os = append-nil (numbered_ways r 0 os) ∙ ap (λ n. numbered_ways n 0 os) (sym (add-zero r))
more_resolutions r (ps ∷ oss) os =
    let e : (r + 1) + length oss ≡ r + suc (length oss) = omega arith in
    ap (λ (l : List NumberedOption). numbered_ways r 0 ps ++ l) (more_resolutions (r + 1) oss os)
    ∙ sym (append_assoc (numbered_ways r 0 ps) (numbered_options (r + 1) oss) (numbered_ways ((r + 1) + length oss) 0 os))
    ∙ ap (λ n. (numbered_ways r 0 ps ++ numbered_options (r + 1) oss) ++ numbered_ways n 0 os) e

-- what is left of the numbers

abbrev pub options_told : List NumberedOption → List ChoiceOption
options_told ns = map (λ (n : NumberedOption). n.option) ns

pub told_ways : (r k : ℕ) (os : List ChoiceOption) → options_told (numbered_ways r k os) ≡ os
told_ways r k [] = refl
told_ways r k (o ∷ os) = ap (λ l. o ∷ l) (told_ways r (k + 1) os)

-- when all are sifted

pub just_those : (ns : List NumberedOption) (kept : List ChoiceOption) (dropped : List Dropped) →
    ((n : NumberedOption) → n ∈ ns → IsFoldedOrdered n.option.resolution n.option.order) → AreSifted ns kept dropped →
    AreJustThose HasExecution (options_told ns) kept
just_those [] kept dropped w s = s.0
just_those (n ∷ ns) kept dropped w (inl (g, (rest, e, s))) = inl (g, (rest, e, just_those ns rest dropped (λ m k. w m (inr k)) s))
just_those (n ∷ ns) kept dropped w (inr (d, t, (rest, e, s))) =
    inr (
      λ h. folded_circles_exclude_traces n.option.resolution n.option.order (w n (inl refl)) dropped_leaves t.circle h.0 h.1.0 h.1.1,
      just_those ns kept rest (λ m k. w m (inr k)) s,
    )
  where
    dropped_leaves : List ℕ
    dropped_leaves = d.circle.leaves.items

pub all_dropped : (ns : List NumberedOption) (kept : List ChoiceOption) (dropped : List Dropped) → kept ≡ [] → AreSifted ns kept dropped → TellOfAll ns dropped
all_dropped [] kept dropped f s = subst (TellOfAll []) (sym s.1) tt
all_dropped (n ∷ ns) kept dropped f (inl (g, (rest, e, s))) = absurd (not_empty [] n.option rest (sym f ∙ e))
all_dropped (n ∷ ns) kept dropped f (inr (d, t, (rest, e, s))) = subst (TellOfAll (n ∷ ns)) (sym e) (t, all_dropped ns kept rest f s)

-- an execution of one of the options is told by those that are kept
pub some_kept : (os kept : List ChoiceOption) → AreJustThose HasExecution os kept → (o : ChoiceOption) → o ∈ os → HasExecution o → kept ≢ []
some_kept [] kept h o m x f = m
some_kept (p ∷ os) kept (inl (g, (rest, e, s))) o m x f = not_empty [] p rest (sym f ∙ e)
some_kept (p ∷ os) kept (inr (n, s)) o (inl e) x f = n (subst HasExecution e x)
some_kept (p ∷ os) kept (inr (n, s)) o (inr m) x f = some_kept os kept s o m x f
