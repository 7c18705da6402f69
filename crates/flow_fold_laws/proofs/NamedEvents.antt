-- The events that a constraint names: its normal form asks for no others.
use Rattle.std.proofs.Common.{◌≡◌, ℕ, true, false, ◌==◌, ◌||◌, if◌then◌else◌, List, [], ◌∷◌, ◌++◌, Option, refl, sym, ap, subst}
use Rattle.std.proofs.lemmas.Bool.{eq-eqb}
use Rattle.flow_model.specs.declared.labels.Label.{Label}
use Rattle.flow_model.specs.Lists.{◌∈◌, Each, each_with_each}
use Rattle.flow_model.specs.Facts.{event_at, is_event}
use Rattle.flow_model.specs.Constraint.{Constraint, Always, Impossible, Must, Never, Order, Not, And, Or}
use Rattle.flow_model.specs.Ways.{Normal, always, impossible, must, never, before, not_before, both, either, chain, broken_chain, normal_form, ways, free_way, is_free, ways_of_must, ways_of_never, ways_of_before, ways_of_not_before}
use Rattle.flow_model.specs.Folding.{named_events, is_among}
use Rattle.flow_model.proofs.Lists.{each_parts}
use Rattle.flow_model.proofs.MadeLists.{some_passes}
use Rattle.flow_laws.proofs.WaysLemmas.{event_from_test}

-- What the ways depend on

-- each event of the normal form has P
abbrev pub EachEvent : (ℕ → Type 0) → Normal → Type 0
EachEvent P always = Unit {0}
EachEvent P impossible = Unit {0}
EachEvent P (must e) = P e
EachEvent P (never e) = P e
EachEvent P (before a b) = P a × P b
EachEvent P (not_before a b) = P a × P b
EachEvent P (both x y) = EachEvent P x × EachEvent P y
EachEvent P (either x y) = EachEvent P x × EachEvent P y

events_of_chain : (P : ℕ → Type 0) (es : List ℕ) → Each P es → EachEvent P (chain es) × EachEvent P (broken_chain es)
events_of_chain P [] h = (tt, tt)
events_of_chain P (a ∷ []) (h, _) = (h, h)
events_of_chain P (a ∷ b ∷ []) (h, (k, _)) = ((h, k), (h, k))
events_of_chain P (a ∷ b ∷ c ∷ more) (h, (k, rest)) =
    let (whole, broken) = events_of_chain P (b ∷ c ∷ more) (k, rest) in (((h, k), whole), ((h, k), broken))

-- a normal form has no event but those that the constraint names
pub events_of_normal_form : (P : ℕ → Type 0) (c : Constraint) → Each P (named_events c) → EachEvent P (normal_form c true) × EachEvent P (normal_form c false)
events_of_normal_form P Always h = (tt, tt)
events_of_normal_form P Impossible h = (tt, tt)
events_of_normal_form P (Must e) (h, _) = (h, h)
events_of_normal_form P (Never e) (h, _) = (h, h)
events_of_normal_form P (Order es) h = events_of_chain P es h
events_of_normal_form P (Not c) h = let (met, broken) = events_of_normal_form P c h in (broken, met)
events_of_normal_form P (And c d) h =
    let (hc, hd) = each_parts P (named_events c) (named_events d) h in
    let (met_c, broken_c) = events_of_normal_form P c hc in
    let (met_d, broken_d) = events_of_normal_form P d hd in ((met_c, met_d), (broken_c, broken_d))
events_of_normal_form P (Or c d) h =
    let (hc, hd) = each_parts P (named_events c) (named_events d) h in
    let (met_c, broken_c) = events_of_normal_form P c hc in
    let (met_d, broken_d) = events_of_normal_form P d hd in ((met_c, met_d), (broken_c, broken_d))

-- where each event of it has the same leaf, the ways are the same
pub same_ways : (f g : ℕ → Option ℕ) (n : Normal) → EachEvent (λ e. f e ≡ g e) n → ways n f ≡ ways n g
same_ways f g always h = refl
same_ways f g impossible h = refl
same_ways f g (must e) h = ap ways_of_must h
same_ways f g (never e) h = ap ways_of_never h
same_ways f g (before a b) (h, k) = λ i. if a == b then [] else ways_of_before (h i) (k i)
same_ways f g (not_before a b) (h, k) = λ i. if a == b then free_way else ways_of_not_before (h i) (k i)
same_ways f g (both x y) (h, k) = let left = same_ways f g x h in let right = same_ways f g y k in λ i. each_with_each (λ v w. v ++ w) (left i) (right i)
same_ways f g (either x y) (h, k) =
    let left = same_ways f g x h in let right = same_ways f g y k in
    λ i. if is_free (left i) || is_free (right i) then free_way else left i ++ right i

-- a leaf with an event that the constraint names
pub named_leaf : (c : Constraint) (labels : List Label) (e n : ℕ) → e ∈ named_events c → is_event e (event_at labels n) ≡ true →
    is_among (named_events c) (event_at labels n) ≡ true
named_leaf c labels e n m t = subst (λ o. is_among (named_events c) o ≡ true) (sym (event_from_test e (event_at labels n) t))
    (some_passes (λ x. x == e) e (named_events c) m (eq-eqb e e refl))
