-- Users tried for events one after another, and which users are still to come.
use Rattle.std.proofs.Common.{◌≡◌, ◌<◌, ◌≤◌, ◌+◌, ◌⊎◌, ℕ, zero, suc, List, [], ◌∷◌, ◌++◌, length, take, get_or, slice_get, Some, inl, inr, ⊎_elim, refl, sym, ap, subst, ◌∙◌, arith}
use Rattle.std.proofs.lemmas.Bool.{cases_lt}
use Rattle.flow_model.specs.Duties.{Duties}
use Rattle.flow_model.specs.Lists.{◌∈◌, Each}
use Rattle.flow_model.proofs.Lists.{each_member, each_from_members, mem-slice_get}
use Rattle.flow_stages.specs.declared.wanted.Wanted.{Wanted}
use Rattle.flow_stages.specs.declared.wanted.Wanted.TheVariants.{Anybody, OneFor, NobodyFor}
use Rattle.flow_stages.specs.Fitting.{HoldsRoles, GoesWith, MayHave, Fits, HasSomebody, Misses, MissesBy, AreUntied, IsFar}
use Rattle.flow_stages.specs.Trying.{ComesAt, IsToCome, AreOfFirst}

-- the users go to the events of the takers as these do
abbrev pub Agrees : List (ℕ × ℕ) → (ℕ → ℕ) → Type 0
Agrees taken to = Each (λ (t : ℕ × ℕ). to t.0 ≡ t.1) taken

-- what is so of the rest, where the users are the takers
pub comes_as : (taken : List (ℕ × ℕ)) (R S X : Type 0) (to : ℕ → ℕ) → (Agrees taken to → R → X ⊎ S) → ComesAt taken R to → X ⊎ ComesAt taken S to
comes_as [] R S X to f r = f tt r
comes_as (t ∷ taken) R S X to f (inl less) = inr (inl less)
comes_as (t ∷ taken) R S X to f (inr (e, r)) = ⊎_elim inl (λ s. inr (inr (e, s))) (comes_as taken R S X to (λ all. f (e, all)) r)

-- the same, where the users are not the takers, or these with the rest
pub comes_only : (taken : List (ℕ × ℕ)) (R S : Type 0) (to : ℕ → ℕ) → (Agrees taken to → R → S) → ComesAt taken R to → ComesAt taken S to
comes_only [] R S to f r = f tt r
comes_only (t ∷ taken) R S to f (inl less) = inl less
comes_only (t ∷ taken) R S to f (inr (e, r)) = inr (e, comes_only taken R S to (λ all. f (e, all)) r)

-- one taker more
pub comes_with : (taken : List (ℕ × ℕ)) (t : ℕ × ℕ) (R : Type 0) (to : ℕ → ℕ) → ComesAt taken ((t.1 < to t.0) ⊎ ((to t.0 ≡ t.1) × R)) to → ComesAt (taken ++ t ∷ []) R to
comes_with [] t R to h = h
comes_with (x ∷ taken) t R to (inl less) = inl less
comes_with (x ∷ taken) t R to (inr (e, h)) = inr (e, comes_with taken t R to h)

-- one taker less
pub comes_without : (taken : List (ℕ × ℕ)) (t : ℕ × ℕ) (R : Type 0) (to : ℕ → ℕ) → ComesAt (taken ++ t ∷ []) R to → ComesAt taken ((t.1 < to t.0) ⊎ ((to t.0 ≡ t.1) × R)) to
comes_without [] t R to h = h
comes_without (x ∷ taken) t R to (inl less) = inl less
comes_without (x ∷ taken) t R to (inr (e, h)) = inr (e, comes_without taken t R to h)

-- ---- takers of the first events

pub first_without : (events : List ℕ) (taken : List (ℕ × ℕ)) (t : ℕ × ℕ) → AreOfFirst events (taken ++ t ∷ []) → AreOfFirst events taken × (get_or events (length taken) 0 ≡ t.0)
first_without [] [] t h = absurd h
first_without (e ∷ events) [] t (s, h) = (tt, sym s)
first_without [] (x ∷ taken) t h = absurd h
first_without (e ∷ events) (x ∷ taken) t (s, h) = let (a, b) = first_without events taken t h in ((s, a), b)

pub first_with : (events : List ℕ) (taken : List (ℕ × ℕ)) (e user : ℕ) → AreOfFirst events taken → slice_get events (length taken) ≡ Some e → AreOfFirst events (taken ++ (e, user) ∷ [])
first_with [] [] e user h at = cc
first_with (x ∷ events) [] e user h at = let f : Some x ≡ Some e = at in let same : x ≡ e = cc in (sym same, tt)
first_with [] (t ∷ taken) e user h at = absurd h
first_with (x ∷ events) (t ∷ taken) e user (s, h) at = (s, first_with events taken e user h at)

pub next_is : (events : List ℕ) (k e : ℕ) → slice_get events k ≡ Some e → get_or events k 0 ≡ e
next_is [] k e at = cc
next_is (x ∷ events) zero e at = let f : Some x ≡ Some e = at in cc
next_is (x ∷ events) (suc k) e at = next_is events k e at

pub event_of : (events : List ℕ) (taken : List (ℕ × ℕ)) → AreOfFirst events taken → (t : ℕ × ℕ) → t ∈ taken → t.0 ∈ events
event_of [] [] h t m = absurd m
event_of (e ∷ events) [] h t m = absurd m
event_of [] (x ∷ taken) h t m = absurd h
event_of (e ∷ events) (x ∷ taken) (s, h) t (inl is) = inl (ap (λ (p : ℕ × ℕ). p.0) is ∙ s)
event_of (e ∷ events) (x ∷ taken) (s, h) t (inr m) = inr (event_of events taken h t m)

pub taker_of : (events : List ℕ) (taken : List (ℕ × ℕ)) → AreOfFirst events taken → length events ≤ length taken → (e : ℕ) → e ∈ events → (t : ℕ × ℕ) × (t ∈ taken) × (t.0 ≡ e)
taker_of [] taken h all e m = absurd m
taker_of (x ∷ events) [] h all e m = absurd (omega arith)
taker_of (x ∷ events) (t ∷ taken) (s, h) all e (inl is) = (t, inl refl, s ∙ sym is)
taker_of (x ∷ events) (t ∷ taken) (s, h) all e (inr m) = let (u, there, is) = taker_of events taken h (omega arith) e m in (u, inr there, is)

taker_near : (events : List ℕ) (taken : List (ℕ × ℕ)) → AreOfFirst events taken → (e : ℕ) → e ∈ take (length taken) events → (t : ℕ × ℕ) × (t ∈ taken) × (t.0 ≡ e)
taker_near [] [] h e m = absurd m
taker_near (x ∷ events) [] h e m = absurd m
taker_near [] (t ∷ taken) h e m = absurd h
taker_near (x ∷ events) (t ∷ taken) (s, h) e (inl is) = (t, inl refl, s ∙ sym is)
taker_near (x ∷ events) (t ∷ taken) (s, h) e (inr m) = let (u, there, is) = taker_near events taken h e m in (u, inr there, is)

module _ (d : Duties) (wanted : Wanted) (events : List ℕ) (to : ℕ → ℕ) (taken : List (ℕ × ℕ)) (first : AreOfFirst events taken) where
  -- users that fit may have each event beside the takers, where those are the same
  pub may_have_it : Fits d wanted (λ e. e ∈ events) to → (e : ℕ) → e ∈ events → Agrees taken to → MayHave d wanted taken e (to e)
  may_have_it fits e m agrees = record {
    role = fits.role e m;
    beside = each_from_members (λ (t : ℕ × ℕ). GoesWith d wanted e (to e) t.0 t.1) taken (λ t there.
        subst (λ u. GoesWith d wanted e (to e) t.0 u) (each_member (λ (t : ℕ × ℕ). to t.0 ≡ t.1) taken agrees t there) (fits.beside e t.0 m (event_of events taken first t there)));
  }

  -- a taker more
  pub given : (e user from : ℕ) → Fits d wanted (λ e. e ∈ events) to → slice_get events (length taken) ≡ Some e →
      ((v : ℕ) → from ≤ v → v < user → ¬ (MayHave d wanted taken e v)) → IsToCome events taken from to → IsToCome events (taken ++ (e, user) ∷ []) 0 to
  given e user from fits at none comes =
      let is : get_or events (length taken) 0 ≡ e = next_is events (length taken) e at in
      let there : e ∈ events = mem-slice_get events (length taken) e at in
      let next : ℕ = get_or events (length (taken ++ (e, user) ∷ [])) 0 in
      comes_with taken (e, user) (0 ≤ to next) to (comes_only taken (from ≤ to (get_or events (length taken) 0)) ((user < to e) ⊎ ((to e ≡ user) × (0 ≤ to next))) to (λ agrees past.
      let low : from ≤ to e = subst (λ x. from ≤ to x) is past in
      ⊎_elim (λ less. absurd (none (to e) low less (may_have_it fits e there agrees)))
      (λ more. ⊎_elim (λ under. inl under) (λ over. inr (omega (arith, more, over), omega arith)) (cases_lt user (to e)))
      (cases_lt (to e) user)) comes)

  -- no taker for the next event
  pub not_given : (e users from : ℕ) → HoldsRoles d users → Fits d wanted (λ e. e ∈ events) to → slice_get events (length taken) ≡ Some e →
      ((v : ℕ) → from ≤ v → v < users → ¬ (MayHave d wanted taken e v)) → IsToCome events taken from to → ComesAt taken ⊥ to
  not_given e users from roles fits at none comes =
      let is : get_or events (length taken) 0 ≡ e = next_is events (length taken) e at in
      let there : e ∈ events = mem-slice_get events (length taken) e at in
      comes_only taken (from ≤ to (get_or events (length taken) 0)) ⊥ to (λ agrees past.
      none (to e) (subst (λ x. from ≤ to x) is past) (roles (to e) e (fits.role e there)) (may_have_it fits e there agrees)) comes

  -- the event has a taker, or that does not bear on who may take the other one
  somebody : (event : ℕ) → ((f : ℕ) → f ∈ events → ((t : ℕ × ℕ) × (t ∈ taken) × (t.0 ≡ f)) ⊎ AreUntied d event f) → Agrees taken to →
      (user : ℕ) × MayHave d Anybody taken event user → HasSomebody d event (λ e. e ∈ events) to
  somebody event all agrees (user, may) = (
    user,
    may.role,
    λ f m. ⊎_elim (λ (t, there, is).
        let goes = each_member (λ (t : ℕ × ℕ). GoesWith d Anybody event user t.0 t.1) taken may.beside t there in
        let taker : t.1 ≡ to f = sym (each_member (λ (t : ℕ × ℕ). to t.0 ≡ t.1) taken agrees t there) ∙ ap to is in
        subst (λ u. GoesWith d Anybody event user f u) taker (subst (λ x. GoesWith d Anybody event user x t.1) is goes))
        (λ (untied : AreUntied d event f). record {
          same = λ is. absurd (untied.differ is);
          apart = λ other i tie. absurd (untied.apart i tie);
          together = λ other i tie. absurd (untied.together i tie);
          one = λ none. absurd none;
        }) (all f m),
  )

  -- those that bear on it have takers, which are not what is wanted
  pub missed : (from : ℕ) → ((f : ℕ) → f ∈ events → ((t : ℕ × ℕ) × (t ∈ taken) × (t.0 ≡ f)) ⊎ IsFar d wanted f) → MissesBy d wanted taken → IsToCome events taken from to →
      Misses d wanted (λ e. e ∈ events) to ⊎ ComesAt taken ⊥ to
  missed from all misses comes = comes_as taken (from ≤ to (get_or events (length taken) 0)) ⊥ (Misses d wanted (λ e. e ∈ events) to) to (λ agrees past. inl (by wanted all misses agrees)) comes
    where
      by : (v : Wanted) → ((f : ℕ) → f ∈ events → ((t : ℕ × ℕ) × (t ∈ taken) × (t.0 ≡ f)) ⊎ IsFar d v f) → MissesBy d v taken → Agrees taken to → Misses d v (λ e. e ∈ events) to
      by Anybody all misses agrees = misses
      by (OneFor one two) all misses agrees = misses
      by (NobodyFor event) all misses agrees = somebody event all agrees misses

  -- all have takers
  pub all_taken : length events ≤ length taken → (f : ℕ) → f ∈ events → ((t : ℕ × ℕ) × (t ∈ taken) × (t.0 ≡ f)) ⊎ IsFar d wanted f
  all_taken all f m = inl (taker_of events taken first all f m)

  -- the first ones have takers
  pub near_taken : (near : ℕ) → length taken ≡ near → ((f : ℕ) → f ∈ events → (f ∈ take near events) ⊎ IsFar d wanted f) →
      (f : ℕ) → f ∈ events → ((t : ℕ × ℕ) × (t ∈ taken) × (t.0 ≡ f)) ⊎ IsFar d wanted f
  near_taken near count far f m = ⊎_elim (λ k. inl (taker_near events taken first f (subst (λ n. f ∈ take n events) (sym count) k))) (λ off. inr off) (far f m)

-- a taker less
pub taken_back : (events : List ℕ) (to : ℕ → ℕ) (taken : List (ℕ × ℕ)) (e user next : ℕ) → AreOfFirst events (taken ++ (e, user) ∷ []) → next ≤ user + 1 →
    ComesAt (taken ++ (e, user) ∷ []) ⊥ to → IsToCome events taken next to
taken_back events to taken e user next first low comes =
    let (before, is) = first_without events taken (e, user) first in
    comes_only taken ((user < to e) ⊎ ((to e ≡ user) × ⊥)) (next ≤ to (get_or events (length taken) 0)) to
    (λ agrees past. subst (λ x. next ≤ to x) (sym is) (⊎_elim (λ less. omega (arith, low, less)) (λ none. absurd none.1) past))
    (comes_without taken (e, user) ⊥ to comes)
