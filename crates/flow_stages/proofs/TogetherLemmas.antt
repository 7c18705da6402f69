-- Takers who may have their events, each beside each.
use Rattle.std.proofs.Common.{◌≡◌, ◌==◌, ◌≤◌, ℕ, true, false, List, [], ◌∷◌, ◌++◌, length, inl, inr, ⊎_elim, refl, sym, ap, subst, ◌∙◌, true≢false}
use Rattle.std.proofs.lemmas.Bool.{cases_Bool, eqb-true, eq-eqb}
use Rattle.flow_model.specs.Duties.{Duties, HasRole, IsConstraintOf}
use Rattle.flow_model.specs.Lists.{◌∈◌}
use Rattle.flow_model.proofs.Lists.{mem-append, mem_append_left, only_one, each_member, each_from_members}
use Rattle.flow_stages.specs.declared.wanted.Wanted.{Wanted}
use Rattle.flow_stages.specs.declared.wanted.Wanted.TheVariants.{Anybody, OneFor, NobodyFor}
use Rattle.flow_stages.specs.Fitting.{GoesWith, AreForOne, MayHave, Fits, Misses, MissesBy, taker_by}
use Rattle.flow_stages.specs.Trying.{AreOfFirst, AreTogether}
use Rattle.flow_stages.proofs.TryingLemmas.{event_of, taker_of}

-- ---- one beside the other, and the other beside the one

turned : (pairs : List (ℕ × ℕ)) (i e f : ℕ) → IsConstraintOf pairs i e f → IsConstraintOf pairs i f e
turned pairs i e f (inl a) = inr a
turned pairs i e f (inr b) = inl b

for_one_turned : (wanted : Wanted) (e f : ℕ) → AreForOne wanted e f → AreForOne wanted f e
for_one_turned (OneFor one two) e f (inl (a, b)) = inr (b, a)
for_one_turned (OneFor one two) e f (inr (a, b)) = inl (b, a)
for_one_turned Anybody e f none = none
for_one_turned (NobodyFor other) e f none = none

pub goes_back : (d : Duties) (wanted : Wanted) (e u f v : ℕ) → GoesWith d wanted e u f v → GoesWith d wanted f v e u
goes_back d wanted e u f v goes = record {
  same = λ is. sym (goes.same (sym is));
  apart = λ differ i tie is. goes.apart (λ s. differ (sym s)) i (turned d.separate i f e tie) (sym is);
  together = λ differ i tie. sym (goes.together (λ s. differ (sym s)) i (turned d.bound i f e tie));
  one = λ for_one. sym (goes.one (for_one_turned wanted f e for_one));
}

goes_itself : (d : Duties) (wanted : Wanted) (e u : ℕ) → GoesWith d wanted e u e u
goes_itself d wanted e u = record { same = λ is. refl; apart = λ differ. absurd (differ refl); together = λ differ. absurd (differ refl); one = λ for_one. refl }

-- ---- one taker more, one less

pub none_together : (d : Duties) (wanted : Wanted) → AreTogether d wanted []
none_together d wanted = record { role = λ t m. absurd m; beside = λ t u m. absurd m }

pub together_with : (d : Duties) (wanted : Wanted) (taken : List (ℕ × ℕ)) (e user : ℕ) → AreTogether d wanted taken → MayHave d wanted taken e user →
    AreTogether d wanted (taken ++ (e, user) ∷ [])
together_with d wanted taken e user are may = record {
  role = λ t m. ⊎_elim (are.role t) (λ new. subst (λ (x : ℕ × ℕ). HasRole d x.1 x.0) (sym (only_one t (e, user) new)) may.role) (mem-append t taken ((e, user) ∷ []) m);
  beside = λ t u m k. ⊎_elim
      (λ old. ⊎_elim (λ also. are.beside t u old also)
      (λ new. subst (λ (x : ℕ × ℕ). GoesWith d wanted t.0 t.1 x.0 x.1) (sym (only_one u (e, user) new)) (goes_back d wanted e user t.0 t.1 (goes t old))) (mem-append u taken ((e, user) ∷ []) k))
      (λ new. subst (λ (x : ℕ × ℕ). GoesWith d wanted x.0 x.1 u.0 u.1) (sym (only_one t (e, user) new))
      (⊎_elim (λ also. goes u also)
      (λ it. subst (λ (x : ℕ × ℕ). GoesWith d wanted e user x.0 x.1) (sym (only_one u (e, user) it)) (goes_itself d wanted e user)) (mem-append u taken ((e, user) ∷ []) k)))
      (mem-append t taken ((e, user) ∷ []) m);
}
  where
    goes : (t : ℕ × ℕ) → t ∈ taken → GoesWith d wanted e user t.0 t.1
    goes t m = each_member (λ (t : ℕ × ℕ). GoesWith d wanted e user t.0 t.1) taken may.beside t m

pub together_less : (d : Duties) (wanted : Wanted) (taken rest : List (ℕ × ℕ)) → AreTogether d wanted (taken ++ rest) → AreTogether d wanted taken
together_less d wanted taken rest are = record {
  role = λ t m. are.role t (mem_append_left t taken rest m);
  beside = λ t u m k. are.beside t u (mem_append_left t taken rest m) (mem_append_left u taken rest k);
}

-- ---- who takes an event

taker_here : (x : ℕ × ℕ) (taken : List (ℕ × ℕ)) (e : ℕ) → (x.0 == e) ≡ true → taker_by (x ∷ taken) e ≡ x.1
taker_here x taken e here = rw here refl

taker_later : (x : ℕ × ℕ) (taken : List (ℕ × ℕ)) (e : ℕ) → (x.0 == e) ≡ false → taker_by (x ∷ taken) e ≡ taker_by taken e
taker_later x taken e other = rw other refl

first_there : (taken : List (ℕ × ℕ)) (t : ℕ × ℕ) (e : ℕ) → t ∈ taken → t.0 ≡ e → (e, taker_by taken e) ∈ taken
first_there [] t e m is = absurd m
first_there (x ∷ taken) t e m is = elim (cases_Bool (x.0 == e)) [
  | inl here ↦ (let same : x.0 ≡ e = eqb-true x.0 e here in inl (ap (λ u. (e, u)) (taker_here x taken e here) ∙ ap (λ k. (k, x.1)) (sym same)))
  | inr other ↦ inr (subst (λ u. (e, u) ∈ taken) (sym (taker_later x taken e other)) (first_there taken t e (⊎_elim (λ it. absurd (differ other (ap (λ (p : ℕ × ℕ). p.0) (sym it) ∙ is))) (λ k. k) m) is))
]
  where
    differ : (x.0 == e) ≡ false → x.0 ≡ e → ⊥
    differ off same = true≢false (sym (eq-eqb x.0 e same) ∙ off)

module _ (d : Duties) (wanted : Wanted) (events : List ℕ) (taken : List (ℕ × ℕ)) (first : AreOfFirst events taken) (all : length events ≤ length taken) (are : AreTogether d wanted taken) where
  there : (e : ℕ) → e ∈ events → (e, taker_by taken e) ∈ taken
  there e m = let (t, k, is) = taker_of events taken first all e m in first_there taken t e k is

  -- they fit the events
  pub takers_fit : Fits d wanted (λ e. e ∈ events) (taker_by taken)
  takers_fit = record {
    role = λ e m. are.role (e, taker_by taken e) (there e m);
    beside = λ e f m k. are.beside (e, taker_by taken e) (f, taker_by taken f) (there e m) (there f k);
  }

  -- the takers are what is wanted
  pub takers_meet : ¬ (MissesBy d wanted taken) → ¬ (Misses d wanted (λ e. e ∈ events) (taker_by taken))
  takers_meet = by wanted are
    where
      by : (v : Wanted) → AreTogether d v taken → ¬ (MissesBy d v taken) → ¬ (Misses d v (λ e. e ∈ events) (taker_by taken))
      by Anybody are met misses = misses
      by (OneFor one two) are met misses = misses
      by (NobodyFor event) are met (user, role, beside) = met (
        user,
        record {
          role = role;
          beside = each_from_members (λ (t : ℕ × ℕ). GoesWith d Anybody event user t.0 t.1) taken (λ t m.
              let of : t.0 ∈ events = event_of events taken first t m in
              let same : taker_by taken t.0 ≡ t.1 = (are.beside (t.0, taker_by taken t.0) t (first_there taken t t.0 m refl) m).same refl in
              subst (λ u. GoesWith d Anybody event user t.0 u) same (beside t.0 of));
        },
      )
