-- What a legal history in which duties hold has to do with the runs of plans.
use Rattle.std.proofs.Common.{◌≡◌, ◌≢◌, ◌==◌, ℕ, Bool, true, List, [], ◌∷◌, ◌++◌, map, filter, Option, Some, None, inl, inr, ⊎_elim, refl, sym, ap, subst, ◌∙◌, append_assoc, append-nil, true≢false, arith}
use Rattle.std.proofs.lemmas.Bool.{cases_Bool, eqb-true, eq-eqb}
use Rattle.std.proofs.lemmas.List.Elements.{filter_map-append}
use Rattle.flow_model.specs.declared.history.Entry.{Entry}
use Rattle.flow_model.specs.declared.labels.Label.{Label}
use Rattle.flow_model.specs.Duties.{Duties, DutiesHold, IsLeft}
use Rattle.flow_model.specs.Facts.{State, event_at, is_event, events_of, after_leaf, Runs}
use Rattle.flow_model.specs.Folding.{folded_options, is_named}
use Rattle.flow_model.specs.FoldedReady.{IsFoldedRun}
use Rattle.flow_model.specs.Lists.{◌∈◌, Each, AreDistinct}
use Rattle.flow_model.specs.Resolution.{ChoiceOption}
use Rattle.flow_model.specs.Run.{Claim, RunState, is_current, current_leaves, state_of, CanTake, MayAllFollow, IsLegal}
use Rattle.flow_model.specs.Schema.{Schema, IsEventLeaf, start_of}
use Rattle.flow_model.specs.Takers.{Taking, Takings, takings_of, IsOut, IsTakenBy}
use Rattle.flow_model.proofs.Lists.{mem-append, mem_append_left, mem_append_right, each_member, each_from_members, distinct_left, distinct_apart}
use Rattle.flow_model.proofs.MadeLists.{of_map, mem-filter_map, same_order}
use Rattle.flow_laws.specs.Histories.{IsSound}
use Rattle.flow_laws.specs.WellFormed.{IsWellFormed}
use Rattle.flow_laws.proofs.NeverAtALoss.{sound_state}
use Rattle.flow_laws.proofs.SoundStates.{event_holds, runs-append}
use Rattle.flow_duty_laws.specs.TakerLaws.{last_on}
use Rattle.flow_duty_laws.proofs.Each.{done_leaves_have_takers}
use Rattle.flow_duty_laws.proofs.Last.{last_has_it, out_is_last}
use Rattle.flow_fold_laws.proofs.FoldedFollowingLemmas.{orders_unfold, folded_orders_may_follow}
use Rattle.flow_plan.specs.Compilation.{Compilation, IsCompiled}
use Rattle.flow_plan.specs.Options.{option_of, options_of, HasExecution, AreJustThose}
use Rattle.flow_plan.specs.Planned.{pairs_of}
use Rattle.flow_plan.specs.Sampled.{Sampled}
use Rattle.flow_stages.specs.declared.question.Question.{Question}
use Rattle.flow_stages.specs.declared.question.Question.TheVariants.{Both, Unmanned}
use Rattle.flow_stages.specs.Asked.{wanted_by, IsNamedBy, IsEventOf, IsToHave, FitsAfter, IsNeverSo}
use Rattle.flow_stages.specs.Fitting.{AreForOne}
use Rattle.flow_stages.proofs.Closure.{next_at, front_run}

-- ---- options that have an execution

has_kept : (os kept : List ChoiceOption) → AreJustThose HasExecution os kept → (o : ChoiceOption) → o ∈ os → HasExecution o → o ∈ kept
has_kept [] kept h o m x = absurd m
has_kept (p ∷ os) kept (inl (g, (rest, e, s))) o (inl i) x = subst (λ (l : List ChoiceOption). o ∈ l) (sym e) (inl i)
has_kept (p ∷ os) kept (inl (g, (rest, e, s))) o (inr m) x = subst (λ (l : List ChoiceOption). o ∈ l) (sym e) (inr (has_kept os rest s o m x))
has_kept (p ∷ os) kept (inr (n, s)) o (inl i) x = absurd (n (subst HasExecution i x))
has_kept (p ∷ os) kept (inr (n, s)) o (inr m) x = has_kept os kept s o m x

-- leaves that may all follow are a run of a plan behind the journal
plan_of : (w : Schema) → IsWellFormed w → (c : Compilation) → IsCompiled w c → (s : RunState) (list : List ℕ) → MayAllFollow w s list →
    (kept : Sampled) × (kept ∈ c.plans) × IsFoldedRun kept.plan.process (pairs_of kept.plan.tokens) (s.journal ++ list)
plan_of w f c compiled s list may =
    let (o, there, follow) = (orders_unfold (is_named w) w f (λ k h. h) s [] list).1 may in
    let (go, ready) = (folded_orders_may_follow (is_named w) w f (λ k h. h) s o there [] list).0 follow in
    let m : o ∈ options_of c.plans = has_kept (folded_options w) (options_of c.plans) compiled.plans o there go.has_trace in
    let (kept, k, e) = of_map (λ (s : Sampled). option_of s.plan) o c.plans m in
    (kept, k, subst (λ (q : ChoiceOption). IsFoldedRun q.resolution q.order (s.journal ++ list)) e (ready list (same_order list)))

-- ---- claims that are out

leaf_among : (p : Claim → Bool) (claims : List Claim) (claim : Claim) → claim ∈ claims → p claim ≡ true → claim.leaf ∈ map (λ (c : Claim). c.leaf) (filter p claims)
leaf_among p [] claim m h = absurd m
leaf_among p (x ∷ xs) claim m h = grind (arith, cases_Bool (p x), m, h, leaf_among p xs claim)

abbrev IsOn : (Claim → Bool) → List Claim → ℕ → Type 0
IsOn p claims n = (claim : Claim) × (claim ∈ claims) × (p claim ≡ true) × (claim.leaf ≡ n)

claim_on : (p : Claim → Bool) (claims : List Claim) (n : ℕ) → n ∈ map (λ (c : Claim). c.leaf) (filter p claims) → IsOn p claims n
claim_on p [] n m = absurd m
claim_on p (x ∷ xs) n m = elim (cases_Bool (p x)) [
  | inl is ↦ ⊎_elim (λ e. (x, inl refl, is, sym e)) (λ k. later (claim_on p xs n k)) (rw is at m)
  | inr out ↦ later (claim_on p xs n (rw out at m))
]
  where
    later : IsOn p xs n → IsOn p (x ∷ xs) n
    later (claim, there, is, on) = (claim, inr there, is, on)

last_there : (labels : List Label) (ts : List Taking) (e : ℕ) (u : Taking) → last_on labels ts e ≡ Some u → u ∈ ts
last_there labels [] e u is = cc
last_there labels (t ∷ ts) e u is = go (last_there labels ts e u) (last_on labels ts e) refl
  where
    go : (last_on labels ts e ≡ Some u → u ∈ ts) → (o : Option Taking) → last_on labels ts e ≡ o → u ∈ (t ∷ ts)
    go more (Some v) k = let same : Some v ≡ Some u = rw k at is in inr (more (k ∙ same))
    go more None k = elim (cases_Bool (is_event e (event_at labels t.leaf))) [
      | inl here ↦ (let same : Some t ≡ Some u = rw here at (rw k at is) in let it : t ≡ u = cc in inl (sym it))
      | inr other ↦ (let same : None ≡ Some u = rw other at (rw k at is) in cc)
    ]

abbrev taker_in : Option Taking → ℕ
taker_in None = 0
taker_in (Some t) = t.taker

-- event leaves run in every state
events_run : (w : Schema) (s : State) (list : List ℕ) → Each (IsEventLeaf w) list → Runs w.labels s list
events_run w s [] h = tt
events_run w s (n ∷ list) (h, t) = (event_holds w s n h, events_run w (after_leaf w.labels s n) list t)

-- two leaves of one event do not both stand in a list of distinct events, one before the end and one there
not_twice : (labels : List Label) (list : List ℕ) (n m event : ℕ) → AreDistinct (events_of labels (list ++ m ∷ [])) → n ∈ list →
    event_at labels n ≡ Some event → event_at labels m ≡ Some event → ⊥
not_twice labels list n m event d there ne me =
    distinct_apart (events_of labels list) (events_of labels (m ∷ [])) (subst AreDistinct (filter_map-append (event_at labels) list (m ∷ [])) d) event
    (mem-filter_map (event_at labels) n event list there ne) (mem-filter_map (event_at labels) m event (m ∷ []) (inl refl) me)

-- what may all follow the journal has other events than the journal, each once
events_apart : (w : Schema) → IsWellFormed w → (s : RunState) (list : List ℕ) → MayAllFollow w s list → AreDistinct (events_of w.labels (s.journal ++ list))
events_apart w f s list (o, m, follows) =
    let (t, trace, free, (rest, e)) = follows list (same_order list) in
    let whole : AreDistinct (events_of w.labels ((s.journal ++ list) ++ rest)) = subst (λ l. AreDistinct (events_of w.labels l)) e (f.unique t free.0.0) in
    distinct_left (events_of w.labels (s.journal ++ list)) (events_of w.labels rest)
    (subst AreDistinct (filter_map-append (event_at w.labels) (s.journal ++ list) rest) whole)

module _ (w : Schema) (f : IsWellFormed w) (c : Compilation) (compiled : IsCompiled w c) (d : Duties) (limit : ℕ) (history : List Entry) (legal : IsLegal w limit history)
    (hold : DutiesHold w d (state_of w history) (takings_of history)) where
  abbrev s : RunState
  s = state_of w history

  abbrev t : Takings
  t = takings_of history

  -- the leaves that are done or under a claim that is out
  abbrev all : List ℕ
  all = s.journal ++ current_leaves s

  sound : IsSound w s
  sound = sound_state w f compiled.consistent limit history legal history ([], sym (append-nil history))

  -- who took the last claim on the event
  abbrev to : ℕ → ℕ
  to e = taker_in (last_on w.labels t.given e)

  goes : (n user e : ℕ) → event_at w.labels n ≡ Some e → IsTakenBy s t n user → to e ≡ user
  goes n user e ne taken = let (claim, last) = last_has_it w f compiled.consistent limit history legal n user e ne taken in ap taker_in last

  -- what is taken is done or out
  there_of : (n user : ℕ) → IsTakenBy s t n user → n ∈ all
  there_of n user (inl (claim, o, m)) =
      mem_append_right n s.journal (current_leaves s) (subst (λ l. l ∈ current_leaves s) o.leaf_is (leaf_among (is_current s) s.claims o.claim o.given o.current))
  there_of n user (inr (j, e)) = mem_append_left n s.journal (current_leaves s) j

  out_taken : (n e : ℕ) → event_at w.labels n ≡ Some e → n ∈ current_leaves s → IsTakenBy s t n (to e)
  out_taken n e ne m =
      let (claim, there, is, on) = claim_on (is_current s) s.claims n m in
      let out : IsOut s claim.number n = record { claim = claim; given = there; current = is; number_is = refl; leaf_is = on } in
      let (user, last) = out_is_last w f compiled.consistent limit history legal claim.number n e ne out in
      let taken : IsTakenBy s t n user = inl (claim.number, out, last_there w.labels t.given e _ last) in
      subst (IsTakenBy s t n) (sym (goes n user e ne taken)) taken

  -- each event leaf that is done or out is taken
  taken_by : (n e : ℕ) → event_at w.labels n ≡ Some e → n ∈ all → IsTakenBy s t n (to e)
  taken_by n e ne m = ⊎_elim
      (λ j. let (user, taken) = done_leaves_have_takers w f compiled.consistent limit history legal n e ne j in subst (IsTakenBy s t n) (sym (goes n user e ne taken)) taken)
      (out_taken n e ne) (mem-append n s.journal (current_leaves s) m)

  runs : Runs w.labels (start_of w) all
  runs = runs-append w.labels (start_of w) s.journal (current_leaves s) sound.runs (events_run w _ (current_leaves s) (each_from_members (IsEventLeaf w) (current_leaves s) (λ n m.
      let (claim, there, is, on) = claim_on (is_current s) s.claims n m in
      subst (IsEventLeaf w) on (each_member (λ (claim : Claim). IsEventLeaf w claim.leaf) s.claims sound.on_events claim there))))

  other_leaf : (n m e g : ℕ) → event_at w.labels n ≡ Some e → event_at w.labels m ≡ Some g → e ≢ g → n ≢ m
  other_leaf n m e g ne mg apart same = let both : Some e ≡ Some g = sym ne ∙ ap (event_at w.labels) same ∙ mg in let one : e ≡ g = cc in apart one

  -- the takers may have the events
  fits : (question : Question) → ((e : ℕ) → IsNamedBy question e → IsEventOf w all e) → ((e g : ℕ) → AreForOne (wanted_by question) e g → to e ≡ to g) → FitsAfter w d question all to
  fits question named one =
      let of = λ (e : ℕ) (h : IsToHave w question all e). ⊎_elim (named e) (λ of. of) h in record {
        role = λ e h. let (n, m, ne) = of e h in hold.allowed n (to e) e ne (taken_by n e ne m);
        beside = λ e g h k.
            let (n, m, ne) = of e h in
            let (l, j, lg) = of g k in record {
              same = λ is. ap to is;
              apart = λ other i tie. hold.apart n l (to e) (to g) e g i ne lg (other_leaf n l e g ne lg other) tie (taken_by n e ne m) (taken_by l g lg j);
              together = λ other i tie. hold.together n l (to e) (to g) e g i ne lg (other_leaf n l e g ne lg other) tie (taken_by n e ne m) (taken_by l g lg j);
              one = one e g;
            };
      }

  -- ---- what a search of all plans tells

  pub never_both : (one two user : ℕ) → ((kept : Sampled) → kept ∈ c.plans → IsNeverSo w d kept.plan (Both one two)) →
      (n : ℕ) × (event_at w.labels n ≡ Some one) × IsTakenBy s t n user → (n : ℕ) × (event_at w.labels n ≡ Some two) × IsTakenBy s t n user → ⊥
  never_both one two user never (n, ne, taken) (m, me, also) =
      let (kept, there, run) = plan_of w f c compiled s (current_leaves s) sound.extends in
      let first : IsEventOf w all one = (n, there_of n user taken, ne) in
      let second : IsEventOf w all two = (m, there_of m user also, me) in
      let is : to one ≡ user = goes n user one ne taken in
      let too : to two ≡ user = goes m user two me also in
      never kept there all to (record { ready = run; runs = runs })
      (fits (Both one two) (λ e. ⊎_elim (λ same. subst (IsEventOf w all) (sym same) first) (λ same. subst (IsEventOf w all) (sym same) second))
      (λ e g. ⊎_elim (λ (a, b). ap to a ∙ is ∙ sym too ∙ sym (ap to b)) (λ (a, b). ap to a ∙ too ∙ sym is ∙ sym (ap to b))))
      (first, second)

  pub somebody_left : ((kept : Sampled) → kept ∈ c.plans → IsNeverSo w d kept.plan Unmanned) → (leaf event : ℕ) → CanTake w s leaf → event_at w.labels leaf ≡ Some event →
      (user : ℕ) × IsLeft w d s t user event
  somebody_left never leaf event can of =
      let (kept, there, run) = plan_of w f c compiled s (current_leaves s ++ leaf ∷ []) can.2 in
      let split : s.journal ++ (current_leaves s ++ leaf ∷ []) ≡ all ++ leaf ∷ [] = sym (append_assoc s.journal (current_leaves s) (leaf ∷ [])) in
      let whole = subst (IsFoldedRun kept.plan.process (pairs_of kept.plan.tokens)) split run in
      let apart = subst (λ l. AreDistinct (events_of w.labels l)) split (events_apart w f s (current_leaves s ++ leaf ∷ []) can.2) in
      let (user, role, beside) = never kept there all to (record { ready = front_run kept.plan all (leaf ∷ []) whole; runs = runs })
      (fits Unmanned (λ e none. absurd none) (λ e g none. absurd none)) leaf event (next_at kept.plan all [] leaf whole) of in (
        user,
        record {
          role = role;
          apart = λ i (g, n, tie, ng, taken).
              let goes_with = beside g (n, there_of n user taken, ng) in
              elim (cases_Bool (event == g)) [
                | inl same ↦ not_twice w.labels all n leaf event apart (there_of n user taken) (ng ∙ ap Some (sym (eqb-true event g same))) of
                | inr other ↦ goes_with.apart (λ same. true≢false (sym (eq-eqb event g same) ∙ other)) i tie (sym (goes n user g ng taken))
              ];
          together = λ i (g, n, other, tie, ng, taken, differ).
              let goes_with = beside g (n, there_of n other taken, ng) in
              let is : to g ≡ other = goes n other g ng taken in
              elim (cases_Bool (event == g)) [
                | inl same ↦ differ (sym (goes_with.same (eqb-true event g same) ∙ is))
                | inr more ↦ differ (sym (goes_with.together (λ same. true≢false (sym (eq-eqb event g same) ∙ more)) i tie ∙ is))
              ];
        },
      )
