-- From leaf to leaf of a run that was found, and what the whole run shows.
use Rattle.std.proofs.Common.{◌≡◌, ◌≢◌, ◌≤◌, ◌<◌, ◌+◌, ◌*◌, ◌^◌, ◌==◌, ℕ, zero, suc, Bool, IsTrue, List, [], ◌∷◌, ◌++◌, length, take, drop, get_or, Option, Some, None, inl, inr, ⊎_elim, refl, sym, ap, subst, ◌∙◌, append-nil, arith, length-append, true≢false}
use Rattle.std.proofs.lemmas.Bool.{cases_Bool, eqb-true, eq-eqb}
use Rattle.std.proofs.lemmas.List.{length-take-le, take_all, take_more}
use Rattle.std.proofs.lemmas.List.Elements.{filter_map-append}
use Rattle.flow_model.specs.declared.history.Entry.{Entry}
use Rattle.flow_model.specs.declared.labels.Label.{Label}
use Rattle.flow_model.specs.declared.limits.TheConstants.{MOST_LEAVES}
use Rattle.flow_model.specs.Facts.{event_at, events_of}
use Rattle.flow_model.specs.Lists.{◌∈◌, Begins}
use Rattle.flow_model.specs.Run.{first_state, state_of, IsLegal}
use Rattle.flow_model.specs.Schema.{Schema, IsGood}
use Rattle.flow_model.specs.Takers.{no_takings, takings_of, IsTakenBy}
use Rattle.flow_laws.specs.Histories.{IsSound}
use Rattle.flow_laws.specs.WellFormed.{IsWellFormed}
use Rattle.flow_laws.proofs.NeverAtALoss.{sound_state}
use Rattle.flow_duty_laws.proofs.Each.{done_leaves_have_takers}
use Rattle.flow_duty_laws.proofs.Kept.{those_of}
use Rattle.flow_workflow.specs.Definition.{Definition, schema_of}
use Rattle.flow_policy.specs.Assigned.{Assigned}
use Rattle.flow_policy.proofs.RowLemmas.{around}
use Rattle.flow_core.specs.Answers.{next_claim}
use Rattle.flow_core.specs.Holding.{IsTakeable}
use Rattle.flow_core.specs.Run.{schema, now}
use Rattle.flow_roles.specs.Answers.{IsLeftTo}
use Rattle.flow_roles.specs.Having.{HasEvent}
use Rattle.flow_case.specs.Ruled.{Ruled}
use Rattle.flow_stages.specs.declared.question.Question.{Question}
use Rattle.flow_stages.specs.declared.question.Question.TheVariants.{Both, Unmanned}
use Rattle.flow_stages.specs.Asked.{IsEventOf}
use Rattle.flow_stages.specs.Fitting.{taker_by}
use Rattle.flow_questions.specs.Made.{AreDone, AreDoneIn, IsNext}
use Rattle.flow_questions.specs.Questions.{HasBoth, HoldsRoles, IsFoundBy, IsFresh, IsRunOfSame}
use Rattle.flow_questions.proofs.TraceLemmas.{BeginsTrace, begins_trace, next_of, one_more_leaf, trace_within}
use Rattle.flow_questions.proofs.DoneLemmas.{can_take, not_again}
use Rattle.flow_questions.proofs.FoundLemmas.{found_by_still}

-- ---- the loop

-- nothing is done in a run with no entry
none_done : (w : Schema) (to : ℕ → ℕ) → AreDoneIn w first_state no_takings [] to
none_done w to = record { going = refl; journal = refl; no_ban = refl; answered = tt; claims = refl; takers = λ n user event ne. ⊎_elim (λ (claim, out, m). absurd m) (λ (j, e). absurd j) }

pub first_done : (c : Ruled) (to : ℕ → ℕ) → IsFresh c → AreDone c [] to
first_done c to (fresh, room) = record {
  done = subst (λ (h : List Entry). AreDoneIn (schema c.desk.run) (state_of (schema c.desk.run) h) (takings_of h) [] to) (sym fresh) (none_done (schema c.desk.run) to);
  entries = omega (arith, ap length fresh);
  room = room;
}

pub first_claim : (c : Ruled) (to : ℕ → ℕ) → AreDone c [] to → 1 ≡ next_claim c.desk.run
first_claim c to done = omega (arith, done.done.claims)

-- some good trace begins with what is found
pub found_trace : (c : Ruled) → IsWellFormed (schema c.desk.run) → (question : Question) (leaves : List ℕ) (takers : List (ℕ × ℕ)) (event : ℕ) → IsFoundBy c question leaves takers event →
    BeginsTrace (schema c.desk.run) leaves
found_trace c f question leaves takers event found = begins_trace (schema c.desk.run) f found.compilation found.compiled found.kept found.of leaves found.shown.run.ready

pub is_next : (c : Ruled) → IsWellFormed (schema c.desk.run) → (question : Question) (leaves : List ℕ) (takers : List (ℕ × ℕ)) (event k claim d : ℕ) →
    IsFoundBy c question leaves takers event → k < length leaves → AreDone c (take k leaves) (taker_by takers) → claim ≡ next_claim c.desk.run →
    IsNext c (take k leaves) (taker_by takers) (get_or leaves k d) claim
is_next c f question leaves takers event k claim d found within done number = record {
  so_far = done;
  next = next_of (schema c.desk.run) c.desk.assigned.duties found.kept.plan question leaves (take k leaves) (drop (k + 1) leaves) (get_or leaves k d) (taker_by takers) (around leaves k d within)
      (found_trace c f question leaves takers event found) found.shown.run found.shown.fits;
  number = number;
}

events_few : (labels : List Label) (list : List ℕ) → length (events_of labels list) ≤ length list
events_few labels [] = omega arith
events_few labels (n ∷ list) = one (events_few labels list) (event_at labels n) refl
  where
    one : length (events_of labels list) ≤ length list → (o : Option ℕ) → event_at labels n ≡ o → length (events_of labels (n ∷ list)) ≤ suc (length list)
    one few None is = rw is (omega (arith, few))
    one few (Some e) is = rw is (omega (arith, few))

-- the number of a claim is small
pub small_claim : (c : Ruled) → IsWellFormed (schema c.desk.run) → (question : Question) (leaves : List ℕ) (takers : List (ℕ × ℕ)) (event k claim : ℕ) → IsFoundBy c question leaves takers event → k < length leaves →
    length (schema c.desk.run).labels ≤ MOST_LEAVES → AreDone c (take k leaves) (taker_by takers) → claim ≡ next_claim c.desk.run → claim + 1 < 2 ^ 32
small_claim c f question leaves takers event k claim found within small done number =
    let all = trace_within (schema c.desk.run) f leaves (found_trace c f question leaves takers event found) in
    let few = events_few (schema c.desk.run).labels (take k leaves) in
    let front = length-take-le k leaves (omega (arith, within)) in
    let most : length (schema c.desk.run).labels ≤ 4096 = small in
    let number' : claim ≡ length (now c.desk.run).claims + 1 = number in
    let below : claim ≤ 4097 = omega (arith, all, few, front, within, most, done.done.claims, number') in
    omega (arith, below)

pub next_number : (c new : Ruled) (front : List ℕ) (to : ℕ → ℕ) (leaf claim after : ℕ) → IsRunOfSame c new → AreDone c front to → AreDone new (front ++ leaf ∷ []) to →
    claim ≡ next_claim c.desk.run → after ≡ claim + length (events_of (schema new.desk.run).labels (leaf ∷ [])) → after ≡ next_claim new.desk.run
next_number c new front to leaf claim after (same, policy) done more number is =
    let labels : List Label = (schema new.desk.run).labels in
    let old : length (now c.desk.run).claims ≡ length (events_of labels front) =
    done.done.claims ∙ ap (λ (d : Definition). length (events_of (schema_of d).labels front)) (sym same) in
    let split : length (events_of labels (front ++ leaf ∷ [])) ≡ length (events_of labels front) + length (events_of labels (leaf ∷ [])) =
    ap length (filter_map-append (event_at labels) front (leaf ∷ [])) ∙ length-append (events_of labels front) (events_of labels (leaf ∷ [])) in
    let number' : claim ≡ length (now c.desk.run).claims + 1 = number in
    let out : after ≡ length (now new.desk.run).claims + 1 = omega (arith, old, split, number', is, more.done.claims) in
    out

pub well_formed_still : (old new : Ruled) → IsRunOfSame old new → IsWellFormed (schema old.desk.run) → IsWellFormed (schema new.desk.run)
well_formed_still old new (same, policy) = subst (λ (d : Definition). IsWellFormed (schema_of d)) (sym same)

pub small_still : (old new : Ruled) → IsRunOfSame old new → length (schema old.desk.run).labels ≤ MOST_LEAVES → length (schema new.desk.run).labels ≤ MOST_LEAVES
small_still old new (same, policy) = subst (λ (d : Definition). length (schema_of d).labels ≤ MOST_LEAVES) (sym same)

-- ---- the whole run

module _ (c : Ruled) (f : IsWellFormed (schema c.desk.run)) (legal : IsLegal (schema c.desk.run) c.desk.run.limit c.desk.run.history) (leaves : List ℕ) (takers : List (ℕ × ℕ)) (event : ℕ)
    (done : AreDone c leaves (taker_by takers)) where
  abbrev w : Schema
  w = schema c.desk.run

  abbrev to : ℕ → ℕ
  to = taker_by takers

  module _ (question : Question) (found : IsFoundBy c question leaves takers event) where
    taken_by : (e n : ℕ) → n ∈ leaves → event_at w.labels n ≡ Some e → IsTakenBy (now c.desk.run) (takings_of c.desk.run.history) n (to e)
    taken_by e n m ne =
        let (user, taken) = done_leaves_have_takers w f found.compiled.consistent c.desk.run.limit c.desk.run.history legal n e ne (subst (λ l. n ∈ l) (sym done.done.journal) m) in
        subst (λ u. IsTakenBy (now c.desk.run) (takings_of c.desk.run.history) n u) (done.done.takers n user e ne taken) taken

    has_it : (e : ℕ) → IsEventOf w leaves e → HasEvent c.desk e (to e)
    has_it e (n, m, ne) = (n, ne, taken_by e n m ne)

    sound : IsSound w (now c.desk.run)
    sound = sound_state w f found.compiled.consistent c.desk.run.limit c.desk.run.history legal c.desk.run.history ([], sym (append-nil c.desk.run.history))

  -- one user has both
  pub has_both : (one two users : ℕ) → HoldsRoles c.desk.assigned.duties users → IsFoundBy c (Both one two) leaves takers event →
      (user : ℕ) × (user < users) × HasBoth c.desk one two user
  has_both one two users roles found =
      let fits = found.shown.fits in
      let so = found.shown.so in
      let same : to one ≡ to two = (fits.beside one two (inl (inl refl)) (inl (inr refl))).one (inl (refl, refl)) in (
        to one,
        roles (to one) one (fits.role one (inl (inl refl))),
        (has_it (Both one two) found one so.0, subst (HasEvent c.desk two) (sym same) (has_it (Both one two) found two so.1)),
      )

  -- a leaf of the event can be taken, though nobody may
  pub can_be_taken : IsFoundBy c Unmanned leaves takers event →
      (leaf : ℕ) × (IsTakeable c.desk.run leaf × (event_at w.labels leaf ≡ Some event)) × ((user : ℕ) → ¬ (IsLeftTo c.desk user event))
  can_be_taken found =
      let ((leaf, next, of), nobody) = found.shown.so in
      let run = one_more_leaf found.kept.plan leaves leaf found.shown.run.ready next in
      let (trace, good, begins) = begins_trace w f found.compilation found.compiled found.kept found.of (leaves ++ leaf ∷ []) run in
      let room : length c.desk.run.history < c.desk.run.limit =
      omega (arith, trace_within w f (leaves ++ leaf ∷ []) (trace, good, begins), length-append leaves (leaf ∷ []), done.entries, done.room) in (
        leaf,
        (
          (
            done.done.going,
            room,
            can_take w f (now c.desk.run) (takings_of c.desk.run.history) (sound Unmanned found) (those_of w c.desk.run.history) leaves to done.done leaf trace good begins event of,
          ),
          of,
        ),
        λ user left. nobody (
          user,
          left.role,
          λ g (n, m, ng). record {
            same = λ e. absurd (not_again w f trace leaves n leaf event good begins m (ng ∙ ap Some (sym e)) of);
            apart = λ differ i tie is.
                left.apart i (g, n, tie, ng, subst (λ u. IsTakenBy (now c.desk.run) (takings_of c.desk.run.history) n u) (sym is) (taken_by Unmanned found g n m ng));
            together = λ differ i tie. elim (cases_Bool (user == to g)) [
              | inl equal ↦ eqb-true user (to g) equal
              | inr other ↦ absurd (left.together i (g, n, to g, tie, ng, taken_by Unmanned found g n m ng, λ is. true≢false (sym (eq-eqb user (to g) (sym is)) ∙ other)))
            ];
            one = absurd;
          },
        ),
      )

-- ---- one round of the loop

abbrev pub AreDoneSoFar : Ruled → Ruled → List ℕ → List (ℕ × ℕ) → ℕ → ℕ → Type 0
AreDoneSoFar old c leaves takers k claim = (question : Question) (event : ℕ) → IsFresh old → IsFoundBy old question leaves takers event →
    AreDone c (take k leaves) (taker_by takers) × (claim ≡ next_claim c.desk.run)

pub so_far_first : (old : Ruled) (leaves : List ℕ) (takers : List (ℕ × ℕ)) → AreDoneSoFar old old leaves takers 0 1
so_far_first old leaves takers question event fresh found = let done = first_done old (taker_by takers) fresh in (done, first_claim old (taker_by takers) done)

-- what doing a leaf does, and what is known of the first run
pub record IsRound (old c new : Ruled) (leaves : List ℕ) (takers : List (ℕ × ℕ)) (k d claim after : ℕ) (made : Bool) : Type 0 where
  pub well_formed : IsWellFormed (schema old.desk.run)
  pub small : length (schema old.desk.run).labels ≤ MOST_LEAVES
  pub same : IsRunOfSame old c
  pub still : IsRunOfSame c new
  pub within : k < length leaves
  pub so_far : AreDoneSoFar old c leaves takers k claim
  pub makes : (front : List ℕ) → IsNext c front (taker_by takers) (get_or leaves k d) claim → IsTrue made × AreDone new (front ++ get_or leaves k d ∷ []) (taker_by takers)

module _ (old c new : Ruled) (leaves : List ℕ) (takers : List (ℕ × ℕ)) (k d claim after : ℕ) (made : Bool) (r : IsRound old c new leaves takers k d claim after made)
    (question : Question) (event : ℕ) (fresh : IsFresh old) (found : IsFoundBy old question leaves takers event) where
  done : AreDone c (take k leaves) (taker_by takers)
  done = (r.so_far question event fresh found).0

  number : claim ≡ next_claim c.desk.run
  number = (r.so_far question event fresh found).1

  found_now : IsFoundBy c question leaves takers event
  found_now = found_by_still old c question leaves takers event r.same found

  well_formed : IsWellFormed (schema c.desk.run)
  well_formed = well_formed_still old c r.same r.well_formed

  pub round_made : IsTrue made × AreDone new (take k leaves ++ get_or leaves k d ∷ []) (taker_by takers)
  round_made = r.makes (take k leaves) (is_next c well_formed question leaves takers event k claim d found_now r.within done number)

  pub round_on : (claim + 1 < 2 ^ 32 → after ≡ claim + length (events_of (schema new.desk.run).labels (get_or leaves k d ∷ []))) →
      AreDone new (take (k + 1) leaves) (taker_by takers) × (after ≡ next_claim new.desk.run)
  round_on next =
      let small = small_claim c well_formed question leaves takers event k claim found_now r.within (small_still old c r.same r.small) done number in (
        subst (λ l. AreDone new l (taker_by takers)) (sym (take_more leaves k d r.within)) round_made.1,
        next_number c new (take k leaves) (taker_by takers) (get_or leaves k d) claim after r.still done round_made.1 number (next small),
      )

-- after the last round
pub all_done : (old c : Ruled) (leaves : List ℕ) (takers : List (ℕ × ℕ)) (k claim : ℕ) → AreDoneSoFar old c leaves takers k claim → length leaves ≤ k → (question : Question) (event : ℕ) →
    IsFresh old → IsFoundBy old question leaves takers event → AreDone c leaves (taker_by takers)
all_done old c leaves takers k claim so_far past question event fresh found =
    subst (λ l. AreDone c l (taker_by takers)) (take_all k leaves past) (so_far question event fresh found).0

-- ---- so a run that was found shows what is asked

-- the leaves of a run that was found are done where it was fresh
abbrev pub AreAllDone : Ruled → Ruled → List ℕ → List (ℕ × ℕ) → Bool → Type 0
AreAllDone old new leaves takers made = (question : Question) (event : ℕ) → IsFresh old → IsFoundBy old question leaves takers event → IsTrue made × AreDone new leaves (taker_by takers)

pub record IsAsked (old new : Ruled) (leaves : List ℕ) (takers : List (ℕ × ℕ)) (made : Bool) : Type 0 where
  pub well_formed : IsWellFormed (schema new.desk.run)
  pub legal : IsLegal (schema new.desk.run) new.desk.run.limit new.desk.run.history
  pub same : IsRunOfSame old new
  pub done : AreAllDone old new leaves takers made

pub shown_both : (old new : Ruled) (leaves : List ℕ) (takers : List (ℕ × ℕ)) (made : Bool) (event one two users : ℕ) → IsAsked old new leaves takers made →
    HoldsRoles old.desk.assigned.duties users → IsFoundBy old (Both one two) leaves takers event → IsFresh old → (user : ℕ) × (user < users) × HasBoth new.desk one two user
shown_both old new leaves takers made event one two users a roles found fresh =
    has_both new a.well_formed a.legal leaves takers event (a.done (Both one two) event fresh found).1 one two users
    (subst (λ (p : Assigned). HoldsRoles p.duties users) (sym a.same.1) roles) (found_by_still old new (Both one two) leaves takers event a.same found)

pub shown_unmanned : (old new : Ruled) (leaves : List ℕ) (takers : List (ℕ × ℕ)) (made : Bool) (event : ℕ) → IsAsked old new leaves takers made →
    IsFoundBy old Unmanned leaves takers event → IsFresh old →
    (leaf : ℕ) × (IsTakeable new.desk.run leaf × (event_at (schema new.desk.run).labels leaf ≡ Some event)) × ((user : ℕ) → ¬ (IsLeftTo new.desk user event))
shown_unmanned old new leaves takers made event a found fresh =
    can_be_taken new a.well_formed a.legal leaves takers event (a.done Unmanned event fresh found).1 (found_by_still old new Unmanned leaves takers event a.same found)
