-- Updates that are asked of a scout, one after another.
use Rattle.std.proofs.Common.{◌≡◌, ℕ, ◌+◌, ◌<◌, ◌≤◌, false, List, [], ◌∷◌, ◌++◌, length, length-append, Result, ap, ◌∙◌, subst, inl, inr, ⊎_elim, arith}
use Rattle.flow_ask.specs.declared.ask.Ask.{Ask}
use Rattle.flow_ask.specs.declared.made.Made.{Made}
use Rattle.flow_ask.specs.declared.refusal.Refusal.{Refusal}
use Rattle.flow_model.specs.declared.history.Step.TheVariants.{Did}
use Rattle.flow_model.specs.Schema.{Schema}
use Rattle.flow_model.specs.Run.{RunState, first_state, IsOpen, IsOpenIndex}
use Rattle.flow_core.specs.Run.{Run, schema, now, with_entry, HasEntryLeft}
use Rattle.flow_core.specs.Answers.{IsLeast}
use Rattle.flow_core.proofs.Steps.{state_after-append}
use Rattle.flow_names.specs.Meaning.{NoneHas}
use Rattle.flow_names.specs.Steps.{Does}
use Rattle.flow_names.specs.Tidy.{IsUpdateNow, IsOpenBehind, ClosesChoice, AreTidy, Tidies}

-- the greatest open place, where it is no less than the last
pub at_end : (w : Schema) (s : RunState) (place index : ℕ) → IsOpenIndex w s index → length s.journal ≤ place + 1 → IsOpen w s place → index ≡ place
at_end w s place index last short free =
    let most : place ≤ index = last.1 place free in
    let within : index < length s.journal = last.0.0 in
    omega arith

-- the journal with one leaf more
pub one_longer : (r after : Run) (by leaf : ℕ) → after ≡ with_entry r by (Did leaf) → length (now after).journal ≤ length (now r).journal + 1
one_longer r after by leaf e =
    let more = ap (λ (s : RunState). length s.journal) (state_after-append (schema r) first_state r.history (record { by = by; step = Did leaf })) in
    let same : length (now after).journal ≡ length (now (with_entry r by (Did leaf))).journal = ap (λ (m : Run). length (now m).journal) e in
    omega (arith, same, more, length-append (now r).journal (leaf ∷ []))

-- one update more
pub tidy_more : (r : Run) (by : ℕ) (leaves : List ℕ) (mid after : Run) (leaf : ℕ) → AreTidy r by leaves mid → IsLeast (IsUpdateNow mid) leaf →
    ¬ (IsOpenBehind mid after) → after ≡ with_entry mid by (Did leaf) → AreTidy r by (leaves ++ leaf ∷ []) after
tidy_more r by [] mid after leaf same least closes e =
    let P : Run → Type 0 = λ m. IsLeast (IsUpdateNow m) leaf × ¬ (ClosesChoice m by leaf) × (after ≡ with_entry m by (Did leaf)) in
    subst P same (least, subst (λ (m : Run). ¬ (IsOpenBehind mid m)) e closes, e)
tidy_more r by (x ∷ leaves) mid after leaf (l, c, more) least closes e =
    (l, c, tidy_more (with_entry r by (Did x)) by leaves mid after leaf more least closes e)

-- no update is left
pub tidy_none : {S : Type 0} (run : S → Run) (answers : S → Ask → ℕ → Result Made Refusal → S → Type 0) (r mid : Run) (by : ℕ) (leaves : List ℕ) (after : S) →
    AreTidy r by leaves mid → run after ≡ mid → NoneHas (IsUpdateNow mid) → Tidies run answers r by leaves after
tidy_none run answers r mid by leaves after tidy same none = (mid, tidy, inl (same, inl none))

-- the next was not done
pub tidy_refused : {S : Type 0} (run : S → Run) (answers : S → Ask → ℕ → Result Made Refusal → S → Type 0) (r mid : Run) (by leaf : ℕ) (leaves : List ℕ) (before after : S) →
    AreTidy r by leaves mid → run before ≡ mid → IsLeast (IsUpdateNow mid) leaf → Does run answers before by leaf false after → Tidies run answers r by leaves after
tidy_refused run answers r mid by leaf leaves before after tidy here least (same, why) = (
  mid,
  tidy,
  inl (
    same ∙ here,
    inr (⊎_elim (λ full. inl (subst (λ m. ¬ (HasEntryLeft m)) here full))
        (λ (answer, asked). inr (before, leaf, answer, here, least, asked)) why),
  ),
)

-- the next closes off a choice
pub tidy_closed : {S : Type 0} (run : S → Run) (answers : S → Ask → ℕ → Result Made Refusal → S → Type 0) (r mid : Run) (by leaf : ℕ) (leaves : List ℕ) (after : S) →
    AreTidy r by leaves mid → IsLeast (IsUpdateNow mid) leaf → IsOpenBehind mid (run after) → run after ≡ with_entry mid by (Did leaf) → Tidies run answers r by leaves after
tidy_closed run answers r mid by leaf leaves after tidy least free e =
    (mid, tidy, inr (leaf, least, subst (λ (m : Run). IsOpenBehind mid m) e free, e))
