-- How long the journal is after each entry, and which entry put the leaf at a place of it.
use Rattle.std.proofs.Common.{◌≡◌, ◌<◌, ◌≤◌, ◌+◌, ◌-◌, ℕ, zero, suc, List, [], ◌∷◌, ◌++◌, length, take, get_or, Option, Some, None, refl, sym, ap, subst, ◌∙◌, inl, inr, arith}
use Rattle.std.specs.Prelude.{MatchOption}
use Rattle.std.proofs.lemmas.Bool.{cases_lt}
use Rattle.std.proofs.lemmas.List.{length-take, length_push, take_more, take_all, get_or-take, get_or_append_left, get_or_push}
use Rattle.flow_model.specs.declared.history.Entry.{Entry}
use Rattle.flow_model.specs.declared.history.Step.{Step}
use Rattle.flow_model.specs.declared.history.Step.TheVariants.{Took, Done, Failed, Late, Did, Rewound, Committed}
use Rattle.flow_model.specs.declared.history.FailEffect.TheVariants.{Switched, Kept}
use Rattle.flow_model.specs.Lists.{◌∈◌}
use Rattle.flow_model.specs.Schema.{Schema}
use Rattle.flow_model.specs.Run.{RunState, first_state, leaf_of_claim, next_state, state_after, state_of}
use Rattle.flow_reason.specs.DoneBy.{journal_at, IsDoneBy, HasGrown}

-- an entry in the place of none
abbrev pub none : Entry
none = record { by = 0; step = Committed }

state_after-append : (w : Schema) (s : RunState) (history : List Entry) (entry : Entry) →
    state_after w s (history ++ entry ∷ []) ≡ next_state w (state_after w s history) entry.step
state_after-append w s [] entry = refl
state_after-append w s (e ∷ history) entry = state_after-append w (next_state w s e.step) history entry

-- the state after one entry more
pub state_more : (w : Schema) (history : List Entry) (i : ℕ) → i < length history →
    state_of w (take (i + 1) history) ≡ next_state w (state_of w (take i history)) (get_or history i none).step
state_more w history i below =
    ap (state_of w) (take_more history i none below) ∙ state_after-append w first_state (take i history) (get_or history i none)

-- a step by which the journal gets longer than the place puts a leaf there
pub put_there : (w : Schema) (s : RunState) (step : Step) (place : ℕ) → length s.journal ≤ place → place < length (next_state w s step).journal →
    (leaf : ℕ) × ((next_state w s step).journal ≡ s.journal ++ leaf ∷ []) × (length s.journal ≡ place)
put_there w s (Took claim leaf) place short long = absurd (omega arith)
put_there w s (Done claim) place short long =
    let l = length_push s.journal (leaf_of_claim s claim) in (leaf_of_claim s claim, refl, omega arith)
put_there w s (Failed claim Switched) place short long = absurd (omega arith)
put_there w s (Failed claim Kept) place short long = absurd (omega arith)
put_there w s (Late claim) place short long = absurd (omega arith)
put_there w s (Did leaf) place short long = let l = length_push s.journal leaf in (leaf, refl, omega arith)
put_there w s (Rewound index) place short long = let l = length-take index s.journal in absurd (omega arith)
put_there w s Committed place short long = absurd (omega arith)

-- where the journal is longer than the place before and after a step, the same leaf stands there
pub stays_there : (w : Schema) (s : RunState) (step : Step) (place : ℕ) → place < length s.journal → place < length (next_state w s step).journal →
    get_or (next_state w s step).journal place 0 ≡ get_or s.journal place 0
stays_there w s (Took claim leaf) place before after = refl
stays_there w s (Done claim) place before after = get_or_append_left s.journal (leaf_of_claim s claim ∷ []) 0 place before
stays_there w s (Failed claim Switched) place before after = refl
stays_there w s (Failed claim Kept) place before after = refl
stays_there w s (Late claim) place before after = refl
stays_there w s (Did leaf) place before after = get_or_append_left s.journal (leaf ∷ []) 0 place before
stays_there w s (Rewound index) place before after =
    let l = length-take index s.journal in
    let within : place < index = omega arith in get_or-take index s.journal place 0 within
stays_there w s Committed place before after = refl

pub there : (list : List ℕ) (place : ℕ) → place < length list → get_or list place 0 ∈ list
there [] place below = absurd (omega arith)
there (x ∷ xs) zero below = inl refl
there (x ∷ xs) (suc place) below = let l : place < length xs = omega arith in inr (there xs place l)

module _ (w : Schema) (history : List Entry) (place entry : ℕ) (grown : HasGrown w history place (length history) entry) where
  -- from the entry on the same leaf stands there
  stands : (more : ℕ) → entry + 1 + more ≤ length history →
      get_or (journal_at w history (entry + 1 + more)) place 0 ≡ get_or (journal_at w history (entry + 1)) place 0
  stands zero within = ap (λ n. get_or (journal_at w history n) place 0) (let e : entry + 1 + 0 ≡ entry + 1 = omega arith in e)
  stands (suc more) within =
      let at : ℕ = entry + 1 + more in
      let below : at < length history = omega arith in
      let one : entry + 1 + suc more ≡ at + 1 = omega arith in
      let e = state_more w history at below in
      let before : place < length (journal_at w history at) = grown.long at (omega arith) (omega arith) in
      let after : place < length (journal_at w history (at + 1)) = grown.long (at + 1) (omega arith) (omega arith) in
      let after' : place < length (next_state w (state_of w (take at history)) (get_or history at none).step).journal =
      subst (λ (s : RunState). place < length s.journal) e after in
      ap (λ n. get_or (journal_at w history n) place 0) one
      ∙ ap (λ (s : RunState). get_or s.journal place 0) e
      ∙ stays_there w (state_of w (take at history)) (get_or history at none).step place before after'
      ∙ stands more (omega arith)

  stands_at : (count : ℕ) → entry < count → count ≤ length history →
      get_or (journal_at w history count) place 0 ≡ get_or (journal_at w history (entry + 1)) place 0
  stands_at count later within =
      let same : count ≡ entry + 1 + (count - (entry + 1)) = omega arith in
      ap (λ n. get_or (journal_at w history n) place 0) same ∙ stands (count - (entry + 1)) (omega arith)

  all : take (length history) history ≡ history
  all = take_all (length history) history (omega arith)

  pub did_it : (leaf : ℕ) → leaf ≡ get_or (state_of w history).journal place 0 → IsDoneBy w history leaf entry
  did_it leaf at =
      let within : entry < length history = grown.within in
      let e = state_more w history entry within in
      let long : place < length (journal_at w history (entry + 1)) = grown.long (entry + 1) (omega arith) (omega arith) in
      let (x, put, place_is) = put_there w (state_of w (take entry history)) (get_or history entry none).step place grown.short
      (subst (λ (s : RunState). place < length s.journal) e long) in
      let is_put : journal_at w history (entry + 1) ≡ journal_at w history entry ++ x ∷ [] = ap (λ (s : RunState). s.journal) e ∙ put in
      let read : get_or (journal_at w history (entry + 1)) place 0 ≡ x =
      ap (λ (l : List ℕ). get_or l place 0) is_put ∙ get_or_push (journal_at w history entry) x 0 place place_is in
      let last : get_or (state_of w history).journal place 0 ≡ x =
      ap (λ (h : List Entry). get_or (state_of w h).journal place 0) (sym all) ∙ stands_at (length history) within (omega arith) ∙ read in
      let is : x ≡ leaf = sym (at ∙ last) in
      record {
        within = within;
        put = subst (λ (n : ℕ). journal_at w history (entry + 1) ≡ journal_at w history entry ++ n ∷ []) is is_put;
        since = λ count later fits.
            subst (λ (n : ℕ). n ∈ journal_at w history count) (stands_at count later fits ∙ read ∙ is)
            (there (journal_at w history count) place (grown.long count later fits));
      }

-- One entry more

module _ (w : Schema) (history : List Entry) (place i : ℕ) (below : i < length history) where
  -- it goes on to be long
  pub grown_on : (entry : ℕ) → HasGrown w history place i entry → place < length (journal_at w history (i + 1)) → HasGrown w history place (i + 1) entry
  grown_on entry grown long = record {
    within = let l = grown.within in omega arith;
    short = grown.short;
    long = λ later after fits. elim (cases_lt later (i + 1)) [
      | inl before ↦ grown.long later after (omega arith)
      | inr past ↦ let same : i + 1 ≡ later = omega arith in subst (λ n. place < length (journal_at w history n)) same long
    ];
  }

  -- it gets long
  pub grown_now : length (journal_at w history i) ≤ place → place < length (journal_at w history (i + 1)) → HasGrown w history place (i + 1) i
  grown_now short long = record {
    within = omega arith;
    short = short;
    long = λ later after fits. let same : i + 1 ≡ later = omega arith in subst (λ n. place < length (journal_at w history n)) same long;
  }

  -- what was found stays, where the journal is longer than the place before and after
  pub still : (found : Option ℕ) → MatchOption found (length (journal_at w history i) ≤ place) (HasGrown w history place i) →
      place < length (journal_at w history i) → place < length (journal_at w history (i + 1)) →
      MatchOption found (length (journal_at w history (i + 1)) ≤ place) (HasGrown w history place (i + 1))
  still None short long later = absurd (omega arith)
  still (Some entry) grown long later = grown_on entry grown later

-- how long it is then
pub long_more : (w : Schema) (history : List Entry) (i : ℕ) → i < length history → (long next : ℕ) (step : Step) →
    ((s : RunState) → length s.journal ≡ long → length (next_state w s step).journal ≡ next) → step ≡ (get_or history i none).step →
    length (journal_at w history i) ≡ long → length (journal_at w history (i + 1)) ≡ next
long_more w history i below long next step after is before =
    ap (λ (s : RunState). length s.journal) (state_more w history i below)
    ∙ ap (λ (e : Step). length (next_state w (state_of w (take i history)) e).journal) (sym is)
    ∙ after (state_of w (take i history)) before

-- the entry that put the leaf there
pub entry_told : (w : Schema) (history : List Entry) (place leaf : ℕ) (found : Option ℕ) →
    MatchOption found (length (state_of w history).journal ≤ place) (HasGrown w history place (length history)) →
    place < length (state_of w history).journal → leaf ≡ get_or (state_of w history).journal place 0 →
    MatchOption found (¬ (leaf ∈ (state_of w history).journal)) (IsDoneBy w history leaf)
entry_told w history place leaf None short long at = absurd (omega arith)
entry_told w history place leaf (Some entry) grown long at = did_it w history place entry grown leaf at

-- a member has a place
pub place_in : (list : List ℕ) (leaf : ℕ) → leaf ∈ list → (k : ℕ) × (k < length list) × (get_or list k 0 ≡ leaf)
place_in [] leaf member = absurd member
place_in (x ∷ xs) leaf (inl same) = (0, omega arith, sym same)
place_in (x ∷ xs) leaf (inr member) = let (k, below, is) = place_in xs leaf member in (suc k, omega arith, is)
