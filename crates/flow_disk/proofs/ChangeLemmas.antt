-- A file in memory, replayed from its changes.
use Rattle.std.proofs.Common.{◌≡◌, ℕ, zero, suc, ◌+◌, ◌<◌, ◌≤◌, max, true, ◌&&◌, nat_le, List, [], ◌∷◌, ◌++◌, length, take, drop, slice_get, inl, inr, refl, sym, Some, ◌≢◌, ap, subst, ◌∙◌, arith, append_assoc, length-append, length-drop}
use Rattle.std.proofs.lemmas.Bool.{and_parts, and_from, cases_lt}
use Rattle.std.proofs.lemmas.Bool.Decides.{nat_tests}
use Rattle.std.proofs.lemmas.List.{take_at, drop_at, take_all, take-append-le, drop-append-le, length-take-le, append-nil, nil_from_length}
use Rattle.std.proofs.lemmas.Option.{same_Some}
use Rattle.flow_disk.specs.declared.change.Change.{Change}
use Rattle.flow_disk.specs.declared.change.Change.TheVariants.{Wrote, Tore, Synced}
use Rattle.flow_disk.specs.Disk.{Torn, MayTear, Passes, NoSync, SyncsNow, Same}
use Rattle.flow_disk.specs.Change.{FileState, written, changed, changed_all, state_at, IsImage, IsImageOf, IsSyncAt, taken, all_within, Replays}

-- a write that went through is one of its images
pub torn_written : (at n : ℕ) (old bytes : List ℕ) → at ≤ length old → length bytes ≡ n → Torn at n old (written old at bytes)
torn_written at n old bytes within size =
    let front : length (take at old) ≡ at = length-take-le at old within in
    let tail = drop (at + length bytes) old in
    let both : length (take at old ++ bytes) ≡ at + n = length-append (take at old) bytes ∙ (λ i. front i + size i) in
    let all = length-append (take at old ++ bytes) tail in
    let left = length-drop (at + length bytes) old in
    record {
      before = ap (take at) (append_assoc (take at old) bytes tail) ∙ take_at (take at old) (bytes ++ tail) at front;
      after = drop_at (take at old ++ bytes) tail (at + n) both ∙ ap (λ m. drop (at + m) old) size;
      no_shorter = omega (arith, all, both, left, size, within);
      no_longer = omega (arith, all, both, left, size, within);
    }

pub length-written : (old : List ℕ) (at : ℕ) (bytes : List ℕ) → at ≤ length old → length (written old at bytes) ≡ max (length old) (at + length bytes)
length-written old at bytes within =
    let front : length (take at old) ≡ at = length-take-le at old within in
    let tail = drop (at + length bytes) old in
    omega (arith, front, length-append (take at old) bytes, length-append (take at old ++ bytes) tail, length-drop (at + length bytes) old)

pub torn_same : (at n : ℕ) (c : List ℕ) → Torn at n c c
torn_same at n c = record { before = refl; after = refl; no_shorter = omega arith; no_longer = omega arith }

-- what a read gives is an image
pub seen_image : (s : FileState) (changes : List Change) → IsImageOf s s.seen → all_within s changes ≡ true → taken changes ≤ length s.rest → IsImageOf (changed_all s changes) (changed_all s changes).seen
seen_image s [] own within enough = own
seen_image s (Wrote at count ∷ changes) own within enough =
    let parts = and_parts (nat_le at (length s.seen)) (all_within (changed s (Wrote at count)) changes) within in
    let there : at ≤ length s.seen = grind (arith, nat_tests, parts.0) in
    let size : length (take count s.rest) ≡ count = length-take-le count s.rest (omega (arith, enough)) in
    let left = length-drop count s.rest in
    seen_image (changed s (Wrote at count)) changes (s.seen, own, torn_written at count s.seen (take count s.rest) there size) parts.1 (omega (arith, enough, left))
seen_image s (Tore at count ∷ changes) own within enough =
    let parts = and_parts (nat_le at (length s.seen)) (all_within (changed s (Tore at count)) changes) within in
    seen_image (changed s (Tore at count)) changes (s.seen, own, torn_same at count s.seen) parts.1 enough
seen_image s (Synced ∷ changes) own within enough = seen_image (changed s Synced) changes refl within enough

abbrev pub first_state : List ℕ → List ℕ → FileState
first_state first pool = record { durable = first; ranges = []; seen = first; rest = pool }

-- of a file as it stands
pub own_image : (first pool shown : List ℕ) (log : List Change) → Replays first pool log shown → IsImageOf (state_at first pool log (length log)) shown
own_image first pool shown log replays =
    let whole : take (length log) log ≡ log = take_all (length log) log (omega arith) in
    let own = seen_image (first_state first pool) log refl replays.within (omega (arith, replays.pooled)) in
    subst (λ c. IsImageOf (state_at first pool log (length log)) c) replays.shows
    (subst (λ (l : List Change). IsImageOf (changed_all (first_state first pool) l) (changed_all (first_state first pool) l).seen) (sym whole) own)

-- ---- one change more

taken_front : (t : ℕ) (log : List Change) → taken (take t log) ≤ taken log
taken_front zero log = omega arith
taken_front (suc t) [] = omega arith
taken_front (suc t) (Wrote at count ∷ log) = omega (arith, taken_front t log)
taken_front (suc t) (Tore at count ∷ log) = taken_front t log
taken_front (suc t) (Synced ∷ log) = taken_front t log

abbrev pub with_more : FileState → List ℕ → FileState
with_more s more = record s { rest = s.rest ++ more }

-- bytes behind those that the changes take change nothing else
after_more : (s : FileState) (more : List ℕ) (log : List Change) → taken log ≤ length s.rest → changed_all (with_more s more) log ≡ with_more (changed_all s log) more
after_more s more [] enough = refl
after_more s more (Wrote at count ∷ log) enough =
    let left = length-drop count s.rest in
    let few : count ≤ length s.rest = omega (arith, enough) in
    ap (λ (u : FileState). changed_all u log)
    (λ i. record { durable = s.durable; ranges = (at, count) ∷ s.ranges; seen = written s.seen at (take-append-le count s.rest more few i); rest = drop-append-le count s.rest more few i })
    ∙ after_more (changed s (Wrote at count)) more log (omega (arith, enough, left))
after_more s more (Tore at count ∷ log) enough = after_more (changed s (Tore at count)) more log enough
after_more s more (Synced ∷ log) enough = after_more (changed s Synced) more log enough

rest_is : (s : FileState) (log : List Change) → taken log ≤ length s.rest → length (changed_all s log).rest + taken log ≡ length s.rest
rest_is s [] enough = omega arith
rest_is s (Wrote at count ∷ log) enough =
    let left = length-drop count s.rest in
    omega (arith, enough, left, rest_is (changed s (Wrote at count)) log (omega (arith, enough, left)))
rest_is s (Tore at count ∷ log) enough = rest_is (changed s (Tore at count)) log enough
rest_is s (Synced ∷ log) enough = rest_is (changed s Synced) log enough

after_push : (s : FileState) (log : List Change) (change : Change) → changed_all s (log ++ change ∷ []) ≡ changed (changed_all s log) change
after_push s [] change = refl
after_push s (c ∷ log) change = after_push (changed s c) log change

taken-push : (log : List Change) (change : Change) → taken (log ++ change ∷ []) ≡ taken log + taken (change ∷ [])
taken-push [] change = omega arith
taken-push (Wrote at count ∷ log) change = omega (arith, taken-push log change)
taken-push (Tore at count ∷ log) change = taken-push log change
taken-push (Synced ∷ log) change = taken-push log change

-- bytes behind those that the changes take change nothing of where the writes begin
within_more : (s : FileState) (more : List ℕ) (log : List Change) → taken log ≤ length s.rest → all_within (with_more s more) log ≡ all_within s log
within_more s more [] enough = refl
within_more s more (Wrote at count ∷ log) enough =
    let left = length-drop count s.rest in
    let few : count ≤ length s.rest = omega (arith, enough) in
    ap (λ b. nat_le at (length s.seen) && b)
    (ap (λ (u : FileState). all_within u log)
    (λ i. record { durable = s.durable; ranges = (at, count) ∷ s.ranges; seen = written s.seen at (take-append-le count s.rest more few i); rest = drop-append-le count s.rest more few i })
    ∙ within_more (changed s (Wrote at count)) more log (omega (arith, enough, left)))
within_more s more (Tore at count ∷ log) enough = ap (λ b. nat_le at (length s.seen) && b) (within_more (changed s (Tore at count)) more log enough)
within_more s more (Synced ∷ log) enough = within_more (changed s Synced) more log enough

within_push : (s : FileState) (log : List Change) (change : Change) → all_within s log ≡ true → all_within (changed_all s log) (change ∷ []) ≡ true → all_within s (log ++ change ∷ []) ≡ true
within_push s [] change all last = last
within_push s (Wrote at count ∷ log) change all last =
    let parts = and_parts (nat_le at (length s.seen)) (all_within (changed s (Wrote at count)) log) all in
    and_from (nat_le at (length s.seen)) _ parts.0 (within_push (changed s (Wrote at count)) log change parts.1 last)
within_push s (Tore at count ∷ log) change all last =
    let parts = and_parts (nat_le at (length s.seen)) (all_within (changed s (Tore at count)) log) all in
    and_from (nat_le at (length s.seen)) _ parts.0 (within_push (changed s (Tore at count)) log change parts.1 last)
within_push s (Synced ∷ log) change all last = within_push (changed s Synced) log change all last

get_last : (log : List Change) (change : Change) → slice_get (log ++ change ∷ []) (length log) ≡ Some change
get_last [] change = refl
get_last (x ∷ log) change = get_last log change

get_early : (t : ℕ) (log : List Change) (change : Change) → t < length log → slice_get (log ++ change ∷ []) t ≡ slice_get log t
get_early zero (x ∷ log) change lt = refl
get_early (suc t) (x ∷ log) change lt = get_early t log change (omega (arith, lt))
get_early t [] change lt = absurd (omega (arith, lt))

module _ (first pool pool' more shown : List ℕ) (log log' : List Change) (change : Change) (replays : Replays first pool log shown) (grown : pool' ≡ pool ++ more) (pushed : log' ≡ log ++ change ∷ []) where
  abbrev before : FileState
  before = first_state first pool

  abbrev last : FileState
  last = state_at first pool log (length log)

  enough : taken log ≤ length pool
  enough = omega (arith, replays.pooled)

  size : length log' ≡ length log + 1
  size = ap length pushed ∙ length-append log (change ∷ [])

  last_is : last ≡ changed_all before log
  last_is = ap (λ (l : List Change). changed_all before l) (take_all (length log) log (omega arith))

  -- earlier states are as they were
  early : (t : ℕ) → t ≤ length log → state_at first pool' log' t ≡ with_more (state_at first pool log t) more
  early t le =
      (λ i. state_at first (grown i) (pushed i) t)
      ∙ ap (λ (l : List Change). changed_all (first_state first (pool ++ more)) l) (take-append-le t log (change ∷ []) le)
      ∙ after_more before more (take t log) (omega (arith, taken_front t log, enough))

  early_image : (t : ℕ) (c : List ℕ) → t ≤ length log → IsImageOf (state_at first pool' log' t) c → IsImageOf (state_at first pool log t) c
  early_image t c le i = subst (λ s. IsImageOf s c) (early t le) i

  early_kept : (t : ℕ) (c : List ℕ) → t ≤ length log → IsImageOf (state_at first pool log t) c → IsImageOf (state_at first pool' log' t) c
  early_kept t c le i = subst (λ s. IsImageOf s c) (sym (early t le)) i

  none_left : last.rest ≡ []
  none_left = nil_from_length last.rest
      (let r = rest_is before log enough in
      let same = ap (λ (s : FileState). length s.rest) last_is in omega (arith, r, same, replays.pooled))

  -- the state after the change
  now_is : state_at first pool' log' (length log') ≡ changed (with_more last more) change
  now_is =
      (λ i. state_at first (grown i) (pushed i) (length (pushed i)))
      ∙ ap (λ (l : List Change). changed_all (first_state first (pool ++ more)) l) (take_all _ (log ++ change ∷ []) (omega arith))
      ∙ after_push (first_state first (pool ++ more)) log change
      ∙ ap (λ s. changed s change) (after_more before more log enough ∙ ap (λ s. with_more s more) (sym last_is))

  given_is : (with_more last more).rest ≡ more
  given_is = ap (λ (l : List ℕ). l ++ more) none_left

  -- each image of a moment of the change is one of before after a step, if each image after it is
  passes_by : (step : List ℕ → List ℕ → Type 0) → ((c : List ℕ) → step c c) → ((c : List ℕ) → IsImageOf (changed (with_more last more) change) c → (d : List ℕ) × IsImageOf last d × step d c) →
      Passes (length log) (length log') (λ t c. IsImageOf (state_at first pool log t) c) (λ t c. IsImageOf (state_at first pool' log' t) c) step
  passes_by step stays now = record {
    later = omega (arith, size);
    keeps = λ t c le i. early_kept t c le i;
    past = λ t c lt i. early_image t c (omega (arith, lt)) i;
    during = λ t c from to i. elim (cases_lt (length log) t) [
      | inl late ↦
          let here : t ≡ length log' = omega (arith, late, to, size) in
          now c (subst (λ s. IsImageOf s c) now_is (subst (λ m. IsImageOf (state_at first pool' log' m) c) here i))
      | inr before ↦ (c, subst (λ m. IsImageOf (state_at first pool log m) c) (omega (arith, before, from)) (early_image t c (omega (arith, before)) i), stays c)
    ];
  }

  pub passes_range : (at n : ℕ) → ((s : FileState) → IsImageOf (changed s change) ≡ IsImage s.durable ((at, n) ∷ s.ranges)) →
      Passes (length log) (length log') (λ t c. IsImageOf (state_at first pool log t) c) (λ t c. IsImageOf (state_at first pool' log' t) c) (Torn at n)
  passes_range at n is = passes_by (Torn at n) (torn_same at n) (λ c i. subst (λ p. p c) (is (with_more last more)) i)

  pub tears_range : (at n : ℕ) → ((s : FileState) → IsImageOf (changed s change) ≡ IsImage s.durable ((at, n) ∷ s.ranges)) →
      MayTear at n (λ c. IsImageOf last c) (λ c. IsImageOf (state_at first pool' log' (length log')) c)
  tears_range at n is d c i torn = subst (λ s. IsImageOf s c) (sym now_is) (subst (λ (p : List ℕ → Type 0). p c) (sym (is (with_more last more))) (d, i, torn))

  sync_kept : (t : ℕ) → t ≤ length log → IsSyncAt log t → IsSyncAt log' t
  sync_kept zero le s = s
  sync_kept (suc t) le s = subst (λ (l : List Change). slice_get l t ≡ Some Synced) (sym pushed) (get_early t log change (omega (arith, le)) ∙ s)

  sync_past : (t : ℕ) → t ≤ length log → IsSyncAt log' t → IsSyncAt log t
  sync_past zero le s = s
  sync_past (suc t) le s = sym (get_early t log change (omega (arith, le))) ∙ subst (λ (l : List Change). slice_get l t ≡ Some Synced) pushed s

  pub no_sync : change ≢ Synced → NoSync (length log) (length log') (IsSyncAt log) (IsSyncAt log')
  no_sync other = record {
    keeps = sync_kept;
    past = sync_past;
    none = λ t from to s.
        let here : t ≡ suc (length log) = omega (arith, from, to, size) in
        let told : IsSyncAt log' (suc (length log)) = subst (λ m. IsSyncAt log' m) here s in
        other (same_Some _ _ (sym (get_last log change) ∙ subst (λ (l : List Change). slice_get l (length log) ≡ Some Synced) pushed told));
  }

  -- the same of a change that takes just what the pool grew by, and begins within what was shown
  replays_by : (shown' : List ℕ) → taken (change ∷ []) ≡ length more → all_within (with_more last more) (change ∷ []) ≡ true →
      (changed (with_more last more) change).seen ≡ shown' → length shown' ≤ length first + length pool + length more → Replays first pool' log' shown'
  replays_by shown' takes within shows fits = record {
    shows = ap (λ (s : FileState). s.seen) now_is ∙ shows;
    pooled = ap taken pushed ∙ omega (arith, taken-push log change, takes, replays.pooled, length-append pool more, ap length grown);
    within =
        (λ i. all_within (first_state first (grown i)) (pushed i))
        ∙ within_push (first_state first (pool ++ more)) log change (within_more before more log enough ∙ replays.within)
        (subst (λ (s : FileState). all_within s (change ∷ []) ≡ true) (sym (after_more before more log enough ∙ ap (λ s. with_more s more) (sym last_is))) within);
    fits = omega (arith, fits, length-append pool more, ap length grown);
  }

-- ---- the three changes

module _ (first pool pool' shown bytes : List ℕ) (log log' : List Change) (at n : ℕ) (replays : Replays first pool log shown) (within : at ≤ length shown) (size : n ≡ length bytes) (grown : pool' ≡ pool ++ bytes) (pushed : log' ≡ log ++ Wrote at n ∷ []) where
  pub wrote_passes : Passes (length log) (length log') (λ t c. IsImageOf (state_at first pool log t) c) (λ t c. IsImageOf (state_at first pool' log' t) c) (Torn at n)
  wrote_passes = passes_range first pool pool' bytes shown log log' (Wrote at n) replays grown pushed at n (λ s. refl)

  pub wrote_tears : MayTear at n (λ c. IsImageOf (state_at first pool log (length log)) c) (λ c. IsImageOf (state_at first pool' log' (length log')) c)
  wrote_tears = tears_range first pool pool' bytes shown log log' (Wrote at n) replays grown pushed at n (λ s. refl)

  pub wrote_no_sync : NoSync (length log) (length log') (IsSyncAt log) (IsSyncAt log')
  wrote_no_sync = no_sync first pool pool' bytes shown log log' (Wrote at n) replays grown pushed (λ e. cc)

  pub wrote_replays : (shown' : List ℕ) → shown' ≡ written shown at bytes → Replays first pool' log' shown'
  wrote_replays shown' is =
      let s = state_at first pool log (length log) in
      let given = given_is first pool pool' bytes shown log log' (Wrote at n) replays grown pushed in
      let taken_all : take n (s.rest ++ bytes) ≡ bytes = ap (take n) given ∙ take_all n bytes (omega (arith, size)) in
      replays_by first pool pool' bytes shown log log' (Wrote at n) replays grown pushed shown'
      (omega (arith, size))
      (and_from (nat_le at (length s.seen)) true (grind (arith, nat_tests, within, ap length replays.shows)) refl)
      ((λ i. written (replays.shows i) at (taken_all i)) ∙ sym is)
      (omega (arith, ap length is, length-written shown at bytes within, replays.fits, within))

module _ (first pool shown : List ℕ) (log log' : List Change) (replays : Replays first pool log shown) where
  none : pool ≡ pool ++ []
  none = sym (append-nil pool)

  module _ (at n : ℕ) (within : at ≤ length shown) (pushed : log' ≡ log ++ Tore at n ∷ []) where
    pub tore_passes : Passes (length log) (length log') (λ t c. IsImageOf (state_at first pool log t) c) (λ t c. IsImageOf (state_at first pool log' t) c) (Torn at n)
    tore_passes = passes_range first pool pool [] shown log log' (Tore at n) replays none pushed at n (λ s. refl)

    pub tore_tears : MayTear at n (λ c. IsImageOf (state_at first pool log (length log)) c) (λ c. IsImageOf (state_at first pool log' (length log')) c)
    tore_tears = tears_range first pool pool [] shown log log' (Tore at n) replays none pushed at n (λ s. refl)

    pub tore_no_sync : NoSync (length log) (length log') (IsSyncAt log) (IsSyncAt log')
    tore_no_sync = no_sync first pool pool [] shown log log' (Tore at n) replays none pushed (λ e. cc)

    pub tore_replays : Replays first pool log' shown
    tore_replays =
        let s = state_at first pool log (length log) in
        replays_by first pool pool [] shown log log' (Tore at n) replays none pushed shown refl
        (and_from (nat_le at (length s.seen)) true (grind (arith, nat_tests, within, ap length replays.shows)) refl)
        replays.shows (omega (arith, replays.fits))

  module _ (pushed : log' ≡ log ++ Synced ∷ []) where
    abbrev shows_now : (c : List ℕ) → IsImageOf (state_at first pool log' (length log')) c → c ≡ (state_at first pool log (length log)).seen
    shows_now c i = subst (λ s. IsImageOf s c) (now_is first pool pool [] shown log log' Synced replays none pushed) i

    pub synced_passes : Passes (length log) (length log') (λ t c. IsImageOf (state_at first pool log t) c) (λ t c. IsImageOf (state_at first pool log' t) c) Same
    synced_passes = passes_by first pool pool [] shown log log' Synced replays none pushed Same (λ c. refl)
        (λ c is. (c, subst (λ d. IsImageOf (state_at first pool log (length log)) d) (sym (is ∙ replays.shows)) (own_image first pool shown log replays), refl))

    pub synced_now : SyncsNow (length log) (length log') (IsSyncAt log) (IsSyncAt log') (λ t c. IsImageOf (state_at first pool log' t) c) shown
    synced_now =
        let grows = size first pool pool [] shown log log' Synced replays none pushed in
        record {
          rises = omega (arith, grows);
          here = let last : suc (length log) ≡ length log' = omega (arith, grows) in subst (λ m. IsSyncAt log' m) last (subst (λ (l : List Change). slice_get l (length log) ≡ Some Synced) (sym pushed) (get_last log Synced));
          keeps = sync_kept first pool pool [] shown log log' Synced replays none pushed;
          past = sync_past first pool pool [] shown log log' Synced replays none pushed;
          others = λ t from to s. absurd (omega (arith, from, to, grows));
          durable = λ c i. shows_now c i ∙ replays.shows;
        }

    pub synced_replays : Replays first pool log' shown
    synced_replays =
        replays_by first pool pool [] shown log log' Synced replays none pushed shown refl refl replays.shows (omega (arith, replays.fits))

-- a note for which there is no place
pub rests_passes : (first pool : List ℕ) (log log' : List Change) (at n : ℕ) → log' ≡ log →
    Passes (length log) (length log') (λ t c. IsImageOf (state_at first pool log t) c) (λ t c. IsImageOf (state_at first pool log' t) c) (Torn at n)
rests_passes first pool log log' at n same = record {
  later = omega (arith, ap length same);
  keeps = λ t c le i. subst (λ (l : List Change). IsImageOf (state_at first pool l t) c) (sym same) i;
  past = λ t c lt i. subst (λ (l : List Change). IsImageOf (state_at first pool l t) c) same i;
  during = λ t c from to i. (c, subst (λ m. IsImageOf (state_at first pool log m) c) (omega (arith, from, to, ap length same)) (subst (λ (l : List Change). IsImageOf (state_at first pool l t) c) same i), torn_same at n c);
}
