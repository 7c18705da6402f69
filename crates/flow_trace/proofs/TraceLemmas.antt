-- What is told of a list of leaves, by the options that it follows and by the labels that hold.
use Rattle.std.proofs.Common.{◌≡◌, ◌<◌, ◌≤◌, ◌+◌, ℕ, zero, suc, ◌↔◌, le_antisymm, List, [], ◌∷◌, ◌++◌, length, take, drop, get_or, slice_get, IsTrue, Bool, true, false, refl, sym, ap, ◌∙◌, subst, arith, length-append, min, inl, inr, ⊎_elim}
use Rattle.std.proofs.lemmas.Bool.{cases_lt}
use Rattle.std.proofs.lemmas.List.{take_all, take_more, take-append-drop, length-take-le}
use Rattle.std.proofs.lemmas.List.Elements.{filter_map-append}
use Rattle.flow_model.specs.declared.labels.Label.{Label}
use Rattle.flow_model.specs.Lists.{◌∈◌, Each, Begins, numbers_from}
use Rattle.flow_model.specs.Facts.{State, HoldsAt, after_leaf, Runs, replay}
use Rattle.flow_model.specs.Schema.{Schema, start_of, IsGood}
use Rattle.flow_model.specs.Folding.{folded_options, is_named}
use Rattle.flow_model.specs.Resolution.{ChoiceOption}
use Rattle.flow_model.specs.Run.{RunState, first_state}
use Rattle.flow_model.specs.Verdict.{IsPossible}
use Rattle.flow_laws.specs.WellFormed.{IsWellFormed, IsConsistent}
use Rattle.flow_model.proofs.Lists.{mem_append_left, mem_append_right, each_member, each_from_members, each-append, at_most}
use Rattle.flow_model.proofs.MadeLists.{numbers_from_below, begins_front}
use Rattle.flow_laws.proofs.SoundStates.{runs-append, runs_front}
use Rattle.flow_laws.proofs.TraceLeaves.{leaf_of_trace, distinct_trace}
use Rattle.flow_laws.proofs.OptionsLemmas.{distinct_leaves}
use Rattle.flow_fold_laws.proofs.FoldedRunsLemmas.{folded_fronts_are_ready, folded_runs_extend}
use Rattle.flow_fold_laws.proofs.UnfoldedOptions.{folded_option_is_ordered, folded_option_of_good, folded_option_trace_is_good}
use Rattle.flow_plan.specs.Options.{HasExecution, AreJustThose}
use Rattle.flow_plan.proofs.KeptOptions.{kept_has}
use Rattle.flow_workflow.specs.Definition.{Definition, schema_of}
use Rattle.flow_facts.specs.Course.{Course, state_of_world}
use Rattle.flow_facts.specs.Journals.{labels_at}
use Rattle.flow_facts.proofs.JournalLabels.{replay-labels_at, length-labels_at}
use Rattle.flow_residual.specs.Options.{SomeOption}
use Rattle.flow_residual.specs.Remaining.{Remaining, IsOf}
use Rattle.flow_residual.proofs.Following.{has_kept, is_good}
use Rattle.flow_trace.specs.declared.checked.Checked.{Checked}
use Rattle.flow_trace.specs.declared.checked.Checked.TheVariants.{Execution, Prefix, Bad}
use Rattle.flow_trace.specs.Fronts.{Follows, Finishes, AreReaching}
use Rattle.flow_trace.specs.Traces.{TellsOfTrace, course_at, HoldsUpTo, HaveHeld}

-- the list begins some good trace
abbrev pub BeginsGood : Schema → List ℕ → Type 0
BeginsGood w list = (t : List ℕ) × IsGood w t × Begins t list

-- ---- the options that have an execution

module _ (w : Schema) (f : IsWellFormed w) (os : List ChoiceOption) (are : AreJustThose HasExecution (folded_options w) os) (list : List ℕ) where
  pub followed : SomeOption (Follows list) os ↔ BeginsGood w list
  followed = (
    λ (o, m, run).
        let (there, (sample, trace)) = kept_has (folded_options w) os are o m in
        let ordered = folded_option_is_ordered (is_named w) w f o there in
        let (t, whole, pairs, begins) = folded_runs_extend o.resolution o.order ordered (sample, trace.0, trace.1) list run in
        (t, folded_option_trace_is_good (is_named w) w f (λ k h. h) t o there (whole, pairs), begins),
    λ (t, good, begins).
        let (o, m, trace) = folded_option_of_good (is_named w) w f (λ k h. h) t good in
        let ordered = folded_option_is_ordered (is_named w) w f o m in
        (o, has_kept (folded_options w) os are o m (t, trace), folded_fronts_are_ready o.resolution o.order ordered t list trace.0 trace.1 begins),
  )

  abbrev s : RunState
  s = record first_state { journal = list }

  abbrev r : Remaining
  r = record { options = os; journal = list; bans = [] }

  of : IsOf w s r
  of = record { well_formed = f; options_are = are; journal_is = refl; bans_are = refl }

  pub finished : SomeOption (Finishes list) os ↔ IsGood w list
  finished = is_good w s r of

-- ---- possible lists

pub possible_none : (w : Schema) → IsConsistent w → IsPossible w []
possible_none w (t, good) = ((t, good, (t, refl)), tt)

pub possible_front : (w : Schema) (front rest : List ℕ) → IsPossible w (front ++ rest) → IsPossible w front
possible_front w front rest ((t, good, begins), runs) = ((t, good, begins_front t front rest begins), runs_front w.labels (start_of w) front rest runs)

-- the leaves of what begins a good trace have labels, and are no more than these
module _ (w : Schema) (f : IsWellFormed w) where
  within_good : (t : List ℕ) → IsGood w t → (n : ℕ) → n ∈ t → n < length w.labels
  within_good t good n m =
      let l : n ∈ numbers_from 0 (length w.labels) = subst (λ ls. n ∈ ls) f.numbered (leaf_of_trace w.goal t good.0 n m) in
      omega (arith, numbers_from_below 0 (length w.labels) n l)

  pub begun_within : (list : List ℕ) → BeginsGood w list → Each (λ n. n < length w.labels) list
  begun_within list (t, good, (rest, is)) =
      each_from_members (λ n. n < length w.labels) list (λ n m. within_good t good n (subst (λ l. n ∈ l) (sym is) (mem_append_left n list rest m)))

  pub begun_few : (list : List ℕ) → BeginsGood w list → length list ≤ length w.labels
  begun_few list (t, good, (rest, is)) =
      let most : length t ≤ length w.labels = at_most (length w.labels) t (distinct_trace w.goal (distinct_leaves w f) t good.0) (λ n m. within_good t good n m) in
      let long : length t ≡ length list + length rest = ap length is ∙ length-append list rest in
      omega arith

-- ---- one leaf more

runs_back : (labels : List Label) (s : State) (a b : List ℕ) → Runs labels s (a ++ b) → Runs labels (replay labels s a) b
runs_back labels s [] b h = h
runs_back labels s (n ∷ a) b (h, t) = runs_back labels (after_leaf labels s n) a b t

pub holds_next : (w : Schema) (list : List ℕ) (leaf : ℕ) → IsPossible w (list ++ leaf ∷ []) → HoldsAt w.labels (replay w.labels (start_of w) list) leaf
holds_next w list leaf possible = (runs_back w.labels (start_of w) list (leaf ∷ []) possible.1).0

-- ---- nothing else could be told

pub take_longer : (list : List ℕ) (k m : ℕ) → k ≤ m → (rest : List ℕ) × (take m list ≡ take k list ++ rest)
take_longer list zero m h = (take m list, refl)
take_longer [] (suc k) m h = ([], take_all m [] (let none : length {A = ℕ} [] ≤ m = omega arith in none))
take_longer (x ∷ list) (suc k) zero h = absurd (omega arith)
take_longer (x ∷ list) (suc k) (suc m) h = let (rest, is) = take_longer list k m (omega arith) in (rest, ap (λ (l : List ℕ). x ∷ l) is)

shorter : (w : Schema) (list : List ℕ) (k m : ℕ) → k ≤ m → IsPossible w (take m list) → IsPossible w (take k list)
shorter w list k m h possible = let (rest, is) = take_longer list k m h in possible_front w (take k list) rest (subst (IsPossible w) is possible)

whole : (w : Schema) (list : List ℕ) (k : ℕ) → IsPossible w list → IsPossible w (take k list)
whole w list k possible = possible_front w (take k list) (drop k list) (subst (IsPossible w) (sym (take-append-drop k list)) possible)

bad_once : (w : Schema) (list : List ℕ) (k m : ℕ) → TellsOfTrace w list (Bad k) → TellsOfTrace w list (Bad m) → k ≤ m
bad_once w list k m bad other = elim (cases_lt m k) [ inl less ↦ absurd (other.1 (shorter w list (m + 1) k (omega arith) bad.0)) | inr most ↦ most ]

pub tells_once : (w : Schema) (list : List ℕ) (one other : Checked) → TellsOfTrace w list one → TellsOfTrace w list other → one ≡ other
tells_once w list Execution Execution h k = refl
tells_once w list Execution Prefix h k = absurd (k.1 h.1)
tells_once w list Execution (Bad n) h k = absurd (k.1 (whole w list (n + 1) h.0))
tells_once w list Prefix Execution h k = absurd (h.1 k.1)
tells_once w list Prefix Prefix h k = refl
tells_once w list Prefix (Bad n) h k = absurd (k.1 (whole w list (n + 1) h.0))
tells_once w list (Bad n) Execution h k = absurd (h.1 (whole w list (n + 1) k.0))
tells_once w list (Bad n) Prefix h k = absurd (h.1 (whole w list (n + 1) k.0))
tells_once w list (Bad n) (Bad m) h k = let same : n ≡ m = le_antisymm (bad_once w list n m h k) (bad_once w list m n k h) in ap (λ i. Bad i) same

-- ---- what is told by how long the labels hold, and how long some option is followed

front_of_front : (k m : ℕ) (list : List ℕ) → k ≤ m → take k (take m list) ≡ take k list
front_of_front zero m list h = refl
front_of_front (suc k) zero list h = absurd (omega arith)
front_of_front (suc k) (suc m) [] h = refl
front_of_front (suc k) (suc m) (x ∷ list) h = ap (λ (l : List ℕ). x ∷ l) (front_of_front k m list (omega arith))

module _ (d : Definition) (f : IsWellFormed (schema_of d)) (consistent : IsConsistent (schema_of d))
    (os : List ChoiceOption) (are : AreJustThose HasExecution (folded_options (schema_of d)) os)
    (leaves : List ℕ) (held : ℕ) (holds : HoldsUpTo d leaves held) (k : ℕ) (reaching : AreReaching (take held leaves) os k) where
  abbrev w : Schema
  w = schema_of d

  few : k ≤ held
  few = omega (arith, reaching.within, length-take-le held leaves holds.within)

  begun : BeginsGood w (take k leaves)
  begun = ⊎_elim (λ none. subst (λ n. BeginsGood w (take n leaves)) (sym none) (possible_none w consistent).0)
      (λ some. (followed w f os are (take k leaves)).0 (subst (λ (l : List ℕ). SomeOption (Follows l) os) (front_of_front k held leaves few) some)) reaching.follows

  possible : IsPossible w (take k leaves)
  possible =
      let (rest, is) = take_longer leaves k held few in
      (begun, runs_front w.labels (start_of w) (take k leaves) rest (subst (Runs w.labels (start_of w)) is holds.runs))

  pub reached_few : k ≤ length d.tree.labels
  reached_few =
      let most = begun_few w f (take k leaves) begun in
      omega (arith, most, length-take-le k leaves (omega (arith, few, holds.within)))

  pub told_bad : k < length leaves → TellsOfTrace w leaves (Bad k)
  told_bad less = (
    possible,
    λ longer. elim (cases_lt k held) [
      | inl below ↦ reaching.no_longer (omega (arith, below, length-take-le held leaves holds.within))
          ((followed w f os are (take (k + 1) (take held leaves))).1
          (subst (BeginsGood w) (sym (front_of_front (k + 1) held leaves (omega (arith, below)))) longer.0))
      | inr most ↦
          let same : k ≡ held = omega (arith, few, most) in
          holds.no_longer (omega (arith, less, same)) (subst (λ n. IsPossible w (take (n + 1) leaves)) same longer)
    ],
  )

  -- all leaves are reached
  module _ (past : length leaves ≤ k) (b : Bool) (says : IsTrue b ↔ SomeOption (Finishes (take held leaves)) os) where
    all_possible : IsPossible w leaves
    all_possible = subst (IsPossible w) (take_all k leaves past) possible

    front_is : take held leaves ≡ leaves
    front_is = take_all held leaves (omega (arith, past, few))

    good : IsTrue b ↔ IsGood w leaves
    good = (
      λ yes. subst (IsGood w) front_is ((finished w f os are (take held leaves)).0 (says.0 yes)),
      λ is. says.1 ((finished w f os are (take held leaves)).1 (subst (IsGood w) (sym front_is) is)),
    )

    pub told_execution : b ≡ true → TellsOfTrace w leaves Execution
    told_execution whole = (all_possible, good.0 whole)

    pub told_prefix : b ≡ false → TellsOfTrace w leaves Prefix
    told_prefix part = (all_possible, λ is. let yes = good.1 is in cc)

-- ---- the state after the leaves

pub course_state : (d : Definition) (list : List ℕ) (v : Course) → v ≡ course_at d list →
    state_of_world v ≡ replay d.tree.labels (start_of (schema_of d)) list
course_state d list v is = ap state_of_world is ∙ sym (replay-labels_at d.tree.labels (start_of (schema_of d)) list)

pub holds_in : (d : Definition) (list : List ℕ) (leaf : ℕ) (v : Course) (b : Bool) → v ≡ course_at d list →
    (IsTrue b ↔ HoldsAt d.tree.labels (state_of_world v) leaf) → IsTrue b ↔ HoldsAt d.tree.labels (replay d.tree.labels (start_of (schema_of d)) list) leaf
holds_in d list leaf v b is says = subst (λ (s : State). IsTrue b ↔ HoldsAt d.tree.labels s leaf) (course_state d list v is) says

pub course_room : (d : Definition) (list : List ℕ) (v : Course) → v ≡ course_at d list → Each (λ n. n < length d.tree.labels) list →
    length list < length d.tree.labels → length v.labels < v.room
course_room d list v is each less =
    let long : length v.labels ≡ length list = ap (λ (u : Course). length u.labels) is ∙ length-labels_at d.tree.labels list each in
    let room : v.room ≡ length d.tree.labels = ap (λ (u : Course). u.room) is in
    omega arith

pub course_more : (d : Definition) (list longer : List ℕ) (leaf : ℕ) (v u : Course) → v ≡ course_at d list → longer ≡ list ++ leaf ∷ [] →
    u ≡ record v { labels = v.labels ++ labels_at d.tree.labels (leaf ∷ []) } → u ≡ course_at d longer
course_more d list longer leaf v u is more new =
    new
    ∙ ap (λ (c : Course). record c { labels = c.labels ++ labels_at d.tree.labels (leaf ∷ []) }) is
    ∙ (λ k. record { held = d.held; count = length d.facts; labels = joined k; room = length d.tree.labels })
  where
    joined : labels_at d.tree.labels list ++ labels_at d.tree.labels (leaf ∷ []) ≡ labels_at d.tree.labels longer
    joined = sym (filter_map-append (slice_get d.tree.labels) list (leaf ∷ [])) ∙ ap (labels_at d.tree.labels) (sym more)

-- ---- labels that hold in turn

module _ (d : Definition) (f : IsWellFormed (schema_of d)) (leaves : List ℕ) (i : ℕ) (within : i < length leaves) (world : Course) (have : HaveHeld d (take i leaves) world) where
  abbrev labels : List Label
  labels = d.tree.labels

  abbrev start : State
  start = start_of (schema_of d)

  abbrev leaf : ℕ
  leaf = get_or leaves i 0

  more_is : take (i + 1) leaves ≡ take i leaves ++ leaf ∷ []
  more_is = take_more leaves i 0 within

  as_long : length (take i leaves) ≡ i
  as_long = length-take-le i leaves (omega arith)

  pub has_room : i < length labels → length world.labels < world.room
  has_room less = course_room d (take i leaves) world have.world_is have.leaves_are (omega (arith, less, as_long))

  pub held_more : (new : Course) → leaf < length labels → HoldsAt labels (state_of_world world) leaf →
      new ≡ record world { labels = world.labels ++ labels_at labels (leaf ∷ []) } → HaveHeld d (take (i + 1) leaves) new
  held_more new small holds is = record {
    runs = subst (Runs labels start) (sym more_is)
        (runs-append labels start (take i leaves) (leaf ∷ []) have.runs
        (subst (λ (s : State). HoldsAt labels s leaf) (course_state d (take i leaves) world have.world_is) holds, tt));
    leaves_are = subst (λ (l : List ℕ). Each (λ n. n < length labels) l) (sym more_is)
        (each-append (λ n. n < length labels) (take i leaves) (leaf ∷ []) have.leaves_are (small, tt));
    world_is = course_more d (take i leaves) (take (i + 1) leaves) leaf world new have.world_is more_is is;
  }

  -- it has no label, or one that does not hold
  pub held_so_far : (b : Bool) → (IsTrue b ↔ (leaf < length labels × HoldsAt labels (state_of_world world) leaf)) → b ≡ false → HoldsUpTo d leaves i
  held_so_far b says not = record {
    within = omega (arith, within);
    runs = have.runs;
    no_longer = λ less longer.
        let longer' : IsPossible (schema_of d) (take i leaves ++ leaf ∷ []) = subst (IsPossible (schema_of d)) more_is longer in
        let small : leaf < length labels =
        each_member (λ n. n < length labels) (take i leaves ++ leaf ∷ []) (begun_within (schema_of d) f (take i leaves ++ leaf ∷ []) longer'.0) leaf
        (mem_append_right leaf (take i leaves) (leaf ∷ []) (inl refl)) in
        let holds : HoldsAt labels (state_of_world world) leaf =
        subst (λ (s : State). HoldsAt labels s leaf) (sym (course_state d (take i leaves) world have.world_is)) (holds_next (schema_of d) (take i leaves) leaf longer') in
        let yes = says.1 (small, holds) in cc;
  }

-- no possible list has more leaves than the workflow
pub all_held : (d : Definition) → IsWellFormed (schema_of d) → (leaves : List ℕ) (most i : ℕ) (world : Course) → most ≡ min (length leaves) (length d.tree.labels) → most ≤ i → i ≤ most →
    HaveHeld d (take i leaves) world → HoldsUpTo d leaves most
all_held d f leaves most i world is past within have =
    let same : i ≡ most = omega (arith, past, within) in record {
      within = omega (arith, is);
      runs = subst (λ n. Runs d.tree.labels (start_of (schema_of d)) (take n leaves)) same have.runs;
      no_longer = λ less longer.
          let few = begun_few (schema_of d) f (take (most + 1) leaves) longer.0 in
          let long = length-take-le (most + 1) leaves (omega (arith, less)) in
          absurd (omega (arith, few, long, is, less));
    }
