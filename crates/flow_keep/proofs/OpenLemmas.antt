-- What opening a file leaves at each moment.
use Rattle.std.proofs.Common.{◌≡◌, ◌≢◌, inl, inr, ℕ, ◌+◌, ◌*◌, ◌<◌, ◌≤◌, min, List, [], ◌∷◌, ◌++◌, length, get_or, take, drop, sym, subst, ap, ◌∙◌, arith, length-append, length-drop, take-append-drop, append_assoc, true≢false}
use Rattle.std.proofs.lemmas.Bool.{cases_lt}
use Rattle.std.proofs.lemmas.List.{take_at, drop_at, get_or-drop, get_or-take, append-nil, get_or_past, get_or_at, nil_from_length}
use Rattle.flow_disk.specs.Disk.{Holds, Torn, Passes, NoSync, SyncsNow, Rests, Same, Leaves}
use Rattle.flow_keep.specs.Records.{records, blocks}
use Rattle.flow_keep.specs.Kept.{IsSettled, NeedsGate}
use Rattle.flow_keep.specs.Opened.{SomeSince, KeepsRecords, KeepsSyncs}
use Rattle.flow_keep.proofs.RecordLemmas.{AreBodies, parts, open_made, shut_end, records_shut, records_behind, length-blocks}
use Rattle.flow_keep.proofs.AppendLemmas.{shut_behind}
use Rattle.flow_keep.proofs.MomentLemmas.{started, goes_on, goes_on_same}

module _ {D : Type 0} (moment : D → ℕ) (image : D → ℕ → List ℕ → Type 0) (synced : D → ℕ → Type 0) (seen : D → List ℕ) where
  -- the sync of an opening succeeded
  pub synced_open : (old new : D) → seen new ≡ seen old → Passes (moment old) (moment new) (image old) (image new) Same → SyncsNow (moment old) (moment new) (synced old) (synced new) (image new) (seen old) →
      KeepsRecords moment image synced seen old new
  synced_open old new same call s = record {
    later = call.later;
    keeps = call.keeps;
    past = call.past;
    until = λ t c from to none i. let (d, was, is) = call.during t c from to i in subst (image old (moment old)) (sym is) was;
    from = λ n t c was after before to i. elim (cases_lt n (moment new)) [
      | inl early ↦ absurd (s.others n after early was)
      | inr late ↦ ap records (s.durable c (subst (λ m. image new m c) (omega (arith, late, before, to)) i))
    ];
  }

  -- it failed
  pub unsynced_open : (old new : D) → Passes (moment old) (moment new) (image old) (image new) Same → NoSync (moment old) (moment new) (synced old) (synced new) → KeepsRecords moment image synced seen old new
  unsynced_open old new call s = record {
    later = call.later;
    keeps = call.keeps;
    past = call.past;
    until = λ t c from to none i. let (d, was, is) = call.during t c from to i in subst (image old (moment old)) (sym is) was;
    from = λ n t c was after before to i. absurd (s.none n after (omega (arith, before, to)) was);
  }

  -- after a sync of the opening, calls at each moment of which a crash leaves the same records
  pub open_then : (old mid new : D) → KeepsRecords moment image synced seen old mid → (first : ℕ) → moment old < first → first ≤ moment mid → synced mid first →
      Leaves moment image mid new (λ c. records c ≡ records (seen old)) → KeepsSyncs (moment mid) (synced mid) (synced new) → KeepsRecords moment image synced seen old new
  open_then old mid new so_far first after before was calls syncs =
      let later : moment old ≤ moment mid = so_far.later in
      let later' : moment mid ≤ moment new = calls.later in
      record {
        later = omega arith;
        keeps = λ t c le i. calls.keeps t c (omega (arith, le)) (so_far.keeps t c le i);
        past = λ t c lt i. so_far.past t c lt (calls.past t c (omega (arith, lt)) i);
        until = λ t c from to none i. elim (cases_lt t (moment mid)) [
          | inl early ↦ so_far.until t c from (omega (arith, early)) (λ s x y z. none s x y (syncs.keeps s (omega (arith, y, early)) z)) (calls.past t c early i)
          | inr late ↦ absurd (none first after (omega (arith, before, late)) (syncs.keeps first before was))
        ];
        from = λ s t c x y z to i. elim (cases_lt t (moment mid)) [
          | inl early ↦ so_far.from s t c (syncs.past s (omega (arith, z, early)) x) y z (omega (arith, early)) (calls.past t c early i)
          | inr late ↦ calls.each t c late to i
        ];
      }

-- ---- the end of the file

-- behind its records a file ends, or has a byte
pub end_there : (file : List ℕ) → 16 * length (records file) ≤ length file
end_there file =
    let p = parts file in
    let size = ap (λ (l : List ℕ). length l) p.split ∙ length-append (blocks (records file)) p.rest in
    let long = length-blocks (records file) p.bodies in
    omega arith

module _ (file : List ℕ) (count : ℕ) (counted : count ≡ length (records file)) where
  bodies_all : AreBodies (records file)
  bodies_all = (parts file).bodies

  size : length (blocks (records file)) ≡ 16 * count
  size = omega (arith, length-blocks (records file) bodies_all)

  pub front_is : take (16 * count) file ≡ blocks (records file)
  front_is = ap (take (16 * count)) (parts file).split ∙ take_at (blocks (records file)) (parts file).rest (16 * count) size

  pub rest_is : drop (16 * count) file ≡ (parts file).rest
  rest_is = ap (drop (16 * count)) (parts file).split ∙ drop_at (blocks (records file)) (parts file).rest (16 * count) size

  -- a gate that is shut there
  pub end_settled : (image : List ℕ → Type 0) → 16 * count < length file → get_or file (16 * count) 0 ≢ 1 → ((c : List ℕ) → image c → c ≡ file) → IsSettled file image
  end_settled image there shut durable = record {
    there = subst (λ n. 16 * n < length file) counted there;
    shut = subst (λ n. get_or file (16 * n) 0 ≢ 1) counted shut;
    durable = durable;
  }

  gate_there : get_or file (16 * count) 0 ≡ 1 → 16 * count < length file
  gate_there one = elim (cases_lt (16 * count) (length file)) [
    | inl there ↦ there
    | inr past ↦ absurd (let none = get_or_past file (16 * count) 0 past in omega (arith, none, one))
  ]

  few_behind : NeedsGate file count → length file ≤ 16 * count + 16
  few_behind (inl end) = omega arith
  few_behind (inr one) = elim (cases_lt (16 * count + 16) (length file)) [
    | inl many ↦
        let rest = (parts file).rest in
        let left = length-drop (16 * count) file in
        let same = ap (λ (l : List ℕ). length l) rest_is in
        let gate : get_or rest 0 0 ≡ 1 = ap (λ (l : List ℕ). get_or l 0 0) (sym rest_is) ∙ get_or-drop (16 * count) file 0 0 ∙ ap (λ n. get_or file n 0) (let e : 16 * count + 0 ≡ 16 * count = omega arith in e) ∙ one in
        absurd (true≢false (sym (open_made rest gate (omega (arith, many, left, same))) ∙ (parts file).shut))
    | inr few ↦ few
  ]

  past_end : (c : List ℕ) → c ≡ blocks (records file) ++ drop (16 * count) c → length (drop (16 * count) c) ≤ 16 → length file ≤ length c → records c ≡ records file
  past_end c whole few longer =
      let rest = drop (16 * count) c in
      let shut = records_shut rest (shut_end rest few) in
      elim (cases_lt 0 (length rest)) [
        | inl some ↦ ap records whole ∙ records_behind (records file) rest bodies_all some ∙ ap (λ (l : List (List ℕ)). records file ++ l) shut ∙ append-nil (records file)
        | inr none ↦
            let long = ap (λ (l : List ℕ). length l) whole ∙ length-append (blocks (records file)) rest in
            let of_file = ap (λ (l : List ℕ). length l) (parts file).split ∙ length-append (blocks (records file)) (parts file).rest in
            let empty : records file ≡ [] = elim (cases_lt 0 (length (records file))) [
              | inl more ↦ absurd (let some = (parts file).some more in omega (arith, some, long, of_file, size, none, longer))
              | inr none_there ↦ nil_from_length (records file) (omega (arith, none_there))
            ] in
            ap records (whole ∙ ap (λ (l : List (List ℕ)). blocks l ++ rest) empty) ∙ shut ∙ sym empty
      ]

  -- any byte in that place
  pub end_torn : NeedsGate file count → (c : List ℕ) → Torn (16 * count) 1 file c → records c ≡ records file
  end_torn how c torn =
      let whole : c ≡ blocks (records file) ++ drop (16 * count) c =
      sym (take-append-drop (16 * count) c) ∙ ap (λ (l : List ℕ). l ++ drop (16 * count) c) (torn.before ∙ front_is) in
      let left = length-drop (16 * count) c in
      let few = few_behind how in
      past_end c whole (omega (arith, left, few, torn.no_longer)) torn.no_shorter

  -- a shut gate written there
  pub end_written : NeedsGate file count → (c : List ℕ) → Holds file (16 * count) (0 ∷ []) c → (records c ≡ records file) × (16 * count < length c) × (get_or c (16 * count) 0 ≡ 0)
  end_written how c holds =
      let rest = drop (16 * count + 1) file in
      let whole : c ≡ blocks (records file) ++ 0 ∷ rest =
      holds ∙ ap (λ (l : List ℕ). l ++ (0 ∷ []) ++ rest) front_is ∙ append_assoc (blocks (records file)) (0 ∷ []) rest in
      let long = ap (λ (l : List ℕ). length l) whole ∙ length-append (blocks (records file)) (0 ∷ rest) in (
        ap records whole ∙ shut_behind (records file) 0 rest bodies_all (omega arith),
        (let r : 16 * count < length c = omega (arith, long, size) in r),
        ap (λ (l : List ℕ). get_or l (16 * count) 0) whole ∙ get_or_at (blocks (records file)) 0 rest 0 (16 * count) size,
      )

  -- what one byte tells that is read there
  pub one_read : (got : ℕ) (buffer : List ℕ) → length buffer ≡ 1 → take got buffer ≡ take got (drop (16 * count) file) → got ≡ min (length buffer) (length (drop (16 * count) file)) → ¬ (got ≡ 0) →
      (16 * count < length file) × (get_or file (16 * count) 0 ≡ get_or buffer 0 0)
  one_read got buffer one read all some =
      let left = length-drop (16 * count) file in
      let there : 16 * count < length file = grind arith in
      let whole : got ≡ 1 = grind arith in
      (there, gate got buffer read whole)
    where
      gate : (got : ℕ) (buffer : List ℕ) → take got buffer ≡ take got (drop (16 * count) file) → got ≡ 1 → get_or file (16 * count) 0 ≡ get_or buffer 0 0
      gate got buffer read whole =
          ap (λ n. get_or file n 0) (let e : 16 * count ≡ 16 * count + 0 = omega arith in e) ∙ sym (get_or-drop (16 * count) file 0 0)
          ∙ sym (get_or-take got (drop (16 * count) file) 0 0 (omega (arith, whole))) ∙ ap (λ (l : List ℕ). get_or l 0 0) (sym read) ∙ get_or-take got buffer 0 0 (omega (arith, whole))

  pub none_read : (got : ℕ) (buffer : List ℕ) → length buffer ≡ 1 → got ≡ min (length buffer) (length (drop (16 * count) file)) → got ≡ 0 → NeedsGate file count
  none_read got buffer one all none =
      let left = length-drop (16 * count) file in
      let there = end_there file in
      inl (let past : length file ≤ 16 * count = grind arith in omega arith)

-- ---- the calls that write a gate behind the records

module _ {D : Type 0} (moment : D → ℕ) (image : D → ℕ → List ℕ → Type 0) (synced : D → ℕ → Type 0) (seen : D → List ℕ) (first look : D) (count : ℕ) (counted : count ≡ length (records (seen first)))
    (durable : (c : List ℕ) → image first (moment first) c → c ≡ seen first)
    (rests : Rests (moment first) (moment look) (seen first) (seen look) (image first) (image look) (synced first) (synced look)) where
  abbrev Same_records : List ℕ → Type 0
  Same_records c = records c ≡ records (seen first)

  pub still_durable : (c : List ℕ) → image look (moment look) c → c ≡ seen first
  still_durable c i =
      let (d, was, same) = rests.passes.during (moment look) c rests.passes.later (omega arith) i in same ∙ durable d was

  pub after_look : Leaves moment image first look Same_records
  after_look = goes_on_same moment image first first look Same_records (started moment image first Same_records (λ c i. ap records (durable c i))) rests.passes

  pub look_syncs : KeepsSyncs (moment first) (synced first) (synced look)
  look_syncs = record { keeps = rests.no_sync.keeps; past = rests.no_sync.past }

  pub place_within : 16 * count ≤ length (seen look)
  place_within =
      let there = end_there (seen first) in
      let same = ap (λ (l : List ℕ). length l) rests.seen_is in
      omega arith

  pub after_end : (wrote : D) → NeedsGate (seen first) count → Passes (moment look) (moment wrote) (image look) (image wrote) (Torn (16 * count) 1) → Leaves moment image first wrote Same_records
  after_end wrote needs call = goes_on moment image first look wrote Same_records (Torn (16 * count) 1) after_look call
      (λ d c was torn. end_torn (seen first) count counted needs c (subst (λ f. Torn (16 * count) 1 f c) (still_durable d was) torn))

  pub end_syncs : (wrote : D) → moment look ≤ moment wrote → NoSync (moment look) (moment wrote) (synced look) (synced wrote) → KeepsSyncs (moment first) (synced first) (synced wrote)
  end_syncs wrote later call =
      let early : moment first ≤ moment look = rests.passes.later in
      record {
        keeps = λ t le s. call.keeps t (omega (arith, le)) (rests.no_sync.keeps t le s);
        past = λ t le s. rests.no_sync.past t le (call.past t (omega (arith, le)) s);
      }

  pub written_end : (wrote : D) → NeedsGate (seen first) count → Holds (seen look) (16 * count) (0 ∷ []) (seen wrote) →
      (records (seen wrote) ≡ records (seen first)) × (16 * count < length (seen wrote)) × (get_or (seen wrote) (16 * count) 0 ≡ 0)
  written_end wrote needs holds = end_written (seen first) count counted needs (seen wrote) (subst (λ f. Holds f (16 * count) (0 ∷ []) (seen wrote)) rests.seen_is holds)

  pub settled_end : (last : D) → records (seen last) ≡ records (seen first) → 16 * count < length (seen last) → get_or (seen last) (16 * count) 0 ≢ 1 →
      ((c : List ℕ) → image last (moment last) c → c ≡ seen last) → IsSettled (seen last) (image last (moment last))
  settled_end last same there shut only = end_settled (seen last) count (counted ∙ sym (ap (λ (l : List (List ℕ)). length l) same)) (image last (moment last)) there shut only

-- one call after another
pub syncs_then : (a b : ℕ) (first mid last : ℕ → Type 0) → a ≤ b → KeepsSyncs a first mid → KeepsSyncs b mid last → KeepsSyncs a first last
syncs_then a b first mid last later p q = record {
  keeps = λ t le s. q.keeps t (omega (arith, le, later)) (p.keeps t le s);
  past = λ t le s. p.past t le (q.past t (omega (arith, le, later)) s);
}

pub syncs_none : (a b : ℕ) (old new : ℕ → Type 0) → NoSync a b old new → KeepsSyncs a old new
syncs_none a b old new s = record { keeps = s.keeps; past = s.past }

pub syncs_now : (a b : ℕ) (old new : ℕ → Type 0) (images : ℕ → List ℕ → Type 0) (seen : List ℕ) → SyncsNow a b old new images seen → KeepsSyncs a old new
syncs_now a b old new images seen s = record { keeps = s.keeps; past = s.past }

-- a sync that succeeded, and what comes after it
pub some_now : (a b : ℕ) (old new : ℕ → Type 0) (images : ℕ → List ℕ → Type 0) (seen : List ℕ) → SyncsNow a b old new images seen → SomeSince new a b
some_now a b old new images seen s = (b, s.rises, (let e : b ≤ b = omega arith in e), s.here)

pub some_then : (a b c : ℕ) (mid last : ℕ → Type 0) → SomeSince mid a b → b ≤ c → KeepsSyncs b mid last → SomeSince last a c
some_then a b c mid last (s, after, before, was) later syncs = (s, after, (let e : s ≤ c = omega (arith, before, later) in e), syncs.keeps s before was)
