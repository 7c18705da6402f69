-- What the four calls of an append leave.
use Rattle.std.proofs.Common.{◌≡◌, ◌≢◌, inl, inr, ℕ, ◌+◌, ◌*◌, ◌<◌, List, [], ◌∷◌, ◌++◌, length, get_or, take, drop, refl, sym, ap, subst, ◌∙◌, arith, append_assoc, length-append, take-append-drop}
use Rattle.std.proofs.lemmas.Bool.{cases_eq}
use Rattle.std.proofs.lemmas.List.{append-nil, take_at, drop_at, drop-drop, drop_more, get_or_at}
use Rattle.flow_disk.specs.Disk.{Holds, Torn}
use Rattle.flow_keep.specs.Records.{records, blocks}
use Rattle.flow_keep.specs.Kept.{IsSettled, IsBeforeOrAfter}
use Rattle.flow_keep.proofs.RecordLemmas.{AreBodies, shut_gate, records_shut, records_open, open_made, length-blocks, records_behind, parts}

-- blocks, and then a gate that is shut: what stands behind it does not count
pub shut_behind : (bodies : List (List ℕ)) (gate : ℕ) (behind : List ℕ) → AreBodies bodies → gate ≢ 1 → records (blocks bodies ++ gate ∷ behind) ≡ bodies
shut_behind bodies gate behind all shut =
    records_behind bodies (gate ∷ behind) all (omega arith) ∙ ap (λ (l : List (List ℕ)). bodies ++ l) (records_shut (gate ∷ behind) (shut_gate (gate ∷ behind) shut)) ∙ append-nil bodies

-- one whole block behind them, under any gate, and then a shut one
pub gate_behind : (bodies : List (List ℕ)) (gate : ℕ) (body behind : List ℕ) → AreBodies bodies → length body ≡ 15 →
    IsBeforeOrAfter bodies body (blocks bodies ++ gate ∷ (body ++ 0 ∷ behind))
gate_behind bodies gate body behind all fifteen = elim (cases_eq gate 1) [
  | inl is ↦ inr (ap (λ g. records (blocks bodies ++ g ∷ (body ++ 0 ∷ behind))) is ∙ records_behind bodies (1 ∷ (body ++ 0 ∷ behind)) all (omega arith) ∙ ap (λ (l : List (List ℕ)). bodies ++ l) one)
  | inr shut ↦ inl (shut_behind bodies gate (body ++ 0 ∷ behind) all shut)
]
  where
    one : records (1 ∷ (body ++ 0 ∷ behind)) ≡ body ∷ []
    one =
        let whole = 1 ∷ (body ++ 0 ∷ behind) in
        records_open whole (open_made whole refl (omega (arith, fifteen, length-append body (0 ∷ behind))))
        ∙ ap (λ (l : List ℕ). l ∷ records (drop 16 whole)) (take_at body (0 ∷ behind) 15 fifteen)
        ∙ ap (λ (l : List ℕ). body ∷ records l) (drop_at body (0 ∷ behind) 15 fifteen)
        ∙ ap (λ (l : List (List ℕ)). body ∷ l) (records_shut (0 ∷ behind) (shut_gate (0 ∷ behind) (omega arith)))

-- the parts of a settled file
pub record Settled (seen : List ℕ) (bodies : List (List ℕ)) : Type 0 where
  pub gate : ℕ
  pub behind : List ℕ
  pub split : seen ≡ blocks bodies ++ gate ∷ behind
  pub shut : gate ≢ 1

pub settled_parts : (seen : List ℕ) (image : List ℕ → Type 0) → IsSettled seen image → Settled seen (records seen)
settled_parts seen image s =
    let p = parts seen in
    let bodies = records seen in
    let n = 16 * length bodies in
    let long : length (blocks bodies) ≡ n = length-blocks bodies p.bodies in
    let rest : drop n seen ≡ p.rest = ap (drop n) p.split ∙ drop_at (blocks bodies) p.rest n long in
    let gate = get_or seen n 0 in
    let more : drop n seen ≡ gate ∷ drop (n + 1) seen = drop_more seen n 0 s.there in
    record {
      gate = gate;
      behind = drop (n + 1) seen;
      split = p.split ∙ ap (λ (l : List ℕ). blocks bodies ++ l) (sym rest ∙ more);
      shut = s.shut;
    }

-- blocks and a shut gate are settled, once a crash leaves just these
pub settles : (seen : List ℕ) (image : List ℕ → Type 0) (bodies : List (List ℕ)) (gate : ℕ) (behind : List ℕ) → seen ≡ blocks bodies ++ gate ∷ behind → AreBodies bodies → gate ≢ 1 →
    ((c : List ℕ) → image c → c ≡ seen) → IsSettled seen image
settles seen image bodies gate behind split all shut durable =
    let is : records seen ≡ bodies = ap records split ∙ shut_behind bodies gate behind all shut in
    let long : length (blocks bodies) ≡ 16 * length bodies = length-blocks bodies all in
    let count : 16 * length (records seen) ≡ 16 * length bodies = ap (λ (l : List (List ℕ)). 16 * length l) is in
    let size : length seen ≡ length (blocks bodies) + length (gate ∷ behind) = ap length split ∙ length-append (blocks bodies) (gate ∷ behind) in
    let at : get_or seen (16 * length (records seen)) 0 ≡ gate =
    ap (λ n. get_or seen n 0) count ∙ ap (λ (l : List ℕ). get_or l (16 * length bodies) 0) split ∙ get_or_at (blocks bodies) gate behind 0 (16 * length bodies) long in
    record {
      there = (let r : 16 * length (records seen) < length seen = omega arith in r);
      shut = λ one. shut (sym at ∙ one);
      durable = durable;
    }

module _ (seen : List ℕ) (bodies : List (List ℕ)) (all : AreBodies bodies) (count : ℕ) (counted : count ≡ length bodies) (s : Settled seen bodies) (body : List ℕ) (fifteen : length body ≡ 15) where
  size : length (blocks bodies) ≡ 16 * count
  size = omega (arith, length-blocks bodies all)

  abbrev front : List ℕ
  front = blocks bodies ++ s.gate ∷ []

  length-front : length front ≡ 16 * count + 1
  length-front = omega (arith, size, length-append (blocks bodies) (s.gate ∷ []))

  split : seen ≡ front ++ s.behind
  split = s.split ∙ sym (append_assoc (blocks bodies) (s.gate ∷ []) s.behind)

  -- the shut gate stands in each image of the first write
  pub torn_behind : (c : List ℕ) → Torn (16 * count + 1) 16 seen c → records c ≡ bodies
  torn_behind c torn =
      let kept : take (16 * count + 1) c ≡ front = torn.before ∙ ap (take (16 * count + 1)) split ∙ take_at front s.behind (16 * count + 1) length-front in
      let whole : c ≡ blocks bodies ++ s.gate ∷ drop (16 * count + 1) c =
      sym (take-append-drop (16 * count + 1) c) ∙ ap (λ (l : List ℕ). l ++ drop (16 * count + 1) c) kept ∙ append_assoc (blocks bodies) (s.gate ∷ []) (drop (16 * count + 1) c) in
      ap records whole ∙ shut_behind bodies s.gate (drop (16 * count + 1) c) all s.shut

  abbrev pub behind : List ℕ
  behind = drop 16 s.behind

  -- the file with the record behind the shut gate
  abbrev pub staged : List ℕ
  staged = blocks bodies ++ s.gate ∷ (body ++ 0 ∷ behind)

  -- what stands behind the record's place
  tail_is : (n : ℕ) → n ≡ 16 * count + 17 → drop n seen ≡ behind
  tail_is n is =
      ap (λ n. drop n seen) (let r : n ≡ length front + 16 = omega (arith, length-front, is) in r) ∙ ap (drop (length front + 16)) split ∙ past front s.behind 16
    where
      past : (xs ys : List ℕ) (n : ℕ) → drop (length xs + n) (xs ++ ys) ≡ drop n ys
      past xs ys n = sym (drop-drop n (length xs) (xs ++ ys)) ∙ ap (drop n) (drop_at xs ys (length xs) refl)

  pub written_behind : (c : List ℕ) → Holds seen (16 * count + 1) (body ++ 0 ∷ []) c → c ≡ staged
  written_behind c holds =
      let bytes = body ++ 0 ∷ [] in
      let sixteen : length bytes ≡ 16 = omega (arith, fifteen, length-append body (0 ∷ [])) in
      let at = 16 * count + 1 in
      let first : take at seen ≡ front = ap (take at) split ∙ take_at front s.behind at length-front in
      let last : drop (at + length bytes) seen ≡ behind = tail_is (at + length bytes) (omega (arith, sixteen)) in
      holds ∙ ap (λ (l : List ℕ). l ++ bytes ++ drop (at + length bytes) seen) first ∙ ap (λ (l : List ℕ). front ++ bytes ++ l) last
      ∙ append_assoc front bytes behind ∙ append_assoc (blocks bodies) (s.gate ∷ []) (bytes ++ behind)
      ∙ ap (λ (l : List ℕ). blocks bodies ++ s.gate ∷ l) (append_assoc body (0 ∷ []) behind)

  parts_of : (c : List ℕ) → take (16 * count) staged ≡ blocks bodies
  parts_of c = take_at (blocks bodies) (s.gate ∷ (body ++ 0 ∷ behind)) (16 * count) size

  back : drop (16 * count + 1) staged ≡ body ++ 0 ∷ behind
  back = ap (drop (16 * count + 1)) (sym (append_assoc (blocks bodies) (s.gate ∷ []) (body ++ 0 ∷ behind))) ∙ drop_at front (body ++ 0 ∷ behind) (16 * count + 1) length-front

  -- the record stands whole in each image of the second write
  pub torn_gate : (c : List ℕ) → Torn (16 * count) 1 staged c → IsBeforeOrAfter bodies body c
  torn_gate c torn =
      let long : length staged ≡ 16 * count + length (s.gate ∷ (body ++ 0 ∷ behind)) = length-append (blocks bodies) (s.gate ∷ (body ++ 0 ∷ behind)) ∙ ap (λ n. n + length (s.gate ∷ (body ++ 0 ∷ behind))) size in
      let gate = get_or c (16 * count) 0 in
      let rest : drop (16 * count) c ≡ gate ∷ (body ++ 0 ∷ behind) =
      drop_more c (16 * count) 0 (omega (arith, torn.no_shorter, long)) ∙ ap (λ (l : List ℕ). gate ∷ l) (torn.after ∙ back) in
      let whole : c ≡ blocks bodies ++ gate ∷ (body ++ 0 ∷ behind) =
      sym (take-append-drop (16 * count) c) ∙ ap (λ (l : List ℕ). l ++ drop (16 * count) c) (torn.before ∙ parts_of c) ∙ ap (λ (l : List ℕ). blocks bodies ++ l) rest in
      subst (IsBeforeOrAfter bodies body) (sym whole) (gate_behind bodies gate body behind all fifteen)

  -- the file with the record
  abbrev pub opened : List ℕ
  opened = blocks bodies ++ 1 ∷ (body ++ 0 ∷ behind)

  -- it is as before but for the record with its gate, and a shut gate behind it
  pub opened_gains : (c : List ℕ) → c ≡ opened → Holds seen (16 * count) (1 ∷ (body ++ 0 ∷ [])) c
  opened_gains c is =
      let line = 1 ∷ (body ++ 0 ∷ []) in
      let sixteen : length (body ++ 0 ∷ []) ≡ 16 = omega (arith, fifteen, length-append body (0 ∷ [])) in
      let first : take (16 * count) seen ≡ blocks bodies = ap (take (16 * count)) s.split ∙ take_at (blocks bodies) (s.gate ∷ s.behind) (16 * count) size in
      let last : drop (16 * count + length line) seen ≡ behind = tail_is (16 * count + length line) (omega (arith, sixteen)) in
      is ∙ ap (λ (l : List ℕ). blocks bodies ++ 1 ∷ l) (sym (append_assoc body (0 ∷ []) behind)) ∙ sym (append_assoc (blocks bodies) line behind)
      ∙ ap (λ (l : List ℕ). l ++ line ++ behind) (sym first) ∙ ap (λ (l : List ℕ). take (16 * count) seen ++ line ++ l) (sym last)

  pub written_gate : (c : List ℕ) → Holds staged (16 * count) (1 ∷ []) c → c ≡ opened
  written_gate c holds =
      holds ∙ ap (λ (l : List ℕ). l ++ (1 ∷ []) ++ drop (16 * count + 1) staged) (parts_of c) ∙ ap (λ (l : List ℕ). blocks bodies ++ (1 ∷ []) ++ l) back
      ∙ append_assoc (blocks bodies) (1 ∷ []) (body ++ 0 ∷ behind)

  blocks_more : (l : List (List ℕ)) (rest : List ℕ) → blocks (l ++ body ∷ []) ++ rest ≡ blocks l ++ 1 ∷ (body ++ rest)
  blocks_more [] rest = ap (λ (x : List ℕ). 1 ∷ (x ++ rest)) (append-nil body)
  blocks_more (x ∷ l) rest = ap (λ (t : List ℕ). 1 ∷ t) (append_assoc x (blocks (l ++ body ∷ [])) rest ∙ ap (λ (t : List ℕ). x ++ t) (blocks_more l rest) ∙ sym (append_assoc x (blocks l) (1 ∷ (body ++ rest))))

  more_bodies : (l : List (List ℕ)) → AreBodies l → AreBodies (l ++ body ∷ [])
  more_bodies [] h = (fifteen, tt)
  more_bodies (x ∷ l) h = (h.0, more_bodies l h.1)

  pub opened_split : opened ≡ blocks (bodies ++ body ∷ []) ++ 0 ∷ behind
  opened_split = sym (blocks_more bodies (0 ∷ behind))

  pub opened_records : records opened ≡ bodies ++ body ∷ []
  opened_records = ap records opened_split ∙ shut_behind (bodies ++ body ∷ []) 0 behind (more_bodies bodies all) (omega arith)

  pub opened_settled : (image : List ℕ → Type 0) (c : List ℕ) → c ≡ opened → ((d : List ℕ) → image d → d ≡ c) → IsSettled c image
  opened_settled image c is durable = settles c image (bodies ++ body ∷ []) 0 behind (is ∙ opened_split) (more_bodies bodies all) (omega arith) durable
