-- The four calls of an append, one after another.
use Rattle.std.proofs.Common.{◌≡◌, inl, ℕ, ◌+◌, ◌*◌, List, [], ◌∷◌, ◌++◌, length, ap, subst, ◌∙◌, length-append}
use Rattle.flow_disk.specs.Disk.{Holds, Torn, Passes, Leaves}
use Rattle.flow_keep.specs.Records.{records}
use Rattle.flow_keep.specs.Kept.{IsSettled, IsBeforeOrAfter}
use Rattle.flow_keep.proofs.RecordLemmas.{AreBodies, parts}
use Rattle.flow_keep.proofs.MomentLemmas.{started, goes_on}
use Rattle.flow_keep.proofs.AppendLemmas.{Settled, settled_parts, torn_behind, staged, written_behind, torn_gate, opened, written_gate, opened_gains, opened_records, opened_settled}

module _ {D : Type 0} (moment : D → ℕ) (image : D → ℕ → List ℕ → Type 0) (seen : D → List ℕ) (first : D) (count : ℕ) (body line : List ℕ)
    (settled : IsSettled (seen first) (image first (moment first))) (counted : count ≡ length (records (seen first))) (is : line ≡ body ++ 0 ∷ []) (fifteen : length body ≡ 15) where
  abbrev bodies : List (List ℕ)
  bodies = records (seen first)

  abbrev all : AreBodies bodies
  all = (parts (seen first)).bodies

  abbrev file : Settled (seen first) bodies
  file = settled_parts (seen first) (image first (moment first)) settled

  abbrev P : List ℕ → Type 0
  P = IsBeforeOrAfter bodies body

  sixteen : length line ≡ 16
  sixteen = ap length is ∙ length-append body (0 ∷ []) ∙ ap (λ n. n + 1) fifteen

  begun : Leaves moment image first first P
  begun = started moment image first P (λ c i. inl (ap records (settled.durable c i)))

  -- after the write of the record
  pub after_record : (d : D) → Passes (moment first) (moment d) (image first) (image d) (Torn (16 * count + 1) (length line)) → Leaves moment image first d P
  after_record d call = goes_on moment image first first d P (Torn (16 * count + 1) (length line)) begun call
      (λ x c was torn. inl (torn_behind (seen first) bodies all count counted file body fifteen c
      (subst (λ n. Torn (16 * count + 1) n (seen first) c) sixteen (subst (λ f. Torn (16 * count + 1) (length line) f c) (settled.durable x was) torn))))

  -- what the record leaves in the file
  pub with_record : (d : D) → Holds (seen first) (16 * count + 1) line (seen d) → seen d ≡ staged (seen first) bodies all count counted file body fifteen
  with_record d holds = written_behind (seen first) bodies all count counted file body fifteen (seen d) (subst (λ r. Holds (seen first) (16 * count + 1) r (seen d)) is holds)

  -- after the write of the gate: just before, a crash left only the file with the record
  pub after_gate : (c d : D) → Leaves moment image first c P → seen c ≡ staged (seen first) bodies all count counted file body fifteen →
      ((x : List ℕ) → image c (moment c) x → x ≡ seen c) → Passes (moment c) (moment d) (image c) (image d) (Torn (16 * count) 1) → Leaves moment image first d P
  after_gate c d so_far there only call = goes_on moment image first c d P (Torn (16 * count) 1) so_far call
      (λ x y was torn. torn_gate (seen first) bodies all count counted file body fifteen y (subst (λ f. Torn (16 * count) 1 f y) (only x was ∙ there) torn))

  pub with_gate : (c d : D) → seen c ≡ staged (seen first) bodies all count counted file body fifteen → Holds (seen c) (16 * count) (1 ∷ []) (seen d) →
      seen d ≡ opened (seen first) bodies all count counted file body fifteen
  with_gate c d there holds = written_gate (seen first) bodies all count counted file body fifteen (seen d) (subst (λ f. Holds f (16 * count) (1 ∷ []) (seen d)) there holds)

  pub is_kept : (d : D) → seen d ≡ opened (seen first) bodies all count counted file body fifteen → records (seen d) ≡ bodies ++ body ∷ []
  is_kept d there = ap records there ∙ opened_records (seen first) bodies all count counted file body fifteen

  pub is_settled : (d : D) → seen d ≡ opened (seen first) bodies all count counted file body fifteen → ((x : List ℕ) → image d (moment d) x → x ≡ seen d) → IsSettled (seen d) (image d (moment d))
  is_settled d there only = opened_settled (seen first) bodies all count counted file body fifteen (image d (moment d)) (seen d) there only

  pub gains : (d : D) → seen d ≡ opened (seen first) bodies all count counted file body fifteen → Holds (seen first) (16 * count) (1 ∷ (body ++ 0 ∷ [])) (seen d)
  gains d there = opened_gains (seen first) bodies all count counted file body fifteen (seen d) there
