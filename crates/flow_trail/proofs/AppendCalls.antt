-- The four calls of an append, one after another.
use Rattle.std.proofs.Common.{◌≡◌, inl, ℕ, ◌+◌, ◌-◌, List, [], ◌∷◌, ◌++◌, length, take, drop, sym, subst, ◌∙◌}
use Rattle.flow_disk.specs.Disk.{Holds, Torn, Passes, Leaves}
use Rattle.flow_trail.specs.Whole.{HasLines, HasEither, IsSettled, line_of}
use Rattle.flow_trail.proofs.MomentLemmas.{started, goes_on}
use Rattle.flow_trail.proofs.WholeLemmas.{parts, shut_behind, torn_rest, staged, written_rest, torn_gate, opened, written_gate, opened_lines, opened_settled}

module _ {D : Type 0} (moment : D → ℕ) (image : D → ℕ → List ℕ → Type 0) (seen : D → List ℕ) (first : D) (place : ℕ) (rest : List ℕ)
    (settled : IsSettled place (seen first) (image first (moment first))) (last : drop (length rest - 1) rest ≡ 10 ∷ []) where
  abbrev P : List ℕ → Type 0
  P = HasEither (take place (seen first)) (line_of rest)

  begun : Leaves moment image first first P
  begun = started moment image first P (λ c i.
      inl (subst (HasLines (take place (seen first))) (sym (settled.durable c i ∙ parts place (seen first) settled.there)) (shut_behind _ _ _ settled.shut)))

  -- after the write behind the gate
  pub after_rest : (d : D) → Passes (moment first) (moment d) (image first) (image d) (Torn (place + 1) (length rest)) → Leaves moment image first d P
  after_rest d call = goes_on moment image first first d P (Torn (place + 1) (length rest)) begun call
      (λ x c was torn. torn_rest place (seen first) rest settled.there settled.shut last c (subst (λ f. Torn (place + 1) (length rest) f c) (settled.durable x was) torn))

  abbrev there : List ℕ
  there = staged place (seen first) rest settled.there settled.shut last

  abbrev whole : List ℕ
  whole = opened place (seen first) rest settled.there settled.shut last

  pub with_rest : (d : D) → Holds (seen first) (place + 1) rest (seen d) → seen d ≡ there
  with_rest d holds = written_rest place (seen first) rest settled.there settled.shut last (seen d) holds

  -- after the write of the gate: just before, a crash left only the file with the line behind its gate
  pub after_gate : (c d : D) → Leaves moment image first c P → seen c ≡ there →
      ((x : List ℕ) → image c (moment c) x → x ≡ seen c) → Passes (moment c) (moment d) (image c) (image d) (Torn place 1) → Leaves moment image first d P
  after_gate c d so_far is only call = goes_on moment image first c d P (Torn place 1) so_far call
      (λ x y was torn. torn_gate place (seen first) rest settled.there settled.shut last y (subst (λ f. Torn place 1 f y) (only x was ∙ is) torn))

  pub with_gate : (c d : D) → seen c ≡ there → Holds (seen c) place (123 ∷ []) (seen d) → seen d ≡ whole
  with_gate c d is holds = written_gate place (seen first) rest settled.there settled.shut last (seen d) (subst (λ f. Holds f place (123 ∷ []) (seen d)) is holds)

  pub is_written : (d : D) → seen d ≡ whole → take (place + length rest) (seen d) ≡ take place (seen first) ++ line_of rest
  is_written d is = opened_lines place (seen first) rest settled.there settled.shut last (seen d) is

  pub is_settled : (d : D) → seen d ≡ whole → ((x : List ℕ) → image d (moment d) x → x ≡ seen d) → IsSettled (place + length rest) (seen d) (image d (moment d))
  is_settled d is only = opened_settled place (seen first) rest settled.there settled.shut last (image d (moment d)) (seen d) is only
