use Rattle.std.proofs.Common.{◌≡◌, ℕ, ◌+◌, ◌<◌, ◌≤◌, List, ◌++◌, length, take, true, false, refl, sym, ◌∙◌, true≢false, arith}
use Rattle.std.proofs.lemmas.List.{length-take, length-take-le}
use Rattle.flow_io.proofs.SourceLemmas.{front_length, front_within, gives_copied}
use Rattle.flow_io.proofs.std_source.StdSourceSource.read.Goals as goal

-- as many bytes at the front of the caller's buffer as of the piece
same_front : {A : Type 0} (n : ℕ) (buffer part rest : List A) → n ≤ length buffer → n ≤ length part → length (take n buffer) ≡ length (take n (part ++ rest))
same_front n buffer part rest room fits = length-take-le n buffer room ∙ front_length n part rest fits

-- a failed read is counted, and another is not
counted : (n : ℕ) → (true ≡ true → n < n + 1) × (n < n + 1 → true ≡ true)
counted n = ((λ _. omega arith), (λ _. refl))

not_counted : (n : ℕ) → (false ≡ true → n < n) × (n < n → false ≡ true)
not_counted n = ((λ e. absurd (true≢false (sym e))), (λ h. absurd (omega arith)))

pub copy_from_slice-requires : goal.copy_from_slice-requires
copy_from_slice-requires g c =
    same_front c.in-Ok.count c.args.buf.now c.read.new.buf _ (omega (arith, c.in-Ok.ensures.bound.0, c.read.auto.buf, length-take {A = ℕ})) c.in-Ok.ensures.bound.0

pub returns-in-Ok-clause-given : goal.returns-in-Ok-clause-given
returns-in-Ok-clause-given g c =
    gives_copied _ _ c.args.buf.now c.read.new.buf _ c.copy_from_slice.new.self c.in-Ok.count c.in-Ok.ensures.bound.0 c.copy_from_slice.ensures.after c.in-Ok.ensures.bytes.0
    (λ none some. c.in-Ok.ensures.bytes.1 none (omega (arith, c.read.auto.buf, length-take {A = ℕ})))

pub returns-in-Err-clause-failed : goal.returns-in-Err-clause-failed
returns-in-Err-clause-failed g c = counted c.args.self.now.faults

pub returns-in-Ok-clause-failed : goal.returns-in-Ok-clause-failed
returns-in-Ok-clause-failed g c = not_counted c.args.self.now.faults

pub slice_bounds-copy_from_slice-end-in-Ok-2 : goal.slice_bounds-copy_from_slice-end-in-Ok-2
slice_bounds-copy_from_slice-end-in-Ok-2 g c = front_length c.in-Ok.count c.read.new.buf _ c.in-Ok.ensures.bound.0

pub slice_bounds-piece-end-in-Ok : goal.slice_bounds-piece-end-in-Ok
slice_bounds-piece-end-in-Ok g c = front_within c.in-Ok.count c.read.new.buf _ c.in-Ok.ensures.bound.0
