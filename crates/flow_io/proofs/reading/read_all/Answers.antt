use Rattle.std.proofs.Common.{◌≡◌, ◌≢◌, ℕ, true, false, ◌+◌, ◌-◌, ◌<◌, ◌≤◌, List, ◌++◌, length, take, drop, vec_len, Option, ⊎_elim, arith, refl, sym, ap, ◌∙◌, subst, Ok, Err, IsErrOf}
use Rattle.std.specs.Io.KnownBytes.{Consumes}
use Rattle.std.proofs.KnownBytes.{Consumes-kept, Consumes-trans}
use Rattle.std.proofs.lemmas.Bool.{cases_lt, false≢true}
use Rattle.std.proofs.lemmas.List.{length-take, take-append-le}
use Rattle.flow_io.specs.declared.failure.ReadRefusal.TheVariants.{ReadFault, TooLong, NoMemory}
use Rattle.flow_io.proofs.SourceLemmas.{front_length, front_within, exactly_lost, not_more_lost, all_read, loses_length, loses_both}
use Rattle.flow_io.proofs.reading.read_all.Goals as goal

-- one piece more
consumes_more : (left left' left'' : Option (List ℕ)) (bytes new part rest : List ℕ) (n : ℕ) → n ≤ length part → new ≡ bytes ++ take n (part ++ rest) →
    Consumes left left' bytes → Consumes left' left'' (take n part) → Consumes left left'' new
consumes_more left left' left'' bytes new part rest n fits is before given =
    subst (λ read. Consumes left left'' read) (sym (is ∙ ap (λ t. bytes ++ t) (take-append-le n part rest fits))) (Consumes-trans left left' left'' bytes (take n part) before given)

no_fault : (old new : ℕ) → old ≤ new → (old < new → false ≡ true) → new ≡ old
no_fault old new later failed = ⊎_elim (λ less. absurd (false≢true (failed less))) (λ most. omega arith) (cases_lt old new)

module _ (old new seen limit : ℕ) (part rest : List ℕ) (n : ℕ) (fits : n ≤ length part) (long : new ≡ old + length (take n (part ++ rest))) (same : seen ≡ old) where
  longer : new ≡ old + n
  longer = long ∙ ap (λ k. old + k) (sym (front_length n part rest fits))

  room_for : old ≤ limit → n ≤ limit - seen → new ≤ limit
  room_for within few = omega (arith, longer, same)

  less_room : n ≢ 0 → n ≤ limit - seen → limit - new < limit - old
  less_room some few = omega (arith, longer, same)

-- the other ends of a call
not_too_long : {B : Type 0} → ¬ (IsErrOf {T = B} (Err ReadFault) TooLong) × ¬ (IsErrOf {T = B} (Err NoMemory) TooLong) × ((bytes : B) → ¬ (IsErrOf (Ok bytes) TooLong))
not_too_long = ((λ e. cc), (λ e. cc), (λ bytes e. cc))

not_faulted : {B : Type 0} → ¬ (IsErrOf {T = B} (Err NoMemory) ReadFault) × ¬ (IsErrOf {T = B} (Err TooLong) ReadFault) × ((bytes : B) → ¬ (IsErrOf (Ok bytes) ReadFault))
not_faulted = ((λ e. cc), (λ e. cc), (λ bytes e. cc))

not_starved : {B : Type 0} → ¬ (IsErrOf {T = B} (Err TooLong) NoMemory) × ((bytes : B) → ¬ (IsErrOf (Ok bytes) NoMemory))
not_starved = ((λ e. cc), (λ bytes e. cc))

pub returns-in_default-clause-faulted : goal.returns-in_default-clause-faulted
returns-in_default-clause-faulted g c =
    λ _. (length c.loop-count.bytes.items, (omega arith), loses_length _ _ _ _ (Consumes-kept _ _ _ _ c.loop-count.invariant.0 c.in_default.ensures.left_kept) refl)

pub returns-in_default-clause-too_long : goal.returns-in_default-clause-too_long
returns-in_default-clause-too_long g c = not_more_lost not_too_long.0 _ _ _ (returns-in_default-clause-faulted g c refl)

pub returns-then-count-eq0-clause-whole : goal.returns-then-count-eq0-clause-whole
returns-then-count-eq0-clause-whole g c =
    let given = c.in-Ok.ensures.given in all_read _ _ _ _ _ _ c.loop-count.invariant.0 given.next c.if-count-eq0.true (given.end c.if-count-eq0.true (omega (arith, length-take {A = ℕ})))

pub returns-then-count-eq0-clause-too_long : goal.returns-then-count-eq0-clause-too_long
returns-then-count-eq0-clause-too_long g c =
    not_more_lost (not_too_long.2 _) _ _ _ (vec_len c.loop-count.bytes, c.loop-count.invariant.2, loses_both _ _ _ _ _ _ _ _ c.loop-count.invariant.0 c.in-Ok.ensures.given (omega arith))

pub returns-then-count-limit-clause-too_long : goal.returns-then-count-limit-clause-too_long
returns-then-count-limit-clause-too_long g c =
    exactly_lost refl _ _ _ (loses_both _ _ _ _ _ _ _ _ c.loop-count.invariant.0 c.in-Ok.ensures.given (omega (arith, c.in-Ok.ensures.given.fits, length-take {A = ℕ})))

pub returns-in_default-extend_from_slice-clause-starved : goal.returns-in_default-extend_from_slice-clause-starved
returns-in_default-extend_from_slice-clause-starved g c =
    λ _. (vec_len c.loop-count.bytes + c.in-Ok.count, (omega arith), loses_both _ _ _ _ _ _ _ _ c.loop-count.invariant.0 c.in-Ok.ensures.given (omega arith))

pub returns-in_default-extend_from_slice-clause-too_long : goal.returns-in_default-extend_from_slice-clause-too_long
returns-in_default-extend_from_slice-clause-too_long g c = not_more_lost not_too_long.1 _ _ _ (returns-in_default-extend_from_slice-clause-starved g c refl)

pub slice_bounds-extend_from_slice-end : goal.slice_bounds-extend_from_slice-end
slice_bounds-extend_from_slice-end g c = front_length c.in-Ok.count c.read.new.buf _ c.in-Ok.ensures.given.fits

pub slice_bounds-buffer-end-in-loop-count : goal.slice_bounds-buffer-end-in-loop-count
slice_bounds-buffer-end-in-loop-count g c = front_within c.in-Ok.count c.read.new.buf _ c.in-Ok.ensures.given.fits

pub returns-in_default-extend_from_slice-clause-faulted : goal.returns-in_default-extend_from_slice-clause-faulted
returns-in_default-extend_from_slice-clause-faulted g c = λ wrong. absurd (not_faulted.0 wrong)

pub returns-then-count-limit-clause-faulted : goal.returns-then-count-limit-clause-faulted
returns-then-count-limit-clause-faulted g c = λ wrong. absurd (not_faulted.1 wrong)

pub returns-then-count-eq0-clause-faulted : goal.returns-then-count-eq0-clause-faulted
returns-then-count-eq0-clause-faulted g c = λ wrong. absurd (not_faulted.2 _ wrong)

pub returns-then-count-limit-clause-starved : goal.returns-then-count-limit-clause-starved
returns-then-count-limit-clause-starved g c = λ wrong. absurd (not_starved.0 wrong)

pub returns-then-count-eq0-clause-starved : goal.returns-then-count-eq0-clause-starved
returns-then-count-eq0-clause-starved g c = λ wrong. absurd (not_starved.1 _ wrong)

pub loop-count-preserved : goal.loop-count-preserved
loop-count-preserved g c =
    let given = c.in-Ok.ensures.given in
    let extended = c.in-Ok-extend_from_slice.ensures in (
      consumes_more _ _ _ c.loop-count.bytes.items c.extend_from_slice.new.self.items c.read.new.buf (drop c.min-room.result c.loop-count.buffer) c.in-Ok.count given.fits extended.items c.loop-count.invariant.0 given.next,
      no_fault _ _ c.in-Ok.ensures.later c.in-Ok.ensures.failed.1 ∙ c.loop-count.invariant.1,
      room_for (vec_len c.loop-count.bytes) (vec_len c.extend_from_slice.new.self) c.len-in-loop-count.result c.args.limit c.read.new.buf (drop c.min-room.result c.loop-count.buffer) c.in-Ok.count given.fits extended.len
          c.len-in-loop-count.ensures c.loop-count.invariant.2 c.if-count-limit.false,
    )

pub loop-count-smaller : goal.loop-count-smaller
loop-count-smaller g c =
    less_room (vec_len c.loop-count.bytes) (vec_len c.extend_from_slice.new.self) c.len-in-loop-count.result c.args.limit c.read.new.buf (drop c.min-room.result c.loop-count.buffer) c.in-Ok.count c.in-Ok.ensures.given.fits c.in-Ok-extend_from_slice.ensures.len
    c.len-in-loop-count.ensures c.if-count-eq0.false c.if-count-limit.false
