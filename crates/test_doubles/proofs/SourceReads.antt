-- What a source of tests gives, by what it keeps.
use Rattle.std.proofs.Common.{◌≡◌, ℕ, ◌+◌, ◌<◌, List, ◌++◌, length, take, drop, min, Option, Some, Result, Ok, Err, IfOk, sym, ap, ◌∙◌, arith, length-append}
use Rattle.std.proofs.lemmas.List.{take-append-drop, take-append-le, drop-append-le, drop-drop, drop_all, length-take}
use Rattle.flow_io.specs.Source.{GivesNext}

-- a source over memory gives the next `count` bytes of those left, from a place `at` in all the bytes
pub gives_from : (bytes left buffer buffer' : List ℕ) (at count : ℕ)
    → drop at bytes ≡ left → count ≡ min (length left) (length buffer) → length buffer' ≡ length buffer
    → take count buffer' ≡ take count left → drop count buffer' ≡ drop count buffer
    → GivesNext (Some left) (Some (drop (at + count) bytes)) buffer buffer' count
gives_from bytes left buffer buffer' at count here is_least same_length same rest =
    let gone : drop (at + count) bytes ≡ drop count left = sym (drop-drop count at bytes) ∙ ap (drop count) here in record {
      fits = omega arith;
      next = rw (gone, same) (sym (take-append-drop count left));
      rest = rest;
      end = λ zero_count has_room. gone ∙ drop_all count left (omega arith);
    }

-- a read into the front of a buffer is a read into the buffer
pub gives_into : (left left' : Option (List ℕ)) (buffer part : List ℕ) (room n : ℕ)
    → length part ≡ length (take room buffer) → (0 < length buffer → 0 < room)
    → GivesNext left left' (take room buffer) part n
    → GivesNext left left' buffer (part ++ drop room buffer) n
gives_into left left' buffer part room n same_length has_room given = record {
  fits = omega (arith, given.fits, length-append part (drop room buffer));
  next = rw (take-append-le n part (drop room buffer) given.fits) given.next;
  rest = drop-append-le n part (drop room buffer) given.fits
      ∙ ap (λ d. d ++ drop room buffer) given.rest
      ∙ sym (drop-append-le n (take room buffer) (drop room buffer) (omega (arith, given.fits)))
      ∙ ap (drop n) (take-append-drop room buffer);
  end = λ none not_empty. given.end none (omega (arith, has_room not_empty, length-take room buffer));
}

-- the same of the read's result
pub gives_into_ok : {E : Type 0} (result : Result ℕ E) (left left' : Option (List ℕ)) (buffer part : List ℕ) (room : ℕ)
    → length part ≡ length (take room buffer) → (0 < length buffer → 0 < room)
    → IfOk result (GivesNext left left' (take room buffer) part)
    → IfOk result (GivesNext left left' buffer (part ++ drop room buffer))
gives_into_ok (Ok n) left left' buffer part room same_length has_room given =
    gives_into left left' buffer part room n same_length has_room given
gives_into_ok (Err e) left left' buffer part room same_length has_room given = tt
