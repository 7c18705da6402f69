-- What one read, and one read after others, do to the bytes that a source has left.
use Rattle.std.proofs.Common.{◌≡◌, ℕ, ◌+◌, ◌<◌, ◌≤◌, ◌↔◌, List, [], ◌++◌, length, take, drop, Option, None, Some, IfSome, sym, ap, subst, ◌∙◌, arith, append-nil, length-append, length-drop}
use Rattle.std.proofs.lemmas.List.{take-append-le, drop_at, take_at, length-take-le}
use Rattle.std.specs.Io.KnownBytes.{Consumes, IsAtEnd}
use Rattle.std.proofs.KnownBytes.{Consumes-trans}
use Rattle.flow_io.specs.Source.{GivesNext, LosesCount, LosesAtMost, IsAllOf}

-- the bytes that are gone, by their number
pub loses_length : (left left' : Option (List ℕ)) (read : List ℕ) (n : ℕ)
    → Consumes left left' read → length read ≡ n → LosesCount left left' n
loses_length None left' read n gone long = tt
loses_length (Some bytes) None read n gone long = absurd gone
loses_length (Some bytes) (Some rest) read n gone long = (
  omega (arith, ap length gone, length-append read rest),
  ap Some (sym (ap (drop n) gone ∙ drop_at read rest n long)),
)

-- the same of a read after others
pub loses_both : (left left' left'' : Option (List ℕ)) (read buffer buffer' : List ℕ) (count n : ℕ)
    → Consumes left left' read → GivesNext left' left'' buffer buffer' count → length read + count ≡ n → LosesCount left left'' n
loses_both left left' left'' read buffer buffer' count n before given long =
    loses_length left left'' (read ++ take count buffer') n (Consumes-trans left left' left'' read _ before given.next)
    (length-append read (take count buffer') ∙ ap (λ k. length read + k) (length-take-le count buffer' given.fits) ∙ long)

-- what was lost, where what is claimed beside it holds
pub exactly_lost : {A : Type 0} (claim : A) (left left' : Option (List ℕ)) (n : ℕ)
    → LosesCount left left' n → IfSome left (λ bytes. A ↔ LosesCount (Some bytes) left' n)
exactly_lost claim None left' n lost = tt
exactly_lost claim (Some bytes) left' n lost = ((λ _. lost), (λ _. claim))

-- at most `limit` bytes were lost, so not one more
pub not_more_lost : {A : Type 0} (no_claim : ¬ A) (left left' : Option (List ℕ)) (limit : ℕ)
    → LosesAtMost left left' limit → IfSome left (λ bytes. A ↔ LosesCount (Some bytes) left' (limit + 1))
not_more_lost no_claim None left' limit lost = tt
not_more_lost no_claim (Some bytes) left' limit (k, few, lost) = (
  (λ claim. absurd (no_claim claim)),
  (λ more. let same : Some (drop k bytes) ≡ Some (drop (limit + 1) bytes) = sym lost.1 ∙ more.1 in let rest : drop k bytes ≡ drop (limit + 1) bytes = cc in
      absurd (omega (arith, more.0, ap length rest, length-drop k bytes, length-drop (limit + 1) bytes))),
)

-- the last read, of nothing
pub all_read : (left left' left'' : Option (List ℕ)) (read buffer : List ℕ) (n : ℕ)
    → Consumes left left' read → Consumes left' left'' (take n buffer) → n ≡ 0 → IsAtEnd left'' → IsAllOf left left'' read
all_read None left' left'' read buffer n before after none end = tt
all_read (Some bytes) None left'' read buffer n before after none end = absurd before
all_read (Some bytes) (Some rest) None read buffer n before after none end = absurd after
all_read (Some bytes) (Some rest) (Some rest') read buffer n before after none end =
    let gone : rest ≡ [] = after ∙ (λ i. take (none i) buffer ++ end i) in (sym (before ∙ ap (λ r. read ++ r) gone ∙ append-nil read), ap Some end)

-- what was read is within the buffer
pub front_within : {A : Type 0} (n : ℕ) (part rest : List A) → n ≤ length part → n ≤ length (part ++ rest)
front_within n part rest fits = omega (arith, length-append part rest)

pub front_length : {A : Type 0} (n : ℕ) (part rest : List A) → n ≤ length part → n ≡ length (take n (part ++ rest))
front_length n part rest fits = sym (length-take-le n (part ++ rest) (front_within n part rest fits))

-- bytes that were read into a piece and copied from its front are read into the buffer
pub gives_copied : (left left' : Option (List ℕ)) (buffer part rest copied : List ℕ) (n : ℕ)
    → n ≤ length part → copied ≡ take n (part ++ rest) → Consumes left left' (take n part)
    → (n ≡ 0 → 0 < length buffer → IsAtEnd left')
    → GivesNext left left' buffer (copied ++ drop n buffer) n
gives_copied left left' buffer part rest copied n fits put consumed end =
    let front : copied ≡ take n part = put ∙ take-append-le n part rest fits in
    let long : length copied ≡ n = ap length front ∙ length-take-le n part fits in record {
      fits = omega (arith, length-append copied (drop n buffer));
      next = subst (λ t. Consumes left left' t) (sym (take_at copied (drop n buffer) n long ∙ front)) consumed;
      rest = drop_at copied (drop n buffer) n long;
      end = end;
    }
