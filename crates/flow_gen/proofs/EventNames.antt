-- The names of generated events.
use Rattle.std.proofs.Common.{◌≡◌, ℕ, zero, suc, ◌+◌, ◌<◌, ◌≤◌, ◌^◌, true, false, nat_eq, List, [], ◌∷◌, map, drop, None, refl, sym, ap, subst, inl, inr, arith}
use Rattle.std.specs.List.{list_all}
use Rattle.std.proofs.lemmas.Fmt.{decimal_injective}
use Rattle.std.proofs.lemmas.Bool.{and_from, and_parts}
use Rattle.flow_model.specs.Lists.{◌∈◌, AreDistinct, numbers_from}
use Rattle.flow_lex.specs.Bytes.{is_digit, is_in_word}
use Rattle.flow_reader.specs.Symbols.{reserved}
use Rattle.flow_text.specs.Printable.{IsName}
use Rattle.flow_text.proofs.PrintedPieces.{decimal_writes}
use Rattle.flow_gen.specs.Generated.{event_name}

digit_in_word : (d : ℕ) → is_digit d ≡ true → is_in_word d ≡ true
digit_in_word d h = grind arith

digits_in_word : (ds : List ℕ) → list_all is_digit ds ≡ true → list_all is_in_word ds ≡ true
digits_in_word [] h = refl
digits_in_word (d ∷ ds) h =
    let (first, more) = and_parts (is_digit d) (list_all is_digit ds) h in
    and_from (is_in_word d) (list_all is_in_word ds) (digit_in_word d first) (digits_in_word ds more)

not_reserved : (d : ℕ) (ds : List ℕ) → is_digit d ≡ true → reserved (101 ∷ d ∷ ds) ≡ None
not_reserved d ds h = let not_v : nat_eq d 118 ≡ false = grind arith in rw not_v refl

-- it is a name, and not reserved
pub name_is : (k : ℕ) → k < 2 ^ 64 → IsName (event_name k)
name_is k h =
    let (digit, (more, (is, first, inside, value))) = decimal_writes k h in
    let P : List ℕ → Type 0 = λ ds. IsName (101 ∷ ds) in
    subst P (sym is) (
      refl,
      and_from (is_in_word digit) (list_all is_in_word more) (digit_in_word digit first) (digits_in_word more inside),
      not_reserved digit more first,
    )

not_later : (n first count : ℕ) → n < first → first + count ≤ 2 ^ 64 → ¬ (event_name n ∈ map event_name (numbers_from first count))
not_later n first zero h fits m = absurd m
not_later n first (suc count) h fits (inl e) =
    let same : n ≡ first = decimal_injective n first (omega arith) (omega arith) (ap (λ name. drop 1 name) e) in absurd (omega (arith, same, h))
not_later n first (suc count) h fits (inr m) = not_later n (first + 1) count (omega arith) (omega arith) m

pub distinct_names : (first count : ℕ) → first + count ≤ 2 ^ 64 → AreDistinct (map event_name (numbers_from first count))
distinct_names first zero fits = tt
distinct_names first (suc count) fits =
    (not_later first (first + 1) count (omega arith) (omega arith), distinct_names (first + 1) count (omega arith))
