-- A number read digit by digit, and in its one spelling.
use Rattle.std.proofs.Common.{◌≡◌, ℕ, ◌+◌, ◌-◌, ◌*◌, ◌^◌, ◌≤◌, ◌<◌, Bool, true, false, ◌&&◌, ltb, leb, List, [], ◌∷◌, length, refl, sym, arith, le_refl, le_trans, Option, Some, None, IfSome, if◌then◌else◌, drop, get_or, lit<, ⊎_elim, rules}
use Rattle.std.proofs.lemmas.List.{drop_more}
use Rattle.std.specs.List.{list_all}
use Rattle.std.specs.Option.{option_and_then}
use Rattle.std.proofs.lemmas.Bool.{lt-ltb, le-leb, ltb-true}
use Rattle.std.specs.Fmt.{decimal}
use Rattle.std.proofs.lemmas.Fmt.{digits_decimal, digits_value-decimal, decimal_nonempty, length-decimal-le, decimal_digit, first_decimal, decimal-digits_value}
use Rattle.std.proofs.lemmas.Str.Parse.{IsNumeralModel, numerals_by_fold}
use Rattle.std.proofs.lemmas.Bool.{and_parts, eq-eqb, ne_eqb, cases_lt, cases_Bool}
use Rattle.std.proofs.lemmas.Bool.Decides.{nat_tests}
use Rattle.flow_record.specs.Number.{is_digit, value_after, is_numeral, number_of, has_leading_zero, plain_number, value_with}

-- the digits after others of that value, as far as they are digits and the value stays below 2 ^ 32
abbrev pub read_from : ℕ → List ℕ → Option ℕ
read_from value [] = Some value
read_from value (b ∷ bs) = option_and_then (λ v. read_from v bs) (value_with value b)

grows : (value : ℕ) (bs : List ℕ) → value ≤ value_after value bs
grows value [] = le_refl value
grows value (b ∷ bs) = le_trans (omega arith) (grows (value * 10 + (b - 48)) bs)

-- the value of digits, where they are digits and it is below 2 ^ 32
abbrev whole : ℕ → List ℕ → Option ℕ
whole value bs = if list_all is_digit bs && ltb (value_after value bs) (2 ^ 32) then Some (value_after value bs) else None

read : (value : ℕ) (bs : List ℕ) → value < 2 ^ 32 → read_from value bs ≡ whole value bs
read value [] small = rw (lt-ltb value (2 ^ 32) small) refl
read value (b ∷ bs) small =
    let next = value * 10 + (b - 48) in
    grind (arith, nat_tests, cases_Bool (is_digit b), cases_Bool (ltb next (2 ^ 32)), grows next bs, read next bs, cases_Bool (list_all is_digit bs))

-- a word of one to ten bytes read digit by digit
pub read_number : (word : List ℕ) → 0 < length word → length word ≤ 10 → number_of word ≡ read_from 0 word
read_number word some few =
    grind (arith, cases_Bool (list_all is_digit word), read 0 word (lit< tt), lt-ltb 0 (length word) some, le-leb (length word) 10 few)

-- one digit more
pub read_more : (value : ℕ) (word : List ℕ) (i : ℕ) → i < length word →
    read_from value (drop i word) ≡ option_and_then (λ v. read_from v (drop (i + 1) word)) (value_with value (get_or word i 0))
read_more value word i small = rw (drop_more word i 0 small) refl

-- ---- the one spelling of a number

digits_are : IsNumeralModel (λ ds. list_all is_digit ds ≡ true) (value_after 0)
digits_are = numerals_by_fold _ (search rules) value_after (search rules)

pub decimal_digits : (n : ℕ) → n < 2 ^ 32 → list_all is_digit (decimal n) ≡ true
decimal_digits n small = digits_decimal digits_are n (omega arith)

no_leading : (ds : List ℕ) → 48 < get_or ds 0 0 → has_leading_zero ds ≡ false
no_leading [] first = refl
no_leading (b ∷ []) first = refl
no_leading (b ∷ c ∷ bs) first = ne_eqb b 48 (omega arith)

decimal_leads : (n : ℕ) → n < 2 ^ 32 → has_leading_zero (decimal n) ≡ false
decimal_leads n small = ⊎_elim
    (λ some. no_leading (decimal n) (first_decimal n some (omega arith)))
    (λ none. rw (decimal_digit n (omega arith)) refl)
    (cases_lt 0 n)

-- a number is read from its digits
pub number_there : (n : ℕ) → n < 2 ^ 32 → plain_number (decimal n) ≡ Some n
number_there n small =
    let big : n < 2 ^ 64 = omega arith in
    let some = decimal_nonempty n big in
    let few = length-decimal-le 10 n (omega arith) (omega arith) big in
    rw (decimal_leads n small, decimal_digits n small, lt-ltb 0 (length (decimal n)) some, le-leb (length (decimal n)) 10 few, digits_value-decimal digits_are n big, lt-ltb n (2 ^ 32) small) refl

leads_alone : (ds : List ℕ) → has_leading_zero ds ≡ false → 0 < length ds → get_or ds 0 0 ≡ 48 → length ds ≡ 1
leads_alone [] e some first = absurd (omega arith)
leads_alone (b ∷ []) e some first = refl
leads_alone (b ∷ c ∷ bs) e some first = let yes = eq-eqb b 48 first in absurd (cc)

-- what is read where a test holds, and where it does not
pub by_test : {A : Type 0} (t : Bool) (o p : Option A) (P : A → Type 0) → (t ≡ true → IfSome o P) → (t ≡ false → IfSome p P) → IfSome (if t then o else p) P
by_test true o p P one other = one refl
by_test false o p P one other = other refl

-- and what is read is its digits
pub number_back : (word : List ℕ) → IfSome (plain_number word) (λ n. (word ≡ decimal n) × (n < 2 ^ 32))
number_back word =
    let value = value_after 0 word in
    let P : ℕ → Type 0 = λ n. (word ≡ decimal n) × (n < 2 ^ 32) in
    by_test (has_leading_zero word) None _ P (λ e. tt) (λ e. by_test (is_numeral word && ltb value (2 ^ 32)) (Some value) None P (λ f.
    let read = and_parts (is_numeral word) (ltb value (2 ^ 32)) f in
    let parts = and_parts (list_all is_digit word) (ltb 0 (length word) && leb (length word) 10) read.0 in
    let some = ltb-true 0 (length word) (and_parts (ltb 0 (length word)) (leb (length word) 10) parts.1).0 in
    let small : value < 2 ^ 32 = ltb-true value (2 ^ 32) read.1 in
    (sym (decimal-digits_value digits_are word parts.0 some (leads_alone word e some) (omega arith)), small)) (λ _. tt))
