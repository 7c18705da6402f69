-- Pieces of a text, and the symbols that they are read as.
use Rattle.std.proofs.Common.{rules, ◌≡◌, ℕ, zero, ◌+◌, ◌-◌, ◌<◌, ◌≤◌, ◌^◌, Bool, true, false, ◌||◌, List, [], ◌∷◌, ◌++◌, length, length-append, take, drop, map, refl, sym, ap, subst, ◌∙◌, arith, append_assoc, ◌*◌, ◌/◌, ◌%◌}
use Rattle.std.specs.Prelude.{slice_index_or, nat_eq, None, Some, nat_le}
use Rattle.std.specs.List.{list_all}
use Rattle.std.specs.Fmt.{decimal}
use Rattle.std.proofs.lemmas.Bool.{and_parts, and_from, le-leb}
use Rattle.std.proofs.lemmas.List.{map-append}
use Rattle.flow_lex.specs.declared.token.Token.{Token}
use Rattle.flow_lex.specs.declared.token.TokenKind.{TokenKind}
use Rattle.flow_lex.specs.declared.token.TokenKind.TheVariants.{Word, Number, Mark}
use Rattle.flow_lex.specs.Bytes.{is_space, is_letter, is_digit, is_in_word, is_mark, number_value}
use Rattle.flow_lex.specs.Tokens.{Lexed, token, with_tokens, after_piece, lexed_after, piece_at, bytes_of, IsAscii}
use Rattle.flow_lex.specs.Writing.{BeginsWithout, spanning}
use Rattle.flow_lex.proofs.Written.{words-read, numbers-read}
use Rattle.flow_grammar.specs.Symbol.{Symbol, a_name, a_number}
use Rattle.flow_reader.specs.Symbols.{reserved, word_symbol, mark_symbol, symbol_of}
use Rattle.flow_text.specs.Printable.{IsName}
use Rattle.flow_model.proofs.Lists.{each-append}
use Rattle.std.proofs.Math.Seq.{drop-append_seam, take-append_seam}
use Rattle.std.proofs.lemmas.Fmt.{decimal_by_steps}
use Rattle.std.proofs.lemmas.List.Folds.{list_all-append}
use Rattle.std.proofs.lemmas.List.Sums.{fold-append}

-- an open piece ends in a word or a number, and what follows does not go on with it
abbrev pub Stops : Bool → List ℕ → Type 0
Stops true rest = BeginsWithout is_in_word rest
Stops false rest = Unit {0}

-- in each text in which it stands, the piece is cut into tokens of these symbols
pub record Reads (open_end : Bool) (x : List ℕ) (f : List Symbol → List Symbol) : Type 0 where
  pub ascii : IsAscii x
  pub cut : (text front rest : List ℕ) → text ≡ front ++ (x ++ rest) → Stops open_end rest →
      (ts : List Token) × ((lexed_after (length front) zero (x ++ rest) ≡ with_tokens ts (lexed_after (length front + length x) zero rest))
      × ((r : List Symbol) → map (symbol_of text) ts ++ r ≡ f r))

regrouped : (a b : List Token) (l : Lexed) → with_tokens a (with_tokens b l) ≡ with_tokens (a ++ b) l
regrouped a b l = ap (λ ts. record { tokens = ts; bad = l.bad }) (sym (append_assoc a b l.tokens))

-- one piece after another
pub both : (e d : Bool) (x y : List ℕ) (f g : List Symbol → List Symbol) → ((rest : List ℕ) → Stops d rest → Stops e (y ++ rest)) →
    Reads e x f → Reads d y g → Reads d (x ++ y) (λ r. f (g r))
both e d x y f g stops a b = record {
  ascii = each-append (λ c. c ≤ 127) x y a.ascii b.ascii;
  cut = cut_both;
}
  where
    cut_both : (text front rest : List ℕ) → text ≡ front ++ ((x ++ y) ++ rest) → Stops d rest →
        (ts : List Token) × ((lexed_after (length front) zero ((x ++ y) ++ rest) ≡ with_tokens ts (lexed_after (length front + length (x ++ y)) zero rest))
        × ((r : List Symbol) → map (symbol_of text) ts ++ r ≡ f (g r)))
    cut_both text front rest is stop =
        let there : text ≡ front ++ (x ++ (y ++ rest)) = is ∙ ap (λ t. front ++ t) (append_assoc x y rest) in
        let behind : text ≡ (front ++ x) ++ (y ++ rest) = there ∙ sym (append_assoc front x (y ++ rest)) in
        let one = a.cut text front (y ++ rest) there (stops rest stop) in
        let two = b.cut text (front ++ x) rest behind stop in
        let place : length front + length x ≡ length (front ++ x) = sym (length-append front x) in
        let place_behind : length (front ++ x) + length y ≡ length front + length (x ++ y) = omega (arith, length-append front x, length-append x y) in (
          one.0 ++ two.0,
          (
            ap (λ t. lexed_after (length front) zero t) (append_assoc x y rest) ∙ one.1.0
                ∙ ap (λ p. with_tokens one.0 (lexed_after p zero (y ++ rest))) place
                ∙ ap (with_tokens one.0) two.1.0
                ∙ regrouped one.0 two.0 (lexed_after (length (front ++ x) + length y) zero rest)
                ∙ ap (λ p. with_tokens (one.0 ++ two.0) (lexed_after p zero rest)) place_behind,
            λ r. ap (λ t. t ++ r) (map-append (symbol_of text) one.0 two.0)
                ∙ append_assoc (map (symbol_of text) one.0) (map (symbol_of text) two.0) r
                ∙ ap (λ t. map (symbol_of text) one.0 ++ t) (two.1.1 r) ∙ one.1.1 (g r),
          ),
        )

-- behind a mark or a blank anything may stand
pub then : {d : Bool} {x y : List ℕ} {f g : List Symbol → List Symbol} → Reads false x f → Reads d y g → Reads d (x ++ y) (λ r. f (g r))
then {d} {x} {y} {f} {g} a b = both false d x y f g (λ rest stop. tt) a b

-- behind a word or a number, what begins with a mark or a blank; or nothing, where the whole is open
abbrev pub Begins : Bool → List ℕ → Type 0
Begins true [] = Unit {0}
Begins false [] = ⊥
Begins d (b ∷ bs) = is_in_word b ≡ false

stops_there : (d : Bool) (y : List ℕ) → Begins d y → (rest : List ℕ) → Stops d rest → Stops true (y ++ rest)
stops_there d y h rest stop = search rules

pub ended_by : {d : Bool} {x y : List ℕ} {f g : List Symbol → List Symbol} → Reads true x f → Reads d y g → Begins d y → Reads d (x ++ y) (λ r. f (g r))
ended_by {d} {x} {y} {f} {g} a b h = both true d x y f g (stops_there d y h) a b

-- a piece that a word or a number may stand before
abbrev pub Follows : Bool → List ℕ → (List Symbol → List Symbol) → Type 0
Follows d y g = Reads d y g × Begins d y

pub closed : {d : Bool} {x y : List ℕ} {f g : List Symbol → List Symbol} → Reads true x f → Follows d y g → Reads d (x ++ y) (λ r. f (g r))
closed a (b, h) = ended_by a b h

-- a piece that may be followed by anything may be followed by a mark or a blank
pub opened : {x : List ℕ} {f : List Symbol → List Symbol} → Reads false x f → Reads true x f
opened a = record { ascii = a.ascii; cut = λ text front rest is stop. a.cut text front rest is tt }

pub nothing : (d : Bool) → Reads d [] (λ r. r)
nothing d = record {
  ascii = tt;
  cut = λ text front rest is stop. ([], (ap (λ p. lexed_after p zero rest) (omega arith), λ r. refl));
}

all-ascii : (p : ℕ → Bool) → ((b : ℕ) → p b ≡ true → b ≤ 127) → (bs : List ℕ) → list_all p bs ≡ true → IsAscii bs
all-ascii p small [] h = tt
all-ascii p small (b ∷ bs) h = let parts = and_parts (p b) (list_all p bs) h in (small b parts.0, all-ascii p small bs parts.1)

-- the bytes of a token are those that stand there
bytes_there : (text front x rest : List ℕ) (kind : TokenKind) → text ≡ front ++ (x ++ rest) → bytes_of text (spanning kind (length front) (length x)) ≡ x
bytes_there text front x rest kind is =
    let size : length front + length x - length front ≡ length x = omega arith in
    (λ i. take (size i) (drop (length front) (is i))) ∙ ap (take (length x)) (drop-append_seam front (x ++ rest)) ∙ take-append_seam x rest

byte_there : (front rest : List ℕ) (b : ℕ) → slice_index_or (front ++ b ∷ rest) (length front) 0 ≡ b
byte_there [] rest b = refl
byte_there (c ∷ front) rest b = byte_there front rest b

pub word : (b : ℕ) (bs : List ℕ) → is_letter b ≡ true → list_all is_in_word bs ≡ true → Reads true (b ∷ bs) (λ r. word_symbol (b ∷ bs) ∷ r)
word b bs first inside = record {
  ascii = (grind arith, all-ascii is_in_word (λ b in_word. grind arith) bs inside);
  cut = λ text front rest is stop. (
    spanning Word (length front) (length (b ∷ bs)) ∷ [],
    (
      words-read (length front) b bs rest first inside stop,
      λ r. ap (λ x. word_symbol x ∷ r) (bytes_there text front (b ∷ bs) rest Word is),
    ),
  );
}

pub name : (n : List ℕ) → IsName n → Reads true n (λ r. a_name n ∷ r)
name [] h = absurd h
name (b ∷ bs) (first, inside, free) = subst (λ (s : Symbol). Reads true (b ∷ bs) (λ r. s ∷ r)) (named_symbol (b ∷ bs) free) (word b bs first inside)
  where
    named_symbol : (w : List ℕ) → reserved w ≡ None → word_symbol w ≡ a_name w
    named_symbol w e = rw e refl

-- the digits write the number
abbrev pub Writes : ℕ → List ℕ → Type 0
Writes n ds = (digit : ℕ) × ((more : List ℕ) × ((ds ≡ digit ∷ more) × (is_digit digit ≡ true) × (list_all is_digit more ≡ true) × (number_value ds ≡ n)))

digit-is : (d : ℕ) → d < 10 → is_digit (48 + d) ≡ true
digit-is d h = and_from (nat_le 48 (48 + d)) (nat_le (48 + d) 57) (le-leb 48 (48 + d) (omega arith)) (le-leb (48 + d) 57 (omega arith))

one_digit : (n : ℕ) → n < 10 → Writes n ((48 + n) ∷ [])
one_digit n h = (48 + n, ([], (refl, digit-is n h, refl, omega arith)))

more_digits : (n : ℕ) (ds : List ℕ) → 10 ≤ n → Writes (n / 10) ds → Writes n (ds ++ ((48 + n % 10) ∷ []))
more_digits n ds h (digit, (more, (is, first, inside, value))) =
    let last : List ℕ = (48 + n % 10) ∷ [] in (
      digit,
      (
        more ++ last,
        (
          ap (λ t. t ++ last) is,
          first,
          list_all-append is_digit more last ∙ and_from (list_all is_digit more) (list_all is_digit last) inside (and_from (is_digit (48 + n % 10)) true (digit-is (n % 10) (omega arith)) refl),
          fold-append (λ value digit. 10 * value + (digit - 48)) 0 ds last ∙ ap (λ v. 10 * v + (48 + n % 10 - 48)) value ∙ omega arith,
        ),
      ),
    )

pub decimal_writes : (n : ℕ) → n < 2 ^ 64 → Writes n (decimal n)
decimal_writes n h = decimal_by_steps Writes one_digit more_digits n h

stops-digits : (rest : List ℕ) → BeginsWithout is_in_word rest → BeginsWithout is_digit rest
stops-digits [] h = tt
stops-digits (b ∷ bs) h = no_digit (is_letter b) (is_digit b) (nat_eq b 95) h
  where
    no_digit : (l d u : Bool) → (l || d || u) ≡ false → d ≡ false
    no_digit true d u h = cc
    no_digit false true u h = cc
    no_digit false false u h = refl

written : (n : ℕ) (ds : List ℕ) → n < 2 ^ 32 → Writes n ds → Reads true ds (λ r. a_number n ∷ r)
written n ds small (digit, (more, (is, first, inside, value))) =
    subst (λ (w : List ℕ). Reads true w (λ r. a_number n ∷ r)) (sym is)
    (subst (λ (m : ℕ). Reads true (digit ∷ more) (λ r. a_number m ∷ r)) same (digits_read (subst (λ (m : ℕ). m < 2 ^ 32) (sym same) small)))
  where
    same : number_value (digit ∷ more) ≡ n
    same = ap number_value (sym is) ∙ value

    digits_read : number_value (digit ∷ more) < 2 ^ 32 → Reads true (digit ∷ more) (λ r. a_number (number_value (digit ∷ more)) ∷ r)
    digits_read fits = record {
      ascii = (grind arith, all-ascii is_digit (λ b is_one. grind arith) more inside);
      cut = λ text front rest at stop. (
        spanning Number (length front) (length (digit ∷ more)) ∷ [],
        (
          numbers-read (length front) digit more rest first inside (stops-digits rest stop) fits,
          λ r. ap (λ x. a_number (number_value x) ∷ r) (bytes_there text front (digit ∷ more) rest Number at),
        ),
      );
    }

pub number : (n : ℕ) → n < 2 ^ 32 → Reads true (decimal n) (λ r. a_number n ∷ r)
number n h = written n (decimal n) h (decimal_writes n (omega arith))

space-piece : (b : ℕ) (bs : List ℕ) → is_space b ≡ true → piece_at b bs ≡ Some (record { kind = None; more = 0 })
space-piece b bs h = grind arith

pub blank : (b : ℕ) → is_space b ≡ true → Reads false (b ∷ []) (λ r. r)
blank b h = record {
  ascii = (grind arith, tt);
  cut = λ text front rest is stop.
      ([], (ap (λ piece. after_piece (length front) piece (λ n. lexed_after (length front + 1) n rest)) (space-piece b rest h), λ r. refl));
}

-- the byte is a mark, which computes for each that is written out
abbrev pub IsMark : ℕ → Type 0
IsMark b = (is_mark b ≡ true) × ((bs : List ℕ) → piece_at b bs ≡ Some (token Mark 0))

pub mark : (b : ℕ) → IsMark b → Reads false (b ∷ []) (λ r. mark_symbol b ∷ r)
mark b h = record {
  ascii = (let marks : is_mark b ≡ true = h.0 in grind arith, tt);
  cut = λ text front rest is stop. (
    spanning Mark (length front) 1 ∷ [],
    (
      ap (λ piece. after_piece (length front) piece (λ n. lexed_after (length front + 1) n rest)) (h.1 rest)
          ∙ ap (λ e. with_tokens (record { kind = Mark; start = length front; end = e } ∷ []) (lexed_after (length front + 1) zero rest)) (ended (length front)),
      λ r. ap (λ c. mark_symbol c ∷ r) (ap (λ t. slice_index_or t (length front) 0) is ∙ byte_there front rest b),
    ),
  );
}
  where
    ended : (place : ℕ) → place + 0 + 1 ≡ place + 1
    ended place = omega arith
