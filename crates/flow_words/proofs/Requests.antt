-- The request that matches say.
use Rattle.std.proofs.Common.{◌≡◌, ◌∙◌, ◌≤◌, ℕ, ap, sym, refl, arith, Option, Some, None, IfSome, codes}
use Rattle.std.specs.Prelude.{Ok, Err, Result, MatchOption}
use Rattle.std.specs.Str.Parse.{ParsesUnsigned}
use Rattle.clap.specs.Words.{ReadsOne, Text, first_of, first_value, one_text, rows_of}
use Rattle.clap.specs.declared.parser.matches.Found.{Found}
use Rattle.clap.proofs.WalkLemmas.{first_value-rows, one_text-rows}
use Rattle.flow_words.specs.Command.{IsBetween}
use Rattle.flow_words.specs.Words.{HasNumber, IsOf, mode_word}
use Rattle.flow_words.specs.declared.request.Mode.{Mode}
use Rattle.flow_words.specs.declared.request.Request.{Request}

-- ---- one option

-- a number that is found is the one of the rows
pub number_read : (E : Type 0) (G : Text → Result ℕ E → Type 0) → ((text : Text) (x : Result ℕ E) → G text x → ParsesUnsigned 32 10 text x)
    → (f : Found) (name : Text) (r : Option ℕ) → (one_text f name ≡ None → r ≡ None) → ((text : Text) → one_text f name ≡ Some text → ReadsOne G text r)
    → IfSome (one_text f name) (IsBetween 0 4294967295)
    → MatchOption r ((n : ℕ) → ¬ (HasNumber name (rows_of f) n)) (HasNumber name (rows_of f))
number_read E G only f name r none some found = go (one_text f name) refl
  where
    here : (text : Text) → one_text f name ≡ Some text → IsBetween 0 4294967295 text → (o : Option ℕ) → ReadsOne G text o
        → MatchOption o ((n : ℕ) → ¬ (HasNumber name (rows_of f) n)) (HasNumber name (rows_of f))
    here text e between None h = absurd (only text (Err h.0) h.1 (between.numeral, omega (arith, between.not_greater)))
    here text e between (Some n) h = (text, sym (one_text-rows f name) ∙ e, (only text (Ok n) h).1)

    go : (o : Option Text) → one_text f name ≡ o → MatchOption r ((n : ℕ) → ¬ (HasNumber name (rows_of f) n)) (HasNumber name (rows_of f))
    go None e = rw (none e) (λ n has. let bad : None ≡ Some has.0 = sym e ∙ (one_text-rows f name ∙ has.1) in cc)
    go (Some text) e = here text e (rw e at found) r (some text e)

-- the number of the rows lies in the bounds
pub in_bounds : (f : Found) (name : Text) (n least greatest : ℕ) → HasNumber name (rows_of f) n → IfSome (one_text f name) (IsBetween least greatest)
    → (least ≤ n) × (n ≤ greatest)
in_bounds f name n least greatest has found =
    let between : IsBetween least greatest has.0 = rw (one_text-rows f name ∙ has.1) at found in
    (omega (arith, has.2, between.not_less), omega (arith, has.2, between.not_greater))

-- ---- the mode

-- ---- the request

-- no request is found where none is there
pub no_request : (f : Found) (r : Option Request) → r ≡ None → ((request : Request) → ¬ (IsOf (rows_of f) request))
    → MatchOption r ((request : Request) → ¬ (IsOf (rows_of f) request)) (IsOf (rows_of f))
no_request f None e none = none
no_request f (Some request) e none = cc

pub mode_found : (f : Found) (word : Text) (mode : Mode) → Some word ≡ first_value f (codes "mode") → word ≡ mode_word mode
    → first_of (codes "mode") (rows_of f) ≡ Some (mode_word mode)
mode_found f word mode found is = sym (first_value-rows f (codes "mode")) ∙ (sym found ∙ ap Some is)

pub without_mode : (f : Found) → None ≡ first_value f (codes "mode") → (request : Request) → ¬ (IsOf (rows_of f) request)
without_mode f none request of =
    let bad : None ≡ Some (mode_word request.mode) = none ∙ (first_value-rows f (codes "mode") ∙ of.mode) in
    cc

pub with_no_mode : (f : Found) (word : Text) → Some word ≡ first_value f (codes "mode") → ((mode : Mode) → ¬ (word ≡ mode_word mode))
    → (request : Request) → ¬ (IsOf (rows_of f) request)
with_no_mode f word found none request of =
    let same : Some word ≡ Some (mode_word request.mode) = found ∙ (first_value-rows f (codes "mode") ∙ of.mode) in
    none request.mode (cc)
