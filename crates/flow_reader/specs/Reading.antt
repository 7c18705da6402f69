-- What reading the tokens of a text gives, or why it gives nothing.
use Rattle.std.specs.Prelude.{◌≡◌, ℕ, zero, suc, Bool, true, false, List, [], ◌∷◌, length, Option, Some, None, Result, Ok, Err}
use Rattle.flow_form.specs.declared.refusal.Wanted.{Wanted}
use Rattle.flow_form.specs.declared.refusal.TextRefusal.{TextRefusal}
use Rattle.flow_form.specs.declared.refusal.TextRefusal.TheVariants.{Expected, TooDeep, NoMemory}
use Rattle.flow_lex.specs.declared.token.Token.{Token}
use Rattle.flow_grammar.specs.Symbol.{Symbol}
use Rattle.flow_grammar.specs.Machine.{Reading, expected, too_deep, is_too_deep}

-- where the token of that number begins, or where the text ends
abbrev pub place_of : List ℕ → List Token → ℕ → ℕ
place_of text [] k = length text
place_of text (t ∷ ts) zero = t.start
place_of text (t ∷ ts) (suc k) = place_of text ts k

-- the refusal says what reading comes to; want of memory says nothing of it
abbrev pub IsReadRefusal : {V : Type 0} → List ℕ → List Token → Reading V → TextRefusal → Type 0
IsReadRefusal text tokens read (Expected place kind) = (k : ℕ) × (read ≡ expected kind k) × (place ≡ place_of text tokens k)
IsReadRefusal text tokens read (TooDeep place) = (k : ℕ) × (read ≡ too_deep k) × (place ≡ place_of text tokens k)
IsReadRefusal text tokens read NoMemory = Unit {0}
IsReadRefusal text tokens read _ = ⊥

-- One step of a machine

-- the reader after a step, or why there is none
abbrev pub settled : {R E : Type 0} → Result (Option R) E → Bool → ℕ → Wanted → Result R TextRefusal
settled (Err error) deep place kind = Err NoMemory
settled (Ok None) deep place kind = Err (Expected place kind)
settled (Ok (Some next)) true place kind = Err (TooDeep place)
settled (Ok (Some next)) false place kind = Ok next

-- the symbol leads on, and does not stand too deep
abbrev pub StepsTo : {S : Type 0} → (S → Symbol → Option S) → (S → ℕ) → S → Symbol → S → Type 0
StepsTo step depth s t next = (step s t ≡ Some next) × (is_too_deep t (depth s) ≡ false)

-- the refusal says why the symbol at the place does not
abbrev pub IsStepRefusal : {S : Type 0} → (S → Symbol → Option S) → (S → Wanted) → (S → ℕ) → S → Symbol → ℕ → TextRefusal → Type 0
IsStepRefusal step wanted depth s t place (Expected p kind) = (step s t ≡ None) × (kind ≡ wanted s) × (p ≡ place)
IsStepRefusal {S} step wanted depth s t place (TooDeep p) = ((next : S) × (step s t ≡ Some next)) × (is_too_deep t (depth s) ≡ true) × (p ≡ place)
IsStepRefusal step wanted depth s t place NoMemory = Unit {0}
IsStepRefusal step wanted depth s t place _ = ⊥
