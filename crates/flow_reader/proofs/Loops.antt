-- A machine that goes along the tokens of a text.
use Rattle.std.proofs.Common.{rules, ◌≡◌, ℕ, suc, ◌+◌, ◌≤◌, List, [], ◌∷◌, length, sym, ap, subst, ◌∙◌, arith}
use Rattle.std.specs.Prelude.{Bool, option_map, Result, IfOk, IfErr}
use Rattle.std.specs.Prelude.{Option, Some, None}
use Rattle.flow_form.specs.declared.refusal.Wanted.{Wanted}
use Rattle.flow_model.specs.Lists.{Each}
use Rattle.flow_form.specs.declared.refusal.TextRefusal.{TextRefusal}
use Rattle.flow_form.specs.declared.refusal.TextRefusal.TheVariants.{Expected}
use Rattle.flow_lex.specs.declared.token.Token.{Token}
use Rattle.flow_lex.specs.Tokens.{AreSpans, IsSmall}
use Rattle.flow_grammar.specs.Symbol.{Symbol}
use Rattle.flow_grammar.specs.Machine.{Reading, gives, expected, is_too_deep, shifted, run}
use Rattle.flow_grammar.proofs.RunSteps.{goes_by_step}
use Rattle.flow_reader.specs.Symbols.{symbol_of, symbols_of}
use Rattle.flow_reader.specs.Reading.{place_of, settled, StepsTo, IsStepRefusal, IsReadRefusal}
use Rattle.flow_reader.proofs.Within.{Within}

-- what a step of the code comes to, in the machine's terms
pub settled_step : {R E S : Type 0} (view : R → S) (step : S → Symbol → Option S) (depth : S → ℕ) (s : S) (t : Symbol)
    (made : Result (Option R) E) (deep : Bool) (place : ℕ) (kind : Wanted) (result : Result R TextRefusal) →
    IfOk made (λ next. option_map view next ≡ step s t) → deep ≡ is_too_deep t (depth s) → result ≡ settled made deep place kind →
    IfOk result (λ r. StepsTo step depth s t (view r))
settled_step view step depth s t made deep place kind result led counted e = rw e (search rules)

pub settled_refusal : {R E S : Type 0} (view : R → S) (step : S → Symbol → Option S) (wanted : S → Wanted) (depth : S → ℕ) (s : S) (t : Symbol)
    (made : Result (Option R) E) (deep : Bool) (place : ℕ) (kind : Wanted) (result : Result R TextRefusal) →
    IfOk made (λ next. option_map view next ≡ step s t) → deep ≡ is_too_deep t (depth s) → kind ≡ wanted s →
    result ≡ settled made deep place kind → IfErr result (λ refusal. IsStepRefusal step wanted depth s t place refusal)
settled_refusal view step wanted depth s t made deep place kind result led counted wants e = rw e (search rules)

-- where a machine stands before the rest of the tokens
pub record Stands {S V : Type 0} (text : List ℕ) (tokens : List Token) (read : Reading V) (going : S → List Symbol → Reading V)
    (depth : S → ℕ) (s : S) (rest : List Token) : Type 0 where
  pub passed : ℕ
  pub so_far : shifted passed (going s (symbols_of text rest)) ≡ read
  pub places : (j : ℕ) → place_of text tokens (passed + j) ≡ place_of text rest j
  pub shallow : depth s ≤ passed
  pub counted : passed + length rest ≡ length tokens
  pub start : ℕ
  pub spans : AreSpans start (length text) rest
  pub small : Each (IsSmall text) rest

pub spans_end : (place end : ℕ) (ts : List Token) → AreSpans place end ts → place ≤ end
spans_end place end [] h = h
spans_end place end (t ∷ ts) (a, b, rest) = omega (arith, a, b, spans_end t.end end ts rest)

pub token_within : {S V : Type 0} (text : List ℕ) (tokens : List Token) (read : Reading V) (going : S → List Symbol → Reading V) (depth : S → ℕ)
    (s : S) (rest more : List Token) (t : Token) → rest ≡ t ∷ more → Stands text tokens read going depth s rest → t.end ≤ length text
token_within text tokens read going depth s rest more t e h =
    let (a, b, later) = subst (AreSpans h.start (length text)) e h.spans in
    spans_end t.end (length text) more later

module _ {S V : Type 0} (step : S → Symbol → Option S) (finish : S → Option V) (wanted : S → Wanted) (depth : S → ℕ)
    (within : (s : S) (t : Symbol) → Within depth (step s t) (depth s))
    (text : List ℕ) (tokens : List Token) (read : Reading V) where
  abbrev Here : S → List Token → Type 0
  Here s rest = Stands text tokens read (run step finish wanted depth) depth s rest

  deeper : (s next : S) (t : Symbol) → step s t ≡ Some next → depth next ≤ suc (depth s)
  deeper s next t e = subst (λ o. Within depth o (depth s)) e (within s t)

  stands_next : (s next : S) (t : Token) (more : List Token) → StepsTo step depth s (symbol_of text t) next → Here s (t ∷ more) → Here next more
  stands_next s next t more (led, shallow) h = record {
    passed = h.passed + 1;
    so_far = sym ((goes_by_step step finish wanted depth).at_step s next (symbol_of text t) (symbols_of text more) h.passed led shallow) ∙ h.so_far;
    places = λ j. let same : h.passed + 1 + j ≡ h.passed + suc j = omega arith in ap (place_of text tokens) same ∙ h.places (suc j);
    shallow = omega (arith, h.shallow, deeper s next (symbol_of text t) led);
    counted = omega (arith, h.counted);
    start = t.end;
    spans = h.spans.2;
    small = h.small.1;
  }

  -- the first of the tokens that are left has been read
  pub stands_after : (s next : S) (symbol : Symbol) (t : Token) (rest more : List Token) → rest ≡ t ∷ more → symbol ≡ symbol_of text t → StepsTo step depth s symbol next →
      Here s rest → Here next more
  stands_after s next symbol t rest more cut is led h = stands_next s next t more (subst (λ y. StepsTo step depth s y next) is led) (subst (Here s) cut h)

  here : (s : S) (rest : List Token) (h : Here s rest) → place_of text tokens h.passed ≡ place_of text rest 0
  here s rest h =
      let same : h.passed ≡ h.passed + 0 = omega arith in
      ap (place_of text tokens) same ∙ h.places 0

  pub stands_first : (s : S) → depth s ≡ 0 → run step finish wanted depth s (symbols_of text tokens) ≡ read → AreSpans 0 (length text) tokens → Each (IsSmall text) tokens → Here s tokens
  stands_first s none reads spans small = record {
    passed = 0;
    so_far = (goes_by_step step finish wanted depth).at_start (run step finish wanted depth s (symbols_of text tokens)) ∙ reads;
    places = λ j. let same : 0 + j ≡ j = omega arith in ap (place_of text tokens) same;
    shallow = omega (arith, none);
    counted = omega arith;
    start = 0;
    spans = spans;
    small = small;
  }

  pub stands_value : (s : S) (v : V) → finish s ≡ Some v → Here s [] → read ≡ gives v
  stands_value s v value h = sym h.so_far ∙ (goes_by_step step finish wanted depth).at_value s v h.passed value

  pub stands_no_value : (s : S) (kind : Wanted) (place : ℕ) → finish s ≡ None → kind ≡ wanted s → place ≡ length text → Here s [] →
      IsReadRefusal text tokens read (Expected place kind)
  stands_no_value s kind place none wants at h = (
    h.passed,
    sym h.so_far ∙ (goes_by_step step finish wanted depth).at_no_value s h.passed none ∙ ap (λ k. expected k h.passed) (sym wants),
    at ∙ sym (here s [] h),
  )
