-- What reading gives, in the words of the grammar.
use Rattle.std.proofs.Common.{◌≡◌, ◌≢◌, ℕ, suc, ◌+◌, ◌-◌, ◌≤◌, ◌<◌, ◌^◌, List, [], ◌∷◌, length, length-append, map, slice_get, refl, sym, ap, subst, ◌∙◌, arith}
use Rattle.std.specs.Prelude.{Option, Some, None, option_map}
use Rattle.flow_form.specs.declared.refusal.Wanted.{Wanted}
use Rattle.flow_form.specs.declared.refusal.TextRefusal.{TextRefusal}
use Rattle.flow_form.specs.declared.refusal.TextRefusal.TheVariants.{Expected, TooDeep, NoMemory}
use Rattle.flow_form.specs.Script.{Said}
use Rattle.flow_form.specs.Names.{HasGoodNames, IsClosed}
use Rattle.flow_lex.specs.declared.token.Token.{Token}
use Rattle.flow_lex.specs.Tokens.{AreSpans, IsSmall}
use Rattle.flow_grammar.specs.Symbol.{Symbol, Placed, at, symbols, a_name}
use Rattle.flow_grammar.specs.Machine.{Reading, gives}
use Rattle.flow_grammar.specs.Texts.{Derives, SpellsScript}
use Rattle.flow_grammar.specs.Roles.{Role, role_name, names_of, NamesHaveRoles}
use Rattle.flow_grammar.proofs.Reading.{IsMachine}
use Rattle.flow_grammar.proofs.MadeTexts.{scripts_are_well_made}
use Rattle.flow_reader.specs.Symbols.{symbol_of, symbols_of}
use Rattle.flow_reader.specs.Reading.{IsReadRefusal}
use Rattle.flow_text.specs.GoodNames.{IsFirst}
use Rattle.flow_text.specs.Saying.{HasTokens, IsLexed, TextInTokens, Writes}
use Rattle.flow_text.specs.Parser.{name_in, with_place, named_places, IsFirstNameAt, TextKind, IsTextRefusal}
use Rattle.std.proofs.lemmas.List.{length-map}
use Rattle.std.proofs.lemmas.Option.{slice_get-map}
use Rattle.flow_model.specs.Lists.{Each}
use Rattle.flow_reader.proofs.Loops.{spans_end}

module _ {V : Type 0} (kind : TextKind V) (text : List ℕ) where
  pub read_refused : (read : List Symbol → Reading V) → IsMachine kind.spells kind.wants read → (tokens : List Token) (refusal : TextRefusal) → HasTokens text tokens
      → IsReadRefusal text tokens (read (symbols_of text tokens)) refusal → IsTextRefusal kind text refusal
  read_refused read m tokens (Expected place wanted) has (k, e, there) =
      let (stuck, none) = (m.is_stuck (symbols_of text tokens) k).0 (wanted, e) in
      let (come, end) = m.wants_what_could_come (symbols_of text tokens) wanted k e in
      record {
        tokens = tokens;
        has_tokens = has;
        number = k;
        there = there;
        stuck = stuck;
        none_deep = none;
        wanted = m.tells_what_is_wanted (symbols_of text tokens) wanted k e;
        could_come = come;
        could_end = end;
      }
  read_refused read m tokens (TooDeep place) has (k, e, there) =
      let (deep, none) = (m.is_too_deep (symbols_of text tokens) k).0 e in
      record { tokens = tokens; has_tokens = has; number = k; there = there; deep = deep; none_before = none }
  read_refused read m tokens NoMemory has h = tt
  read_refused read m tokens _ has h = absurd h

-- The names

abbrev pub second : ℕ × List ℕ → List ℕ
second p = p.1

named-one : (place : ℕ) (t : Symbol) (ts : List Symbol) (names : List (ℕ × List ℕ)) → map second names ≡ names_of ts →
    map second (with_place place (name_in t) names) ≡ names_of (t ∷ ts)
named-one place (a_name n) ts names e = ap (λ ns. n ∷ ns) e
named-one place _ ts names e = e

pub names_listed : (text : List ℕ) (tokens : List Token) → map second (named_places text tokens) ≡ names_of (symbols_of text tokens)
names_listed text [] = refl
names_listed text (t ∷ ts) = named-one t.start (symbol_of text t) (symbols_of text ts) (named_places text ts) (names_listed text ts)

names_are_roles : {V : Type 0} (Spells : List Placed → V → Type 0) (roles : V → List Role) (text : List ℕ) (tokens : List Token) (x : V) →
    NamesHaveRoles Spells roles → Derives Spells (symbols_of text tokens) x → map second (named_places text tokens) ≡ map role_name (roles x)
names_are_roles Spells roles text tokens x law (w, e, shallow, spells) = names_listed text tokens ∙ ap names_of (sym e) ∙ law w x spells

-- the number of a role is that of a name
pub first_named : {V : Type 0} (Spells : List Placed → V → Type 0) (roles : V → List Role) (P : List Role → Role → Type 0) (text : List ℕ) (tokens : List Token) (x : V)
    (k : ℕ) → NamesHaveRoles Spells roles → Derives Spells (symbols_of text tokens) x → IsFirst P (roles x) k → k < length (named_places text tokens)
first_named Spells roles P text tokens x k law d h =
    let same : length (named_places text tokens) ≡ length (roles x)
    = sym (length-map (named_places text tokens) second) ∙ ap length (names_are_roles Spells roles text tokens x law d) ∙ length-map (roles x) role_name in
    let whole : length (roles x) ≡ length h.front + suc (length h.back) = ap length h.cut ∙ length-append h.front (h.role ∷ h.back) in
    omega (arith, same, whole, h.place)

pub first_there : {V : Type 0} (Spells : List Placed → V → Type 0) (roles : V → List Role) (IsSo : V → ℕ → Type 0) (text : List ℕ) (tokens : List Token) (x : V)
    (k place : ℕ) (name : List ℕ) → NamesHaveRoles Spells roles → HasTokens text tokens → Derives Spells (symbols_of text tokens) x → IsSo x k →
    slice_get (named_places text tokens) k ≡ Some (place, name) → IsFirstNameAt Spells roles IsSo text place name
first_there Spells roles IsSo text tokens x k place name law has d h there = record {
  value = x;
  writes = record { tokens = tokens; has_tokens = has; derives = d };
  number = k;
  first = h;
  there = record {
    tokens = tokens;
    has_tokens = has;
    there = there;
    named = ap (λ names. slice_get names k) (sym (names_are_roles Spells roles text tokens x law d)) ∙ slice_get-map second (named_places text tokens) k ∙ ap (option_map second) there;
  };
}

-- What expansion asks

spans-many : (place end : ℕ) (ts : List Token) → AreSpans place end ts → place + length ts ≤ end
spans-many place end [] h = omega (arith, h)
spans-many place end (t ∷ ts) (a, b, rest) = omega (arith, a, b, spans-many t.end end ts rest)

length-symbols : (w : List Placed) → length (symbols w) ≡ length w
length-symbols [] = refl
length-symbols (at n t ∷ w) = ap suc (length-symbols w)

pub is_closed : (text : List ℕ) (tokens : List Token) (s : Said) → AreSpans 0 (length text) tokens → Derives SpellsScript (symbols_of text tokens) s →
    HasGoodNames s → length text < 2 ^ 31 → IsClosed s
is_closed text tokens s spans (w, e, shallow, spells) names short =
    let ((goals, rules), fewer) = scripts_are_well_made w s spells in
    let many : length w ≡ length tokens = sym (length-symbols w) ∙ ap length e ∙ length-map tokens (symbol_of text) in
    record {
      named = names;
      grouped = goals;
      few = omega (arith, fewer, many, spans-many 0 (length text) tokens spans, short);
    }

-- What the code reads

-- what is known of the fields of a lexed text is known of its value
pub lexed_of : {text : List ℕ} {tokens : List Token} {lexed_text : TextInTokens} → record { text = text; tokens = tokens } ≡ lexed_text → IsLexed text tokens → IsLexed lexed_text.text lexed_text.tokens
lexed_of view is_lexed = subst (λ (s : TextInTokens). IsLexed s.text s.tokens) view is_lexed

module _ {V : Type 0} {Spells : List Placed → V → Type 0} {wants : List Symbol → Option Wanted} {read : List Symbol → Reading V} (m : IsMachine Spells wants read)
    {text : List ℕ} {tokens given : List Token} {lexed_text : TextInTokens} (view : record { text = text; tokens = tokens } ≡ lexed_text) (same : given ≡ tokens) where
  read_from : record { text = text; tokens = given } ≡ lexed_text
  read_from = ap (λ (ts : List Token). record { text = text; tokens = ts }) same ∙ view

  pub derived : (x : V) → read (symbols_of text given) ≡ gives x → Derives Spells (symbols_of lexed_text.text lexed_text.tokens) x
  derived x h = (m.reads (symbols_of lexed_text.text lexed_text.tokens) x).0 (subst (λ (s : TextInTokens). read (symbols_of s.text s.tokens) ≡ gives x) read_from h)

  pub written : (x : V) → IsLexed text tokens → read (symbols_of text given) ≡ gives x → Writes Spells lexed_text.text x
  written x is_lexed h = record { tokens = lexed_text.tokens; has_tokens = (lexed_of view is_lexed).has_tokens; derives = derived x h }

  pub refused : (again unknown : ℕ → List ℕ → Type 0) (refusal : TextRefusal) → IsLexed text tokens → IsReadRefusal text given (read (symbols_of text given)) refusal
      → IsTextRefusal (record { spells = Spells; wants = wants; again = again; unknown = unknown }) lexed_text.text refusal
  refused again unknown refusal is_lexed h =
      read_refused (record { spells = Spells; wants = wants; again = again; unknown = unknown }) lexed_text.text read m lexed_text.tokens refusal (lexed_of view is_lexed).has_tokens
      (subst (λ (s : TextInTokens). IsReadRefusal s.text s.tokens (read (symbols_of s.text s.tokens)) refusal) read_from h)

-- The names among the tokens that are left

-- the name that is looked for is number `left` of those in the rest
pub record IsLeft (text : List ℕ) (tokens : List Token) (number left : ℕ) (rest : List Token) : Type 0 where
  pub start : ℕ
  pub spans : AreSpans start (length text) rest
  pub small : Each (IsSmall text) rest
  pub same : slice_get (named_places text tokens) number ≡ slice_get (named_places text rest) left
  pub within : left < length (named_places text rest)

pub left_within : (text : List ℕ) (tokens : List Token) (number left : ℕ) (rest more : List Token) (t : Token) → rest ≡ t ∷ more →
    IsLeft text tokens number left rest → t.end ≤ length text
left_within text tokens number left rest more t e h =
    let (a, b, later) = subst (AreSpans h.start (length text)) e h.spans in
    spans_end t.end (length text) more later

-- the next token is no name
pub passed_over : (text : List ℕ) (tokens : List Token) (number left : ℕ) (rest more : List Token) (t : Token) → rest ≡ t ∷ more → name_in (symbol_of text t) ≡ None →
    IsLeft text tokens number left rest → IsLeft text tokens number left more
passed_over text tokens number left rest more t e none h =
    let g = subst (IsLeft text tokens number left) e h in
    let (a, b, later) = g.spans in
    let same : named_places text (t ∷ more) ≡ named_places text more = ap (λ o. with_place t.start o (named_places text more)) none in
    record { start = t.end; spans = later; small = g.small.1; same = g.same ∙ ap (λ l. slice_get l left) same; within = subst (λ l. left < length l) same g.within }

-- the next token is a name, and not the one that is looked for
pub counted_down : (text : List ℕ) (tokens : List Token) (number left : ℕ) (rest more : List Token) (t : Token) (name : List ℕ) → rest ≡ t ∷ more →
    name_in (symbol_of text t) ≡ Some name → left ≢ 0 → IsLeft text tokens number left rest → IsLeft text tokens number (left - 1) more
counted_down text tokens number left rest more t name e some others h =
    let next : left ≡ suc (left - 1) = omega (arith, others) in
    let g = subst (λ n. IsLeft text tokens number n (t ∷ more)) next (subst (IsLeft text tokens number left) e h) in
    let (a, b, later) = g.spans in
    let same : named_places text (t ∷ more) ≡ (t.start, name) ∷ named_places text more = ap (λ o. with_place t.start o (named_places text more)) some in
    let inside : suc (left - 1) < suc (length (named_places text more)) = subst (λ l. suc (left - 1) < length l) same g.within in
    record { start = t.end; spans = later; small = g.small.1; same = g.same ∙ ap (λ l. slice_get l (suc (left - 1))) same; within = omega (arith, inside) }
