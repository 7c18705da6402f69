-- The loop over the tokens of a policy.
use Rattle.std.proofs.Common.{◌≡◌, ◌≢◌, ℕ, suc, ◌<◌, ◌≤◌, List, [], ◌∷◌, ◌++◌, length, take, refl, sym, ap, ◌∙◌, subst, inl, inr, arith, append_assoc, length-append, append-nil}
use Rattle.std.specs.Prelude.{Option, Some, None}
use Rattle.flow_model.specs.Lists.{Each}
use Rattle.flow_lex.specs.declared.token.Token.{Token}
use Rattle.flow_lex.specs.Tokens.{AreSpans, IsSmall}
use Rattle.flow_grammar.specs.Symbol.{Symbol}
use Rattle.flow_reader.specs.Symbols.{symbol_of, symbols_of}
use Rattle.flow_reader.specs.Reading.{place_of}
use Rattle.flow_reader.proofs.Loops.{spans_end}
use Rattle.flow_policy.specs.declared.stage.Stage.{Stage}
use Rattle.flow_policy.specs.declared.stage.Stage.TheVariants.{StatementNeeded}
use Rattle.flow_policy.specs.Stages.{Mentioned, next, behind, reached, mention_of, mentions_from}
use Rattle.flow_policy.specs.Mentions.{Stops}
use Rattle.flow_policy.proofs.StageLemmas.{reached-append}

-- where the reading stands before the rest of the tokens
pub record Stands (text : List ℕ) (tokens : List Token) (stage : Stage) (mentions : List Mentioned) (rest : List Token) : Type 0 where
  pub front : List Token
  pub cut : tokens ≡ front ++ rest
  pub so_far : reached StatementNeeded (symbols_of text front) ≡ Some stage
  pub said : mentions ≡ mentions_from text StatementNeeded front
  pub start : ℕ
  pub spans : AreSpans start (length text) rest
  pub small : Each (IsSmall text) rest

pub stands_first : (text : List ℕ) (tokens : List Token) → AreSpans 0 (length text) tokens → Each (IsSmall text) tokens → Stands text tokens StatementNeeded [] tokens
stands_first text tokens spans small = record { front = []; cut = refl; so_far = refl; said = refl; start = 0; spans = spans; small = small }

pub token_within : (text : List ℕ) (tokens : List Token) (s : Stage) (ms : List Mentioned) (rest more : List Token) (t : Token) → rest ≡ t ∷ more →
    Stands text tokens s ms rest → (t.start < t.end) × (t.end ≤ length text) × IsSmall text t
token_within text tokens s ms rest more t e h =
    let (a, b, later) = subst (AreSpans h.start (length text)) e h.spans in
    let small = subst (Each (IsSmall text)) e h.small in
    (b, spans_end t.end (length text) more later, small.0)

symbols-append : (text : List ℕ) (a b : List Token) → symbols_of text (a ++ b) ≡ symbols_of text a ++ symbols_of text b
symbols-append text [] b = refl
symbols-append text (t ∷ a) b = ap (λ l. symbol_of text t ∷ l) (symbols-append text a b)

behind_more : (text : List ℕ) (o : Option Stage) (s : Stage) (ts : List Token) (t : Token) →
    behind None o (λ q. reached q (symbols_of text ts)) ≡ Some s →
    ((q : Stage) → reached q (symbols_of text ts) ≡ Some s → mentions_from text q (ts ++ t ∷ []) ≡ mentions_from text q ts ++ mention_of s t.start (symbol_of text t)) →
    behind [] o (λ q. mentions_from text q (ts ++ t ∷ [])) ≡ behind [] o (λ q. mentions_from text q ts) ++ mention_of s t.start (symbol_of text t)
behind_more text None s ts t e later = absurd (let f : None ≡ Some s = e in cc)
behind_more text (Some q) s ts t e later = later q e

last_mention : (s : Stage) (t : Token) (text : List ℕ) (o : Option Stage) → mention_of s t.start (symbol_of text t) ++ behind [] o (λ q. mentions_from text q []) ≡ mention_of s t.start (symbol_of text t)
last_mention s t text None = append-nil _
last_mention s t text (Some q) = append-nil _

mentions_more : (text : List ℕ) (p s : Stage) (ts : List Token) (t : Token) → reached p (symbols_of text ts) ≡ Some s →
    mentions_from text p (ts ++ t ∷ []) ≡ mentions_from text p ts ++ mention_of s t.start (symbol_of text t)
mentions_more text p s [] t e =
    let same : p ≡ s = (let f : Some p ≡ Some s = e in cc) in
    last_mention p t text (next p (symbol_of text t)) ∙ ap (λ q. mention_of q t.start (symbol_of text t)) same
mentions_more text p s (u ∷ ts) t e =
    ap (λ l. mention_of p u.start (symbol_of text u) ++ l) (behind_more text (next p (symbol_of text u)) s ts t e (λ q. mentions_more text q s ts t))
    ∙ sym (append_assoc (mention_of p u.start (symbol_of text u)) (behind [] (next p (symbol_of text u)) (λ q. mentions_from text q ts)) (mention_of s t.start (symbol_of text t)))

reached_more : (text : List ℕ) (s : Stage) (front : List Token) (t : Token) → reached StatementNeeded (symbols_of text front) ≡ Some s →
    reached StatementNeeded (symbols_of text (front ++ t ∷ [])) ≡ next s (symbol_of text t)
reached_more text s front t e =
    ap (reached StatementNeeded) (symbols-append text front (t ∷ [])) ∙ reached-append StatementNeeded (symbols_of text front) (symbol_of text t ∷ [])
    ∙ ap (λ o. behind None o (λ q. reached q (symbol_of text t ∷ []))) e ∙ itself (next s (symbol_of text t))
  where
    itself : (o : Option Stage) → behind None o (λ q. reached q []) ≡ o
    itself None = refl
    itself (Some q) = refl

pub stands_next : (text : List ℕ) (tokens : List Token) (s q : Stage) (ms new : List Mentioned) (symbol : Symbol) (rest more : List Token) (t : Token) → rest ≡ t ∷ more →
    symbol ≡ symbol_of text t → Some q ≡ next s symbol → new ≡ ms ++ mention_of s t.start symbol → Stands text tokens s ms rest → Stands text tokens q new more
stands_next text tokens s q ms new symbol rest more t e is led grown h =
    let (a, b, later) = subst (AreSpans h.start (length text)) e h.spans in
    let small = subst (Each (IsSmall text)) e h.small in
    record {
      front = h.front ++ t ∷ [];
      cut = h.cut ∙ ap (λ l. h.front ++ l) e ∙ sym (append_assoc h.front (t ∷ []) more);
      so_far = reached_more text s h.front t h.so_far ∙ ap (next s) (sym is) ∙ sym led;
      said = grown ∙ (λ i. h.said i ++ mention_of s t.start (is i)) ∙ sym (mentions_more text StatementNeeded s h.front t h.so_far);
      start = t.end;
      spans = later;
      small = small.1;
    }

place_at : (text : List ℕ) (front rest : List Token) → place_of text (front ++ rest) (length front) ≡ place_of text rest 0
place_at text [] rest = refl
place_at text (t ∷ front) rest = place_at text front rest

take_front : {A : Type 0} (a b : List A) → take (length a) (a ++ b) ≡ a
take_front [] [] = refl
take_front [] (y ∷ b) = refl
take_front (x ∷ a) b = ap (λ l. x ∷ l) (take_front a b)

take_front_more : {A : Type 0} (a b : List A) (y : A) → take (suc (length a)) (a ++ y ∷ b) ≡ a ++ y ∷ []
take_front_more [] [] y = refl
take_front_more [] (z ∷ b) y = refl
take_front_more (x ∷ a) b y = ap (λ l. x ∷ l) (take_front_more a b y)

symbols_length : (text : List ℕ) (ts : List Token) → length (symbols_of text ts) ≡ length ts
symbols_length text [] = refl
symbols_length text (t ∷ ts) = ap suc (symbols_length text ts)

pub stops_at_token : (text : List ℕ) (tokens : List Token) (s : Stage) (ms : List Mentioned) (symbol : Symbol) (rest more : List Token) (t : Token) → rest ≡ t ∷ more →
    symbol ≡ symbol_of text t → next s symbol ≡ None → Stands text tokens s ms rest → Stops text tokens t.start
stops_at_token text tokens s ms symbol rest more t e is none h =
    let whole = ap (symbols_of text) (h.cut ∙ ap (λ l. h.front ++ l) e) ∙ symbols-append text h.front (t ∷ more) in
    let size = symbols_length text h.front in
    let front = symbols_of text h.front in
    record {
      number = length front;
      there = sym (ap (place_of text tokens) size ∙ ap (λ l. place_of text l (length h.front)) (h.cut ∙ ap (λ l. h.front ++ l) e) ∙ place_at text h.front (t ∷ more));
      stage = s;
      so_far = ap (λ l. reached StatementNeeded (take (length front) l)) whole ∙ ap (reached StatementNeeded) (take_front front (symbols_of text (t ∷ more))) ∙ h.so_far;
      no_further = inl (
        omega (arith, ap length whole, length-append front (symbols_of text (t ∷ more))),
        ap (λ l. reached StatementNeeded (take (suc (length front)) l)) whole ∙ ap (reached StatementNeeded) (take_front_more front (symbols_of text more) (symbol_of text t))
            ∙ ap (reached StatementNeeded) (sym (symbols-append text h.front (t ∷ []))) ∙ reached_more text s h.front t h.so_far ∙ ap (next s) (sym is) ∙ none,
      );
    }

nothing_behind : (front : List Token) → front ++ [] ≡ front
nothing_behind [] = refl
nothing_behind (t ∷ front) = ap (λ l. t ∷ l) (nothing_behind front)

pub stops_at_end : (text : List ℕ) (tokens : List Token) (s : Stage) (ms : List Mentioned) → s ≢ StatementNeeded → Stands text tokens s ms [] → Stops text tokens (length text)
stops_at_end text tokens s ms other h =
    let whole = ap (symbols_of text) (h.cut ∙ nothing_behind h.front) in
    let front = symbols_of text h.front in
    let size = symbols_length text h.front in
    record {
      number = length front;
      there = sym (ap (place_of text tokens) size ∙ ap (λ l. place_of text l (length h.front)) h.cut ∙ place_at text h.front []);
      stage = s;
      so_far = ap (λ l. reached StatementNeeded (take (length front) l)) (whole ∙ sym (append-nil front)) ∙ ap (reached StatementNeeded) (take_front front []) ∙ h.so_far;
      no_further = inr (sym (ap length whole), other);
    }

pub all_read : (text : List ℕ) (tokens : List Token) (s : Stage) (ms : List Mentioned) → Stands text tokens s ms [] →
    (reached StatementNeeded (symbols_of text tokens) ≡ Some s) × (ms ≡ mentions_from text StatementNeeded tokens)
all_read text tokens s ms h =
    let whole = h.cut ∙ nothing_behind h.front in
    (ap (λ l. reached StatementNeeded (symbols_of text l)) whole ∙ h.so_far, h.said ∙ ap (mentions_from text StatementNeeded) (sym whole))
