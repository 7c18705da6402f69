-- Asks of a case, one after another.
use Rattle.std.proofs.Common.{◌≡◌, ℕ, ◌+◌, ◌<◌, ◌≤◌, Bool, true, false, List, [], ◌∷◌, ◌++◌, length, map, take, drop, get_or, Option, Some, None, Result, Ok, Err, IfOk, OnErr, refl, sym, ap, subst, ◌∙◌, inl, inr}
use Rattle.std.proofs.lemmas.List.{take_more, take_all, take-append-drop, append_assoc}
use Rattle.std.specs.Result.{is_err}
use Rattle.std.specs.declared.alloc.AllocError.{AllocError}
use Rattle.flow_ask.specs.declared.ask.Ask.{Ask}
use Rattle.flow_ask.specs.declared.ask.Ask.TheVariants.{Do}
use Rattle.flow_ask.specs.declared.made.Made.{Made}
use Rattle.flow_ask.specs.declared.refusal.Refusal.{Refusal}
use Rattle.flow_case_talk.specs.declared.reply.Outcome.{Outcome}
use Rattle.flow_case_talk.specs.declared.reply.Outcome.TheVariants as outcome
use Rattle.flow_case_talk.specs.declared.asked.Asked.{Asked}
use Rattle.flow_case_talk.specs.declared.reply.Reply.{Reply}
use Rattle.flow_case_talk.specs.Means.{KeptCase, IsAnswered, AreMade, IsRefusedAmong, AskedInTurn, AreTidySteps, IsTidied, AskedThrough, AsksSome}
use Rattle.flow_case_talk.specs.Plans.{came, came_last, made_last, WasAsked}

-- one more is made
made_more : (by : ℕ) (k mid after : KeptCase) (asks : List Ask) (ask : Ask) (made : Made) → AreMade by k asks mid → IsAnswered mid ask by (Ok made) after →
    AreMade by k (asks ++ ask ∷ []) after
made_more by k mid after [] ask made same h = (made, after, subst (λ (m : KeptCase). IsAnswered m ask by (Ok made) after) same h, refl)
made_more by k mid after (a ∷ asks) ask made (m, next, first, rest) h = (m, next, first, made_more by next mid after asks ask made rest h)

-- asks that are cut at a place
cut_at : (asks : List Ask) (i : ℕ) (d : Ask) → i < length asks → asks ≡ take i asks ++ get_or asks i d ∷ drop (i + 1) asks
cut_at asks i d within =
    sym (take-append-drop (i + 1) asks) ∙ ap (λ (l : List Ask). l ++ drop (i + 1) asks) (take_more asks i d within)
    ∙ append_assoc (take i asks) (get_or asks i d ∷ []) (drop (i + 1) asks)

-- the next is made
pub next_made : (by : ℕ) (k mid after : KeptCase) (asks : List Ask) (i : ℕ) (d : Ask) (answer : Result Made Refusal) → i < length asks →
    AreMade by k (take i asks) mid → IsAnswered mid (get_or asks i d) by answer after → is_err answer ≡ false → AreMade by k (take (i + 1) asks) after
next_made by k mid after asks i d (Ok made) within so_far h is =
    subst (λ (l : List Ask). AreMade by k l after) (sym (take_more asks i d within)) (made_more by k mid after (take i asks) (get_or asks i d) made so_far h)
next_made by k mid after asks i d (Err why) within so_far h is = absurd (let never : true ≡ false = is in cc)

-- the next is refused
pub next_refused : (by : ℕ) (k mid after : KeptCase) (asks : List Ask) (i : ℕ) (d : Ask) (answer : Result Made Refusal) → i < length asks →
    AreMade by k (take i asks) mid → IsAnswered mid (get_or asks i d) by answer after → is_err answer ≡ true → AskedInTurn by k asks (came answer) after
next_refused by k mid after asks i d (Ok made) within so_far h is = absurd (let never : false ≡ true = is in cc)
next_refused by k mid after asks i d (Err why) within so_far h is = record {
  before = take i asks;
  ask = get_or asks i d;
  behind = drop (i + 1) asks;
  in_order = cut_at asks i d within;
  mid = mid;
  made = so_far;
  why = why;
  refused = h;
}

-- the next is asked, and memory is wanting
pub next_asked : (by : ℕ) (k mid after : KeptCase) (asks : List Ask) (ask : Ask) (answer : Result Made Refusal) →
    AreMade by k asks mid → IsAnswered mid ask by answer after → AsksSome by k after
next_asked by k mid after asks ask (Ok made) so_far h = record { asks = asks ++ ask ∷ []; came = outcome.Made; in_turn = made_more by k mid after asks ask made so_far h }
next_asked by k mid after asks ask (Err why) so_far h = record {
  asks = asks ++ ask ∷ [];
  came = outcome.Refused;
  in_turn = record {
    before = asks;
    ask = ask;
    behind = [];
    in_order = refl;
    mid = mid;
    made = so_far;
    why = why;
    refused = h;
  };
}

pub next_unnoted : (by : ℕ) (k mid after : KeptCase) (asks : List Ask) (ask : Ask) → AreMade by k asks mid → WasAsked mid ask by after → AsksSome by k after
next_unnoted by k mid after asks ask so_far h = next_asked by k mid after asks ask h.answer so_far h.asked

-- all are made
pub all_in_turn : (by : ℕ) (k after : KeptCase) (asks : List Ask) (i : ℕ) (o : Outcome) → length asks ≤ i → AreMade by k (take i asks) after → o ≡ outcome.Made → AskedInTurn by k asks o after
all_in_turn by k after asks i o past so_far is =
    subst (λ (c : Outcome). AskedInTurn by k asks c after) (sym is) (subst (λ (l : List Ask). AreMade by k l after) (take_all i asks past) so_far)

pub last_made : (asked : Asked) → is_err asked.answer ≡ false → came_last (Some asked) ≡ outcome.Made
last_made asked is = of asked.answer is
  where
    of : (answer : Result Made Refusal) → is_err answer ≡ false → came answer ≡ outcome.Made
    of (Ok made) is = refl
    of (Err why) is = let never : true ≡ false = is in cc

-- some are made, and more are asked
made_then : (by : ℕ) (k mid after : KeptCase) (asks more : List Ask) → AreMade by k asks mid → AreMade by mid more after → AreMade by k (asks ++ more) after
made_then by k mid after [] more same h = subst (λ (m : KeptCase). AreMade by m more after) same h
made_then by k mid after (a ∷ asks) more (m, next, first, rest) h = (m, next, first, made_then by next mid after asks more rest h)

asked_then : (by : ℕ) (k mid after : KeptCase) (asks more : List Ask) (o : Outcome) → AreMade by k asks mid → AskedInTurn by mid more o after → AskedInTurn by k (asks ++ more) o after
asked_then by k mid after asks more outcome.Made so_far h = made_then by k mid after asks more so_far h
asked_then by k mid after asks more outcome.Shown so_far h = absurd h
asked_then by k mid after asks more outcome.Refused so_far h = record {
  before = asks ++ h.before;
  ask = h.ask;
  behind = h.behind;
  in_order = ap (λ (l : List Ask). asks ++ l) h.in_order ∙ sym (append_assoc asks h.before (h.ask ∷ h.behind));
  mid = h.mid;
  made = made_then by k mid h.mid asks h.before so_far h.made;
  why = h.why;
  refused = h.refused;
}

pub some_more : (by : ℕ) (k mid after : KeptCase) (asks : List Ask) → AreMade by k asks mid → AsksSome by mid after → AsksSome by k after
some_more by k mid after asks so_far h = record { asks = asks ++ h.asks; came = h.came; in_turn = asked_then by k mid after asks h.asks h.came so_far h.in_turn }

-- nothing is asked
pub none_asked : (by : ℕ) (k after : KeptCase) → after ≡ k → AsksSome by k after
none_asked by k after same = record { asks = []; came = outcome.Made; in_turn = same }

-- some are asked, and the case stays behind that
pub some_stay : (by : ℕ) (k mid after : KeptCase) → AsksSome by k mid → after ≡ mid → AsksSome by k after
some_stay by k mid after h same = subst (AsksSome by k) (sym same) h

-- what came of the last
pub came_made : (last : Option Asked) → made_last last ≡ true → came_last last ≡ outcome.Made
came_made None is = refl
came_made (Some asked) is = of asked.answer is
  where
    of : (answer : Result Made Refusal) → made_last (Some (record asked { answer = answer })) ≡ true → came answer ≡ outcome.Made
    of (Ok made) is = refl
    of (Err why) is = let never : false ≡ true = is in cc

pub came_refused : (last : Option Asked) → made_last last ≡ false → came_last last ≡ outcome.Refused
came_refused None is = let never : true ≡ false = is in cc
came_refused (Some asked) is = of asked.answer is
  where
    of : (answer : Result Made Refusal) → made_last (Some (record asked { answer = answer })) ≡ false → came answer ≡ outcome.Refused
    of (Ok made) is = let never : true ≡ false = is in cc
    of (Err why) is = refl

-- no update follows
pub through : (tidied : Bool) (by : ℕ) (k after : KeptCase) (asks : List Ask) (o : Outcome) → tidied ≡ false → AskedInTurn by k asks o after → AskedThrough tidied by k asks o after
through tidied by k after asks o is h = subst (λ (b : Bool). AskedThrough b by k asks o after) (sym is) h

-- the last is refused
pub refused_through : (tidied : Bool) (by : ℕ) (k after : KeptCase) (asks : List Ask) (last : Option Asked) → made_last last ≡ false → AskedInTurn by k asks (came_last last) after →
    AskedThrough tidied by k asks (came_last last) after
refused_through true by k after asks last is h =
    inl (came_refused last is, subst (λ (o : Outcome). AskedInTurn by k asks o after) (came_refused last is) h)
refused_through false by k after asks last is h = h

-- the last is made, and updates follow
followed : (by : ℕ) (k next after : KeptCase) (asks : List Ask) (last : Option Asked) (o : Outcome) → made_last last ≡ true → AskedInTurn by k asks (came_last last) next → IsTidied by next o after →
    AskedThrough true by k asks o after
followed by k next after asks last o is made tidy = inr (next, subst (λ (m : Outcome). AskedInTurn by k asks m next) (came_made last is) made, tidy)

pub tidied_through : (r : Result (Option Asked) AllocError) (tidied : Bool) (by : ℕ) (k next after : KeptCase) (asks : List Ask) (last : Option Asked) → tidied ≡ true → made_last last ≡ true →
    AskedInTurn by k asks (came_last last) next → IfOk r (λ l. IsTidied by next (came_last l) after) → IfOk r (λ l. AskedThrough tidied by k asks (came_last l) after)
tidied_through (Ok l) tidied by k next after asks last t is made tidy =
    subst (λ (b : Bool). AskedThrough b by k asks (came_last l) after) (sym t) (followed by k next after asks last (came_last l) is made tidy)
tidied_through (Err e) tidied by k next after asks last t is made tidy = tidy

pub tidied_some : (r : Result (Option Asked) AllocError) (by : ℕ) (k next after : KeptCase) (asks : List Ask) (last : Option Asked) → made_last last ≡ true →
    AskedInTurn by k asks (came_last last) next → OnErr r (AsksSome by next after) → OnErr r (AsksSome by k after)
tidied_some (Ok l) by k next after asks last is made h = h
tidied_some (Err e) by k next after asks last is made h =
    some_more by k next after asks (subst (λ (m : Outcome). AskedInTurn by k asks m next) (came_made last is) made) h

-- updates are asked in turn
pub updates_asked : (by : ℕ) (k mid after : KeptCase) (leaves : List ℕ) (asks : List Ask) (o came' : Outcome) → AreTidySteps by k.run leaves → mid ≡ k → asks ≡ map Do leaves → AskedInTurn by mid asks o after →
    came' ≡ o → IsTidied by k came' after
updates_asked by k mid after leaves asks o came' steps same are h is = record {
  leaves = leaves;
  steps = steps;
  in_turn = subst (λ (c : Outcome). AskedInTurn by k (map Do leaves) c after) (sym is)
      (subst (λ (l : List Ask). AskedInTurn by k l o after) are (subst (λ (m : KeptCase). AskedInTurn by m asks o after) same h));
}

-- a reply tells what came of it
pub some_through : (tidied : Bool) (by : ℕ) (k after : KeptCase) (asks : List Ask) (o : Outcome) → AskedThrough tidied by k asks o after → AsksSome by k after
some_through false by k after asks o h = record { asks = asks; came = o; in_turn = h }
some_through true by k after asks o (inl (is, h)) = record { asks = asks; came = outcome.Refused; in_turn = h }
some_through true by k after asks o (inr (next, made, tidy)) =
    some_more by k next after asks made (record { asks = map Do tidy.leaves; came = o; in_turn = tidy.in_turn })

pub told_through : (r : Result Reply AllocError) (tidied : Bool) (by : ℕ) (k mid after : KeptCase) (asks : List Ask) (o : Outcome) → AskedThrough tidied by k asks o mid → after ≡ mid →
    IfOk r (λ reply. reply.outcome ≡ o) → IfOk r (λ reply. AskedThrough tidied by k asks reply.outcome after)
told_through (Ok reply) tidied by k mid after asks o h same is =
    subst (λ (c : Outcome). AskedThrough tidied by k asks c after) (sym is) (subst (λ (m : KeptCase). AskedThrough tidied by k asks o m) (sym same) h)
told_through (Err e) tidied by k mid after asks o h same is = is

pub untold_through : (r : Result Reply AllocError) (tidied : Bool) (by : ℕ) (k mid after : KeptCase) (asks : List Ask) (o : Outcome) → AskedThrough tidied by k asks o mid → after ≡ mid →
    OnErr r (AsksSome by k after)
untold_through (Ok reply) tidied by k mid after asks o h same = tt
untold_through (Err e) tidied by k mid after asks o h same = some_stay by k mid after (some_through tidied by k mid asks o h) same

-- an ask is noted, or memory is wanting

pub noted : (r : Result Asked AllocError) (k : KeptCase) (ask : Ask) (by : ℕ) (answer : Result Made Refusal) (after : KeptCase) → IsAnswered k ask by answer after →
    IfOk r (λ asked. asked.answer ≡ answer) → IfOk r (λ asked. IsAnswered k ask by asked.answer after)
noted (Ok asked) k ask by answer after h is = subst (λ (a : Result Made Refusal). IsAnswered k ask by a after) (sym is) h
noted (Err e) k ask by answer after h is = is

pub unnoted : (r : Result Asked AllocError) (k : KeptCase) (ask : Ask) (by : ℕ) (answer : Result Made Refusal) (after : KeptCase) → IsAnswered k ask by answer after →
    OnErr r (WasAsked k ask by after)
unnoted (Ok asked) k ask by answer after h = tt
unnoted (Err e) k ask by answer after h = record { answer = answer; asked = h }

-- what holds is there where an error is too
pub on_err : {T E : Type 0} (r : Result T E) (P : Type 0) → P → OnErr r P
on_err (Ok x) P h = tt
on_err (Err e) P h = h
