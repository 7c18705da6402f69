-- Activities one after another, each with what it stands for; and texts that are copied one after another.
use Rattle.std.proofs.Common.{◌≡◌, ◌<◌, ◌≤◌, ◌+◌, ◌++◌, ◌∷◌, [], ℕ, List, length, map, take, Some, slice_get, inl, inr, refl, sym, ap, subst, ◌∙◌, length-append, append_assoc, arith, Vec, Global}
use Rattle.std.specs.Prelude.{IfOk, Ok, Err, Result, None}
use Rattle.std.proofs.lemmas.List.{map-append, take_more}
use Rattle.std.proofs.lemmas.Option.{get_or_from_slice_get, slice_get_within}
use Rattle.flow_log_cli.proofs.Places.{at_one_more, some_same}
use Rattle.flow_log_cli.specs.Activities.{Maps, StandFor, StandsByName, StandsFor}
use Rattle.flow_log_cli.specs.Told.{texts_of}

module _ (events : List (List ℕ)) (rows : List (List (List ℕ))) (activities : List (List ℕ)) where
  -- what the first so many activities stand for
  pub record StandFirst (count : ℕ) (numbers : List ℕ) : Type 0 where
    pub so_many : length numbers ≡ count
    pub each : (k event : ℕ) (activity : List ℕ) → slice_get activities k ≡ Some activity → slice_get numbers k ≡ Some event → StandsFor events rows k activity event

  pub stand_none : StandFirst 0 []
  stand_none = record { so_many = refl; each = λ k event activity there has. cc }

  pub stand_more : (count event : ℕ) (numbers more : List ℕ) → more ≡ numbers ++ event ∷ [] →
      ((activity : List ℕ) → slice_get activities count ≡ Some activity → StandsFor events rows count activity event) → StandFirst count numbers → StandFirst (count + 1) more
  stand_more count event numbers more grown new are = record {
    so_many = (let long = ap length grown in omega (arith, long, are.so_many, length-append numbers (event ∷ [])));
    each = λ k other activity there has. elim (at_one_more numbers event other k (subst (λ (l : List ℕ). slice_get l k ≡ Some other) grown has)) [
      | inl before ↦ are.each k other activity there before
      | inr last ↦
          let same : k ≡ count = last.0 ∙ are.so_many in
          let here : slice_get activities count ≡ Some activity = ap (slice_get activities) (sym same) ∙ there in
          subst (λ (n : ℕ). StandsFor events rows n activity other) (sym same) (subst (StandsFor events rows count activity) (sym last.1) (new activity here))
    ];
  }

  pub stand_all : (count : ℕ) (numbers : List ℕ) → count ≡ length activities → StandFirst count numbers → StandFor events rows activities numbers
  stand_all count numbers whole are = record { one_each = are.so_many ∙ whole; each = are.each }

pub text_more : (texts more : List (Vec ℕ Global)) (text : Vec ℕ Global) (before : List (List ℕ)) (name : List ℕ) → more ≡ texts ++ text ∷ [] → text.items ≡ name →
    texts_of texts ≡ before → texts_of more ≡ before ++ name ∷ []
text_more texts more text before name grown is are =
    ap texts_of grown ∙ map-append (λ (t : Vec ℕ Global). t.items) texts (text ∷ []) ∙ ap (λ (l : List (List ℕ)). l ++ text.items ∷ []) are ∙ ap (λ (n : List ℕ). before ++ n ∷ []) is

pub activity_more : (names : List (List ℕ)) (place : ℕ) (name : List ℕ) (texts more : List (Vec ℕ Global)) (text : Vec ℕ Global) (before : List (List ℕ)) → slice_get names place ≡ Some name →
    more ≡ texts ++ text ∷ [] → text.items ≡ name → texts_of texts ≡ before ++ take place names → texts_of more ≡ before ++ take (place + 1) names
activity_more names place name texts more text before there grown is are =
    let next : take (place + 1) names ≡ take place names ++ name ∷ [] =
    take_more names place [] (slice_get_within names place name there) ∙ ap (λ (n : List ℕ). take place names ++ n ∷ []) (get_or_from_slice_get names place name [] there) in
    text_more texts more text (before ++ take place names) name grown is are ∙ append_assoc before (take place names) (name ∷ []) ∙ ap (λ (l : List (List ℕ)). before ++ l) (sym next)

pub by_name : (events : List (List ℕ)) (rows : List (List (List ℕ))) (place : ℕ) (activity : List ℕ) (E : Type 0) (result : Result ℕ E) → IfOk result (StandsByName events place activity) →
    Maps events rows activity None → IfOk result (StandsFor events rows place activity)
by_name events rows place activity E (Ok event) stands maps = record { mapped = None; maps = maps; stands = stands }
by_name events rows place activity E (Err e) stands maps = stands
