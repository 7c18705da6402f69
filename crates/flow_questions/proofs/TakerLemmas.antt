-- Who takes an event by a list of takers, from a place on.
use Rattle.std.proofs.Common.{◌≡◌, ◌≢◌, ◌<◌, ◌≤◌, ◌+◌, ◌==◌, ℕ, true, false, List, [], ◌∷◌, length, drop, get_or, refl, sym, ap, ◌∙◌, arith}
use Rattle.std.proofs.lemmas.Bool.{eq-eqb, ne_eqb}
use Rattle.std.proofs.lemmas.List.{drop_more, drop_all}
use Rattle.flow_stages.specs.Fitting.{taker_by}

taker_first : (t : ℕ × ℕ) (takers : List (ℕ × ℕ)) (event : ℕ) → t.0 ≡ event → taker_by (t ∷ takers) event ≡ t.1
taker_first t takers event is = rw (eq-eqb t.0 event is) refl

taker_later : (t : ℕ × ℕ) (takers : List (ℕ × ℕ)) (event : ℕ) → t.0 ≢ event → taker_by (t ∷ takers) event ≡ taker_by takers event
taker_later t takers event other = rw (ne_eqb t.0 event other) refl

-- the one at the place takes it, or one behind it, or none is left
pub taker_here : (takers : List (ℕ × ℕ)) (event k : ℕ) (d : ℕ × ℕ) → k < length takers → (get_or takers k d).0 ≡ event → taker_by (drop k takers) event ≡ (get_or takers k d).1
taker_here takers event k d within is = ap (λ l. taker_by l event) (drop_more takers k d within) ∙ taker_first (get_or takers k d) (drop (k + 1) takers) event is

pub taker_on : (takers : List (ℕ × ℕ)) (event k : ℕ) (d : ℕ × ℕ) → k < length takers → (get_or takers k d).0 ≢ event → taker_by (drop k takers) event ≡ taker_by (drop (k + 1) takers) event
taker_on takers event k d within other = ap (λ l. taker_by l event) (drop_more takers k d within) ∙ taker_later (get_or takers k d) (drop (k + 1) takers) event other

pub taker_none : (takers : List (ℕ × ℕ)) (event k : ℕ) → length takers ≤ k → taker_by (drop k takers) event ≡ 0
taker_none takers event k past = ap (λ l. taker_by l event) (drop_all k takers past)
