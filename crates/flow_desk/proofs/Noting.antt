-- The texts of boxes with their notes, one after another.
use Rattle.std.proofs.Common.{◌≡◌, ◌<◌, ◌≤◌, ◌+◌, ◌++◌, ◌∷◌, [], ℕ, List, length, drop, get_or, sym, ap, ◌∙◌, append_assoc}
use Rattle.std.proofs.lemmas.List.{append-nil, drop_more, drop_all}
use Rattle.flow_draw.specs.Lookup.{text_at}
use Rattle.flow_desk.specs.Noted.{noted_text, noted_from}

pub next_shown : (notes texts shown more all : List (List ℕ)) (place : ℕ) (text : List ℕ) → place < length texts → text ≡ get_or texts place text →
    more ≡ shown ++ noted_text text (text_at notes place) ∷ [] → shown ++ noted_from place notes (drop place texts) ≡ all →
    more ++ noted_from (place + 1) notes (drop (place + 1) texts) ≡ all
next_shown notes texts shown more all place text below read grown so =
    let rest = noted_from (place + 1) notes (drop (place + 1) texts) in
    let split : noted_from place notes (drop place texts) ≡ noted_text (get_or texts place text) (text_at notes place) ∷ rest =
    ap (noted_from place notes) (drop_more texts place text below) in
    ap (λ (l : List (List ℕ)). l ++ rest) grown ∙ append_assoc shown (noted_text text (text_at notes place) ∷ []) rest
    ∙ ap (λ (t : List ℕ). shown ++ noted_text t (text_at notes place) ∷ rest) read ∙ ap (λ (l : List (List ℕ)). shown ++ l) (sym split) ∙ so

pub all_shown : (notes texts shown all : List (List ℕ)) (place : ℕ) → length texts ≤ place → shown ++ noted_from place notes (drop place texts) ≡ all → shown ≡ all
all_shown notes texts shown all place past so =
    sym (append-nil shown) ∙ ap (λ (l : List (List ℕ)). shown ++ l) (ap (noted_from place notes) (sym (drop_all place texts past))) ∙ so
