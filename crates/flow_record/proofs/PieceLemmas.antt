-- Texts to which a piece is put for each member of a list.
use Rattle.std.proofs.Common.{◌≡◌, ℕ, ◌+◌, ◌<◌, ◌≤◌, List, [], ◌∷◌, ◌++◌, length, take, get_or, sym, ap, ◌∙◌, append_assoc, append-nil}
use Rattle.std.specs.List.{flat_map}
use Rattle.std.proofs.lemmas.List.{take_more, take_all}
use Rattle.std.proofs.lemmas.List.Concat.{flat_map-append}

-- the piece of one more member
pub flat_more : {X : Type 0} (f : X → List ℕ) (xs : List X) (i : ℕ) (d : X) (start old new : List ℕ) → i < length xs
    → old ≡ start ++ flat_map f (take i xs) → new ≡ old ++ f (get_or xs i d) → new ≡ start ++ flat_map f (take (i + 1) xs)
flat_more f xs i d start old new inside before put =
    let so_far = flat_map f (take i xs) in
    put ∙ ap (λ t. t ++ f (get_or xs i d)) before ∙ append_assoc start so_far (f (get_or xs i d))
    ∙ ap (λ t. start ++ t) (ap (λ t. so_far ++ t) (sym (append-nil (f (get_or xs i d)))) ∙ sym (flat_map-append f (take i xs) (get_or xs i d ∷ [])) ∙ ap (flat_map f) (sym (take_more xs i d inside)))

-- the pieces of all
pub flat_all : {X : Type 0} (f : X → List ℕ) (xs : List X) (i : ℕ) (start old : List ℕ) → length xs ≤ i → old ≡ start ++ flat_map f (take i xs) → old ≡ start ++ flat_map f xs
flat_all f xs i start old done before = before ∙ ap (λ l. start ++ flat_map f l) (take_all i xs done)
