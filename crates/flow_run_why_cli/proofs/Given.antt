-- Lines that were given, one after another.
use Rattle.std.proofs.Common.{◌≡◌, ◌<◌, ◌≤◌, ◌+◌, ℕ, List, [], ◌∷◌, ◌++◌, length, take, get_or, refl, sym, subst}
use Rattle.std.proofs.lemmas.List.{take_more, take_all}
use Rattle.flow_run_why_cli.specs.Session.{AreGiven}

module _ {S C : Type 0} (Give : S → C → S → Type 0) where
  -- one more was given
  pub given_more : (first middle last : S) (lines : List C) (line : C) → AreGiven Give first lines middle → Give middle line last → AreGiven Give first (lines ++ line ∷ []) last
  given_more first middle last [] line same give = (last, subst (λ (s : S). Give s line last) same give, refl)
  given_more first middle last (other ∷ lines) line (next, gave, rest) give = (next, gave, given_more next middle last lines line rest give)

  -- the next of them was given
  pub given_next : (first middle last : S) (lines : List C) (i : ℕ) (d : C) → i < length lines → AreGiven Give first (take i lines) middle → Give middle (get_or lines i d) last →
      AreGiven Give first (take (i + 1) lines) last
  given_next first middle last lines i d below given give =
      subst (λ (l : List C). AreGiven Give first l last) (sym (take_more lines i d below)) (given_more first middle last (take i lines) (get_or lines i d) given give)

  -- all of them were given
  pub given_all : (first last : S) (lines : List C) (i : ℕ) → length lines ≤ i → AreGiven Give first (take i lines) last → AreGiven Give first lines last
  given_all first last lines i past given = subst (λ (l : List C). AreGiven Give first l last) (take_all i lines past) given
