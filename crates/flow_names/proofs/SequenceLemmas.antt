-- What is seen of two leaves in a goal is so.
use Rattle.std.proofs.Common.{ℕ, Bool, true, false, ◌&&◌, ◌||◌, ◌==◌, IsTrue, ◌↔◌, ◌⊎◌, List, [], ◌∷◌, ◌++◌, refl, sym, inl, inr, ⊎_elim, true≢false}
use Rattle.std.proofs.lemmas.Bool.{eqb-true, eq-eqb}
use Rattle.flow_model.specs.Lists.{◌∈◌}
use Rattle.flow_model.specs.Process.{Process, Empty, Task, Sequence, Parallel, Choice, Isolated, leaves}
use Rattle.flow_model.specs.Ready.{InSequence}
use Rattle.flow_model.proofs.Lists.{mem_append_left, mem_append_right, mem-append}
use Rattle.flow_names.specs.Sequence.{seen_in}

-- a test of either, and of both

either : {P Q : Type 0} (a b : Bool) → IsTrue a ↔ P → IsTrue b ↔ Q → IsTrue (a || b) ↔ (P ⊎ Q)
either true b p q = (λ _. inl (p.0 refl), λ _. refl)
either false b p q = (λ e. inr (q.0 e), ⊎_elim (λ l. absurd (true≢false (sym (p.1 l)))) q.1)

both : {P Q : Type 0} (a b : Bool) → IsTrue a ↔ P → IsTrue b ↔ Q → IsTrue (a && b) ↔ (P × Q)
both true b p q = (λ e. (p.0 refl, q.0 e), λ h. q.1 h.1)
both false b p q = (λ e. absurd (true≢false (sym e)), λ h. absurd (true≢false (sym (p.1 h.0))))

never : {P : Type 0} → ¬ P → IsTrue false ↔ P
never none = (λ e. absurd (true≢false (sym e)), λ p. absurd (none p))

one : (n x : ℕ) → IsTrue (n == x) ↔ (x ∈ (n ∷ []))
one n x = (λ e. inl (sym (eqb-true n x e)), ⊎_elim (λ e. eq-eqb n x (sym e)) (λ none. absurd none))

-- the leaves of two goals
of_two : (x : ℕ) (a b : List ℕ) (s t : Bool) → IsTrue s ↔ (x ∈ a) → IsTrue t ↔ (x ∈ b) → IsTrue (s || t) ↔ (x ∈ (a ++ b))
of_two x a b s t p q =
    let e = either s t p q in
    (λ h. ⊎_elim (mem_append_left x a b) (mem_append_right x a b) (e.0 h), λ m. e.1 (mem-append x a b m))

first_seen : (g : Process) (x y : ℕ) → IsTrue (seen_in g x y).first ↔ (x ∈ leaves g)
first_seen Empty x y = never (λ none. none)
first_seen (Task n) x y = one n x
first_seen (Sequence a b) x y = of_two x (leaves a) (leaves b) _ _ (first_seen a x y) (first_seen b x y)
first_seen (Parallel a b) x y = of_two x (leaves a) (leaves b) _ _ (first_seen a x y) (first_seen b x y)
first_seen (Choice a b) x y = of_two x (leaves a) (leaves b) _ _ (first_seen a x y) (first_seen b x y)
first_seen (Isolated a) x y = first_seen a x y

second_seen : (g : Process) (x y : ℕ) → IsTrue (seen_in g x y).second ↔ (y ∈ leaves g)
second_seen Empty x y = never (λ none. none)
second_seen (Task n) x y = one n y
second_seen (Sequence a b) x y = of_two y (leaves a) (leaves b) _ _ (second_seen a x y) (second_seen b x y)
second_seen (Parallel a b) x y = of_two y (leaves a) (leaves b) _ _ (second_seen a x y) (second_seen b x y)
second_seen (Choice a b) x y = of_two y (leaves a) (leaves b) _ _ (second_seen a x y) (second_seen b x y)
second_seen (Isolated a) x y = second_seen a x y

pub sequence_seen : (g : Process) (x y : ℕ) → IsTrue (seen_in g x y).in_sequence ↔ InSequence g x y
sequence_seen Empty x y = never (λ none. none)
sequence_seen (Task n) x y = never (λ none. none)
sequence_seen (Sequence a b) x y =
    either _ _ (either _ _ (both _ _ (first_seen a x y) (second_seen b x y)) (sequence_seen a x y)) (sequence_seen b x y)
sequence_seen (Parallel a b) x y = either _ _ (sequence_seen a x y) (sequence_seen b x y)
sequence_seen (Choice a b) x y = either _ _ (sequence_seen a x y) (sequence_seen b x y)
sequence_seen (Isolated a) x y = sequence_seen a x y
