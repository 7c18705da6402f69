use Rattle.std.proofs.Common.{◌≡◌, ◌<◌, ◌≤◌, ◌+◌, ◌^◌, ◌++◌, ◌∷◌, [], ℕ, List, length, get_or, take, arith, ap, subst, ◌∙◌, Result, Ok, Err, OnOk}
use Rattle.std.proofs.lemmas.List.{take_all}
use Rattle.flow_model.specs.Lists.{Each}
use Rattle.flow_record.specs.History.{IsSmall}
use Rattle.flow_model.specs.declared.history.Entry.{Entry}
use Rattle.flow_model.specs.declared.history.Step.TheVariants.{Took}
use Rattle.flow_model.specs.Run.{first_state}
use Rattle.flow_core.specs.Run.{Run, schema}
use Rattle.flow_keep.specs.Kept.{KeepsEither}
use Rattle.flow_keep.specs.Records.{body_of}
use Rattle.flow_keep.proofs.MomentLemmas.{weaker}
use Rattle.flow_laws.proofs.SoundStates.{legal_length}
use Rattle.flow_keep.proofs.LastEntry.{all_small, all_kept, either_kept, gains_last, gains_nothing}
use Rattle.flow_keep.proofs.keep.keep_last.Goals as goal

pub append-requires-clause-room : goal.append-requires-clause-room
append-requires-clause-room g c =
    let r = c.args.core.now in
    let within : 0 + length r.history ≤ r.limit = legal_length (schema r) r.limit first_state 0 r.history (c.history-history.ensures.lawful).legal (omega arith) in
    let few : c.limit-limit.result < 2 ^ 32 = c.limit-limit.type_inv in
    let is = c.limit-limit.ensures in
    let counted = c.requires.counted in
    omega arith

both : {E : Type 0} {P Q R : Type 0} (r : Result (Unit {0}) E) → OnOk r P → OnOk r Q → (P → Q → R) → OnOk r R
both (Ok _) p q f = f p q
both (Err e) p q f = tt

one_more : (r : Run) (count : ℕ) (list : List Entry) → list ≡ r.history → count ≤ length r.history → length r.history ≤ count + 1 → (length list ≡ count → ⊥) → length r.history ≡ count + 1
one_more r count list is from to other =
    let e = ap (λ (l : List Entry). length l) is in grind arith

abbrev first_entry : Entry
first_entry = record { by = 0; step = Took 0 0 }

pub returns-then-history-count-clause-small : goal.returns-then-history-count-clause-small
returns-then-history-count-clause-small g c = λ all.
    let history = c.args.core.now.history in
    let same = ap (λ (l : List Entry). length l) c.history-history.ensures.entries in
    let even : length history ≤ c.args.count = omega arith in
    subst (Each IsSmall) (take_all c.args.count history even) all

pub returns-clause-small : goal.returns-clause-small
returns-clause-small g c = λ all.
    let history = c.args.core.now.history in
    let one : length history ≡ c.args.count + 1 = one_more c.args.core.now c.args.count _ c.history-history.ensures.entries c.requires.counted c.requires.one c.if-history-count.false in
    let last : IsSmall (get_or history c.args.count first_entry) = subst (λ (l : List Entry). IsSmall (get_or l c.args.count first_entry)) c.history-history.ensures.entries c.body_of-body.ensures.small in
    all_small history c.args.count first_entry one last all

pub returns-clause-kept : goal.returns-clause-kept
returns-clause-kept g c =
    let history = c.args.core.now.history in
    let is : c.body_of-body.result ≡ body_of (get_or history c.args.count first_entry) =
    c.body_of-body.ensures.bytes ∙ ap (λ (l : List Entry). body_of (get_or l c.args.count first_entry)) c.history-history.ensures.entries in
    let one : length history ≡ c.args.count + 1 = one_more c.args.core.now c.args.count _ c.history-history.ensures.entries c.requires.counted c.requires.one c.if-history-count.false in
    both c.append.result c.append.ensures.settled c.append.ensures.kept (λ settled kept told. record {
      settled = settled told;
      keeps = kept told ∙ ap (λ (l : List (List ℕ)). l ++ c.body_of-body.result ∷ []) (c.requires.kept told).keeps ∙ all_kept history c.args.count first_entry c.body_of-body.result one is;
    })

pub returns-clause-any_moment : goal.returns-clause-any_moment
returns-clause-any_moment g c = λ told.
    let history = c.args.core.now.history in
    let is : c.body_of-body.result ≡ body_of (get_or history c.args.count first_entry) =
    c.body_of-body.ensures.bytes ∙ ap (λ (l : List Entry). body_of (get_or l c.args.count first_entry)) c.history-history.ensures.entries in
    let one : length history ≡ c.args.count + 1 = one_more c.args.core.now c.args.count _ c.history-history.ensures.entries c.requires.counted c.requires.one c.if-history-count.false in
    weaker g.D.Disk.moment g.D.Disk.image c.args.disk.now c.append.new.disk _ (KeepsEither (take c.args.count history) history)
    (either_kept history c.args.count first_entry _ c.body_of-body.result one is (c.requires.kept told).keeps) (c.append.ensures.any_moment told)

pub returns-then-history-count-clause-gains : goal.returns-then-history-count-clause-gains
returns-then-history-count-clause-gains g c = λ told.
    let same = ap (λ (l : List Entry). length l) c.history-history.ensures.entries in
    let even : length c.args.core.now.history ≤ c.args.count = omega arith in
    gains_nothing c.args.core.now.history c.args.count _ _ even

pub returns-clause-gains : goal.returns-clause-gains
returns-clause-gains g c = λ told.
    let history = c.args.core.now.history in
    let is : c.body_of-body.result ≡ body_of (get_or history c.args.count first_entry) =
    c.body_of-body.ensures.bytes ∙ ap (λ (l : List Entry). body_of (get_or l c.args.count first_entry)) c.history-history.ensures.entries in
    let one : length history ≡ c.args.count + 1 = one_more c.args.core.now c.args.count _ c.history-history.ensures.entries c.requires.counted c.requires.one c.if-history-count.false in
    both c.append.result c.append.ensures.gains c.append.ensures.gains (λ gains more. gains_last history c.args.count first_entry c.body_of-body.result _ _ one is (gains told))
