-- Legal histories by folded options: what can be taken or done is the same by them.
use Rattle.std.proofs.Common.{ℕ, [], ◌⊎◌, sym, append-nil, inl, inr, ⊎_elim}
use Rattle.flow_model.specs.Schema.{Schema}
use Rattle.flow_model.specs.Run.{RunState, current_leaves, state_of, CanTake, CanDoAside}
use Rattle.flow_model.proofs.MadeLists.{same_order}
use Rattle.flow_laws.specs.WellFormed.{IsWellFormed}
use Rattle.flow_laws.proofs.NeverAtALoss.{sound_state, not_at_a_loss, never_stuck}
use Rattle.flow_fold_laws.proofs.FoldedFollowingLemmas.{orders_unfold, same_can_take, same_can_do_aside}
use Rattle.flow_run_laws.specs.FoldedHistories.{LegalStatesExtendInFolded, CanGoOnInFolded, GoesOnInFolded, SameStuck, NeverStuckInFolded}

pub legal_states_extend_in_folded : LegalStatesExtendInFolded
legal_states_extend_in_folded apart w f consistent keeps limit history legal front begins =
    let s = state_of w front in
    let sound = sound_state w f consistent limit history legal front begins in
    let (t, trace, (good, kept, none), on) = sound.extends.2 (current_leaves s) (same_order (current_leaves s)) in
    (sound, (orders_unfold apart w f keeps s [] (current_leaves s)).1 sound.extends, (t, good, kept))

folded_goes_on : (w : Schema) → IsWellFormed w → (s : RunState) (n : ℕ) → CanTake w s n ⊎ CanDoAside w s n → CanGoOnInFolded w s n
folded_goes_on w f s n = ⊎_elim (λ h. inl ((same_can_take w f s n).1 h)) (λ h. inr ((same_can_do_aside w f s n).1 h))

unfolded_goes_on : (w : Schema) → IsWellFormed w → (s : RunState) (n : ℕ) → CanGoOnInFolded w s n → CanTake w s n ⊎ CanDoAside w s n
unfolded_goes_on w f s n = ⊎_elim (λ h. inl ((same_can_take w f s n).0 h)) (λ h. inr ((same_can_do_aside w f s n).0 h))

pub goes_on_in_folded : GoesOnInFolded
goes_on_in_folded w f consistent limit history legal going unfinished =
    let s = state_of w history in
    ⊎_elim inl (λ (n, can). inr (n, folded_goes_on w f s n can))
    (not_at_a_loss w f s (sound_state w f consistent limit history legal history ([], sym (append-nil history))) unfinished)

pub same_stuck : SameStuck
same_stuck w f s = (
  λ h. record {
    going_on = h.going_on;
    no_claim = h.no_claim;
    unfinished = h.unfinished;
    only_waiting = λ n can. let (aside, false_now) = h.only_waiting n (folded_goes_on w f s n can) in ((same_can_do_aside w f s n).0 aside, false_now);
  },
  λ h. record {
    going_on = h.going_on;
    no_claim = h.no_claim;
    unfinished = h.unfinished;
    only_waiting = λ n can. let (aside, false_now) = h.only_waiting n (unfolded_goes_on w f s n can) in ((same_can_do_aside w f s n).1 aside, false_now);
  },
)

pub never_stuck_in_folded : NeverStuckInFolded
never_stuck_in_folded w f consistent never limit history legal stuck =
    let s = state_of w history in
    never_stuck w f never s (sound_state w f consistent limit history legal history ([], sym (append-nil history))) ((same_stuck w f s).0 stuck)
