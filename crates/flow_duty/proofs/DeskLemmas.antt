-- What a line at a desk leaves as it is, and what was given.
use Rattle.std.proofs.Common.{◌≡◌, ℕ, List, ap, inl, inr}
use Rattle.flow_record.specs.declared.command.Command.TheVariants as command
use Rattle.flow_core.proofs.Growth.{SameRun, grown_same}
use Rattle.flow_policy.specs.Assigned.{Assigned}
use Rattle.flow_policy.specs.declared.duty.Duty.{Duty}
use Rattle.flow_policy.specs.declared.duty.Duty.TheVariants.{As, Command}
use Rattle.flow_reply.proofs.SessionLemmas.{was_given}
use Rattle.flow_roles.specs.Ask.{DeskAnswers}
use Rattle.flow_roles.specs.Desked.{Desked}
use Rattle.flow_roles.proofs.Growth.{desk_grows, policy_stays}
use Rattle.flow_duty.specs.Replies.{CallsAs, IsCalled, IsSame, RepliesToLine, IsLineGiven}

-- the workflow, the limit and the policy are the same
abbrev pub SameDesk : Desked → Desked → Type 0
SameDesk d after = SameRun d.run after.run × (after.assigned ≡ d.assigned)

pub is_same : (d after : Desked) → after ≡ d → SameDesk d after
is_same d after e = ((ap (λ (a : Desked). a.run.definition) e, ap (λ (a : Desked). a.run.limit) e), ap (λ (a : Desked). a.assigned) e)

pub line_same : (d after : Desked) (by caller : ℕ) (line : Duty) (reply : List ℕ) → RepliesToLine d by line reply after caller → SameDesk d after
line_same d after by caller (As name) reply h = is_same d after h.1
line_same d after by caller (Command (command.Ask ask)) reply ((answer, answers, told), same) =
    (grown_same d.run after.run ask by (desk_grows d after ask by answer answers), policy_stays d after ask by answer answers)
line_same d after by caller (Command (command.Look look)) reply ((unchanged, shown), same) = is_same d after unchanged

called : (a : Assigned) (by caller : ℕ) (name reply : List ℕ) → CallsAs a by name reply caller → IsCalled a by name caller
called a by caller name reply (inl (user, told)) = inl user
called a by caller name reply (inr (none, same, told)) = inr (none, same)

-- what was told of was given
pub line_given : (d after : Desked) (by caller : ℕ) (line : Duty) (reply : List ℕ) → RepliesToLine d by line reply after caller → IsLineGiven d by line after caller
line_given d after by caller (As name) reply (calls, same) = (called d.assigned by caller name reply calls, same)
line_given d after by caller (Command c) reply (replied, same) = (was_given (λ desk. desk.run) DeskAnswers IsSame by d after c reply replied, same)
