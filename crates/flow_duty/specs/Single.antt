-- A session of users comes to one thing.
use Rattle.std.specs.Prelude.{◌≡◌, ℕ, List}
use Rattle.flow_model.specs.Lists.{AreDistinct}
use Rattle.flow_reply.specs.Session.{Driven}
use Rattle.flow_policy.specs.declared.duty.Duty.{Duty}
use Rattle.flow_roles.specs.Desked.{Desked}
use Rattle.flow_duty.specs.Session.{IsUserSession}

abbrev pub UserSessionsAreSingle : Type 0
UserSessionsAreSingle = (first : Desked) (by : ℕ) (session : List Duty) → AreDistinct first.assigned.users →
    (d e : Driven) (last other : Desked) (caller user : ℕ) → IsUserSession first by session d last caller → IsUserSession first by session e other user →
    (d ≡ e) × (last ≡ other) × (caller ≡ user)
