-- Users for events, as duties let them have these.
use Rattle.std.specs.Prelude.{◌≡◌, ◌≢◌, ◌<◌, ◌⊎◌, ◌==◌, if◌then◌else◌, ℕ, List, [], ◌∷◌}
use Rattle.flow_model.specs.Duties.{Duties, HasRole, IsConstraintOf}
use Rattle.flow_model.specs.Lists.{Each}
use Rattle.flow_stages.specs.declared.wanted.Wanted.{Wanted}
use Rattle.flow_stages.specs.declared.wanted.Wanted.TheVariants.{Anybody, OneFor, NobodyFor}

-- users who have a role have numbers below
abbrev pub HoldsRoles : Duties → ℕ → Type 0
HoldsRoles d users = (user event : ℕ) → HasRole d user event → user < users

-- the two events are to go to one user
abbrev pub AreForOne : Wanted → ℕ → ℕ → Type 0
AreForOne (OneFor one two) e f = ((e ≡ one) × (f ≡ two)) ⊎ ((e ≡ two) × (f ≡ one))
AreForOne Anybody e f = ⊥
AreForOne (NobodyFor other) e f = ⊥

-- the event may go to the user beside another event that goes to the taker
pub record GoesWith (d : Duties) (wanted : Wanted) (event user other taker : ℕ) : Type 0 where
  pub same : event ≡ other → user ≡ taker
  pub apart : event ≢ other → (i : ℕ) → IsConstraintOf d.separate i event other → user ≢ taker
  pub together : event ≢ other → (i : ℕ) → IsConstraintOf d.bound i event other → user ≡ taker
  pub one : AreForOne wanted event other → user ≡ taker

-- who takes the event by these takers: the first who does; 0 where none does
abbrev pub taker_by : List (ℕ × ℕ) → ℕ → ℕ
taker_by [] e = 0
taker_by (t ∷ takers) e = if t.0 == e then t.1 else taker_by takers e

-- beside events that have takers
pub record MayHave (d : Duties) (wanted : Wanted) (taken : List (ℕ × ℕ)) (event user : ℕ) : Type 0 where
  pub role : HasRole d user event
  pub beside : Each (λ (t : ℕ × ℕ). GoesWith d wanted event user t.0 t.1) taken

-- the events with P may go to these users
pub record Fits (d : Duties) (wanted : Wanted) (P : ℕ → Type 0) (to : ℕ → ℕ) : Type 0 where
  pub role : (e : ℕ) → P e → HasRole d (to e) e
  pub beside : (e f : ℕ) → P e → P f → GoesWith d wanted e (to e) f (to f)

-- somebody may have the event beside those with P
abbrev pub HasSomebody : Duties → ℕ → (ℕ → Type 0) → (ℕ → ℕ) → Type 0
HasSomebody d event P to = (user : ℕ) × HasRole d user event × ((f : ℕ) → P f → GoesWith d Anybody event user f (to f))

-- what keeps users that fit from being what is wanted: somebody may have the event that is to be nobody's
abbrev pub Misses : Duties → Wanted → (ℕ → Type 0) → (ℕ → ℕ) → Type 0
Misses d Anybody P to = ⊥
Misses d (OneFor one two) P to = ⊥
Misses d (NobodyFor event) P to = HasSomebody d event P to

-- the same, of takers that were tried
abbrev pub MissesBy : Duties → Wanted → List (ℕ × ℕ) → Type 0
MissesBy d Anybody taken = ⊥
MissesBy d (OneFor one two) taken = ⊥
MissesBy d (NobodyFor event) taken = (user : ℕ) × MayHave d Anybody taken event user

-- the two events are different, and no constraint is of them
pub record AreUntied (d : Duties) (event other : ℕ) : Type 0 where
  pub differ : event ≢ other
  pub apart : (i : ℕ) → ¬ (IsConstraintOf d.separate i event other)
  pub together : (i : ℕ) → ¬ (IsConstraintOf d.bound i event other)

-- who takes the other event does not bear on whether the event that is to be nobody's is so
abbrev pub IsFar : Duties → Wanted → ℕ → Type 0
IsFar d Anybody other = Unit {0}
IsFar d (OneFor one two) other = Unit {0}
IsFar d (NobodyFor event) other = AreUntied d event other
