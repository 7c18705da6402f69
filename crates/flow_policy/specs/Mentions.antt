-- What the code has read of a policy.
use Rattle.std.specs.Prelude.{◌≡◌, ◌≢◌, ◌<◌, ◌⊎◌, ℕ, suc, List, length, take, map, Some, None}
use Rattle.flow_lex.specs.declared.token.Token.{Token}
use Rattle.flow_reader.specs.Symbols.{symbols_of}
use Rattle.flow_reader.specs.Reading.{place_of}
use Rattle.flow_policy.specs.declared.stage.Stage.{Stage}
use Rattle.flow_policy.specs.declared.stage.Stage.TheVariants.{StatementNeeded}
use Rattle.flow_policy.specs.declared.mention.Mention.{Mention}
use Rattle.flow_policy.specs.declared.refusal.PolicyRefusal.{PolicyRefusal}
use Rattle.flow_policy.specs.declared.refusal.PolicyRefusal.TheVariants.{Expected, NoMemory}
use Rattle.flow_policy.specs.Stages.{Mentioned, reached, mentions_from}

abbrev pub said_in : Mention → Mentioned
said_in m = record { stage = m.stage; place = m.place; name = m.name.now }

-- the tokens are whole statements, and these are their names
pub record AreMentions (text : List ℕ) (tokens : List Token) (mentions : List Mention) : Type 0 where
  pub whole : reached StatementNeeded (symbols_of text tokens) ≡ Some StatementNeeded
  pub said : map said_in mentions ≡ mentions_from text StatementNeeded tokens

-- the reading stops at that place, which is where the token of that number begins or where the text ends
pub record Stops (text : List ℕ) (tokens : List Token) (place : ℕ) : Type 0 where
  pub number : ℕ
  pub there : place ≡ place_of text tokens number
  pub stage : Stage
  pub so_far : reached StatementNeeded (take number (symbols_of text tokens)) ≡ Some stage
  pub no_further :
      (number < length (symbols_of text tokens)) × (reached StatementNeeded (take (suc number) (symbols_of text tokens)) ≡ None)
      ⊎ (number ≡ length (symbols_of text tokens)) × (stage ≢ StatementNeeded)

abbrev pub IsReadRefusal : List ℕ → List Token → PolicyRefusal → Type 0
IsReadRefusal text tokens (Expected place) = Stops text tokens place
IsReadRefusal text tokens NoMemory = Unit {0}
IsReadRefusal text tokens _ = ⊥
