-- What words are for.
use Rattle.std.proofs.Common.{◌≡◌, List, [], Option, inl, inr, refl, ap, sym, subst, rules}
use Rattle.std.specs.Prelude.{◌≢◌, Ok, Err, Result, IfOk, MatchOption}
use Rattle.std.specs.declared.alloc.AllocError.{AllocError}
use Rattle.clap.specs.Values.{kind_of}
use Rattle.clap.specs.Words.{HasKind, IsAmong, Text, fault_of}
use Rattle.clap.specs.declared.error.Error.{Error}
use Rattle.clap.specs.declared.error.kind.ErrorKind.{ErrorKind}
use Rattle.clap.specs.declared.error.kind.ErrorKind.TheVariants.{DisplayHelp, DisplayVersion, OutOfMemory}
use Rattle.flow_words.specs.Command.{flow_app}
use Rattle.flow_words.specs.Words.{text_asked_by, AsksFor, IsCall, IsFor, IsNoCall, OneRequest, OnePurpose}
use Rattle.flow_words.specs.declared.purpose.Purpose.{Purpose}
use Rattle.flow_words.specs.declared.purpose.Purpose.TheVariants.{Answer, Help, Version}
use Rattle.flow_words.specs.declared.request.Request.{Request}
use Rattle.flow_words.proofs.OneFault.{one_fault}

module _ (words : List Text) where
  -- words that are read ask for no text
  read_asks_nothing : (kind : ErrorKind) → fault_of flow_app words ≡ [] → ¬ (AsksFor words kind)
  read_asks_nothing kind read asks = subst (IsAmong kind) read asks

  -- where the command gives an error of that kind, the words are for the text that is asked for by it, or for nothing
  pub text_found : (kind : ErrorKind) → AsksFor words kind → MatchOption (text_asked_by kind) (IsNoCall words) (IsFor words)
  text_found DisplayHelp asks = asks
  text_found DisplayVersion asks = asks
  text_found kind asks = no_call
    where
      no_call : IsNoCall words
      no_call (Answer request) call = read_asks_nothing kind call.0 asks
      no_call Help help = let bad : DisplayHelp ≡ kind = one_fault words DisplayHelp kind help asks in cc
      no_call Version version = let bad : DisplayVersion ≡ kind = one_fault words DisplayVersion kind version asks in cc

  pub text_told : (e : Error) (r : Result (Option Purpose) AllocError) → HasKind (fault_of flow_app words) e → IfOk r (λ _. kind_of e ≢ OutOfMemory) →
      IfOk r (λ asked. asked ≡ text_asked_by (kind_of e)) → IfOk r (λ asked. MatchOption asked (IsNoCall words) (IsFor words))
  text_told e (Err starved) has fed asked = tt
  text_told e (Ok asked) (inl starved) fed is = absurd (fed starved)
  text_told e (Ok asked) (inr among) fed is = subst (λ (o : Option Purpose). MatchOption o (IsNoCall words) (IsFor words)) (sym is) (text_found (kind_of e) among)

  -- what is found in words that are read
  pub not_asked : fault_of flow_app words ≡ [] → ((request : Request) → ¬ (IsCall words request)) → IsNoCall words
  not_asked read none (Answer request) call = none request call
  not_asked read none Help help = read_asks_nothing DisplayHelp read help
  not_asked read none Version version = read_asks_nothing DisplayVersion read version

one_request : OneRequest
one_request words a b p q = search rules

pub one_purpose : OnePurpose
one_purpose words (Answer a) (Answer b) p q = ap Answer (one_request words a b p q)
one_purpose words (Answer a) Help p q = absurd (read_asks_nothing words DisplayHelp p.0 q)
one_purpose words (Answer a) Version p q = absurd (read_asks_nothing words DisplayVersion p.0 q)
one_purpose words Help (Answer b) p q = absurd (read_asks_nothing words DisplayHelp q.0 p)
one_purpose words Version (Answer b) p q = absurd (read_asks_nothing words DisplayVersion q.0 p)
one_purpose words Help Help p q = refl
one_purpose words Version Version p q = refl
one_purpose words Help Version p q = let bad : DisplayHelp ≡ DisplayVersion = one_fault words DisplayHelp DisplayVersion p q in cc
one_purpose words Version Help p q = let bad : DisplayVersion ≡ DisplayHelp = one_fault words DisplayVersion DisplayHelp p q in cc
