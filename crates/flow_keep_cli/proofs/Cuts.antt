-- A kept session that is cut short, or goes on, one command after another.
use Rattle.std.proofs.Common.{◌≡◌, inl, inr, ◌<◌, ◌≤◌, ◌+◌, ℕ, zero, suc, List, [], ◌∷◌, ◌++◌, length, take, get_or, Option, Some, refl, sym, ap, ◌∙◌, subst, arith, append-nil}
use Rattle.std.specs.Prelude.{slice_get}
use Rattle.std.proofs.lemmas.List.{take_more, take_all}
use Rattle.std.proofs.KnownBytes.{Appends-trans}
use Rattle.std.specs.Io.KnownBytes.{Appends}
use Rattle.flow_core.specs.Run.{Run}
use Rattle.flow_record.specs.declared.command.Command.{Command}
use Rattle.flow_io.specs.Sink.{AppendsPart}
use Rattle.flow_keep.specs.Records.{Keeps}
use Rattle.flow_keep.specs.Kept.{KeepsEither}
use Rattle.flow_core.specs.Ask.{Answers}
use Rattle.flow_reply.specs.Replies.{IsSame, RepliesTo, Drives}
use Rattle.flow_reply.proofs.SessionLemmas.{was_given}
use Rattle.flow_keep_cli.specs.declared.replies.Cut.{Cut}
use Rattle.flow_keep_cli.specs.declared.replies.Cut.TheVariants as cut
use Rattle.flow_keep_cli.specs.declared.status.KeepStatus.{KeepStatus}
use Rattle.flow_keep_cli.specs.declared.status.KeepStatus.TheVariants as ending
use Rattle.flow_keep_cli.specs.Lines.{disk_line}
use Rattle.flow_keep_cli.specs.Session.{driver, Goes, IsGiven, IsNoSink, KeepsCut, KeepsSome, IsCut, BehindReplies, BehindStatus}
use Rattle.flow_keep_cli.specs.Course.{IsSaid}

goes_of : (old new : Run) (session : List Command) (text : List ℕ) → Drives old driver session text new → Goes old session new
goes_of old new [] text d = d.1
goes_of old new (c ∷ session) text (m, (l, (rest, first, later, e))) = (m, was_given (λ run. run) Answers IsSame driver old m c l first, goes_of m new session rest later)

goes_more : (old middle new : Run) (session : List Command) (command : Command) → Goes old session middle → IsGiven middle command new → Goes old (session ++ command ∷ []) new
goes_more old middle new [] command g a = (new, subst (λ (p : Run). IsGiven p command new) g a, refl)
goes_more old middle new (c ∷ session) command (m, first, later) a = (m, first, goes_more m middle new session command later a)

-- an element that is there
there : (commands : List Command) (i : ℕ) (d : Command) → i < length commands → slice_get commands i ≡ Some (get_or commands i d)
there [] i d within = absurd (omega (arith, within))
there (c ∷ commands) zero d within = refl
there (c ∷ commands) (suc i) d within = there commands i d (omega (arith, within))

module _ (first middle new : Run) (commands : List Command) (i : ℕ) (d : Command) (within : i < length commands) (text : List ℕ) (held held' : Option (List ℕ)) (tells : Type 0) (images : List ℕ → Type 0)
    (driven : Drives first driver (take i commands) text middle) (given : IsGiven middle (get_or commands i d) new) where
  one_more : Goes first (take (i + 1) commands) new
  one_more = subst (λ (front : List Command). Goes first front new) (sym (take_more commands i d within))
      (goes_more first middle new (take i commands) (get_or commands i d) (goes_of first middle (take i commands) text driven) given)

  -- the file keeps the run with the next command
  after : (file : List ℕ) → Keeps new.history file → KeepsSome first commands i file
  after file kept = record { count = i + 1; from = (let e : i ≤ i + 1 = omega arith in e); soon = (let e : i + 1 ≤ i + 1 = omega arith in e); within = (let e : i + 1 ≤ length commands = omega (arith, within) in e); last = new; goes = one_more; kept = kept }

  -- or without it
  before : (file : List ℕ) → Keeps middle.history file → KeepsSome first commands i file
  before file kept = record { count = i; from = (let e : i ≤ i = omega arith in e); soon = (let e : i ≤ i + 1 = omega arith in e); within = (let e : i ≤ length commands = omega (arith, within) in e); last = middle; goes = goes_of first middle (take i commands) text driven; kept = kept }

  few : i ≤ length commands
  few = omega (arith, within)

  -- the disk failed
  pub cut_disk : Appends held held' text → (tells → (file : List ℕ) → images file → KeepsEither middle.history new.history file) →
      IsCut first commands (BehindReplies commands cut.Disk) [] held held' tells images
  cut_disk written either = record {
    done = i;
    some = few;
    replies = text;
    middle = middle;
    driven = driven;
    more = [];
    behind = refl;
    written = subst (Appends held held') (sym (append-nil text)) written;
    keeps = λ told file image. elim (either told file image) [ inl was ↦ before file was | inr is ↦ after file is ];
  }

  -- there was no memory for the reply
  pub cut_memory : Appends held held' text → (tells → (file : List ℕ) → images file → Keeps new.history file) →
      IsCut first commands (BehindReplies commands cut.Memory) [] held held' tells images
  cut_memory written kept = record {
    done = i;
    some = few;
    replies = text;
    middle = middle;
    driven = driven;
    more = [];
    behind = refl;
    written = subst (Appends held held') (sym (append-nil text)) written;
    keeps = λ told file image. after file (kept told file image);
  }

  -- no line was to be written: the disk failed, or memory was wanted
  pub cut_served : (why : Cut) → IsNoSink why → Appends held held' text →
      (tells → (file : List ℕ) → images file → KeepsCut middle.history new.history why file) → IsCut first commands (BehindReplies commands why) [] held held' tells images
  cut_served cut.Disk other written kept = cut_disk written kept
  cut_served cut.Memory other written kept = cut_memory written kept
  cut_served cut.Sink other written kept = absurd other

  -- the sink failed within the reply
  pub cut_sink : (line : List ℕ) (held'' : Option (List ℕ)) → Appends held held' text → RepliesTo middle driver (get_or commands i d) line new → AppendsPart held' held'' line →
      (tells → (file : List ℕ) → images file → Keeps new.history file) → IsCut first commands (BehindReplies commands cut.Sink) [] held held'' tells images
  cut_sink line held'' written reply part kept = record {
    done = i;
    some = few;
    replies = text;
    middle = middle;
    driven = driven;
    more = take part.0 line;
    behind = (line, (get_or commands i d, there commands i d within, (new, reply)), (part.0, part.1, refl));
    written = Appends-trans held held' held'' text (take part.0 line) written part.2;
    keeps = λ told file image. after file (kept told file image);
  }

-- ---- what comes behind

-- a session that was cut with nothing behind its replies, and what is written then
pub cut_behind : (first : Run) (commands : List Command) (Behind Behind' : Run → ℕ → List ℕ → Type 0) (held held' held'' : Option (List ℕ)) (tells : Type 0) (images : List ℕ → Type 0) (more : List ℕ) →
    ((r : Run) (done : ℕ) (m : List ℕ) → Behind r done m → m ≡ []) → ((r : Run) (done : ℕ) → Behind' r done more) → Appends held' held'' more →
    IsCut first commands Behind [] held held' tells images → IsCut first commands Behind' [] held held'' tells images
cut_behind first commands Behind Behind' held held' held'' tells images more nothing behind written c = record {
  done = c.done;
  some = c.some;
  replies = c.replies;
  middle = c.middle;
  driven = c.driven;
  more = more;
  behind = behind c.middle c.done;
  written = Appends-trans held held' held'' c.replies more
      (subst (Appends held held') (ap (λ (m : List ℕ). c.replies ++ m) (nothing c.middle c.done c.more c.behind) ∙ append-nil c.replies) c.written) written;
  keeps = c.keeps;
}

-- all commands were replied to
pub cut_after : (first last : Run) (commands : List Command) (Behind : Run → ℕ → List ℕ → Type 0) (text more : List ℕ) (held held' held'' : Option (List ℕ)) (tells : Type 0) (images : List ℕ → Type 0) →
    Drives first driver commands text last → Behind last (length commands) more → Appends held held' text → Appends held' held'' more →
    (tells → (file : List ℕ) → images file → Keeps last.history file) → IsCut first commands Behind [] held held'' tells images
cut_after first last commands Behind text more held held' held'' tells images driven behind written later kept =
    let all : take (length commands) commands ≡ commands = take_all (length commands) commands (omega arith) in
    let front : Drives first driver (take (length commands) commands) text last = subst (λ (c : List Command). Drives first driver c text last) (sym all) driven in
    record {
      done = length commands;
      some = (let e : length commands ≤ length commands = omega arith in e);
      replies = text;
      middle = last;
      driven = front;
      more = more;
      behind = behind;
      written = Appends-trans held held' held'' text more written later;
      keeps = λ told file image. record {
        count = length commands;
        from = (let e : length commands ≤ length commands = omega arith in e);
        soon = (let e : length commands ≤ length commands + 1 = omega arith in e);
        within = (let e : length commands ≤ length commands = omega arith in e);
        last = last;
        goes = goes_of first last (take (length commands) commands) text front;
        kept = kept told file image;
      };
    }

-- the disk failed, and that was said, or a front of it written
pub cut_said : (first : Run) (commands : List Command) (held held' held'' : Option (List ℕ)) (tells : Type 0) (images : List ℕ → Type 0) (result : KeepStatus) →
    IsCut first commands (BehindReplies commands cut.Disk) [] held held' tells images → IsSaid ending.Disk disk_line held' held'' result →
    IsCut first commands (BehindStatus commands result) [] held held'' tells images
cut_said first commands held held' held'' tells images result c (inl (is, all)) =
    cut_behind first commands (BehindReplies commands cut.Disk) (BehindStatus commands result) held held' held'' tells images disk_line (λ r done m nothing. nothing)
    (λ r done. subst (λ (s : KeepStatus). BehindStatus commands s r done disk_line) (sym is) refl) all c
cut_said first commands held held' held'' tells images result c (inr (is, (n, less, part))) =
    cut_behind first commands (BehindReplies commands cut.Disk) (BehindStatus commands result) held held' held'' tells images (take n disk_line) (λ r done m nothing. nothing)
    (λ r done. subst (λ (s : KeepStatus). BehindStatus commands s r done (take n disk_line)) (sym is) (disk_line, inr (inr refl), (n, less, refl))) part c

-- a line was written before
pub cut_with : (first : Run) (commands : List Command) (Behind : Run → ℕ → List ℕ → Type 0) (front : List ℕ) (held held' held'' : Option (List ℕ)) (tells : Type 0) (images : List ℕ → Type 0) →
    Appends held held' front → IsCut first commands Behind [] held' held'' tells images → IsCut first commands Behind front held held'' tells images
cut_with first commands Behind front held held' held'' tells images written c = record {
  done = c.done;
  some = c.some;
  replies = c.replies;
  middle = c.middle;
  driven = c.driven;
  more = c.more;
  behind = c.behind;
  written = Appends-trans held held' held'' front (c.replies ++ c.more) written c.written;
  keeps = c.keeps;
}
