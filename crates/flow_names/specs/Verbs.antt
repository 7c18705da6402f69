-- The first words of commands.
use Rattle.std.specs.Prelude.{ℕ, List, [], ◌∷◌, Option, codes}
use Rattle.std.specs.List.{find}
use Rattle.std.specs.Str.{bytes_eq}
use Rattle.flow_fault.specs.Near.{is_near}
use Rattle.flow_names.specs.declared.verb.Verb.{Verb}
use Rattle.flow_names.specs.declared.verb.Verb.TheVariants.{Take, Done, Fail, Do, Rewind, Commit, Tidy, Todo, Why, History, Undone, Facts, Report}

-- the word itself
abbrev pub word_of : Verb → List ℕ
word_of Take = codes "take"
word_of Done = codes "done"
word_of Fail = codes "fail"
word_of Do = codes "do"
word_of Rewind = codes "rewind"
word_of Commit = codes "commit"
word_of Tidy = codes "tidy"
word_of Todo = codes "todo"
word_of Why = codes "why"
word_of History = codes "history"
word_of Undone = codes "undone"
word_of Facts = codes "facts"
word_of Report = codes "report"

-- each verb once
abbrev pub verbs : List Verb
verbs = Take ∷ Done ∷ Fail ∷ Do ∷ Rewind ∷ Commit ∷ Tidy ∷ Todo ∷ Why ∷ History ∷ Undone ∷ Facts ∷ Report ∷ []

-- the verb of a word, if it is that of one
abbrev pub verb_of : List ℕ → Option Verb
verb_of word = find (λ verb. bytes_eq (word_of verb) word) verbs

-- the first verb that differs from the word at one place, if at all
abbrev pub verb_near : List ℕ → Option Verb
verb_near word = find (λ verb. is_near word (word_of verb)) verbs
