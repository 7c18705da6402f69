-- What stands in a name's value, or behind it.
use Rattle.std.specs.Prelude.{ℕ, List, take}
use Rattle.flow_facts.specs.declared.letters.Letters.{Letters}
use Rattle.flow_facts.specs.declared.letters.Letters.TheVariants.{Here, Away}

abbrev pub letters_of : Letters → List ℕ
letters_of (Here size room) = take size room
letters_of (Away bytes) = bytes.value.items
