-- The lines of a trail, and the text that tells them.
use Rattle.std.specs.Prelude.{◌≡◌, ℕ, ◌+◌, ◌-◌, ◌^◌, ◌<◌, true, false, List, [], ◌∷◌, ◌++◌, codes}
use Rattle.std.specs.Fmt.{decimal}
use Rattle.std.specs.Str.{IsUtf8}
use Rattle.std.specs.String.{string_bytes}
use Rattle.hex.specs.Hex.{encode_lower}
use Rattle.sha2.specs.Sha256.{sha256}
use Rattle.flow_trail.specs.declared.line.TrailLine.{TrailLine}
use Rattle.flow_trail.specs.declared.line.About.{About}
use Rattle.flow_trail.specs.declared.line.About.TheVariants.{Undone, Moved}
use Rattle.flow_trail.specs.declared.line.TrailLine.TheVariants.{Told, Void, Remark}
use Rattle.flow_trail.specs.declared.line.TrailEnd.{TrailEnd}
use Rattle.flow_trail.specs.Whole.{HasLines}
use Rattle.flow_trail.specs.Spelling.{spelt}

-- what a line says: an entry was made (when, by whom, what, of which task, with which note); the line before has no entry;
-- a remark about a text and an entry, by whom and when
pub data Said : Type 0 where
  told : List ℕ → List ℕ → List ℕ → List ℕ → List ℕ → Said
  void : List ℕ → Said
  remark : About → List ℕ → ℕ → List ℕ → List ℕ → Said

-- what an entry did is undone outside
abbrev pub undone : List ℕ → ℕ → List ℕ → List ℕ → Said
undone task entry by at = remark Undone task entry by at

abbrev pub said_of : TrailLine → Said
said_of (Told t) = told (string_bytes t.at) (string_bytes t.by) (string_bytes t.entry) (string_bytes t.task) (string_bytes t.note)
said_of (Void at) = void (string_bytes at)
said_of (Remark r) = remark r.about (string_bytes r.text) r.entry (string_bytes r.by) (string_bytes r.at)

-- the texts are texts, and the numbers of 32 bits
abbrev pub IsSayable : Said → Type 0
IsSayable (told at by entry task note) = IsUtf8 at × IsUtf8 by × IsUtf8 entry × IsUtf8 task × IsUtf8 note
IsSayable (void at) = IsUtf8 at
IsSayable (remark about text entry by at) = IsUtf8 text × (entry < 2 ^ 32) × IsUtf8 by × IsUtf8 at

-- ---- a line as text

-- a member of an object, behind others
abbrev pub member : List ℕ → List ℕ → List ℕ
member name text = codes ",\"" ++ name ++ codes "\":\"" ++ spelt text ++ codes "\""

-- the note, where there is one
abbrev pub note_member : List ℕ → List ℕ
note_member [] = []
note_member (b ∷ bs) = member (codes "note") (b ∷ bs)

-- the name of the first member of a remark
abbrev pub word_of : About → List ℕ
word_of Undone = codes "undone"
word_of Moved = codes "moved"

-- a line up to its seal
abbrev pub sealed_text : TrailEnd → Said → List ℕ
sealed_text e (told at by entry task note) =
    codes "{\"n\":" ++ decimal (e.count + 1) ++ member (codes "at") at ++ member (codes "by") by ++ member (codes "entry") entry
    ++ member (codes "task") task ++ note_member note
sealed_text e (void at) = codes "{\"n\":" ++ decimal e.count ++ codes ",\"void\":true" ++ member (codes "at") at
sealed_text e (remark about text entry by at) =
    codes "{\"" ++ word_of about ++ codes "\":\"" ++ spelt text ++ codes "\",\"entry\":" ++ decimal entry ++ member (codes "by") by ++ member (codes "at") at

-- its seal: of the seal before it and of these bytes
unfoldable pub seal_of : TrailEnd → Said → List ℕ
seal_of e said = sha256 (e.seal ++ sealed_text e said)

-- the whole line, without its newline
unfoldable pub line_text : TrailEnd → Said → List ℕ
line_text e said = sealed_text e said ++ codes ",\"seal\":\"" ++ encode_lower (seal_of e said) ++ codes "\"}"

-- ---- lines, one after another

-- it may stand there: one that is void stands behind one that tells an entry, and the numbers are of 32 bits
abbrev pub CanFollow : TrailEnd → Said → Type 0
CanFollow e (told at by entry task note) = e.count + 1 < 2 ^ 32
CanFollow e (void at) = (e.last_told ≡ true) × ((0 < e.count) × (e.count < 2 ^ 32))
CanFollow e (remark about text entry by at) = Unit {0}

-- where a trail ends behind it, by its seal
abbrev pub next_end : TrailEnd → List ℕ → Said → TrailEnd
next_end e seal (told at by entry task note) = record { seal = seal; count = e.count + 1; last_told = true }
next_end e seal (void at) = record { seal = seal; count = e.count - 1; last_told = false }
next_end e seal (remark about text entry by at) = record { seal = seal; count = e.count; last_told = false }

abbrev pub end_behind : TrailEnd → Said → TrailEnd
end_behind e said = next_end e (seal_of e said) said

abbrev pub end_of : TrailEnd → List Said → TrailEnd
end_of e [] = e
end_of e (said ∷ more) = end_of (end_behind e said) more

abbrev pub trail_text : TrailEnd → List Said → List ℕ
trail_text e [] = []
trail_text e (said ∷ more) = line_text e said ++ 10 ∷ trail_text (end_behind e said) more

abbrev pub AreInOrder : TrailEnd → List Said → Type 0
AreInOrder e [] = Unit {0}
AreInOrder e (said ∷ more) = CanFollow e said × AreInOrder (end_behind e said) more

-- the file says just this, from there on
pub record Says (e : TrailEnd) (saying : List Said) (file : List ℕ) : Type 0 where
  pub in_order : AreInOrder e saying
  pub lines : HasLines (trail_text e saying) file
