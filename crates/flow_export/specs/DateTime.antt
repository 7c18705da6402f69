-- A moment as XML Schema writes it (xs:dateTime), with a zone.
use Rattle.std.specs.Prelude.{ℕ, ◌+◌, ◌-◌, ◌*◌, ◌%◌, ◌==◌, ◌&&◌, ◌||◌, nat_lt, Bool, true, false, not, if◌then◌else◌, List, [], ◌∷◌, length, get_or, take, drop, codes}
use Rattle.std.specs.Char.{is_ascii_digit}

-- the byte is what the mark of a shape says: a digit for a 0, else the same byte
abbrev pub fits : ℕ → ℕ → Bool
fits mark byte = if mark == 48 then is_ascii_digit byte else byte == mark

unfoldable pub has_shape : List ℕ → List ℕ → Bool
has_shape [] [] = true
has_shape [] (byte ∷ bytes) = false
has_shape (mark ∷ marks) [] = false
has_shape (mark ∷ marks) (byte ∷ bytes) = fits mark byte && has_shape marks bytes

-- the digit at a place, as a number
abbrev pub digit_at : List ℕ → ℕ → ℕ
digit_at text place = get_or text place 48 - 48

-- the number that two digits write
abbrev pub two_at : List ℕ → ℕ → ℕ
two_at text place = 10 * digit_at text place + digit_at text (place + 1)

abbrev pub year_of : List ℕ → ℕ
year_of text = 100 * two_at text 0 + two_at text 2

-- each fourth year is longer, but of the hundreds only each fourth
abbrev pub is_leap : ℕ → Bool
is_leap year = ((year % 4) == 0) && (not ((year % 100) == 0) || ((year % 400) == 0))

-- how many days a month has
abbrev pub days_in : ℕ → ℕ → ℕ
days_in year month =
    if (month == 4) || (month == 6) || (month == 9) || (month == 11) then 30
    else if month == 2 then (if is_leap year then 29 else 28) else 31

-- there is such a day: its year, month and day are at the places 0, 5 and 8
unfoldable pub is_day : List ℕ → Bool
is_day text =
    nat_lt 0 (year_of text) && nat_lt 0 (two_at text 5) && nat_lt (two_at text 5) 13 && nat_lt 0 (two_at text 8)
    && not (nat_lt (days_in (year_of text) (two_at text 5)) (two_at text 8))

-- there is such a time of a day: its hour, minute and second are at the places 11, 14 and 17
unfoldable pub is_time : List ℕ → Bool
is_time text = nat_lt (two_at text 11) 24 && nat_lt (two_at text 14) 60 && nat_lt (two_at text 17) 60

-- a zone by its hours and minutes, at most 14 hours from UTC
unfoldable pub is_offset : List ℕ → Bool
is_offset text =
    (has_shape (codes "+00:00") text || has_shape (codes "-00:00") text) && nat_lt (two_at text 4) 60
    && not (nat_lt 1400 (100 * two_at text 1 + two_at text 4))

unfoldable pub is_zone : List ℕ → Bool
is_zone text = has_shape (codes "Z") text || is_offset text

-- one digit or more, parts of a second, and a zone
unfoldable pub is_parts : List ℕ → Bool
is_parts [] = false
is_parts (byte ∷ bytes) = is_ascii_digit byte && (is_zone bytes || is_parts bytes)

-- what stands behind the seconds: parts of a second or none, and a zone
unfoldable pub is_rest : List ℕ → Bool
is_rest [] = false
is_rest (byte ∷ bytes) = if byte == 46 then is_parts bytes else is_zone (byte ∷ bytes)

abbrev pub is_date_time : List ℕ → Bool
is_date_time text =
    if nat_lt (length text) 19 then false
    else has_shape (codes "0000-00-00T00:00:00") (take 19 text) && is_day text && is_time text && is_rest (drop 19 text)
