-- The names in the order of first sight, with what is held for each name.
use Rattle.std.specs.Prelude.{◌≡◌, ℕ, nat_lt, if◌then◌else◌, List, length, Option, Some, None}
use Rattle.ms_ltlf_parse.specs.Grammar.{Names}
use Rattle.ms_ltlf_parse.specs.Reading.{place}

-- the place of a name, where it is among the names
abbrev pub place_among : Names → List ℕ → Option ℕ
place_among names n = if nat_lt (place names n) (length names) then Some (place names n) else None

-- for each name its place is held
abbrev pub IsTable : (List ℕ → Option ℕ) → Names → Type 0
IsTable held names = (n : List ℕ) → held n ≡ place_among names n
