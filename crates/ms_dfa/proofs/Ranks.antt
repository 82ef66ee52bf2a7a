-- How many of the variables have a value, and where the value of a variable stands among the values.
use Rattle.std.proofs.Common.{◌≡◌, ℕ, ◌+◌, ◌<◌, Bool, true, false, if◌then◌else◌, List, [], ◌∷◌, ◌++◌, length, take, get_or, refl, ap, ◌∙◌}
use Rattle.std.proofs.lemmas.List.{map-append, take_more}
use Rattle.ms_logic.specs.declared.mode.Order.{Order}
use Rattle.ms_logic.specs.Assignment.{Variable}
use Rattle.ms_logic_words.specs.Content.{count_of}
use Rattle.ms_dfa.specs.declared.track.Track.{Track}
use Rattle.ms_dfa.specs.Automaton.{variable_of, variables_of}

-- a variable more, by whether it has a value
abbrev pub counted : Bool → ℕ → ℕ
counted test count = if test then count + 1 else count

-- two variables may be counted in either order
counted-swap : (one two : Bool) (count : ℕ) → counted one (counted two count) ≡ counted two (counted one count)
counted-swap true true count = refl
counted-swap true false count = refl
counted-swap false true count = refl
counted-swap false false count = refl

-- one variable more, at the end
count_of-append : (has_value : Order → Bool) (variables : List Variable) (v : Variable)
    → count_of has_value (variables ++ v ∷ []) ≡ counted (has_value v.order) (count_of has_value variables)
count_of-append has_value [] v = refl
count_of-append has_value (first ∷ more) v =
    ap (counted (has_value first.order)) (count_of-append has_value more v)
    ∙ counted-swap (has_value first.order) (has_value v.order) (count_of has_value more)

-- the first tracks, and one more
pub count_of-more : (has_value : Order → Bool) (tracks : List Track) (i : ℕ) (default : Track) → i < length tracks
    → count_of has_value (variables_of (take (i + 1) tracks))
    ≡ counted (has_value (get_or tracks i default).order) (count_of has_value (variables_of (take i tracks)))
count_of-more has_value tracks i default within =
    rw (take_more tracks i default within, map-append variable_of (take i tracks) (get_or tracks i default ∷ []))
    (count_of-append has_value (variables_of (take i tracks)) (variable_of (get_or tracks i default)))
