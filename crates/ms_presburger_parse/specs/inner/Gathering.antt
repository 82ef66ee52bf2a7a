-- How the free names of a formula are gathered: names are noted by their first places, but for those that are bound there.
use Rattle.std.specs.Prelude.{◌≡◌, ℕ, suc, zero, Bool, true, false, if◌then◌else◌, List, [], ◌∷◌, ◌++◌, filter, Option, Some, None}
use Rattle.std.specs.List.{list_any}
use Rattle.std.specs.Str.{bytes_eq}
use Rattle.indexmap.specs.IndexMap.{get_by_text}
use Rattle.ms_presburger_parse.specs.declared.free.Gathered.{Gathered}
use Rattle.ms_presburger_parse.specs.declared.free.Standing.{Standing}

-- how often a name stands in a list
abbrev pub count_of : List (List ℕ) → List ℕ → ℕ
count_of [] x = 0
count_of (y ∷ ys) x = if bytes_eq y x then suc (count_of ys x) else count_of ys x

abbrev pub is_zero : ℕ → Bool
is_zero zero = true
is_zero (suc n) = false

abbrev pub is_among : List (List ℕ) → List ℕ → Bool
is_among names x = list_any (λ y. bytes_eq y x) names

-- the names, and behind them one that is not among them
abbrev pub with_name : List (List ℕ) → List ℕ → List (List ℕ)
with_name names x = if is_among names x then names else names ++ x ∷ []

abbrev pub with_names : List (List ℕ) → List (List ℕ) → List (List ℕ)
with_names names [] = names
with_names names (x ∷ xs) = with_names (with_name names x) xs

-- what is known of a name: nothing at first
abbrev pub or_unknown : Option Standing → Standing
or_unknown None = record { bound = 0; noted = false }
or_unknown (Some standing) = standing

abbrev pub standing_in : Gathered → List ℕ → Standing
standing_in g x = or_unknown (get_by_text g.standings x)

-- how many quantifiers around bind a name
abbrev pub bound_in : Gathered → List ℕ → ℕ
bound_in g x = (standing_in g x).bound

-- of these places, those of names that no quantifier around binds
abbrev pub free_among : (List ℕ → ℕ) → List (List ℕ) → List (List ℕ)
free_among bound xs = filter (λ x. is_zero (bound x)) xs

-- what is known of names tells which have been noted
abbrev pub IsMarked : Gathered → Type 0
IsMarked g = (x : List ℕ) → (standing_in g x).noted ≡ is_among g.names x

-- the free ones among these places have been noted, and the same names are bound as before
pub record Gathers (before after : Gathered) (places : List (List ℕ)) : Type 0 where
  pub names : after.names ≡ with_names before.names (free_among (bound_in before) places)
  pub bound : (x : List ℕ) → bound_in after x ≡ bound_in before x
  pub marked : IsMarked after

-- names are bound so often as this, and none has been noted
pub record Binds (before after : Gathered) (often : List ℕ → ℕ) : Type 0 where
  pub names : after.names ≡ before.names
  pub bound : (x : List ℕ) → bound_in after x ≡ often x
  pub marked : IsMarked after
