-- The generated sources: a chain of inclusions, which is valid because a finite set leaves greater numbers free.
use Rattle.std.specs.Prelude.{ℕ, zero, suc, ◌+◌, ◌-◌, ◌≤◌, List, [], ◌∷◌, ◌++◌, codes}
use Rattle.std.specs.Fmt.{decimal}

-- the name of a set
abbrev pub name_of : ℕ → List ℕ
name_of n = codes "P" ++ decimal n

-- P0, P1, .. up to the set with this number
abbrev pub names_text : ℕ → List ℕ
names_text zero = name_of 0
names_text (suc n) = names_text n ++ codes ", " ++ name_of (n + 1)

-- & P0 sub P1 & P1 sub P2 .. up to it
abbrev pub links_text : ℕ → List ℕ
links_text zero = []
links_text (suc n) = links_text n ++ codes " & " ++ name_of n ++ codes " sub " ++ name_of (n + 1)

-- the three declarations: the sets, that the first is within the last where each is within the next, and that the last leaves numbers free
abbrev pub sets_line : ℕ → List ℕ
sets_line last = codes "var2 " ++ names_text last ++ codes ";" ++ 10 ∷ []

abbrev pub chain_line : ℕ → List ℕ
chain_line last = codes "true" ++ links_text last ++ codes " => P0 sub " ++ name_of last ++ codes ";" ++ 10 ∷ []

abbrev pub free_line : ℕ → List ℕ
free_line last = codes "all1 x: ex1 y: x < y & y notin " ++ name_of last ++ codes ";" ++ 10 ∷ []

-- the source in which this set is the last
abbrev pub source_text : ℕ → List ℕ
source_text last = codes "ws1s;" ++ 10 ∷ [] ++ sets_line last ++ chain_line last ++ free_line last

-- the source of so many sets
abbrev pub generated : ℕ → List ℕ
generated number = source_text (number - 1)

-- a number of a generated source
pub record IsNumber (number : ℕ) : Type 0 where
  pub some : 1 ≤ number
  pub small : number ≤ 2000
