-- Formulas of linear arithmetic as mathematical trees. A name is its bytes.
use Rattle.std.specs.Prelude.{ℕ, suc, ◌+◌, max, not, List, [], ◌∷◌, ◌++◌, length, filter, flat_map}
use Rattle.std.specs.List.{list_any}
use Rattle.std.specs.Str.{bytes_eq}
use Rattle.ms_logic.specs.declared.mode.Quant.{Quant}
use Rattle.ms_logic.specs.declared.mode.Rel.{Rel}
use Rattle.ms_presburger.specs.declared.linear.Part.{Part}
use Rattle.ms_presburger.specs.declared.linear.Part.TheVariants.{Number, Var, Times}

abbrev pub Name : Type 0
Name = List ℕ

mutual
  pub data Arithmetic : Type 0 where
    truth : Arithmetic
    falsity : Arithmetic
    comparison : (r : Rel) (left right : List Part) → Arithmetic
    brackets : (f : Arithmetic) → Arithmetic
    negation : (f : Arithmetic) → Arithmetic
    conjunction : (fs : Arithmetics) → Arithmetic
    disjunction : (fs : Arithmetics) → Arithmetic
    implication : (f g : Arithmetic) → Arithmetic
    equivalence : (f g : Arithmetic) → Arithmetic
    quantified : (q : Quant) (xs : List (List ℕ)) (f : Arithmetic) → Arithmetic

  pub data Arithmetics : Type 0 where
    no_arithmetics : Arithmetics
    more_arithmetics : (f : Arithmetic) (fs : Arithmetics) → Arithmetics

-- How deep the parts of a formula stand in one another, brackets counted: `true`, `false` and a sum have the depth 1, so a
-- comparison has 2.
abbrev mutual
  pub depth : Arithmetic → ℕ
  depth truth = 1
  depth falsity = 1
  depth (comparison r left right) = 2
  depth (brackets f) = suc (depth f)
  depth (negation f) = suc (depth f)
  depth (conjunction fs) = suc (depth_of_all fs)
  depth (disjunction fs) = suc (depth_of_all fs)
  depth (implication f g) = suc (max (depth f) (depth g))
  depth (equivalence f g) = suc (max (depth f) (depth g))
  depth (quantified q xs f) = suc (depth f)

  pub depth_of_all : Arithmetics → ℕ
  depth_of_all no_arithmetics = 0
  depth_of_all (more_arithmetics f fs) = max (depth f) (depth_of_all fs)

-- how deep its connectives and bound names stand in one another; each name of a list counts, and brackets do not
abbrev mutual
  pub reach : Arithmetic → ℕ
  reach truth = 0
  reach falsity = 0
  reach (comparison r left right) = 0
  reach (brackets f) = reach f
  reach (negation f) = suc (reach f)
  reach (conjunction fs) = suc (reach_of_all fs)
  reach (disjunction fs) = suc (reach_of_all fs)
  reach (implication f g) = suc (max (reach f) (reach g))
  reach (equivalence f g) = suc (max (reach f) (reach g))
  reach (quantified q xs f) = length xs + reach f

  pub reach_of_all : Arithmetics → ℕ
  reach_of_all no_arithmetics = 0
  reach_of_all (more_arithmetics f fs) = max (reach f) (reach_of_all fs)

-- how many parts a formula has, with itself; a comparison counts one
abbrev mutual
  pub size : Arithmetic → ℕ
  size truth = 1
  size falsity = 1
  size (comparison r left right) = 1
  size (brackets f) = suc (size f)
  size (negation f) = suc (size f)
  size (conjunction fs) = suc (size_of_all fs)
  size (disjunction fs) = suc (size_of_all fs)
  size (implication f g) = suc (size f + size g)
  size (equivalence f g) = suc (size f + size g)
  size (quantified q xs f) = suc (size f)

  pub size_of_all : Arithmetics → ℕ
  size_of_all no_arithmetics = 0
  size_of_all (more_arithmetics f fs) = size f + size_of_all fs

-- how many parts of sums and bound names there are
abbrev mutual
  pub extent : Arithmetic → ℕ
  extent truth = 0
  extent falsity = 0
  extent (comparison r left right) = length left + length right
  extent (brackets f) = extent f
  extent (negation f) = extent f
  extent (conjunction fs) = extent_of_all fs
  extent (disjunction fs) = extent_of_all fs
  extent (implication f g) = extent f + extent g
  extent (equivalence f g) = extent f + extent g
  extent (quantified q xs f) = length xs + extent f

  pub extent_of_all : Arithmetics → ℕ
  extent_of_all no_arithmetics = 0
  extent_of_all (more_arithmetics f fs) = extent f + extent_of_all fs

abbrev pub names_in_part : Part → List (List ℕ)
names_in_part (Number n) = []
names_in_part (Var x) = x ∷ []
names_in_part (Times n x) = x ∷ []

abbrev pub names_in_sum : List Part → List (List ℕ)
names_in_sum parts = flat_map names_in_part parts

-- the names of a list that are none of these
abbrev pub except : List (List ℕ) → List (List ℕ) → List (List ℕ)
except bound names = filter (λ x. not (list_any (λ y. bytes_eq y x) bound)) names

-- the free places of names, in the order of the text: a bound name hides those of an outer one
abbrev mutual
  pub free_places : Arithmetic → List (List ℕ)
  free_places truth = []
  free_places falsity = []
  free_places (comparison r left right) = names_in_sum left ++ names_in_sum right
  free_places (brackets f) = free_places f
  free_places (negation f) = free_places f
  free_places (conjunction fs) = free_places_in_all fs
  free_places (disjunction fs) = free_places_in_all fs
  free_places (implication f g) = free_places f ++ free_places g
  free_places (equivalence f g) = free_places f ++ free_places g
  free_places (quantified q xs f) = except xs (free_places f)

  pub free_places_in_all : Arithmetics → List (List ℕ)
  free_places_in_all no_arithmetics = []
  free_places_in_all (more_arithmetics f fs) = free_places f ++ free_places_in_all fs

-- each name of a list once, by its first place
abbrev pub each_once : List (List ℕ) → List (List ℕ)
each_once [] = []
each_once (x ∷ xs) = x ∷ except (x ∷ []) (each_once xs)

-- the free names of a formula, by their first free places
abbrev pub free_names : Arithmetic → List (List ℕ)
free_names f = each_once (free_places f)
