-- Formulas of linear temporal logic on finite traces (De Giacomo and Vardi, 2013) as mathematical trees. Propositions go by
-- their numbers.
use Rattle.std.specs.Prelude.{ℕ, suc, ◌+◌, ◌<◌, max}

mutual
  pub data Temporal : Type 0 where
    truth : Temporal
    falsity : Temporal
    proposition : (p : ℕ) → Temporal
    brackets : (f : Temporal) → Temporal
    negation : (f : Temporal) → Temporal
    conjunction : (fs : Temporals) → Temporal
    disjunction : (fs : Temporals) → Temporal
    implication : (f g : Temporal) → Temporal
    equivalence : (f g : Temporal) → Temporal
    next : (f : Temporal) → Temporal
    weak_next : (f : Temporal) → Temporal
    eventually : (f : Temporal) → Temporal
    always : (f : Temporal) → Temporal
    until : (f g : Temporal) → Temporal
    release : (f g : Temporal) → Temporal

  pub data Temporals : Type 0 where
    no_temporals : Temporals
    more_temporals : (f : Temporal) (fs : Temporals) → Temporals

-- how deep the parts of a formula stand in one another; a formula without parts has depth 1, and brackets count
abbrev mutual
  pub depth : Temporal → ℕ
  depth truth = 1
  depth falsity = 1
  depth (proposition p) = 1
  depth (brackets f) = suc (depth f)
  depth (negation f) = suc (depth f)
  depth (conjunction fs) = suc (depth_of_all fs)
  depth (disjunction fs) = suc (depth_of_all fs)
  depth (implication f g) = suc (max (depth f) (depth g))
  depth (equivalence f g) = suc (max (depth f) (depth g))
  depth (next f) = suc (depth f)
  depth (weak_next f) = suc (depth f)
  depth (eventually f) = suc (depth f)
  depth (always f) = suc (depth f)
  depth (until f g) = suc (max (depth f) (depth g))
  depth (release f g) = suc (max (depth f) (depth g))

  pub depth_of_all : Temporals → ℕ
  depth_of_all no_temporals = 0
  depth_of_all (more_temporals f fs) = max (depth f) (depth_of_all fs)

-- how many parts a formula has, with itself
abbrev mutual
  pub size : Temporal → ℕ
  size truth = 1
  size falsity = 1
  size (proposition p) = 1
  size (brackets f) = suc (size f)
  size (negation f) = suc (size f)
  size (conjunction fs) = suc (size_of_all fs)
  size (disjunction fs) = suc (size_of_all fs)
  size (implication f g) = suc (size f + size g)
  size (equivalence f g) = suc (size f + size g)
  size (next f) = suc (size f)
  size (weak_next f) = suc (size f)
  size (eventually f) = suc (size f)
  size (always f) = suc (size f)
  size (until f g) = suc (size f + size g)
  size (release f g) = suc (size f + size g)

  pub size_of_all : Temporals → ℕ
  size_of_all no_temporals = 0
  size_of_all (more_temporals f fs) = size f + size_of_all fs

-- each proposition of a formula has a number below a count
abbrev mutual
  pub IsOver : ℕ → Temporal → Type 0
  IsOver count truth = Unit {0}
  IsOver count falsity = Unit {0}
  IsOver count (proposition p) = p < count
  IsOver count (brackets f) = IsOver count f
  IsOver count (negation f) = IsOver count f
  IsOver count (conjunction fs) = AreOver count fs
  IsOver count (disjunction fs) = AreOver count fs
  IsOver count (implication f g) = IsOver count f × IsOver count g
  IsOver count (equivalence f g) = IsOver count f × IsOver count g
  IsOver count (next f) = IsOver count f
  IsOver count (weak_next f) = IsOver count f
  IsOver count (eventually f) = IsOver count f
  IsOver count (always f) = IsOver count f
  IsOver count (until f g) = IsOver count f × IsOver count g
  IsOver count (release f g) = IsOver count f × IsOver count g

  pub AreOver : ℕ → Temporals → Type 0
  AreOver count no_temporals = Unit {0}
  AreOver count (more_temporals f fs) = IsOver count f × AreOver count fs
