-- The size and the depth of a source, where each call counts with the body of its predicate.
use Rattle.std.specs.Prelude.{ℕ, ◌+◌, ◌==◌, max, if◌then◌else◌, List, [], ◌∷◌, ◌++◌, length}
use Rattle.ms_logic.specs.Tree.{Term, number_variable, numeral, plus, minus, minimum, maximum, SetTerm, set_variable, empty_set, whole, literal, pconst, union, intersection, difference, shift_up, shift_down, Terms, no_terms, more_terms}
use Rattle.ms_logic.specs.Tree.{Form, truth, falsity, truth_variable, negation, conjunction, disjunction, implication, equivalence, comparison, set_comparison, membership, emptiness, quantified, where_let, call, restrict, imported, exported, default_at, Forms, no_forms, more_forms, Restriction, unrestricted, restricted, Argument, truth_argument, number_argument, set_argument, Arguments, no_arguments, more_arguments, Declaration, Predicate}
use Rattle.ms_logic.specs.Truth.{Given}
use Rattle.ms_logic.specs.Verdict.{Problem}

pub record Extent : Type 0 where
  pub size : ℕ
  pub depth : ℕ

abbrev pub total_size : List Extent → ℕ
total_size [] = 0
total_size (part ∷ more) = part.size + total_size more

-- the greatest depth, and 0 where there is none
abbrev pub greatest_depth : List Extent → ℕ
greatest_depth [] = 0
greatest_depth (part ∷ more) = max part.depth (greatest_depth more)

-- a node above its parts: one more than the sum of their sizes, and than the greatest of their depths
abbrev pub above : List Extent → Extent
above parts = record { size = 1 + total_size parts; depth = 1 + greatest_depth parts }

abbrev pub alone : Extent
alone = above []

abbrev mutual
  pub extent_of_number : Term → Extent
  extent_of_number (number_variable x) = alone
  extent_of_number (numeral n) = alone
  extent_of_number (plus t n) = above (extent_of_number t ∷ [])
  extent_of_number (minus t n) = above (extent_of_number t ∷ [])
  extent_of_number (minimum s) = above (extent_of_set s ∷ [])
  extent_of_number (maximum s) = above (extent_of_set s ∷ [])

  pub extent_of_set : SetTerm → Extent
  extent_of_set (set_variable x) = alone
  extent_of_set empty_set = alone
  extent_of_set whole = alone
  extent_of_set (literal ts) = above (extents_of_elements ts)
  extent_of_set (pconst n) = alone
  extent_of_set (union s t) = above (extent_of_set s ∷ extent_of_set t ∷ [])
  extent_of_set (intersection s t) = above (extent_of_set s ∷ extent_of_set t ∷ [])
  extent_of_set (difference s t) = above (extent_of_set s ∷ extent_of_set t ∷ [])
  extent_of_set (shift_up s n) = above (extent_of_set s ∷ [])
  extent_of_set (shift_down s n) = above (extent_of_set s ∷ [])

  pub extents_of_elements : Terms → List Extent
  extents_of_elements no_terms = []
  extents_of_elements (more_terms t ts) = extent_of_number t ∷ extents_of_elements ts

-- the extents of predicates
pub record Extents : Type 0 where
  -- those of the parameters' restrictions and of the body, which a call has as parts besides its arguments
  pub called : ℕ → List Extent
  -- that of a default restriction's body
  pub default : ℕ → Extent

abbrev mutual
  pub extent_under : Extents → Form → Extent
  extent_under x truth = alone
  extent_under x falsity = alone
  extent_under x (truth_variable y) = alone
  extent_under x (negation f) = above (extent_under x f ∷ [])
  extent_under x (conjunction fs) = above (extents_of_each x fs)
  extent_under x (disjunction fs) = above (extents_of_each x fs)
  extent_under x (implication f g) = above (extent_under x f ∷ extent_under x g ∷ [])
  extent_under x (equivalence f g) = above (extent_under x f ∷ extent_under x g ∷ [])
  extent_under x (comparison r t u) = above (extent_of_number t ∷ extent_of_number u ∷ [])
  extent_under x (set_comparison r s t) = above (extent_of_set s ∷ extent_of_set t ∷ [])
  extent_under x (membership positive t s) = above (extent_of_number t ∷ extent_of_set s ∷ [])
  extent_under x (emptiness s) = above (extent_of_set s ∷ [])
  extent_under x (quantified q o y d f) = above (extents_of_restriction x d ++ extent_under x f ∷ [])
  extent_under x (where_let ys right_sides f) = above (extents_of_arguments x right_sides ++ extent_under x f ∷ [])
  extent_under x (call p given) = above (extents_of_arguments x given ++ x.called p)
  extent_under x (restrict f) = above (extent_under x f ∷ [])
  extent_under x (imported i) = alone
  extent_under x (exported i f) = above (extent_under x f ∷ [])
  extent_under x (default_at p y) = x.default p

  pub extents_of_each : Extents → Forms → List Extent
  extents_of_each x no_forms = []
  extents_of_each x (more_forms f fs) = extent_under x f ∷ extents_of_each x fs

  pub extents_of_restriction : Extents → Restriction → List Extent
  extents_of_restriction x unrestricted = []
  extents_of_restriction x (restricted d) = extent_under x d ∷ []

  pub extents_of_arguments : Extents → Arguments → List Extent
  extents_of_arguments x no_arguments = []
  extents_of_arguments x (more_arguments a more) = extent_of_argument x a ∷ extents_of_arguments x more

  pub extent_of_argument : Extents → Argument → Extent
  extent_of_argument x (truth_argument f) = extent_under x f
  extent_of_argument x (number_argument t) = extent_of_number t
  extent_of_argument x (set_argument s) = extent_of_set s

-- the extents of the restrictions of the list
abbrev pub extents_of_restrictions : Extents → List Declaration → List Extent
extents_of_restrictions x [] = []
extents_of_restrictions x (declared ∷ more) = extents_of_restriction x declared.restriction ++ extents_of_restrictions x more

-- one more predicate, by its number
abbrev pub extents_with : Extents → ℕ → Predicate → Extents
extents_with x number predicate = record {
  called = λ p. if p == number then extents_of_restrictions x predicate.parameters ++ extent_under x predicate.body ∷ [] else x.called p;
  default = λ p. if p == number then extent_under x predicate.body else x.default p;
}

abbrev pub no_extents : Extents
no_extents = record { called = λ p. []; default = λ p. alone }

-- the extents with these predicates, whose numbers go on from a count
abbrev pub extents_with_all : Extents → ℕ → List Predicate → Extents
extents_with_all x count [] = x
extents_with_all x count (first ∷ later) = extents_with_all (extents_with x count first) (count + 1) later

abbrev pub extents_of : List Predicate → Extents
extents_of predicates = extents_with_all no_extents 0 predicates

abbrev pub extent_of : Given → Form → Extent
extent_of given f = extent_under (extents_of given.predicates) f

-- the parts of a source: its formulas and the restrictions of its globals
abbrev pub parts_of_source : Problem → List Extent
parts_of_source problem =
    extents_of_restrictions (extents_of problem.given.predicates) problem.globals
    ++ extents_of_each (extents_of problem.given.predicates) problem.formulas

-- a global counts one more towards the size of a source, and nothing towards its depth
abbrev pub size_of_source : Problem → ℕ
size_of_source problem = (above (parts_of_source problem)).size + length problem.globals

abbrev pub depth_of_source : Problem → ℕ
depth_of_source problem = (above (parts_of_source problem)).depth
