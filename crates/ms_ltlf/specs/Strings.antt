-- The source of M2L-Str that says what a formula of linear temporal logic says: a proposition is the set of its positions.
-- A formula is translated at a number variable, which stands for the position. What it binds has the numbers behind it.
use Rattle.std.specs.Prelude.{ℕ, ◌+◌}
use Rattle.ms_logic.specs.declared.mode.Order.TheVariants.{One}
use Rattle.ms_logic.specs.declared.mode.Quant.TheVariants.{Ex, All}
use Rattle.ms_logic.specs.declared.mode.Rel.TheVariants.{Equal, AtMost}
use Rattle.ms_logic.specs.Tree.{number_variable, numeral, plus, Form, comparison, quantified, unrestricted, restrict, Forms, no_forms, more_forms}
use Rattle.ms_logic.specs.Tree as string
use Rattle.ms_ltlf.specs.Tree.{Temporal, truth, falsity, proposition, brackets, negation, conjunction, disjunction, implication, equivalence, next, weak_next, eventually, always, until, release, Temporals, no_temporals, more_temporals}
use Rattle.ms_translation.specs.Parts.{is_in, less, three, two}

-- y = x + 1
abbrev pub follows : ℕ → ℕ → Form
follows x y = comparison Equal (number_variable y) (plus (number_variable x) 1)

-- x <= y
abbrev pub at_most : ℕ → ℕ → Form
at_most x y = comparison AtMost (number_variable x) (number_variable y)

abbrev pub exists : ℕ → Form → Form
exists x f = quantified Ex One x unrestricted f

abbrev pub every : ℕ → Form → Form
every x f = quantified All One x unrestricted f

-- f says so at some y with y = x + 1
abbrev pub next_at : ℕ → Form → Form
next_at x f = exists (x + 1) (string.conjunction (two (follows x (x + 1)) f))

abbrev pub weak_next_at : ℕ → Form → Form
weak_next_at x f = every (x + 1) (string.implication (follows x (x + 1)) f)

abbrev pub eventually_at : ℕ → Form → Form
eventually_at x f = exists (x + 1) (string.conjunction (two (at_most x (x + 1)) f))

abbrev pub always_at : ℕ → Form → Form
always_at x f = every (x + 1) (string.implication (at_most x (x + 1)) f)

-- z is from x on and before y
abbrev pub between : ℕ → Form
between x = string.conjunction (two (at_most x (x + 2)) (less (x + 2) (x + 1)))

-- f says so at every z from x on and before y
abbrev pub kept_at : ℕ → Form → Form
kept_at x f = every (x + 2) (string.implication (between x) f)

abbrev pub until_at : ℕ → Form → Form → Form
until_at x f g = exists (x + 1) (string.conjunction (three (at_most x (x + 1)) g (kept_at x f)))

-- f says so at some z from x on and before y
abbrev pub freed_at : ℕ → Form → Form
freed_at x f = exists (x + 2) (string.conjunction (three (at_most x (x + 2)) (less (x + 2) (x + 1)) f))

abbrev pub release_at : ℕ → Form → Form → Form
release_at x f g = every (x + 1) (string.implication (at_most x (x + 1)) (string.disjunction (two g (freed_at x f))))

-- what a formula says of the position for which a variable stands
abbrev mutual
  pub string_form : Temporal → ℕ → Form
  string_form truth x = string.truth
  string_form falsity x = string.falsity
  string_form (proposition p) x = is_in x p
  string_form (brackets f) x = string_form f x
  string_form (negation f) x = string.negation (string_form f x)
  string_form (conjunction fs) x = string.conjunction (string_forms fs x)
  string_form (disjunction fs) x = string.disjunction (string_forms fs x)
  string_form (implication f g) x = string.implication (string_form f x) (string_form g x)
  string_form (equivalence f g) x = string.equivalence (string_form f x) (string_form g x)
  string_form (next f) x = next_at x (string_form f (x + 1))
  string_form (weak_next f) x = weak_next_at x (string_form f (x + 1))
  string_form (eventually f) x = eventually_at x (string_form f (x + 1))
  string_form (always f) x = always_at x (string_form f (x + 1))
  string_form (until f g) x = until_at x (string_form f (x + 2)) (string_form g (x + 1))
  string_form (release f g) x = release_at x (string_form f (x + 2)) (string_form g (x + 1))

  pub string_forms : Temporals → ℕ → Forms
  string_forms no_temporals x = no_forms
  string_forms (more_temporals f fs) x = more_forms (string_form f x) (string_forms fs x)

-- restrict(ex1 x: x = x): there is a position
abbrev pub some_position : ℕ → Form
some_position x = restrict (exists x (comparison Equal (number_variable x) (number_variable x)))

-- ex1 x: x = 0 & S(f, x)
abbrev pub at_the_start : ℕ → Form → Form
at_the_start x f = exists x (string.conjunction (two (comparison Equal (number_variable x) (numeral 0)) f))
