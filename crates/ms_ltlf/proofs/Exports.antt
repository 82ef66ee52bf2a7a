-- A translation exports nothing.
use Rattle.std.proofs.Common.{ℕ, ◌+◌, refl}
use Rattle.ms_logic.specs.declared.mode.Order.TheVariants.{One}
use Rattle.ms_logic.specs.declared.mode.Quant.TheVariants.{Ex, All}
use Rattle.ms_logic.specs.declared.mode.Rel.{Rel}
use Rattle.ms_logic.specs.declared.mode.Rel.TheVariants.{Equal, Less, AtMost}
use Rattle.ms_logic.specs.Lists.{Each}
use Rattle.ms_logic.specs.Tree.{Form, Term, number_variable, numeral, plus, comparison}
use Rattle.ms_logic.specs.Tree as string
use Rattle.ms_ltlf.specs.Tree.{Temporal, truth, falsity, proposition, brackets, negation, conjunction, disjunction, implication, equivalence, next, weak_next, eventually, always, until, release, Temporals, no_temporals, more_temporals}
use Rattle.ms_ltlf.specs.Source.{string_formulas}
use Rattle.ms_ltlf.specs.Strings.{at_most, between, exists, every, follows, freed_at, kept_at, string_form, string_forms}
use Rattle.ms_translation.specs.Parts.{less, three, two}
use Rattle.ms_translation.proofs.Exports.{ExportsNothing, ExportNothing, none-in-none, none-in-more, none-in-two, none-in-three, none-in-negation, none-in-conjunction, none-in-disjunction, none-in-implication, none-in-equivalence, none-in-body}

none-in-comparison : (r : Rel) (t u : Term) → ExportsNothing (comparison r t u)
none-in-comparison r t u = record { numbers = refl; exports = refl; in_place = tt }

none-in-order : (x y : ℕ) → ExportsNothing (at_most x y)
none-in-order x y = none-in-comparison AtMost (number_variable x) (number_variable y)

none-before : (x y : ℕ) → ExportsNothing (less x y)
none-before x y = none-in-comparison Less (number_variable x) (number_variable y)

none-behind : (x y : ℕ) → ExportsNothing (follows x y)
none-behind x y = none-in-comparison Equal (number_variable y) (plus (number_variable x) 1)

-- at some position of a kind, and at each
none-in-some : (x : ℕ) (f g : Form) → ExportsNothing f → ExportsNothing g → ExportsNothing (exists x (string.conjunction (two f g)))
none-in-some x f g one other = none-in-body Ex One x (string.conjunction (two f g)) (none-in-conjunction (two f g) (none-in-two f g one other))

none-in-all-of : (x : ℕ) (f g h : Form) → ExportsNothing f → ExportsNothing g → ExportsNothing h → ExportsNothing (exists x (string.conjunction (three f g h)))
none-in-all-of x f g h one other third = none-in-body Ex One x (string.conjunction (three f g h)) (none-in-conjunction (three f g h) (none-in-three f g h one other third))

none-in-each : (x : ℕ) (f g : Form) → ExportsNothing f → ExportsNothing g → ExportsNothing (every x (string.implication f g))
none-in-each x f g one other = none-in-body All One x (string.implication f g) (none-in-implication f g one other)

none-kept : (x : ℕ) (f : Form) → ExportsNothing f → ExportsNothing (kept_at x f)
none-kept x f one =
    none-in-each (x + 2) (between x) f
    (none-in-conjunction (two (at_most x (x + 2)) (less (x + 2) (x + 1))) (none-in-two (at_most x (x + 2)) (less (x + 2) (x + 1)) (none-in-order x (x + 2)) (none-before (x + 2) (x + 1)))) one

none-freed : (x : ℕ) (f : Form) → ExportsNothing f → ExportsNothing (freed_at x f)
none-freed x f one = none-in-all-of (x + 2) (at_most x (x + 2)) (less (x + 2) (x + 1)) f (none-in-order x (x + 2)) (none-before (x + 2) (x + 1)) one

mutual
  exports-nothing : (f : Temporal) (x : ℕ) → ExportsNothing (string_form f x)
  exports-nothing truth x = record { numbers = refl; exports = refl; in_place = tt }
  exports-nothing falsity x = record { numbers = refl; exports = refl; in_place = tt }
  exports-nothing (proposition p) x = record { numbers = refl; exports = refl; in_place = tt }
  exports-nothing (brackets f) x = exports-nothing f x
  exports-nothing (negation f) x = none-in-negation (string_form f x) (exports-nothing f x)
  exports-nothing (conjunction fs) x = none-in-conjunction (string_forms fs x) (export-nothing fs x)
  exports-nothing (disjunction fs) x = none-in-disjunction (string_forms fs x) (export-nothing fs x)
  exports-nothing (implication f g) x = none-in-implication (string_form f x) (string_form g x) (exports-nothing f x) (exports-nothing g x)
  exports-nothing (equivalence f g) x = none-in-equivalence (string_form f x) (string_form g x) (exports-nothing f x) (exports-nothing g x)
  exports-nothing (next f) x = none-in-some (x + 1) (follows x (x + 1)) (string_form f (x + 1)) (none-behind x (x + 1)) (exports-nothing f (x + 1))
  exports-nothing (weak_next f) x = none-in-each (x + 1) (follows x (x + 1)) (string_form f (x + 1)) (none-behind x (x + 1)) (exports-nothing f (x + 1))
  exports-nothing (eventually f) x = none-in-some (x + 1) (at_most x (x + 1)) (string_form f (x + 1)) (none-in-order x (x + 1)) (exports-nothing f (x + 1))
  exports-nothing (always f) x = none-in-each (x + 1) (at_most x (x + 1)) (string_form f (x + 1)) (none-in-order x (x + 1)) (exports-nothing f (x + 1))
  exports-nothing (until f g) x =
      let kept = kept_at x (string_form f (x + 2)) in
      none-in-all-of (x + 1) (at_most x (x + 1)) (string_form g (x + 1)) kept (none-in-order x (x + 1)) (exports-nothing g (x + 1)) (none-kept x (string_form f (x + 2)) (exports-nothing f (x + 2)))
  exports-nothing (release f g) x =
      let there = string_form g (x + 1) in
      let freed = freed_at x (string_form f (x + 2)) in
      none-in-each (x + 1) (at_most x (x + 1)) (string.disjunction (two there freed)) (none-in-order x (x + 1))
      (none-in-disjunction (two there freed) (none-in-two there freed (exports-nothing g (x + 1)) (none-freed x (string_form f (x + 2)) (exports-nothing f (x + 2)))))

  export-nothing : (fs : Temporals) (x : ℕ) → ExportNothing (string_forms fs x)
  export-nothing no_temporals x = none-in-none
  export-nothing (more_temporals f fs) x = none-in-more (string_form f x) (string_forms fs x) (exports-nothing f x) (export-nothing fs x)

-- nor does its source
pub none-exported : (f : Temporal) (x : ℕ) → Each ExportsNothing (string_formulas x f)
none-exported f x =
    let first = comparison Equal (number_variable x) (numeral 0) in
    let whole = none-in-some x first (string_form f x) (none-in-comparison Equal (number_variable x) (numeral 0)) (exports-nothing f x) in
    (record { numbers = refl; exports = refl; in_place = (refl, tt) }, (whole, tt))
