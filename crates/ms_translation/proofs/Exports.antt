-- Formulas in which no export stands.
use Rattle.std.proofs.Common.{◌≡◌, ℕ, List, [], ◌++◌, refl, ◌∙◌, ap}
use Rattle.ms_logic.specs.declared.mode.Order.{Order}
use Rattle.ms_logic.specs.declared.mode.Quant.{Quant}
use Rattle.ms_logic.specs.Tree.{Form, negation, conjunction, disjunction, implication, equivalence, quantified, unrestricted, Forms, no_forms, more_forms}
use Rattle.ms_logic_core.specs.Roots as roots
use Rattle.ms_names_rules.specs.Numbers.{exports_in, exports_in_all}
use Rattle.ms_names_checked.specs.Exports.{HasExportsInPlace, HaveExportsInPlace}
use Rattle.ms_translation.specs.Parts.{two, three}

-- none by its number, and none by what it exports
pub record ExportsNothing (f : Form) : Type 0 where
  pub numbers : exports_in f ≡ []
  pub exports : roots.exports_in f ≡ []
  pub in_place : HasExportsInPlace f

pub record ExportNothing (fs : Forms) : Type 0 where
  pub numbers : exports_in_all fs ≡ []
  pub exports : roots.exports_among fs ≡ []
  pub in_place : HaveExportsInPlace fs

pub none-of-two : {A : Type 0} (left right : List A) → left ≡ [] → right ≡ [] → left ++ right ≡ []
none-of-two left right one other = ap (λ es. es ++ right) one ∙ other

pub none-in-none : ExportNothing no_forms
none-in-none = record { numbers = refl; exports = refl; in_place = tt }

pub none-in-more : (f : Form) (fs : Forms) → ExportsNothing f → ExportNothing fs → ExportNothing (more_forms f fs)
none-in-more f fs one others = record {
  numbers = none-of-two (exports_in f) (exports_in_all fs) one.numbers others.numbers;
  exports = none-of-two (roots.exports_in f) (roots.exports_among fs) one.exports others.exports;
  in_place = (one.in_place, others.in_place);
}

pub none-in-two : (f g : Form) → ExportsNothing f → ExportsNothing g → ExportNothing (two f g)
none-in-two f g one other = none-in-more f (more_forms g no_forms) one (none-in-more g no_forms other none-in-none)

pub none-in-three : (f g h : Form) → ExportsNothing f → ExportsNothing g → ExportsNothing h → ExportNothing (three f g h)
none-in-three f g h one other third = none-in-more f (two g h) one (none-in-two g h other third)

pub none-in-negation : (f : Form) → ExportsNothing f → ExportsNothing (negation f)
none-in-negation f one = record { numbers = one.numbers; exports = one.exports; in_place = one.in_place }

pub none-in-conjunction : (fs : Forms) → ExportNothing fs → ExportsNothing (conjunction fs)
none-in-conjunction fs each = record { numbers = each.numbers; exports = each.exports; in_place = each.in_place }

pub none-in-disjunction : (fs : Forms) → ExportNothing fs → ExportsNothing (disjunction fs)
none-in-disjunction fs each = record { numbers = each.numbers; exports = each.exports; in_place = each.in_place }

pub none-in-implication : (f g : Form) → ExportsNothing f → ExportsNothing g → ExportsNothing (implication f g)
none-in-implication f g one other = record {
  numbers = none-of-two (exports_in f) (exports_in g) one.numbers other.numbers;
  exports = none-of-two (roots.exports_in f) (roots.exports_in g) one.exports other.exports;
  in_place = (one.in_place, other.in_place);
}

pub none-in-equivalence : (f g : Form) → ExportsNothing f → ExportsNothing g → ExportsNothing (equivalence f g)
none-in-equivalence f g one other = record {
  numbers = none-of-two (exports_in f) (exports_in g) one.numbers other.numbers;
  exports = none-of-two (roots.exports_in f) (roots.exports_in g) one.exports other.exports;
  in_place = (one.in_place, other.in_place);
}

pub none-in-body : (q : Quant) (o : Order) (x : ℕ) (f : Form) → ExportsNothing f → ExportsNothing (quantified q o x unrestricted f)
none-in-body q o x f one = record { numbers = one.numbers; exports = one.exports; in_place = (refl, one.in_place) }
