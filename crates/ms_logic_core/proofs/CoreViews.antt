-- The mathematical tree of each form of the code's core formulas, for the crates that build them or take them apart.
use Rattle.std.proofs.Common.{◌≡◌, ℕ, Bool, List, map, Some, None, ap, sym, ◌∙◌}
use Rattle.ms_logic.specs.declared.mode.Order.{Order}
use Rattle.ms_logic.specs.declared.mode.Quant.{Quant}
use Rattle.ms_logic_core.specs.declared.core_formula.Basic.{Basic}
use Rattle.ms_logic_core.specs.declared.core_formula.Core.{Core}
use Rattle.ms_logic_core.specs.declared.core_formula.Core.TheVariants as core
use Rattle.ms_logic_core.specs.declared.core_formula.Core.TheOpen.{Core-F}
use Rattle.ms_logic_core.specs.declared.core_formula.Core.TheFolds.{fold-roll-Core}
use Rattle.ms_logic_core.specs.CoreForm as c

pub core_form_of-True : c.core_form_of core.True ≡ c.truth
core_form_of-True = ap c.core_form_of (sym core.rolls-True) ∙ fold-roll-Core c.CoreForm c.core_form_at Core-F.True

pub core_form_of-False : c.core_form_of core.False ≡ c.falsity
core_form_of-False = ap c.core_form_of (sym core.rolls-False) ∙ fold-roll-Core c.CoreForm c.core_form_at Core-F.False

pub core_form_of-Basic : (b : Basic) → c.core_form_of (core.Basic b) ≡ c.basic b
core_form_of-Basic b = ap c.core_form_of (sym (core.rolls-Basic b)) ∙ fold-roll-Core c.CoreForm c.core_form_at (Core-F.Basic b)

pub core_form_of-Not : (f : Core) → c.core_form_of (core.Not f) ≡ c.negation (c.core_form_of f)
core_form_of-Not f = ap c.core_form_of (sym (core.rolls-Not f)) ∙ fold-roll-Core c.CoreForm c.core_form_at (Core-F.Not f)

pub core_form_of-And : (fs : List Core) → c.core_form_of (core.And fs) ≡ c.conjunction (c.core_forms (map c.core_form_of fs))
core_form_of-And fs = ap c.core_form_of (sym (core.rolls-And fs)) ∙ fold-roll-Core c.CoreForm c.core_form_at (Core-F.And fs)

pub core_form_of-Or : (fs : List Core) → c.core_form_of (core.Or fs) ≡ c.disjunction (c.core_forms (map c.core_form_of fs))
core_form_of-Or fs = ap c.core_form_of (sym (core.rolls-Or fs)) ∙ fold-roll-Core c.CoreForm c.core_form_at (Core-F.Or fs)

pub core_form_of-Implies : (f g : Core) → c.core_form_of (core.Implies f g) ≡ c.implication (c.core_form_of f) (c.core_form_of g)
core_form_of-Implies f g = ap c.core_form_of (sym (core.rolls-Implies f g)) ∙ fold-roll-Core c.CoreForm c.core_form_at (Core-F.Implies f g)

pub core_form_of-Iff : (f g : Core) → c.core_form_of (core.Iff f g) ≡ c.equivalence (c.core_form_of f) (c.core_form_of g)
core_form_of-Iff f g = ap c.core_form_of (sym (core.rolls-Iff f g)) ∙ fold-roll-Core c.CoreForm c.core_form_at (Core-F.Iff f g)

pub core_form_of-Restrict : (f : Core) → c.core_form_of (core.Restrict f) ≡ c.restrict (c.core_form_of f)
core_form_of-Restrict f = ap c.core_form_of (sym (core.rolls-Restrict f)) ∙ fold-roll-Core c.CoreForm c.core_form_at (Core-F.Restrict f)

pub core_form_of-Import : (i : ℕ) (xs : List ℕ) → c.core_form_of (core.Import i xs) ≡ c.imported i xs
core_form_of-Import i xs = ap c.core_form_of (sym (core.rolls-Import i xs)) ∙ fold-roll-Core c.CoreForm c.core_form_at (Core-F.Import i xs)

pub core_form_of-Bind-none : (q : Quant) (o : Order) (x : ℕ) (f : Core) → c.core_form_of (core.Bind q o x None f) ≡ c.quantified q o x c.unrestricted (c.core_form_of f)
core_form_of-Bind-none q o x f = ap c.core_form_of (sym (core.rolls-Bind q o x None f)) ∙ fold-roll-Core c.CoreForm c.core_form_at (Core-F.Bind q o x None f)

pub core_form_of-Bind-some : (q : Quant) (o : Order) (x : ℕ) (d f : Core) → c.core_form_of (core.Bind q o x (Some d) f) ≡ c.quantified q o x (c.restricted (c.core_form_of d)) (c.core_form_of f)
core_form_of-Bind-some q o x d f = ap c.core_form_of (sym (core.rolls-Bind q o x (Some d) f)) ∙ fold-roll-Core c.CoreForm c.core_form_at (Core-F.Bind q o x (Some d) f)
