use Rattle.std.proofs.Common.{◌≡◌, map, vec_len}
use Rattle.ms_logic.specs.View.{declaration_of, formula_of}
use Rattle.ms_names_rules.specs.inner.Binder.{quantified_over}
use Rattle.ms_names_typing.proofs.quantifier.quantifiers.Given as goal

-- the outer quantifiers that are left, round those that are made
abbrev pub invariant-loop-param : goal.invariant-loop-param
invariant-loop-param l =
    quantified_over l.quant (map declaration_of l.outer.items) (formula_of l.made)
    ≡ quantified_over l.quant (map declaration_of l.initial.outer.items) (formula_of l.initial.made)

abbrev pub decreases-loop-param : goal.decreases-loop-param
decreases-loop-param l = vec_len l.outer
