-- Lists of the code as lists of the typed trees.
use Rattle.std.specs.Prelude.{List, map}
use Rattle.ms_logic.specs.declared.formula.Arg.{Arg}
use Rattle.ms_logic.specs.declared.formula.Formula.{Formula}
use Rattle.ms_logic.specs.declared.term.Term1.{Term1}
use Rattle.ms_logic.specs.Tree.{Arguments, Forms, Terms}
use Rattle.ms_logic.specs.View.{arguments, argument_of, forms, formula_of, terms, term_of}

abbrev pub forms_of : List Formula → Forms
forms_of fs = forms (map formula_of fs)

abbrev pub terms_of : List Term1 → Terms
terms_of ts = terms (map term_of ts)

abbrev pub arguments_of : List Arg → Arguments
arguments_of given = arguments (map argument_of given)
