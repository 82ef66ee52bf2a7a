-- The formulas right below a core formula, and the children that they are.
use Rattle.std.specs.Prelude.{ℕ, List, [], ◌∷◌, ◌++◌}
use Rattle.ms_dag.specs.declared.node.Child.{Child}
use Rattle.ms_dag.specs.declared.node.Entry.{Entry}
use Rattle.ms_dag.specs.Unfolds.{ReadAs, Unfolds}
use Rattle.ms_logic_core.specs.CoreForm.{CoreForm, truth, falsity, basic, negation, conjunction, disjunction, implication, equivalence, restrict, imported, quantified, CoreForms, no_forms, more_forms, CoreRestriction, unrestricted, restricted}

abbrev pub forms_of : CoreForms → List CoreForm
forms_of no_forms = []
forms_of (more_forms f fs) = f ∷ forms_of fs

abbrev pub restrictions_of : CoreRestriction → List CoreForm
restrictions_of unrestricted = []
restrictions_of (restricted d) = d ∷ []

abbrev pub parts_of : CoreForm → List CoreForm
parts_of truth = []
parts_of falsity = []
parts_of (basic b) = []
parts_of (negation f) = f ∷ []
parts_of (conjunction fs) = forms_of fs
parts_of (disjunction fs) = forms_of fs
parts_of (implication f g) = f ∷ g ∷ []
parts_of (equivalence f g) = f ∷ g ∷ []
parts_of (restrict f) = f ∷ []
parts_of (imported i xs) = []
parts_of (quantified q o x d f) = restrictions_of d ++ f ∷ []

-- the names of variables for the parts: those of the formula, and behind them that of the variable which it binds
abbrev pub names_inside : CoreForm → List ℕ → List ℕ
names_inside (quantified q o x d f) names = names ++ x ∷ []
names_inside f names = names

-- a child of node i, whose variables have these names, is a formula
abbrev pub IsFormula : List Entry → CoreForm → List ℕ → ℕ → Child → Type 0
IsFormula entries f names i child = ReadAs (λ given j. Unfolds entries f given j) names i child
