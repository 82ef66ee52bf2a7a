-- A child has the value of the operand that it is, and the connective of the children of a list that of their connective.
use Rattle.std.proofs.Common.{ℕ, List, [], ◌∷◌, refl, sym}
use Rattle.ms_build.specs.Built.{ChildNo, ChildYes, ManyNo, ManyYes, child_meaning, many_meaning}
use Rattle.ms_build.specs.declared.plan.Many.{Many}
use Rattle.ms_build.specs.declared.plan.Many.TheVariants.{All, Any}
use Rattle.ms_build.proofs.ChildLemmas.{value_through}
use Rattle.ms_dag.specs.Laws.{EachHasItsOrders, HaveTheirOrders}
use Rattle.ms_dag.specs.Places.{picked}
use Rattle.ms_dag.specs.Unfolds.{ReadAs, UnfoldEach, Unfolds}
use Rattle.ms_dag.specs.Values.{EachIs, EachIsDefined, NodeNo, NodeYes, Of, ReadsAs, SomeIs, Verdict, read_through}
use Rattle.ms_dag.specs.declared.node.Child.{Child}
use Rattle.ms_dag.specs.declared.node.Entry.{Entry}
use Rattle.ms_dag.proofs.NodeValues.{node_has_value_of_formula}
use Rattle.ms_dag.proofs.Readings.{ReadsAs-child}
use Rattle.ms_dag.proofs.SameVerdicts.{SameOfEach, SameVerdict, more_same, none_same, same_conjunction, same_disjunction, same_swapped}
use Rattle.ms_dfa.specs.Values.{core_meaning}
use Rattle.ms_logic.specs.Assignment.{Env}
use Rattle.ms_logic.specs.Truth.{Import}
use Rattle.ms_logic.specs.declared.mode.Order.{Order}
use Rattle.ms_logic_core.specs.CoreForm.{AllCoreDefined, AllCoreNo, AllCoreYes, CoreForm, CoreForms, CoreNo, CoreYes, SomeCoreNo, SomeCoreYes, more_forms, no_forms}
use Rattle.ms_logic_words.specs.declared.sign.Sign.{Sign}
use Rattle.ms_project.proofs.AlwaysLemmas.{sign_moves}
use Rattle.ms_build_steps.specs.Laws.{connect_of}

module _ (imports : List Import) (entries : List Entry) (orders : List Order) (names : List ℕ) (i : ℕ) where
  abbrev Y : Verdict
  Y = NodeYes imports entries

  abbrev N : Verdict
  N = NodeNo imports entries

  child_same : (c : Env) (f : CoreForm) (child : Child) → HaveTheirOrders imports orders f → ReadAs (λ given j. Unfolds entries f given j) names i child
      → SameVerdict (Of Y child (read_through names c)) (Of N child (read_through names c)) (CoreYes imports f c) (CoreNo imports f c)
  child_same c f child have read =
      let own : ReadsAs orders names (read_through names c) c = record { universe = refl; values = λ j o less held. sym (value_through o names c j) } in
      let law = node_has_value_of_formula imports entries orders f (picked names child.map) child.node (read_through child.map (read_through names c)) c have read.1
      (ReadsAs-child orders names child.map (read_through names c) c own read.0.within) in
      record { yes_to = λ h. law.0.0 h; yes_from = λ h. law.0.1 h; no_to = λ h. law.1.0 h; no_from = λ h. law.1.1 h }

  -- a child has the value of the formula that it is
  pub child_means : (f : CoreForm) (child : Child) → HaveTheirOrders imports orders f → ReadAs (λ given j. Unfolds entries f given j) names i child
      → (c : Env) (sign : Sign) → child_meaning imports entries child (read_through names c) sign → core_meaning imports f c sign
  child_means f child have read c sign =
      let same = child_same c f child have read in
      sign_moves (λ there. ChildYes imports entries child (read_through names there)) (λ there. ChildNo imports entries child (read_through names there)) (CoreYes imports f) (CoreNo imports f) c
      same.yes_to same.no_to same.yes_from same.no_from sign

  forms_same : (c : Env) (fs : CoreForms) (children : List Child) → EachHasItsOrders imports orders fs → UnfoldEach entries fs names i children
      → SameOfEach (EachIs Y children (read_through names c)) (EachIs N children (read_through names c)) (EachIsDefined Y N children (read_through names c)) (SomeIs Y children (read_through names c))
      (SomeIs N children (read_through names c)) (AllCoreYes imports fs c) (AllCoreNo imports fs c) (AllCoreDefined imports fs c) (SomeCoreYes imports fs c) (SomeCoreNo imports fs c)
      × SameOfEach (AllCoreYes imports fs c) (AllCoreNo imports fs c) (AllCoreDefined imports fs c) (SomeCoreYes imports fs c) (SomeCoreNo imports fs c)
      (EachIs Y children (read_through names c)) (EachIs N children (read_through names c)) (EachIsDefined Y N children (read_through names c)) (SomeIs Y children (read_through names c))
      (SomeIs N children (read_through names c))
  forms_same c no_forms [] have unfolds = (none_same, none_same)
  forms_same c no_forms (child ∷ children) have unfolds = absurd unfolds
  forms_same c (more_forms f fs) [] have unfolds = absurd unfolds
  forms_same c (more_forms f fs) (child ∷ children) have unfolds =
      let first = child_same c f child have.0 unfolds.0 in
      let others = forms_same c fs children have.1 unfolds.1 in
      (more_same first others.0, more_same (same_swapped first) others.1)

  many_same : (many : Many) (c : Env) (fs : CoreForms) (children : List Child) → EachHasItsOrders imports orders fs → UnfoldEach entries fs names i children
      → SameVerdict (ManyYes many imports entries children (read_through names c)) (ManyNo many imports entries children (read_through names c)) (CoreYes imports (connect_of many fs) c) (CoreNo imports (connect_of many fs) c)
  many_same All c fs children have unfolds = let each = forms_same c fs children have unfolds in same_conjunction each.0 each.1
  many_same Any c fs children have unfolds = let each = forms_same c fs children have unfolds in same_disjunction each.0 each.1

  pub many_means : (many : Many) (fs : CoreForms) (children : List Child) → EachHasItsOrders imports orders fs → UnfoldEach entries fs names i children
      → (c : Env) (sign : Sign) → many_meaning many imports entries children (read_through names c) sign → core_meaning imports (connect_of many fs) c sign
  many_means many fs children have unfolds c sign =
      let same = many_same many c fs children have unfolds in
      sign_moves (λ there. ManyYes many imports entries children (read_through names there)) (λ there. ManyNo many imports entries children (read_through names there)) (CoreYes imports (connect_of many fs))
      (CoreNo imports (connect_of many fs)) c same.yes_to same.no_to same.yes_from same.no_from sign
