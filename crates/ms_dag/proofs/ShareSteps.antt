-- Each form of a core formula: what is known of its parts when they stand in the graph, and that it stands there in the end.
use Rattle.std.proofs.Common.{◌≡◌, ℕ, ◌+◌, List, [], ◌∷◌, length, All, Contains, Some, None, ◌∙◌, ap}
use Rattle.std.proofs.lemmas.List.Elements.{All-weaker}
use Rattle.ms_logic_core.specs.declared.core_formula.Basic.{Basic as Relation}
use Rattle.ms_logic_core.specs.declared.core_formula.Core.{Core}
use Rattle.ms_logic_core.specs.declared.core_formula.Core.TheVariants as code
use Rattle.ms_logic.specs.declared.mode.Order.{Order}
use Rattle.ms_logic.specs.declared.mode.Quant.{Quant}
use Rattle.ms_logic.specs.Assignment.{Variable}
use Rattle.ms_logic_core.specs.CoreForm.{CoreForm, basic, negation, conjunction, disjunction, implication, equivalence, restrict, quantified, CoreForms, no_forms, more_forms, unrestricted, restricted, core_form_of}
use Rattle.ms_logic_core.specs.Operands.{variable, variables_of_basic}
use Rattle.ms_logic_core.proofs.CoreViews.{core_form_of-Basic, core_form_of-Not, core_form_of-And, core_form_of-Or, core_form_of-Implies, core_form_of-Iff, core_form_of-Restrict, core_form_of-Bind-none, core_form_of-Bind-some}
use Rattle.ms_logic_core.specs.Calls.{Calls, filled, filled_each}
use Rattle.ms_dag.specs.declared.node.Child.{Child}
use Rattle.ms_dag.specs.declared.node.DagNode.TheVariants.{Not, And, Or, Implies, Iff, Restrict, Bind}
use Rattle.ms_dag.specs.declared.node.Entry.{Entry}
use Rattle.ms_dag.specs.Dag.{places_in_maps}
use Rattle.ms_dag.specs.Laws.{HasOrder}
use Rattle.ms_dag.specs.Places.{AreBelow}
use Rattle.ms_dag.specs.inner.Scope.{IsInScope, forms_of}
use Rattle.ms_dag.specs.inner.Shared.{IsShared, IsSharedNow, AreShared, AreSharedNow, Grown, IsAbove}
use Rattle.ms_dag.proofs.Growth.{IsShared-kept, Grown-both}
use Rattle.ms_dag.proofs.SharedFormulas.{parts_scoped, none_greater, shared_negation, shared_restrict, shared_conjunction, shared_disjunction, shared_implication, shared_equivalence, shared_unrestricted, shared_restricted}

-- the formulas by their forms, with what imports stand for in their places

pub form-Basic : (calls : Calls) (core : Core) (b : Relation) → core ≡ code.Basic b → filled calls (core_form_of core) ≡ basic b
form-Basic calls core b is = ap (filled calls) (ap core_form_of is ∙ core_form_of-Basic b)

pub form-Not : (calls : Calls) (core f : Core) → core ≡ code.Not f → filled calls (core_form_of core) ≡ negation (filled calls (core_form_of f))
form-Not calls core f is = ap (filled calls) (ap core_form_of is ∙ core_form_of-Not f)

pub form-Restrict : (calls : Calls) (core f : Core) → core ≡ code.Restrict f → filled calls (core_form_of core) ≡ restrict (filled calls (core_form_of f))
form-Restrict calls core f is = ap (filled calls) (ap core_form_of is ∙ core_form_of-Restrict f)

pub form-And : (calls : Calls) (core : Core) (fs : List Core) → core ≡ code.And fs → filled calls (core_form_of core) ≡ conjunction (filled_each calls (forms_of fs))
form-And calls core fs is = ap (filled calls) (ap core_form_of is ∙ core_form_of-And fs)

pub form-Or : (calls : Calls) (core : Core) (fs : List Core) → core ≡ code.Or fs → filled calls (core_form_of core) ≡ disjunction (filled_each calls (forms_of fs))
form-Or calls core fs is = ap (filled calls) (ap core_form_of is ∙ core_form_of-Or fs)

pub form-Implies : (calls : Calls) (core f g : Core) → core ≡ code.Implies f g → filled calls (core_form_of core) ≡ implication (filled calls (core_form_of f)) (filled calls (core_form_of g))
form-Implies calls core f g is = ap (filled calls) (ap core_form_of is ∙ core_form_of-Implies f g)

pub form-Iff : (calls : Calls) (core f g : Core) → core ≡ code.Iff f g → filled calls (core_form_of core) ≡ equivalence (filled calls (core_form_of f)) (filled calls (core_form_of g))
form-Iff calls core f g is = ap (filled calls) (ap core_form_of is ∙ core_form_of-Iff f g)

pub form-Bind-none : (calls : Calls) (core : Core) (q : Quant) (o : Order) (x : ℕ) (f : Core) → core ≡ code.Bind q o x None f → filled calls (core_form_of core) ≡ quantified q o x unrestricted (filled calls (core_form_of f))
form-Bind-none calls core q o x f is = ap (filled calls) (ap core_form_of is ∙ core_form_of-Bind-none q o x f)

pub form-Bind-some : (calls : Calls) (core : Core) (q : Quant) (o : Order) (x : ℕ) (d f : Core) → core ≡ code.Bind q o x (Some d) f → filled calls (core_form_of core) ≡ quantified q o x (restricted (filled calls (core_form_of d))) (filled calls (core_form_of f))
form-Bind-some calls core q o x d f is = ap (filled calls) (ap core_form_of is ∙ core_form_of-Bind-some q o x d f)

-- shared parts

pub both_shared : (orders : List Order) (old mid new : List Entry) (f g : CoreForm) (left right : Child) → IsSharedNow orders old mid f left → IsSharedNow orders mid new g right →
    AreShared orders new (more_forms f (more_forms g no_forms)) (left ∷ right ∷ [])
both_shared orders old mid new f g left right first second = (IsShared-kept mid new second.grown.kept orders f left first.shared, (second.shared, tt))

pub basic_ordered : (orders : List Order) (scope : List ℕ) (b : Relation) → IsInScope orders scope (basic b) → All (HasOrder orders) (variables_of_basic b)
basic_ordered orders scope b scoped =
    All-weaker (λ (v : Variable). Contains scope v.name × HasOrder orders v) (HasOrder orders) (λ v both. both.1) (variables_of_basic b) scoped

-- none of their variables is greater than what is bound

pub body_greatest : (orders : List Order) (old new : List Entry) (scope : List ℕ) (q : Quant) (o : Order) (x : ℕ) (f : CoreForm) (part : Child) → IsInScope orders scope (quantified q o x unrestricted f) → IsSharedNow orders old new f part →
    AreBelow (x + 1) (places_in_maps (part ∷ []))
body_greatest orders old new scope q o x f part scoped now =
    none_greater scope (places_in_maps (part ∷ [])) x (parts_scoped orders new (more_forms f no_forms) (part ∷ []) (now.shared, tt) (x ∷ scope) (scoped.3, tt)) scoped.0

pub both_greatest : (orders : List Order) (old mid new : List Entry) (scope : List ℕ) (q : Quant) (o : Order) (x : ℕ) (d f : CoreForm) (first second : Child) → IsInScope orders scope (quantified q o x (restricted d) f) →
    IsSharedNow orders old mid d first → IsSharedNow orders mid new f second → AreBelow (x + 1) (places_in_maps (first ∷ second ∷ []))
both_greatest orders old mid new scope q o x d f first second scoped one two =
    none_greater scope (places_in_maps (first ∷ second ∷ [])) x
    (parts_scoped orders new (more_forms d (more_forms f no_forms)) (first ∷ second ∷ []) (both_shared orders old mid new d f first second one two) (x ∷ scope) (scoped.2, (scoped.3, tt))) scoped.0

-- that each form stands in the graph

module _ (orders : List Order) (old mid new : List Entry) (f : CoreForm) (part placed child : Child) (now : IsSharedNow orders old mid f part) where
  pub step_negation : IsAbove orders mid new [] (part ∷ []) (Not placed) child → IsSharedNow orders old new (negation f) child
  step_negation above = shared_negation orders old mid new f part placed child now.shared now.grown above

  pub step_restrict : IsAbove orders mid new [] (part ∷ []) (Restrict placed) child → IsSharedNow orders old new (restrict f) child
  step_restrict above = shared_restrict orders old mid new f part placed child now.shared now.grown above

  pub step_unrestricted : (q : Quant) (o : Order) (x : ℕ) → HasOrder orders (variable x o) → IsAbove orders mid new (x ∷ []) (part ∷ []) (Bind q o (length child.map) None placed) child → IsSharedNow orders old new (quantified q o x unrestricted f) child
  step_unrestricted q o x bound above = shared_unrestricted orders old mid new q o x child bound f part placed now.shared now.grown above

module _ (orders : List Order) (old mid new : List Entry) (fs : CoreForms) (parts placed : List Child) (child : Child) (now : AreSharedNow orders old mid fs parts) where
  pub step_conjunction : IsAbove orders mid new [] parts (And placed) child → IsSharedNow orders old new (conjunction fs) child
  step_conjunction above = shared_conjunction orders old mid new fs parts placed child now.shared now.grown above

  pub step_disjunction : IsAbove orders mid new [] parts (Or placed) child → IsSharedNow orders old new (disjunction fs) child
  step_disjunction above = shared_disjunction orders old mid new fs parts placed child now.shared now.grown above

module _ (orders : List Order) (old between mid new : List Entry) (f g : CoreForm) (left right one two child : Child) (first : IsSharedNow orders old between f left) (second : IsSharedNow orders between mid g right) where
  kept_first : IsShared orders mid f left
  kept_first = IsShared-kept between mid second.grown.kept orders f left first.shared

  both_grown : Grown old mid (left ∷ right ∷ [])
  both_grown = Grown-both old between mid (left ∷ []) (right ∷ []) first.grown second.grown

  pub step_implication : IsAbove orders mid new [] (left ∷ right ∷ []) (Implies one two) child → IsSharedNow orders old new (implication f g) child
  step_implication above = shared_implication orders old mid new f g left right one two child kept_first second.shared both_grown above

  pub step_equivalence : IsAbove orders mid new [] (left ∷ right ∷ []) (Iff one two) child → IsSharedNow orders old new (equivalence f g) child
  step_equivalence above = shared_equivalence orders old mid new f g left right one two child kept_first second.shared both_grown above

  pub step_restricted : (q : Quant) (o : Order) (x : ℕ) → HasOrder orders (variable x o) → IsAbove orders mid new (x ∷ []) (left ∷ right ∷ []) (Bind q o (length child.map) (Some one) two) child → IsSharedNow orders old new (quantified q o x (restricted f) g) child
  step_restricted q o x bound above = shared_restricted orders old mid new q o x child bound f g left right one two kept_first second.shared both_grown above
