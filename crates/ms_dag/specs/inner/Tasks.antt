-- What is left to do while a formula is shared, by its forms. The last task is done first.
use Rattle.std.specs.Prelude.{◌≡◌, ℕ, ◌+◌, ◌<◌, List, [], ◌∷◌, ◌++◌, map}
use Rattle.ms_logic.specs.declared.mode.Order.{Order}
use Rattle.ms_logic_core.specs.CoreForm.{CoreForm, truth, falsity, basic, negation, conjunction, disjunction, implication, equivalence, restrict, imported, quantified, CoreForms, no_forms, more_forms, CoreRestriction, unrestricted, restricted, core_form_of}
use Rattle.ms_logic_core.specs.Calls.{Calls, filled, filled_each}
use Rattle.ms_dag.specs.declared.node.Child.{Child}
use Rattle.ms_dag.specs.declared.node.Entry.{Entry}
use Rattle.ms_dag.specs.declared.tasks.Task.{Task}
use Rattle.ms_dag.specs.declared.tasks.Task.TheVariants.{Share, Each, Above}
use Rattle.ms_dag.specs.Imports.{ImportsBelow, EachImportsBelow}
use Rattle.ms_dag.specs.inner.Scope.{IsInScope, AreInScope, forms_of}
use Rattle.ms_dag.specs.inner.Shared.{IsSharedNow}

pub data Todo : Type 0 where
  -- the formula is to be shared
  share : (f : CoreForm) → Todo
  -- these are to be shared, one after the other
  each : (fs : CoreForms) → Todo
  -- the parts of the formula are shared, and the formula itself is to be
  above : (f : CoreForm) → Todo

abbrev pub todo_of : Task → Todo
todo_of (Share core) = share (core_form_of core.now)
todo_of (Each operands) = each (forms_of operands.now)
todo_of (Above core) = above (core_form_of core.now)

abbrev pub todo_of_each : List Task → List Todo
todo_of_each tasks = map todo_of tasks

-- the tasks by which the parts of a formula are shared, from left to right
abbrev pub plan_of_restriction : CoreRestriction → List Todo
plan_of_restriction unrestricted = []
plan_of_restriction (restricted d) = share d ∷ []

abbrev pub plan_of_parts : CoreForm → List Todo
plan_of_parts truth = []
plan_of_parts falsity = []
plan_of_parts (basic b) = []
plan_of_parts (negation f) = share f ∷ []
plan_of_parts (conjunction fs) = each fs ∷ []
plan_of_parts (disjunction fs) = each fs ∷ []
plan_of_parts (implication f g) = share g ∷ share f ∷ []
plan_of_parts (equivalence f g) = share g ∷ share f ∷ []
plan_of_parts (restrict f) = share f ∷ []
plan_of_parts (imported i xs) = []
plan_of_parts (quantified q o x d f) = share f ∷ plan_of_restriction d

-- and then the formula itself
abbrev pub plan_of : CoreForm → List Todo
plan_of f = above f ∷ plan_of_parts f

abbrev pub plan_of_each : CoreForms → List Todo
plan_of_each no_forms = []
plan_of_each (more_forms f fs) = each fs ∷ share f ∷ []

-- how many tasks it takes to share a formula, at most
abbrev mutual
  pub turns_of : CoreForm → ℕ
  turns_of truth = 2
  turns_of falsity = 2
  turns_of (basic b) = 2
  turns_of (negation f) = 2 + turns_of f
  turns_of (conjunction fs) = 2 + turns_of_each fs
  turns_of (disjunction fs) = 2 + turns_of_each fs
  turns_of (implication f g) = 2 + turns_of f + turns_of g
  turns_of (equivalence f g) = 2 + turns_of f + turns_of g
  turns_of (restrict f) = 2 + turns_of f
  turns_of (imported i xs) = 2
  turns_of (quantified q o x d f) = 2 + turns_of_restriction d + turns_of f

  pub turns_of_each : CoreForms → ℕ
  turns_of_each no_forms = 1
  turns_of_each (more_forms f fs) = 1 + turns_of f + turns_of_each fs

  pub turns_of_restriction : CoreRestriction → ℕ
  turns_of_restriction unrestricted = 0
  turns_of_restriction (restricted d) = turns_of d

abbrev pub turns_of_task : Todo → ℕ
turns_of_task (share f) = turns_of f
turns_of_task (each fs) = turns_of_each fs
turns_of_task (above f) = 1

abbrev pub turns_left : List Todo → ℕ
turns_left [] = 0
turns_left (task ∷ tasks) = turns_of_task task + turns_left tasks

-- the formulas of a list
abbrev pub listed : CoreForms → List CoreForm
listed no_forms = []
listed (more_forms f fs) = f ∷ listed fs

abbrev pub listed_restriction : CoreRestriction → List CoreForm
listed_restriction unrestricted = []
listed_restriction (restricted d) = d ∷ []

-- the formulas next below a formula, from left to right
abbrev pub parts_of : CoreForm → List CoreForm
parts_of truth = []
parts_of falsity = []
parts_of (basic b) = []
parts_of (negation f) = f ∷ []
parts_of (conjunction fs) = listed fs
parts_of (disjunction fs) = listed fs
parts_of (implication f g) = f ∷ g ∷ []
parts_of (equivalence f g) = f ∷ g ∷ []
parts_of (restrict f) = f ∷ []
parts_of (imported i xs) = []
parts_of (quantified q o x d f) = listed_restriction d ++ f ∷ []

-- what a task does to the list of formulas that are shared, where calls stand for core formulas
abbrev pub Does : Calls → Todo → List CoreForm → List CoreForm → Type 0
Does calls (share f) before after = after ≡ before ++ filled calls f ∷ []
Does calls (each fs) before after = after ≡ before ++ listed (filled_each calls fs)
Does calls (above f) before after =
    (others : List CoreForm) × (before ≡ others ++ parts_of (filled calls f)) × (after ≡ others ++ filled calls f ∷ [])

-- what all of them do, the last one first
abbrev pub LeadTo : Calls → List Todo → List CoreForm → List CoreForm → Type 0
LeadTo calls [] before after = before ≡ after
LeadTo calls (task ∷ tasks) before after = (mid : List CoreForm) × LeadTo calls tasks before mid × Does calls task mid after

-- each import has a smaller number than this one, which says nothing where it is none of 32 bits
abbrev pub CallsBelow : ℕ → CoreForm → Type 0
CallsBelow limit f = limit < 4294967296 → ImportsBelow limit f

abbrev pub EachCallsBelow : ℕ → CoreForms → Type 0
EachCallsBelow limit fs = limit < 4294967296 → EachImportsBelow limit fs

-- the formula is no import
abbrev pub IsNoImport : CoreForm → Type 0
IsNoImport (imported i xs) = ⊥
IsNoImport _ = Unit {0}

-- a task on formulas in some scope, with such imports
abbrev pub IsFit : Calls → List Order → ℕ → Todo → Type 0
IsFit calls orders limit (share f) = ((scope : List ℕ) × IsInScope orders scope (filled calls f)) × CallsBelow limit f
IsFit calls orders limit (each fs) = ((scope : List ℕ) × AreInScope orders scope (filled_each calls fs)) × EachCallsBelow limit fs
IsFit calls orders limit (above f) = ((scope : List ℕ) × IsInScope orders scope (filled calls f)) × IsNoImport f

abbrev pub AreFit : Calls → List Order → ℕ → List Todo → Type 0
AreFit calls orders limit [] = Unit {0}
AreFit calls orders limit (task ∷ tasks) = IsFit calls orders limit task × AreFit calls orders limit tasks

-- these formulas were shared one after the other, each in the graph that the one before it left
abbrev pub AreSharedInTurn : List Order → List Entry → List Entry → List CoreForm → List Child → Type 0
AreSharedInTurn orders old new [] [] = old ≡ new
AreSharedInTurn orders old new [] (child ∷ children) = ⊥
AreSharedInTurn orders old new (f ∷ fs) [] = ⊥
AreSharedInTurn orders old new (f ∷ fs) (child ∷ children) =
    (mid : List Entry) × IsSharedNow orders old mid f child × AreSharedInTurn orders mid new fs children

-- on the way to a formula: what is left to do ends in it alone
pub record IsUnderWay (calls : Calls) (orders : List Order) (limit : ℕ) (old new : List Entry) (goal : CoreForm) (tasks : List Todo) (parts : List Child) : Type 0 where
  pub forms : List CoreForm
  pub shared : AreSharedInTurn orders old new forms parts
  pub lead : LeadTo calls tasks forms (goal ∷ [])
  pub fit : AreFit calls orders limit tasks

-- the formula has got its node above those of its parts, which were the last
pub record IsPutAbove (orders : List Order) (old new : List Entry) (parts left : List Child) (f : CoreForm) : Type 0 where
  pub step : (before : List Entry) (others own : List Child) → parts ≡ others ++ own → AreSharedInTurn orders before old (parts_of f) own → (child : Child) × (left ≡ others ++ child ∷ []) × IsSharedNow orders before new f child

-- the formula is the child, whose node is above those of its parts, which were the last and are taken away
pub record IsMadeAbove (orders : List Order) (old new : List Entry) (parts left : List Child) (f : CoreForm) (child : Child) : Type 0 where
  pub step : (before : List Entry) (others own : List Child) → parts ≡ others ++ own → AreSharedInTurn orders before old (parts_of f) own → (left ≡ others) × IsSharedNow orders before new f child
