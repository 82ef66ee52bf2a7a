-- The imports of core formulas, and of the nodes of their graph, are among the first so many of a source.
use Rattle.std.specs.Prelude.{◌≡◌, ℕ, ◌<◌, List, slice_get, Some}
use Rattle.ms_logic_core.specs.declared.core_formula.Lowered.{Lowered}
use Rattle.ms_logic_core.specs.declared.core_formula.Root as code
use Rattle.ms_logic_core.specs.CoreForm.{CoreForm, core_form_of, truth, falsity, basic, negation, conjunction, disjunction, implication, equivalence, restrict, imported, quantified, CoreForms, no_forms, more_forms, CoreRestriction, unrestricted, restricted}
use Rattle.ms_logic_core.specs.Calls.{Calls, filled}
use Rattle.ms_dag.specs.declared.dag.Dag.{Dag}
use Rattle.ms_dag.specs.declared.node.DagNode.TheVariants.{Import}
use Rattle.ms_dag.specs.declared.node.Entry.{Entry}
use Rattle.ms_dag.specs.Share.{IsDagOf}

abbrev mutual
  pub ImportsBelow : ℕ → CoreForm → Type 0
  ImportsBelow count truth = Unit {0}
  ImportsBelow count falsity = Unit {0}
  ImportsBelow count (basic b) = Unit {0}
  ImportsBelow count (negation f) = ImportsBelow count f
  ImportsBelow count (conjunction fs) = EachImportsBelow count fs
  ImportsBelow count (disjunction fs) = EachImportsBelow count fs
  ImportsBelow count (implication f g) = ImportsBelow count f × ImportsBelow count g
  ImportsBelow count (equivalence f g) = ImportsBelow count f × ImportsBelow count g
  ImportsBelow count (restrict f) = ImportsBelow count f
  ImportsBelow count (imported i xs) = i < count
  ImportsBelow count (quantified q o x d f) = RestrictionImportsBelow count d × ImportsBelow count f

  pub EachImportsBelow : ℕ → CoreForms → Type 0
  EachImportsBelow count no_forms = Unit {0}
  EachImportsBelow count (more_forms f fs) = ImportsBelow count f × EachImportsBelow count fs

  pub RestrictionImportsBelow : ℕ → CoreRestriction → Type 0
  RestrictionImportsBelow count unrestricted = Unit {0}
  RestrictionImportsBelow count (restricted d) = ImportsBelow count d

abbrev pub RootsImportBelow : Calls → ℕ → List code.Root → Type 0
RootsImportBelow calls count roots = (k : ℕ) (root : code.Root) → slice_get roots k ≡ Some root → ImportsBelow count (filled calls (core_form_of root.core))

abbrev pub NodesImportBelow : ℕ → List Entry → Type 0
NodesImportBelow count entries = (place : ℕ) (entry : Entry) (i : ℕ) (xs : List ℕ) → slice_get entries place ≡ Some entry → entry.node ≡ Import i xs → i < count

-- where the core formulas of a source have such imports alone, with what theirs stand for in their places, so have the nodes of its graph
abbrev pub NodesImportAsRootsDo : Type 0
NodesImportAsRootsDo =
    (calls : Calls) (lowered : Lowered) (dag : Dag) (count : ℕ) → IsDagOf calls lowered dag → RootsImportBelow calls count lowered.roots → NodesImportBelow count dag.entries
