-- No node is both Yes and No, and its value follows from those of its children.
use Rattle.std.proofs.Common.{◌≡◌, ⊎_elim, List, [], ◌∷◌, ℕ, zero, suc, Option, Some, None, sym, subst}
use Rattle.ms_dag.specs.declared.node.Child.{Child}
use Rattle.ms_dag.specs.declared.node.DagNode.{DagNode}
use Rattle.ms_dag.specs.declared.node.DagNode.TheVariants.{True, False, Basic, Not, And, Or, Implies, Iff, Restrict, Import, Bind}
use Rattle.ms_dag.specs.declared.node.Entry.{Entry}
use Rattle.ms_dag.specs.Laws.{ChildrenComeFirst}
use Rattle.ms_dag.specs.Unfolds.{node_at}
use Rattle.ms_dag.specs.Values.{Verdict, EachIs, SomeIs, YesAt, NoAt, YesBelow, NoBelow, NodeYes, NodeNo}
use Rattle.ms_dag.proofs.NodesByChildren.{node_has_value_by_children}
use Rattle.ms_logic.specs.declared.mode.Mode.{Mode}
use Rattle.ms_logic.specs.declared.mode.Quant.TheVariants.{Ex, All}
use Rattle.ms_logic_words.specs.declared.sign.Sign.{Sign}
use Rattle.ms_logic.specs.Assignment.{Env, Variable}
use Rattle.ms_logic.specs.Truth.{Import as Imported}
use Rattle.ms_dfa.specs.Values.{IsMeaning, meaning_by}
use Rattle.ms_dfa.proofs.ValuesLemmas.{IsMeaning-by}
use Rattle.ms_project.proofs.AlwaysLemmas.{sign_moves}
use Rattle.ms_build.specs.Built.{ChildYes, ChildNo, child_meaning, node_meaning}

-- verdicts that exclude each other
abbrev Exclusive : Verdict → Verdict → Type 0
Exclusive Yes No = (j : ℕ) (e : Env) → Yes j e → No j e → ⊥

module _ (imports : List Imported) (Yes No : Verdict) (never : Exclusive Yes No) where
  none_is : (cs : List Child) (e : Env) → EachIs Yes cs e → SomeIs No cs e → ⊥
  none_is [] e each some = some
  none_is (c ∷ cs) e each some = ⊎_elim (λ here. never c.node _ each.0 here) (λ there. none_is cs e each.1 there) some

  none_is_not : (cs : List Child) (e : Env) → SomeIs Yes cs e → EachIs No cs e → ⊥
  none_is_not [] e some each = some
  none_is_not (c ∷ cs) e some each = ⊎_elim (λ here. never c.node _ here each.0) (λ there. none_is_not cs e there each.1) some

  never_at : (node : Option DagNode) (e : Env) → YesAt imports Yes No node e → NoAt imports Yes No node e → ⊥
  never_at None e holds fails = holds
  never_at (Some True) e holds fails = fails
  never_at (Some False) e holds fails = holds
  never_at (Some (Basic b)) e holds fails = fails holds
  never_at (Some (Not c)) e holds fails = never c.node _ fails holds
  never_at (Some (And cs)) e holds fails = none_is cs e holds fails.1
  never_at (Some (Or cs)) e holds fails = none_is_not cs e holds.1 fails
  never_at (Some (Implies c d)) e holds fails = ⊎_elim (λ left. never c.node _ fails.0 left) (λ right. never d.node _ right fails.1) holds.2
  never_at (Some (Iff c d)) e holds fails =
      ⊎_elim (λ both. ⊎_elim (λ second. never d.node _ both.1 second.1) (λ first. never c.node _ both.0 first.0) fails)
      (λ both. ⊎_elim (λ second. never c.node _ second.0 both.0) (λ first. never d.node _ first.1 both.1) fails) holds
  never_at (Some (Restrict c)) e holds fails = fails
  never_at (Some (Import i xs)) e holds fails = cc
  never_at (Some (Bind Ex o x d c)) e holds fails = fails.0 holds.0 holds.1 holds.2
  never_at (Some (Bind All o x d c)) e holds fails = holds.0 fails.0 fails.1 fails.2

module _ (imports : List Imported) (entries : List Entry) where
  never_below : (n : ℕ) → Exclusive (λ j e. YesBelow imports entries n j e) (λ j e. NoBelow imports entries n j e)
  never_below zero j e holds fails = holds
  never_below (suc n) j e holds fails =
      never_at imports (λ j there. YesBelow imports entries n j there) (λ j there. NoBelow imports entries n j there) (never_below n) (node_at entries j) e holds fails

  pub node_never_both : (i : ℕ) (e : Env) → NodeYes imports entries i e → NodeNo imports entries i e → ⊥
  node_never_both i e holds fails = never_below (suc i) i e holds fails

  pub IsMeaning-child : (mode : Mode) (variables : List Variable) (child : Child) → IsMeaning mode variables (child_meaning imports entries child)
  IsMeaning-child mode variables child =
      IsMeaning-by mode variables (ChildYes imports entries child) (ChildNo imports entries child) (λ e assigned holds fails. node_never_both child.node _ holds fails)

  -- what is right by the values of the children is right for the node
  pub node_from_children : ChildrenComeFirst entries → (i : ℕ) (node : DagNode) → node_at entries i ≡ Some node → (e : Env) (sign : Sign)
      → meaning_by (YesAt imports (NodeYes imports entries) (NodeNo imports entries) (Some node)) (NoAt imports (NodeYes imports entries) (NodeNo imports entries) (Some node)) e sign
      → node_meaning imports entries i e sign
  node_from_children first i node at e sign =
      let law = node_has_value_by_children imports entries i e first in
      let Here : Option DagNode → Type 0 = λ there. YesAt imports (NodeYes imports entries) (NodeNo imports entries) there e in
      let NotHere : Option DagNode → Type 0 = λ there. NoAt imports (NodeYes imports entries) (NodeNo imports entries) there e in
      sign_moves (YesAt imports (NodeYes imports entries) (NodeNo imports entries) (Some node)) (NoAt imports (NodeYes imports entries) (NodeNo imports entries) (Some node)) (NodeYes imports entries i)
      (NodeNo imports entries i) e (λ holds. law.0.1 (subst Here (sym at) holds)) (λ fails. law.1.1 (subst NotHere (sym at) fails)) (λ holds. subst Here at (law.0.0 holds))
      (λ fails. subst NotHere at (law.1.0 fails)) sign
