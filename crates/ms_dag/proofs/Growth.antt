-- What holds in a graph holds when it has more nodes.
use Rattle.std.proofs.Common.{◌≡◌, ℕ, List, [], ◌∷◌, ◌++◌, length, map, slice_get, Contains, Option, Some, None, sym, ◌∙◌, ap, subst, inl, inr, ⊎_elim, arith}
use Rattle.std.proofs.lemmas.Bool.{cases_lt}
use Rattle.std.proofs.lemmas.List.{map-append}
use Rattle.std.proofs.lemmas.List.Elements.{All-weaker, Contains-append_left, Contains-append_right}
use Rattle.std.specs.Option.{option_map}
use Rattle.ms_arena.proofs.Lists.{slice_get-append_some}
use Rattle.ms_logic.specs.declared.mode.Order.{Order}
use Rattle.ms_logic_core.specs.CoreForm.{CoreForm, truth, falsity, basic, negation, conjunction, disjunction, implication, equivalence, restrict, imported, quantified, CoreForms, no_forms, more_forms, CoreRestriction, unrestricted, restricted}
use Rattle.ms_dag.specs.declared.node.Child.{Child}
use Rattle.ms_dag.specs.declared.node.DagNode.{DagNode}
use Rattle.ms_dag.specs.declared.node.Entry.{Entry}
use Rattle.ms_diagram.specs.Numbering.{Numbers}
use Rattle.ms_dag.specs.Dag.{children_of, orders_inside, IsChild, IsNode, AreNodes, IsUsed}
use Rattle.ms_dag.specs.inner.Shared.{IsShared, AreShared, Grown, Keeps}
use Rattle.ms_dag.specs.Unfolds.{node_at, Unfolds, UnfoldEach, UnfoldsIn}
use Rattle.ms_dag.proofs.KeyLemmas.{item_of}

pub Keeps-numbers : (old new : List Entry) (entry : Entry) → Numbers old new entry → Keeps old new
Keeps-numbers old new entry (inl same) i held there = ap (λ list. slice_get list i) same ∙ there
Keeps-numbers old new entry (inr added) i held there = ap (λ list. slice_get list i) added.1 ∙ slice_get-append_some old (entry ∷ []) i held there

module _ (old new : List Entry) (keeps : Keeps old new) where
  pub node_at-kept : (i : ℕ) (node : DagNode) → node_at old i ≡ Some node → node_at new i ≡ Some node
  node_at-kept i node at =
      let found = item_of (λ (e : Entry). e.node) (slice_get old i) node at in
      ap (option_map (λ (e : Entry). e.node)) (keeps i found.0 found.1) ∙ ap Some found.2

  mutual
    pub Unfolds-kept : (f : CoreForm) (names : List ℕ) (i : ℕ) → Unfolds old f names i → Unfolds new f names i
    Unfolds-kept truth names i u = node_at-kept i _ u
    Unfolds-kept falsity names i u = node_at-kept i _ u
    Unfolds-kept (basic b) names i u = (u.0, node_at-kept i _ u.1, u.2, u.3)
    Unfolds-kept (negation f) names i u = (u.0, node_at-kept i _ u.1, (u.2.0, Unfolds-kept f _ _ u.2.1))
    Unfolds-kept (conjunction fs) names i u = (u.0, node_at-kept i _ u.1, UnfoldEach-kept fs names i u.0 u.2)
    Unfolds-kept (disjunction fs) names i u = (u.0, node_at-kept i _ u.1, UnfoldEach-kept fs names i u.0 u.2)
    Unfolds-kept (implication f g) names i u =
        (u.0, u.1, node_at-kept i _ u.2, (u.3.0, Unfolds-kept f _ _ u.3.1), (u.4.0, Unfolds-kept g _ _ u.4.1))
    Unfolds-kept (equivalence f g) names i u =
        (u.0, u.1, node_at-kept i _ u.2, (u.3.0, Unfolds-kept f _ _ u.3.1), (u.4.0, Unfolds-kept g _ _ u.4.1))
    Unfolds-kept (restrict f) names i u = (u.0, node_at-kept i _ u.1, (u.2.0, Unfolds-kept f _ _ u.2.1))
    Unfolds-kept (imported n xs) names i u = (u.0, node_at-kept i _ u.1, u.2, u.3)
    Unfolds-kept (quantified q o x d f) names i u =
        (u.0, u.1, node_at-kept i _ u.2, u.3, UnfoldsIn-kept d _ i u.0 u.4, (u.5.0, Unfolds-kept f _ _ u.5.1))

    UnfoldEach-kept : (fs : CoreForms) (names : List ℕ) (i : ℕ) (children : List Child) → UnfoldEach old fs names i children → UnfoldEach new fs names i children
    UnfoldEach-kept no_forms names i [] u = tt
    UnfoldEach-kept no_forms names i (c ∷ cs) u = absurd u
    UnfoldEach-kept (more_forms f fs) names i [] u = absurd u
    UnfoldEach-kept (more_forms f fs) names i (c ∷ cs) u = ((u.0.0, Unfolds-kept f _ _ u.0.1), UnfoldEach-kept fs names i cs u.1)

    UnfoldsIn-kept : (d : CoreRestriction) (names : List ℕ) (i : ℕ) (domain : Option Child) → UnfoldsIn old d names i domain → UnfoldsIn new d names i domain
    UnfoldsIn-kept unrestricted names i None u = tt
    UnfoldsIn-kept unrestricted names i (Some c) u = absurd u
    UnfoldsIn-kept (restricted d) names i None u = absurd u
    UnfoldsIn-kept (restricted d) names i (Some c) u = (u.0, Unfolds-kept d _ _ u.1)

  IsChild-kept : (i : ℕ) (orders : List Order) (c : Child) → IsChild old i orders c → IsChild new i orders c
  IsChild-kept i orders c is = record { part = is.part; rising = is.rising; ordered = (is.ordered.0, keeps c.node _ is.ordered.1, is.ordered.2) }

  pub IsNode-kept : (i : ℕ) (entry : Entry) → IsNode old i entry → IsNode new i entry
  IsNode-kept i entry is = record {
    children = All-weaker (IsChild old i (orders_inside entry.node entry.orders)) (IsChild new i (orders_inside entry.node entry.orders))
        (IsChild-kept i (orders_inside entry.node entry.orders)) (children_of entry.node) is.children;
    own = is.own;
    free = is.free;
  }

  pub IsUsed-kept : (tops : List Child) (i : ℕ) → IsUsed old tops i → IsUsed new tops i
  IsUsed-kept tops i used = ⊎_elim inl (λ below. inr (below.0, below.1, keeps below.0 below.1 below.2, below.3)) used

  pub IsShared-kept : (orders : List Order) (f : CoreForm) (c : Child) → IsShared orders old f c → IsShared orders new f c
  IsShared-kept orders f c is = record {
    unfolds = Unfolds-kept f c.map c.node is.unfolds;
    rising = is.rising;
    ordered = (is.ordered.0, keeps c.node _ is.ordered.1, is.ordered.2);
    scoped = is.scoped;
  }

  pub AreShared-kept : (orders : List Order) (fs : CoreForms) (cs : List Child) → AreShared orders old fs cs → AreShared orders new fs cs
  AreShared-kept orders no_forms [] are = tt
  AreShared-kept orders no_forms (c ∷ cs) are = absurd are
  AreShared-kept orders (more_forms f fs) [] are = absurd are
  AreShared-kept orders (more_forms f fs) (c ∷ cs) are = (IsShared-kept orders f c are.0, AreShared-kept orders fs cs are.1)

-- a node that is used below some of these is used below all
used_left : (entries : List Entry) (ps qs : List Child) (i : ℕ) → IsUsed entries ps i → IsUsed entries (ps ++ qs) i
used_left entries ps qs i used =
    ⊎_elim (λ top. inl (subst (λ list. Contains list i) (sym (map-append (λ (c : Child). c.node) ps qs)) (Contains-append_left (map (λ (c : Child). c.node) ps) (map (λ (c : Child). c.node) qs) i top))) (λ below. inr below) used

used_right : (entries : List Entry) (ps qs : List Child) (i : ℕ) → IsUsed entries qs i → IsUsed entries (ps ++ qs) i
used_right entries ps qs i used =
    ⊎_elim (λ top. inl (subst (λ list. Contains list i) (sym (map-append (λ (c : Child). c.node) ps qs)) (Contains-append_right (map (λ (c : Child). c.node) ps) (map (λ (c : Child). c.node) qs) i top))) (λ below. inr below) used

pub Grown-none : (entries : List Entry) (tops : List Child) → AreNodes entries → Grown entries entries tops
Grown-none entries tops nodes = record {
  kept = λ i entry there. there;
  nodes = nodes;
  used = λ i from below. absurd (omega (arith, from, below));
}

pub Grown-both : (old mid new : List Entry) (ps qs : List Child) → Grown old mid ps → Grown mid new qs → Grown old new (ps ++ qs)
Grown-both old mid new ps qs first second = record {
  kept = λ i entry there. second.kept i entry (first.kept i entry there);
  nodes = second.nodes;
  used = λ i from below.
      ⊎_elim (λ within. used_left new ps qs i (IsUsed-kept mid new second.kept ps i (first.used i from within)))
      (λ past. used_right new ps qs i (second.used i past below)) (cases_lt i (length mid));
}
