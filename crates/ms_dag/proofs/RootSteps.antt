-- Roots, one after the other, and the graph of a source.
use Rattle.std.proofs.Common.{◌≡◌, ℕ, ◌+◌, ◌<◌, ◌≤◌, List, [], ◌∷◌, ◌++◌, length, take, get_or, All, sym, ◌∙◌, ap, subst, arith}
use Rattle.std.proofs.lemmas.List.{take_more, map-append, length-map}
use Rattle.std.proofs.lemmas.List.Elements.{All-nil, All-cons}
use Rattle.std.proofs.lemmas.Option.{slice_get_within}
use Rattle.ms_logic_core.specs.declared.core_formula.Root.{Root}
use Rattle.ms_logic.specs.declared.mode.Order.{Order}
use Rattle.ms_logic_core.specs.CoreForm.{core_form_of}
use Rattle.ms_logic_core.specs.Calls.{Calls, filled}
use Rattle.ms_dag.specs.declared.node.Child.{Child}
use Rattle.ms_dag.specs.declared.node.Entry.{Entry}
use Rattle.ms_dag.specs.declared.dag.SharedRoot.{SharedRoot}
use Rattle.ms_dag.specs.Dag.{ImportsAgree, IsDag}
use Rattle.ms_dag.specs.Share.{IsRootOf, AreRootsOf, children_of_roots}
use Rattle.ms_dag.specs.inner.Shared.{IsRootNow, AreRootsNow}
use Rattle.ms_dag.specs.inner.Shared.{Grown, Keeps}
use Rattle.ms_dag.proofs.Growth.{Unfolds-kept, Grown-both}

IsRootOf-kept : (calls : Calls) (orders : List Order) (old new : List Entry) → Keeps old new → (root : Root) (shared : SharedRoot) → IsRootOf calls orders old root shared → IsRootOf calls orders new root shared
IsRootOf-kept calls orders old new keeps root shared is = record {
  variables = is.variables;
  unfolds = Unfolds-kept old new keeps (filled calls (core_form_of root.core)) shared.child.map shared.child.node is.unfolds;
  rising = is.rising;
  among = is.among;
  ordered = (is.ordered.0, keeps shared.child.node is.ordered.0 is.ordered.1, is.ordered.2);
}

AreRootsOf-kept : (calls : Calls) (orders : List Order) (old new : List Entry) → Keeps old new → (roots : List Root) (shared : List SharedRoot) → AreRootsOf calls orders old roots shared → AreRootsOf calls orders new roots shared
AreRootsOf-kept calls orders old new keeps [] [] are = tt
AreRootsOf-kept calls orders old new keeps [] (s ∷ ss) are = absurd are
AreRootsOf-kept calls orders old new keeps (r ∷ rs) [] are = absurd are
AreRootsOf-kept calls orders old new keeps (r ∷ rs) (s ∷ ss) are = (IsRootOf-kept calls orders old new keeps r s are.0, AreRootsOf-kept calls orders old new keeps rs ss are.1)

roots_push : (calls : Calls) (orders : List Order) (entries : List Entry) (roots : List Root) (shared : List SharedRoot) (root : Root) (made : SharedRoot) → AreRootsOf calls orders entries roots shared → IsRootOf calls orders entries root made →
    AreRootsOf calls orders entries (roots ++ root ∷ []) (shared ++ made ∷ [])
roots_push calls orders entries [] [] root made are is = (is, tt)
roots_push calls orders entries [] (s ∷ ss) root made are is = absurd are
roots_push calls orders entries (r ∷ rs) [] root made are is = absurd are
roots_push calls orders entries (r ∷ rs) (s ∷ ss) root made are is = (are.0, roots_push calls orders entries rs ss root made are.1 is)

module _ (calls : Calls) (orders : List Order) (mid : List Entry) (roots : List Root) (k : ℕ) (root : Root) (shared : List SharedRoot) (below : k < length roots) (is : root ≡ get_or roots k root) (now : AreRootsNow calls orders mid (take k roots) shared) where
  taken : take k roots ++ root ∷ [] ≡ take (k + 1) roots
  taken = ap (λ r. take k roots ++ r ∷ []) is ∙ sym (take_more roots k root below)

  pub step_root : (new : List Entry) (made : SharedRoot) → IsRootNow calls orders mid new root made → AreRootsNow calls orders new (take (k + 1) roots) (shared ++ made ∷ [])
  step_root new made next =
      subst (λ list. AreRootsNow calls orders new list (shared ++ made ∷ [])) taken (record {
        grown =
            subst (λ tops. Grown [] new tops) (sym (map-append (λ (s : SharedRoot). s.child) shared (made ∷ [])))
            (Grown-both [] mid new (children_of_roots shared) (made.child ∷ []) now.grown next.grown);
        roots_of = roots_push calls orders new (take k roots) shared root made (AreRootsOf-kept calls orders mid new next.grown.kept (take k roots) shared now.roots_of) next.root_of;
      })

children_within : (calls : Calls) (orders : List Order) (entries : List Entry) (roots : List Root) (shared : List SharedRoot) → AreRootsOf calls orders entries roots shared → All (λ (c : Child). c.node < length entries) (children_of_roots shared)
children_within calls orders entries [] [] are = All-nil (λ (c : Child). c.node < length entries)
children_within calls orders entries [] (s ∷ ss) are = absurd are
children_within calls orders entries (r ∷ rs) [] are = absurd are
children_within calls orders entries (r ∷ rs) (s ∷ ss) are =
    All-cons (λ (c : Child). c.node < length entries) s.child (children_of_roots ss) (slice_get_within entries s.child.node are.0.ordered.0 are.0.ordered.1) (children_within calls orders entries rs ss are.1)

-- the graph of all roots
pub graph_of : (calls : Calls) (orders : List Order) (entries : List Entry) (roots : List Root) (shared : List SharedRoot) → AreRootsNow calls orders entries roots shared → ImportsAgree entries → length entries + length shared ≤ 4294967295 →
    IsDag entries (children_of_roots shared)
graph_of calls orders entries roots shared now agree few = record {
  nodes = now.grown.nodes;
  imports = agree;
  within = children_within calls orders entries roots shared now.roots_of;
  used = λ i below. now.grown.used i (omega arith) below;
  small = let long = length-map shared (λ (s : SharedRoot). s.child) in omega (arith, few, long);
}
