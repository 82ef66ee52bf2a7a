-- Formulas that were shared one after the other.
use Rattle.std.proofs.Common.{◌≡◌, List, [], ◌∷◌, ◌++◌, refl, sym, ap, subst}
use Rattle.ms_logic.specs.declared.mode.Order.{Order}
use Rattle.ms_logic_core.specs.CoreForm.{CoreForm, CoreForms, no_forms, more_forms, core_forms}
use Rattle.ms_dag.specs.declared.node.Child.{Child}
use Rattle.ms_dag.specs.declared.node.Entry.{Entry}
use Rattle.ms_dag.specs.Dag.{AreNodes}
use Rattle.ms_dag.specs.inner.Shared.{AreSharedNow, Grown, IsSharedNow}
use Rattle.ms_dag.specs.inner.Tasks.{AreSharedInTurn, listed}
use Rattle.ms_dag.proofs.Growth.{Grown-both, Grown-none, IsShared-kept}

pub core_forms-listed : (fs : CoreForms) → core_forms (listed fs) ≡ fs
core_forms-listed no_forms = refl
core_forms-listed (more_forms f fs) = ap (more_forms f) (core_forms-listed fs)

-- the first of them, and the others
pub record IsSplit (orders : List Order) (old new : List Entry) (fs gs : List CoreForm) (parts : List Child) : Type 0 where
  pub mid : List Entry
  pub others : List Child
  pub own : List Child
  pub is : parts ≡ others ++ own
  pub first : AreSharedInTurn orders old mid fs others
  pub second : AreSharedInTurn orders mid new gs own

module _ (orders : List Order) where
  AreSharedInTurn-split : (old new : List Entry) (fs gs : List CoreForm) (parts : List Child) → AreSharedInTurn orders old new (fs ++ gs) parts → IsSplit orders old new fs gs parts
  AreSharedInTurn-split old new [] gs parts are = record { mid = old; others = []; own = parts; is = refl; first = refl; second = are }
  AreSharedInTurn-split old new (f ∷ fs) gs [] are = absurd are
  AreSharedInTurn-split old new (f ∷ fs) gs (p ∷ ps) are =
      let later = AreSharedInTurn-split are.0 new fs gs ps are.2 in
      record { mid = later.mid; others = p ∷ later.others; own = later.own; is = ap (λ list. p ∷ list) later.is; first = (are.0, are.1, later.first); second = later.second }

  pub split_turns : (old new : List Entry) (all fs gs : List CoreForm) (parts : List Child) → all ≡ fs ++ gs → AreSharedInTurn orders old new all parts → IsSplit orders old new fs gs parts
  split_turns old new all fs gs parts is are = AreSharedInTurn-split old new fs gs parts (subst (λ list. AreSharedInTurn orders old new list parts) is are)

  -- one more
  AreSharedInTurn-push : (old mid new : List Entry) (fs : List CoreForm) (parts : List Child) (f : CoreForm) (child : Child) → AreSharedInTurn orders old mid fs parts → IsSharedNow orders mid new f child →
      AreSharedInTurn orders old new (fs ++ f ∷ []) (parts ++ child ∷ [])
  AreSharedInTurn-push old mid new [] [] f child are is = (new, subst (λ first. IsSharedNow orders first new f child) (sym are) is, refl)
  AreSharedInTurn-push old mid new [] (p ∷ ps) f child are is = absurd are
  AreSharedInTurn-push old mid new (g ∷ gs) [] f child are is = absurd are
  AreSharedInTurn-push old mid new (g ∷ gs) (p ∷ ps) f child are is = (are.0, are.1, AreSharedInTurn-push are.0 mid new gs ps f child are.2 is)

  pub push_turn : (old mid new : List Entry) (fs all : List CoreForm) (parts left : List Child) (f : CoreForm) (child : Child) → all ≡ fs ++ f ∷ [] → left ≡ parts ++ child ∷ [] → AreSharedInTurn orders old mid fs parts →
      IsSharedNow orders mid new f child → AreSharedInTurn orders old new all left
  push_turn old mid new fs all parts left f child forms children are is =
      subst (λ list. AreSharedInTurn orders old new list left) (sym forms)
      (subst (λ list. AreSharedInTurn orders old new (fs ++ f ∷ []) list) (sym children) (AreSharedInTurn-push old mid new fs parts f child are is))

  pub AreSharedInTurn-nodes : (old new : List Entry) (fs : List CoreForm) (parts : List Child) → AreNodes old → AreSharedInTurn orders old new fs parts → AreNodes new
  AreSharedInTurn-nodes old new [] [] nodes are = subst (λ list. AreNodes list) are nodes
  AreSharedInTurn-nodes old new [] (p ∷ ps) nodes are = absurd are
  AreSharedInTurn-nodes old new (f ∷ fs) [] nodes are = absurd are
  AreSharedInTurn-nodes old new (f ∷ fs) (p ∷ ps) nodes are = AreSharedInTurn-nodes are.0 new fs ps are.1.grown.nodes are.2

  -- they are shared in the last graph
  pub AreSharedInTurn-now : (old new : List Entry) (fs : List CoreForm) (parts : List Child) → AreNodes new → AreSharedInTurn orders old new fs parts → AreSharedNow orders old new (core_forms fs) parts
  AreSharedInTurn-now old new [] [] nodes are = record { grown = subst (λ list. Grown list new []) (sym are) (Grown-none new [] nodes); shared = tt }
  AreSharedInTurn-now old new [] (p ∷ ps) nodes are = absurd are
  AreSharedInTurn-now old new (f ∷ fs) [] nodes are = absurd are
  AreSharedInTurn-now old new (f ∷ fs) (p ∷ ps) nodes are =
      let mid = are.0 in
      let later = AreSharedInTurn-now mid new fs ps nodes are.2 in
      record {
        grown = Grown-both old mid new (p ∷ []) ps are.1.grown later.grown;
        shared = (IsShared-kept mid new later.grown.kept orders f p are.1.shared, later.shared);
      }
