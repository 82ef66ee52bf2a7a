-- The value of a node at an environment of its own variables, by the clauses of truth for core formulas. A child has its
-- value at the environment that its map gives it.
use Rattle.std.specs.Prelude.{◌≡◌, ℕ, zero, suc, ◌<◌, ◌⊎◌, List, [], ◌∷◌, length, slice_get, slice_index, Option, Some, None}
use Rattle.ms_logic.specs.declared.mode.Order.{Order}
use Rattle.ms_logic.specs.declared.mode.Quant.TheVariants.{Ex, All}
use Rattle.ms_logic.specs.Assignment.{Env, assign, value_at}
use Rattle.ms_logic_core.specs.CoreForm.{Holds, answer_over}
use Rattle.ms_logic.specs.Truth.{answer_yes, answer_no, InRange, SomeInRange, NoneInRange, IsEmptyRange}
use Rattle.ms_logic.specs.Truth.{Import as Imported}
use Rattle.ms_logic_core.specs.Orders.{order_at}
use Rattle.ms_dag.specs.declared.node.Child.{Child}
use Rattle.ms_dag.specs.declared.node.DagNode.{DagNode}
use Rattle.ms_dag.specs.declared.node.DagNode.TheVariants.{True, False, Basic, Not, And, Or, Implies, Iff, Restrict, Import, Bind}
use Rattle.ms_dag.specs.declared.node.Entry.{Entry}
use Rattle.ms_dag.specs.Unfolds.{node_at}

-- the environment of a child: its variable j has the value of the variable at place j of its map
abbrev pub read_through : List ℕ → Env → Env
read_through places e = record {
  universe = e.universe;
  truth = λ j. e.truth (slice_index places j);
  number = λ j. e.number (slice_index places j);
  set = λ j. e.set (slice_index places j);
}

-- Yes or No of the nodes, by their numbers
abbrev pub Verdict : Type 1
Verdict = ℕ → Env → Type 0

abbrev pub Of : Verdict → Child → Env → Type 0
Of verdict child e = verdict child.node (read_through child.map e)

abbrev pub EachIs : Verdict → List Child → Env → Type 0
EachIs verdict [] e = Unit {0}
EachIs verdict (c ∷ cs) e = Of verdict c e × EachIs verdict cs e

abbrev pub SomeIs : Verdict → List Child → Env → Type 0
SomeIs verdict [] e = ⊥
SomeIs verdict (c ∷ cs) e = Of verdict c e ⊎ SomeIs verdict cs e

abbrev pub EachIsDefined : Verdict → Verdict → List Child → Env → Type 0
EachIsDefined Yes No [] e = Unit {0}
EachIsDefined Yes No (c ∷ cs) e = (Of Yes c e ⊎ Of No c e) × EachIsDefined Yes No cs e

-- a restriction is met where it is Yes
abbrev pub IsMetBy : Verdict → Option Child → Env → Type 0
IsMetBy Yes None e = Unit {0}
IsMetBy Yes (Some d) e = Of Yes d e

-- Yes of a node, by Yes and No of its children
abbrev pub YesAt : List Imported → Verdict → Verdict → Option DagNode → Env → Type 0
YesAt imports Yes No None e = ⊥
YesAt imports Yes No (Some True) e = Unit {0}
YesAt imports Yes No (Some False) e = ⊥
YesAt imports Yes No (Some (Basic b)) e = Holds b e
YesAt imports Yes No (Some (Not c)) e = Of No c e
YesAt imports Yes No (Some (And cs)) e = EachIs Yes cs e
YesAt imports Yes No (Some (Or cs)) e = EachIsDefined Yes No cs e × SomeIs Yes cs e
YesAt imports Yes No (Some (Implies c d)) e = (Of Yes c e ⊎ Of No c e) × (Of Yes d e ⊎ Of No d e) × (Of No c e ⊎ Of Yes d e)
YesAt imports Yes No (Some (Iff c d)) e = (Of Yes c e × Of Yes d e) ⊎ (Of No c e × Of No d e)
YesAt imports Yes No (Some (Restrict c)) e = Of Yes c e
YesAt imports Yes No (Some (Import i xs)) e = answer_over (slice_get imports i) xs e ≡ answer_yes
YesAt imports Yes No (Some (Bind Ex o x d c)) e =
    SomeInRange (InRange o x (λ there. IsMetBy Yes d there) e) (λ v. Of Yes c (assign x v e))
YesAt imports Yes No (Some (Bind All o x d c)) e =
    NoneInRange (InRange o x (λ there. IsMetBy Yes d there) e) (λ v. Of No c (assign x v e))
    × (SomeInRange (InRange o x (λ there. IsMetBy Yes d there) e) (λ v. Of Yes c (assign x v e)) ⊎ IsEmptyRange (InRange o x (λ there. IsMetBy Yes d there) e))

-- No of a node, by Yes and No of its children
abbrev pub NoAt : List Imported → Verdict → Verdict → Option DagNode → Env → Type 0
NoAt imports Yes No None e = ⊥
NoAt imports Yes No (Some True) e = ⊥
NoAt imports Yes No (Some False) e = Unit {0}
NoAt imports Yes No (Some (Basic b)) e = ¬ Holds b e
NoAt imports Yes No (Some (Not c)) e = Of Yes c e
NoAt imports Yes No (Some (And cs)) e = EachIsDefined Yes No cs e × SomeIs No cs e
NoAt imports Yes No (Some (Or cs)) e = EachIs No cs e
NoAt imports Yes No (Some (Implies c d)) e = Of Yes c e × Of No d e
NoAt imports Yes No (Some (Iff c d)) e = (Of Yes c e × Of No d e) ⊎ (Of No c e × Of Yes d e)
NoAt imports Yes No (Some (Restrict c)) e = ⊥
NoAt imports Yes No (Some (Import i xs)) e = answer_over (slice_get imports i) xs e ≡ answer_no
NoAt imports Yes No (Some (Bind Ex o x d c)) e =
    NoneInRange (InRange o x (λ there. IsMetBy Yes d there) e) (λ v. Of Yes c (assign x v e))
    × (SomeInRange (InRange o x (λ there. IsMetBy Yes d there) e) (λ v. Of No c (assign x v e)) ⊎ IsEmptyRange (InRange o x (λ there. IsMetBy Yes d there) e))
NoAt imports Yes No (Some (Bind All o x d c)) e =
    SomeInRange (InRange o x (λ there. IsMetBy Yes d there) e) (λ v. Of No c (assign x v e))

-- Yes and No of the nodes below a number, each by those below itself
abbrev mutual
  pub YesBelow : List Imported → List Entry → ℕ → ℕ → Env → Type 0
  YesBelow imports entries zero i e = ⊥
  YesBelow imports entries (suc n) i e =
      YesAt imports (λ j there. YesBelow imports entries n j there) (λ j there. NoBelow imports entries n j there) (node_at entries i) e

  pub NoBelow : List Imported → List Entry → ℕ → ℕ → Env → Type 0
  NoBelow imports entries zero i e = ⊥
  NoBelow imports entries (suc n) i e =
      NoAt imports (λ j there. YesBelow imports entries n j there) (λ j there. NoBelow imports entries n j there) (node_at entries i) e

-- node i is Yes at e
abbrev pub NodeYes : List Imported → List Entry → ℕ → Env → Type 0
NodeYes imports entries i e = YesBelow imports entries (suc i) i e

-- node i is No at e
abbrev pub NodeNo : List Imported → List Entry → ℕ → Env → Type 0
NodeNo imports entries i e = NoBelow imports entries (suc i) i e

-- each variable of e has the value that c has for its name, where the globals have these orders
pub record ReadsAs (orders : List Order) (names : List ℕ) (e c : Env) : Type 0 where
  pub universe : e.universe ≡ c.universe
  pub values : (j : ℕ) (o : Order) → j < length names → order_at orders (slice_index names j) ≡ o → value_at o j e ≡ value_at o (slice_index names j) c
