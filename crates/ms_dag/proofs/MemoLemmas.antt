-- What a memo of calls knows after it is told one more, and in a graph that grows.
use Rattle.std.proofs.Common.{◌≡◌, ◌⊎◌, ℕ, nat_eq, Bool, false, cond, List, [], ◌∷◌, Some, None, refl, sym, ◌∙◌, ap, subst, inl, inr, ⊎_elim}
use Rattle.std.proofs.lemmas.Bool.{cases_Bool}
use Rattle.std.proofs.lemmas.Option.{same_Some, none-some}
use Rattle.std.specs.Cmp.Lexicographic.{pointwise}
use Rattle.std.specs.Map.{lookup}
use Rattle.indexmap.specs.IndexMap.{insert_entry}
use Rattle.ms_logic.specs.declared.mode.Order.{Order}
use Rattle.ms_logic_core.specs.Calls.{Calls}
use Rattle.ms_diagram.proofs.ListLemmas.{same_set, set_itself}
use Rattle.ms_dag.specs.declared.memo.Called.{Called}
use Rattle.ms_dag.specs.declared.node.Child.{Child}
use Rattle.ms_dag.specs.declared.node.DagNode.{DagNode}
use Rattle.ms_dag.specs.declared.node.Entry.{Entry}
use Rattle.ms_dag.specs.inner.Memo.{IsTold, AreCalled, child_for}
use Rattle.ms_dag.specs.inner.Shared.{IsShared, IsMade, Keeps}
use Rattle.ms_dag.proofs.Growth.{Keeps-numbers, IsShared-kept}

-- whether a key is seen as this list
abbrev is_seen : {K : Type 0} → (K → List ℕ) → List ℕ → K → Bool
is_seen view call key = pointwise nat_eq call (view key)

-- a table whose keys are seen as lists
module _ {K V : Type 0} (view : K → List ℕ) (key : K) (value : V) where
  pub lookup-told : (entries : List (K × V)) → lookup (is_seen view (view key)) (insert_entry (λ one next. is_seen view (view one) next) entries key value) ≡ Some value
  lookup-told [] = rw (set_itself (view key)) refl
  lookup-told (entry ∷ entries) =
      ⊎_elim (λ passes. rw passes (rw passes refl)) (λ fails. rw fails (rw fails (lookup-told entries))) (cases_Bool (is_seen view (view key) entry.0))

  lookup-other : (other : List ℕ) → is_seen view other key ≡ false → (entries : List (K × V)) →
      lookup (is_seen view other) (insert_entry (λ one next. is_seen view (view one) next) entries key value) ≡ lookup (is_seen view other) entries
  lookup-other other differs [] = rw differs refl
  lookup-other other differs (entry ∷ entries) =
      ⊎_elim
      (λ passes. let here : is_seen view other entry.0 ≡ false = ap (pointwise nat_eq other) (sym (same_set (view key) (view entry.0) passes)) ∙ differs in rw passes (rw here refl))
      (λ fails. rw fails (ap (λ rest. cond (is_seen view other entry.0) (Some entry.1) rest) (lookup-other other differs entries))) (cases_Bool (is_seen view (view key) entry.0))

  pub lookup-others : (entries : List (K × V)) (other : List ℕ) →
      (other ≡ view key) ⊎ (lookup (is_seen view other) (insert_entry (λ one next. is_seen view (view one) next) entries key value) ≡ lookup (is_seen view other) entries)
  lookup-others entries other =
      ⊎_elim (λ same. inl (same_set other (view key) same)) (λ differs. inr (lookup-other other differs entries)) (cases_Bool (is_seen view other key))

module _ (calls : Calls) (orders : List Order) where
  -- in a graph that grew
  pub AreCalled-kept : (old new : List Entry) (called : Called) → Keeps old new → AreCalled calls orders old called → AreCalled calls orders new called
  AreCalled-kept old new called keeps are import variables child held = IsShared-kept old new keeps orders (calls import variables) child (are import variables child held)

  -- after a node is made
  pub AreCalled-made : (old new : List Entry) (node : DagNode) (names : List ℕ) (child : Child) (called : Called) → AreCalled calls orders old called → IsMade orders old new node names child →
      AreCalled calls orders new called
  AreCalled-made old new node names child called are made = AreCalled-kept old new called (Keeps-numbers old new (record { node = node; orders = made.own }) made.numbers) are

  -- while it has none
  pub AreCalled-none : (entries : List Entry) (called : Called) → ((call : List ℕ) → child_for called call ≡ None) → AreCalled calls orders entries called
  AreCalled-none entries called none import variables child held = absurd (none-some child (sym (none (import ∷ variables)) ∙ held))

  -- after it is told one more
  pub AreCalled-told : (entries : List Entry) (old new : Called) (import : ℕ) (variables : List ℕ) (child : Child) → AreCalled calls orders entries old → IsTold old new (import ∷ variables) child →
      IsShared orders entries (calls import variables) child → AreCalled calls orders entries new
  AreCalled-told entries old new import variables child are told shared i xs other held =
      ⊎_elim
      (λ same.
      let first : import ≡ i = cc in
      let rest : variables ≡ xs = cc in
      let is : child ≡ other = same_Some child other (sym told.told ∙ ap (child_for new) (sym same) ∙ held) in
      let P : ℕ → Type 0 = λ n. IsShared orders entries (calls n variables) child in
      let Q : List ℕ → Type 0 = λ list. IsShared orders entries (calls i list) child in
      let R : Child → Type 0 = λ made. IsShared orders entries (calls i xs) made in
      subst R is (subst Q rest (subst P first shared)))
      (λ before. are i xs other (sym before ∙ held)) (told.others (i ∷ xs))
