-- A diagram that is right for a function of values leads to the place of its value among the states that were found.
use Rattle.std.proofs.Common.{◌≡◌, ℕ, ◌+◌, suc, ◌<◌, ◌≤◌, Bool, true, false, if◌then◌else◌, List, ◌∷◌, length, slice_get, slice_index_or, Some, sym, ap, ◌∙◌, arith}
use Rattle.ms_arena.specs.declared.node.Ref.{Ref}
use Rattle.ms_arena.specs.declared.node.Ref.TheVariants.{Leaf, Inner}
use Rattle.ms_arena.specs.declared.node.Node.{Node}
use Rattle.ms_arena.specs.Diagram.{Bits, leaf_of, IsValid, IsOrdered}
use Rattle.ms_arena.specs.Halves.{TestsFrom}
use Rattle.ms_arena.specs.Reach.{Reaches, here, through_low, through_high, TestsOnly}
use Rattle.ms_arena.specs.Target.{Extends}
use Rattle.ms_arena.proofs.Appending.{IsValid-extends, leaf_of-extends, slice_get-extends}
use Rattle.ms_arena.proofs.Lists.{slice_get-append_left}
use Rattle.ms_arena.proofs.Paths.{IsBefore-later}
use Rattle.ms_logic.specs.Assignment.{Variable}
use Rattle.ms_logic.specs.declared.mode.Order.{Order}
use Rattle.ms_logic_words.specs.Content.{HasValueAt, padded, bits_at, count_of, head_bit, tail_bits}
use Rattle.ms_logic_machines.proofs.Stores.{NamesLeaf, NamesLeaf-later}
use Rattle.ms_logic_machines.proofs.Walks.{length-extends}

-- an item of the first part was there before
pub within-extends : {X : Type 0} (old new : List X) → Extends old new → (place : ℕ) (item : X) → place < length old → slice_get new place ≡ Some item
    → slice_get old place ≡ Some item
within-extends old new extends place item within held =
    sym (slice_get-append_left old extends.0 place within) ∙ (ap (λ list. slice_get list place) (sym extends.1) ∙ held)

module _ (old new : List Node) (ordered : IsOrdered old) (extends : Extends old new) where
  -- what is reached from a reference of the first part is a node of it
  pub reached_before : {root : Ref} {goal : ℕ} → Reaches new root goal → IsValid old root → Reaches old root goal × (goal < length old)
  reached_before here valid = (here, valid)
  reached_before (through_low {place} node held path) valid =
      let there = within-extends old new extends place node valid held in
      let more = reached_before path (IsBefore-later place (length old) node.low (omega (arith, valid)) (ordered.earlier_low place node there)) in
      (through_low node there more.0, more.1)
  reached_before (through_high {place} node held path) valid =
      let there = within-extends old new extends place node valid held in
      let more = reached_before path (IsBefore-later place (length old) node.high (omega (arith, valid)) (ordered.earlier_high place node there)) in
      (through_high node there more.0, more.1)

  -- so it tests the same variables
  pub TestsOnly-extends : (P : ℕ → Type 0) (root : Ref) → IsValid old root → TestsOnly old P root → TestsOnly new P root
  TestsOnly-extends P root valid only var tested =
      let before = reached_before tested.2 valid in
      only var (tested.0, tested.1, before.0, within-extends old new extends tested.0 tested.1 before.1 tested.3, tested.4)

  pub TestsFrom-extends : (var : ℕ) (root : Ref) → IsValid old root → TestsFrom old var root → TestsFrom new var root
  TestsFrom-extends var (Leaf value) valid from = tt
  TestsFrom-extends var (Inner place) valid from = λ node held. from node (within-extends old new extends place node valid held)

-- a test from a variable on is one from each lower one on
pub TestsFrom-lower : (nodes : List Node) (low high : ℕ) (root : Ref) → low ≤ high → TestsFrom nodes high root → TestsFrom nodes low root
TestsFrom-lower nodes low high (Leaf value) lower from = tt
TestsFrom-lower nodes low high (Inner place) lower from = λ node held. let more : high ≤ node.var = from node held in omega (arith, lower, more)

module _ (variables : List Variable) (has_value : Order → Bool) where
  -- from a place on, the bits are the values of these variables
  abbrev pub GiveValues : ℕ → Bits → List Variable → List Bool → Type 0
  GiveValues place bits vs values = (i : ℕ) → bits (i + place) ≡ bits_at (padded has_value vs values) i

  -- these are the variables from the place on
  abbrev pub AreFrom : ℕ → List Variable → Type 0
  AreFrom place vs = (i : ℕ) (v : Variable) → slice_get vs i ≡ Some v → slice_get variables (i + place) ≡ Some v

  -- the diagram tests the variables with a value from the place on, and leads to the value of the function
  pub record IsDiagram (found : List ℕ) (nodes : List Node) (vs : List Variable) (place : ℕ) (function : List Bool → ℕ) (root : Ref) : Type 0 where
    pub valid : IsValid nodes root
    pub from : TestsFrom nodes place root
    pub leaf : NamesLeaf (length found) root
    pub tests : TestsOnly nodes (HasValueAt variables has_value) root
    pub right :
        (bits : Bits) (values : List Bool) → length values ≡ count_of has_value vs → GiveValues place bits vs values
        → slice_get found (leaf_of nodes root bits) ≡ Some (function values)

  -- and stays so when states and nodes come later
  pub diagram-extends : (found more : List ℕ) (old new : List Node) (vs : List Variable) (place : ℕ) (function : List Bool → ℕ) (root : Ref)
      → IsOrdered old → Extends found more → Extends old new → IsDiagram found old vs place function root → IsDiagram more new vs place function root
  diagram-extends found more old new vs place function root ordered grows extends is = record {
    valid = IsValid-extends old new extends root is.valid;
    from = TestsFrom-extends old new ordered extends place root is.valid is.from;
    leaf = NamesLeaf-later (length found) (length more) root (length-extends found more grows) is.leaf;
    tests = TestsOnly-extends old new ordered extends (HasValueAt variables has_value) root is.valid is.tests;
    right = λ bits values long give.
        ap (slice_get more) (leaf_of-extends old new extends ordered root bits is.valid)
        ∙ slice_get-extends found more grows (leaf_of old root bits) (function values) (is.right bits values long give);
  }

  -- where a variable has a value, the first of the values is its bit
  pub give-with : (place : ℕ) (bits : Bits) (v : Variable) (vs : List Variable) (bit : Bool) (values : List Bool) → has_value v.order ≡ true
      → GiveValues place bits (v ∷ vs) (bit ∷ values) → (bits place ≡ bit) × GiveValues (suc place) bits vs values
  give-with place bits v vs bit values has give =
      let same : padded has_value (v ∷ vs) (bit ∷ values) ≡ bit ∷ padded has_value vs values
      = ap (λ test. if test then bit ∷ padded has_value vs values else false ∷ padded has_value vs (bit ∷ values)) has in (
        ap bits (omega arith) ∙ (give 0 ∙ ap (λ list. slice_index_or list 0 false) same),
        λ i. ap bits (omega arith) ∙ (give (suc i) ∙ ap (λ list. slice_index_or list (suc i) false) same),
      )

  -- and else it has none of the values
  pub give-without : (place : ℕ) (bits : Bits) (v : Variable) (vs : List Variable) (values : List Bool) → has_value v.order ≡ false
      → GiveValues place bits (v ∷ vs) values → GiveValues (suc place) bits vs values
  give-without place bits v vs values none give i =
      let same : padded has_value (v ∷ vs) values ≡ false ∷ padded has_value vs values
      = ap (λ test. if test then head_bit values ∷ padded has_value vs (tail_bits values) else false ∷ padded has_value vs values) none in
      ap bits (omega arith) ∙ (give (suc i) ∙ ap (λ list. slice_index_or list (suc i) false) same)

  pub from-next : (place : ℕ) (v : Variable) (vs : List Variable) → AreFrom place (v ∷ vs) → AreFrom (suc place) vs
  from-next place v vs are i w held = ap (slice_get variables) (omega arith) ∙ are (suc i) w held
