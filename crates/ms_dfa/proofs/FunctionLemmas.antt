-- What diagrams represent: leaves, nodes, longer lists, and what is left once a bit is fixed.
use Rattle.std.proofs.Common.{◌≡◌, ℕ, ◌<◌, ◌⊎◌, inl, inr, Bool, true, false, if◌then◌else◌, List, length, slice_get, Some, sym, ap, subst, ◌∙◌, ⊎_elim}
use Rattle.std.proofs.lemmas.Option.{slice_get_within, same_Some}
use Rattle.ms_arena.specs.declared.node.Ref.{Ref}
use Rattle.ms_arena.specs.declared.node.Ref.TheVariants.{Leaf, Inner}
use Rattle.ms_arena.specs.declared.node.Node.{Node}
use Rattle.ms_arena.specs.Bits.{with_bit}
use Rattle.ms_arena.specs.Diagram.{Bits, leaf_of, IsValid, IsOrdered, IsReduced}
use Rattle.ms_arena.specs.Halves.{half_of, TestsFrom}
use Rattle.ms_arena.specs.Reach.{Reaches, here, through_low, through_high, TestsOnly}
use Rattle.ms_arena.specs.Target.{Extends, HoldsAt}
use Rattle.ms_arena.proofs.Appending.{IsValid-extends, leaf_of-extends, slice_get-extends}
use Rattle.ms_arena.proofs.Ends.{end_valid}
use Rattle.ms_arena.proofs.Essential.{never_tested}
use Rattle.ms_arena.proofs.HalvesLemmas.{Halved, at_node, above, halved, IsValid-half, leaf_of-half}
use Rattle.ms_arena.proofs.Lists.{slice_get-held}
use Rattle.ms_arena.proofs.Paths.{leaf_of-leaf, leaf_of-node}
use Rattle.ms_arena.proofs.ReachLemmas.{IsTested-end}
use Rattle.ms_dfa.specs.inner.Function.{Function, Represents, Ignores}

-- nothing is tested behind a leaf
pub TestsOnly-leaf : (nodes : List Node) (P : ℕ → Type 0) (value : ℕ) → TestsOnly nodes P (Leaf value)
TestsOnly-leaf nodes P value = λ var (goal, found, path, there, same). absurd (elim path [ ])

-- a path from a held node leads to the node itself, or to what an end tests
tested_from : (nodes : List Node) (P : ℕ → Type 0) (place : ℕ) (node : Node) → slice_get nodes place ≡ Some node
    → P node.var → TestsOnly nodes P node.low → TestsOnly nodes P node.high
    → (var goal : ℕ) (found : Node) → Reaches nodes (Inner place) goal → slice_get nodes goal ≡ Some found → found.var ≡ var → P var
tested_from nodes P place node held own low high var goal found here there same =
    let is_node : node ≡ found = cc in
    subst P (ap (λ (n : Node). n.var) is_node ∙ same) own
tested_from nodes P place node held own low high var goal found (through_low next there_next path) there same =
    let is_node : next ≡ node = cc in
    low var (goal, found, subst (λ (n : Node). Reaches nodes n.low goal) is_node path, there, same)
tested_from nodes P place node held own low high var goal found (through_high next there_next path) there same =
    let is_node : next ≡ node = cc in
    high var (goal, found, subst (λ (n : Node). Reaches nodes n.high goal) is_node path, there, same)

-- a held node tests its variable, and what its ends test
pub TestsOnly-held : (nodes : List Node) (P : ℕ → Type 0) (node : Node) (reference : Ref) → HoldsAt nodes node reference
    → P node.var → TestsOnly nodes P node.low → TestsOnly nodes P node.high → TestsOnly nodes P reference
TestsOnly-held nodes P node (Leaf value) held own low high = absurd held
TestsOnly-held nodes P node (Inner place) held own low high = λ var (goal, found, path, there, same). tested_from nodes P place node held own low high var goal found path there same

-- a node that is reached in a longer list from a reference of the old one is reached in the old one
reached_before : (old new : List Node) → IsOrdered old → Extends old new → {root : Ref} {goal : ℕ} → Reaches new root goal → IsValid old root
    → Reaches old root goal × (goal < length old)
reached_before old new ordered extends here valid = (here, valid)
reached_before old new ordered extends (through_low {place} {goal} node held path) valid =
    let there = slice_get-held old place valid in
    let is_node : there.0 ≡ node = same_Some there.0 node (sym (slice_get-extends old new extends place there.0 there.1) ∙ held) in
    let was = reached_before old new ordered extends path (subst (λ (n : Node). IsValid old n.low) is_node (end_valid old ordered place there.0 there.1 false)) in
    (through_low node (there.1 ∙ ap Some is_node) was.0, was.1)
reached_before old new ordered extends (through_high {place} {goal} node held path) valid =
    let there = slice_get-held old place valid in
    let is_node : there.0 ≡ node = same_Some there.0 node (sym (slice_get-extends old new extends place there.0 there.1) ∙ held) in
    let was = reached_before old new ordered extends path (subst (λ (n : Node). IsValid old n.high) is_node (end_valid old ordered place there.0 there.1 true)) in
    (through_high node (there.1 ∙ ap Some is_node) was.0, was.1)

-- what a reference tests in a longer list, it tests in the old one
pub TestsOnly-extends : (old new : List Node) (P : ℕ → Type 0) (reference : Ref) → IsOrdered old → Extends old new → IsValid old reference
    → TestsOnly old P reference → TestsOnly new P reference
TestsOnly-extends old new P reference ordered extends valid tests = λ var (goal, found, path, there, same).
    let was = reached_before old new ordered extends path valid in
    let held = slice_get-held old goal was.1 in
    let is_node : held.0 ≡ found = same_Some held.0 found (sym (slice_get-extends old new extends goal held.0 held.1) ∙ there) in
    tests var (goal, found, was.0, held.1 ∙ ap Some is_node, same)

-- a leaf represents its number
pub Represents-leaf : (nodes : List Node) (Reads : ℕ → Type 0) (value : ℕ) → Represents nodes (record { number = λ bits. value; Reads = Reads }) (Leaf value)
Represents-leaf nodes Reads value = record {
  valid = tt;
  leaves = λ bits. leaf_of-leaf nodes bits value;
  tests = TestsOnly-leaf nodes Reads value;
}

-- a node represents the choice, by the bit of its variable, between what its ends represent
pub Represents-node : (nodes : List Node) (low high : Bits → ℕ) (Reads : ℕ → Type 0) (place : ℕ) (node : Node) → IsOrdered nodes → slice_get nodes place ≡ Some node
    → Reads node.var → Represents nodes (record { number = low; Reads = Reads }) node.low → Represents nodes (record { number = high; Reads = Reads }) node.high
    → Represents nodes (record { number = λ bits. if bits node.var then high bits else low bits; Reads = Reads }) (Inner place)
Represents-node nodes low high Reads place node ordered held own is_low is_high = record {
  valid = slice_get_within nodes place node held;
  leaves = λ bits. leaf_of-node nodes ordered bits place node held
      ∙ elim (bits node.var) as (λ bit. leaf_of nodes (if bit then node.high else node.low) bits ≡ (if bit then high bits else low bits)) [
        | true ↦ is_high.leaves bits
        | false ↦ is_low.leaves bits
      ];
  tests = TestsOnly-held nodes Reads node (Inner place) held own is_low.tests is_high.tests;
}

-- what is made of two ends, an end where they are one and else a node that is held, represents the same choice
pub Represents-made : (nodes : List Node) (low high : Bits → ℕ) (Reads : ℕ → Type 0) (node : Node) (made : Ref) → IsOrdered nodes
    → ((node.low ≡ node.high) × (made ≡ node.low)) ⊎ HoldsAt nodes node made → Reads node.var
    → Represents nodes (record { number = low; Reads = Reads }) node.low → Represents nodes (record { number = high; Reads = Reads }) node.high
    → Represents nodes (record { number = λ bits. if bits node.var then high bits else low bits; Reads = Reads }) made
Represents-made nodes low high Reads node made ordered (inl same) own is_low is_high = record {
  valid = subst (IsValid nodes) (sym same.1) is_low.valid;
  leaves = λ bits. ap (λ (r : Ref). leaf_of nodes r bits) same.1
      ∙ elim (bits node.var) as (λ bit. leaf_of nodes node.low bits ≡ (if bit then high bits else low bits)) [
        | true ↦ ap (λ (r : Ref). leaf_of nodes r bits) same.0 ∙ is_high.leaves bits
        | false ↦ is_low.leaves bits
      ];
  tests = subst (TestsOnly nodes Reads) (sym same.1) is_low.tests;
}
Represents-made nodes low high Reads node (Leaf value) ordered (inr held) own is_low is_high = absurd held
Represents-made nodes low high Reads node (Inner place) ordered (inr held) own is_low is_high = Represents-node nodes low high Reads place node ordered held own is_low is_high

-- a reference represents the same in a longer list
pub Represents-extends : (old new : List Node) (function : Function) (reference : Ref) → IsOrdered old → Extends old new
    → Represents old function reference → Represents new function reference
Represents-extends old new function reference ordered extends was = record {
  valid = IsValid-extends old new extends reference was.valid;
  leaves = λ bits. leaf_of-extends old new extends ordered reference bits was.valid ∙ was.leaves bits;
  tests = TestsOnly-extends old new function.Reads reference ordered extends was.valid was.tests;
}

-- the half of a reference at a bit represents what is left of its function once the bit is fixed
pub Represents-half : (nodes : List Node) (function : Function) (var : ℕ) (bit : Bool) (reference : Ref) → IsOrdered nodes → TestsFrom nodes var reference
    → Represents nodes function reference
    → Represents nodes (record { number = λ bits. function.number (with_bit bits var bit); Reads = function.Reads }) (half_of nodes var bit reference)
Represents-half nodes function var bit reference ordered from is = record {
  valid = IsValid-half nodes ordered var bit reference is.valid from;
  leaves = λ bits. leaf_of-half nodes ordered var bit reference is.valid from bits ∙ is.leaves (with_bit bits var bit);
  tests = half_tests (halved nodes var bit reference is.valid from);
}
  where
    half_tests : Halved nodes var bit reference → TestsOnly nodes function.Reads (half_of nodes var bit reference)
    half_tests (at_node place node is_place held same half) =
        let here : TestsOnly nodes function.Reads (Inner place) = subst (TestsOnly nodes function.Reads) is_place is.tests in
        subst (TestsOnly nodes function.Reads) (sym half) (λ other tested. here other (IsTested-end nodes place node bit other held tested))
    half_tests (above tests half) = subst (TestsOnly nodes function.Reads) (sym half) is.tests

-- what a reduced reference tests follows from its function: each variable that the function does not ignore
pub TestsOnly-by_function : (nodes : List Node) (number : Bits → ℕ) (Reads : ℕ → Type 0) (reference : Ref) → IsOrdered nodes → IsReduced nodes
    → ((bits : Bits) → leaf_of nodes reference bits ≡ number bits) → ((var : ℕ) → Reads var ⊎ Ignores number var) → TestsOnly nodes Reads reference
TestsOnly-by_function nodes number Reads reference ordered reduced leaves either = λ var tested. ⊎_elim
    (λ reads. reads)
    (λ ignores. absurd (never_tested nodes ordered reduced reference var
    (λ bits. leaves (with_bit bits var false) ∙ ignores bits ∙ sym (leaves (with_bit bits var true))) tested))
    (either var)

-- so a reference of an ordered and reduced list represents a function that it has the leaves of
pub Represents-by_leaves : (nodes : List Node) (function : Function) (reference : Ref) → IsOrdered nodes → IsReduced nodes → IsValid nodes reference
    → ((bits : Bits) → leaf_of nodes reference bits ≡ function.number bits) → ((var : ℕ) → function.Reads var ⊎ Ignores function.number var)
    → Represents nodes function reference
Represents-by_leaves nodes function reference ordered reduced valid leaves either = record {
  valid = valid;
  leaves = leaves;
  tests = TestsOnly-by_function nodes function.number function.Reads reference ordered reduced leaves either;
}
