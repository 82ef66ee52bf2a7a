-- In an ordered and reduced list of nodes, two references are equal exactly where they stand for the same function.
use Rattle.std.proofs.Common.{◌≡◌, ℕ, zero, suc, ◌<◌, ◌≤◌, ◌⊎◌, Bool, true, false, if◌then◌else◌, List, length, slice_get, Some, sym, ap, ◌∙◌, inl, inr, ⊎_elim, arith}
use Rattle.std.proofs.lemmas.Option.{same_Some}
use Rattle.std.proofs.lemmas.Bool.{cases_lt, cases_order}
use Rattle.ms_arena.specs.declared.node.Ref.{Ref}
use Rattle.ms_arena.specs.declared.node.Ref.TheVariants.{Leaf, Inner}
use Rattle.ms_arena.specs.declared.node.Node.{Node}
use Rattle.ms_arena.specs.Diagram.{Bits, leaf_of, SameFunction, IsBefore, IsValid, TestsAbove, IsOrdered, IsReduced}
use Rattle.ms_arena.specs.Bits.{with_bit, AgreeAbove}
use Rattle.ms_arena.proofs.Lists.{slice_get-held}
use Rattle.ms_arena.proofs.BitsLemmas.{with_bit-same, AgreeAbove-with_bit, AgreeAbove-two_bits}
use Rattle.ms_arena.proofs.Paths.{IsBefore-later, leaf_of-leaf, leaf_of-node}

-- the end of a node at a value of its bit
abbrev pub end_for : Node → Bool → Ref
end_for node bit = if bit then node.high else node.low

-- what tests above a variable tests above each lower one
pub TestsAbove-lower : (nodes : List Node) (low high : ℕ) (reference : Ref) → low ≤ high → TestsAbove nodes high reference → TestsAbove nodes low reference
TestsAbove-lower nodes low high (Leaf value) lower above = tt
TestsAbove-lower nodes low high (Inner place) lower above = λ node held. let more : high < node.var = above node held in omega arith

module _ (nodes : List Node) (ordered : IsOrdered nodes) where
  -- both ends of a node test later variables
  pub TestsAbove-end_for : (place : ℕ) (node : Node) (bit : Bool) → slice_get nodes place ≡ Some node → TestsAbove nodes node.var (end_for node bit)
  TestsAbove-end_for place node true held = ordered.rising_high place node held
  TestsAbove-end_for place node false held = ordered.rising_low place node held

  -- and stand before it
  pub IsBefore-end_for : (place : ℕ) (node : Node) (bit : Bool) → slice_get nodes place ≡ Some node → IsBefore place (end_for node bit)
  IsBefore-end_for place node true held = ordered.earlier_high place node held
  IsBefore-end_for place node false held = ordered.earlier_low place node held

  above_before : (count var : ℕ) (reference : Ref) (one two : Bits) → IsBefore count reference → count ≤ length nodes → TestsAbove nodes var reference
      → AgreeAbove var one two → leaf_of nodes reference one ≡ leaf_of nodes reference two
  above_before count var (Leaf value) one two before within above agree = leaf_of-leaf nodes one value ∙ sym (leaf_of-leaf nodes two value)
  above_before zero var (Inner place) one two before within above agree = absurd (omega arith)
  above_before (suc count) var (Inner place) one two before within above agree =
      let held = slice_get-held nodes place (omega arith) in
      let more : var < held.0.var = above held.0 held.1 in
      leaf_of-node nodes ordered one place held.0 held.1
      ∙ above_before count var (end_for held.0 (one held.0.var)) one two
      (IsBefore-later place count (end_for held.0 (one held.0.var)) (omega arith) (IsBefore-end_for place held.0 (one held.0.var) held.1)) (omega arith)
      (TestsAbove-lower nodes var held.0.var (end_for held.0 (one held.0.var)) (omega arith) (TestsAbove-end_for place held.0 (one held.0.var) held.1)) agree
      ∙ ap (λ bit. leaf_of nodes (end_for held.0 bit) two) (agree held.0.var more)
      ∙ sym (leaf_of-node nodes ordered two place held.0 held.1)

  -- a reference reads no bit up to a variable above which it tests
  pub leaf_of-above : (var : ℕ) (reference : Ref) (one two : Bits) → IsValid nodes reference → TestsAbove nodes var reference
      → AgreeAbove var one two → leaf_of nodes reference one ≡ leaf_of nodes reference two
  leaf_of-above var reference one two valid above agree = above_before (length nodes) var reference one two valid (omega arith) above agree

  -- the function of an end is that of the node with the bit fixed
  pub leaf_of-end_for : (place : ℕ) (node : Node) (bit : Bool) (bits : Bits) → slice_get nodes place ≡ Some node → IsValid nodes (end_for node bit)
      → leaf_of nodes (Inner place) (with_bit bits node.var bit) ≡ leaf_of nodes (end_for node bit) bits
  leaf_of-end_for place node bit bits held valid =
      leaf_of-node nodes ordered (with_bit bits node.var bit) place node held
      ∙ ap (λ value. leaf_of nodes (end_for node value) (with_bit bits node.var bit)) (with_bit-same bits node.var bit)
      ∙ leaf_of-above node.var (end_for node bit) (with_bit bits node.var bit) bits valid (TestsAbove-end_for place node bit held)
      (AgreeAbove-with_bit node.var node.var bits bit (omega arith))

  -- where the bit of its variable makes no difference, the ends of a node stand for the same function
  pub same_ends : (place : ℕ) (node : Node) → slice_get nodes place ≡ Some node → IsValid nodes node.low → IsValid nodes node.high
      → ((bits : Bits) → leaf_of nodes (Inner place) (with_bit bits node.var false) ≡ leaf_of nodes (Inner place) (with_bit bits node.var true))
      → SameFunction nodes node.low node.high
  same_ends place node held low high idle bits =
      sym (leaf_of-end_for place node false bits held low) ∙ idle bits ∙ leaf_of-end_for place node true bits held high

  -- a reference that tests above a variable does not read its bit
  idle_above : (var : ℕ) (reference : Ref) (bits : Bits) → IsValid nodes reference → TestsAbove nodes var reference
      → leaf_of nodes reference (with_bit bits var false) ≡ leaf_of nodes reference (with_bit bits var true)
  idle_above var reference bits valid above =
      leaf_of-above var reference (with_bit bits var false) (with_bit bits var true) valid above (AgreeAbove-two_bits var var bits false true (omega arith))

  -- nodes with equal functions and equal variables have ends with equal functions
  same_side : (one two : ℕ) (left right : Node) (bit : Bool) → slice_get nodes one ≡ Some left → slice_get nodes two ≡ Some right
      → IsValid nodes (end_for left bit) → IsValid nodes (end_for right bit) → left.var ≡ right.var → SameFunction nodes (Inner one) (Inner two)
      → SameFunction nodes (end_for left bit) (end_for right bit)
  same_side one two left right bit left_held right_held left_valid right_valid same_var same bits =
      sym (leaf_of-end_for one left bit bits left_held left_valid)
      ∙ same (with_bit bits left.var bit)
      ∙ ap (λ var. leaf_of nodes (Inner two) (with_bit bits var bit)) same_var
      ∙ leaf_of-end_for two right bit bits right_held right_valid

  -- canonicity among the references before a place
  abbrev SameBefore : ℕ → Type 0
  SameBefore count = (left right : Ref) → IsBefore count left → IsBefore count right → SameFunction nodes left right → left ≡ right

  module _ (reduced : IsReduced nodes) (count : ℕ) (within : count ≤ length nodes) (below : SameBefore count) where
    -- the bit of a node's variable makes a difference
    never_idle : (place : ℕ) (node : Node) → slice_get nodes place ≡ Some node → place ≤ count
        → ((bits : Bits) → leaf_of nodes (Inner place) (with_bit bits node.var false) ≡ leaf_of nodes (Inner place) (with_bit bits node.var true)) → ⊥
    never_idle place node held early idle =
        let low = IsBefore-later place count node.low early (ordered.earlier_low place node held) in
        let high = IsBefore-later place count node.high early (ordered.earlier_high place node held) in
        reduced.ends_differ place node held (below node.low node.high low high
        (same_ends place node held (IsBefore-later count (length nodes) node.low within low) (IsBefore-later count (length nodes) node.high within high) idle))

    -- nor is a node equal to a reference that does not read its variable
    never_same : (place : ℕ) (node : Node) (other : Ref) → slice_get nodes place ≡ Some node → place ≤ count → IsValid nodes other → TestsAbove nodes node.var other
        → SameFunction nodes (Inner place) other → ⊥
    never_same place node other held early valid above same =
        never_idle place node held early (λ bits.
        same (with_bit bits node.var false) ∙ idle_above node.var other bits valid above ∙ sym (same (with_bit bits node.var true)))

    -- two nodes with equal variables and equal functions have equal ends
    same_end : (one two : ℕ) (left right : Node) (bit : Bool) → slice_get nodes one ≡ Some left → slice_get nodes two ≡ Some right → one ≤ count → two ≤ count
        → left.var ≡ right.var → SameFunction nodes (Inner one) (Inner two) → end_for left bit ≡ end_for right bit
    same_end one two left right bit left_held right_held left_early right_early same_var same =
        let low = IsBefore-later one count (end_for left bit) left_early (IsBefore-end_for one left bit left_held) in
        let high = IsBefore-later two count (end_for right bit) right_early (IsBefore-end_for two right bit right_held) in
        below (end_for left bit) (end_for right bit) low high
        (same_side one two left right bit left_held right_held (IsBefore-later count (length nodes) (end_for left bit) within low)
        (IsBefore-later count (length nodes) (end_for right bit) within high) same_var same)

    -- two nodes with equal functions stand at one place
    same_nodes : (one two : ℕ) (left right : Node) → slice_get nodes one ≡ Some left → slice_get nodes two ≡ Some right → one ≤ count → two ≤ count
        → one < length nodes → two < length nodes → SameFunction nodes (Inner one) (Inner two)
        → (left.var ≡ right.var) ⊎ ((left.var < right.var) ⊎ (right.var < left.var)) → one ≡ two
    same_nodes one two left right left_held right_held left_early right_early left_in right_in same (inl same_var) =
        let low = same_end one two left right false left_held right_held left_early right_early same_var same in
        let high = same_end one two left right true left_held right_held left_early right_early same_var same in
        let equal : left ≡ right = λ i. record { var = same_var i; low = low i; high = high i } in
        reduced.distinct one two left left_held (right_held ∙ ap Some (sym equal))
    same_nodes one two left right left_held right_held left_early right_early left_in right_in same (inr (inl less)) =
        absurd (never_same one left (Inner two) left_held left_early right_in
        (λ node held. let same_node : right ≡ node = same_Some right node (sym right_held ∙ held) in rw (← same_node) less) same)
    same_nodes one two left right left_held right_held left_early right_early left_in right_in same (inr (inr more)) =
        absurd (never_same two right (Inner one) right_held right_early left_in
        (λ node held. let same_node : left ≡ node = same_Some left node (sym left_held ∙ held) in rw (← same_node) more) (λ bits. sym (same bits)))

  module _ (reduced : IsReduced nodes) where
    same_before : (count : ℕ) → count ≤ length nodes → SameBefore count
    same_before count within (Leaf one) (Leaf two) left_before right_before same =
        ap Leaf (sym (leaf_of-leaf nodes (λ _. false) one) ∙ same (λ _. false) ∙ leaf_of-leaf nodes (λ _. false) two)
    same_before zero within (Leaf one) (Inner two) left_before right_before same = absurd (omega arith)
    same_before zero within (Inner one) (Leaf two) left_before right_before same = absurd (omega arith)
    same_before zero within (Inner one) (Inner two) left_before right_before same = absurd (omega arith)
    same_before (suc count) within (Leaf one) (Inner two) left_before right_before same =
        let held = slice_get-held nodes two (omega arith) in
        absurd (never_same reduced count (omega arith) (same_before count (omega arith)) two held.0 (Leaf one) held.1 (omega arith) tt tt (λ bits. sym (same bits)))
    same_before (suc count) within (Inner one) (Leaf two) left_before right_before same =
        let held = slice_get-held nodes one (omega arith) in
        absurd (never_same reduced count (omega arith) (same_before count (omega arith)) one held.0 (Leaf two) held.1 (omega arith) tt tt same)
    same_before (suc count) within (Inner one) (Inner two) left_before right_before same =
        let left = slice_get-held nodes one (omega arith) in
        let right = slice_get-held nodes two (omega arith) in
        ap Inner (same_nodes reduced count (omega arith) (same_before count (omega arith)) one two left.0 right.0 left.1 right.1
        (omega arith) (omega arith) (omega arith) (omega arith) same (cases_order left.0.var right.0.var))

    -- references with equal functions are equal
    pub same_reference : (left right : Ref) → IsValid nodes left → IsValid nodes right → SameFunction nodes left right → left ≡ right
    same_reference left right left_valid right_valid same = same_before (length nodes) (omega arith) left right left_valid right_valid same

    -- a reference whose function reads no bit up to a variable tests above it
    pub TestsAbove-from_function : (var : ℕ) (reference : Ref) → IsValid nodes reference
        → ((one two : Bits) → AgreeAbove var one two → leaf_of nodes reference one ≡ leaf_of nodes reference two) → TestsAbove nodes var reference
    TestsAbove-from_function var (Leaf value) valid blind = tt
    TestsAbove-from_function var (Inner place) valid blind = λ node held. ⊎_elim (λ above. above)
        (λ low. absurd (never_idle reduced (length nodes) (omega arith) (same_before (length nodes) (omega arith)) place node held (omega arith)
        (λ bits. blind (with_bit bits node.var false) (with_bit bits node.var true) (AgreeAbove-two_bits var node.var bits false true low))))
        (cases_lt var node.var)
