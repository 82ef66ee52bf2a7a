-- Which nodes a target needs, when it is split at a variable into the targets for the two values of its bit.
use Rattle.std.proofs.Common.{◌≡◌, ◌≢◌, ℕ, ◌<◌, ◌≤◌, Bool, true, false, if◌then◌else◌, List, [], ◌∷◌, length, slice_get, Some, refl, sym, ap, subst, ◌∙◌, inl, inr, ⊎_elim, arith}
use Rattle.std.proofs.lemmas.Bool.{cases_lt}
use Rattle.std.proofs.lemmas.Option.{slice_get_within}
use Rattle.ms_arena.specs.declared.node.Ref.{Ref}
use Rattle.ms_arena.specs.declared.node.Node.{Node}
use Rattle.ms_arena.specs.Diagram.{Bits, end_at, leaf_of, IsValid, TestsAbove, SameFunction, IsOrdered, IsReduced}
use Rattle.ms_arena.specs.Bits.{with_bit, below_from, AgreeAbove}
use Rattle.ms_arena.specs.Target.{Target, Meets, IsNeeded, Extends, Appends, AddsNeeded, IsFormed, LacksNeeded}
use Rattle.ms_arena.proofs.Lists.{slice_get-append_left, slice_get-pushed}
use Rattle.ms_arena.proofs.BitsLemmas.{with_bit-same, with_bit-own, with_bit-below_from, below_from-later, AgreeAbove-with_bit, AgreeAbove-two_bits, AgreeAbove-below_from}
use Rattle.ms_arena.proofs.Paths.{IsBefore-later}
use Rattle.ms_arena.proofs.Canonicity.{end_for, leaf_of-above, same_reference, TestsAbove-from_function}
use Rattle.ms_arena.proofs.Appending.{leaf_of-extends}

-- one target asks for no more than the other
abbrev pub Implies : Target → Target → Type 0
Implies strong weak = (bits : Bits) (number : ℕ) → strong bits number → weak bits number

-- the part of a target that is left once the bit of a variable has a value: it asks for one number at each bits, and
-- reads no bit up to the variable
pub record IsPart (whole part : Target) (var : ℕ) (bit : Bool) : Type 0 where
  pub fixes : (bits : Bits) (number : ℕ) → part bits number → whole (with_bit bits var bit) number
  pub single : (bits : Bits) (one two : ℕ) → part bits one → part bits two → one ≡ two
  pub blind : (one two : Bits) (number : ℕ) → AgreeAbove var one two → part one number → part two number

-- a part holds at the bits that have its value
pub IsPart-there : (whole part : Target) (var : ℕ) (bit : Bool) → IsPart whole part var bit → (bits : Bits) (number : ℕ) → bits var ≡ bit → part bits number → whole bits number
IsPart-there whole part var bit is bits number own there =
    subst (λ (b : Bits). whole b number) (with_bit-own bits var bit own) (is.fixes bits number there)

-- a held node is formed
pub IsFormed-held : (nodes : List Node) → IsOrdered nodes → IsReduced nodes → (place : ℕ) (node : Node) → slice_get nodes place ≡ Some node → IsFormed nodes node
IsFormed-held nodes ordered reduced place node held =
    let within : place < length nodes = slice_get_within nodes place node held in
    record {
      valid_low = IsBefore-later place (length nodes) node.low (omega arith) (ordered.earlier_low place node held);
      valid_high = IsBefore-later place (length nodes) node.high (omega arith) (ordered.earlier_high place node held);
      above_low = ordered.rising_low place node held;
      above_high = ordered.rising_high place node held;
      ends_differ = reduced.ends_differ place node held;
    }

-- the end of a formed node is valid
pub IsValid-end_for : (nodes : List Node) (node : Node) (bit : Bool) → IsFormed nodes node → IsValid nodes (end_for node bit)
IsValid-end_for nodes node true formed = formed.valid_high
IsValid-end_for nodes node false formed = formed.valid_low

-- and tests above its variable
pub TestsAbove-end : (nodes : List Node) (node : Node) (bit : Bool) → IsFormed nodes node → TestsAbove nodes node.var (end_for node bit)
TestsAbove-end nodes node true formed = formed.above_high
TestsAbove-end nodes node false formed = formed.above_low

module _ (old new : List Node) (ordered : IsOrdered old) (extends : Extends old new) (strong weak : Target) (implies : Implies strong weak) where
  -- what is met stays met
  pub Meets-extends : (reference : Ref) → IsValid old reference → Meets old strong reference → Meets new weak reference
  Meets-extends reference valid meets bits =
      implies bits (leaf_of new reference bits)
      (subst (λ (leaf : ℕ). strong bits leaf) (sym (leaf_of-extends old new extends ordered reference bits valid)) (meets bits))

  -- what is needed stays needed
  pub IsNeeded-extends : (node : Node) → IsFormed old node → IsNeeded old strong node → IsNeeded new weak node
  IsNeeded-extends node formed needed = (
    needed.0,
    λ bits.
        implies (below_from node.var needed.0 bits) (leaf_of new (end_at node bits) bits)
        (subst (λ (leaf : ℕ). strong (below_from node.var needed.0 bits) leaf)
        (sym (leaf_of-extends old new extends ordered (end_at node bits) bits (IsValid-end_for old node (bits node.var) formed))) (needed.1 bits)),
  )

-- a list has no new nodes behind itself
pub AddsNeeded-none : (nodes : List Node) (target : Target) → AddsNeeded nodes nodes target
AddsNeeded-none nodes target place node behind held =
    let within : place < length nodes = slice_get_within nodes place node held in absurd (omega arith)

-- a node that a target needs is among the new ones of a longer list
pub AddsNeeded-then : (one two three : List Node) (early late : Target) → IsOrdered two → IsReduced two → Extends two three → Implies early late
    → AddsNeeded one two early → AddsNeeded two three late → AddsNeeded one three late
AddsNeeded-then one two three early late ordered reduced extends implies first second place node behind held =
    ⊎_elim
    (λ within.
    let there : slice_get two place ≡ Some node = sym (slice_get-append_left two extends.0 place within) ∙ sym (ap (λ list. slice_get list place) extends.1) ∙ held in
    IsNeeded-extends two three ordered extends early late implies node (IsFormed-held two ordered reduced place node there) (first place node behind there))
    (λ beyond. second place node beyond held)
    (cases_lt place (length two))

module _ (nodes : List Node) (ordered : IsOrdered nodes) (reduced : IsReduced nodes) (whole part : Target) (var : ℕ) (bit : Bool) (is : IsPart whole part var bit) where
  -- a reference that meets a part tests above the variable
  pub TestsAbove-part : (reference : Ref) → IsValid nodes reference → Meets nodes part reference → TestsAbove nodes var reference
  TestsAbove-part reference valid meets = TestsAbove-from_function nodes ordered reduced var reference valid (λ one two agree.
      is.single two (leaf_of nodes reference one) (leaf_of nodes reference two)
      (is.blind one two (leaf_of nodes reference one) agree (meets one)) (meets two))

  -- a node that a part needs has a variable above
  needed_above : (node : Node) → IsFormed nodes node → IsNeeded nodes part node → var < node.var
  needed_above node formed needed = ⊎_elim (λ above. above) (λ low. absurd (formed.ends_differ
      (same_reference nodes ordered reduced node.low node.high formed.valid_low formed.valid_high (same low)))) (cases_lt var node.var)
    where
      -- what the part asks for at the bits with a value for the node's variable
      asked : (bits : Bits) (value : Bool) → part (below_from node.var needed.0 (with_bit bits node.var value)) (leaf_of nodes (end_for node value) bits)
      asked bits value =
          subst (λ (leaf : ℕ). part (below_from node.var needed.0 (with_bit bits node.var value)) leaf)
          (ap (λ b. leaf_of nodes (end_for node b) (with_bit bits node.var value)) (with_bit-same bits node.var value)
          ∙ leaf_of-above nodes ordered node.var (end_for node value) (with_bit bits node.var value) bits (IsValid-end_for nodes node value formed)
          (TestsAbove-end nodes node value formed) (AgreeAbove-with_bit node.var node.var bits value (omega arith)))
          (needed.1 (with_bit bits node.var value))

      same : node.var ≤ var → SameFunction nodes node.low node.high
      same low bits =
          let zero_bits = below_from node.var needed.0 (with_bit bits node.var false) in
          let one_bits = below_from node.var needed.0 (with_bit bits node.var true) in
          is.single one_bits (leaf_of nodes node.low bits) (leaf_of nodes node.high bits)
          (is.blind zero_bits one_bits (leaf_of nodes node.low bits) (λ other above.
          AgreeAbove-below_from var node.var needed.0 (with_bit bits node.var false) low other above
          ∙ AgreeAbove-two_bits var node.var bits false true low other above
          ∙ sym (AgreeAbove-below_from var node.var needed.0 (with_bit bits node.var true) low other above)) (asked bits false))
          (asked bits true)

  -- what a part needs, the whole needs
  pub IsNeeded-part : (node : Node) → IsFormed nodes node → IsNeeded nodes part node → IsNeeded nodes whole node
  IsNeeded-part node formed needed =
      let above = needed_above node formed needed in (
        with_bit needed.0 var bit,
        λ bits.
            subst (λ (b : Bits). whole b (leaf_of nodes (end_at node bits) bits)) (with_bit-below_from var node.var needed.0 bits bit above)
            (is.fixes (below_from node.var needed.0 bits) (leaf_of nodes (end_at node bits) bits) (needed.1 bits)),
      )

  pub AddsNeeded-part : (old : List Node) → AddsNeeded old nodes part → AddsNeeded old nodes whole
  AddsNeeded-part old adds place node behind held = IsNeeded-part node (IsFormed-held nodes ordered reduced place node held) (adds place node behind held)

  pub LacksNeeded-part : LacksNeeded nodes part → LacksNeeded nodes whole
  LacksNeeded-part lacks = (lacks.0, lacks.1, lacks.2, IsNeeded-part lacks.0 lacks.1 lacks.3)

-- a target is split at a variable, and two references of the list meet its parts
pub record Ends (nodes : List Node) (whole low_part high_part : Target) (var : ℕ) (low high : Ref) : Type 0 where
  pub low_is : IsPart whole low_part var false
  pub high_is : IsPart whole high_part var true
  pub valid_low : IsValid nodes low
  pub valid_high : IsValid nodes high
  pub low_meets : Meets nodes low_part low
  pub high_meets : Meets nodes high_part high

module _ (nodes : List Node) (ordered : IsOrdered nodes) (reduced : IsReduced nodes) (whole low_part high_part : Target) (var : ℕ) (low high : Ref)
    (ends : Ends nodes whole low_part high_part var low high) where
  -- they test above the variable
  pub TestsAbove-low : TestsAbove nodes var low
  TestsAbove-low = TestsAbove-part nodes ordered reduced whole low_part var false ends.low_is low ends.valid_low ends.low_meets

  pub TestsAbove-high : TestsAbove nodes var high
  TestsAbove-high = TestsAbove-part nodes ordered reduced whole high_part var true ends.high_is high ends.valid_high ends.high_meets

  -- so they may be the ends of a node
  pub IsFormed-ends : low ≢ high → IsFormed nodes (record { var = var; low = low; high = high })
  IsFormed-ends differ = record {
    valid_low = ends.valid_low;
    valid_high = ends.valid_high;
    above_low = TestsAbove-low;
    above_high = TestsAbove-high;
    ends_differ = differ;
  }

  -- which has what the target asks for at the bits from the variable on, whatever the first bits are
  own_later : (first bits : Bits) (bit : Bool) → bits var ≡ bit → whole (below_from var first bits) (leaf_of nodes (if bit then high else low) bits)
  own_later first bits true own =
      let later = below_from var first bits in
      subst (λ (leaf : ℕ). whole later leaf)
      (leaf_of-above nodes ordered var high later bits ends.valid_high TestsAbove-high (AgreeAbove-below_from var var first bits (omega arith)))
      (IsPart-there whole high_part var true ends.high_is later (leaf_of nodes high later) (below_from-later var first bits var (omega arith) ∙ own) (ends.high_meets later))
  own_later first bits false own =
      let later = below_from var first bits in
      subst (λ (leaf : ℕ). whole later leaf)
      (leaf_of-above nodes ordered var low later bits ends.valid_low TestsAbove-low (AgreeAbove-below_from var var first bits (omega arith)))
      (IsPart-there whole low_part var false ends.low_is later (leaf_of nodes low later) (below_from-later var first bits var (omega arith) ∙ own) (ends.low_meets later))

  -- and is needed for it
  pub IsNeeded-ends : IsNeeded nodes whole (record { var = var; low = low; high = high })
  IsNeeded-ends = ((λ _. false), λ bits. own_later (λ _. false) bits (bits var) refl)

  -- a reference with the function of this node meets the target
  pub whole_from : (bits : Bits) (bit : Bool) → bits var ≡ bit → whole bits (if bit then leaf_of nodes high bits else leaf_of nodes low bits)
  whole_from bits true own = IsPart-there whole high_part var true ends.high_is bits (leaf_of nodes high bits) own (ends.high_meets bits)
  whole_from bits false own = IsPart-there whole low_part var false ends.low_is bits (leaf_of nodes low bits) own (ends.low_meets bits)

  pub Meets-ends : (new : List Node) (made : Ref)
      → ((bits : Bits) → leaf_of new made bits ≡ (if bits var then leaf_of nodes high bits else leaf_of nodes low bits)) → Meets new whole made
  Meets-ends new made function bits = subst (λ (leaf : ℕ). whole bits leaf) (sym (function bits)) (whole_from bits (bits var) refl)

  -- the list with this node behind it has gained a node that is needed
  pub AddsNeeded-ends : (new : List Node) → Appends nodes new (record { var = var; low = low; high = high }) → AddsNeeded nodes new whole
  AddsNeeded-ends new (inl same) place node behind held =
      let within : place < length nodes = slice_get_within nodes place node (ap (λ list. slice_get list place) (sym same) ∙ held) in
      absurd (omega arith)
  AddsNeeded-ends new (inr added) place node behind held =
      let own : Node = record { var = var; low = low; high = high } in
      ⊎_elim
      (λ there. let within : place < length nodes = slice_get_within nodes place node there in absurd (omega arith))
      (λ last. subst (λ (n : Node). IsNeeded new whole n) last.1
      (IsNeeded-extends nodes new ordered (own ∷ [], added.2) whole whole (λ bits number there. there) own (IsFormed-ends added.0) IsNeeded-ends))
      (slice_get-pushed nodes own place node (ap (λ list. slice_get list place) (sym added.2) ∙ held))
