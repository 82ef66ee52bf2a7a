-- The pair of two functions' leaves, split at a variable.
use Rattle.std.proofs.Common.{◌≡◌, ℕ, ◌<◌, ◌⊎◌, min, Bool, true, false, List, length, slice_get, Some, Result, Ok, Err, IfOk, sym, ap, subst, ◌∙◌, inl, inr, ⊎_elim, arith}
use Rattle.std.proofs.lemmas.Bool.{cases_lt}
use Rattle.ms_list.specs.declared.fault.StepFault.{StepFault}
use Rattle.ms_list.specs.declared.fault.StepFault.TheVariants.{Nodes, Memory}
use Rattle.ms_arena.specs.declared.node.Ref.{Ref}
use Rattle.ms_arena.specs.declared.node.Ref.TheVariants.{Leaf, Inner}
use Rattle.ms_arena.specs.declared.node.Node.{Node}
use Rattle.ms_arena.specs.Diagram.{Bits, leaf_of, IsValid, IsOrdered}
use Rattle.ms_arena.specs.Bits.{with_bit, AgreeAbove}
use Rattle.ms_arena.specs.Halves.{half_of, TestsFrom, TestsAt, level_of}
use Rattle.ms_arena.specs.Target.{Extends}
use Rattle.ms_arena.proofs.Canonicity.{leaf_of-above}
use Rattle.ms_arena.proofs.Appending.{IsValid-extends, TestsAbove-extends, leaf_of-extends}
use Rattle.ms_arena.proofs.HalvesLemmas.{IsValid-half, TestsAbove-half, leaf_of-half, TestsAt-level}
use Rattle.ms_arena.proofs.Needs.{Implies, IsPart}
use Rattle.ms_arena.proofs.Paths.{leaf_of-leaf}
use Rattle.ms_diagram.specs.Growth.{OnNodes, IsFull, Builds}
use Rattle.ms_diagram.specs.Store.{Contents, IsStore}
use Rattle.ms_diagram.proofs.Building.{Grows-same, Builds-found, IsPart-implies}
use Rattle.ms_diagram.specs.Numbering.{HasNoRepeats, IsMissing, IsLeafOf}
use Rattle.ms_diagram.specs.inner.Adding.{AddsOnly-implies}
use Rattle.ms_diagram.specs.inner.Applying.{applying, leaves_later, leaves_later_has}
use Rattle.ms_diagram.specs.inner.Walk.{OnFault, IsSplit}
use Rattle.ms_diagram.specs.Apply.{leaves_at, HasLeaves, PairNumber, LacksPair, IsPairBranch}

module _ (old new : List Node) (ordered : IsOrdered old) (ordered_new : IsOrdered new) (extends : Extends old new) (var : ℕ) (bit : Bool) (root : Ref)
    (valid : IsValid old root) (from : TestsFrom old var root) where
  -- the half of a reference, in a longer list, has the leaf of the reference at the bits with the bit
  pub half_leaf : (bits : Bits) → leaf_of new (half_of old var bit root) bits ≡ leaf_of old root (with_bit bits var bit)
  half_leaf bits =
      leaf_of-extends old new extends ordered (half_of old var bit root) bits (IsValid-half old ordered var bit root valid from)
      ∙ leaf_of-half old ordered var bit root valid from bits

  -- and reads no bit up to the variable
  pub half_blind : (one two : Bits) → AgreeAbove var one two → leaf_of new (half_of old var bit root) one ≡ leaf_of new (half_of old var bit root) two
  half_blind one two agree =
      leaf_of-above new ordered_new var (half_of old var bit root) one two
      (IsValid-extends old new extends (half_of old var bit root) (IsValid-half old ordered var bit root valid from))
      (TestsAbove-extends old new extends var (half_of old var bit root) (IsValid-half old ordered var bit root valid from)
      (TestsAbove-half old ordered var bit root valid from)) agree

module _ (old new : List Node) (ordered : IsOrdered old) (ordered_new : IsOrdered new) (extends : Extends old new) (pairs : List (ℕ × ℕ)) (var : ℕ) (bit : Bool) (f g : Ref)
    (valid_f : IsValid old f) (valid_g : IsValid old g) (from_f : TestsFrom old var f) (from_g : TestsFrom old var g) where
  halves_leaves : (bits : Bits) → leaves_at new (half_of old var bit f) (half_of old var bit g) bits ≡ leaves_at old f g (with_bit bits var bit)
  halves_leaves bits =
      let left = half_leaf old new ordered ordered_new extends var bit f valid_f from_f bits in
      let right = half_leaf old new ordered ordered_new extends var bit g valid_g from_g bits in
      λ i. (left i, right i)

  -- the halves have a part of the target
  pub PairNumber-part : HasNoRepeats pairs → IsPart (PairNumber old pairs f g) (PairNumber new pairs (half_of old var bit f) (half_of old var bit g)) var bit
  PairNumber-part distinct = record {
    fixes = λ bits number there. there ∙ ap Some (halves_leaves bits);
    single = λ bits one two first second. distinct one two (leaves_at new (half_of old var bit f) (half_of old var bit g) bits) first second;
    blind = λ one two number agree there.
        let left = half_blind old new ordered ordered_new extends var bit f valid_f from_f one two agree in
        let right = half_blind old new ordered ordered_new extends var bit g valid_g from_g one two agree in
        there ∙ (λ i. Some (left i, right i));
  }

  -- a pair that is missing for the halves is missing for the whole
  pub LacksPair-part : LacksPair new pairs (half_of old var bit f) (half_of old var bit g) → LacksPair old pairs f g
  LacksPair-part lacks = (lacks.0, (with_bit lacks.1.0 var bit, subst (λ pair. IsMissing pairs pair) (halves_leaves lacks.1.0) lacks.1.1))

  -- the halves have leaves that the whole has
  pub HasLeaves-part : (pair : ℕ × ℕ) → HasLeaves new (half_of old var bit f) (half_of old var bit g) pair → HasLeaves old f g pair
  HasLeaves-part pair has = (with_bit has.0 var bit, sym (halves_leaves has.0) ∙ has.1)

-- the least level of two references, of which one is no leaf, is a variable that one of them tests
pub tested_at_least : (nodes : List Node) (f g : Ref) (var : ℕ) → IsValid nodes f → IsValid nodes g → var ≡ min (level_of nodes f) (level_of nodes g) → var < 4294967296
    → TestsAt nodes var f ⊎ TestsAt nodes var g
tested_at_least nodes f g var valid_f valid_g least small = ⊎_elim
    (λ less. inl (TestsAt-level nodes var f valid_f (omega arith) small))
    (λ more. inr (TestsAt-level nodes var g valid_g (omega arith) small))
    (cases_lt (level_of nodes f) (level_of nodes g))

-- two references split at the first variable that one of them tests
module _ (nodes : List Node) (ordered : IsOrdered nodes) (f g : Ref) (var : ℕ) (low high : Ref × Ref) (valid_f : IsValid nodes f) (valid_g : IsValid nodes g)
    (branch : IsPairBranch nodes f g var low high) where
  halves_valid : (bit : Bool) (pair : Ref × Ref) → pair ≡ (half_of nodes var bit f, half_of nodes var bit g) → IsValid nodes pair.0 × IsValid nodes pair.1
  halves_valid bit pair is =
      subst (λ (p : Ref × Ref). IsValid nodes p.0 × IsValid nodes p.1) (sym is)
      (IsValid-half nodes ordered var bit f valid_f branch.from_f, IsValid-half nodes ordered var bit g valid_g branch.from_g)

  -- both pairs of halves are valid
  pub valid_lows : IsValid nodes low.0 × IsValid nodes low.1
  valid_lows = halves_valid false low branch.low_is

  pub valid_highs : IsValid nodes high.0 × IsValid nodes high.1
  valid_highs = halves_valid true high branch.high_is

  module _ (new : List Node) (ordered_new : IsOrdered new) (extends : Extends nodes new) (pairs : List (ℕ × ℕ)) where
    -- they have the parts of the target
    pub lows_part : HasNoRepeats pairs → IsPart (PairNumber nodes pairs f g) (PairNumber new pairs low.0 low.1) var false
    lows_part distinct =
        subst (λ (p : Ref × Ref). IsPart (PairNumber nodes pairs f g) (PairNumber new pairs p.0 p.1) var false) (sym branch.low_is)
        (PairNumber-part nodes new ordered ordered_new extends pairs var false f g valid_f valid_g branch.from_f branch.from_g distinct)

    pub highs_part : HasNoRepeats pairs → IsPart (PairNumber nodes pairs f g) (PairNumber new pairs high.0 high.1) var true
    highs_part distinct =
        subst (λ (p : Ref × Ref). IsPart (PairNumber nodes pairs f g) (PairNumber new pairs p.0 p.1) var true) (sym branch.high_is)
        (PairNumber-part nodes new ordered ordered_new extends pairs var true f g valid_f valid_g branch.from_f branch.from_g distinct)

    -- and what they lack, the whole lacks
    pub lows_lack : LacksPair new pairs low.0 low.1 → LacksPair nodes pairs f g
    lows_lack lacks =
        LacksPair-part nodes new ordered ordered_new extends pairs var false f g valid_f valid_g branch.from_f branch.from_g
        (subst (λ (p : Ref × Ref). LacksPair new pairs p.0 p.1) branch.low_is lacks)

    pub highs_lack : LacksPair new pairs high.0 high.1 → LacksPair nodes pairs f g
    highs_lack lacks =
        LacksPair-part nodes new ordered ordered_new extends pairs var true f g valid_f valid_g branch.from_f branch.from_g
        (subst (λ (p : Ref × Ref). LacksPair new pairs p.0 p.1) branch.high_is lacks)

    -- and the leaves that they have, the whole has
    pub lows_leaves : (pair : ℕ × ℕ) → HasLeaves new low.0 low.1 pair → HasLeaves nodes f g pair
    lows_leaves pair has =
        HasLeaves-part nodes new ordered ordered_new extends pairs var false f g valid_f valid_g branch.from_f branch.from_g pair
        (subst (λ (p : Ref × Ref). HasLeaves new p.0 p.1 pair) branch.low_is has)

    pub highs_leaves : (pair : ℕ × ℕ) → HasLeaves new high.0 high.1 pair → HasLeaves nodes f g pair
    highs_leaves pair has =
        HasLeaves-part nodes new ordered ordered_new extends pairs var true f g valid_f valid_g branch.from_f branch.from_g pair
        (subst (λ (p : Ref × Ref). HasLeaves new p.0 p.1 pair) branch.high_is has)

-- two leaves have their pair
pub HasLeaves-leaf : (nodes : List Node) (left right : ℕ) (f g : Ref) → f ≡ Leaf left → g ≡ Leaf right → HasLeaves nodes f g (left, right)
HasLeaves-leaf nodes left right f g left_is right_is =
    let first = ap (λ (r : Ref). leaf_of nodes r (λ _. false)) left_is ∙ leaf_of-leaf nodes (λ _. false) left in
    let second = ap (λ (r : Ref). leaf_of nodes r (λ _. false)) right_is ∙ leaf_of-leaf nodes (λ _. false) right in
    ((λ _. false), λ i. (first i, second i))

-- two leaves have the number of their pair at all bits
pub Builds-leaf : (store : Contents) (pairs : List (ℕ × ℕ)) (left right : ℕ) (f g : Ref) (result : Result Ref StepFault) → IsStore store.nodes store.limit
    → f ≡ Leaf left → g ≡ Leaf right → IfOk result (IsLeafOf pairs (left, right))
    → OnNodes result (λ limit. (limit ≡ store.limit) × (length pairs ≡ 4294967295) × IsMissing pairs (left, right))
    → Builds store store (PairNumber store.nodes pairs f g) (LacksPair store.nodes pairs f g) result
Builds-leaf store pairs left right f g result is left_is right_is made nodes =
    subst (λ (r : Ref). Builds store store (PairNumber store.nodes pairs r g) (LacksPair store.nodes pairs r g) result) (sym left_is)
    (subst (λ (r : Ref). Builds store store (PairNumber store.nodes pairs (Leaf left) r) (LacksPair store.nodes pairs (Leaf left) r) result) (sym right_is) (by result made nodes))
  where
    leaves : (bits : Bits) → leaves_at store.nodes (Leaf left) (Leaf right) bits ≡ (left, right)
    leaves bits =
        let first = leaf_of-leaf store.nodes bits left in
        let second = leaf_of-leaf store.nodes bits right in
        λ i. (first i, second i)

    by : (r : Result Ref StepFault) → IfOk r (IsLeafOf pairs (left, right))
        → OnNodes r (λ limit. (limit ≡ store.limit) × (length pairs ≡ 4294967295) × IsMissing pairs (left, right))
        → Builds store store (PairNumber store.nodes pairs (Leaf left) (Leaf right)) (LacksPair store.nodes pairs (Leaf left) (Leaf right)) r
    by (Ok (Leaf number)) made nodes =
        Builds-found store (PairNumber store.nodes pairs (Leaf left) (Leaf right)) (LacksPair store.nodes pairs (Leaf left) (Leaf right)) (Leaf number) is tt
        (λ bits. ap (slice_get pairs) (leaf_of-leaf store.nodes bits number) ∙ made ∙ ap Some (sym (leaves bits)))
    by (Ok (Inner place)) made nodes = absurd made
    by (Err fault) made nodes = record {
      grows = Grows-same store (PairNumber store.nodes pairs (Leaf left) (Leaf right)) is;
      valid = tt;
      function = tt;
      nodes = lacks fault nodes;
    }
      where
        lacks : (f : StepFault) → OnNodes (Err f) (λ limit. (limit ≡ store.limit) × (length pairs ≡ 4294967295) × IsMissing pairs (left, right))
            → OnNodes (Err f) (λ limit. (limit ≡ store.limit) × (IsFull store (PairNumber store.nodes pairs (Leaf left) (Leaf right)) ⊎ LacksPair store.nodes pairs (Leaf left) (Leaf right)))
        lacks Memory full = tt
        lacks (Nodes n) full = (full.0, inr (full.1, ((λ _. false), subst (λ pair. IsMissing pairs pair) (sym (leaves (λ _. false))) full.2)))

-- where their pair has no number, they lack one
pub leaves_lack : (nodes : List Node) (pairs : List (ℕ × ℕ)) (left right limit : ℕ) (f g : Ref) (fault : StepFault) → f ≡ Leaf left → g ≡ Leaf right
    → OnNodes (Err fault) (λ most. (most ≡ limit) × (length pairs ≡ 4294967295) × IsMissing pairs (left, right))
    → OnFault fault (λ most. (most ≡ limit) × LacksPair nodes pairs f g)
leaves_lack nodes pairs left right limit f g Memory left_is right_is given = tt
leaves_lack nodes pairs left right limit f g (Nodes most) left_is right_is given =
    let has = HasLeaves-leaf nodes left right f g left_is right_is in
    (given.0, (given.1, (has.0, subst (λ pair. IsMissing pairs pair) (sym has.1) given.2)))

-- the halves of two references, as the walk goes on
pub applying_split : (pairs : List (ℕ × ℕ)) (nodes : List Node) → IsOrdered nodes → (item : Ref × Ref) → IsValid nodes item.0 × IsValid nodes item.1 → (var : ℕ) (low high : Ref × Ref)
    → IsPairBranch nodes item.0 item.1 var low high → IsSplit applying pairs nodes item var low high
applying_split pairs nodes ordered item valid var low high branch late new follows =
    let f = item.0 in
    let g = item.1 in
    let lows = valid_lows nodes ordered f g var low high valid.0 valid.1 branch in
    let highs = valid_highs nodes ordered f g var low high valid.0 valid.1 branch in
    let same = leaves_later nodes new ordered follows.extends item valid in
    let implies : Implies (PairNumber nodes late f g) (PairNumber new late f g) = λ bits number there. there ∙ ap Some (sym (same bits)) in
    let lacks : LacksPair nodes late f g → LacksPair new late f g = λ lacks. (lacks.0, (lacks.1.0, subst (λ pair. IsMissing late pair) (sym (same lacks.1.0)) lacks.1.1)) in
    let has = leaves_later_has nodes new ordered follows.extends item valid in
    record {
      low_fits = (IsValid-extends nodes new follows.extends low.0 lows.0, IsValid-extends nodes new follows.extends low.1 lows.1);
      high_fits = (IsValid-extends nodes new follows.extends high.0 highs.0, IsValid-extends nodes new follows.extends high.1 highs.1);
      low_is = IsPart-implies (PairNumber nodes late f g) (PairNumber new late f g) (PairNumber new late low.0 low.1) var false implies
          (lows_part nodes ordered f g var low high valid.0 valid.1 branch new follows.ordered follows.extends late follows.right.no_repeats);
      high_is = IsPart-implies (PairNumber nodes late f g) (PairNumber new late f g) (PairNumber new late high.0 high.1) var true implies
          (highs_part nodes ordered f g var low high valid.0 valid.1 branch new follows.ordered follows.extends late follows.right.no_repeats);
      low_lacks = λ lack. lacks (lows_lack nodes ordered f g var low high valid.0 valid.1 branch new follows.ordered follows.extends late lack);
      high_lacks = λ lack. lacks (highs_lack nodes ordered f g var low high valid.0 valid.1 branch new follows.ordered follows.extends late lack);
      low_adds = λ before after. AddsOnly-implies (HasLeaves new low.0 low.1) (HasLeaves new f g) before after
          (λ pair own. has pair (lows_leaves nodes ordered f g var low high valid.0 valid.1 branch new follows.ordered follows.extends late pair own));
      high_adds = λ before after. AddsOnly-implies (HasLeaves new high.0 high.1) (HasLeaves new f g) before after
          (λ pair own. has pair (highs_leaves nodes ordered f g var low high valid.0 valid.1 branch new follows.ordered follows.extends late pair own));
    }
