-- The bits that are taken lead nearest, and no lower bits do.
use Rattle.std.proofs.Common.{◌≡◌, ℕ, suc, ◌+◌, ◌-◌, ◌≤◌, Bool, true, false, if◌then◌else◌, inl, inr, List, [], ◌∷◌, ◌++◌, length, drop, get_or, slice_get, Some, refl, sym, ap, subst, ◌∙◌, arith, append_assoc}
use Rattle.std.proofs.lemmas.Bool.{eq-eqb, ne_eqb, cases_eq}
use Rattle.std.proofs.lemmas.List.{drop_more}
use Rattle.std.proofs.lemmas.Option.{none-some, slice_get_within, get_or_from_slice_get}
use Rattle.ms_arena.specs.declared.node.Ref.{Ref}
use Rattle.ms_arena.specs.declared.node.Ref.TheVariants.{Leaf, Inner}
use Rattle.ms_arena.specs.declared.node.Node.{Node}
use Rattle.ms_arena.specs.Bits.{AgreeAbove}
use Rattle.ms_arena.specs.Diagram.{Bits, leaf_of, IsValid, IsOrdered, TestsAbove}
use Rattle.ms_arena.specs.Halves.{half_of, TestsFrom}
use Rattle.ms_arena.specs.Reach.{TestsOnly}
use Rattle.ms_arena.proofs.BitsLemmas.{with_bit-own}
use Rattle.ms_arena.proofs.Canonicity.{leaf_of-above}
use Rattle.ms_arena.proofs.HalvesLemmas.{Halved, at_node, above, halved, IsValid-half, TestsAbove-half, leaf_of-half}
use Rattle.ms_arena.proofs.Lists.{slice_get-held}
use Rattle.ms_arena.proofs.Paths.{leaf_of-leaf}
use Rattle.ms_arena.proofs.ReachLemmas.{IsTested-own, IsTested-end}
use Rattle.ms_logic.specs.declared.mode.Order.{Order}
use Rattle.ms_logic.specs.Assignment.{Variable}
use Rattle.ms_logic.specs.First.{IsLower}
use Rattle.ms_logic_words.specs.Content.{Content, IsFollowed, HasValueAt, count_of, padded}
use Rattle.ms_logic_words.specs.declared.sign.Sign.{Sign}
use Rattle.ms_best.specs.inner.Automaton.{distance_of, AreDistancesFrom}
use Rattle.ms_best.specs.inner.Least.{needs_one, least_values}
use Rattle.ms_best.proofs.Nearness.{distance_of-halves, no_nearer}

-- a list of bits for the variables from a place on
abbrev pub bits_from : ℕ → List Bool → Bits
bits_from place values = λ var. get_or values (var - place) false

-- a reference tests from the first variable on
pub from_first : (nodes : List Node) (reference : Ref) → TestsFrom nodes 0 reference
from_first nodes (Leaf value) = tt
from_first nodes (Inner place) = λ node held. omega arith

-- what tests above a variable tests from the next one on
TestsFrom-next : (nodes : List Node) (place : ℕ) (reference : Ref) → TestsAbove nodes place reference → TestsFrom nodes (place + 1) reference
TestsFrom-next nodes place (Leaf value) tests = tt
TestsFrom-next nodes place (Inner at) tests = λ node held. omega (arith, tests node held)

-- the bits of the later variables do not depend on the first one
agree_later : (place : ℕ) (bit : Bool) (values : List Bool) → AgreeAbove place (bits_from place (bit ∷ values)) (bits_from (place + 1) values)
agree_later place bit values other later =
    let one_more : other - place ≡ suc (other - (place + 1)) = omega (arith, later) in
    rw one_more refl

-- and the first bit is that of the first variable
first_bit : (place : ℕ) (bit : Bool) (values : List Bool) → bits_from place (bit ∷ values) place ≡ bit
first_bit place bit values = let none : place - place ≡ 0 = omega arith in rw none refl

module _ (nodes : List Node) (ordered : IsOrdered nodes) where
  -- the leaf of a reference is that of its half, by the later bits
  leaf_of-first : (place : ℕ) (bit : Bool) (values : List Bool) (reference : Ref) → IsValid nodes reference → TestsFrom nodes place reference
      → leaf_of nodes reference (bits_from place (bit ∷ values)) ≡ leaf_of nodes (half_of nodes place bit reference) (bits_from (place + 1) values)
  leaf_of-first place bit values reference valid from =
      ap (leaf_of nodes reference) (sym (with_bit-own (bits_from place (bit ∷ values)) place bit (first_bit place bit values)))
      ∙ sym (leaf_of-half nodes ordered place bit reference valid from (bits_from place (bit ∷ values)))
      ∙ leaf_of-above nodes ordered place (half_of nodes place bit reference) (bits_from place (bit ∷ values)) (bits_from (place + 1) values)
      (IsValid-half nodes ordered place bit reference valid from) (TestsAbove-half nodes ordered place bit reference valid from) (agree_later place bit values)

  -- a half tests no more
  TestsOnly-half : (P : ℕ → Type 0) (place : ℕ) (bit : Bool) (reference : Ref) → IsValid nodes reference → TestsFrom nodes place reference
      → TestsOnly nodes P reference → TestsOnly nodes P (half_of nodes place bit reference)
  TestsOnly-half P place bit reference valid from tests = by_halved (halved nodes place bit reference valid from)
    where
      by_halved : Halved nodes place bit reference → TestsOnly nodes P (half_of nodes place bit reference)
      by_halved (at_node at node is held same half) =
          rw half (λ var tested.
          let Q : Ref → Type 0 = λ r. TestsOnly nodes P r in
          (subst Q is tests) var (IsTested-end nodes at node bit var held tested))
      by_halved (above later half) = rw half tests

-- one bit for each variable with a value
pub length-least_values : (content : Content Sign) (distances : List ℕ) (has_value : Order → Bool) (place : ℕ) (vs : List Variable) (reference : Ref) → length (least_values content distances has_value place vs reference) ≡ count_of has_value vs
length-least_values content distances has_value place [] reference = refl
length-least_values content distances has_value place (v ∷ vs) reference =
    (elim (has_value v.order) as (λ test. length (if test then needs_one content distances place reference
    ∷ least_values content distances has_value (place + 1) vs (half_of content.nodes place (needs_one content distances place reference) reference)
    else least_values content distances has_value (place + 1) vs reference) ≡ (if test then count_of has_value vs + 1 else count_of has_value vs)) [
      | true ↦ omega (arith, length-least_values content distances has_value (place + 1) vs (half_of content.nodes place (needs_one content distances place reference) reference))
      | false ↦ length-least_values content distances has_value (place + 1) vs reference
    ])

-- a reference that tests only variables from a place on that have a value
pub record IsRead (content : Content Sign) (has_value : Order → Bool) (place : ℕ) (vs : List Variable) (reference : Ref) : Type 0 where
  pub valid : IsValid content.nodes reference
  pub from : TestsFrom content.nodes place reference
  pub tests : TestsOnly content.nodes (HasValueAt content.variables has_value) reference
  pub rest : (k : ℕ) → slice_get content.variables (place + k) ≡ slice_get vs k

module _ (content : Content Sign) (ordered : IsOrdered content.nodes) (has_value : Order → Bool) where
  -- with no variable left, a reference is a leaf
  is_leaf : (place : ℕ) (reference : Ref) (bits : Bits) → IsRead content has_value place [] reference → Leaf (leaf_of content.nodes reference bits) ≡ reference
  is_leaf place (Leaf value) bits read = ap Leaf (leaf_of-leaf content.nodes bits value)
  is_leaf place (Inner at) bits read =
      let held = slice_get-held content.nodes at read.valid in
      let tested = read.tests held.0.var (IsTested-own content.nodes at held.0 held.1) in
      let later : place ≤ held.0.var = read.from held.0 held.1 in
      let same : place + (held.0.var - place) ≡ held.0.var = omega (arith, later) in
      let nothing = read.rest (held.0.var - place) in
      let found : slice_get content.variables (place + (held.0.var - place)) ≡ Some tested.0 = rw same tested.1 in
      absurd (none-some tested.0 (sym nothing ∙ found))

  -- a reference does not test a variable without a value
  pub passes : (place : ℕ) (v : Variable) (vs : List Variable) (reference : Ref) → has_value v.order ≡ false → IsRead content has_value place (v ∷ vs) reference
      → TestsAbove content.nodes place reference
  passes place v vs (Leaf value) without read = tt
  passes place v vs (Inner at) without read = λ node held.
      let later : place ≤ node.var = read.from node held in
      elim (cases_eq node.var place) [
        | inr differ ↦ omega (arith, later, differ)
        | inl same ↦
            (let tested = read.tests node.var (IsTested-own content.nodes at node held) in
            let first : slice_get content.variables (place + 0) ≡ Some v = read.rest 0 in
            let equal : place + 0 ≡ node.var = omega (arith, same) in
            let there : slice_get content.variables node.var ≡ Some v = rw (← equal) first in
            let is_v : tested.0 ≡ v = cc in
            let value : has_value v.order ≡ true = subst (λ (u : Variable). has_value u.order ≡ true) is_v tested.2 in
            let never : ⊥ = cc in absurd never)
      ]

  next_rest : (place : ℕ) (v : Variable) (vs : List Variable) → ((k : ℕ) → slice_get content.variables (place + k) ≡ slice_get (v ∷ vs) k)
      → (k : ℕ) → slice_get content.variables (place + 1 + k) ≡ slice_get vs k
  next_rest place v vs rest k = let same : place + 1 + k ≡ place + suc k = omega arith in rw same (rest (suc k))

  -- behind a variable that it does not test, it is read on
  pub read_past : (place : ℕ) (v : Variable) (vs : List Variable) (reference : Ref) → has_value v.order ≡ false → IsRead content has_value place (v ∷ vs) reference
      → IsRead content has_value (place + 1) vs reference
  read_past place v vs reference without read = record {
    valid = read.valid;
    from = TestsFrom-next content.nodes place reference (passes place v vs reference without read);
    tests = read.tests;
    rest = next_rest place v vs read.rest;
  }

  -- behind a variable with a value, its half is read on
  pub read_half : (place : ℕ) (v : Variable) (vs : List Variable) (bit : Bool) (reference : Ref) → IsRead content has_value place (v ∷ vs) reference
      → IsRead content has_value (place + 1) vs (half_of content.nodes place bit reference)
  read_half place v vs bit reference read = record {
    valid = IsValid-half content.nodes ordered place bit reference read.valid read.from;
    from = TestsFrom-next content.nodes place (half_of content.nodes place bit reference) (TestsAbove-half content.nodes ordered place bit reference read.valid read.from);
    tests = TestsOnly-half content.nodes ordered (HasValueAt content.variables has_value) place bit reference read.valid read.from read.tests;
    rest = next_rest place v vs read.rest;
  }

module _ (content : Content Sign) (sign : Sign) (distances : List ℕ) (right : AreDistancesFrom content sign distances) (ordered : IsOrdered content.nodes) (has_value : Order → Bool) where
  -- the half that is taken is as near as the reference
  taken_is_as_near : (place : ℕ) (reference : Ref) → IsValid content.nodes reference
      → distance_of content distances (half_of content.nodes place (needs_one content distances place reference) reference) ≡ distance_of content distances reference
  taken_is_as_near place reference valid =
      elim (cases_eq (distance_of content distances (half_of content.nodes place false reference)) (distance_of content distances reference)) [
        | inl same ↦ rw (eq-eqb _ _ same) same
        | inr differ ↦ rw (ne_eqb _ _ differ) (omega (arith, differ, distance_of-halves content sign distances right place reference valid))
      ]

  -- the leaf to which bits lead from a reference, by the variables from a place on
  abbrev pub leaf_by : ℕ → List Variable → List Bool → Ref → Ref
  leaf_by place vs values reference = Leaf (leaf_of content.nodes reference (bits_from place (padded has_value vs values)))

  -- by a first value, the leaf is that of the half
  leaf_by-value : (place : ℕ) (v : Variable) (vs : List Variable) (bit : Bool) (values : List Bool) (reference : Ref) → has_value v.order ≡ true
      → IsRead content has_value place (v ∷ vs) reference
      → leaf_by place (v ∷ vs) (bit ∷ values) reference ≡ leaf_by (place + 1) vs values (half_of content.nodes place bit reference)
  leaf_by-value place v vs bit values reference with_value read =
      rw with_value (ap Leaf (leaf_of-first content.nodes ordered place bit (padded has_value vs values) reference read.valid read.from))

  -- and past a variable without a value it stays
  leaf_by-none : (place : ℕ) (v : Variable) (vs : List Variable) (values : List Bool) (reference : Ref) → has_value v.order ≡ false
      → IsRead content has_value place (v ∷ vs) reference
      → leaf_by place (v ∷ vs) values reference ≡ leaf_by (place + 1) vs values reference
  leaf_by-none place v vs values reference without read =
      rw without (ap Leaf (leaf_of-above content.nodes ordered place reference (bits_from place (false ∷ padded has_value vs values)) (bits_from (place + 1) (padded has_value vs values))
      read.valid (passes content ordered has_value place v vs reference without read) (agree_later place false (padded has_value vs values))))

  -- the bits that are taken, by whether the first variable has a value
  least-value : (place : ℕ) (v : Variable) (vs : List Variable) (reference : Ref) → has_value v.order ≡ true
      → least_values content distances has_value place (v ∷ vs) reference
      ≡ needs_one content distances place reference ∷ least_values content distances has_value (place + 1) vs (half_of content.nodes place (needs_one content distances place reference) reference)
  least-value place v vs reference with_value = rw with_value refl

  least-none : (place : ℕ) (v : Variable) (vs : List Variable) (reference : Ref) → has_value v.order ≡ false
      → least_values content distances has_value place (v ∷ vs) reference ≡ least_values content distances has_value (place + 1) vs reference
  least-none place v vs reference without = rw without refl

  -- they lead as near as the reference is
  pub least_leads : (place : ℕ) (vs : List Variable) (reference : Ref) → IsRead content has_value place vs reference
      → distance_of content distances (leaf_by place vs (least_values content distances has_value place vs reference) reference) ≡ distance_of content distances reference
  least_leads place [] reference read = ap (distance_of content distances) (is_leaf content ordered has_value place reference (bits_from place []) read)
  least_leads place (v ∷ vs) reference read =
      (elim (has_value v.order) as (λ test. has_value v.order ≡ test
      → distance_of content distances (leaf_by place (v ∷ vs) (least_values content distances has_value place (v ∷ vs) reference) reference) ≡ distance_of content distances reference) [
        | true ↦ λ with_value.
            (let bit = needs_one content distances place reference in
            let half = half_of content.nodes place bit reference in
            let values = least_values content distances has_value (place + 1) vs half in
            ap (λ found. distance_of content distances (leaf_by place (v ∷ vs) found reference)) (least-value place v vs reference with_value)
            ∙ ap (distance_of content distances) (leaf_by-value place v vs bit values reference with_value read)
            ∙ least_leads (place + 1) vs half (read_half content ordered has_value place v vs bit reference read)
            ∙ taken_is_as_near place reference read.valid)
        | false ↦ λ without.
            ap (λ found. distance_of content distances (leaf_by place (v ∷ vs) found reference)) (least-none place v vs reference without)
            ∙ ap (distance_of content distances) (leaf_by-none place v vs (least_values content distances has_value (place + 1) vs reference) reference without read)
            ∙ least_leads (place + 1) vs reference (read_past content ordered has_value place v vs reference without read)
      ]) refl

  -- a half from which bits lead as near as the reference is, is as near
  half_is_as_near : (place : ℕ) (vs : List Variable) (bit : Bool) (values : List Bool) (reference : Ref) → IsValid content.nodes reference → TestsFrom content.nodes place reference
      → distance_of content distances (leaf_by (place + 1) vs values (half_of content.nodes place bit reference)) ≡ distance_of content distances reference
      → distance_of content distances (half_of content.nodes place bit reference) ≡ distance_of content distances reference
  half_is_as_near place vs bit values reference valid from leads =
      let lower = no_nearer content sign distances right ordered (bits_from (place + 1) (padded has_value vs values)) (length content.nodes) (half_of content.nodes place bit reference) (omega arith)
      (IsValid-half content.nodes ordered place bit reference valid from) in
      let halves = distance_of-halves content sign distances right place reference valid in
      (elim bit as (λ b. distance_of content distances (half_of content.nodes place b reference) ≤ distance_of content distances reference
      → distance_of content distances (half_of content.nodes place b reference) ≡ distance_of content distances reference) [
        | true ↦ λ near. omega (arith, near, halves)
        | false ↦ λ near. omega (arith, near, halves)
      ]) (omega (arith, lower, leads))

  -- so the bit 0 is taken where it may be
  needs_none : (place : ℕ) (reference : Ref) → distance_of content distances (half_of content.nodes place false reference) ≡ distance_of content distances reference
      → needs_one content distances place reference ≡ false
  needs_none place reference same = rw (eq-eqb _ _ same) refl

  -- no lower bits for the variables from a place on lead as near from any reference
  abbrev pub NoneLower : ℕ → List Variable → Type 0
  NoneLower place vs =
      (reference : Ref) (values : List Bool) → IsRead content has_value place vs reference → length values ≡ count_of has_value vs
      → distance_of content distances (leaf_by place vs values reference) ≡ distance_of content distances reference
      → IsLower values (least_values content distances has_value place vs reference) → ⊥

  none_lower-bits : (place : ℕ) (v : Variable) (vs : List Variable) (reference : Ref) → NoneLower (place + 1) vs → IsRead content has_value place (v ∷ vs) reference
      → (bit taken : Bool) (more : List Bool) → needs_one content distances place reference ≡ taken → length more ≡ count_of has_value vs
      → distance_of content distances (leaf_by (place + 1) vs more (half_of content.nodes place bit reference)) ≡ distance_of content distances reference
      → IsLower (bit ∷ more) (taken ∷ least_values content distances has_value (place + 1) vs (half_of content.nodes place taken reference)) → ⊥
  none_lower-bits place v vs reference later read true false more taken count leads lower = lower
  none_lower-bits place v vs reference later read false true more taken count leads lower =
      let near = half_is_as_near place vs false more reference read.valid read.from leads in
      let zero_taken = needs_none place reference near in
      let never : ⊥ = cc in absurd never
  none_lower-bits place v vs reference later read false false more taken count leads lower =
      let near = half_is_as_near place vs false more reference read.valid read.from leads in
      later (half_of content.nodes place false reference) more (read_half content ordered has_value place v vs false reference read) count (leads ∙ sym near) lower
  none_lower-bits place v vs reference later read true true more taken count leads lower =
      let near = half_is_as_near place vs true more reference read.valid read.from leads in
      later (half_of content.nodes place true reference) more (read_half content ordered has_value place v vs true reference read) count (leads ∙ sym near) lower

  none_lower-value : (place : ℕ) (v : Variable) (vs : List Variable) (reference : Ref) → NoneLower (place + 1) vs → IsRead content has_value place (v ∷ vs) reference
      → (values : List Bool) → has_value v.order ≡ true → length values ≡ count_of has_value vs + 1
      → distance_of content distances (leaf_by place (v ∷ vs) values reference) ≡ distance_of content distances reference
      → IsLower values (needs_one content distances place reference
      ∷ least_values content distances has_value (place + 1) vs (half_of content.nodes place (needs_one content distances place reference) reference)) → ⊥
  none_lower-value place v vs reference later read [] with_value count leads lower = lower
  none_lower-value place v vs reference later read (bit ∷ more) with_value count leads lower =
      none_lower-bits place v vs reference later read bit (needs_one content distances place reference) more refl (omega (arith, count))
      (ap (distance_of content distances) (sym (leaf_by-value place v vs bit more reference with_value read)) ∙ leads) lower

  counted : (v : Variable) (vs : List Variable) (values : List Bool) (test : Bool) → has_value v.order ≡ test → length values ≡ count_of has_value (v ∷ vs)
      → length values ≡ (if test then count_of has_value vs + 1 else count_of has_value vs)
  counted v vs values test same count =
      let P : Bool → Type 0 = λ b. length values ≡ (if b then count_of has_value vs + 1 else count_of has_value vs) in subst P same count

  pub none_lower : (place : ℕ) (vs : List Variable) → NoneLower place vs
  none_lower place [] reference [] read count leads lower = lower
  none_lower place [] reference (bit ∷ values) read count leads lower = lower
  none_lower place (v ∷ vs) reference values read count leads lower =
      (elim (has_value v.order) as (λ test. has_value v.order ≡ test → ⊥) [
        | true ↦ λ with_value.
            none_lower-value place v vs reference (none_lower (place + 1) vs) read values with_value (counted v vs values true with_value count)
            leads (subst (λ found. IsLower values found) (least-value place v vs reference with_value) lower)
        | false ↦ λ without.
            none_lower (place + 1) vs reference values (read_past content ordered has_value place v vs reference without read) (counted v vs values false without count)
            (ap (distance_of content distances) (sym (leaf_by-none place v vs values reference without read)) ∙ leads)
            (subst (λ found. IsLower values found) (least-none place v vs reference without) lower)
      ]) refl

-- bits that have been taken from a root for the variables before a place, and the reference that they lead to
pub record Taken (content : Content Sign) (distances : List ℕ) (has_value : Order → Bool) (root : Ref) (place : ℕ) (values : List Bool) (reference : Ref) : Type 0 where
  pub read : IsRead content has_value place (drop place content.variables) reference
  pub sofar :
      values ++ least_values content distances has_value place (drop place content.variables) reference
      ≡ least_values content distances has_value 0 content.variables root

module _ (content : Content Sign) (distances : List ℕ) (ordered : IsOrdered content.nodes) (has_value : Order → Bool) (root : Ref) where
  pub taken_first : IsFollowed content has_value root → Taken content distances has_value root 0 [] root
  taken_first followed = record {
    read = record {
      valid = followed.valid;
      from = from_first content.nodes root;
      tests = followed.tests;
      rest = λ k. let same : 0 + k ≡ k = omega arith in rw same refl;
    };
    sofar = refl;
  }

  module _ (place : ℕ) (v : Variable) (values : List Bool) (reference : Ref) (there : slice_get content.variables place ≡ Some v) (taken : Taken content distances has_value root place values reference) where
    dropped : drop place content.variables ≡ v ∷ drop (place + 1) content.variables
    dropped =
        drop_more content.variables place v (slice_get_within content.variables place v there)
        ∙ ap (λ u. u ∷ drop (place + 1) content.variables) (get_or_from_slice_get content.variables place v v there)

    read_on : IsRead content has_value place (v ∷ drop (place + 1) content.variables) reference
    read_on = let P : List Variable → Type 0 = λ vs. IsRead content has_value place vs reference in subst P dropped taken.read

    -- a variable without a value is passed
    pub taken_past : has_value v.order ≡ false → Taken content distances has_value root (place + 1) values reference
    taken_past without = record {
      read = read_past content ordered has_value place v (drop (place + 1) content.variables) reference without read_on;
      sofar =
          sym (ap (λ vs. values ++ least_values content distances has_value place vs reference) dropped
          ∙ ap (λ test. values ++ (if test then needs_one content distances place reference
          ∷ least_values content distances has_value (place + 1) (drop (place + 1) content.variables) (half_of content.nodes place (needs_one content distances place reference) reference)
          else least_values content distances has_value (place + 1) (drop (place + 1) content.variables) reference)) without)
          ∙ taken.sofar;
    }

    -- a variable with a value has its bit taken
    pub taken_more : (bit : Bool) → has_value v.order ≡ true → bit ≡ needs_one content distances place reference
        → Taken content distances has_value root (place + 1) (values ++ bit ∷ []) (half_of content.nodes place bit reference)
    taken_more bit with_value is = record {
      read = read_half content ordered has_value place v (drop (place + 1) content.variables) bit reference read_on;
      sofar =
          append_assoc values (bit ∷ []) (least_values content distances has_value (place + 1) (drop (place + 1) content.variables) (half_of content.nodes place bit reference))
          ∙ ap (λ b. values ++ b ∷ least_values content distances has_value (place + 1) (drop (place + 1) content.variables) (half_of content.nodes place b reference)) is
          ∙ sym (ap (λ vs. values ++ least_values content distances has_value place vs reference) dropped
          ∙ ap (λ test. values ++ (if test then needs_one content distances place reference
          ∷ least_values content distances has_value (place + 1) (drop (place + 1) content.variables) (half_of content.nodes place (needs_one content distances place reference) reference)
          else least_values content distances has_value (place + 1) (drop (place + 1) content.variables) reference)) with_value)
          ∙ taken.sofar;
    }
