-- The two halves of a reference at a variable are what is left of its function.
use Rattle.std.proofs.Common.{◌≡◌, ℕ, ◌<◌, ◌≤◌, Bool, if◌then◌else◌, List, length, slice_get, Some, refl, sym, ap, subst, ◌∙◌, ⊎_elim, arith}
use Rattle.std.proofs.lemmas.Bool.{eq-eqb, ne_eqb, cases_eq}
use Rattle.std.proofs.lemmas.Option.{slice_get_within, same_Some}
use Rattle.ms_arena.specs.declared.node.Ref.{Ref}
use Rattle.ms_arena.specs.declared.node.Ref.TheVariants.{Leaf, Inner}
use Rattle.ms_arena.specs.declared.node.Node.{Node}
use Rattle.ms_arena.specs.Diagram.{Bits, leaf_of, IsBefore, IsValid, TestsAbove, IsOrdered}
use Rattle.ms_arena.specs.Bits.{with_bit}
use Rattle.ms_arena.specs.Halves.{half_behind, half_of, TestsFrom, TestsAt, size_of, level_behind, level_of}
use Rattle.ms_arena.proofs.Lists.{slice_get-held}
use Rattle.ms_arena.proofs.BitsLemmas.{AgreeAbove-with_bit}
use Rattle.ms_arena.proofs.Paths.{IsBefore-later}
use Rattle.ms_arena.proofs.Canonicity.{end_for, leaf_of-above, leaf_of-end_for, IsBefore-end_for, TestsAbove-end_for}

-- a reference either tests the variable at its node, or tests above it and is its own half
pub data Halved (nodes : List Node) (var : ℕ) (bit : Bool) (reference : Ref) : Type 0 where
  at_node : (place : ℕ) (node : Node) → reference ≡ Inner place → slice_get nodes place ≡ Some node → node.var ≡ var
      → half_of nodes var bit reference ≡ end_for node bit → Halved nodes var bit reference
  above : TestsAbove nodes var reference → half_of nodes var bit reference ≡ reference → Halved nodes var bit reference

pub halved : (nodes : List Node) (var : ℕ) (bit : Bool) (reference : Ref) → IsValid nodes reference → TestsFrom nodes var reference → Halved nodes var bit reference
halved nodes var bit (Leaf value) valid from = above tt refl
halved nodes var bit (Inner place) valid from =
    let held = slice_get-held nodes place valid in
    ⊎_elim
    (λ same. at_node place held.0 refl held.1 same
    (ap (half_behind var bit place) held.1 ∙ ap (λ test. if test then end_for held.0 bit else Inner place) (eq-eqb held.0.var var same)))
    (λ differs.
    let later : var ≤ held.0.var = from held.0 held.1 in
    above (λ node there. let same : held.0 ≡ node = same_Some held.0 node (sym held.1 ∙ there) in rw (← same) (omega (arith, differs)))
    (ap (half_behind var bit place) held.1 ∙ ap (λ test. if test then end_for held.0 bit else Inner place) (ne_eqb held.0.var var differs)))
    (cases_eq held.0.var var)

-- a reference before a place is no larger than it
pub size-IsBefore : (place : ℕ) (reference : Ref) → IsBefore place reference → size_of reference ≤ place
size-IsBefore place (Leaf value) before = omega arith
size-IsBefore place (Inner other) before = before

module _ (nodes : List Node) (ordered : IsOrdered nodes) (var : ℕ) (bit : Bool) (reference : Ref) where
  valid_by : IsValid nodes reference → Halved nodes var bit reference → IsValid nodes (half_of nodes var bit reference)
  valid_by valid (at_node place node is held same half) =
      let within : place < length nodes = slice_get_within nodes place node held in
      rw half (IsBefore-later place (length nodes) (end_for node bit) (omega arith) (IsBefore-end_for nodes ordered place node bit held))
  valid_by valid (above tests half) = rw half valid

  above_by : Halved nodes var bit reference → TestsAbove nodes var (half_of nodes var bit reference)
  above_by (at_node place node is held same half) = rw half (subst (λ v. TestsAbove nodes v (end_for node bit)) same (TestsAbove-end_for nodes ordered place node bit held))
  above_by (above tests half) = rw half tests

  leaf_by : (bits : Bits) → IsValid nodes reference → Halved nodes var bit reference → leaf_of nodes (half_of nodes var bit reference) bits ≡ leaf_of nodes reference (with_bit bits var bit)
  leaf_by bits valid (at_node place node is held same half) =
      let within : place < length nodes = slice_get_within nodes place node held in
      rw (half, is) (sym (ap (λ v. leaf_of nodes (Inner place) (with_bit bits v bit)) (sym same)
      ∙ leaf_of-end_for nodes ordered place node bit bits held
      (IsBefore-later place (length nodes) (end_for node bit) (omega arith) (IsBefore-end_for nodes ordered place node bit held))))
  leaf_by bits valid (above tests half) =
      rw half (sym (leaf_of-above nodes ordered var reference (with_bit bits var bit) bits valid tests (AgreeAbove-with_bit var var bits bit (omega arith))))

  size_by : Halved nodes var bit reference → size_of (half_of nodes var bit reference) ≤ size_of reference
  size_by (at_node place node is held same half) =
      let smaller = size-IsBefore place (end_for node bit) (IsBefore-end_for nodes ordered place node bit held) in
      rw (half, is) (omega arith)
  size_by (above tests half) = rw half (omega arith)

  module _ (valid : IsValid nodes reference) (from : TestsFrom nodes var reference) where
    -- a half is valid
    pub IsValid-half : IsValid nodes (half_of nodes var bit reference)
    IsValid-half = valid_by valid (halved nodes var bit reference valid from)

    -- it tests above the variable
    pub TestsAbove-half : TestsAbove nodes var (half_of nodes var bit reference)
    TestsAbove-half = above_by (halved nodes var bit reference valid from)

    -- its function is that of the reference with the bit fixed
    pub leaf_of-half : (bits : Bits) → leaf_of nodes (half_of nodes var bit reference) bits ≡ leaf_of nodes reference (with_bit bits var bit)
    leaf_of-half bits = leaf_by bits valid (halved nodes var bit reference valid from)

    -- it is no larger
    pub size_of-half : size_of (half_of nodes var bit reference) ≤ size_of reference
    size_of-half = size_by (halved nodes var bit reference valid from)

    -- and smaller where the reference tests the variable
    pub size_of-half_below : TestsAt nodes var reference → size_of (half_of nodes var bit reference) < size_of reference
    size_of-half_below tests = below (halved nodes var bit reference valid from) tests
      where
        below : Halved nodes var bit reference → TestsAt nodes var reference → size_of (half_of nodes var bit reference) < size_of reference
        below (at_node place node is held same half) tests =
            let smaller = size-IsBefore place (end_for node bit) (IsBefore-end_for nodes ordered place node bit held) in
            rw (half, is) (omega arith)
        below (above tests_above half) tests = absurd (never reference tests tests_above)
          where
            never : (r : Ref) → TestsAt nodes var r → TestsAbove nodes var r → ⊥
            never (Leaf value) at later = at
            never (Inner place) at later = let more : var < at.0.var = later at.0 at.1 in omega (arith, at.2)

-- a reference tests its level or a later variable
pub TestsFrom-level : (nodes : List Node) (var : ℕ) (reference : Ref) → var ≤ level_of nodes reference → TestsFrom nodes var reference
TestsFrom-level nodes var (Leaf value) low = tt
TestsFrom-level nodes var (Inner place) low = λ node held. let same = ap level_behind held in omega (arith, same, low)

-- and its level, where it is no leaf
pub TestsAt-level : (nodes : List Node) (var : ℕ) (reference : Ref) → IsValid nodes reference → level_of nodes reference ≡ var → var < 4294967296 → TestsAt nodes var reference
TestsAt-level nodes var (Leaf value) valid same small = absurd (omega arith)
TestsAt-level nodes var (Inner place) valid same small =
    let held = slice_get-held nodes place valid in
    (held.0, held.1, sym (ap level_behind held.1) ∙ same)

-- what tests above a variable has a later level
pub level_of-above : (nodes : List Node) (var : ℕ) (reference : Ref) → var < 4294967296 → IsValid nodes reference → TestsAbove nodes var reference → var < level_of nodes reference
level_of-above nodes var (Leaf value) small valid tests = small
level_of-above nodes var (Inner place) small valid tests =
    let held = slice_get-held nodes place valid in
    let later : var < held.0.var = tests held.0 held.1 in
    let level = ap level_behind held.1 in omega (arith, level, later)
