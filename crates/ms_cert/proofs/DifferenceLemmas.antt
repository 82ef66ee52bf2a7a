-- The way on which bits lead from two references to different leaves.
use Rattle.std.proofs.Common.{◌≡◌, ◌≢◌, ℕ, suc, ◌+◌, ◌<◌, ◌≤◌, Bool, true, false, List, length, slice_set, refl, sym, ap, ◌∙◌, arith, ⊎_elim}
use Rattle.ms_arena.specs.declared.node.Node.{Node}
use Rattle.ms_arena.specs.declared.node.Ref.{Ref}
use Rattle.ms_arena.specs.declared.node.Ref.TheVariants.{Leaf, Inner}
use Rattle.ms_arena.specs.Diagram.{Bits, IsOrdered, IsReduced, IsValid, TestsAbove, leaf_of}
use Rattle.ms_arena.specs.Halves.{IsLeaf, TestsAt, TestsFrom, half_of, size_of}
use Rattle.ms_arena.proofs.BitsLemmas.{with_bit-own}
use Rattle.ms_arena.proofs.Canonicity.{same_reference}
use Rattle.ms_arena.proofs.HalvesLemmas.{IsValid-half, TestsAbove-half, leaf_of-half, size_of-half, size_of-half_below}
use Rattle.ms_arena.proofs.Paths.{leaf_of-leaf}
use Rattle.ms_logic_words.specs.Content.{bits_at}
use Rattle.ms_cert.specs.inner.Difference.{IsFirstTested, LeadApart, LeadsTo, TestBelow}
use Rattle.ms_cert.proofs.LevelsLemmas.{at-set_other, at-set_same}

-- what tests above a variable tests from the next one on
from-above : (nodes : List Node) (var : ℕ) (reference : Ref) → TestsAbove nodes var reference → TestsFrom nodes (suc var) reference
from-above nodes var (Leaf value) above = tt
from-above nodes var (Inner place) above = λ node held. let more : var < node.var = above node held in omega (arith, more)

from-zero : (nodes : List Node) (reference : Ref) → TestsFrom nodes 0 reference
from-zero nodes (Leaf value) = tt
from-zero nodes (Inner place) = λ node held. omega arith

-- a variable that is tested is below all, and not before a level from which on variables are tested
tested-below : (nodes : List Node) (count var : ℕ) (reference : Ref) → TestBelow nodes count → TestsAt nodes var reference → var < count
tested-below nodes count var (Leaf value) below at = absurd at
tested-below nodes count var (Inner place) below at = let less = below place at.0 at.1 in let same = at.2 in omega (arith, less, same)

tested-late : (nodes : List Node) (level var : ℕ) (reference : Ref) → TestsFrom nodes level reference → TestsAt nodes var reference → level ≤ var
tested-late nodes level var (Leaf value) from at = absurd at
tested-late nodes level var (Inner place) from at = let late : level ≤ at.0.var = from at.0 at.1 in let same = at.2 in omega (arith, late, same)

module _ (nodes : List Node) (one other : Ref) (var : ℕ) (first : IsFirstTested nodes one other var) where
  pub first-below : (count : ℕ) → TestBelow nodes count → var < count
  first-below count below = ⊎_elim (λ at. tested-below nodes count var one below at) (λ at. tested-below nodes count var other below at) first.tested

  first-late : (level : ℕ) → TestsFrom nodes level one → TestsFrom nodes level other → level ≤ var
  first-late level from also = ⊎_elim (λ at. tested-late nodes level var one from at) (λ at. tested-late nodes level var other also at) first.tested

  module _ (ordered : IsOrdered nodes) (valid : IsValid nodes one) (also : IsValid nodes other) where
    -- the halves are smaller together
    pub halves-smaller : (bit : Bool) → size_of (half_of nodes var bit one) + size_of (half_of nodes var bit other) < size_of one + size_of other
    halves-smaller bit =
        let small = size_of-half nodes ordered var bit one valid first.from_one in
        let small_other = size_of-half nodes ordered var bit other also first.from_other in
        ⊎_elim
        (λ at. let less = size_of-half_below nodes ordered var bit one valid first.from_one at in omega (arith, less, small_other))
        (λ at. let less = size_of-half_below nodes ordered var bit other also first.from_other at in omega (arith, less, small))
        first.tested

    -- references whose halves are equal are equal
    pub same-halves : IsReduced nodes → half_of nodes var false one ≡ half_of nodes var false other → half_of nodes var true one ≡ half_of nodes var true other → one ≡ other
    same-halves reduced low high = same_reference nodes ordered reduced one other valid also (λ bits. by bits (bits var) refl)
      where
        half : (bit : Bool) → half_of nodes var bit one ≡ half_of nodes var bit other
        half false = low
        half true = high

        by : (bits : Bits) (bit : Bool) → bits var ≡ bit → leaf_of nodes one bits ≡ leaf_of nodes other bits
        by bits bit is =
            let own = with_bit-own bits var bit is in
            ap (leaf_of nodes one) (sym own)
            ∙ sym (leaf_of-half nodes ordered var bit one valid first.from_one bits)
            ∙ ap (λ (r : Ref). leaf_of nodes r bits) (half bit)
            ∙ leaf_of-half nodes ordered var bit other also first.from_other bits
            ∙ ap (leaf_of nodes other) own

-- bits lead on to a half
leads-half : (nodes : List Node) (bits : List Bool) (level var : ℕ) (bit : Bool) (from to : Ref) → IsOrdered nodes → TestsFrom nodes var to → level ≤ var → var < length bits → LeadsTo nodes bits level from to
    → LeadsTo nodes (slice_set bits var bit) (suc var) from (half_of nodes var bit to)
leads-half nodes bits level var bit from to ordered tests late within was = record {
  valid = IsValid-half nodes ordered var bit to was.valid tests;
  tests = from-above nodes var (half_of nodes var bit to) (TestsAbove-half nodes ordered var bit to was.valid tests);
  leads = λ other agree.
      let own : other var ≡ bit = agree var (omega arith) ∙ at-set_same bits var bit within in
      was.leads other (λ place less.
      let differ : place ≢ var = omega (arith, less, late) in
      agree place (omega (arith, less, late)) ∙ at-set_other bits var place bit differ)
      ∙ ap (leaf_of nodes to) (sym (with_bit-own other var bit own))
      ∙ sym (leaf_of-half nodes ordered var bit to was.valid tests other);
}

module _ (nodes : List Node) (one other : Ref) where
  -- before any bit
  pub apart-first : (bits : List Bool) → IsValid nodes one → IsValid nodes other → one ≢ other → LeadApart nodes bits one other one other
  apart-first bits valid also differ = record {
    level = 0;
    one_leads = record { valid = valid; tests = from-zero nodes one; leads = λ r agree. refl };
    other_leads = record { valid = also; tests = from-zero nodes other; leads = λ r agree. refl };
    differ = differ;
  }

  -- one bit more: 0, unless the halves are equal there
  pub apart-half : (bits : List Bool) (first second : Ref) (var : ℕ) (bit : Bool) → IsOrdered nodes → IsReduced nodes → var < length bits → IsFirstTested nodes first second var
      → (bit ≡ true → half_of nodes var false first ≡ half_of nodes var false second) → (bit ≡ false → half_of nodes var false first ≢ half_of nodes var false second)
      → LeadApart nodes bits one other first second → LeadApart nodes (slice_set bits var bit) one other (half_of nodes var bit first) (half_of nodes var bit second)
  apart-half bits first second var bit ordered reduced within is_first same apart was =
      let late = first-late nodes first second var is_first was.level was.one_leads.tests was.other_leads.tests in
      record {
        level = suc var;
        one_leads = leads-half nodes bits was.level var bit one first ordered is_first.from_one late within was.one_leads;
        other_leads = leads-half nodes bits was.level var bit other second ordered is_first.from_other late within was.other_leads;
        differ = by bit same apart;
      }
    where
      by : (b : Bool) → (b ≡ true → half_of nodes var false first ≡ half_of nodes var false second) → (b ≡ false → half_of nodes var false first ≢ half_of nodes var false second)
          → half_of nodes var b first ≢ half_of nodes var b second
      by false low not_low = not_low refl
      by true low not_low = λ high. was.differ (same-halves nodes first second var is_first ordered was.one_leads.valid was.other_leads.valid reduced (low refl) high)

  -- at leaves
  pub apart-leaves : (bits : List Bool) (first second : Ref) → IsLeaf first → IsLeaf second → LeadApart nodes bits one other first second → leaf_of nodes one (bits_at bits) ≢ leaf_of nodes other (bits_at bits)
  apart-leaves bits (Leaf a) (Leaf b) leaf also apart = λ same.
      let equal : a ≡ b =
      sym (leaf_of-leaf nodes (bits_at bits) a) ∙ sym (apart.one_leads.leads (bits_at bits) (λ place less. refl)) ∙ same ∙ apart.other_leads.leads (bits_at bits) (λ place less. refl) ∙ leaf_of-leaf nodes (bits_at bits) b in
      apart.differ (ap Leaf equal)
  apart-leaves bits (Inner a) second leaf also apart = absurd leaf
  apart-leaves bits (Leaf a) (Inner b) leaf also apart = absurd also
