-- What bits leave of a reference, where they are given one after the other to the first of the variables that it may test.
use Rattle.std.proofs.Common.{◌≡◌, ℕ, ◌<◌, ◌≤◌, Bool, false, IsTrue, List, length, slice_get, slice_index_or, Some, unwrap_or, refl, sym, ap, ◌∙◌, ⊎_elim, arith}
use Rattle.std.specs.Option.{option_and_then}
use Rattle.std.proofs.lemmas.Bool.{cases_lt}
use Rattle.std.proofs.lemmas.Option.{slice_get_past, slice_get_within, slice_get-get_or, get_or_from_slice_get}
use Rattle.ms_arena.specs.declared.node.Ref.{Ref}
use Rattle.ms_arena.specs.declared.node.Ref.TheVariants.{Inner}
use Rattle.ms_arena.specs.declared.node.Node.{Node}
use Rattle.ms_arena.specs.Bits.{below_from}
use Rattle.ms_arena.specs.Diagram.{Bits, leaf_of, IsValid, IsOrdered}
use Rattle.ms_arena.specs.Reach.{Reaches, TestsOnly}
use Rattle.ms_arena.proofs.BitsLemmas.{below_from-first, below_from-later}
use Rattle.ms_arena.proofs.Lists.{slice_get-held}
use Rattle.ms_arena.proofs.ReachLemmas.{leaf_of-tested}
use Rattle.ms_logic.specs.declared.mode.Order.{Order}
use Rattle.ms_logic.specs.Assignment.{Variable}
use Rattle.ms_logic_words.specs.Content.{HasValueAt, count_of, padded, bits_at}
use Rattle.ms_logic_measures.specs.Starts.{given_bit, with_free_bits}
use Rattle.ms_logic_starts.specs.ContentStarts.{HaveDistinctNumbers}
use Rattle.ms_logic_starts.specs.FirstBits.{BitsLeave}
use Rattle.ms_logic_starts.specs.inner.Ranks.{rank, bits_before}
use Rattle.ms_logic_starts.proofs.FirstBitsLemmas.{first_bits_leave, reached_is_left, reached_within}
use Rattle.ms_logic_starts.proofs.RankLemmas.{given_at, padded_at, bit_before, length-bits_before, level_behind, rank_grows, rank_less, rank_below_all}

module _ (has_bit : Order → Bool) (vs : List Variable) (own : HaveDistinctNumbers vs) where
  abbrev free_behind : List Bool → Bits → Bits
  free_behind values rest = with_free_bits has_bit vs values vs rest

  bit_at : (values : List Bool) (rest : Bits) (place : ℕ) (v : Variable) → slice_get vs place ≡ Some v → IsTrue (has_bit v.order)
      → free_behind values rest place ≡ unwrap_or (slice_get values (rank has_bit place vs)) (rest place)
  bit_at values rest place v there holds =
      ap (λ found. unwrap_or (option_and_then (λ (w : Variable). given_bit has_bit vs values w.name) found) (rest place)) there
      ∙ ap (λ found. unwrap_or found (rest place)) (given_at has_bit vs values place v own there holds)

  -- as many variables as there are bits have theirs
  given_there : (values : List Bool) (rest : Bits) (place : ℕ) (v : Variable) → slice_get vs place ≡ Some v → IsTrue (has_bit v.order)
      → rank has_bit place vs < length values → free_behind values rest place ≡ slice_index_or values (rank has_bit place vs) false
  given_there values rest place v there holds less =
      bit_at values rest place v there holds
      ∙ ap (λ found. unwrap_or found (rest place)) (slice_get-get_or values (rank has_bit place vs) false less)

  -- and the others stay free
  free_there : (values : List Bool) (rest : Bits) (place : ℕ) (v : Variable) → slice_get vs place ≡ Some v → IsTrue (has_bit v.order)
      → length values ≤ rank has_bit place vs → free_behind values rest place ≡ rest place
  free_there values rest place v there holds past =
      bit_at values rest place v there holds
      ∙ ap (λ found. unwrap_or found (rest place)) (slice_get_past values (rank has_bit place vs) past)

  module _ (nodes : List Node) (ordered : IsOrdered nodes) (root : Ref) (valid : IsValid nodes root) (tests : TestsOnly nodes (HasValueAt vs has_bit) root) where
    agree : (one two : Bits) → ((place : ℕ) (v : Variable) → slice_get vs place ≡ Some v → IsTrue (has_bit v.order) → one place ≡ two place)
        → leaf_of nodes root one ≡ leaf_of nodes root two
    agree one two same = leaf_of-tested nodes ordered root one two valid (λ var tested. let at = tests var tested in same var at.0 at.1 at.2)

    -- the bits of all variables lead where the bits lead from which they come
    pub leaf_of_all : (bits : Bits) → leaf_of nodes root (bits_at (padded has_bit vs (bits_before has_bit (length vs) vs bits))) ≡ leaf_of nodes root bits
    leaf_of_all bits =
        let all = bits_before has_bit (length vs) vs bits in
        agree (bits_at (padded has_bit vs all)) bits (λ place v there holds.
        padded_at has_bit vs all place v there holds
        ∙ get_or_from_slice_get all (rank has_bit place vs) (bits place) false
        (bit_before has_bit (length vs) vs bits place v (slice_get_within vs place v there) there holds))

    -- some bits leave a reference
    pub left_after : (values : List Bool)
        → (level : ℕ) × (first : Bits) × (reference : Ref) × BitsLeave nodes root level first reference
        × ((rest : Bits) → leaf_of nodes root (free_behind values rest) ≡ leaf_of nodes reference rest)
    left_after values =
        let level = level_behind has_bit (length values) vs in
        let first : Bits = free_behind values (λ _. false) in
        let left = first_bits_leave nodes ordered root level.0 first valid in (
          level.0,
          first,
          left.0,
          left.1,
          λ rest.
              agree (free_behind values rest) (below_from level.0 first rest) (λ place v there holds. ⊎_elim
              (λ below.
              let less = (level.1 place v there holds).0 below in
              given_there values rest place v there holds less
              ∙ sym (below_from-first level.0 first rest place below ∙ given_there values (λ _. false) place v there holds less))
              (λ above. free_there values rest place v there holds ((level.1 place v there holds).1 above) ∙ sym (below_from-later level.0 first rest place above))
              (cases_lt place level.0))
              ∙ left.1.function rest,
        )

    -- and each node that is reached is left by some bits, fewer than all
    pub left_before : (place : ℕ) → Reaches nodes root place
        → (values : List Bool) × (length values < count_of has_bit vs) × ((rest : Bits) → leaf_of nodes root (free_behind values rest) ≡ leaf_of nodes (Inner place) rest)
    left_before place path =
        let held = slice_get-held nodes place (reached_within nodes ordered path valid) in
        let level = held.0.var in
        let left = reached_is_left nodes ordered path held.0 held.1 in
        let first = left.0 in
        let at = tests level (place, held.0, path, held.1, refl) in
        let values = bits_before has_bit level vs first in
        let long : length values ≡ rank has_bit level vs = length-bits_before has_bit level vs first in
        let few = rank_below_all has_bit level vs at.0 at.1 at.2 in (
          values,
          omega (arith, long, few),
          λ rest.
              agree (free_behind values rest) (below_from level first rest) (λ other v there holds. ⊎_elim
              (λ below.
              let less = rank_less has_bit other level vs v below there holds in
              given_there values rest other v there holds (omega (arith, less, long))
              ∙ (get_or_from_slice_get values (rank has_bit other vs) (first other) false (bit_before has_bit level vs first other v below there holds)
              ∙ sym (below_from-first level first rest other below)))
              (λ above.
              let past = rank_grows has_bit level other vs above in
              free_there values rest other v there holds (omega (arith, past, long)) ∙ sym (below_from-later level first rest other above))
              (cases_lt other level))
              ∙ left.1.function rest,
        )
