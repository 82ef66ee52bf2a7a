-- First bits leave a reference, and each node that is reached is what some leave.
use Rattle.std.proofs.Common.{◌≡◌, ℕ, zero, suc, ◌<◌, ◌≤◌, Bool, true, false, List, length, slice_get, Some, refl, sym, ap, subst, ◌∙◌, ⊎_elim, arith}
use Rattle.std.proofs.lemmas.Bool.{cases_lt}
use Rattle.std.proofs.lemmas.Option.{slice_get_within, same_Some}
use Rattle.ms_arena.specs.declared.node.Ref.{Ref}
use Rattle.ms_arena.specs.declared.node.Ref.TheVariants.{Leaf, Inner}
use Rattle.ms_arena.specs.declared.node.Node.{Node}
use Rattle.ms_arena.specs.Bits.{with_bit, below_from, AgreeAbove}
use Rattle.ms_arena.specs.Diagram.{Bits, leaf_of, IsBefore, IsValid, IsOrdered}
use Rattle.ms_arena.specs.Reach.{Reaches, here, through_low, through_high, IsTested}
use Rattle.ms_arena.proofs.BitsLemmas.{with_bit-same, with_bit-other, below_from-first, below_from-later}
use Rattle.ms_arena.proofs.Canonicity.{end_for, leaf_of-above, TestsAbove-end_for}
use Rattle.ms_arena.proofs.Ends.{end_valid}
use Rattle.ms_arena.proofs.Lists.{slice_get-held}
use Rattle.ms_arena.proofs.Paths.{IsBefore-later, IsBefore-end_at, leaf_of-leaf, leaf_of-node}
use Rattle.ms_arena.proofs.ReachLemmas.{IsTested-above, leaf_of-tested}
use Rattle.ms_logic_starts.specs.FirstBits.{IsBehind, BitsLeave}

module _ (nodes : List Node) (ordered : IsOrdered nodes) where
  -- what an end reaches, its node reaches
  behind_end : (place : ℕ) (node : Node) (bit : Bool) → slice_get nodes place ≡ Some node → (reference : Ref) → IsBehind nodes (end_for node bit) reference
      → IsBehind nodes (Inner place) reference
  behind_end place node bit held (Leaf value) behind = tt
  behind_end place node true held (Inner goal) behind = through_high node held behind
  behind_end place node false held (Inner goal) behind = through_low node held behind

  -- a node that tests no variable below a level reads no bit of them
  reads_later : (level place : ℕ) (node : Node) → slice_get nodes place ≡ Some node → level ≤ node.var → (first bits : Bits)
      → leaf_of nodes (Inner place) (below_from level first bits) ≡ leaf_of nodes (Inner place) bits
  reads_later level place node held above first bits =
      leaf_of-tested nodes ordered (Inner place) (below_from level first bits) bits (slice_get_within nodes place node held)
      (λ own tested. below_from-later level first bits own (at_least level above own tested))
    where
      at_least : (low : ℕ) → low ≤ node.var → (own : ℕ) → IsTested nodes (Inner place) own → low ≤ own
      at_least zero below own tested = omega arith
      at_least (suc low) below own tested =
          let over = IsTested-above nodes ordered low (Inner place) own
          (λ other there. (let same : node ≡ other = same_Some node other (sym held ∙ there) in subst (λ (n : Node). low < n.var) same (omega (arith, below)))) tested
          in omega (arith, over)

  -- a node from whose level on bits are free is what is left of itself
  left_itself : (level place : ℕ) (node : Node) → slice_get nodes place ≡ Some node → level ≤ node.var → (first : Bits) → BitsLeave nodes (Inner place) level first (Inner place)
  left_itself level place node held above first = record {
    valid = slice_get_within nodes place node held;
    behind = here;
    tests = λ other there. (let same : node ≡ other = same_Some node other (sym held ∙ there) in subst (λ (n : Node). level ≤ n.var) same above);
    function = reads_later level place node held above first;
  }

  -- what first bits leave of an end, they leave of its node, if they lead there
  left_of_end : (level place : ℕ) (node : Node) (first : Bits) (reference : Ref) → slice_get nodes place ≡ Some node → node.var < level
      → BitsLeave nodes (end_for node (first node.var)) level first reference → BitsLeave nodes (Inner place) level first reference
  left_of_end level place node first reference held below left = record {
    valid = left.valid;
    behind = behind_end place node (first node.var) held reference left.behind;
    tests = left.tests;
    function = λ bits.
        leaf_of-node nodes ordered (below_from level first bits) place node held
        ∙ (ap (λ bit. leaf_of nodes (end_for node bit) (below_from level first bits)) (below_from-first level first bits node.var below)
        ∙ left.function bits);
  }

  left_before : (count : ℕ) (root : Ref) → IsBefore count root → count ≤ length nodes → (level : ℕ) (first : Bits) → (reference : Ref) × BitsLeave nodes root level first reference
  left_before count (Leaf value) before within level first = (
    Leaf value,
    record { valid = tt; behind = tt; tests = tt; function = λ bits. leaf_of-leaf nodes (below_from level first bits) value ∙ sym (leaf_of-leaf nodes bits value) },
  )
  left_before zero (Inner place) before within level first = absurd (omega (arith, before))
  left_before (suc count) (Inner place) before within level first =
      let held = slice_get-held nodes place (omega (arith, before, within)) in
      ⊎_elim
      (λ below.
      let next = left_before count (end_for held.0 (first held.0.var))
      (IsBefore-later place count (end_for held.0 (first held.0.var)) (omega (arith, before)) (IsBefore-end_at nodes ordered place held.0 first held.1)) (omega (arith, within)) level first in
      (next.0, left_of_end level place held.0 first next.0 held.1 below next.1))
      (λ above. (Inner place, left_itself level place held.0 held.1 above first))
      (cases_lt held.0.var level)

  pub first_bits_leave : (root : Ref) (level : ℕ) (first : Bits) → IsValid nodes root → (reference : Ref) × BitsLeave nodes root level first reference
  first_bits_leave root level first valid = left_before (length nodes) root valid (omega arith) level first

  -- first bits below a node's variable leave the node
  abbrev pub IsLeftByFirstBits : Ref → ℕ → Node → Type 0
  IsLeftByFirstBits root goal node = (first : Bits) × BitsLeave nodes root node.var first (Inner goal)

  -- what is left of an end is left of its node too, once the bit of its variable leads there
  left_through : (place : ℕ) (middle : Node) (bit : Bool) (goal : ℕ) (node : Node) → slice_get nodes place ≡ Some middle → middle.var < node.var
      → IsLeftByFirstBits (end_for middle bit) goal node → IsLeftByFirstBits (Inner place) goal node
  left_through place middle bit goal node held later left =
      let first = with_bit left.0 middle.var bit in
      let own : first middle.var ≡ bit = with_bit-same left.0 middle.var bit in (
        first,
        left_of_end node.var place middle first (Inner goal) held later
            (subst (λ b. BitsLeave nodes (end_for middle b) node.var first (Inner goal)) (sym own) (record {
              valid = left.1.valid;
              behind = left.1.behind;
              tests = left.1.tests;
              function = λ bits.
                  leaf_of-above nodes ordered middle.var (end_for middle bit) (below_from node.var first bits) (below_from node.var left.0 bits)
                  (end_valid nodes ordered place middle held bit) (TestsAbove-end_for nodes ordered place middle bit held) (agree bits)
                  ∙ left.1.function bits;
            })),
      )
    where
      agree : (bits : Bits) → AgreeAbove middle.var (below_from node.var (with_bit left.0 middle.var bit) bits) (below_from node.var left.0 bits)
      agree bits other above = ⊎_elim
          (λ less. below_from-first node.var (with_bit left.0 middle.var bit) bits other less
          ∙ (with_bit-other left.0 middle.var bit other (λ same. absurd (omega (arith, same, above)))
          ∙ sym (below_from-first node.var left.0 bits other less)))
          (λ more. below_from-later node.var (with_bit left.0 middle.var bit) bits other more ∙ sym (below_from-later node.var left.0 bits other more))
          (cases_lt other node.var)

  pub reached_is_left : {root : Ref} {goal : ℕ} → Reaches nodes root goal → (node : Node) → slice_get nodes goal ≡ Some node → IsLeftByFirstBits root goal node
  reached_is_left (here {place}) node held = ((λ _. false), left_itself node.var place node held (omega arith) (λ _. false))
  reached_is_left (through_low {place} {goal} middle held_middle path) node held =
      left_through place middle false goal node held_middle
      (IsTested-above nodes ordered middle.var middle.low node.var (TestsAbove-end_for nodes ordered place middle false held_middle) (goal, node, path, held, refl))
      (reached_is_left path node held)
  reached_is_left (through_high {place} {goal} middle held_middle path) node held =
      left_through place middle true goal node held_middle
      (IsTested-above nodes ordered middle.var middle.high node.var (TestsAbove-end_for nodes ordered place middle true held_middle) (goal, node, path, held, refl))
      (reached_is_left path node held)

  -- what a valid reference reaches is a place of the list
  pub reached_within : {root : Ref} {goal : ℕ} → Reaches nodes root goal → IsValid nodes root → goal < length nodes
  reached_within here valid = valid
  reached_within (through_low {place} middle held path) valid = reached_within path (end_valid nodes ordered place middle held false)
  reached_within (through_high {place} middle held path) valid = reached_within path (end_valid nodes ordered place middle held true)

  pub reached_left : (root : Ref) (place : ℕ) → IsValid nodes root → Reaches nodes root place → (level : ℕ) × (first : Bits) × BitsLeave nodes root level first (Inner place)
  reached_left root place valid path =
      let held = slice_get-held nodes place (reached_within path valid) in
      let left = reached_is_left path held.0 held.1 in
      (held.0.var, left.0, left.1)
