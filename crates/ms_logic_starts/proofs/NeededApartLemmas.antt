-- Starts that lead to different references of a reduced store lead apart.
use Rattle.std.proofs.Common.{◌≡◌, ℕ, ◌+◌, ◌-◌, ◌<◌, ⊎_elim, List, length, slice_index_or, AllPairs, refl, sym, ap, subst, ◌∙◌, arith}
use Rattle.std.proofs.lemmas.Bool.{cases_lt}
use Rattle.ms_arena.specs.declared.node.Ref.{Ref}
use Rattle.ms_arena.specs.declared.node.Ref.TheVariants.{Leaf, Inner}
use Rattle.ms_arena.specs.declared.node.Node.{Node}
use Rattle.ms_arena.specs.Diagram.{Bits, IsValid, IsOrdered, IsReduced}
use Rattle.ms_arena.proofs.Canonicity.{same_reference}
use Rattle.ms_logic_starts.specs.AtLeast.{IsAtLeastNumber}
use Rattle.ms_logic_starts.specs.NeededApart.{AreLedTo, LeadToOneFunction, LeaveOneFunction, Leaves}
use Rattle.ms_logic_starts.specs.inner.Row.{EachIsRight, StandsAt}
use Rattle.ms_logic_starts.proofs.Tabulated.{tabulated}

-- one reference stands at one place
pub one_place : (old more i j : ℕ) (reference : Ref) → StandsAt old more i reference → StandsAt old more j reference → i ≡ j
one_place old more i j (Inner place) first second = omega (arith, first.0, second.0)
one_place old more i j (Leaf number) first second = omega (arith, first, second)

-- and at one place stands one reference
pub one_reference : (old more i : ℕ) (left right : Ref) → StandsAt old more i left → StandsAt old more i right → left ≡ right
one_reference old more i (Inner place) (Inner other) first second = ap Inner (omega (arith, first.0, second.0))
one_reference old more i (Inner place) (Leaf number) first second = absurd (omega (arith, first.1, second))
one_reference old more i (Leaf number) (Inner place) first second = absurd (omega (arith, first, second.1))
one_reference old more i (Leaf number) (Leaf other) first second = ap Leaf (omega (arith, first, second))

module _ {Start : Type 0} (IsStart : Start → Type 0) (LeadAlike : Start → Start → Type 0) (LeadsTo : Start → Ref → Type 0) where
  -- a start that leads to the reference at a place of the row
  abbrev pub IsStartAt : ℕ → ℕ → ℕ → Start → Type 0
  IsStartAt old more i start = IsStart start × ((reference : Ref) × StandsAt old more i reference × LeadsTo start reference)

  module _ (nodes : List Node) (old more count : ℕ) (needed : AreLedTo IsStart LeadsTo nodes old more count) where
    some_start : (i : ℕ) → i < more + count → (start : Start) × IsStartAt old more i start
    some_start i below = ⊎_elim
        (λ less. let found = needed.places (old + i) (omega arith) (omega (arith, less)) in (found.0, (found.1, (Inner (old + i), (refl, less), found.2))))
        (λ past. let found = needed.numbers (i - more) (omega (arith, past, below)) in (found.0, (found.1, (Leaf (i - more), omega (arith, past), found.2))))
        (cases_lt i more)

    -- a start for each reference of the row
    pub starts_in_row : (starts : List Start) × (length starts ≡ more + count) × EachIsRight (more + count) (IsStartAt old more) starts
    starts_in_row = tabulated (more + count) (IsStartAt old more) some_start

    row_valid : (i : ℕ) (reference : Ref) → StandsAt old more i reference → IsValid nodes reference
    row_valid i (Inner place) stands = let within = needed.within in omega (arith, within, stands.0, stands.1)
    row_valid i (Leaf number) stands = tt

    module _ (ordered : IsOrdered nodes) (reduced : IsReduced nodes) (functions : LeadToOneFunction LeadAlike LeadsTo nodes) where
      -- starts at different places of the row lead apart
      pub one_start : (i j : ℕ) (one other : Start) → IsStartAt old more i one → IsStartAt old more j other → LeadAlike one other → i ≡ j
      one_start i j one other first second alike =
          let left = first.1 in
          let right = second.1 in
          let same : left.0 ≡ right.0 = same_reference nodes ordered reduced left.0 right.0 (row_valid i left.0 left.1) (row_valid j right.0 right.1)
          (functions one other left.0 right.0 alike left.2 right.2) in
          one_place old more i j right.0 (subst (StandsAt old more i) same left.1) right.1

      pub row_different : AllPairs (λ one other. ¬ LeadAlike one other) starts_in_row.0
      row_different i j other before within alike =
          let row = starts_in_row in
          let long = row.1 in
          let same = one_start i j (slice_index_or row.0 i other) (slice_index_or row.0 j other)
          (row.2 i other (omega (arith, long, before, within))) (row.2 j other (omega (arith, long, within))) alike in
          omega (arith, same, before)

      -- so there are as many that lead apart
      pub needed_lead_apart : IsAtLeastNumber LeadAlike IsStart (more + count)
      needed_lead_apart = record {
        chosen = starts_in_row.0;
        items = λ i other below. (let long = starts_in_row.1 in (starts_in_row.2 i other (omega (arith, long, below))).0);
        different = row_different;
        count = (let long = starts_in_row.1 in omega (arith, long));
      }

module _ {Start : Type 0} (IsStart : Start → Type 0) (leaves : Start → Bits → ℕ) where
  -- starts that leave one function lead to references of one function
  pub leave_one_function : (nodes : List Node) → LeadToOneFunction (LeaveOneFunction leaves) (Leaves leaves nodes) nodes
  leave_one_function nodes one other left right alike first second bits = sym (first bits) ∙ (alike bits ∙ second bits)

  pub needed_leave_apart : (nodes : List Node) (old more count : ℕ) → IsOrdered nodes → IsReduced nodes → AreLedTo IsStart (Leaves leaves nodes) nodes old more count
      → IsAtLeastNumber (LeaveOneFunction leaves) IsStart (more + count)
  needed_leave_apart nodes old more count ordered reduced needed =
      needed_lead_apart IsStart (LeaveOneFunction leaves) (Leaves leaves nodes) nodes old more count needed ordered reduced (leave_one_function nodes)
