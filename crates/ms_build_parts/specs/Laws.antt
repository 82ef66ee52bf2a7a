-- Laws of how many states and nodes the automata of a step need.
use Rattle.std.specs.Prelude.{◌≡◌, ℕ, ◌*◌, ◌<◌, ◌≤◌}
use Rattle.ms_arena.specs.Diagram.{IsOrdered}
use Rattle.ms_logic_measures.specs.Budgets.{budget}
use Rattle.ms_logic_measures.specs.CallMeasures.{HasReachedParts, IsCombineMeasure}
use Rattle.ms_logic_measures.specs.FullContent.{part_count}
use Rattle.ms_logic_starts.specs.ContentStarts.{HaveDistinctNumbers}
use Rattle.ms_logic_words.specs.Canonical.{IsCanonical}
use Rattle.ms_logic_words.specs.Content.{Content, IsClosed}
use Rattle.ms_logic_words.specs.declared.sign.Sign.{Sign}
use Rattle.ms_logic_words.specs.Residual.{AreReached, HaveDifferentResiduals}
use Rattle.ms_product.specs.Pairing.{AreAtLeast, HaveRisingMaps, Operands}
use Rattle.ms_product.specs.declared.op.Op.{Op}
use Rattle.ms_build_parts.specs.Labels.{IsLabelledBelow}
use Rattle.ms_build_parts.specs.SaySame.{SaySame}

-- a content of ordered diagrams whose states are reached and differ, and the canonical content that says the same
pub record IsMeasuredBy (one canonical : Content Sign) : Type 0 where
  pub ordered : IsOrdered one.nodes
  pub closed : IsClosed one
  pub own : HaveDistinctNumbers one.variables
  pub reached : AreReached one
  pub differ : HaveDifferentResiduals one
  pub is_canonical : IsCanonical canonical
  pub distinct : HaveDistinctNumbers canonical.variables
  pub same : SaySame one canonical

-- what a product needs is at most twice the product of as many labels as its operands have
abbrev pub ProductsNeedFewLabels : Type 0
ProductsNeedFewLabels =
    (op : Op) (operands : Operands) (a b : ℕ) → HaveRisingMaps operands → IsLabelledBelow operands.left a → IsLabelledBelow operands.right b
    → (count : ℕ) → AreAtLeast count op operands → count ≤ 2 * (a * b)

-- a closed content has no more labels than states and nodes, and one of fewest states no more than the canonical content that says
-- the same
abbrev pub ClosedContentsHaveLabels : Type 0
ClosedContentsHaveLabels = (content : Content Sign) → IsOrdered content.nodes → IsClosed content → IsLabelledBelow content (part_count content)

abbrev pub MeasuredContentsHaveLabels : Type 0
MeasuredContentsHaveLabels = (one canonical : Content Sign) → IsMeasuredBy one canonical → IsLabelledBelow one (part_count canonical)

-- so what a product of such automata needs is at most twice the product of the states and nodes of the canonical contents that
-- say the same
abbrev pub ProductsNeedFewParts : Type 0
ProductsNeedFewParts =
    (op : Op) (operands : Operands) (left right : Content Sign) → HaveRisingMaps operands → IsMeasuredBy operands.left left → IsMeasuredBy operands.right right
    → (count : ℕ) → AreAtLeast count op operands → count ≤ 2 * (part_count left * part_count right)

-- starts lead a canonical content to as many references as it has states and nodes, and to no other number
abbrev pub CanonicalContentsHaveOneCount : Type 0
CanonicalContentsHaveOneCount = (content : Content Sign) → IsCanonical content → HaveDistinctNumbers content.variables → (n : ℕ) → HasReachedParts content n → n ≡ part_count content

-- so a product is short of nodes only under a limit below the budget of each measure of these contents
abbrev pub ProductsAreWithinBudget : Type 0
ProductsAreWithinBudget =
    (op : Op) (operands : Operands) (left right : Content Sign) → HaveRisingMaps operands → IsMeasuredBy operands.left left → IsMeasuredBy operands.right right
    → (limit : ℕ) → AreAtLeast limit op operands → (m r : ℕ) → IsCombineMeasure left right m r → limit < budget m r
