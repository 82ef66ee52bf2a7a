-- Laws of the labels of a content over more variables.
use Rattle.std.specs.Prelude.{◌≡◌, ℕ, ◌↔◌, ◌*◌, ◌≤◌, List}
use Rattle.ms_arena.specs.Diagram.{Bits, IsOrdered}
use Rattle.ms_build_parts.specs.Labels.{IsLabelledBelow, IsOrigin, behind}
use Rattle.ms_dfa_explore.specs.Explored.{Origin}
use Rattle.ms_diagram.specs.Bring.{read_through}
use Rattle.ms_list.specs.declared.word.Word.{Word}
use Rattle.ms_logic.specs.Assignment.{Variable}
use Rattle.ms_logic.specs.Lists.{AreRising}
use Rattle.ms_logic.specs.declared.mode.Mode.{Mode}
use Rattle.ms_logic_measures.specs.FullContent.{part_count}
use Rattle.ms_logic_words.specs.Content.{Content, IsClosed, with_zero_letter}
use Rattle.ms_logic_words.specs.Word.{IsEncoding}
use Rattle.ms_logic_words.specs.declared.sign.Sign.{Sign}
use Rattle.ms_logic_words.specs.Residual.{AreReached, HaveDifferentResiduals, HaveEqualResiduals}
use Rattle.ms_product.specs.Pairing.{AreAtLeast, HaveRisingMaps, Operands}
use Rattle.ms_product.specs.declared.op.Op.{Op}
use Rattle.ms_product.specs.Widened.{IsRisingMap}
use Rattle.ms_wider_parts.specs.Fixed.{Follower, IsFixedBy, KeepsOrder, led_to, spread}

-- a word encodes an assignment just where it does with one letter of zeros more
abbrev pub ZeroLetterKeepsEncodings : Type 0
ZeroLetterKeepsEncodings =
    (mode : Mode) (variables : List Variable) (word : Word) → AreRising variables
    → IsEncoding mode variables word ↔ IsEncoding mode variables (with_zero_letter variables word)

-- bits that are read through a rising map keep their order
abbrev pub RisingMapsKeepOrder : Type 0
RisingMapsKeepOrder = (count : ℕ) (map : List ℕ) → IsRisingMap count map → KeepsOrder count (read_through map)

-- and so do bits that are spread by one over more variables
abbrev pub SpreadBitsKeepOrder : Type 0
SpreadBitsKeepOrder = (count width : ℕ) (map : List ℕ) → IsRisingMap width map → KeepsOrder count (spread map)

-- two contents fix one whose states differ where the pairs of their states fix its residuals
abbrev pub ResidualsFixStates : Type 0
ResidualsFixStates =
    (wide left right : Content Sign) → IsOrdered wide.nodes → IsClosed wide → AreReached wide → HaveDifferentResiduals wide
    → (first : Follower wide left) (second : Follower wide right)
    → ((one other : Origin) (is_one : IsOrigin wide one) (is_other : IsOrigin wide other) (bits bits' : Bits)
    → led_to wide left first one is_one bits ≡ led_to wide left first other is_other bits'
    → led_to wide right second one is_one bits ≡ led_to wide right second other is_other bits'
    → HaveEqualResiduals wide (behind wide one bits) (behind wide other bits'))
    → IsFixedBy wide left right

-- a content that two others fix has no more labels than they have pairs of parts
abbrev pub PairsOfPartsAreLabels : Type 0
PairsOfPartsAreLabels = (wide left right : Content Sign) → IsFixedBy wide left right → IsLabelledBelow wide (part_count left * part_count right)

-- so what a product of such a content needs is at most twice as many as there are triples of these parts and those of the other operand
abbrev pub FixedProductsNeedFewParts : Type 0
FixedProductsNeedFewParts =
    (op : Op) (operands : Operands) (left right : Content Sign) → HaveRisingMaps operands → IsFixedBy operands.left left right
    → IsOrdered operands.right.nodes → IsClosed operands.right → (count : ℕ) → AreAtLeast count op operands
    → count ≤ 2 * ((part_count left * part_count right) * part_count operands.right)
