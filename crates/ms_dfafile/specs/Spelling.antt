-- The text of an automaton file (docs/FORMATS.md, "Automaton file"): lines of fields with single blanks between them, and
-- decimal numbers without leading zeros.
use Rattle.std.specs.Prelude.{ℕ, List, [], ◌∷◌, ◌++◌, codes, length}
use Rattle.std.specs.Fmt.{decimal}
use Rattle.std.specs.List.{flat_map}
use Rattle.ms_arena.specs.declared.node.Node.{Node}
use Rattle.ms_arena.specs.declared.node.Ref.{Ref}
use Rattle.ms_arena.specs.declared.node.Ref.TheVariants.{Leaf, Inner}
use Rattle.ms_logic.specs.declared.mode.Mode.{Mode}
use Rattle.ms_logic.specs.declared.mode.Mode.TheVariants.{Ws1s, M2lStr}
use Rattle.ms_logic.specs.declared.mode.Order.{Order}
use Rattle.ms_logic.specs.declared.mode.Order.TheVariants.{Zero, One, Two}
use Rattle.ms_dfa.specs.declared.plain.FileSign.{FileSign}
use Rattle.ms_dfa.specs.declared.plain.FileSign.TheVariants as signs
use Rattle.ms_dfa.specs.declared.plain.FileState.{FileState}
use Rattle.ms_dfa.specs.declared.plain.FileVar.{FileVar}
use Rattle.ms_dfa.specs.declared.plain.FileVersion.{FileVersion}
use Rattle.ms_dfa.specs.declared.plain.FileVersion.TheVariants as versions
use Rattle.ms_dfa.specs.declared.plain.Plain.{Plain}

-- the last field of a line, and the line feed that ends it
abbrev pub line : List ℕ → List ℕ
line text = text ++ 10 ∷ []

-- a field before the last, and the blank behind it
abbrev pub field : List ℕ → List ℕ
field text = text ++ 32 ∷ []

abbrev pub version_text : FileVersion → List ℕ
version_text versions.One = codes "1"
version_text versions.Two = codes "2"

abbrev pub mode_text : Mode → List ℕ
mode_text Ws1s = codes "ws1s"
mode_text M2lStr = codes "m2l-str"

abbrev pub order_text : Order → List ℕ
order_text Zero = codes "0"
order_text One = codes "1"
order_text Two = codes "2"

abbrev pub sign_text : FileSign → List ℕ
sign_text signs.Plus = codes "+"
sign_text signs.Minus = codes "-"
sign_text signs.Zero = codes "0"
sign_text signs.Outside = codes "x"

-- a state, or a node, by its number
abbrev pub ref_text : Ref → List ℕ
ref_text (Leaf state) = codes "s" ++ decimal state
ref_text (Inner node) = codes "n" ++ decimal node

abbrev pub variable_line : FileVar → List ℕ
variable_line variable = field (order_text variable.order) ++ line variable.name

abbrev pub state_line : FileState → List ℕ
state_line state = field (sign_text state.sign) ++ line (ref_text state.next)

abbrev pub node_line : Node → List ℕ
node_line node = field (decimal node.var) ++ field (ref_text node.low) ++ line (ref_text node.high)

-- the text of a content, line by line
abbrev pub spelled : Plain → List ℕ
spelled plain =
    field (codes "monastr-dfa") ++ line (version_text plain.version)
    ++ field (codes "mode") ++ line (mode_text plain.mode)
    ++ field (codes "variables") ++ line (decimal (length plain.variables))
    ++ flat_map variable_line plain.variables
    ++ field (codes "start") ++ line (ref_text plain.start)
    ++ field (codes "states") ++ line (decimal (length plain.states))
    ++ flat_map state_line plain.states
    ++ field (codes "nodes") ++ line (decimal (length plain.nodes))
    ++ flat_map node_line plain.nodes
    ++ line (codes "end")
