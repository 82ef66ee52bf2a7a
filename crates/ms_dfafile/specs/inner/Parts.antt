-- The parts of a file as they are read, one behind the other. Only the contracts and proofs inside this crate cite it.
use Rattle.std.specs.Prelude.{ℕ, List, ◌++◌, codes}
use Rattle.ms_arena.specs.declared.node.Node.{Node}
use Rattle.ms_arena.specs.declared.node.Ref.{Ref}
use Rattle.ms_logic.specs.declared.mode.Mode.{Mode}
use Rattle.ms_dfa.specs.declared.plain.FileState.{FileState}
use Rattle.ms_dfa.specs.declared.plain.FileVar.{FileVar}
use Rattle.ms_dfa.specs.declared.plain.FileVersion.{FileVersion}
use Rattle.ms_dfa.specs.declared.plain.Plain.{Plain}
use Rattle.ms_dfafile.specs.declared.parts.Body.{Body}
use Rattle.ms_dfafile.specs.declared.parts.Head.{Head}
use Rattle.ms_dfafile.specs.inner.Reading.{HasName, IsSection, IsSmallNode, IsSmallRef, IsSmallState, section_text}
use Rattle.ms_dfafile.specs.Spelling.{field, line, mode_text, node_line, ref_text, state_line, variable_line, version_text}

abbrev pub version_line : FileVersion → List ℕ
version_line version = field (codes "monastr-dfa") ++ line (version_text version)

abbrev pub mode_line : Mode → List ℕ
mode_line mode = field (codes "mode") ++ line (mode_text mode)

abbrev pub head_text : Head → List ℕ
head_text head = version_line head.version ++ mode_line head.mode

abbrev pub variables_text : List FileVar → List ℕ
variables_text variables = section_text (field (codes "variables")) variable_line variables

abbrev pub start_text : Ref → List ℕ
start_text start = field (codes "start") ++ line (ref_text start)

abbrev pub states_text : List FileState → List ℕ
states_text states = section_text (field (codes "states")) state_line states

abbrev pub nodes_text : List Node → List ℕ
nodes_text nodes = section_text (field (codes "nodes")) node_line nodes

-- the nodes and the last line
abbrev pub ending_text : List Node → List ℕ
ending_text nodes = nodes_text nodes ++ line (codes "end")

-- what stands behind the variables
abbrev pub body_text : Body → List ℕ
body_text body = start_text body.start ++ (states_text body.states ++ ending_text body.nodes)

abbrev pub body_of : Plain → Body
body_of plain = record { start = plain.start; states = plain.states; nodes = plain.nodes }

abbrev pub head_of : Plain → Head
head_of plain = record { version = plain.version; mode = plain.mode }

abbrev pub content_text : Plain → List ℕ
content_text plain = head_text (head_of plain) ++ (variables_text plain.variables ++ body_text (body_of plain))

-- numbers have 32 bits, and names are names
abbrev pub IsSmallBody : Body → Type 0
IsSmallBody body = IsSmallRef body.start × (IsSection IsSmallState body.states × IsSection IsSmallNode body.nodes)

abbrev pub IsSmallPlain : Plain → Type 0
IsSmallPlain plain = IsSection HasName plain.variables × IsSmallBody (body_of plain)
