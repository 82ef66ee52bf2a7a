-- The parts of a file, one behind the other.
use Rattle.std.proofs.Common.{◌≡◌, ◌≢◌, ℕ, List, ◌++◌, length, get_or, codes, Err, refl, ap, arith, append_assoc}
use Rattle.std.specs.Fmt.{decimal}
use Rattle.std.specs.List.{flat_map}
use Rattle.ms_arena.specs.declared.node.Node.{Node}
use Rattle.ms_arena.specs.declared.node.Ref.{Ref}
use Rattle.ms_logic.specs.declared.mode.Mode.{Mode}
use Rattle.ms_logic.specs.declared.mode.Mode.TheVariants.{Ws1s, M2lStr}
use Rattle.ms_dfa.specs.declared.plain.FileState.{FileState}
use Rattle.ms_dfa.specs.declared.plain.FileVar.{FileVar}
use Rattle.ms_dfa.specs.declared.plain.FileVersion.{FileVersion}
use Rattle.ms_dfa.specs.declared.plain.FileVersion.TheVariants as versions
use Rattle.ms_dfa.specs.declared.plain.Plain.{Plain}
use Rattle.ms_dfafile.specs.declared.fault.FileFault.{FileFault}
use Rattle.ms_dfafile.specs.declared.fault.FileFault.TheVariants as faults
use Rattle.ms_dfafile.specs.declared.parts.Body.{Body}
use Rattle.ms_dfafile.specs.declared.parts.Head.{Head}
use Rattle.ms_dfafile.specs.inner.Parts.{IsSmallBody, IsSmallPlain, body_text, content_text, ending_text, head_of, head_text, mode_line, nodes_text, start_text, states_text, variables_text, version_line}
use Rattle.ms_dfafile.specs.inner.Reading.{BeginsWith, BeginsWithNone, Finds, Gives, HasName, IsOneForm, IsSection, IsSmallNode, IsSmallRef, IsSmallState}
use Rattle.ms_dfafile.specs.Spelling.{field, line, mode_text, node_line, ref_text, spelled, state_line, variable_line, version_text}
use Rattle.ms_dfafile.proofs.LineLemmas.{node-one_form, state-one_form, variable-one_form}
use Rattle.ms_dfafile.proofs.NumberLemmas.{reference-one_form}
use Rattle.ms_dfafile.proofs.PairLemmas.{BothFit, both_found, first_fault-given, first_missing, pair-one_form, pair_text, second_fault-given, second_missing, word-one_form}
use Rattle.ms_dfafile.proofs.ReadingLemmas.{section-one_form}

-- each part is found in one way
byte_at : (place : ℕ) (one two : List ℕ) → one ≡ two → get_or one place 0 ≡ get_or two place 0
byte_at place one two same = ap (λ (bytes : List ℕ). get_or bytes place 0) same

pub version-one_form : IsOneForm version_line (λ _. Unit {0})
version-one_form versions.One versions.One behind other fits suits same = refl
version-one_form versions.One versions.Two behind other fits suits same = absurd (omega (arith, byte_at 12 _ _ same))
version-one_form versions.Two versions.One behind other fits suits same = absurd (omega (arith, byte_at 12 _ _ same))
version-one_form versions.Two versions.Two behind other fits suits same = refl

pub mode-one_form : IsOneForm mode_line (λ _. Unit {0})
mode-one_form Ws1s Ws1s behind other fits suits same = refl
mode-one_form Ws1s M2lStr behind other fits suits same = absurd (omega (arith, byte_at 5 _ _ same))
mode-one_form M2lStr Ws1s behind other fits suits same = absurd (omega (arith, byte_at 5 _ _ same))
mode-one_form M2lStr M2lStr behind other fits suits same = refl

pub head-one_form : IsOneForm head_text (λ _. Unit {0})
head-one_form one two rest other fits suits same =
    let both = pair-one_form version_line (λ _. Unit {0}) mode_line (λ _. Unit {0}) version-one_form mode-one_form (one.version, one.mode) (two.version, two.mode) rest other (tt, tt) (tt, tt) same in
    ap (λ (p : FileVersion × Mode). record { version = p.0; mode = p.1 }) both

-- no first two lines are where the first is none, and where no second stands behind it
pub version_missing : (bytes : List ℕ) → BeginsWithNone version_line (λ _. Unit {0}) bytes → BeginsWithNone head_text (λ _. Unit {0}) bytes
version_missing bytes none head rest fits same =
    first_missing version_line (λ _. Unit {0}) mode_line (λ _. Unit {0}) bytes none (head.version, head.mode) rest (tt, tt) same

pub mode_missing : (bytes : List ℕ) (version : FileVersion) (rest : List ℕ) → BeginsWith version_line (λ _. Unit {0}) bytes version rest → BeginsWithNone mode_line (λ _. Unit {0}) rest
    → BeginsWithNone head_text (λ _. Unit {0}) bytes
mode_missing bytes version rest begins none head other fits same =
    second_missing version_line (λ _. Unit {0}) mode_line (λ _. Unit {0}) version-one_form bytes version rest begins none (head.version, head.mode) other (tt, tt) same

pub head_found : (bytes : List ℕ) (version : FileVersion) (rest : List ℕ) (mode : Mode) (after : List ℕ) → BeginsWith version_line (λ _. Unit {0}) bytes version rest
    → BeginsWith mode_line (λ _. Unit {0}) rest mode after → BeginsWith head_text (λ _. Unit {0}) bytes (record { version = version; mode = mode }) after
head_found bytes version rest mode after first second = record {
  fits = tt;
  parts = (both_found version_line (λ _. Unit {0}) mode_line (λ _. Unit {0}) bytes version rest mode after first second).parts;
}

pub variables-one_form : IsOneForm variables_text (IsSection HasName)
variables-one_form = section-one_form variable_line HasName variable-one_form (field (codes "variables"))

pub start-one_form : IsOneForm start_text IsSmallRef
start-one_form = word-one_form (field (codes "start")) (λ r. line (ref_text r)) IsSmallRef (reference-one_form 10 refl)

pub states-one_form : IsOneForm states_text (IsSection IsSmallState)
states-one_form = section-one_form state_line IsSmallState state-one_form (field (codes "states"))

pub nodes-one_form : IsOneForm nodes_text (IsSection IsSmallNode)
nodes-one_form = section-one_form node_line IsSmallNode node-one_form (field (codes "nodes"))

-- the last line
abbrev pub end_text : Unit {0} → List ℕ
end_text u = line (codes "end")

-- no ending is where the nodes are and no last line behind them
pub ending_missing : (bytes : List ℕ) (nodes : List Node) (rest : List ℕ) → BeginsWith nodes_text (IsSection IsSmallNode) bytes nodes rest → rest ≢ line (codes "end") → Gives ending_text (IsSection IsSmallNode) bytes (Err faults.Text)
ending_missing bytes nodes rest begins apart =
    let given = second_fault-given nodes_text (IsSection IsSmallNode) end_text (λ u. Unit {0}) nodes-one_form bytes nodes rest begins faults.Text (λ u fits. apart) in
    λ others fits same. given (others, tt) (fits, tt) same

-- the states and the ending
abbrev pub tables_text : List FileState × List Node → List ℕ
tables_text = pair_text states_text (IsSection IsSmallState) ending_text (IsSection IsSmallNode)

abbrev pub AreSmallTables : List FileState × List Node → Type 0
AreSmallTables = BothFit states_text (IsSection IsSmallState) ending_text (IsSection IsSmallNode)

body_given : (bytes : List ℕ) (fault : FileFault) → Gives (pair_text start_text IsSmallRef tables_text AreSmallTables) (BothFit start_text IsSmallRef tables_text AreSmallTables) bytes (Err fault) → Gives body_text IsSmallBody bytes (Err fault)
body_given bytes faults.Text none = λ body fits same. none (body.start, (body.states, body.nodes)) fits same
body_given bytes faults.Memory none = tt

module _ (bytes : List ℕ) (start : Ref) (rest : List ℕ) (begins : BeginsWith start_text IsSmallRef bytes start rest) (fault : FileFault) where
  -- a fault of the states, and one of what stands behind them
  pub states_fault : Finds states_text (IsSection IsSmallState) rest (Err fault) → Gives body_text IsSmallBody bytes (Err fault)
  states_fault none =
      body_given bytes fault (second_fault-given start_text IsSmallRef tables_text AreSmallTables start-one_form bytes start rest begins fault
      (first_fault-given states_text (IsSection IsSmallState) ending_text (IsSection IsSmallNode) rest fault none))

  pub behind_states_fault : (states : List FileState) (after : List ℕ) → BeginsWith states_text (IsSection IsSmallState) rest states after → Gives ending_text (IsSection IsSmallNode) after (Err fault) → Gives body_text IsSmallBody bytes (Err fault)
  behind_states_fault states after there none =
      body_given bytes fault (second_fault-given start_text IsSmallRef tables_text AreSmallTables start-one_form bytes start rest begins fault
      (second_fault-given states_text (IsSection IsSmallState) ending_text (IsSection IsSmallNode) states-one_form rest states after there fault none))

-- the variables and what stands behind them
abbrev pub named_text : List FileVar × Body → List ℕ
named_text = pair_text variables_text (IsSection HasName) body_text IsSmallBody

abbrev pub AreSmallNamed : List FileVar × Body → Type 0
AreSmallNamed = BothFit variables_text (IsSection HasName) body_text IsSmallBody

content_given : (bytes : List ℕ) (fault : FileFault) → Gives (pair_text head_text (λ _. Unit {0}) named_text AreSmallNamed) (BothFit head_text (λ _. Unit {0}) named_text AreSmallNamed) bytes (Err fault) → Gives content_text IsSmallPlain bytes (Err fault)
content_given bytes faults.Text none = λ plain fits same. none (head_of plain, (plain.variables, record { start = plain.start; states = plain.states; nodes = plain.nodes })) (tt, fits) same
content_given bytes faults.Memory none = tt

-- a fault of what stands behind the variables
pub behind_variables_fault : (bytes : List ℕ) (head : Head) (rest : List ℕ) → BeginsWith head_text (λ _. Unit {0}) bytes head rest → (fault : FileFault) (variables : List FileVar) (after : List ℕ)
    → BeginsWith variables_text (IsSection HasName) rest variables after → Gives body_text IsSmallBody after (Err fault) → Gives content_text IsSmallPlain bytes (Err fault)
behind_variables_fault bytes head rest begins fault variables after there none =
    content_given bytes fault (second_fault-given head_text (λ _. Unit {0}) named_text AreSmallNamed head-one_form bytes head rest begins fault
    (second_fault-given variables_text (IsSection HasName) body_text IsSmallBody variables-one_form rest variables after there fault none))

regroup : (monastr version mode name word count variables start ref word' count' states word'' count'' nodes end : List ℕ)
    → ((monastr ++ version) ++ (mode ++ name)) ++ ((word ++ (count ++ variables)) ++ ((start ++ ref) ++ ((word' ++ (count' ++ states)) ++ ((word'' ++ (count'' ++ nodes)) ++ end))))
    ≡ monastr ++ version ++ mode ++ name ++ word ++ count ++ variables ++ start ++ ref ++ word' ++ count' ++ states ++ word'' ++ count'' ++ nodes ++ end
regroup monastr version mode name word count variables start ref word' count' states word'' count'' nodes end = simp append_assoc

-- the text of a content is that of its parts, one behind the other
pub content_text-spelled : (plain : Plain) → content_text plain ≡ spelled plain
content_text-spelled plain =
    regroup (field (codes "monastr-dfa")) (line (version_text plain.version)) (field (codes "mode")) (line (mode_text plain.mode))
    (field (codes "variables")) (line (decimal (length plain.variables))) (flat_map variable_line plain.variables)
    (field (codes "start")) (line (ref_text plain.start))
    (field (codes "states")) (line (decimal (length plain.states))) (flat_map state_line plain.states)
    (field (codes "nodes")) (line (decimal (length plain.nodes))) (flat_map node_line plain.nodes)
    (line (codes "end"))
