-- The canonical contents of automata, and of the roots of a graph.
use Rattle.std.specs.Prelude.{◌≡◌, ℕ, ◌+◌, ◌<◌, ◌≤◌, ◌⊎◌, List, [], ◌∷◌, length, map, slice_get, Option, Some, None}
use Rattle.std.specs.Option.{option_map}
use Rattle.ms_build.specs.declared.built.Built.{Built}
use Rattle.ms_build.specs.declared.plan.Plan.{Plan}
use Rattle.ms_build.specs.Built.{AreBuiltFor, IsLimit, IsWithin, entries_of}
use Rattle.ms_build.specs.Roots.{AreRootsRead, IsRootAt}
use Rattle.ms_build.specs.Short.{RootLacks}
use Rattle.ms_edge.specs.declared.refusal.Refusal.{Refusal}
use Rattle.ms_edge.specs.declared.refusal.Refusal.TheVariants.{Memory, Nodes}
use Rattle.ms_dfa.specs.Files.{content_of_file, file_sign}
use Rattle.ms_dag.specs.declared.dag.SharedRoot.{SharedRoot}
use Rattle.ms_dfa.specs.Automaton.{IsAutomaton}
use Rattle.ms_dfa.specs.declared.plain.FileVersion.{FileVersion}
use Rattle.ms_dfa.specs.declared.plain.Plain.{Plain}
use Rattle.ms_list.specs.declared.word.Word.{Word}
use Rattle.ms_logic.specs.declared.checked.ExportUse.{ExportUse}
use Rattle.ms_logic_words.specs.declared.sign.Sign.{Sign}
use Rattle.ms_logic_words.specs.Canonical.{IsCanonical}
use Rattle.ms_logic_words.specs.Content.{Content, IsWordOver, sign_of}

-- a canonical content of a version, under these names, which gives each word the sign that files of the version have for its sign
pub record IsCanonicalCopy (version : FileVersion) (content : Content Sign) (names : List (List ℕ)) (plain : Plain) : Type 0 where
  pub version_is : plain.version ≡ version
  pub mode_is : plain.mode ≡ content.mode
  pub orders : map (λ v. v.order) plain.variables ≡ map (λ v. v.order) content.variables
  pub names_are : map (λ v. v.name) plain.variables ≡ names
  pub signs : (word : Word) → IsWordOver content.variables word → sign_of (content_of_file plain) word ≡ option_map (file_sign version) (sign_of content word)
  pub canonical : IsCanonical (content_of_file plain)
  pub few : length plain.nodes + length plain.states ≤ 4000000000

-- the automata of a graph, under a limit, whose roots can be asked for
pub record IsReady (limit : ℕ) (built : Built) : Type 0 where
  pub limit_is : built.plan.limit ≡ limit
  pub is_limit : IsLimit limit
  pub built_for : AreBuiltFor built.plan built.automata
  pub all : length built.automata ≡ length (entries_of built.plan)
  pub few : length (entries_of built.plan) + length built.plan.dag.now.roots ≤ 4294967295
  pub read : AreRootsRead built.plan.dag.now

-- why work on a root is refused: for want of memory, or since it lacks nodes. The roots count behind the nodes.
abbrev pub IsRootRefused : Built → ℕ → ℕ → Refusal → Type 0
IsRootRefused built root limit refusal = (refusal ≡ Memory) ⊎ ((refusal ≡ Nodes (length built.automata + root) limit) × RootLacks built.plan root)

-- the same of the root of an export
abbrev pub IsExportRefused : Built → List ExportUse → ℕ → Refusal → Type 0
IsExportRefused built uses limit refusal = (place : ℕ) × (place < length uses) × IsRootRefused built (place + 1) limit refusal

-- the automata of all roots from one on, in order, each within the limit
pub record AreRootsFrom (limit : ℕ) (plan : Plan) (first : ℕ) (contents : List (Content Sign)) : Type 0 where
  pub all : first + length contents ≡ length plan.dag.now.roots
  pub each : (place : ℕ) (content : Content Sign) → slice_get contents place ≡ Some content → IsRootAt plan (first + place) content × IsWithin limit content

-- the canonical content of the automaton of a root
abbrev pub IsRootCopy : FileVersion → Plan → ℕ → List (List ℕ) → Plain → Type 0
IsRootCopy version plan r names plain = (content : Content Sign) × IsRootAt plan r content × IsAutomaton content × IsCanonicalCopy version content names plain

-- those of the roots of exports, which go on from a number
abbrev pub AreRootCopies : FileVersion → Plan → ℕ → List ExportUse → List Plain → Type 0
AreRootCopies version plan r [] [] = Unit {0}
AreRootCopies version plan r [] (plain ∷ plains) = ⊥
AreRootCopies version plan r (used ∷ uses) [] = ⊥
AreRootCopies version plan r (used ∷ uses) (plain ∷ plains) = IsRootCopy version plan r used.names plain × AreRootCopies version plan (r + 1) uses plains

-- none, or those of all exports where they are asked for in a version: root 0 is that of the main value
abbrev pub AreAskedCopies : Option FileVersion → Plan → List ExportUse → List Plain → Type 0
AreAskedCopies None plan uses plains = plains ≡ []
AreAskedCopies (Some version) plan uses plains = AreRootCopies version plan 1 uses plains

-- there is a root for each export, and a name for each of its variables
abbrev pub HaveRoots : Plan → ℕ → List ExportUse → Type 0
HaveRoots plan r [] = Unit {0}
HaveRoots plan r (used ∷ uses) =
    ((root : SharedRoot) × (slice_get plan.dag.now.roots r ≡ Some root) × (length used.names ≡ length root.variables)) × HaveRoots plan (r + 1) uses
