-- How the rules of contents are tested, node by node. Only the contracts and proofs inside this crate cite it.
use Rattle.std.specs.Prelude.{◌≡◌, ◌≢◌, AllPairs, ℕ, ◌<◌, ◌↔◌, List, length, slice_get, Option, Some, None, IsTrue}
use Rattle.ms_arena.specs.declared.node.Node.{Node}
use Rattle.ms_arena.specs.declared.node.Ref.{Ref}
use Rattle.ms_arena.specs.declared.node.Ref.TheVariants.{Leaf, Inner}
use Rattle.ms_arena.specs.Diagram.{TestsAbove}
use Rattle.ms_arena.specs.Reach.{TestsOnly}
use Rattle.ms_dfa.specs.Files.{HasSignsOf, content_of_file}
use Rattle.ms_dfa.specs.declared.plain.Plain.{Plain}
use Rattle.ms_dfafile.specs.File.{names_of}
use Rattle.ms_logic_words.specs.Content.{Content, HasValueAt, IsContent, NamesPart, is_in_letters, is_truth_value}
use Rattle.ms_dfafile.specs.declared.tested.Tests.{Tests}

-- a reference names a state, or one of the first so many nodes
abbrev pub NamesAmong : {Sign : Type 0} → Content Sign → ℕ → Ref → Type 0
NamesAmong content count (Leaf state) = state < length content.states
NamesAmong content count (Inner place) = place < count

-- whether a reference tests truth values alone, and whether it tests variables in letters alone
pub record AreTestsOf {Sign : Type 0} (content : Content Sign) (reference : Ref) (tests : Tests) : Type 0 where
  pub truth_values : IsTrue tests.truth_values ↔ TestsOnly content.nodes (HasValueAt content.variables is_truth_value) reference
  pub letters : IsTrue tests.letters ↔ TestsOnly content.nodes (HasValueAt content.variables is_in_letters) reference

-- what the first nodes test
abbrev pub KnowsTests : {Sign : Type 0} → Content Sign → List Tests → Type 0
KnowsTests content known = (place : ℕ) (tests : Tests) → slice_get known place ≡ Some tests → AreTestsOf content (Inner place) tests

-- what a reference to a state or to one of so many nodes tests, or nothing where it is none
abbrev pub FindsTests : {Sign : Type 0} → Content Sign → ℕ → Ref → Option Tests → Type 0
FindsTests content count reference None = ¬ NamesAmong content count reference
FindsTests content count reference (Some tests) = NamesAmong content count reference × AreTestsOf content reference tests

-- a node may stand at a place: its variable is one of the content, its ends are states and earlier nodes, and variables
-- rise
pub record IsPlacedNode {Sign : Type 0} (content : Content Sign) (place : ℕ) (node : Node) : Type 0 where
  pub variable : node.var < length content.variables
  pub low : NamesAmong content place node.low
  pub high : NamesAmong content place node.high
  pub rising_low : TestsAbove content.nodes node.var node.low
  pub rising_high : TestsAbove content.nodes node.var node.high

abbrev pub FindsNodeTests : {Sign : Type 0} → Content Sign → ℕ → Node → Option Tests → Type 0
FindsNodeTests content place node None = ¬ IsPlacedNode content place node
FindsNodeTests content place node (Some tests) = IsPlacedNode content place node × AreTestsOf content (Inner place) tests

-- each of the first so many nodes may stand where it does
abbrev pub ArePlaced : {Sign : Type 0} → Content Sign → ℕ → Type 0
ArePlaced content count = (place : ℕ) (node : Node) → place < count → slice_get content.nodes place ≡ Some node → IsPlacedNode content place node

-- what all nodes test, or nothing where one may not stand where it does
abbrev pub FindsAllTests : {Sign : Type 0} → Content Sign → Option (List Tests) → Type 0
FindsAllTests content None = ¬ ArePlaced content (length content.nodes)
FindsAllTests content (Some known) = (length known ≡ length content.nodes) × ArePlaced content (length content.nodes) × KnowsTests content known

-- the start, and the reference of a state, are as a content has them
abbrev pub IsStart : {Sign : Type 0} → Content Sign → Ref → Type 0
IsStart content reference = NamesPart content reference × TestsOnly content.nodes (HasValueAt content.variables is_truth_value) reference

abbrev pub IsNext : {Sign : Type 0} → Content Sign → Ref → Type 0
IsNext content reference = NamesPart content reference × TestsOnly content.nodes (HasValueAt content.variables is_in_letters) reference

-- the names differ, references, nodes and variables are as in each content, and signs as in the version
pub record MeetsRules (plain : Plain) : Type 0 where
  pub different : AllPairs (λ one other. one ≢ other) (names_of plain)
  pub content : IsContent (content_of_file plain)
  pub signs : HasSignsOf plain.version (content_of_file plain)
