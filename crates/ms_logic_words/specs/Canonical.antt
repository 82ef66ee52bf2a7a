-- The one content among those that give each word the same sign: it has fewest states (Myhill; Nerode), its diagrams are
-- reduced (Bryant, 1986), and its states and nodes are numbered as a walk first sees them.
use Rattle.std.specs.Prelude.{◌≡◌, ℕ, zero, suc, ◌<◌, ◌⊎◌, ◌==◌, Bool, if◌then◌else◌, List, [], ◌∷◌, ◌++◌, length, slice_get, Some}
use Rattle.std.specs.List.{flat_map, list_any}
use Rattle.std.specs.Option.{option_map_or}
use Rattle.ms_list.specs.declared.word.Word.{Word}
use Rattle.ms_arena.specs.Diagram.{IsReduced}
use Rattle.ms_arena.specs.Leaves.{leaves_within}
use Rattle.ms_arena.specs.declared.node.Node.{Node}
use Rattle.ms_arena.specs.declared.node.Ref.{Ref}
use Rattle.ms_arena.specs.declared.node.Ref.TheVariants.{Leaf, Inner}
use Rattle.ms_arena.specs.Reach.{Reaches}
use Rattle.ms_logic_words.specs.Content.{StateOf, Content, IsContent, IsWordOver, AreLetters, last_state, state_after, sign_at}
use Rattle.ms_logic.specs.FiniteSet.{numbers_below}

-- the numbers of a list that are not among those seen, each once, at its first place
abbrev pub unseen_of : List ℕ → List ℕ → List ℕ
unseen_of seen [] = []
unseen_of seen (n ∷ more) = if list_any (λ s. s == n) seen then unseen_of seen more else n ∷ unseen_of (n ∷ seen) more

abbrev pub first_sights_of : List ℕ → List ℕ
first_sights_of numbers = unseen_of [] numbers

-- the nodes that a walk sees: those behind the low end, those behind the high end, and then the node itself
abbrev pub nodes_within : ℕ → List Node → Ref → List ℕ
nodes_within depth nodes (Leaf value) = []
nodes_within zero nodes (Inner place) = []
nodes_within (suc depth) nodes (Inner place) =
    option_map_or (λ node. nodes_within depth nodes node.low ++ nodes_within depth nodes node.high ++ place ∷ []) (slice_get nodes place) []

module _ {Sign : Type 0} (content : Content Sign) where
  -- a walk of the start and then of each state's reference, in the order of the states; a path passes no node twice
  abbrev pub seen_leaves : List ℕ
  seen_leaves =
      leaves_within content.nodes (length content.nodes) content.start
      ++ flat_map (λ state. leaves_within content.nodes (length content.nodes) state.next) content.states

  abbrev pub seen_nodes : List ℕ
  seen_nodes =
      nodes_within (length content.nodes) content.nodes content.start
      ++ flat_map (λ state. nodes_within (length content.nodes) content.nodes state.next) content.states

  -- after every list of letters both states have one sign
  abbrev pub HaveSameSigns : ℕ → ℕ → Type 0
  HaveSameSigns one two =
      (letters : List (List Bool)) → AreLetters content.variables letters
      → sign_at content (state_after content one letters) ≡ sign_at content (state_after content two letters)

  -- the node is reached from the start or from a state
  abbrev pub IsNodeReached : ℕ → Type 0
  IsNodeReached place =
      Reaches content.nodes content.start place
      ⊎ ((i : ℕ) × (state : StateOf Sign) × (slice_get content.states i ≡ Some state) × Reaches content.nodes state.next place)

  pub record IsCanonical : Type 0 where
    pub rules : IsContent content
    -- some word leads to each state
    pub states_reached :
        (i : ℕ) → i < length content.states → (word : Word) × IsWordOver content.variables word × (last_state content word ≡ i)
    pub states_differ :
        (one two : ℕ) → one < length content.states → two < length content.states → HaveSameSigns one two → one ≡ two
    pub reduced : IsReduced content.nodes
    pub nodes_reached : (place : ℕ) → place < length content.nodes → IsNodeReached place
    -- states and nodes are numbered by first sight
    pub states_numbered : first_sights_of seen_leaves ≡ numbers_below (length content.states)
    pub nodes_numbered : first_sights_of seen_nodes ≡ numbers_below (length content.nodes)
