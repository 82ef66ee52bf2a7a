-- Following a diagram by the values of one part of a word.
use Rattle.std.proofs.Common.{◌≡◌, ℕ, zero, suc, ◌<◌, Bool, true, false, IsTrue, if◌then◌else◌, List, [], ◌∷◌, length, take, slice_get, slice_index_or, Some, refl, ap, sym, subst, ◌∙◌, arith, add-one}
use Rattle.std.proofs.lemmas.Option.{slice_get_within}
use Rattle.ms_arena.specs.declared.node.Ref.{Ref}
use Rattle.ms_arena.specs.declared.node.Ref.TheVariants.{Inner}
use Rattle.ms_arena.specs.declared.node.Node.{Node}
use Rattle.ms_arena.specs.Diagram.{Bits, leaf_of, end_at, IsValid, IsBefore, IsOrdered}
use Rattle.ms_arena.specs.Reach.{here, through_low, through_high, TestsOnly}
use Rattle.ms_arena.proofs.Paths.{IsBefore-later, IsBefore-end_at, leaf_of-node}
use Rattle.ms_logic.specs.declared.mode.Order.{Order}
use Rattle.ms_logic.specs.Assignment.{Variable}
use Rattle.ms_logic_words.specs.Content.{count_of, padded, head_bit, tail_bits, bits_at, HasValueAt}
use Rattle.std.proofs.lemmas.List.{take-map, length-map}
use Rattle.ms_logic_words.specs.Content.{Content}
use Rattle.ms_logic_words.specs.declared.sign.Sign.{Sign}
use Rattle.ms_dfa.specs.declared.track.Track.{Track}
use Rattle.ms_dfa.specs.Automaton.{variable_of, variables_of}
use Rattle.ms_dfa.proofs.Ranks.{counted}

-- a reference on the path of the bits from the root
pub record IsOnPath (nodes : List Node) (P : ℕ → Type 0) (bits : Bits) (root reference : Ref) : Type 0 where
  pub valid : IsValid nodes reference
  pub tests : TestsOnly nodes P reference
  pub leaf : leaf_of nodes reference bits ≡ leaf_of nodes root bits

-- what an end of a node tests, the node's diagram tests
end_tests : (nodes : List Node) (P : ℕ → Type 0) (place : ℕ) (node : Node) (value : Bool)
    → slice_get nodes place ≡ Some node → TestsOnly nodes P (Inner place) → TestsOnly nodes P (if value then node.high else node.low)
end_tests nodes P place node true held tests = λ var (goal, found, path, there, same). tests var (goal, found, through_high node held path, there, same)
end_tests nodes P place node false held tests = λ var (goal, found, path, there, same). tests var (goal, found, through_low node held path, there, same)

-- the end of a node on the path is on it too
pub IsOnPath-end : (nodes : List Node) (P : ℕ → Type 0) (bits : Bits) (root : Ref) (place : ℕ) (node : Node) (value : Bool)
    → IsOrdered nodes → slice_get nodes place ≡ Some node → bits node.var ≡ value → IsOnPath nodes P bits root (Inner place)
    → IsOnPath nodes P bits root (if value then node.high else node.low)
IsOnPath-end nodes P bits root place node value ordered held chosen path =
    let same : end_at node bits ≡ (if value then node.high else node.low) = ap (λ (bit : Bool). if bit then node.high else node.low) chosen in
    let before : IsBefore (length nodes) (end_at node bits)
    = IsBefore-later place (length nodes) (end_at node bits) (omega (arith, path.valid)) (IsBefore-end_at nodes ordered place node bits held) in
    record {
      valid = subst (λ (reference : Ref). IsBefore (length nodes) reference) same before;
      tests = end_tests nodes P place node value held path.tests;
      leaf = ap (λ (reference : Ref). leaf_of nodes reference bits) (sym same) ∙ sym (leaf_of-node nodes ordered bits place node held) ∙ path.leaf;
    }

-- the variable that a node on the path tests
pub tested_on_path : (nodes : List Node) (P : ℕ → Type 0) (bits : Bits) (root : Ref) (place : ℕ) (node : Node)
    → slice_get nodes place ≡ Some node → IsOnPath nodes P bits root (Inner place) → P node.var
tested_on_path nodes P bits root place node held path = path.tests node.var (place, node, here, held, refl)

-- the place of a variable with a value, and its value among the values
pub record StandsAt (has_value : Order → Bool) (variables : List Variable) (values : List Bool) (place : ℕ) : Type 0 where
  pub within : count_of has_value (take place variables) < length values
  pub value : slice_index_or (padded has_value variables values) place false ≡ slice_index_or values (count_of has_value (take place variables)) false

-- behind one variable more, which has a value or none
stands_behind : (has_value : Order → Bool) (variables : List Variable) (place : ℕ) (test : Bool) (values : List Bool)
    → length values ≡ counted test (count_of has_value variables)
    → ((fewer : List Bool) → length fewer ≡ count_of has_value variables → StandsAt has_value variables fewer place)
    → (counted test (count_of has_value (take place variables)) < length values)
    × (slice_index_or (if test then head_bit values ∷ padded has_value variables (tail_bits values) else false ∷ padded has_value variables values) (suc place) false
    ≡ slice_index_or values (counted test (count_of has_value (take place variables))) false)
stands_behind has_value variables place false values count behind = ((behind values count).within, (behind values count).value)
stands_behind has_value variables place true [] count behind = absurd (omega (arith, count))
stands_behind has_value variables place true (first ∷ more) count behind =
    let rest = behind more (omega (arith, count)) in
    (omega (arith, rest.within), rest.value ∙ rw add-one)

-- the first of the values
first_value : (values : List Bool) → head_bit values ≡ slice_index_or values 0 false
first_value [] = refl
first_value (first ∷ more) = refl

-- the first variable, which has a value
stands_first : (has_value : Order → Bool) (variables : List Variable) (test : Bool) (values : List Bool) → IsTrue test
    → length values ≡ counted test (count_of has_value variables)
    → (0 < length values)
    × (slice_index_or (if test then head_bit values ∷ padded has_value variables (tail_bits values) else false ∷ padded has_value variables values) 0 false ≡ slice_index_or values 0 false)
stands_first has_value variables true values with_value count = (omega (arith, count), first_value values)
stands_first has_value variables false values with_value count = let never : ⊥ = cc in absurd never

-- a variable with a value has it where as many values stand before it as variables with a value
pub stands_at : (has_value : Order → Bool) (variables : List Variable) (values : List Bool) (place : ℕ) (v : Variable)
    → slice_get variables place ≡ Some v → IsTrue (has_value v.order) → length values ≡ count_of has_value variables
    → StandsAt has_value variables values place
stands_at has_value [] values place v there with_value count = let never : ⊥ = cc in absurd never
stands_at has_value (first ∷ more) values zero v there with_value count =
    let same : v ≡ first = cc in
    let found = stands_first has_value more (has_value first.order) values (subst (λ (u : Variable). IsTrue (has_value u.order)) same with_value) count in
    record { within = found.0; value = found.1 }
stands_at has_value (first ∷ more) values (suc place) v there with_value count =
    let found = stands_behind has_value more place (has_value first.order) values count (λ fewer same. stands_at has_value more fewer place v there with_value same) in
    record { within = found.0; value = found.1 }

-- one step along the path: the variable that the node tests has a value, and the end that it chooses is on the path
pub record StepAlong (nodes : List Node) (has_value : Order → Bool) (variables : List Variable) (values : List Bool) (root : Ref) (node : Node) : Type 0 where
  pub variable : node.var < length variables
  pub within : count_of has_value (take node.var variables) < length values
  pub next : (value : Bool) → slice_index_or values (count_of has_value (take node.var variables)) false ≡ value
      → IsOnPath nodes (HasValueAt variables has_value) (bits_at (padded has_value variables values)) root (if value then node.high else node.low)

pub step_along : (nodes : List Node) (has_value : Order → Bool) (variables : List Variable) (values : List Bool) (root reference : Ref) (place : ℕ) (node : Node)
    → IsOrdered nodes → length values ≡ count_of has_value variables
    → IsOnPath nodes (HasValueAt variables has_value) (bits_at (padded has_value variables values)) root reference
    → reference ≡ Inner place → slice_get nodes place ≡ Some node → StepAlong nodes has_value variables values root node
step_along nodes has_value variables values root reference place node ordered count path named held =
    let on_path : IsOnPath nodes (HasValueAt variables has_value) (bits_at (padded has_value variables values)) root (Inner place)
    = subst (λ (r : Ref). IsOnPath nodes (HasValueAt variables has_value) (bits_at (padded has_value variables values)) root r) named path in
    let tested = tested_on_path nodes (HasValueAt variables has_value) (bits_at (padded has_value variables values)) root place node held on_path in
    let stands = stands_at has_value variables values node.var tested.0 tested.1 tested.2 count in
    record {
      variable = slice_get_within variables node.var tested.0 tested.1;
      within = stands.within;
      next = λ value found. IsOnPath-end nodes (HasValueAt variables has_value) (bits_at (padded has_value variables values)) root place node value ordered held (stands.value ∙ found) on_path;
    }

-- the same, where the node was found in what is seen as the content
pub step_in : (inside content : Content Sign) → inside ≡ content → IsOrdered inside.nodes
    → (has_value : Order → Bool) (values : List Bool) (root reference : Ref) (place : ℕ) (node : Node)
    → length values ≡ count_of has_value content.variables
    → IsOnPath content.nodes (HasValueAt content.variables has_value) (bits_at (padded has_value content.variables values)) root reference
    → reference ≡ Inner place → slice_get inside.nodes place ≡ Some node → StepAlong content.nodes has_value content.variables values root node
step_in inside content same ordered has_value values root reference place node count path named held =
    step_along content.nodes has_value content.variables values root reference place node
    (subst (λ (seen : Content Sign). IsOrdered seen.nodes) same ordered) count path named
    (subst (λ (seen : Content Sign). slice_get seen.nodes place ≡ Some node) same held)

-- the variables of the first tracks
pub variables_of-take : (tracks : List Track) (n : ℕ) → variables_of (take n tracks) ≡ take n (variables_of tracks)
variables_of-take tracks n = sym (take-map variable_of n tracks)

-- what was counted among the first tracks, as a count of variables of the content
pub counted_in : (inside content : Content Sign) → inside ≡ content → (has_value : Order → Bool) (tracks found : List Track) (n count : ℕ)
    → inside.variables ≡ variables_of tracks → found ≡ tracks → count ≡ count_of has_value (variables_of (take n found))
    → count ≡ count_of has_value (take n content.variables)
counted_in inside content same has_value tracks found n count seen as_found counted =
    counted
    ∙ ap (λ (list : List Track). count_of has_value (variables_of (take n list))) as_found
    ∙ ap (count_of has_value) (variables_of-take tracks n)
    ∙ ap (λ (list : List Variable). count_of has_value (take n list)) (sym seen)
    ∙ ap (λ (list : Content Sign). count_of has_value (take n list.variables)) same

-- there are as many tracks as variables
pub length_in : (inside content : Content Sign) → inside ≡ content → (tracks found : List Track)
    → inside.variables ≡ variables_of tracks → found ≡ tracks → length found ≡ length content.variables
length_in inside content same tracks found seen as_found =
    ap length as_found ∙ sym (length-map tracks variable_of) ∙ ap length (sym seen) ∙ ap (λ (list : Content Sign). length list.variables) same
