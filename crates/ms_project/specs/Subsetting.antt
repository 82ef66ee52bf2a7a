-- The sets that a subset construction has found.
use Rattle.std.specs.Prelude.{◌≡◌, ◌≢◌, ℕ, ◌+◌, ◌<◌, ◌≤◌, Bool, List, [], length, Contains, slice_get, slice_index, Option, Some, None}
use Rattle.ms_arena.specs.declared.node.Ref.{Ref}
use Rattle.ms_arena.specs.declared.node.Node.{Node}
use Rattle.ms_arena.specs.Bits.{with_bit}
use Rattle.ms_arena.specs.Diagram.{Bits, leaf_of, IsOrdered, IsReduced}
use Rattle.ms_arena.specs.Target.{Target, Extends}
use Rattle.ms_diagram.specs.Collect.{IsRisingSet, IsSetNumbering}
use Rattle.ms_diagram.specs.Projecting.{Projecting}
use Rattle.ms_diagram.specs.Store.{Contents, IsStore}
use Rattle.ms_diagram.specs.Table.{AreCollected}
use Rattle.ms_dfa.specs.Automaton.{states_of}
use Rattle.ms_dfa.specs.declared.state.State.{State}
use Rattle.ms_logic_words.specs.declared.sign.Sign.{Sign}
use Rattle.ms_logic_words.specs.declared.sign.Sign.TheVariants.{Outside}
use Rattle.ms_logic_words.specs.Content.{Content, IsClosed}
use Rattle.ms_dfa_explore.specs.Explored.{Findings, AreMore, Leads, Follows}
use Rattle.ms_product.specs.Pairing.{IsNeededForSome}
use Rattle.ms_project.specs.Subsets.{next_of, start_sets, sets_behind}

-- a subset construction under way: the states of a product over the variables of the body, the bound place, for each place
-- its place among the rest, and the sets that have numbers
pub record Subsetting : Type 0 where
  pub body : Content Sign
  pub inner : Contents
  pub start : Ref
  pub states : List State
  pub bound : ℕ
  pub back : List ℕ
  pub sets : List (List ℕ)

-- the states as a content over the variables of the body
abbrev pub paired : Subsetting → Content Sign
paired v = record { mode = v.body.mode; variables = v.body.variables; start = v.start; states = states_of v.states; nodes = v.inner.nodes }

-- the set of the states that are reached from the start, and from the members of a set, by bits over all places
abbrev pub sets_at_start : Content Sign → ℕ → List (List ℕ) → Target
sets_at_start content bound sets bits number =
    (set : List ℕ) × (slice_get sets number ≡ Some set) × IsRisingSet set (λ state. (bit : Bool) × (leaf_of content.nodes content.start (with_bit bits bound bit) ≡ state))

abbrev pub sets_at : Content Sign → ℕ → List (List ℕ) → Option (List ℕ) → Target
sets_at content bound sets None = λ bits number. ⊥
sets_at content bound sets (Some from) = λ bits number.
    (set : List ℕ) × (slice_get sets number ≡ Some set)
    × IsRisingSet set (λ state. (member : ℕ) × (bit : Bool) × Contains from member × (leaf_of content.nodes (next_of content member) (with_bit bits bound bit) ≡ state))

-- the diagrams of the product, read with the bound place left out
abbrev pub projecting : Subsetting → Projecting
projecting v = record { nodes = v.inner.nodes; map = v.back; track = v.bound }

-- what is found of the sets, over the places of the rest; a number lacks only once each of the 2^32 - 1 has a set
abbrev pub subset_findings : Subsetting → Findings
subset_findings v = record {
  count = length v.sets;
  starts = start_sets (paired v) v.back v.bound v.sets;
  steps = λ number. sets_behind (paired v) v.back v.bound v.sets (slice_get v.sets number);
  sign_of = λ number. Outside;
  most_nodes = 4000000000;
  LacksNumber = length v.sets ≡ 4294967295;
}

-- each member of each set is a state
abbrev pub MembersAreStates : List State → List (List ℕ) → Type 0
MembersAreStates states sets =
    (number : ℕ) (set : List ℕ) → slice_get sets number ≡ Some set → (member : ℕ) → Contains set member → member < length states

-- words reach the set of this number: bits over all places lead to it from the start, or from a set that words reach
pub data IsReachedNumber (v : Subsetting) : ℕ → Type 0 where
  from_start : (bits : Bits) (number : ℕ) → sets_at_start (paired v) v.bound v.sets bits number → IsReachedNumber v number
  from_set :
      (before : ℕ) (bits : Bits) (number : ℕ) → IsReachedNumber v before → sets_at (paired v) v.bound v.sets (slice_get v.sets before) bits number
      → IsReachedNumber v number

abbrev pub AreReachedNumbers : Subsetting → Type 0
AreReachedNumbers v = (number : ℕ) → number < length v.sets → IsReachedNumber v number

-- the states lead to states, and the places of the rest rise
pub record IsReadyForSets (v : Subsetting) : Type 0 where
  pub closed : IsClosed (paired v)
  pub members : MembersAreStates v.states v.sets
  pub long : length v.back ≡ length v.body.variables
  pub rising : (one two : ℕ) → one < two → two < length v.body.variables → one ≢ v.bound → two ≢ v.bound → slice_index v.back one < slice_index v.back two

-- what has been noted of lists of references is right
abbrev pub AreNoted : Subsetting → List Node → List (List Ref × Ref) → Type 0
AreNoted v nodes lists = AreCollected (projecting v) v.sets nodes lists

-- the same construction with more sets
pub record IsLaterSubsetting (early late : Subsetting) : Type 0 where
  pub same : late ≡ record early { sets = late.sets }
  pub sets : Extends early.sets late.sets
  pub more : AreMore (subset_findings early) (subset_findings late)
  pub ready : IsReadyForSets early → IsReadyForSets late
  pub reached : AreReachedNumbers early → AreReachedNumbers late

-- a construction that has found no sets yet
abbrev pub begun : Content Sign → Contents → Ref → List State → ℕ → List ℕ → Subsetting
begun body inner start states bound back = record { body = body; inner = inner; start = start; states = states; bound = bound; back = back; sets = [] }

-- the same with these sets
abbrev pub with_sets : Subsetting → List (List ℕ) → Subsetting
with_sets v sets = record v { sets = sets }

-- all sets have been found, and their diagrams over the places of the rest have been built in a store
pub record AreSetsFound (v : Subsetting) (held : Contents) (start : Ref) (states : List State) : Type 0 where
  pub numbering : IsSetNumbering v.sets
  pub inner : IsStore v.inner.nodes v.inner.limit
  pub store : IsStore held.nodes held.limit
  pub starts : Leads held.nodes (subset_findings v).starts start
  pub all : length states ≡ length v.sets
  pub follows : Follows held.nodes (subset_findings v) states

-- sets that words reach have been found, and each of these nodes over the places of the rest is needed for some of them
pub record AreSetsBehind (begun_with found : Subsetting) (outer : List Node) : Type 0 where
  pub later : IsLaterSubsetting begun_with found
  pub numbering : IsSetNumbering found.sets
  pub members : MembersAreStates found.states found.sets
  pub reached : AreReachedNumbers found
  pub ordered : IsOrdered outer
  pub reduced : IsReduced outer
  pub needed : (place : ℕ) (node : Node) → slice_get outer place ≡ Some node → IsNeededForSome outer (subset_findings found) node

-- the nodes over the places of the rest and the sets that have been found are together at least so many; each is needed
pub record SetsAreAtLeast (count : ℕ) (begun_with : Subsetting) : Type 0 where
  pub found : Subsetting
  pub outer : List Node
  pub behind : AreSetsBehind begun_with found outer
  pub many : count ≤ length outer + length found.sets
