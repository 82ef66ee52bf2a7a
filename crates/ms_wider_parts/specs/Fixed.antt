-- Contents whose states are fixed by the pairs of states of two others.
use Rattle.std.specs.Prelude.{◌≡◌, ℕ, suc, ◌<◌, Bool, false, if◌then◌else◌, nat_eq, List, [], ◌∷◌, length, Option, Some, None}
use Rattle.std.specs.Option.{option_map}
use Rattle.ms_arena.specs.declared.node.Ref.{Ref}
use Rattle.ms_arena.specs.Bits.{below_from}
use Rattle.ms_arena.specs.Diagram.{Bits, IsOrdered, IsValid, leaf_of}
use Rattle.ms_arena.specs.Reach.{TestsOnly}
use Rattle.ms_build_parts.specs.Labels.{IsOrigin, behind}
use Rattle.ms_dfa_explore.specs.Explored.{Origin}
use Rattle.ms_logic_words.specs.Content.{Content, IsClosed, LeadsToStates}
use Rattle.ms_logic_words.specs.declared.sign.Sign.{Sign}
use Rattle.ms_logic_words.specs.Residual.{AreReached}

-- bits are read in another way, which keeps their order: what is put together at some variable is then put together at some level
abbrev pub KeepsOrder : ℕ → (Bits → Bits) → Type 0
KeepsOrder count read =
    (var : ℕ) → (level : ℕ) × ((first bits : Bits) (place : ℕ) → place < count
    → read (below_from var first bits) place ≡ below_from level (read first) (read bits) place)

-- where a place stands in a list, if it does
abbrev pub index_in : List ℕ → ℕ → Option ℕ
index_in [] place = None
index_in (first ∷ more) place = if nat_eq place first then Some 0 else option_map suc (index_in more place)

abbrev pub bit_or_zero : Bits → Option ℕ → Bool
bit_or_zero bits None = false
bit_or_zero bits (Some i) = bits i

-- each bit at the place that the map gives it among more variables, and 0 at all other places
abbrev pub spread : List ℕ → Bits → Bits
spread map bits = λ place. bit_or_zero bits (index_in map place)

-- for each origin of one content a reference of another, which leads to its states, and a way to read its bits
pub record Follower (wide other : Content Sign) : Type 0 where
  pub ordered : IsOrdered other.nodes
  pub read : Bits → Bits
  pub keeps : KeepsOrder (length other.variables) read
  pub root : (origin : Origin) → IsOrigin wide origin → Ref
  pub valid : (origin : Origin) (is : IsOrigin wide origin) → IsValid other.nodes (root origin is)
  pub tests : (origin : Origin) (is : IsOrigin wide origin) → TestsOnly other.nodes (λ var. var < length other.variables) (root origin is)
  pub states : (origin : Origin) (is : IsOrigin wide origin) → LeadsToStates other (root origin is)

-- where the bits lead from that reference
abbrev pub led_to : (wide other : Content Sign) → Follower wide other → (origin : Origin) → IsOrigin wide origin → Bits → ℕ
led_to wide other follower origin is bits = leaf_of other.nodes (follower.root origin is) (follower.read bits)

-- a closed content of ordered diagrams whose states are reached: bits that lead both others to the same states lead it to one state
pub record IsFixedBy (wide left right : Content Sign) : Type 0 where
  pub ordered : IsOrdered wide.nodes
  pub closed : IsClosed wide
  pub reached : AreReached wide
  pub first : Follower wide left
  pub second : Follower wide right
  pub fixed :
      (one other : Origin) (is_one : IsOrigin wide one) (is_other : IsOrigin wide other) (bits bits' : Bits)
      → led_to wide left first one is_one bits ≡ led_to wide left first other is_other bits'
      → led_to wide right second one is_one bits ≡ led_to wide right second other is_other bits'
      → behind wide one bits ≡ behind wide other bits'
