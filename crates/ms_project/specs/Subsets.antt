-- The subset construction over a content with one track left out: the sets of states that are reached by the words that
-- differ in that track alone (Rabin and Scott, 1959).
use Rattle.std.specs.Prelude.{◌≡◌, ◌≢◌, ℕ, Bool, List, Contains, slice_get, slice_index, Option, Some, None}
use Rattle.ms_list.specs.declared.word.Word.{Word}
use Rattle.ms_arena.specs.declared.node.Ref.{Ref}
use Rattle.ms_arena.specs.declared.node.Ref.TheVariants.{Leaf}
use Rattle.ms_arena.specs.Bits.{with_bit}
use Rattle.ms_arena.specs.Diagram.{Bits, leaf_of}
use Rattle.ms_arena.specs.Target.{Target}
use Rattle.ms_diagram.specs.Bring.{read_through}
use Rattle.ms_diagram.specs.Collect.{IsRisingSet}
use Rattle.ms_logic_words.specs.declared.sign.Sign.{Sign}
use Rattle.ms_logic.specs.Assignment.{Variable}
use Rattle.ms_logic_words.specs.Content.{Content, StateOf, IsWordOver, last_state}
use Rattle.ms_dfa.specs.Narrow.{narrowed}

-- the variables without the one at the bound place, and the places of each list in the other
pub record IsLeftOut (wide rest : List Variable) (bound : ℕ) (into back : List ℕ) : Type 0 where
  pub leads : (place : ℕ) (v : Variable) → slice_get rest place ≡ Some v → slice_get wide (slice_index into place) ≡ Some v
  pub apart : (place : ℕ) (v : Variable) → slice_get rest place ≡ Some v → slice_index into place ≢ bound
  pub round : (place : ℕ) (v : Variable) → slice_get rest place ≡ Some v → slice_index back (slice_index into place) ≡ place
  pub stays : (var : ℕ) (w : Variable) → slice_get wide var ≡ Some w → var ≢ bound
      → (slice_get rest (slice_index back var) ≡ Some w) × (slice_index into (slice_index back var) ≡ var)

-- bits over all places, from those over the rest and one for the bound place
abbrev pub opened : List ℕ → ℕ → Bits → Bool → Bits
opened back bound bits bit = with_bit (read_through back bits) bound bit

-- where a state leads: from no state nowhere
abbrev pub next_ref : Option (StateOf Sign) → Ref
next_ref None = Leaf 0
next_ref (Some state) = state.next

abbrev pub next_in : List (StateOf Sign) → ℕ → Ref
next_in states state = next_ref (slice_get states state)

abbrev pub next_of : Content Sign → ℕ → Ref
next_of content = next_in content.states

-- a state is reached from the start, or from a member of a set, with either bit at the bound place
abbrev pub IsFirst : Content Sign → List ℕ → ℕ → Bits → ℕ → Type 0
IsFirst content back bound bits state = (bit : Bool) × (leaf_of content.nodes content.start (opened back bound bits bit) ≡ state)

abbrev pub IsBehind : Content Sign → List ℕ → ℕ → List ℕ → Bits → ℕ → Type 0
IsBehind content back bound set bits state =
    (from : ℕ) × (bit : Bool) × Contains set from × (leaf_of content.nodes (next_of content from) (opened back bound bits bit) ≡ state)

-- the numbers of those sets
abbrev pub start_sets : Content Sign → List ℕ → ℕ → List (List ℕ) → Target
start_sets content back bound sets bits number =
    (set : List ℕ) × (slice_get sets number ≡ Some set) × IsRisingSet set (IsFirst content back bound bits)

abbrev pub sets_behind : Content Sign → List ℕ → ℕ → List (List ℕ) → Option (List ℕ) → Target
sets_behind content back bound sets None = λ bits number. ⊥
sets_behind content back bound sets (Some from) = λ bits number.
    (set : List ℕ) × (slice_get sets number ≡ Some set) × IsRisingSet set (IsBehind content back bound from bits)

-- some word over all variables that is this one over the rest ends in the state
abbrev pub Reaches : Content Sign → List Variable → List ℕ → Word → ℕ → Type 0
Reaches content rest into word state =
    (wide_word : Word) × IsWordOver content.variables wide_word × (narrowed into rest content.variables wide_word ≡ word) × (last_state content wide_word ≡ state)

-- the set of the states that are reached by a word
abbrev pub IsReachedSet : Content Sign → List Variable → List ℕ → Word → List ℕ → Type 0
IsReachedSet content rest into word set = IsRisingSet set (Reaches content rest into word)
