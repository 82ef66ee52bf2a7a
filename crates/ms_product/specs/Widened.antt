-- An automaton over more variables (its cylindrification): each of its own variables is read at the place that a map gives.
use Rattle.std.specs.Prelude.{◌≡◌, ℕ, ◌<◌, List, length, slice_get, slice_index, Option, Some, None}
use Rattle.ms_arena.specs.Diagram.{Bits, leaf_of}
use Rattle.ms_diagram.specs.Bring.{read_through}
use Rattle.ms_logic_words.specs.declared.sign.Sign.{Sign}
use Rattle.ms_logic_words.specs.declared.sign.Sign.TheVariants.{Outside}
use Rattle.ms_logic_words.specs.Content.{StateOf, Content, sign_at}
use Rattle.ms_dfa_explore.specs.Explored.{Findings}
use Rattle.ms_logic_words.specs.Signs.{sign_or_outside}

-- the state to which the bits lead from the start
abbrev pub first_through : Content Sign → List ℕ → Bits → ℕ
first_through content map bits = leaf_of content.nodes content.start (read_through map bits)

-- the state to which they lead from a state; from a number of no state to 0
abbrev pub behind_through : Content Sign → List ℕ → Option (StateOf Sign) → Bits → ℕ
behind_through content map None bits = 0
behind_through content map (Some state) bits = leaf_of content.nodes state.next (read_through map bits)

abbrev pub next_through : Content Sign → List ℕ → ℕ → Bits → ℕ
next_through content map state bits = behind_through content map (slice_get content.states state) bits

abbrev pub sign_in : Content Sign → ℕ → Sign
sign_in content state = sign_or_outside (sign_at content state)

-- what is found of it
abbrev pub widened_findings : Content Sign → List ℕ → Findings
widened_findings content map = record {
  count = length content.states;
  starts = λ bits number. number ≡ first_through content map bits;
  steps = λ state bits number. number ≡ next_through content map state bits;
  sign_of = sign_in content;
  most_nodes = 4000000000;
  LacksNumber = ⊥;
}

-- the map has a place for each of so many tracks, in rising order
pub record IsRisingMap (count : ℕ) (map : List ℕ) : Type 0 where
  pub long : length map ≡ count
  pub rising : (one two : ℕ) → one < two → two < count → slice_index map one < slice_index map two
