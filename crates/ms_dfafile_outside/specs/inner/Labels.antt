-- Labels of the states and the nodes of a content: which numbers have had their 1 in what leads there.
use Rattle.std.specs.Prelude.{◌≡◌, ◌≢◌, ◌↔◌, ◌⊎◌, ℕ, ◌+◌, ◌^◌, ◌<◌, ◌≤◌, Bool, true, false, List, [], ◌∷◌, ◌++◌, length, map, slice_get, slice_set, Option, Some, None}
use Rattle.ms_list.specs.declared.word.Word.{Word}
use Rattle.ms_arena.specs.declared.node.Node.{Node}
use Rattle.ms_arena.specs.declared.node.Ref.{Ref}
use Rattle.ms_arena.specs.declared.node.Ref.TheVariants.{Leaf, Inner}
use Rattle.ms_arena.specs.Diagram.{Bits, leaf_of}
use Rattle.ms_arena.specs.Halves.{TestsFrom}
use Rattle.ms_arena.specs.Reach.{TestsOnly}
use Rattle.ms_dfa.specs.Files.{MarksOutside}
use Rattle.ms_dfa.specs.declared.plain.FileSign.{FileSign}
use Rattle.ms_dfa.specs.declared.plain.FileSign.TheVariants as signs
use Rattle.ms_logic.specs.declared.mode.Order.{Order}
use Rattle.ms_logic.specs.declared.mode.Order.TheVariants.{Zero, One, Two}
use Rattle.ms_logic.specs.Assignment.{Variable}
use Rattle.ms_logic_words.specs.Content.{StateOf, Content, HasValueAt, IsWordOver, NamesPart, is_in_letters, is_truth_value, last_state, letter_bits}
use Rattle.ms_dfafile_outside.specs.declared.label.Label.{Label}
use Rattle.ms_dfafile_outside.specs.declared.label.Label.TheVariants.{Lost, Seen}
use Rattle.ms_dfafile_outside.specs.inner.Numbers.{IsNumberAt, full_set, one_if, one_more, rank, set_of}

-- each number is counted once at most, and the set has those that are
pub record IsSeen (orders : List Order) (count : ℕ → ℕ) (set : ℕ) : Type 0 where
  pub once : (place : ℕ) → IsNumberAt orders place → count place ≤ 1
  pub is_set : set ≡ set_of orders count

-- a label by how often each number has had a 1
abbrev pub IsLabel : List Order → (ℕ → ℕ) → Label → Type 0
IsLabel orders count Lost = (place : ℕ) × IsNumberAt orders place × (2 ≤ count place)
IsLabel orders count (Seen set) = IsSeen orders count set

-- a label of fewer than 32 numbers
abbrev pub IsSmall : Label → Type 0
IsSmall Lost = Unit {0}
IsSmall (Seen set) = set < 2 ^ 31

-- the label once the variable at a place has one 1 more
abbrev pub IsLabelWith : List Order → ℕ → Label → Label → Type 0
IsLabelWith orders place label more = (count : ℕ → ℕ) → IsLabel orders count label → IsLabel orders (one_more count place) more

-- how many letters have a bit
abbrev pub ones : (List Bool → Bool) → List (List Bool) → ℕ
ones has_bit [] = 0
ones has_bit (letter ∷ letters) = one_if (has_bit letter) + ones has_bit letters

-- how many letters have a 1 for the variable at a place
abbrev pub ones_at : List Variable → List (List Bool) → ℕ → ℕ
ones_at variables letters place = ones (λ letter. letter_bits variables letter place) letters

abbrev pub orders_in : Content FileSign → List Order
orders_in content = map (λ v. v.order) content.variables

-- a word that leads to where the bits lead from a reference; its numbers have as many ones as are counted, and those from a
-- level on also what the bits give them
pub record IsLed (content : Content FileSign) (reference : Ref) (count : ℕ → ℕ) (level : ℕ) (bits : Bits) : Type 0 where
  pub word : Word
  pub over : IsWordOver content.variables word
  pub last : last_state content word ≡ leaf_of content.nodes reference bits
  pub before : (place : ℕ) → IsNumberAt (orders_in content) place → place < level → ones_at content.variables word.letters place ≡ count place
  pub later : (place : ℕ) → IsNumberAt (orders_in content) place → level ≤ place → ones_at content.variables word.letters place ≡ count place + one_if (bits place)

-- what is read from a level on: letters, or truth values, and then the level is behind all variables
abbrev pub Stands : Content FileSign → Ref → ℕ → Type 0
Stands content reference level =
    (TestsFrom content.nodes level reference × TestsOnly content.nodes (HasValueAt content.variables is_in_letters) reference)
    ⊎ ((level ≡ length content.variables) × TestsOnly content.nodes (HasValueAt content.variables is_truth_value) reference)

-- words come to a reference with a label
pub record HasCome (content : Content FileSign) (reference : Ref) (label : Label) (level : ℕ) : Type 0 where
  pub count : ℕ → ℕ
  pub is_label : IsLabel (orders_in content) count label
  pub leads : (bits : Bits) → IsLed content reference count level bits
  pub stands : Stands content reference level
  pub within : level ≤ length content.variables

-- labels are kept for states, and behind them for nodes
abbrev pub index_of : Content FileSign → Ref → ℕ
index_of content (Leaf state) = state
index_of content (Inner place) = length content.states + place

abbrev pub IsKnown : Content FileSign → List (Option Label) → Ref → Label → Type 0
IsKnown content known reference label = slice_get known (index_of content reference) ≡ Some (Some label)

-- the variable that a node tests, and the place behind the last variable where there is none
abbrev pub first_of : ℕ → Option Node → ℕ
first_of all None = all
first_of all (Some node) = node.var

abbrev pub first_tested : Content FileSign → Ref → ℕ
first_tested content (Leaf state) = length content.variables
first_tested content (Inner place) = first_of (length content.variables) (slice_get content.nodes place)

-- no number that might still have its 1 stands from the level up to the variable that the reference tests
abbrev pub HasNoGap : Content FileSign → Ref → Label → ℕ → Type 0
HasNoGap content reference label level = (label ≡ Lost) ⊎ (rank (orders_in content) (first_tested content reference) ≤ rank (orders_in content) level)

-- the reference has the label
pub record HasArrived (content : Content FileSign) (known : List (Option Label)) (reference : Ref) (label : Label) (level : ℕ) : Type 0 where
  pub is_known : IsKnown content known reference label
  pub no_gap : HasNoGap content reference label level

-- the level behind a variable: the next one, and behind all variables where it is a truth value
abbrev pub level_by : ℕ → ℕ → Option Order → ℕ
level_by all var None = all
level_by all var (Some Zero) = all
level_by all var (Some One) = var + 1
level_by all var (Some Two) = var + 1

abbrev pub level_behind : Content FileSign → ℕ → ℕ
level_behind content var = level_by (length content.variables) var (slice_get (orders_in content) var)

-- a state has the sign x exactly where its label is not that of all numbers, and hands its label on
pub record IsSettledState (content : Content FileSign) (known : List (Option Label)) (state : StateOf FileSign) (label : Label) : Type 0 where
  pub sign : (state.sign ≡ signs.Outside) ↔ (label ≢ Seen (full_set (orders_in content)))
  pub next : HasArrived content known state.next label 0

-- a node hands its label on, with its variable at the high end
pub record IsSettledNode (content : Content FileSign) (known : List (Option Label)) (node : Node) (label : Label) : Type 0 where
  pub low : HasArrived content known node.low label (level_behind content node.var)
  pub more : Label
  pub with_own : IsLabelWith (orders_in content) node.var label more
  pub high : HasArrived content known node.high more (level_behind content node.var)

abbrev pub IsSettled : Content FileSign → List (Option Label) → Ref → Label → Type 0
IsSettled content known (Leaf place) label = (state : StateOf FileSign) → slice_get content.states place ≡ Some state → IsSettledState content known state label
IsSettled content known (Inner place) label = (node : Node) → slice_get content.nodes place ≡ Some node → IsSettledNode content known node label

-- what is known so far, and the references with a label in the order in which they got it
pub record AreLabels (content : Content FileSign) (known : List (Option Label)) (work : List Ref) : Type 0 where
  pub long : length known ≡ length content.states + length content.nodes
  pub come : (reference : Ref) (label : Label) → NamesPart content reference → IsKnown content known reference label → (level : ℕ) × HasCome content reference label level
  pub listed : (reference : Ref) (label : Label) → NamesPart content reference → IsKnown content known reference label → (at : ℕ) × (slice_get work at ≡ Some reference)
  pub named : (at : ℕ) (reference : Ref) → slice_get work at ≡ Some reference → NamesPart content reference × ((label : Label) × IsKnown content known reference label)

-- labels and work are kept
pub record AreKept (known more : List (Option Label)) (work longer : List Ref) : Type 0 where
  pub labels : (at : ℕ) (label : Label) → slice_get known at ≡ Some (Some label) → slice_get more at ≡ Some (Some label)
  pub listed : (at : ℕ) (reference : Ref) → slice_get work at ≡ Some reference → slice_get longer at ≡ Some reference

-- the first so many references with a label are settled
abbrev pub AreSettled : Content FileSign → List (Option Label) → List Ref → ℕ → Type 0
AreSettled content known work done =
    (at : ℕ) (reference : Ref) (label : Label) → at < done → slice_get work at ≡ Some reference → IsKnown content known reference label → IsSettled content known reference label

-- what a step finds: labels as before and more, with what it was to bring about, or that the rule is not met
pub record Brings (content : Content FileSign) (known more : List (Option Label)) (work longer : List Ref) (Done : Type 0) : Type 0 where
  pub labels : AreLabels content more longer
  pub kept : AreKept known more work longer
  pub done : Done

abbrev pub Finds : Content FileSign → List (Option Label) → List (Option Label) → List Ref → List Ref → Type 0 → Bool → Type 0
Finds content known more work longer Done true = Brings content known more work longer Done
Finds content known more work longer Done false = ¬ MarksOutside content

-- a reference has a label now, and is listed if it had none
abbrev pub IsNoted : List (Option Label) → List (Option Label) → List Ref → List Ref → ℕ → Ref → Label → Bool → Type 0
IsNoted known more work longer at reference label false = (other : Label) × (slice_get known at ≡ Some (Some other)) × (other ≢ label)
IsNoted known more work longer at reference label true =
    ((slice_get known at ≡ Some (Some label)) × (more ≡ known) × (longer ≡ work))
    ⊎ ((slice_get known at ≡ Some None) × (more ≡ slice_set known at (Some label)) × (longer ≡ work ++ reference ∷ []))
