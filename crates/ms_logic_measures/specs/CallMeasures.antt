-- What a call of an operation on automata is measured by: a number m of what it makes, and a number r of what it reads.
use Rattle.std.specs.Prelude.{◌≡◌, ℕ, ◌+◌, ◌*◌, ◌^◌, nat_le, Bool, if◌then◌else◌, List, [], ◌∷◌, ◌++◌, length, map, All, Any, AllPairs}
use Rattle.std.specs.List.{zip}
use Rattle.ms_list.specs.declared.word.Word.{Word}
use Rattle.ms_arena.specs.declared.node.Ref.TheVariants.{Leaf}
use Rattle.ms_arena.specs.Diagram.{Bits}
use Rattle.ms_logic_words.specs.declared.sign.Sign.{Sign}
use Rattle.ms_logic.specs.declared.mode.Mode.{Mode}
use Rattle.ms_logic.specs.declared.mode.Order.{Order}
use Rattle.ms_logic.specs.declared.mode.Order.TheVariants.{Zero, One, Two}
use Rattle.ms_logic_core.specs.declared.core_formula.Basic.{Basic}
use Rattle.ms_logic.specs.Assignment.{Variable}
use Rattle.ms_logic_words.specs.Content.{Content, variables_by_place}
use Rattle.ms_logic_core.specs.CoreForm.{basic}
use Rattle.ms_logic_measures.specs.FullContent.{HasPartCount, part_count}
use Rattle.ms_logic_measures.specs.Starts.{Start, some_truth_values, whole_word, part_of_letter, IsStartOver, left_by}
use Rattle.ms_logic_measures.specs.Steps.{joined}
use Rattle.ms_logic.specs.Lists.{without}
use Rattle.ms_logic_core.specs.Operands.{variables_of_basic, at_places}

-- there are n items, if alike ones are counted once: n of them are pairwise different, and each item is like one of these
pub record IsNumberOf {A : Type 0} (AreAlike : A → A → Type 0) (IsItem : A → Type 0) (n : ℕ) : Type 0 where
  pub chosen : List A
  pub items : All IsItem chosen
  pub different : AllPairs (λ one other. ¬ AreAlike one other) chosen
  pub complete : (item : A) → IsItem item → Any (λ one. AreAlike item one) chosen
  pub count : length chosen ≡ n

-- two starts leave the same of a content: they lead it to one reference
abbrev pub LeaveSame : {Sign : Type 0} → Content Sign → List Variable → Start → Start → Type 0
LeaveSame content variables one other = (rest : Bits) → left_by content variables one rest ≡ left_by content variables other rest

-- they lead two contents to one pair of references
abbrev pub LeaveSameOfBoth : {Left Right : Type 0} → Content Left → Content Right → List Variable → Start → Start → Type 0
LeaveSameOfBoth left right variables one other = LeaveSame left variables one other × LeaveSame right variables one other

-- starts over the variables lead the content to n references
abbrev pub LeadsToReferences : {Sign : Type 0} → Content Sign → List Variable → ℕ → Type 0
LeadsToReferences content variables n = IsNumberOf (LeaveSame content variables) (IsStartOver variables) n

-- starts over the variables lead both contents to n pairs of references
abbrev pub LeadToPairs : {Left Right : Type 0} → Content Left → Content Right → List Variable → ℕ → Type 0
LeadToPairs left right variables n = IsNumberOf (LeaveSameOfBoth left right variables) (IsStartOver variables) n

-- an automaton has n states and nodes to which starts lead it
abbrev pub HasReachedParts : {Sign : Type 0} → Content Sign → ℕ → Type 0
HasReachedParts content n = LeadsToReferences content content.variables n

-- two automata together have n such states and nodes
abbrev pub HaveReachedParts : {Left Right : Type 0} → Content Left → Content Right → ℕ → Type 0
HaveReachedParts left right n = (one other : ℕ) × HasReachedParts left one × HasReachedParts right other × (n ≡ one + other)

-- the measure of a call
abbrev pub call_measure : ℕ → ℕ → ℕ
call_measure m r = (m + r + 2) * (m + r + 2) * 2 ^ 2

-- numbered variables by rising numbers, those of one number in the order in which they stand
abbrev pub inserted : ℕ → Variable → List (ℕ × Variable) → List (ℕ × Variable)
inserted x v [] = (x, v) ∷ []
inserted x v (first ∷ more) = if nat_le x first.0 then (x, v) ∷ (first ∷ more) else first ∷ inserted x v more

abbrev pub sorted : List (ℕ × Variable) → List (ℕ × Variable)
sorted [] = []
sorted (first ∷ more) = inserted first.0 first.1 (sorted more)

-- the variables of a list in the order of the numbers that a map gives them
abbrev pub in_order_of : List ℕ → List Variable → List Variable
in_order_of numbers variables = map (λ p. p.1) (sorted (zip numbers variables))

-- one variable for each place, in the order of the variables that stand there; the places of one variable stand side by side
abbrev pub place_variables : Basic → List Variable
place_variables b =
    in_order_of (map (λ v. v.name) (variables_of_basic b)) (variables_by_place (map (λ v. v.order) (variables_of_basic b)))

-- of a basic relation: the states and nodes of its full content, where each place has a variable of its own
pub record IsBasicMeasure (mode : Mode) (b : Basic) (m r : ℕ) : Type 0 where
  pub made : HasPartCount [] mode (place_variables b) (basic (at_places b)) m
  pub read : r ≡ 0

-- of a connective of two automata: the pairs of references to which starts over the variables of both lead them
pub record IsCombineMeasure {Left Right : Type 0} (left : Content Left) (right : Content Right) (m r : ℕ) : Type 0 where
  pub made : LeadToPairs left right (joined left.variables right.variables) m
  pub read : HaveReachedParts left right r

-- of fewest states, and of the numbering: the states and nodes
pub record IsMinimiseMeasure {Sign : Type 0} (content : Content Sign) (m r : ℕ) : Type 0 where
  pub made : HasReachedParts content m
  pub read : r ≡ 0

-- of a renaming of each variable to a number of the map: what is left of the start and of the states after some first bits, from none to
-- all, in the order of the map. All bits of a letter lead to a state, so these are the references of the starts in that order.
pub record IsRenameMeasure {Sign : Type 0} (content : Content Sign) (numbers : List ℕ) (m r : ℕ) : Type 0 where
  pub made : LeadsToReferences content (in_order_of numbers content.variables) m
  pub read : HasReachedParts content r

-- of a file, whose variables go by the places of their pairs: the pairs of what a start in the order of the pairs leaves of the file and
-- of the full content of `true`, which tells the words that encode assignments
pub record IsAdoptMeasure {FileSign : Type 0} (file : Content FileSign) (encodings : Content Sign) (m r : ℕ) : Type 0 where
  pub made : LeadToPairs file encodings encodings.variables m
  pub read : r ≡ part_count file + part_count encodings

-- how many bits a bound variable of an order has beside a start over the other variables: a truth value where no other is lacking; or
-- one bit in each whole letter
abbrev pub bound_bits : Order → Start → ℕ
bound_bits Zero (some_truth_values values) = 0
bound_bits Zero (whole_word word) = 1
bound_bits Zero (part_of_letter word bits) = 1
bound_bits One (some_truth_values values) = 0
bound_bits One (whole_word word) = length word.letters
bound_bits One (part_of_letter word bits) = length word.letters
bound_bits Two (some_truth_values values) = 0
bound_bits Two (whole_word word) = length word.letters
bound_bits Two (part_of_letter word bits) = length word.letters

-- a word with the bits of one more variable, the last
abbrev pub word_with : Order → List Bool → Word → Word
word_with Zero bits word = record word { truth = word.truth ++ bits }
word_with One bits word = record word { letters = map (λ p. p.0 ++ p.1 ∷ []) (zip word.letters bits) }
word_with Two bits word = record word { letters = map (λ p. p.0 ++ p.1 ∷ []) (zip word.letters bits) }

-- a start together with the bits of the bound variable
abbrev pub start_with : Order → List Bool → Start → Start
start_with order bits (some_truth_values values) = some_truth_values values
start_with order bits (whole_word word) = whole_word (word_with order bits word)
start_with order bits (part_of_letter word first_bits) = part_of_letter (word_with order bits word) first_bits

module _ {Body Domain : Type 0} (body : Content Body) (restriction : Content Domain) (x : Variable) where
  -- the variables without the bound one, and with it as the last
  abbrev pub others : List Variable
  others = without x.name body.variables

  abbrev pub others_and_bound : List Variable
  others_and_bound = others ++ x ∷ []

  -- each pair to which the first start leads, with some bits of the bound variable, is one to which the second leads with some bits
  abbrev pub LeadsWhere : Start → Start → Type 0
  LeadsWhere one other =
      (bits : List Bool) → length bits ≡ bound_bits x.order one
      → (other_bits : List Bool) × (length other_bits ≡ bound_bits x.order other)
      × LeaveSameOfBoth body restriction others_and_bound (start_with x.order bits one) (start_with x.order other_bits other)

  -- both starts lead to the same set of pairs
  abbrev pub LeadToSameSet : Start → Start → Type 0
  LeadToSameSet one other = LeadsWhere one other × LeadsWhere other one

  -- of a quantifier: the sets of pairs of references to which starts that do not speak of the bound variable lead, over all its values
  pub record IsProjectMeasure (m r : ℕ) : Type 0 where
    pub made : IsNumberOf LeadToSameSet (IsStartOver others) m
    pub pairs : ℕ
    pub parts : ℕ
    pub pairs_read : LeadToPairs body restriction body.variables pairs
    pub parts_read : HaveReachedParts body restriction parts
    pub read : r ≡ pairs + parts

-- a missing restriction counts as one state
abbrev pub no_restriction : Mode → Content (Unit {0})
no_restriction mode = record { mode = mode; variables = []; start = Leaf 0; states = record { sign = tt; next = Leaf 0 } ∷ []; nodes = [] }
