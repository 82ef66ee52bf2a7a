-- What starts lead to has an exact count, over any list of variables.
use Rattle.std.specs.Prelude.{ℕ, List}
use Rattle.ms_logic.specs.Assignment.{Variable}
use Rattle.ms_logic_words.specs.Content.{Content, IsContent}
use Rattle.ms_logic_measures.specs.CallMeasures.{IsNumberOf, LeadsToReferences, LeadToPairs, LeadToSameSet, others}
use Rattle.ms_logic_measures.specs.Starts.{IsStartOver}

-- the references to which starts lead a content
abbrev pub ReferencesAreCounted : Type 0 → Type 0
ReferencesAreCounted Sign =
    (content : Content Sign) (variables : List Variable) → IsContent content → ¬ ¬ ((n : ℕ) × LeadsToReferences content variables n)

-- the pairs of references to which they lead two contents
abbrev pub PairsAreCounted : Type 0 → Type 0 → Type 0
PairsAreCounted Left Right =
    (left : Content Left) (right : Content Right) (variables : List Variable) → IsContent left → IsContent right
    → ¬ ¬ ((n : ℕ) × LeadToPairs left right variables n)

-- the sets of pairs to which starts that do not speak of a bound variable lead, over all its values
abbrev pub SetsAreCounted : Type 0 → Type 0 → Type 0
SetsAreCounted Body Domain =
    (body : Content Body) (restriction : Content Domain) (x : Variable) → IsContent body → IsContent restriction
    → ¬ ¬ ((m : ℕ) × IsNumberOf (LeadToSameSet body restriction x) (IsStartOver (others body restriction x)) m)
