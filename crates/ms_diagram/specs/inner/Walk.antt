-- A walk that builds a diagram from its ends: what an item asks for, and what its ends are.
use Rattle.std.specs.Prelude.{◌≡◌, ℕ, Bool, true, false, List, Result}
use Rattle.ms_list.specs.declared.fault.StepFault.{StepFault}
use Rattle.ms_list.specs.declared.fault.StepFault.TheVariants.{Nodes, Memory}
use Rattle.ms_arena.specs.declared.node.Ref.{Ref}
use Rattle.ms_arena.specs.declared.node.Node.{Node}
use Rattle.ms_arena.specs.Diagram.{IsValid, IsOrdered, IsReduced}
use Rattle.ms_arena.specs.Target.{Target, Meets, Extends}
use Rattle.ms_arena.proofs.Needs.{IsPart, Implies}
use Rattle.ms_diagram.specs.declared.walk.Visit.{Visit}
use Rattle.ms_diagram.specs.declared.walk.Visit.TheVariants.{Made, Instead, Split}
use Rattle.ms_diagram.specs.Growth.{Builds}
use Rattle.ms_diagram.specs.Store.{Contents}
use Rattle.ms_diagram.specs.Table.{EachEntry}

-- what a walk builds: `Wanted` is the target of an item, `Lacks` says that it lacks a number, `Adds` that only numbers
-- for the item were added, `IsEntry` that an answer in the table is right
pub record Rules (S I K : Type 0) : Type 1 where
  pub Later : S → S → Type 0
  pub IsRight : S → Type 0
  pub Wanted : S → List Node → I → Target
  pub Fits : S → List Node → I → Type 0
  pub Lacks : S → List Node → I → Type 0
  pub Adds : S → List Node → I → S → S → Type 0
  pub IsEntry : S → List Node → K → Ref → Type 0
  pub item_of : K → I

-- a later state of the walk, and a list of nodes that extends the old one
pub record Follows {S I K : Type 0} (rules : Rules S I K) (early : S) (old : List Node) (late : S) (new : List Node) : Type 0 where
  pub ordered_old : IsOrdered old
  pub extends : Extends old new
  pub later : rules.Later early late
  pub ordered : IsOrdered new
  pub reduced : IsReduced new
  pub right : rules.IsRight late

-- an answer to an item
pub record IsBuilt {S I K : Type 0} (rules : Rules S I K) (state : S) (nodes : List Node) (item : I) (made : Ref) : Type 0 where
  pub valid : IsValid nodes made
  pub meets : Meets nodes (rules.Wanted state nodes item) made

-- the ends of an item at a variable ask for the parts of what the item asks for
pub record AreParts {S I K : Type 0} (rules : Rules S I K) (state : S) (nodes : List Node) (whole : I) (var : ℕ) (low high : I) : Type 0 where
  pub low_fits : rules.Fits state nodes low
  pub high_fits : rules.Fits state nodes high
  pub low_is : IsPart (rules.Wanted state nodes whole) (rules.Wanted state nodes low) var false
  pub high_is : IsPart (rules.Wanted state nodes whole) (rules.Wanted state nodes high) var true
  pub low_lacks : rules.Lacks state nodes low → rules.Lacks state nodes whole
  pub high_lacks : rules.Lacks state nodes high → rules.Lacks state nodes whole
  pub low_adds : (before after : S) → rules.Adds state nodes low before after → rules.Adds state nodes whole before after
  pub high_adds : (before after : S) → rules.Adds state nodes high before after → rules.Adds state nodes whole before after

-- a fact of the limit that a refusal for want of a number names
abbrev pub OnFault : StepFault → (ℕ → Type 0) → Type 0
OnFault Memory fact = Unit {0}
OnFault (Nodes limit) fact = fact limit

-- they do so from now on
abbrev pub IsSplit : {S I K : Type 0} → Rules S I K → S → List Node → I → ℕ → I → I → Type 0
IsSplit {S} rules state nodes whole var low high =
    (late : S) (new : List Node) → Follows rules state nodes late new → AreParts rules late new whole var low high

-- what answers one item answers another
pub record Answers {S I K : Type 0} (rules : Rules S I K) (state : S) (nodes : List Node) (item other : I) : Type 0 where
  pub fits : rules.Fits state nodes other
  pub implies : Implies (rules.Wanted state nodes other) (rules.Wanted state nodes item)
  pub lacks : rules.Lacks state nodes other → rules.Lacks state nodes item
  pub adds : (before after : S) → rules.Adds state nodes other before after → rules.Adds state nodes item before after

-- it does so from now on
abbrev pub StandsFor : {S I K : Type 0} → Rules S I K → S → List Node → I → I → Type 0
StandsFor {S} rules state nodes item other =
    (late : S) (new : List Node) → Follows rules state nodes late new → Answers rules late new item other

-- what a visit of an item finds
abbrev pub IsVisited : {S I K : Type 0} → Rules S I K → S → List Node → I → Visit I K → Type 0
IsVisited rules state nodes item (Made made) = IsBuilt rules state nodes item made
IsVisited rules state nodes item (Instead other) = StandsFor rules state nodes item other
IsVisited rules state nodes item (Split key var low high) = (rules.item_of key ≡ item) × IsSplit rules state nodes item var low high

-- what holds of an item goes on holding, and an answer in the table answers for equal keys
pub record AreLaws {S I K : Type 0} (rules : Rules S I K) (equal : K → K → Bool) : Type 0 where
  pub later_same : (state : S) → rules.Later state state
  pub later_then : (one two three : S) → rules.Later one two → rules.Later two three → rules.Later one three
  pub fits_later : (early : S) (old : List Node) (late : S) (new : List Node) → Follows rules early old late new → (item : I) → rules.Fits early old item → rules.Fits late new item
  pub wanted_later : (early : S) (old : List Node) (late : S) (new : List Node) → Follows rules early old late new → (item : I) → rules.Fits early old item
      → Implies (rules.Wanted early old item) (rules.Wanted late new item)
  pub adds_later : (early : S) (old : List Node) (late : S) (new : List Node) → Follows rules early old late new → (item : I) → rules.Fits early old item
      → (before after : S) → rules.Adds early old item before after → rules.Adds late new item before after
  pub adds_same : (state : S) (nodes : List Node) (item : I) (same : S) → rules.Adds state nodes item same same
  pub adds_then : (state : S) (nodes : List Node) (item : I) (one two three : S) → rules.Later two three
      → rules.Adds state nodes item one two → rules.Adds state nodes item two three → rules.Adds state nodes item one three
  pub entry_later : (early : S) (old : List Node) (late : S) (new : List Node) → Follows rules early old late new → (key : K) (made : Ref)
      → rules.IsEntry early old key made → rules.IsEntry late new key made
  pub entry_built : (state : S) (nodes : List Node) (key : K) (made : Ref) → rules.Fits state nodes (rules.item_of key)
      → IsBuilt rules state nodes (rules.item_of key) made → rules.IsEntry state nodes key made
  pub entry_same : (state : S) (nodes : List Node) (key other : K) (made : Ref) → equal key other ≡ true
      → rules.IsEntry state nodes key made → rules.IsEntry state nodes other made

-- a walk has built a diagram for what the root asks for, or was refused
pub record IsWalked {S I K : Type 0} (rules : Rules S I K) (old : Contents) (early : S) (root : I) (new : Contents) (late : S) (entries : List (K × Ref))
    (result : Result Ref StepFault) : Type 0 where
  pub builds : Builds old new (rules.Wanted late new.nodes root) (rules.Lacks late new.nodes root) result
  pub later : rules.Later early late
  pub right : rules.IsRight late
  pub added : rules.Adds late new.nodes root early late
  pub table : EachEntry (rules.IsEntry late new.nodes) entries
