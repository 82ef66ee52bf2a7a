-- What an exploration has found: a diagram for the start, and for each state a sign and a diagram.
use Rattle.std.specs.Prelude.{◌≡◌, ◌⊎◌, ℕ, ◌+◌, ◌*◌, ◌<◌, ◌≤◌, List, length, slice_get, Option, Some, None, Result, Ok, Err, IfOk}
use Rattle.ms_list.specs.declared.fault.StepFault.{StepFault}
use Rattle.ms_list.specs.declared.fault.StepFault.TheVariants.{Nodes, Memory}
use Rattle.ms_arena.specs.declared.node.Ref.{Ref}
use Rattle.ms_arena.specs.declared.node.Node.{Node}
use Rattle.ms_arena.specs.Diagram.{Bits, IsValid}
use Rattle.ms_arena.specs.Target.{Target, Meets, IsNeeded, Extends}
use Rattle.ms_diagram.specs.Store.{Contents, IsStore}
use Rattle.ms_diagram.specs.Growth.{KeepsFunctions, IsFull}
use Rattle.ms_logic_words.specs.declared.sign.Sign.{Sign}
use Rattle.ms_dfa.specs.declared.state.State.{State}

-- what has been found of a machine: how many states have a number, which numbers are right at which bits from the start and
-- from each of these states, their signs, how many nodes a diagram of the machine adds at most, and whether a state has no
-- number and there is none left
pub record Findings : Type 1 where
  pub count : ℕ
  pub starts : Target
  pub steps : ℕ → Target
  pub sign_of : ℕ → Sign
  pub most_nodes : ℕ
  pub LacksNumber : Type 0

-- more has been found: what was right is right, and the signs are the same, and the bound of a diagram
pub record AreMore (early late : Findings) : Type 0 where
  pub count : early.count ≤ late.count
  pub starts : (bits : Bits) (number : ℕ) → early.starts bits number → late.starts bits number
  pub steps : (state : ℕ) → state < early.count → (bits : Bits) (number : ℕ) → early.steps state bits number → late.steps state bits number
  pub signs : (state : ℕ) → state < early.count → late.sign_of state ≡ early.sign_of state
  pub most_nodes : late.most_nodes ≡ early.most_nodes

-- an origin: the start, or a state by its number
abbrev pub Origin : Type 0
Origin = Option ℕ

-- where an origin leads
abbrev pub target_of : Findings → Origin → Target
target_of findings None = findings.starts
target_of findings (Some state) = findings.steps state

-- the origin is the start, or a state that has been found
abbrev pub IsFound : Findings → Origin → Type 0
IsFound findings None = Unit {0}
IsFound findings (Some state) = state < findings.count

-- each node behind the old ones is needed for some origin
abbrev pub AddsNeededForSome : List Node → List Node → Findings → Type 0
AddsNeededForSome old new findings =
    (place : ℕ) (node : Node) → length old ≤ place → slice_get new place ≡ Some node
    → (origin : Origin) × IsFound findings origin × IsNeeded new (target_of findings origin) node

-- the store keeps its nodes and their functions, and adds only nodes that are needed for some origin
pub record GrowsForSome (old new : Contents) (findings : Findings) : Type 0 where
  pub extends : Extends old.nodes new.nodes
  pub kept : KeepsFunctions old.nodes new.nodes
  pub needed : AddsNeededForSome old.nodes new.nodes findings
  pub limit : new.limit ≡ old.limit
  pub store : IsStore new.nodes new.limit

-- the reference is valid, and leads where it should
pub record Leads (nodes : List Node) (target : Target) (reference : Ref) : Type 0 where
  pub valid : IsValid nodes reference
  pub meets : Meets nodes target reference

-- each state of the list has the diagram and the sign of its number
abbrev pub Follows : List Node → Findings → List State → Type 0
Follows nodes findings states =
    (number : ℕ) (state : State) → slice_get states number ≡ Some state
    → Leads nodes (findings.steps number) state.next × (state.sign ≡ findings.sign_of number)

-- a fact of the limit that a refusal for want of nodes names
abbrev pub OnRefused : {A : Type 0} → Result A StepFault → (ℕ → Type 0) → Type 0
OnRefused (Ok made) fact = Unit {0}
OnRefused (Err Memory) fact = Unit {0}
OnRefused (Err (Nodes limit)) fact = fact limit

-- the store is full for some origin
abbrev pub IsFullForSome : Contents → Findings → Type 0
IsFullForSome store findings = (origin : Origin) × IsFound findings origin × IsFull store (target_of findings origin)

-- the nodes and the states that have been found are together more than the limit
abbrev pub AreTooMany : Contents → Findings → Type 0
AreTooMany store findings = store.limit < length store.nodes + findings.count

-- an exploration has found all states, or was refused; it was refused for want of nodes only where the store is full, where
-- nodes and states are too many, or where a number is lacking
pub record Explores (old new : Contents) (findings : Findings) (states : List State) (result : Result Ref StepFault) : Type 0 where
  pub grows : GrowsForSome old new findings
  pub start : IfOk result (Leads new.nodes findings.starts)
  pub all : IfOk result (λ start. length states ≡ findings.count)
  pub follows : IfOk result (λ start. Follows new.nodes findings states)
  pub within : IfOk result (λ start. length new.nodes + findings.count ≤ new.limit)
  pub few : length new.nodes ≤ length old.nodes + findings.most_nodes + findings.count * findings.most_nodes
  pub nodes : OnRefused result (λ limit. (limit ≡ old.limit) × (IsFullForSome new findings ⊎ AreTooMany new findings ⊎ findings.LacksNumber))

-- an exploration so far: the start leads where it should, and so do the first so many states
pub record IsExplored (old now : Contents) (findings : Findings) (done : ℕ) (begun : Ref) (states : List State) : Type 0 where
  pub grows : GrowsForSome old now findings
  pub start : Leads now.nodes findings.starts begun
  pub count : length states ≡ done
  pub within : done ≤ findings.count
  pub follows : Follows now.nodes findings states
  pub limited : length now.nodes + length states ≤ now.limit
  pub few : length now.nodes ≤ length old.nodes + findings.most_nodes + done * findings.most_nodes
