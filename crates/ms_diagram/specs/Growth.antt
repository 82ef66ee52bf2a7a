-- How a store grows in a call that builds a diagram, and why the call may be refused.
use Rattle.std.specs.Prelude.{◌≡◌, ◌⊎◌, ℕ, List, length, Result, Ok, Err, IfOk}
use Rattle.ms_list.specs.declared.fault.StepFault.{StepFault}
use Rattle.ms_list.specs.declared.fault.StepFault.TheVariants.{Nodes, Memory}
use Rattle.ms_arena.specs.declared.node.Ref.{Ref}
use Rattle.ms_arena.specs.declared.node.Node.{Node}
use Rattle.ms_arena.specs.Diagram.{Bits, leaf_of, IsValid}
use Rattle.ms_arena.specs.Target.{Target, Meets, Extends, AddsNeeded, LacksNeeded}
use Rattle.ms_diagram.specs.Store.{Contents, IsStore}

-- each reference of the old list keeps its function
abbrev pub KeepsFunctions : List Node → List Node → Type 0
KeepsFunctions old new =
    (reference : Ref) → IsValid old reference → (bits : Bits) → leaf_of new reference bits ≡ leaf_of old reference bits

-- the store keeps its nodes and their functions, and adds only nodes that each diagram for the target needs
pub record Grows (old new : Contents) (target : Target) : Type 0 where
  pub extends : Extends old.nodes new.nodes
  pub kept : KeepsFunctions old.nodes new.nodes
  pub needed : AddsNeeded old.nodes new.nodes target
  pub limit : new.limit ≡ old.limit
  pub store : IsStore new.nodes new.limit

-- the store is at its limit, and a node that each diagram for the target needs is not in it
abbrev pub IsFull : Contents → Target → Type 0
IsFull store target = (length store.nodes ≡ store.limit) × LacksNeeded store.nodes target

-- a fact of the limit that a refusal for want of nodes names
abbrev pub OnNodes : Result Ref StepFault → (ℕ → Type 0) → Type 0
OnNodes (Ok made) fact = Unit {0}
OnNodes (Err Memory) fact = Unit {0}
OnNodes (Err (Nodes limit)) fact = fact limit

-- a call has built a diagram for the target, or was refused; it was refused for want of nodes only where the store is
-- full, or where a number is lacking
pub record Builds (old new : Contents) (target : Target) (lacks_number : Type 0) (result : Result Ref StepFault) : Type 0 where
  pub grows : Grows old new target
  pub valid : IfOk result (IsValid new.nodes)
  pub function : IfOk result (Meets new.nodes target)
  pub nodes : OnNodes result (λ limit. (limit ≡ old.limit) × (IsFull new target ⊎ lacks_number))
