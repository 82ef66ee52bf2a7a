-- The way on which bits lead from two references to different leaves. Only the contracts and proofs inside this crate cite it.
use Rattle.std.specs.Prelude.{◌≡◌, ◌≢◌, ◌⊎◌, ℕ, ◌<◌, Bool, List, slice_get, Some}
use Rattle.ms_arena.specs.declared.node.Node.{Node}
use Rattle.ms_arena.specs.declared.node.Ref.{Ref}
use Rattle.ms_arena.specs.Diagram.{Bits, IsValid, leaf_of}
use Rattle.ms_arena.specs.Halves.{TestsAt, TestsFrom}
use Rattle.ms_logic_words.specs.Content.{bits_at}

-- all nodes test variables below one
abbrev pub TestBelow : List Node → ℕ → Type 0
TestBelow nodes count = (place : ℕ) (node : Node) → slice_get nodes place ≡ Some node → node.var < count

-- a reference tests the variable, and both test no earlier one
pub record IsFirstTested (nodes : List Node) (one other : Ref) (var : ℕ) : Type 0 where
  pub from_one : TestsFrom nodes var one
  pub from_other : TestsFrom nodes var other
  pub tested : TestsAt nodes var one ⊎ TestsAt nodes var other

-- bits lead from a reference to another one, below which the variables from a level on are tested
pub record LeadsTo (nodes : List Node) (bits : List Bool) (level : ℕ) (from to : Ref) : Type 0 where
  pub valid : IsValid nodes to
  pub tests : TestsFrom nodes level to
  pub leads : (other : Bits) → ((place : ℕ) → place < level → other place ≡ bits_at bits place) → leaf_of nodes from other ≡ leaf_of nodes to other

-- bits lead from two references to two that differ
pub record LeadApart (nodes : List Node) (bits : List Bool) (one other first second : Ref) : Type 0 where
  pub level : ℕ
  pub one_leads : LeadsTo nodes bits level one first
  pub other_leads : LeadsTo nodes bits level other second
  pub differ : first ≢ second
