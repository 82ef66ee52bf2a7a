-- A projection under way, and why one may be refused for want of nodes.
use Rattle.std.specs.Prelude.{◌≡◌, ◌⊎◌, ℕ, List, length, map}
use Rattle.ms_arena.specs.declared.node.Ref.{Ref}
use Rattle.ms_arena.specs.declared.node.Node.{Node}
use Rattle.ms_diagram.specs.Store.{Contents}
use Rattle.ms_dfa.specs.declared.state.State.{State}
use Rattle.ms_logic.specs.declared.mode.Mode.{Mode}
use Rattle.ms_logic.specs.declared.mode.Quant.{Quant}
use Rattle.ms_logic_words.specs.declared.sign.Sign.{Sign}
use Rattle.ms_logic.specs.Assignment.{Variable}
use Rattle.ms_logic_words.specs.Content.{Content}
use Rattle.ms_dfa_explore.specs.Tracks.{place_of}
use Rattle.ms_product.specs.declared.op.Op.TheVariants.{And}
use Rattle.ms_product.specs.Pairing.{AreAtLeast, AreReachedPairs, ReachedAreAtLeast}
use Rattle.ms_quotient.specs.declared.marks.Marks.{Marks}
use Rattle.ms_quotient.specs.Closure.{no_marks}
use Rattle.ms_quotient.specs.Way.{union_along}
use Rattle.ms_project.specs.Marks.{AreClosedMarks, can_be_empty}
use Rattle.ms_product.specs.Pairing.{IsPairedIn, IsPairedStore}
use Rattle.ms_project.specs.Paired.{marks_of_pair, operands_for, places_left}
use Rattle.ms_project.specs.Signed.{AreSigned, zero_step}
use Rattle.ms_project.specs.Subsetting.{Subsetting, AreSetsFound, IsReadyForSets, SetsAreAtLeast, begun, with_sets}

-- the subset construction over the product of a body and a domain that has found its sets; the marks are those of its pairs
pub record IsProjection (body domain : Content Sign) (name : ℕ) (marks : List Marks) (v : Subsetting) (held : Contents) (start : Ref) (states : List State) : Type 0 where
  pub same : v ≡ record v { body = body; bound = place_of name body.variables; back = places_left name 0 body.variables }
  pub pairs : List (ℕ × ℕ)
  pub paired : IsPairedIn v.inner.nodes And (operands_for body domain) pairs v.start v.states
  pub marks_are : marks ≡ map (marks_of_pair body domain) pairs
  pub ready : IsReadyForSets v
  pub found : AreSetsFound v held start states

-- the same of some construction that has found these sets
pub record IsProjectionOf (body domain : Content Sign) (name : ℕ) (marks : List Marks) (sets : List (List ℕ)) (held : Contents) (start : Ref) (states : List State) : Type 0 where
  pub begun_with : Subsetting
  pub is : IsProjection body domain name marks (with_sets begun_with sets) held start states

-- the states of the sets, signed by the marks of their members
pub record AreSignedSets (mode : Mode) (q : Quant) (rest : List Variable) (marks : List Marks) (sets : List (List ℕ)) (nodes : List Node) (states signed : List State) : Type 0 where
  pub closed : List Marks
  pub closes : AreClosedMarks mode (map (zero_step nodes (length rest)) states) (map (λ set. union_along marks set no_marks) sets) closed
  pub signs : AreSigned q (can_be_empty mode rest) closed states signed

-- the search for sets of the states of a product over the variables of a body, one of which is left out
abbrev pub begun_behind : Content Sign → ℕ → Contents → Ref → List State → Subsetting
begun_behind body name inner start states = begun body inner start states (place_of name body.variables) (places_left name 0 body.variables)

-- the product was built, and the nodes and the sets that were found behind it are together at least so many
pub record SetsOfProductAreAtLeast (count : ℕ) (body domain : Content Sign) (name : ℕ) : Type 0 where
  pub inner : Contents
  pub start : Ref
  pub states : List State
  pub pairs : List (ℕ × ℕ)
  pub paired : IsPairedIn inner.nodes And (operands_for body domain) pairs start states
  pub needed : IsPairedStore inner count And (operands_for body domain) pairs
  pub sets : SetsAreAtLeast count (begun_behind body name inner start states)

-- the product, or the sets of its states, have so many needed nodes, pairs and sets
abbrev pub NeedsAtLeast : ℕ → Content Sign → Content Sign → ℕ → Type 0
NeedsAtLeast count body domain name = AreAtLeast count And (operands_for body domain) ⊎ SetsOfProductAreAtLeast count body domain name

-- the same of a product whose pairs are reached
pub record SetsOfReachedAreAtLeast (count : ℕ) (body domain : Content Sign) (name : ℕ) : Type 0 where
  pub sets : SetsOfProductAreAtLeast count body domain name
  pub reached : AreReachedPairs (operands_for body domain) sets.pairs

abbrev pub ReachedNeedsAtLeast : ℕ → Content Sign → Content Sign → ℕ → Type 0
ReachedNeedsAtLeast count body domain name = ReachedAreAtLeast count And (operands_for body domain) ⊎ SetsOfReachedAreAtLeast count body domain name

-- an answer has at most so many nodes and states as were found behind the product
pub record SetsOfAnswerAreAtLeast (count : ℕ) (body domain : Content Sign) (name : ℕ) : Type 0 where
  pub inner : Contents
  pub start : Ref
  pub states : List State
  pub pairs : List (ℕ × ℕ)
  pub paired : IsPairedIn inner.nodes And (operands_for body domain) pairs start states
  pub sets : SetsAreAtLeast count (begun_behind body name inner start states)
