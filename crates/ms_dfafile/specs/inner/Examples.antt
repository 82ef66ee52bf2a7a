-- Contents and their files for worked examples.
use Rattle.std.specs.Prelude.{ℕ, List, [], ◌∷◌, ◌++◌, codes}
use Rattle.ms_arena.specs.declared.node.Node.{Node}
use Rattle.ms_arena.specs.declared.node.Ref.{Ref}
use Rattle.ms_arena.specs.declared.node.Ref.TheVariants.{Leaf, Inner}
use Rattle.ms_logic.specs.declared.mode.Mode.TheVariants.{Ws1s}
use Rattle.ms_logic.specs.declared.mode.Order.{Order}
use Rattle.ms_logic.specs.declared.mode.Order.TheVariants.{Zero, One, Two}
use Rattle.ms_dfa.specs.declared.plain.FileSign.{FileSign}
use Rattle.ms_dfa.specs.declared.plain.FileSign.TheVariants as signs
use Rattle.ms_dfa.specs.declared.plain.FileState.{FileState}
use Rattle.ms_dfa.specs.declared.plain.FileVar.{FileVar}
use Rattle.ms_dfa.specs.declared.plain.FileVersion.TheVariants as versions
use Rattle.ms_dfa.specs.declared.plain.Plain.{Plain}
use Rattle.ms_dfafile.specs.Spelling.{line}

-- what has a line of its own in a file

abbrev pub variable : Order → List ℕ → FileVar
variable order name = record { order = order; name = name }

abbrev pub state : FileSign → Ref → FileState
state sign next = record { sign = sign; next = next }

abbrev pub node : ℕ → Ref → Ref → Node
node var low high = record { var = var; low = low; high = high }

-- P sub Q
abbrev pub subset : Plain
subset = record {
  version = versions.One;
  mode = Ws1s;
  variables = variable Two (codes "P") ∷ variable Two (codes "Q") ∷ [];
  start = Leaf 0;
  states = state signs.Plus (Inner 1) ∷ state signs.Minus (Leaf 1) ∷ [];
  nodes = node 1 (Leaf 1) (Leaf 0) ∷ node 0 (Leaf 0) (Inner 0) ∷ [];
}

abbrev pub subset_file : List ℕ
subset_file = codes "monastr-dfa 1\nmode ws1s\nvariables 2\n2 P\n2 Q\nstart s0\nstates 2\n+ n1\n- s1\nnodes 2\n1 s1 s0\n0 s0 n0\nend\n"

-- A <=> 0 in P
abbrev pub equivalence : Plain
equivalence = record {
  version = versions.One;
  mode = Ws1s;
  variables = variable Zero (codes "A") ∷ variable Two (codes "P") ∷ [];
  start = Inner 0;
  states = state signs.Plus (Inner 1) ∷ state signs.Minus (Inner 2) ∷ state signs.Plus (Leaf 2) ∷ state signs.Minus (Leaf 3) ∷ [];
  nodes = node 0 (Leaf 0) (Leaf 1) ∷ node 1 (Leaf 2) (Leaf 3) ∷ node 1 (Leaf 3) (Leaf 2) ∷ [];
}

abbrev pub equivalence_file : List ℕ
equivalence_file = codes "monastr-dfa 1\nmode ws1s\nvariables 2\n0 A\n2 P\nstart n0\nstates 4\n+ n1\n- n2\n+ s2\n- s3\nnodes 3\n0 s0 s1\n1 s2 s3\n1 s3 s2\nend\n"

-- empty(P)
abbrev pub emptiness : Plain
emptiness = record {
  version = versions.One;
  mode = Ws1s;
  variables = variable Two (codes "P") ∷ [];
  start = Leaf 0;
  states = state signs.Plus (Inner 0) ∷ state signs.Minus (Leaf 1) ∷ [];
  nodes = node 0 (Leaf 0) (Leaf 1) ∷ [];
}

abbrev pub emptiness_file : List ℕ
emptiness_file = codes "monastr-dfa 1\nmode ws1s\nvariables 1\n2 P\nstart s0\nstates 2\n+ n0\n- s1\nnodes 1\n0 s0 s1\nend\n"

-- x = 0, in version 2: words at which x has no 1, or two of them, have a sign of their own
abbrev pub first_number : Plain
first_number = record {
  version = versions.Two;
  mode = Ws1s;
  variables = variable One (codes "x") ∷ [];
  start = Leaf 0;
  states = state signs.Outside (Inner 0) ∷ state signs.Outside (Inner 1) ∷ state signs.Plus (Inner 2) ∷ state signs.Minus (Inner 3) ∷ state signs.Outside (Leaf 4) ∷ [];
  nodes = node 0 (Leaf 1) (Leaf 2) ∷ node 0 (Leaf 1) (Leaf 3) ∷ node 0 (Leaf 2) (Leaf 4) ∷ node 0 (Leaf 3) (Leaf 4) ∷ [];
}

abbrev pub first_number_file : List ℕ
first_number_file = codes "monastr-dfa 2\nmode ws1s\nvariables 1\n1 x\nstart s0\nstates 5\nx n0\nx n1\n+ n2\n- n3\nx s4\nnodes 4\n0 s1 s2\n0 s1 s3\n0 s2 s4\n0 s3 s4\nend\n"

-- the same, where words at which x has two 1s have the sign 0
abbrev pub two_bits_undefined : Plain
two_bits_undefined = record first_number { states = state signs.Outside (Inner 0) ∷ state signs.Outside (Inner 1) ∷ state signs.Plus (Inner 2) ∷ state signs.Minus (Inner 3) ∷ state signs.Zero (Leaf 4) ∷ [] }

-- and the content of version 2 as one of version 1
abbrev pub outside_in_first_version : Plain
outside_in_first_version = record first_number { version = versions.One }

-- one name twice; a word as a name; a start that tests a set; a state that tests a truth value; a node that names itself;
-- a variable that is not above the one before
abbrev pub named_twice : Plain
named_twice = record subset { variables = variable Two (codes "P") ∷ variable Two (codes "P") ∷ [] }

abbrev pub named_by_word : Plain
named_by_word = record emptiness { variables = variable Two (codes "ex1") ∷ [] }

abbrev pub set_from_start : Plain
set_from_start = record emptiness { start = Inner 0 }

abbrev pub truth_value_from_state : Plain
truth_value_from_state = record emptiness { variables = variable Zero (codes "P") ∷ [] }

abbrev pub own_node : Plain
own_node = record emptiness { nodes = node 0 (Inner 0) (Leaf 1) ∷ [] }

abbrev pub same_variable : Plain
same_variable = record subset { nodes = node 0 (Leaf 1) (Leaf 0) ∷ node 0 (Leaf 0) (Inner 0) ∷ [] }

abbrev pub no_states : Plain
no_states = record emptiness { states = [] }

abbrev pub missing_state : Plain
missing_state = record emptiness { start = Leaf 2 }

-- the file of emptiness with a zero before a number, and with a line behind its end
abbrev pub zero_before : List ℕ
zero_before = codes "monastr-dfa 1\nmode ws1s\nvariables 01\n2 P\nstart s0\nstates 2\n+ n0\n- s1\nnodes 1\n0 s0 s1\nend\n"

abbrev pub line_behind : List ℕ
line_behind = emptiness_file ++ line []
