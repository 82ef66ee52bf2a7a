-- A number for each reference.
use Rattle.std.specs.Prelude.{ℕ, ◌+◌, ◌*◌, ◌/◌, ◌%◌, ◌==◌, if◌then◌else◌}
use Rattle.ms_arena.specs.declared.node.Ref.{Ref}
use Rattle.ms_arena.specs.declared.node.Ref.TheVariants.{Leaf, Inner}

-- the code of a reference: leaves have the even ones
abbrev pub code_of : Ref → ℕ
code_of (Leaf value) = 2 * value
code_of (Inner place) = 2 * place + 1

-- the reference of a code
abbrev pub ref_of : ℕ → Ref
ref_of code = if code % 2 == 0 then Leaf (code / 2) else Inner (code / 2)
