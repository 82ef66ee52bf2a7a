-- Bits that differ from others in one variable, or in all variables below one.
use Rattle.std.specs.Prelude.{◌≡◌, ℕ, ◌<◌, Bool, if◌then◌else◌, nat_eq, nat_lt}
use Rattle.ms_arena.specs.Diagram.{Bits}

-- the bits, with this value as the bit of the variable
abbrev pub with_bit : Bits → ℕ → Bool → Bits
with_bit bits var value = λ other. if nat_eq other var then value else bits other

-- the first bits below the variable, and the later ones from it on
abbrev pub below_from : ℕ → Bits → Bits → Bits
below_from var first later = λ other. if nat_lt other var then first other else later other

-- the bits are equal at each variable above this one
abbrev pub AgreeAbove : ℕ → Bits → Bits → Type 0
AgreeAbove var one two = (other : ℕ) → var < other → one other ≡ two other
