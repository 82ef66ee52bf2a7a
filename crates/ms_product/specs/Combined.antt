-- The meaning of a connective of two automata, and of an automaton whose signs are changed.
use Rattle.std.specs.Prelude.{◌≡◌, List, map}
use Rattle.ms_logic_words.specs.declared.sign.Sign.{Sign}
use Rattle.ms_logic.specs.Assignment.{Variable}
use Rattle.ms_logic_words.specs.Content.{StateOf, Content}
use Rattle.ms_logic.specs.Lists.{IsAmong}
use Rattle.ms_dfa.specs.Values.{Meaning}
use Rattle.ms_product.specs.declared.op.Op.{Op}
use Rattle.ms_product.specs.Signs.{strict}

-- right is the connective of two signs that are right for the operands
abbrev pub combined : Op → Meaning → Meaning → Meaning
combined op left right e sign = (one : Sign) × (other : Sign) × left e one × right e other × (sign ≡ strict op one other)

-- variables of both lists with one number have one order
abbrev pub HaveEqualOrders : List Variable → List Variable → Type 0
HaveEqualOrders left right = (v w : Variable) → IsAmong left v → IsAmong right w → v.name ≡ w.name → v ≡ w

-- right is what becomes of a sign that is right
abbrev pub changed : (Sign → Sign) → Meaning → Meaning
changed change meaning e sign = (one : Sign) × meaning e one × (sign ≡ change one)

-- the same state with its sign changed
abbrev pub with_sign : (Sign → Sign) → StateOf Sign → StateOf Sign
with_sign change state = record { sign = change state.sign; next = state.next }

-- the same states and steps, with each sign changed in one way
abbrev pub with_signs : (Sign → Sign) → Content Sign → Content Sign
with_signs change content = record content { states = map (with_sign change) content.states }
