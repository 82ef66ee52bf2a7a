-- What a symbol says, where it is one of those that are wanted.
use Rattle.std.specs.Prelude.{ℕ, List, Option, Some, None}
use Rattle.ms_logic.specs.declared.source.Int.{Int}
use Rattle.ms_logic.specs.declared.source.Int.TheVariants.{Number, Constant}
use Rattle.ms_parse_grammar.specs.Symbol.{Symbol, name, number, text}

abbrev pub name_of : Symbol → Option (List ℕ)
name_of (name n) = Some n
name_of _ = None

abbrev pub text_of : Symbol → Option (List ℕ)
text_of (text t) = Some t
text_of _ = None

abbrev pub int_of : Symbol → Option Int
int_of (number n) = Some (Number n)
int_of (name n) = Some (Constant n)
int_of _ = None
