-- The automaton of truth: each word over no variables is Yes.
use Rattle.std.specs.Prelude.{[], ◌∷◌, Option, Some, None}
use Rattle.ms_arena.specs.declared.node.Ref.TheVariants.{Leaf}
use Rattle.ms_logic.specs.declared.mode.Mode.{Mode}
use Rattle.ms_logic_words.specs.declared.sign.Sign.{Sign}
use Rattle.ms_logic_words.specs.declared.sign.Sign.TheVariants.{Yes}
use Rattle.ms_logic_words.specs.Content.{Content}

abbrev pub always : Mode → Content Sign
always mode = record { mode = mode; variables = []; start = Leaf 0; states = record { sign = Yes; next = Leaf 0 } ∷ []; nodes = [] }

-- the domain, and truth where there is none
abbrev pub domain_or_always : Mode → Option (Content Sign) → Content Sign
domain_or_always mode None = always mode
domain_or_always mode (Some domain) = domain
