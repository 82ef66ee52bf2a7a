-- The beginning of a goal, as the code looks for it.
use Rattle.std.specs.Prelude.{◌≡◌, ℕ, ◌+◌, false, List, ◌∷◌, codes, bytes_eq}
use Rattle.ms_list.specs.declared.at.At.{At}
use Rattle.ms_text.specs.TokenList.{Lexed}
use Rattle.ms_parse_grammar.specs.Symbol.{name, text, Placed, placed}
use Rattle.ms_parse_steps.specs.inner.Terminals.{IsNext}

-- the token with this number is `goal`, and this title stands behind it
abbrev pub BeginsGoal : ℕ → Lexed → ℕ → List ℕ → At → Type 0
BeginsGoal file lexed i title at_title = (at : At) × IsNext file lexed i (name (codes "goal")) at × IsNext file lexed (i + 1) (text title) at_title

-- the symbols do not begin with `goal` and a text
abbrev pub IsNoGoal : List Placed → Type 0
IsNoGoal (placed (name n) at ∷ placed (text title) a ∷ ts) = bytes_eq n (codes "goal") ≡ false
IsNoGoal _ = Unit {0}
