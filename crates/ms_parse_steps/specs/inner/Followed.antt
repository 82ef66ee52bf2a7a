-- What the automaton does at the symbol that follows an expression, once the frames that end before it are completed.
use Rattle.std.specs.Prelude.{ℕ, ◌-◌, Bool, List}
use Rattle.ms_text.specs.TokenList.{Lexed}
use Rattle.ms_parse_grammar.specs.Grammar.{greatest_depth}
use Rattle.ms_parse_grammar.specs.View.{expression_of}
use Rattle.ms_parse_steps.specs.declared.followed.Followed.{Followed}
use Rattle.ms_parse_steps.specs.inner.Machine.{Context, Frame, Move, settle}
use Rattle.ms_parse_steps.specs.inner.Terminals.{behind, symbol_with}

-- with these bytes of the terminal, on this stack
abbrev pub settled : ℕ → Lexed → Context → List ℕ → Bool → Followed → List Frame → Move
settled file lexed c bytes inside followed st =
    settle greatest_depth c (symbol_with followed.terminal bytes) inside (expression_of followed.operand.expr, st) (behind file lexed (followed.next - 1)) (behind file lexed followed.next)
