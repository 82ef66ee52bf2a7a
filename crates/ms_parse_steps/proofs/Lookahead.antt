-- What may stand behind the symbols that a step has taken, where the step has looked at the symbol behind them.
use Rattle.std.proofs.Common.{◌≡◌, ℕ, Bool, true, cond, false, List, [], ◌∷◌, codes, bytes_eq, refl}
use Rattle.ms_parse_grammar.specs.Reads.{closing}
use Rattle.ms_parse_grammar.specs.Symbol.{Symbol, text, open_round, close_round, Placed, placed}
use Rattle.ms_parse_grammar.specs.Tree.{empty_set, named}
use Rattle.ms_parse_grammar.specs.Tree.{atom, no_expressions, no_variables}
use Rattle.ms_parse_steps.specs.inner.Machine.{Frame, list_frame, Context, in_formula, Configuration, wanted, holding, parameter_wanted, is_mark}

-- the first symbol is another one, or there is none
abbrev pub lacks : Symbol → List Placed → Bool
lacks m [] = true
lacks m (placed s a ∷ ts) = cond (is_mark m s) false true

-- with a text behind it the name begins a goal
abbrev pub may_begin_goal : List Frame → Context → List ℕ → Bool
may_begin_goal [] (in_formula d at) n = bytes_eq n (codes "goal")
may_begin_goal [] c n = false
may_begin_goal (f ∷ st) c n = false

-- these symbols begin with no bracket, nor, where the name before them may begin a goal, with a text
abbrev pub stands_alone : Bool → List Placed → Bool
stands_alone may [] = true
stands_alone may (placed (text t) a ∷ ts) = cond may false true
stands_alone may (placed s a ∷ ts) = cond (is_mark open_round s) false true

pub bracket_lacks : (ts : List Placed) → stands_alone false ts ≡ lacks open_round ts
bracket_lacks [] = refl
bracket_lacks (placed (text t) a ∷ ts) = refl
bracket_lacks (placed s a ∷ ts) = refl

-- The symbols may stand behind what led to the configuration: with another symbol in front the step would have taken it too.
abbrev pub may_follow : Configuration → List Placed → Bool
may_follow (holding c (atom at (named n)) st) ts = stands_alone (may_begin_goal st c n) ts
may_follow (holding c (atom at empty_set) st) ts = lacks open_round ts
may_follow (wanted c (list_frame at l no_expressions ∷ st)) ts = lacks (closing l) ts
may_follow (parameter_wanted d head no_variables) ts = lacks close_round ts
may_follow s ts = true
