-- Symbols that lead each configuration that fits the depth to the end of a document.
use Rattle.std.proofs.Common.{◌≡◌, ℕ, suc, ◌+◌, ◌≤◌, Bool, true, false, List, [], ◌∷◌, length, codes, refl, sym, ◌∙◌, arith}
use Rattle.std.proofs.lemmas.Bool.{le-leb}
use Rattle.ms_logic.specs.declared.mode.Order.TheVariants.{Zero}
use Rattle.ms_logic.specs.declared.mode.Rel.TheVariants.{Equal}
use Rattle.ms_parse_grammar.specs.declared.operator.Binary.TheVariants.{Relation}
use Rattle.ms_parse_grammar.specs.declared.operator.Listing.TheVariants.{Literal, Call}
use Rattle.ms_parse_grammar.specs.Tree.{truth, empty_set, named, imported}
use Rattle.ms_parse_grammar.specs.Tree.{Expression, atom, no_expressions, and_expression, no_variables, and_variable, unrestricted}
use Rattle.ms_parse_grammar.specs.Grammar.{depth, depth_of_domains, depth_of_values}
use Rattle.ms_parse_grammar.specs.Symbol.{name, kind, infix_operator, word_true, close_round, colon, semicolon, Placed}
use Rattle.ms_parse_steps.specs.inner.Machine.{Frame, list_frame, body_frame, part_frame, Context, Configuration, outside, wanted, holding, variable_wanted, part_wanted, pair_wanted, global_wanted, parameter_wanted, summand_wanted, completed}
use Rattle.ms_parse_steps.proofs.Lookahead.{stands_alone, may_begin_goal, bracket_lacks, may_follow}
use Rattle.ms_parse_steps.proofs.Closing.{anywhere, symbol, closing, closing_apart, FramesFit, RunsToEnd, further, body_ends, held_ends}
use Rattle.ms_parse_steps.proofs.Steps.{entered}

-- A name begins no goal here: the formula of a declaration is begun with its first symbol, and never wanted alone.
abbrev pub IsBegun : List Frame → Context → Type 0
IsBegun st c = (n : List ℕ) → may_begin_goal st c n ≡ false

-- there is room for the least of what the configuration wants
abbrev pub Fits : ℕ → Configuration → Type 0
Fits limit (outside d) = Unit {0}
Fits limit (wanted c st) = FramesFit limit st × (suc (length st) ≤ limit) × IsBegun st c
Fits limit (holding c e st) = FramesFit limit st × (length st + depth e ≤ limit)
Fits limit (variable_wanted c st at q o vs) = FramesFit limit st × (suc (suc (length st)) ≤ limit) × (suc (length st) + depth_of_domains vs ≤ limit)
Fits limit (part_wanted c st at o parts) = FramesFit limit st × (suc (suc (length st)) ≤ limit) × (suc (length st) + depth_of_values parts ≤ limit)
Fits limit (pair_wanted c st at file pairs) = FramesFit limit st × (suc (length st) ≤ limit)
Fits limit (global_wanted d at o vs) = Unit {0}
Fits limit (parameter_wanted d head vs) = Unit {0}
Fits limit (summand_wanted d at at_n n sum) = Unit {0}

-- symbols that may follow lead to the end
pub record CanEnd (limit : ℕ) (s : Configuration) : Type 0 where
  pub more : List Placed
  pub follows : may_follow s more ≡ true
  pub ends : RunsToEnd limit s more

-- `true` may stand wherever an expression is wanted
wanted_follows : (c : Context) (st : List Frame) (ts : List Placed) → may_follow (wanted c st) (symbol word_true ∷ ts) ≡ true
wanted_follows c [] ts = refl
wanted_follows c (list_frame at Literal no_expressions ∷ st) ts = refl
wanted_follows c (list_frame at (Call p) no_expressions ∷ st) ts = refl
wanted_follows c (list_frame at l (and_expression es e) ∷ st) ts = refl
wanted_follows c (_ ∷ st) ts = refl

holding_follows : (c : Context) (e : Expression) (st : List Frame) (ts : List Placed) → ((may : Bool) → stands_alone may ts ≡ true) → may_follow (holding c e st) ts ≡ true
holding_follows c (atom at (named n)) st ts apart = apart (may_begin_goal st c n)
holding_follows c (atom at empty_set) st ts apart = sym (bracket_lacks ts) ∙ apart false
holding_follows c _ st ts apart = refl

-- a name without a restriction
abbrev a_name : List ℕ
a_name = codes "x"

pub can_end : (limit : ℕ) (s : Configuration) → Fits limit s → CanEnd limit s
can_end limit (outside d) fits = record { more = []; follows = refl; ends = (d, (0, refl)) }
can_end limit (wanted c st) fits = record {
  more = symbol word_true ∷ closing c st;
  follows = wanted_follows c st (closing c st);
  ends = further limit (wanted c st) (holding c (atom anywhere truth) st) (symbol word_true ∷ closing c st) (closing c st) refl (held_ends limit c st (atom anywhere truth) fits.0 (omega arith));
}
can_end limit (holding c e st) fits = record { more = closing c st; follows = holding_follows c e st (closing c st) (closing_apart c st); ends = held_ends limit c st e fits.0 fits.1 }
can_end limit (variable_wanted c st at q o vs) fits =
    let f = body_frame at q o (and_variable vs anywhere o a_name unrestricted) in record {
      more = symbol (name a_name) ∷ symbol colon ∷ symbol word_true ∷ closing c st;
      follows = refl;
      ends = further limit (variable_wanted c st at q o vs) (wanted c (f ∷ st)) (symbol (name a_name) ∷ symbol colon ∷ symbol word_true ∷ closing c st) (symbol word_true ∷ closing c st)
          (entered limit c f st _ (symbol word_true ∷ closing c st) fits.1 fits.2)
          (body_ends limit c f st (λ b is. le-leb b 0 (omega arith)) (omega arith) refl (held_ends limit c st (completed f (atom anywhere truth)) fits.0 (omega arith)));
    }
can_end limit (part_wanted c st at o parts) fits =
    let f = part_frame at o parts anywhere a_name in record {
      more = symbol (name a_name) ∷ symbol (infix_operator (Relation Equal)) ∷ symbol word_true ∷ closing c (f ∷ st);
      follows = refl;
      ends = further limit (part_wanted c st at o parts) (wanted c (f ∷ st)) (symbol (name a_name) ∷ symbol (infix_operator (Relation Equal)) ∷ symbol word_true ∷ closing c (f ∷ st)) (symbol word_true ∷ closing c (f ∷ st))
          (entered limit c f st _ (symbol word_true ∷ closing c (f ∷ st)) fits.1 fits.2)
          (further limit (wanted c (f ∷ st)) (holding c (atom anywhere truth) (f ∷ st)) (symbol word_true ∷ closing c (f ∷ st)) (closing c (f ∷ st)) refl
          (held_ends limit c (f ∷ st) (atom anywhere truth) (fits.0, fits.2) (omega arith)));
    }
can_end limit (pair_wanted c st at file pairs) fits = record {
  more = symbol close_round ∷ closing c st;
  follows = refl;
  ends = further limit (pair_wanted c st at file pairs) (holding c (atom at (imported file pairs)) st) (symbol close_round ∷ closing c st) (closing c st) refl
      (held_ends limit c st (atom at (imported file pairs)) fits.0 (omega arith));
}
can_end limit (global_wanted d at o vs) fits = record { more = symbol (name a_name) ∷ symbol semicolon ∷ []; follows = refl; ends = (_, (1, refl)) }
can_end limit (parameter_wanted d head no_variables) fits = record {
  more = symbol (kind Zero) ∷ symbol (name a_name) ∷ symbol close_round ∷ symbol (infix_operator (Relation Equal)) ∷ symbol word_true ∷ symbol semicolon ∷ [];
  follows = refl;
  ends = (_, (3, refl));
}
can_end limit (parameter_wanted d head (and_variable vs a o n x)) fits = record {
  more = symbol (kind Zero) ∷ symbol (name a_name) ∷ symbol close_round ∷ symbol (infix_operator (Relation Equal)) ∷ symbol word_true ∷ symbol semicolon ∷ [];
  follows = refl;
  ends = (_, (3, refl));
}
can_end limit (summand_wanted d at at_n n sum) fits = record { more = symbol semicolon ∷ []; follows = refl; ends = (_, (1, refl)) }
