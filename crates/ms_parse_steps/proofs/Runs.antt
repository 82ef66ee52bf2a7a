-- Each document that the automaton reads is in the grammar.
use Rattle.std.proofs.Common.{◌≡◌, ℕ, zero, suc, ◌≤◌, Bool, true, false, ◌&&◌, inl, inr, List, [], ◌∷◌, ◌++◌, codes, bytes_eq, Option, Some, None, refl, sym, ap, ◌∙◌, subst, arith, ◌+◌, max, length}
use Rattle.std.proofs.lemmas.Bool.{false≢true}
use Rattle.std.proofs.lemmas.Slice.Eq.{bytes_eq-Decides}
use Rattle.ms_logic.specs.declared.mode.Mode.TheVariants.{M2lStr}
use Rattle.ms_list.specs.declared.at.At.{At}
use Rattle.ms_logic.specs.declared.mode.Order.{Order}
use Rattle.ms_logic.specs.declared.mode.Quant.{Quant}
use Rattle.ms_logic.specs.declared.mode.Rel.TheVariants.{Equal}
use Rattle.ms_logic.specs.declared.source.Int.{Int}
use Rattle.ms_logic.specs.declared.source.Int.TheVariants.{Number, Constant}
use Rattle.ms_logic.specs.declared.source.PlacedInt.{PlacedInt}
use Rattle.ms_logic.specs.declared.source.Rename.{Rename}
use Rattle.ms_parse_grammar.specs.Symbol.{Symbol, name, number, text, infix_operator, sign, quantifier, kind, predicate_word, default_word, word_where, word_const, word_include, word_ws1s, open_round, close_round, comma, colon, semicolon, arrow, Placed, placed}
use Rattle.ms_parse_grammar.specs.declared.operator.Binary.TheVariants.{Relation}
use Rattle.ms_parse_grammar.specs.Tree.{Variables, no_variables, and_variable, unrestricted, Parts}
use Rattle.ms_parse_grammar.specs.Tree.{variables, constant, included, Document}
use Rattle.ms_parse_grammar.specs.Grammar.{domain_bare_in, HaveGrammaticalDomains, AreOfOrder, depth_of_domains}
use Rattle.ms_parse_grammar.specs.Reads.{Starts, Follows, ReadsInt, int_symbol}
use Rattle.ms_parse_grammar.specs.Declarations.{ReadsString}
use Rattle.ms_parse_steps.specs.inner.Machine.{Head, head_with, Frame, domain_frame, body_frame, part_frame, Context, in_formula, in_goal, Configuration, outside, wanted, holding, variable_wanted, part_wanted, pair_wanted, global_wanted, parameter_wanted, summand_wanted, Move, took, misplaced, too_deep, need, in_part, Top, on_top, settle, ends, collapse, bound, behind_variable, next_variable, next_part, next_pair, behind_global, next_global, behind_parameter, next_parameter, next_summand, begin_constant, begin_predicate, begin_include, begin_default, begin_name, begin_named, begin_declaration, step, headed, start, finished, goes_on, run, Runs}
use Rattle.ms_parse_steps.proofs.Frames.{VariablesSoFar, InFrames, CollapsedTo, chosen, collapsed}
use Rattle.ms_parse_steps.proofs.Extensions.{variables_extended, ParametersSoFar, ParameterKind, parameters_extended, pairs_extended, sum_extended}
use Rattle.ms_parse_steps.proofs.Settling.{declared_good, begins_with, body_of_good, settle_good}
use Rattle.ms_parse_steps.proofs.Soundness.{SoFar, InContext, Good, GoodNext, need_small, enter_good, begin_good}
use Rattle.ms_parse_steps.proofs.Limits.{AreDomainsWithin, ReadsWithin}

variable_good : (limit : ℕ) (all here : List Placed) (c : Context) (st : List Frame) (at : At) (q : Quant) (o : Order) (vs : Variables) (at_v : At) (n : List ℕ) (s : Symbol) (a : At) (from f g ts : List Placed) → InContext limit c all from → InFrames limit st from f
    → Starts true (quantifier q o) at f g → VariablesSoFar vs g (placed (name n) at_v ∷ placed s a ∷ ts) → need st ≤ 4 → AreOfOrder o vs → HaveGrammaticalDomains vs → (in_part st ≡ true → domain_bare_in vs ≡ false)
    → suc (length st) + max 1 (depth_of_domains vs) ≤ limit → GoodNext limit all (behind_variable limit c st at q o vs at_v n s here ts)
variable_good limit all here c st at q o vs at_v n word_where a from f g ts context frames starts before low ordered good quiet room =
    enter_good limit all _ c (domain_frame at q o vs at_v n) st from f ts context frames
    (g, placed (name n) at_v ∷ placed word_where a ∷ ts, placed word_where a ∷ ts, starts, before, (at_v, refl, refl), (a, refl)) (low, ordered, good, quiet)
variable_good limit all here c st at q o vs at_v n comma a from f g ts context frames starts before low ordered good quiet room = (
  from,
  f,
  g,
  context,
  frames,
  starts,
  (placed comma a ∷ ts, variables_extended vs at_v o n unrestricted g (placed (name n) at_v ∷ placed comma a ∷ ts) (placed comma a ∷ ts) (placed comma a ∷ ts) before (at_v, refl, refl) refl, (a, refl)),
  low,
  (ordered, refl),
  good,
  quiet,
  room,
)
variable_good limit all here c st at q o vs at_v n colon a from f g ts context frames starts before low ordered good quiet room =
    enter_good limit all _ c (body_frame at q o (and_variable vs at_v o n unrestricted)) st from f ts context frames (
      g,
      placed colon a ∷ ts,
      starts,
      variables_extended vs at_v o n unrestricted g (placed (name n) at_v ∷ placed colon a ∷ ts) (placed colon a ∷ ts) (placed colon a ∷ ts) before (at_v, refl, refl) refl,
      (a, refl),
    )
    (low, (ordered, refl), good, quiet, tt)
variable_good limit all here c st at q o vs at_v n _ a from f g ts context frames starts before low ordered good quiet room = tt

next_variable_good : (limit : ℕ) (all : List Placed) (c : Context) (st : List Frame) (at : At) (q : Quant) (o : Order) (vs : Variables) (ts : List Placed) → Good limit (variable_wanted c st at q o vs) all ts → GoodNext limit all (next_variable limit c st at q o vs ts)
next_variable_good limit all c st at q o vs (placed (name n) at_v ∷ placed s a ∷ ts) (from, f, g, context, frames, starts, before, low, ordered, good, quiet, room) =
    variable_good limit all _ c st at q o vs at_v n s a from f g ts context frames starts before low ordered good quiet room
next_variable_good limit all c st at q o vs _ is = tt

next_part_good : (limit : ℕ) (all : List Placed) (c : Context) (st : List Frame) (at : At) (o : Order) (parts : Parts) (ts : List Placed) → Good limit (part_wanted c st at o parts) all ts → GoodNext limit all (next_part limit c st at o parts ts)
next_part_good limit all c st at o parts (placed (name n) at_n ∷ placed (infix_operator (Relation Equal)) a ∷ ts) (from, f, g, context, frames, starts, before, low, good, room) =
    enter_good limit all _ c (part_frame at o parts at_n n) st from f ts context frames
    (g, placed (name n) at_n ∷ placed (infix_operator (Relation Equal)) a ∷ ts, placed (infix_operator (Relation Equal)) a ∷ ts, starts, before, (at_n, refl, refl), (a, refl)) (low, good)
next_part_good limit all c st at o parts _ is = tt

next_pair_good : (limit : ℕ) (all : List Placed) (c : Context) (st : List Frame) (at : At) (file : List ℕ) (pairs : List Rename) (ts : List Placed) → Good limit (pair_wanted c st at file pairs) all ts → GoodNext limit all (next_pair c st at file pairs ts)
next_pair_good limit all c st at file pairs (placed close_round a ∷ ts) (from, f, g, h, i, context, frames, starts, opens, texts, before, room) = (
  from,
  context,
  record {
    middle = f;
    frames = frames;
    reads = (g, h, i, placed close_round a ∷ ts, starts, opens, texts, before, (a, refl));
    grammatical = tt;
    needs = need_small st;
    deep = omega arith;
    quiet = λ p. refl;
  },
  refl,
)
next_pair_good limit all c st at file pairs (placed comma a1 ∷ placed (name l) a2 ∷ placed arrow a3 ∷ placed (name r) a4 ∷ ts) (from, f, g, h, i, context, frames, starts, opens, texts, before, room) = (
  from,
  f,
  g,
  h,
  i,
  context,
  frames,
  starts,
  opens,
  texts,
  pairs_extended pairs (record { at = a2; left = l; at_right = a4; right = r }) i (placed comma a1 ∷ placed (name l) a2 ∷ placed arrow a3 ∷ placed (name r) a4 ∷ ts)
      (placed (name l) a2 ∷ placed arrow a3 ∷ placed (name r) a4 ∷ ts) (placed arrow a3 ∷ placed (name r) a4 ∷ ts) (placed (name r) a4 ∷ ts) ts before (a1, refl) (a2, refl, refl) (a3, refl) (a4, refl, refl),
  room,
)
next_pair_good limit all c st at file pairs _ is = tt

global_good : (limit : ℕ) (some : 1 ≤ limit) (all here : List Placed) (d : Document) (at : At) (o : Order) (vs : Variables) (at_v : At) (n : List ℕ) (s : Symbol) (a : At) (f g ts : List Placed) → SoFar limit d all f → Starts true (kind o) at f g
    → VariablesSoFar vs g (placed (name n) at_v ∷ placed s a ∷ ts) → AreOfOrder o vs → AreDomainsWithin limit vs → GoodNext limit all (behind_global d at o vs at_v n s here ts)
global_good limit some all here d at o vs at_v n word_where a f g ts so_far words before ordered good =
    (ts, (f, g, placed (name n) at_v ∷ placed word_where a ∷ ts, placed word_where a ∷ ts, so_far, words, before, (at_v, refl, refl), (a, refl), ordered, good), refl, omega arith)
global_good limit some all here d at o vs at_v n comma a f g ts so_far words before ordered good = (
  f,
  g,
  so_far,
  words,
  (placed comma a ∷ ts, variables_extended vs at_v o n unrestricted g (placed (name n) at_v ∷ placed comma a ∷ ts) (placed comma a ∷ ts) (placed comma a ∷ ts) before (at_v, refl, refl) refl, (a, refl)),
  (ordered, refl),
  good,
)
global_good limit some all here d at o vs at_v n semicolon a f g ts so_far words before ordered good =
    declared_good limit all d at (variables (and_variable vs at_v o n unrestricted)) f (placed semicolon a ∷ ts) ts a so_far (begins_with (kind o) at f g words) (
      o,
      g,
      (words.0, words.1),
      (ordered, refl),
      variables_extended vs at_v o n unrestricted g (placed (name n) at_v ∷ placed semicolon a ∷ ts) (placed semicolon a ∷ ts) (placed semicolon a ∷ ts) before (at_v, refl, refl) refl,
    ) refl good
global_good limit some all here d at o vs at_v n _ a f g ts so_far words before ordered good = tt

next_global_good : (limit : ℕ) (some : 1 ≤ limit) (all : List Placed) (d : Document) (at : At) (o : Order) (vs : Variables) (ts : List Placed) → Good limit (global_wanted d at o vs) all ts → GoodNext limit all (next_global d at o vs ts)
next_global_good limit some all d at o vs (placed (name n) at_v ∷ placed s a ∷ ts) (f, g, so_far, words, before, ordered, good) = global_good limit some all _ d at o vs at_v n s a f g ts so_far words before ordered good
next_global_good limit some all d at o vs _ is = tt

parameter_good : (limit : ℕ) (some : 1 ≤ limit) (all here : List Placed) (d : Document) (head : Head) (vs : Variables) (o : Order) (at_v : At) (n : List ℕ) (s : Symbol) (a : At) (f g h i j k ts : List Placed)
    → SoFar limit d all f → Starts true (predicate_word head.is_pred) head.at f g → Starts true (name head.name) head.at_name g h → Follows open_round h i → ParametersSoFar vs i j → ParameterKind vs o j (placed (name n) at_v ∷ placed s a ∷ ts) → AreDomainsWithin limit vs
    → GoodNext limit all (behind_parameter d head vs o at_v n s here ts)
parameter_good limit some all here d head vs o at_v n word_where a f g h i j k ts so_far words starts opens before kinds good =
    (ts, (f, g, h, i, j, placed (name n) at_v ∷ placed word_where a ∷ ts, placed word_where a ∷ ts, so_far, words, starts, opens, before, kinds, (at_v, refl, refl), (a, refl), good), refl, omega arith)
parameter_good limit some all here d head vs o at_v n comma a f g h i j k ts so_far words starts opens before kinds good = (
  f,
  g,
  h,
  i,
  so_far,
  words,
  starts,
  opens,
  (placed comma a ∷ ts, parameters_extended vs at_v o n unrestricted i j (placed (name n) at_v ∷ placed comma a ∷ ts) (placed comma a ∷ ts) (placed comma a ∷ ts) before kinds (at_v, refl, refl) refl, (a, refl)),
  good,
)
parameter_good limit some all here d head vs o at_v n close_round a f g h i j k ts so_far words starts opens before kinds good =
    body_of_good limit some all d head (and_variable vs at_v o n unrestricted) f g h i ts so_far words starts (
      i,
      placed close_round a ∷ ts,
      opens,
      parameters_extended vs at_v o n unrestricted i j (placed (name n) at_v ∷ placed close_round a ∷ ts) (placed close_round a ∷ ts) (placed close_round a ∷ ts) before kinds (at_v, refl, refl) refl,
      (a, refl),
    ) good
parameter_good limit some all here d head vs o at_v n _ a f g h i j k ts so_far words starts opens before kinds good = tt

next_parameter_good : (limit : ℕ) (some : 1 ≤ limit) (all : List Placed) (d : Document) (head : Head) (vs : Variables) (ts : List Placed) → Good limit (parameter_wanted d head vs) all ts
    → GoodNext limit all (next_parameter d head vs ts)
next_parameter_good limit some all d head no_variables (placed (kind o) a1 ∷ placed (name n) at_v ∷ placed s a2 ∷ ts) (f, g, h, i, so_far, words, starts, opens, before, good) =
    parameter_good limit some all _ d head no_variables o at_v n s a2 f g h i (placed (kind o) a1 ∷ placed (name n) at_v ∷ placed s a2 ∷ ts) ts ts so_far words starts opens before (a1, refl) good
next_parameter_good limit some all d head (and_variable vs at' o' n' x) (placed (kind o) a1 ∷ placed (name n) at_v ∷ placed s a2 ∷ ts) (f, g, h, i, so_far, words, starts, opens, before, good) =
    parameter_good limit some all _ d head (and_variable vs at' o' n' x) o at_v n s a2 f g h i (placed (kind o) a1 ∷ placed (name n) at_v ∷ placed s a2 ∷ ts) ts ts so_far words starts opens before (inl (a1, refl)) good
next_parameter_good limit some all d head (and_variable vs at' o' n' x) (placed (name n) at_v ∷ placed s a2 ∷ ts) (f, g, h, i, so_far, words, starts, opens, before, good) =
    parameter_good limit some all _ d head (and_variable vs at' o' n' x) o' at_v n s a2 f g h i (placed (name n) at_v ∷ placed s a2 ∷ ts) ts ts so_far words starts opens before (inr (refl, refl)) good
next_parameter_good limit some all d head vs _ is = tt

-- a sign and its number behind the numbers of a constant
summand_good : (limit : ℕ) (all : List Placed) (d : Document) (at at_n : At) (n : List ℕ) (sum : List PlacedInt) (k : PlacedInt) (ts mid after : List Placed) → Good limit (summand_wanted d at at_n n sum) all ts
    → Follows (sign k.minus) ts mid → ReadsInt true k mid after → Good limit (summand_wanted d at at_n n (sum ++ k ∷ [])) all after
summand_good limit all d at at_n n sum k ts mid after (f, g, h, i, so_far, words, starts, equal, sums) follows reads = (f, g, h, i, so_far, words, starts, equal, sum_extended sum k i ts mid after sums follows reads)

next_summand_good : (limit : ℕ) (all : List Placed) (d : Document) (at at_n : At) (n : List ℕ) (sum : List PlacedInt) (ts : List Placed) → Good limit (summand_wanted d at at_n n sum) all ts → GoodNext limit all (next_summand d at at_n n sum ts)
next_summand_good limit all d at at_n n sum (placed semicolon a ∷ ts) (f, g, h, i, so_far, words, starts, equal, sums) =
    declared_good limit all d at (constant at_n n sum) f (placed semicolon a ∷ ts) ts a so_far (begins_with word_const at f g words) (g, h, i, (words.0, words.1), starts, equal, sums) refl tt
next_summand_good limit all d at at_n n sum (placed (sign minus) a1 ∷ placed (number k) a2 ∷ ts) good =
    summand_good limit all d at at_n n sum (record { at = a2; value = Number k; minus = minus }) (placed (sign minus) a1 ∷ placed (number k) a2 ∷ ts) (placed (number k) a2 ∷ ts) ts good (a1, refl) (a2, refl, refl)
next_summand_good limit all d at at_n n sum (placed (sign minus) a1 ∷ placed (name k) a2 ∷ ts) good =
    summand_good limit all d at at_n n sum (record { at = a2; value = Constant k; minus = minus }) (placed (sign minus) a1 ∷ placed (name k) a2 ∷ ts) (placed (name k) a2 ∷ ts) ts good (a1, refl) (a2, refl, refl)
next_summand_good limit all d at at_n n sum _ is = tt

-- the first number of a constant
constant_begun : (limit : ℕ) (all : List Placed) (d : Document) (at at_n : At) (n : List ℕ) (a1 a2 : At) (k : Int) (ts : List Placed)
    → SoFar limit d all (placed word_const at ∷ placed (name n) at_n ∷ placed (infix_operator (Relation Equal)) a1 ∷ placed (int_symbol k) a2 ∷ ts)
    → Good limit (summand_wanted d at at_n n (record { at = a2; value = k; minus = false } ∷ [])) all ts
constant_begun limit all d at at_n n a1 a2 k ts so_far =
    let numbers : List Placed = placed (int_symbol k) a2 ∷ ts in
    let equal : List Placed = placed (infix_operator (Relation Equal)) a1 ∷ numbers in
    let names : List Placed = placed (name n) at_n ∷ equal in
    (placed word_const at ∷ names, names, equal, numbers, so_far, (at, refl, refl), (at_n, refl, refl), (a1, refl), (ts, refl, (a2, refl, refl), refl))

constant_good : (limit : ℕ) (all : List Placed) (d : Document) (at : At) (ts : List Placed) → SoFar limit d all (placed word_const at ∷ ts) → GoodNext limit all (begin_constant d at ts)
constant_good limit all d at (placed (name n) at_n ∷ placed (infix_operator (Relation Equal)) a1 ∷ placed (number k) a2 ∷ ts) so_far = constant_begun limit all d at at_n n a1 a2 (Number k) ts so_far
constant_good limit all d at (placed (name n) at_n ∷ placed (infix_operator (Relation Equal)) a1 ∷ placed (name k) a2 ∷ ts) so_far = constant_begun limit all d at at_n n a1 a2 (Constant k) ts so_far
constant_good limit all d at _ so_far = tt

predicate_good : (limit : ℕ) (some : 1 ≤ limit) (all : List Placed) (d : Document) (at : At) (is_pred : Bool) (ts : List Placed) → SoFar limit d all (placed (predicate_word is_pred) at ∷ ts) → GoodNext limit all (begin_predicate d at is_pred ts)
predicate_good limit some all d at is_pred (placed (name p) at_p ∷ placed (infix_operator (Relation Equal)) a1 ∷ ts) so_far = (
  ts,
  (
    placed (predicate_word is_pred) at ∷ placed (name p) at_p ∷ placed (infix_operator (Relation Equal)) a1 ∷ ts,
    placed (name p) at_p ∷ placed (infix_operator (Relation Equal)) a1 ∷ ts,
    placed (infix_operator (Relation Equal)) a1 ∷ ts,
    placed (infix_operator (Relation Equal)) a1 ∷ ts,
    so_far,
    (at, refl, refl),
    (at_p, refl, refl),
    inl refl,
    (a1, refl),
    tt,
  ),
  refl,
  omega arith,
)
predicate_good limit some all d at is_pred (placed (name p) at_p ∷ placed open_round a1 ∷ placed close_round a2 ∷ ts) so_far =
    body_of_good limit some all d (head_with at is_pred at_p p) no_variables (placed (predicate_word is_pred) at ∷ placed (name p) at_p ∷ placed open_round a1 ∷ placed close_round a2 ∷ ts)
    (placed (name p) at_p ∷ placed open_round a1 ∷ placed close_round a2 ∷ ts) (placed open_round a1 ∷ placed close_round a2 ∷ ts) ts ts so_far (at, refl, refl) (at_p, refl, refl)
    (inr (placed close_round a2 ∷ ts, (a1, refl), (a2, refl))) tt
predicate_good limit some all d at is_pred (placed (name p) at_p ∷ placed open_round a1 ∷ ts) so_far = (
  placed (predicate_word is_pred) at ∷ placed (name p) at_p ∷ placed open_round a1 ∷ ts,
  placed (name p) at_p ∷ placed open_round a1 ∷ ts,
  placed open_round a1 ∷ ts,
  ts,
  so_far,
  (at, refl, refl),
  (at_p, refl, refl),
  (a1, refl),
  refl,
  tt,
)
predicate_good limit some all d at is_pred _ so_far = tt

include_good : (limit : ℕ) (all : List Placed) (d : Document) (at : At) (ts : List Placed) → SoFar limit d all (placed word_include at ∷ ts) → GoodNext limit all (begin_include d at ts)
include_good limit all d at (placed (text file) a1 ∷ placed semicolon a2 ∷ ts) so_far =
    declared_good limit all d at (included a1 file) (placed word_include at ∷ placed (text file) a1 ∷ placed semicolon a2 ∷ ts) (placed semicolon a2 ∷ ts) ts a2 so_far refl
    (placed (text file) a1 ∷ placed semicolon a2 ∷ ts, (at, refl), (a1, refl, refl)) refl tt
include_good limit all d at _ so_far = tt

default_good : (limit : ℕ) (some : 1 ≤ limit) (all : List Placed) (d : Document) (at : At) (o : Order) (ts : List Placed) → SoFar limit d all (placed (default_word o) at ∷ ts) → GoodNext limit all (begin_default d at o ts)
default_good limit some all d at o (placed open_round a1 ∷ placed (name n) a2 ∷ placed close_round a3 ∷ placed (infix_operator (Relation Equal)) a4 ∷ ts) so_far = (
  ts,
  (
    placed (default_word o) at ∷ placed open_round a1 ∷ placed (name n) a2 ∷ placed close_round a3 ∷ placed (infix_operator (Relation Equal)) a4 ∷ ts,
    placed open_round a1 ∷ placed (name n) a2 ∷ placed close_round a3 ∷ placed (infix_operator (Relation Equal)) a4 ∷ ts,
    placed (name n) a2 ∷ placed close_round a3 ∷ placed (infix_operator (Relation Equal)) a4 ∷ ts,
    placed close_round a3 ∷ placed (infix_operator (Relation Equal)) a4 ∷ ts,
    placed (infix_operator (Relation Equal)) a4 ∷ ts,
    so_far,
    (at, refl, refl),
    (a1, refl),
    (a2, refl),
    (a3, refl),
    (a4, refl),
  ),
  refl,
  omega arith,
)
default_good limit some all d at o _ so_far = tt

named_good : (limit : ℕ) (some : 1 ≤ limit) (all here : List Placed) (d : Document) (at : At) (n : List ℕ) (ts : List Placed) → SoFar limit d all (placed (name n) at ∷ ts)
    → GoodNext limit all (begin_named limit d at n ts)
named_good limit some all here d at n (placed (text title) a ∷ ts) so_far =
    let behind = placed (text title) a ∷ ts in
    chosen (GoodNext limit all) (bytes_eq n (codes "goal")) (took (wanted (in_goal d at a title) []) ts) (begin_name limit (in_formula d at) [] at n behind)
    (λ is. let same : n ≡ codes "goal" = (bytes_eq-Decides n (codes "goal")).0 is in (
      ts,
      (placed (name n) at ∷ behind, behind, so_far, (at, ap (λ x. placed (name x) at ∷ behind) same, refl), (a, refl, refl)),
      refl,
      omega arith,
    ))
    (λ other. begin_good limit all here (in_formula d at) [] at (name n) (placed (name n) at ∷ behind) behind (so_far, refl) refl (omega arith))
named_good limit some all here d at n ts so_far =
    begin_good limit all here (in_formula d at) [] at (name n) (placed (name n) at ∷ ts) ts (so_far, refl) refl (omega arith)

declaration_good : (limit : ℕ) (some : 1 ≤ limit) (all here : List Placed) (d : Document) (at : At) (s : Symbol) (ts : List Placed) → SoFar limit d all (placed s at ∷ ts) → GoodNext limit all (begin_declaration limit d at s here ts)
declaration_good limit some all here d at (kind o) ts so_far = (placed (kind o) at ∷ ts, ts, so_far, (at, refl, refl), refl, tt, tt)
declaration_good limit some all here d at word_const ts so_far = constant_good limit all d at ts so_far
declaration_good limit some all here d at (predicate_word is_pred) ts so_far = predicate_good limit some all d at is_pred ts so_far
declaration_good limit some all here d at word_include ts so_far = include_good limit all d at ts so_far
declaration_good limit some all here d at (default_word o) ts so_far = default_good limit some all d at o ts so_far
declaration_good limit some all here d at (name n) ts so_far = named_good limit some all here d at n ts so_far
declaration_good limit some all here d at s ts so_far = begin_good limit all here (in_formula d at) [] at s (placed s at ∷ ts) ts (so_far, refl) refl (omega arith)

top_good : (limit : ℕ) (some : 1 ≤ limit) (all here : List Placed) (c : Context) (s : Symbol) (inside : Bool) (top : Option Top) (from ts : List Placed) (a : At) → InContext limit c all from → CollapsedTo limit (bound inside s) inside top from (placed s a ∷ ts)
    → GoodNext limit all (on_top (λ t. settle limit c s inside t here ts) here top)
top_good limit some all here c s inside None from ts a context is = tt
top_good limit some all here c s inside (Some top) from ts a context is = settle_good limit some all here c s inside top from ts a context is

step_good : (limit : ℕ) (some : 1 ≤ limit) (s : Configuration) (all ts : List Placed) → Good limit s all ts → GoodNext limit all (step limit s ts)
step_good limit some (outside d) all (placed s at ∷ ts) is = declaration_good limit some all _ d at s ts is
step_good limit some (wanted c st) all (placed s at ∷ ts) (from, context, frames, room) = begin_good limit all _ c st at s from ts context frames room
step_good limit some (holding c e st) all (placed s at ∷ ts) (from, context, held, closed) =
    top_good limit some all _ c s (in_part st) (collapse limit (bound (in_part st) s) e st) from ts at context (collapsed limit (bound (in_part st) s) st e from (placed s at ∷ ts) held (λ some. closed))
step_good limit some (variable_wanted c st at q o vs) all (placed s a ∷ ts) is = next_variable_good limit all c st at q o vs (placed s a ∷ ts) is
step_good limit some (part_wanted c st at o parts) all (placed s a ∷ ts) is = next_part_good limit all c st at o parts (placed s a ∷ ts) is
step_good limit some (pair_wanted c st at file pairs) all (placed s a ∷ ts) is = next_pair_good limit all c st at file pairs (placed s a ∷ ts) is
step_good limit some (global_wanted d at o vs) all (placed s a ∷ ts) is = next_global_good limit some all d at o vs (placed s a ∷ ts) is
step_good limit some (parameter_wanted d head vs) all (placed s a ∷ ts) is = next_parameter_good limit some all d head vs (placed s a ∷ ts) is
step_good limit some (summand_wanted d at at_n n sum) all (placed s a ∷ ts) is = next_summand_good limit all d at at_n n sum (placed s a ∷ ts) is
step_good limit some (outside d) all [] is = tt
step_good limit some (wanted c st) all [] is = tt
step_good limit some (holding c e st) all [] is = tt
step_good limit some (variable_wanted c st at q o vs) all [] is = tt
step_good limit some (part_wanted c st at o parts) all [] is = tt
step_good limit some (pair_wanted c st at file pairs) all [] is = tt
step_good limit some (global_wanted d at o vs) all [] is = tt
step_good limit some (parameter_wanted d head no_variables) all [] is = tt
step_good limit some (parameter_wanted d head (and_variable vs a o n x)) all [] is = tt
step_good limit some (summand_wanted d at at_n n sum) all [] is = tt

finished_good : (limit : ℕ) (s : Configuration) (all ts : List Placed) (d : Document) → Good limit s all ts → finished s ts ≡ Some d → SoFar limit d all []
finished_good limit (outside d0) all [] d is read = let same : d0 ≡ d = cc in subst (λ x. SoFar limit x all []) same is
finished_good limit (outside d0) all (t ∷ ts) d is read = let never : ⊥ = cc in absurd never
finished_good limit (wanted c st) all ts d is read = let never : ⊥ = cc in absurd never
finished_good limit (holding c e st) all ts d is read = let never : ⊥ = cc in absurd never
finished_good limit (variable_wanted c st at q o vs) all ts d is read = let never : ⊥ = cc in absurd never
finished_good limit (part_wanted c st at o parts) all ts d is read = let never : ⊥ = cc in absurd never
finished_good limit (pair_wanted c st at file pairs) all ts d is read = let never : ⊥ = cc in absurd never
finished_good limit (global_wanted d0 at o vs) all ts d is read = let never : ⊥ = cc in absurd never
finished_good limit (parameter_wanted d0 head vs) all ts d is read = let never : ⊥ = cc in absurd never
finished_good limit (summand_wanted d0 at at_n n sum) all ts d is read = let never : ⊥ = cc in absurd never

next_good : (limit : ℕ) (r : Configuration → List Placed → Option Document) (all : List Placed) (d : Document) → ((s : Configuration) (ts : List Placed) → Good limit s all ts → r s ts ≡ Some d → SoFar limit d all [])
    → (x : Move) → GoodNext limit all x → goes_on r x ≡ Some d → SoFar limit d all []
next_good limit r all d further (took s ts) is read = further s ts is read
next_good limit r all d further (misplaced from) is read = let never : ⊥ = cc in absurd never
next_good limit r all d further (too_deep from) is read = let never : ⊥ = cc in absurd never

run_good : (limit : ℕ) (some : 1 ≤ limit) (n : ℕ) (s : Configuration) (all ts : List Placed) (d : Document) → Good limit s all ts → run limit n s ts ≡ Some d → SoFar limit d all []
run_good limit some zero s all ts d is read = finished_good limit s all ts d is read
run_good limit some (suc n) s all ts d is read = next_good limit (run limit n) all d (λ s' ts' is' read'. run_good limit some n s' all ts' d is' read') (step limit s ts) (step_good limit some s all ts is) read

and_both : (a b : Bool) → (a && b) ≡ true → (a ≡ true) × (b ≡ true)
and_both true b h = (refl, h)
and_both false b h = absurd (false≢true h)

-- symbols that do not begin with four symbols of the form of the header
abbrev four : List Placed → Bool
four (placed (name n) at ∷ placed (sign true) a1 ∷ placed (name m) a2 ∷ placed semicolon a3 ∷ ts) = true
four _ = false

no_string : (all : List Placed) (x : At) (f : List Placed) → ReadsString false x all f → four all ≡ false → ⊥
no_string all x f (f1, f2, f3, starts, minus, third, ends) plain =
    let whole : all ≡ placed (name (codes "m2l")) starts.0 ∷ placed (sign true) minus.0 ∷ placed (name (codes "str")) third.0 ∷ placed semicolon ends.0 ∷ f =
    starts.1 ∙ ap (λ y. placed (name (codes "m2l")) starts.0 ∷ y) (minus.1 ∙ ap (λ y. placed (sign true) minus.0 ∷ y) (third.1 ∙ ap (λ y. placed (name (codes "str")) third.0 ∷ y) ends.1)) in
    false≢true (sym plain ∙ ap four whole)

-- the names of the header
abbrev first_name : List Placed → List ℕ
first_name (placed (name n) at ∷ ts) = n
first_name _ = []

abbrev third_name : List Placed → List ℕ
third_name (s ∷ t ∷ placed (name n) at ∷ ts) = n
third_name _ = []

not_both : (n m : List ℕ) (all : List Placed) (x : At) (f : List Placed) (at a1 a2 a3 : At) (ts : List Placed) → (bytes_eq n (codes "m2l") && bytes_eq m (codes "str")) ≡ false
    → all ≡ placed (name n) at ∷ placed (sign true) a1 ∷ placed (name m) a2 ∷ placed semicolon a3 ∷ ts → ReadsString false x all f → ⊥
not_both n m all x f at a1 a2 a3 ts is_not here (f1, f2, f3, starts, minus, third, ends) =
    let whole : all ≡ placed (name (codes "m2l")) starts.0 ∷ placed (sign true) minus.0 ∷ placed (name (codes "str")) third.0 ∷ placed semicolon ends.0 ∷ f =
    starts.1 ∙ ap (λ y. placed (name (codes "m2l")) starts.0 ∷ y) (minus.1 ∙ ap (λ y. placed (sign true) minus.0 ∷ y) (third.1 ∙ ap (λ y. placed (name (codes "str")) third.0 ∷ y) ends.1)) in
    let same : placed (name n) at ∷ placed (sign true) a1 ∷ placed (name m) a2 ∷ placed semicolon a3 ∷ ts ≡ placed (name (codes "m2l")) starts.0 ∷ placed (sign true) minus.0 ∷ placed (name (codes "str")) third.0 ∷ placed semicolon ends.0 ∷ f = sym here ∙ whole in
    let first : n ≡ codes "m2l" = ap first_name same in
    let last : m ≡ codes "str" = ap third_name same in
    false≢true (sym is_not ∙ ap (λ (k : List ℕ). bytes_eq k (codes "m2l") && bytes_eq m (codes "str")) first ∙ ap (λ (k : List ℕ). bytes_eq (codes "m2l") (codes "m2l") && bytes_eq k (codes "str")) last)

-- the header
headed_good : (limit : ℕ) (n m : List ℕ) (at a1 a2 a3 : At) (ts : List Placed) → let all = placed (name n) at ∷ placed (sign true) a1 ∷ placed (name m) a2 ∷ placed semicolon a3 ∷ ts in
    SoFar limit (headed n m at ts all).0 all (headed n m at ts all).1
headed_good limit n m at a1 a2 a3 ts =
    let all = placed (name n) at ∷ placed (sign true) a1 ∷ placed (name m) a2 ∷ placed semicolon a3 ∷ ts in
    chosen (λ (x : Document × List Placed). SoFar limit x.0 all x.1) (bytes_eq n (codes "m2l") && bytes_eq m (codes "str"))
    (record { header = Some (at, M2lStr); declarations = [] }, ts) (record { header = None; declarations = [] }, all)
    (λ is. let tests = and_both (bytes_eq n (codes "m2l")) (bytes_eq m (codes "str")) is in (
      ts,
      (
        placed (sign true) a1 ∷ placed (name m) a2 ∷ placed semicolon a3 ∷ ts,
        placed (name m) a2 ∷ placed semicolon a3 ∷ ts,
        placed semicolon a3 ∷ ts,
        (at, ap (λ x. placed (name x) at ∷ placed (sign true) a1 ∷ placed (name m) a2 ∷ placed semicolon a3 ∷ ts) ((bytes_eq-Decides n (codes "m2l")).0 tests.0), refl),
        (a1, refl),
        (a2, ap (λ x. placed (name x) a2 ∷ placed semicolon a3 ∷ ts) ((bytes_eq-Decides m (codes "str")).0 tests.1)),
        (a3, refl),
      ),
      refl,
      tt,
    ))
    (λ is_not. (all, (refl, λ x f string. not_both n m all x f at a1 a2 a3 ts is_not refl string), refl, tt))

pub start_good : (limit : ℕ) (all : List Placed) → SoFar limit (start all).0 all (start all).1
start_good limit (placed word_ws1s at ∷ placed semicolon a1 ∷ ts) = (ts, (placed semicolon a1 ∷ ts, (at, refl, refl), (a1, refl)), refl, tt)
start_good limit (placed (name n) at ∷ placed (sign true) a1 ∷ placed (name m) a2 ∷ placed semicolon a3 ∷ ts) = headed_good limit n m at a1 a2 a3 ts
start_good limit [] = ([], (refl, λ x f string. no_string [] x f string refl), refl, tt)
start_good limit (t ∷ ts) = (t ∷ ts, (refl, λ x f string. no_string (t ∷ ts) x f string refl), refl, tt)

pub runs_read : (limit : ℕ) (some : 1 ≤ limit) (all : List Placed) (d : Document) → Runs limit (outside (start all).0) (start all).1 d → ReadsWithin limit all d
runs_read limit some all d (n, read) =
    let so_far = run_good limit some n (outside (start all).0) all (start all).1 d (start_good limit all) read in
    record { read = (so_far.0, so_far.1, so_far.2); declarations = so_far.3 }
