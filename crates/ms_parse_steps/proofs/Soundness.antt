-- What the automaton has read is in the grammar.
use Rattle.std.proofs.Common.{◌≡◌, ℕ, suc, ◌+◌, ◌≤◌, max, leb, true, false, List, [], ◌∷◌, length, codes, refl, arith}
use Rattle.std.proofs.lemmas.Bool.{leb-true}
use Rattle.ms_list.specs.declared.at.At.{At}
use Rattle.ms_logic.specs.declared.mode.Rel.TheVariants.{Equal}
use Rattle.ms_logic.specs.declared.source.Int.TheVariants.{Number, Constant}
use Rattle.ms_parse_grammar.specs.Symbol.{Symbol, name, number, text, prefix_operator, infix_operator, quantifier, let_word, kind, predicate_word, default_word, word_true, word_false, dollar, word_empty, word_pconst, word_import, word_export, word_restrict, word_where, word_const, open_round, close_round, open_curly, close_curly, comma, Placed, placed}
use Rattle.ms_parse_grammar.specs.declared.operator.Prefix.TheVariants.{Negation, Minimum, Maximum}
use Rattle.ms_parse_grammar.specs.declared.operator.Binary.TheVariants.{Implication, Equivalence, Relation, Union, Intersection, Difference}
use Rattle.ms_parse_grammar.specs.declared.operator.Junction.TheVariants.{Conjunction, Disjunction}
use Rattle.ms_parse_grammar.specs.declared.operator.Bracket.TheVariants.{Parentheses, Emptiness, Restriction, Export}
use Rattle.ms_parse_grammar.specs.declared.operator.Listing.{Listing}
use Rattle.ms_parse_grammar.specs.declared.operator.Listing.TheVariants.{Literal, Call}
use Rattle.ms_parse_grammar.specs.Tree.{Atom, truth, falsity, whole, empty_set, named, numeral, pconst}
use Rattle.ms_parse_grammar.specs.Tree.{atom, listed, no_expressions, no_variables, no_parts}
use Rattle.ms_parse_grammar.specs.Tree.{Document}
use Rattle.ms_parse_grammar.specs.Grammar.{ends_open, domain_bare_in, HaveGrammaticalDomains, HaveGrammaticalValues, AreOfOrder, prefix_level, depth_of_domains, depth_of_values}
use Rattle.ms_parse_grammar.specs.Reads.{Starts, Follows, ReadsPairs, ReadsAtom, ReadsListOpening, closing}
use Rattle.ms_parse_grammar.specs.Declarations.{ReadsParameterList, ReadsSum, BeginsAt, ReadsDeclarations, ReadsHeader}
use Rattle.ms_parse_steps.specs.inner.Machine.{Frame, prefix_frame, left_frame, joined_frame, bracket_frame, list_frame, domain_frame, body_frame, part_frame, let_frame, Context, in_formula, in_global, in_parameter, in_predicate, in_default, in_goal, Configuration, outside, wanted, holding, variable_wanted, part_wanted, pair_wanted, global_wanted, parameter_wanted, summand_wanted, Move, took, misplaced, too_deep, starter, unopened, enter_list, need, in_part, frame_depth, enter, begin_name, begin_empty, begin_literal, begin_pconst, begin_import, begin_restrict, begin_export, begin, with_room}
use Rattle.ms_parse_steps.proofs.Frames.{VariablesSoFar, PartsSoFar, FrameReads, FrameGood, InFrames, Held, chosen}
use Rattle.ms_parse_steps.proofs.Extensions.{ParametersSoFar, ParameterKind}
use Rattle.ms_parse_steps.proofs.Limits.{AreDomainsWithin, AreDeclarationsWithin}

-- the header and the declarations so far
abbrev pub SoFar : ℕ → Document → List Placed → List Placed → Type 0
SoFar limit d all ts = (f : List Placed) × ReadsHeader true d.header all f × ReadsDeclarations true d.declarations f ts × AreDeclarationsWithin limit d.declarations

abbrev pub InContext : ℕ → Context → List Placed → List Placed → Type 0
InContext limit (in_formula d at) all ts = SoFar limit d all ts × BeginsAt true at ts
InContext limit (in_global d at o vs at_v n) all ts =
    (f g h i : List Placed) × SoFar limit d all f × Starts true (kind o) at f g × VariablesSoFar vs g h × Starts true (name n) at_v h i × Follows word_where i ts × AreOfOrder o vs × AreDomainsWithin limit vs
InContext limit (in_parameter d head vs o at_v n) all ts =
    (f g h i j k l : List Placed) × SoFar limit d all f × Starts true (predicate_word head.is_pred) head.at f g × Starts true (name head.name) head.at_name g h × Follows open_round h i
    × ParametersSoFar vs i j × ParameterKind vs o j k × Starts true (name n) at_v k l × Follows word_where l ts × AreDomainsWithin limit vs
InContext limit (in_predicate d head vs) all ts =
    (f g h i : List Placed) × SoFar limit d all f × Starts true (predicate_word head.is_pred) head.at f g × Starts true (name head.name) head.at_name g h × ReadsParameterList true vs h i
    × Follows (infix_operator (Relation Equal)) i ts × AreDomainsWithin limit vs
InContext limit (in_default d at o n) all ts =
    (f g h i j : List Placed) × SoFar limit d all f × Starts true (default_word o) at f g × Follows open_round g h × Follows (name n) h i × Follows close_round i j
    × Follows (infix_operator (Relation Equal)) j ts
InContext limit (in_goal d at at_title title) all ts =
    (f g : List Placed) × SoFar limit d all f × Starts true (name (codes "goal")) at f g × Starts true (text title) at_title g ts

abbrev pub Good : ℕ → Configuration → List Placed → List Placed → Type 0
Good limit (outside d) all ts = SoFar limit d all ts
Good limit (wanted c st) all ts = (from : List Placed) × InContext limit c all from × InFrames limit st from ts × (suc (length st) ≤ limit)
Good limit (holding c e st) all ts = (from : List Placed) × InContext limit c all from × Held limit e st from ts × (ends_open e ≡ false)
Good limit (variable_wanted c st at q o vs) all ts =
    (from f g : List Placed) × InContext limit c all from × InFrames limit st from f × Starts true (quantifier q o) at f g × VariablesSoFar vs g ts
    × (need st ≤ 4) × AreOfOrder o vs × HaveGrammaticalDomains vs × (in_part st ≡ true → domain_bare_in vs ≡ false)
    × (suc (length st) + max 1 (depth_of_domains vs) ≤ limit)
Good limit (part_wanted c st at o parts) all ts =
    (from f g : List Placed) × InContext limit c all from × InFrames limit st from f × Starts true (let_word o) at f g × PartsSoFar parts g ts
    × (need st ≤ 4) × HaveGrammaticalValues parts × (suc (length st) + max 1 (depth_of_values parts) ≤ limit)
Good limit (pair_wanted c st at file pairs) all ts =
    (from f g h i : List Placed) × InContext limit c all from × InFrames limit st from f × Starts true word_import at f g × Follows open_round g h × Follows (text file) h i
    × ReadsPairs true pairs i ts × (suc (length st) ≤ limit)
Good limit (global_wanted d at o vs) all ts =
    (f g : List Placed) × SoFar limit d all f × Starts true (kind o) at f g × VariablesSoFar vs g ts × AreOfOrder o vs × AreDomainsWithin limit vs
Good limit (parameter_wanted d head vs) all ts =
    (f g h i : List Placed) × SoFar limit d all f × Starts true (predicate_word head.is_pred) head.at f g × Starts true (name head.name) head.at_name g h × Follows open_round h i
    × ParametersSoFar vs i ts × AreDomainsWithin limit vs
Good limit (summand_wanted d at at_n n sum) all ts =
    (f g h i : List Placed) × SoFar limit d all f × Starts true word_const at f g × Starts true (name n) at_n g h × Follows (infix_operator (Relation Equal)) h i
    × ReadsSum true sum i ts

abbrev pub GoodNext : ℕ → List Placed → Move → Type 0
GoodNext limit all (took s ts) = Good limit s all ts
GoodNext limit all (misplaced from) = Unit {0}
GoodNext limit all (too_deep from) = Unit {0}

pub need_small : (st : List Frame) → need st ≤ 11
need_small [] = omega arith
need_small (prefix_frame at Negation ∷ st) = omega arith
need_small (prefix_frame at Minimum ∷ st) = omega arith
need_small (prefix_frame at Maximum ∷ st) = omega arith
need_small (left_frame Equivalence l ∷ st) = omega arith
need_small (left_frame Implication l ∷ st) = omega arith
need_small (left_frame (Relation r) l ∷ st) = omega arith
need_small (left_frame Union l ∷ st) = omega arith
need_small (left_frame Intersection l ∷ st) = omega arith
need_small (left_frame Difference l ∷ st) = omega arith
need_small (joined_frame at Conjunction es ∷ st) = omega arith
need_small (joined_frame at Disjunction es ∷ st) = omega arith
need_small (bracket_frame at b ∷ st) = omega arith
need_small (list_frame at l es ∷ st) = omega arith
need_small (domain_frame at q o vs at_v n ∷ st) = omega arith
need_small (body_frame at q o vs ∷ st) = omega arith
need_small (part_frame at o parts at_n n ∷ st) = omega arith
need_small (let_frame at o parts ∷ st) = omega arith

wanted_good : (limit : ℕ) (all : List Placed) (c : Context) (f : Frame) (st : List Frame) (from m ts : List Placed) → InContext limit c all from → InFrames limit st from m → FrameReads f m ts → FrameGood st f
    → suc (length st) + max 1 (frame_depth f) ≤ limit → Good limit (wanted c (f ∷ st)) all ts
wanted_good limit all c f st from m ts context frames reads good room = (from, context, (m, frames, reads, good, omega arith), omega arith)

pub enter_good : (limit : ℕ) (all here : List Placed) (c : Context) (f : Frame) (st : List Frame) (from m ts : List Placed) → InContext limit c all from → InFrames limit st from m → FrameReads f m ts → FrameGood st f
    → GoodNext limit all (enter limit c f st (too_deep here) ts)
enter_good limit all here c f st from m ts context frames reads good =
    chosen (GoodNext limit all) (leb (suc (length st) + max 1 (frame_depth f)) limit) (took (wanted c (f ∷ st)) ts) (too_deep here)
    (λ is. wanted_good limit all c f st from m ts context frames reads good (leb-true (suc (length st) + max 1 (frame_depth f)) limit is))
    (λ is_not. tt)

unopened_good : (limit : ℕ) (all ts : List Placed) → GoodNext limit all (unopened ts)
unopened_good limit all [] = tt
unopened_good limit all (placed s a ∷ ts) = chosen (GoodNext limit all) (starter s) (too_deep (placed s a ∷ ts)) (misplaced (placed s a ∷ ts)) (λ is. tt) (λ is_not. tt)

list_good : (limit : ℕ) (all : List Placed) (c : Context) (at : At) (l : Listing) (st : List Frame) (from m ts : List Placed) → InContext limit c all from → InFrames limit st from m
    → FrameReads (list_frame at l no_expressions) m ts → GoodNext limit all (enter_list limit c at l st ts)
list_good limit all c at l st from m ts context frames reads =
    let f = list_frame at l no_expressions in
    chosen (GoodNext limit all) (leb (suc (length st) + max 1 (frame_depth f)) limit) (took (wanted c (f ∷ st)) ts) (unopened ts)
    (λ is. wanted_good limit all c f st from m ts context frames reads tt (leb-true (suc (length st) + max 1 (frame_depth f)) limit is))
    (λ is_not. unopened_good limit all ts)

-- an expression without parts
atom_good : (limit : ℕ) (all : List Placed) (c : Context) (st : List Frame) (at : At) (a : Atom) (from m ts : List Placed) → InContext limit c all from → InFrames limit st from m → suc (length st) ≤ limit
    → ReadsAtom true a at m ts → Good limit (holding c (atom at a) st) all ts
atom_good limit all c st at a from m ts context frames room reads =
    (from, context, record { middle = m; frames = frames; reads = reads; grammatical = tt; needs = need_small st; deep = omega arith; quiet = λ p. refl }, refl)

empty_list_good : (limit : ℕ) (all : List Placed) (c : Context) (st : List Frame) (at : At) (l : Listing) (from m f ts : List Placed) → InContext limit c all from → InFrames limit st from m → suc (length st) ≤ limit
    → ReadsListOpening true l at m f → Follows (closing l) f ts → Good limit (holding c (listed at l no_expressions) st) all ts
empty_list_good limit all c st at l from m f ts context frames room opens closes =
    (from, context, record { middle = m; frames = frames; reads = (f, f, opens, refl, closes); grammatical = tt; needs = need_small st; deep = omega arith; quiet = λ p. refl }, refl)

begin_name_good : (limit : ℕ) (all : List Placed) (c : Context) (st : List Frame) (at : At) (n : List ℕ) (from ts : List Placed) → InContext limit c all from → InFrames limit st from (placed (name n) at ∷ ts) → suc (length st) ≤ limit
    → GoodNext limit all (begin_name limit c st at n ts)
begin_name_good limit all c st at n from (placed open_round a1 ∷ placed close_round a2 ∷ ts) context frames room =
    empty_list_good limit all c st at (Call n) from (placed (name n) at ∷ placed open_round a1 ∷ placed close_round a2 ∷ ts) (placed close_round a2 ∷ ts) ts context frames room
    (placed open_round a1 ∷ placed close_round a2 ∷ ts, (at, refl, refl), (a1, refl)) (a2, refl)
begin_name_good limit all c st at n from (placed open_round a1 ∷ ts) context frames room =
    list_good limit all c at (Call n) st from (placed (name n) at ∷ placed open_round a1 ∷ ts) ts context frames (ts, (placed open_round a1 ∷ ts, (at, refl, refl), (a1, refl)), refl)
begin_name_good limit all c st at n from ts context frames room =
    atom_good limit all c st at (named n) from (placed (name n) at ∷ ts) ts context frames room (at, refl, refl)

begin_empty_good : (limit : ℕ) (all : List Placed) (c : Context) (st : List Frame) (at : At) (from ts : List Placed) → InContext limit c all from → InFrames limit st from (placed word_empty at ∷ ts) → suc (length st) ≤ limit
    → GoodNext limit all (begin_empty limit c st at ts)
begin_empty_good limit all c st at from (placed open_round a1 ∷ ts) context frames room =
    enter_good limit all _ c (bracket_frame at Emptiness) st from (placed word_empty at ∷ placed open_round a1 ∷ ts) ts context frames (placed open_round a1 ∷ ts, (at, refl, refl), (a1, refl)) tt
begin_empty_good limit all c st at from ts context frames room =
    atom_good limit all c st at empty_set from (placed word_empty at ∷ ts) ts context frames room (at, refl, refl)

begin_literal_good : (limit : ℕ) (all : List Placed) (c : Context) (st : List Frame) (at : At) (from ts : List Placed) → InContext limit c all from → InFrames limit st from (placed open_curly at ∷ ts) → suc (length st) ≤ limit
    → GoodNext limit all (begin_literal limit c st at ts)
begin_literal_good limit all c st at from (placed close_curly a1 ∷ ts) context frames room =
    empty_list_good limit all c st at Literal from (placed open_curly at ∷ placed close_curly a1 ∷ ts) (placed close_curly a1 ∷ ts) ts context frames room (at, refl, refl) (a1, refl)
begin_literal_good limit all c st at from ts context frames room =
    list_good limit all c at Literal st from (placed open_curly at ∷ ts) ts context frames (ts, (at, refl, refl), refl)

begin_pconst_good : (limit : ℕ) (all : List Placed) (c : Context) (st : List Frame) (at : At) (from ts : List Placed) → InContext limit c all from → InFrames limit st from (placed word_pconst at ∷ ts) → suc (length st) ≤ limit
    → GoodNext limit all (begin_pconst c st at ts)
begin_pconst_good limit all c st at from (placed open_round a1 ∷ placed (number n) a2 ∷ placed close_round a3 ∷ ts) context frames room =
    atom_good limit all c st at (pconst (record { at = a2; value = Number n; minus = false })) from (placed word_pconst at ∷ placed open_round a1 ∷ placed (number n) a2 ∷ placed close_round a3 ∷ ts) ts context frames room
    (placed open_round a1 ∷ placed (number n) a2 ∷ placed close_round a3 ∷ ts, placed (number n) a2 ∷ placed close_round a3 ∷ ts, placed close_round a3 ∷ ts, refl, (at, refl, refl), (a1, refl), (a2, refl, refl), (a3, refl))
begin_pconst_good limit all c st at from (placed open_round a1 ∷ placed (name n) a2 ∷ placed close_round a3 ∷ ts) context frames room =
    atom_good limit all c st at (pconst (record { at = a2; value = Constant n; minus = false })) from (placed word_pconst at ∷ placed open_round a1 ∷ placed (name n) a2 ∷ placed close_round a3 ∷ ts) ts context frames room
    (placed open_round a1 ∷ placed (name n) a2 ∷ placed close_round a3 ∷ ts, placed (name n) a2 ∷ placed close_round a3 ∷ ts, placed close_round a3 ∷ ts, refl, (at, refl, refl), (a1, refl), (a2, refl, refl), (a3, refl))
begin_pconst_good limit all c st at from _ context frames room = tt

begin_import_good : (limit : ℕ) (all : List Placed) (c : Context) (st : List Frame) (at : At) (from ts : List Placed) → InContext limit c all from → InFrames limit st from (placed word_import at ∷ ts) → suc (length st) ≤ limit
    → GoodNext limit all (begin_import c st at ts)
begin_import_good limit all c st at from (placed open_round a1 ∷ placed (text file) a2 ∷ ts) context frames room = (
  from,
  placed word_import at ∷ placed open_round a1 ∷ placed (text file) a2 ∷ ts,
  placed open_round a1 ∷ placed (text file) a2 ∷ ts,
  placed (text file) a2 ∷ ts,
  ts,
  context,
  frames,
  (at, refl, refl),
  (a1, refl),
  (a2, refl),
  refl,
  room,
)
begin_import_good limit all c st at from _ context frames room = tt

begin_restrict_good : (limit : ℕ) (all : List Placed) (c : Context) (st : List Frame) (at : At) (from ts : List Placed) → InContext limit c all from → InFrames limit st from (placed word_restrict at ∷ ts) → suc (suc (length st)) ≤ limit
    → GoodNext limit all (begin_restrict c st at ts)
begin_restrict_good limit all c st at from (placed open_round a1 ∷ ts) context frames room =
    wanted_good limit all c (bracket_frame at Restriction) st from (placed word_restrict at ∷ placed open_round a1 ∷ ts) ts context frames (placed open_round a1 ∷ ts, (at, refl, refl), (a1, refl)) tt (omega arith)
begin_restrict_good limit all c st at from _ context frames room = tt

begin_export_good : (limit : ℕ) (all : List Placed) (c : Context) (st : List Frame) (at : At) (from ts : List Placed) → InContext limit c all from → InFrames limit st from (placed word_export at ∷ ts) → suc (suc (length st)) ≤ limit
    → GoodNext limit all (begin_export c st at ts)
begin_export_good limit all c st at from (placed open_round a1 ∷ placed (text file) a2 ∷ placed comma a3 ∷ ts) context frames room =
    wanted_good limit all c (bracket_frame at (Export a2 file)) st from (placed word_export at ∷ placed open_round a1 ∷ placed (text file) a2 ∷ placed comma a3 ∷ ts) ts context frames
    (placed open_round a1 ∷ placed (text file) a2 ∷ placed comma a3 ∷ ts, placed (text file) a2 ∷ placed comma a3 ∷ ts, placed comma a3 ∷ ts, (at, refl, refl), (a1, refl), (a2, refl, refl), (a3, refl)) tt (omega arith)
begin_export_good limit all c st at from _ context frames room = tt

pub begin_good : (limit : ℕ) (all here : List Placed) (c : Context) (st : List Frame) (at : At) (s : Symbol) (from ts : List Placed) → InContext limit c all from → InFrames limit st from (placed s at ∷ ts) → suc (length st) ≤ limit
    → GoodNext limit all (begin limit c st at s here ts)
begin_good limit all here c st at word_true from ts context frames room = atom_good limit all c st at truth from (placed word_true at ∷ ts) ts context frames room (at, refl, refl)
begin_good limit all here c st at word_false from ts context frames room = atom_good limit all c st at falsity from (placed word_false at ∷ ts) ts context frames room (at, refl, refl)
begin_good limit all here c st at dollar from ts context frames room = atom_good limit all c st at whole from (placed dollar at ∷ ts) ts context frames room (at, refl, refl)
begin_good limit all here c st at (number n) from ts context frames room = atom_good limit all c st at (numeral n) from (placed (number n) at ∷ ts) ts context frames room (at, refl, refl)
begin_good limit all here c st at (name n) from ts context frames room = begin_name_good limit all c st at n from ts context frames room
begin_good limit all here c st at word_empty from ts context frames room = begin_empty_good limit all c st at from ts context frames room
begin_good limit all here c st at word_pconst from ts context frames room = begin_pconst_good limit all c st at from ts context frames room
begin_good limit all here c st at word_import from ts context frames room = begin_import_good limit all c st at from ts context frames room
begin_good limit all here c st at word_restrict from ts context frames room = chosen (GoodNext limit all) (leb (suc (suc (length st))) limit) (begin_restrict c st at ts) (too_deep here) (λ is. begin_restrict_good limit all c st at from ts context frames (leb-true (suc (suc (length st))) limit is)) (λ is_not. tt)
begin_good limit all here c st at word_export from ts context frames room = chosen (GoodNext limit all) (leb (suc (suc (length st))) limit) (begin_export c st at ts) (too_deep here) (λ is. begin_export_good limit all c st at from ts context frames (leb-true (suc (suc (length st))) limit is)) (λ is_not. tt)
begin_good limit all here c st at open_round from ts context frames room =
    enter_good limit all _ c (bracket_frame at Parentheses) st from (placed open_round at ∷ ts) ts context frames (at, refl, refl) tt
begin_good limit all here c st at open_curly from ts context frames room = begin_literal_good limit all c st at from ts context frames room
begin_good limit all here c st at (prefix_operator op) from ts context frames room =
    chosen (GoodNext limit all) (leb (need st) (prefix_level op)) (enter limit c (prefix_frame at op) st (too_deep here) ts) (misplaced here)
    (λ is. enter_good limit all _ c (prefix_frame at op) st from (placed (prefix_operator op) at ∷ ts) ts context frames (at, refl, refl) (leb-true (need st) (prefix_level op) is))
    (λ is_not. tt)
begin_good limit all here c st at (quantifier q o) from ts context frames room =
    chosen (GoodNext limit all) (leb (need st) 4) (with_room limit st here (took (variable_wanted c st at q o no_variables) ts)) (misplaced here)
    (λ is. chosen (GoodNext limit all) (leb (suc (suc (length st))) limit) (took (variable_wanted c st at q o no_variables) ts) (too_deep here)
    (λ fits. let wide = leb-true (suc (suc (length st))) limit fits in (from, placed (quantifier q o) at ∷ ts, ts, context, frames, (at, refl, refl), refl, leb-true (need st) 4 is, tt, tt, λ p. refl, omega (arith, wide)))
    (λ full. tt))
    (λ is_not. tt)
begin_good limit all here c st at (let_word o) from ts context frames room =
    chosen (GoodNext limit all) (leb (need st) 4) (with_room limit st here (took (part_wanted c st at o no_parts) ts)) (misplaced here)
    (λ is. chosen (GoodNext limit all) (leb (suc (suc (length st))) limit) (took (part_wanted c st at o no_parts) ts) (too_deep here)
    (λ fits. let wide = leb-true (suc (suc (length st))) limit fits in (from, placed (let_word o) at ∷ ts, ts, context, frames, (at, refl, refl), refl, leb-true (need st) 4 is, tt, omega (arith, wide)))
    (λ full. tt))
    (λ is_not. tt)
begin_good limit all here c st at _ from ts context frames room = tt
