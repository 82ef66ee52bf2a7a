-- The automaton reads each document that the grammar reads.
use Rattle.std.proofs.Common.{◌≡◌, ℕ, zero, suc, Bool, true, false, ⊎_elim, List, [], ◌∷◌, ◌++◌, codes, Some, refl, sym, ap, ◌∙◌, subst, arith, append_assoc}
use Rattle.std.proofs.lemmas.Bool.{false≢true}
use Rattle.std.proofs.lemmas.List.{append-nil}
use Rattle.ms_list.specs.declared.at.At.{At}
use Rattle.ms_logic.specs.declared.mode.Order.{Order}
use Rattle.ms_logic.specs.declared.mode.Rel.TheVariants.{Equal}
use Rattle.ms_logic.specs.declared.source.Int.{Int}
use Rattle.ms_logic.specs.declared.source.Int.TheVariants.{Number, Constant}
use Rattle.ms_logic.specs.declared.source.PlacedInt.{PlacedInt}
use Rattle.ms_parse_grammar.specs.Symbol.{Symbol, name, text, infix_operator, sign, kind, predicate_word, default_word, word_where, word_const, word_include, open_round, close_round, comma, semicolon, Placed, placed}
use Rattle.ms_parse_grammar.specs.declared.operator.Binary.TheVariants.{Relation}
use Rattle.ms_parse_grammar.specs.Tree.{Expression, Variables, no_variables, and_variable, Domain, unrestricted, restricted}
use Rattle.ms_parse_grammar.specs.Tree.{Declaration, variables, constant, predicate, included, default_restriction, formula, goal, Declared, Document}
use Rattle.ms_parse_grammar.specs.Grammar.{AreOfOrder}
use Rattle.ms_parse_grammar.specs.Reads.{int_symbol, Starts, Follows, ReadsExpression, ReadsDomain, ReadsVariables}
use Rattle.ms_parse_grammar.specs.Declarations.{ReadsParameters, ReadsParameterList, ReadsFurther, ReadsDeclaration, BeginsAt, ReadsDeclarations}
use Rattle.ms_parse_steps.specs.inner.Machine.{Head, head_with, Context, in_formula, in_global, in_parameter, in_predicate, in_default, in_goal, outside, wanted, holding, global_wanted, parameter_wanted, summand_wanted, Move, took, starter, declare, body_of, behind_parameter, step, finished, goes_on, run, Runs}
use Rattle.ms_parse_steps.proofs.Levels.{yields-zero}
use Rattle.ms_parse_steps.proofs.Moves.{begins}
use Rattle.ms_parse_steps.proofs.Steps.{by_step, Leads, by_lead, at_start}
use Rattle.ms_parse_steps.proofs.Completeness.{expression_read}
use Rattle.ms_parse_steps.proofs.Limits.{IsWithin, AreDomainsWithin, IsDeclarationWithin, AreDeclarationsWithin}

-- what may stand behind a whole expression of a declaration
abbrev pub ends_whole : Symbol → Bool
ends_whole semicolon = true
ends_whole comma = true
ends_whole close_round = true
ends_whole _ = false

whole_read : (limit : ℕ) (e : Expression) (c : Context) (from ts : List Placed) (s : Symbol) (x : At) (d : Document) → IsWithin limit e → ends_whole s ≡ true
    → ReadsExpression true e from (placed s x ∷ ts) → Runs limit (holding c e []) (placed s x ∷ ts) d → Runs limit (wanted c []) from d
whole_read limit e c from ts semicolon x d is ends reads runs = expression_read limit e c [] from ts semicolon x d is.grammatical (omega arith) (omega (arith, is.shallow)) (λ p. absurd (false≢true p)) refl (yields-zero e) reads runs
whole_read limit e c from ts comma x d is ends reads runs = expression_read limit e c [] from ts comma x d is.grammatical (omega arith) (omega (arith, is.shallow)) (λ p. absurd (false≢true p)) refl (yields-zero e) reads runs
whole_read limit e c from ts close_round x d is ends reads runs = expression_read limit e c [] from ts close_round x d is.grammatical (omega arith) (omega (arith, is.shallow)) (λ p. absurd (false≢true p)) refl (yields-zero e) reads runs
whole_read limit e c from ts _ x d is ends reads runs = absurd (false≢true ends)

abbrev pub GoodRestriction : ℕ → Domain → Type 0
GoodRestriction limit unrestricted = Unit {0}
GoodRestriction limit (restricted e) = IsWithin limit e

restriction_good : (limit : ℕ) (b : Variables) (at : At) (o : Order) (n : List ℕ) (x : Domain) → AreDomainsWithin limit (and_variable b at o n x) → AreDomainsWithin limit b × GoodRestriction limit x
restriction_good limit b at o n unrestricted good = (good, tt)
restriction_good limit b at o n (restricted e) good = good

-- variables of a declaration

abbrev pub global_separator : Bool → Symbol
global_separator true = comma
global_separator false = semicolon

abbrev pub ended_global : Document → At → Order → Variables → Bool → List Placed → Move
ended_global d at o vs true ts = took (global_wanted d at o vs) ts
ended_global d at o vs false ts = took (outside (declare d at (variables vs))) ts

global_whole : (m : Bool) → ends_whole (global_separator m) ≡ true
global_whole true = refl
global_whole false = refl

global_unrestricted : (limit : ℕ) (d : Document) (at : At) (o : Order) (b : Variables) (at_v : At) (n : List ℕ) (m : Bool) (a : At) (ts : List Placed)
    → step limit (global_wanted d at o b) (placed (name n) at_v ∷ placed (global_separator m) a ∷ ts) ≡ ended_global d at o (and_variable b at_v o n unrestricted) m ts
global_unrestricted limit d at o b at_v n true a ts = refl
global_unrestricted limit d at o b at_v n false a ts = refl

global_restricted : (limit : ℕ) (d : Document) (at : At) (o : Order) (b : Variables) (at_v : At) (n : List ℕ) (e : Expression) (m : Bool) (a : At) (ts : List Placed)
    → step limit (holding (in_global d at o b at_v n) e []) (placed (global_separator m) a ∷ ts) ≡ ended_global d at o (and_variable b at_v o n (restricted e)) m ts
global_restricted limit d at o b at_v n e true a ts = refl
global_restricted limit d at o b at_v n e false a ts = refl

global_read : (limit : ℕ) (x : Domain) (d : Document) (at : At) (o : Order) (b : Variables) (at_v : At) (n : List ℕ) (m : Bool) (from f1 ts : List Placed) (a : At) (dd : Document)
    → GoodRestriction limit x → Starts true (name n) at_v from f1 → ReadsDomain true x f1 (placed (global_separator m) a ∷ ts)
    → Leads limit (ended_global d at o (and_variable b at_v o n x) m ts) dd → Runs limit (global_wanted d at o b) from dd
global_read limit unrestricted d at o b at_v n m from f1 ts a dd good starts reads leads =
    by_lead limit (global_wanted d at o b) from (placed (name n) at_v ∷ placed (global_separator m) a ∷ ts) (ended_global d at o (and_variable b at_v o n unrestricted) m ts) dd
    (at_start (name n) at_v from f1 starts ∙ ap (λ f. placed (name n) at_v ∷ f) reads) (global_unrestricted limit d at o b at_v n m a ts) leads
global_read limit (restricted e) d at o b at_v n m from f1 ts a dd good starts (f2, follow, read_e) leads =
    by_step limit (global_wanted d at o b) from (placed (name n) at_v ∷ placed word_where follow.0 ∷ f2) (wanted (in_global d at o b at_v n) []) f2 dd
    (at_start (name n) at_v from f1 starts ∙ ap (λ f. placed (name n) at_v ∷ f) follow.1) refl
    (whole_read limit e (in_global d at o b at_v n) f2 ts (global_separator m) a dd good (global_whole m) read_e
    (by_lead limit (holding (in_global d at o b at_v n) e []) (placed (global_separator m) a ∷ ts) (placed (global_separator m) a ∷ ts)
    (ended_global d at o (and_variable b at_v o n (restricted e)) m ts) dd refl (global_restricted limit d at o b at_v n e m a ts) leads))

globals_read : (limit : ℕ) (vs : Variables) (d : Document) (at : At) (o : Order) (m : Bool) (from ts : List Placed) (a : At) (dd : Document)
    → AreOfOrder o vs → AreDomainsWithin limit vs → ReadsVariables true vs from (placed (global_separator m) a ∷ ts)
    → Leads limit (ended_global d at o vs m ts) dd → Runs limit (global_wanted d at o no_variables) from dd
globals_read limit no_variables d at o m from ts a dd ordered good reads leads = absurd reads
globals_read limit (and_variable no_variables at_v p n x) d at o m from ts a dd ordered good (f1, starts, read_x) leads =
    global_read limit x d at o no_variables at_v n m from f1 ts a dd (restriction_good limit no_variables at_v p n x good).1 starts read_x
    (subst (λ y. Leads limit (ended_global d at o (and_variable no_variables at_v y n x) m ts) dd) ordered.1 leads)
globals_read limit (and_variable (and_variable b at1 p1 n1 x1) at_v p n x) d at o m from ts a dd ordered good (f1, f2, f3, read_b, follow, starts, read_x) leads =
    globals_read limit (and_variable b at1 p1 n1 x1) d at o true from f2 follow.0 dd ordered.0 (restriction_good limit (and_variable b at1 p1 n1 x1) at_v p n x good).0
    (subst (λ f. ReadsVariables true (and_variable b at1 p1 n1 x1) from f) follow.1 read_b)
    (global_read limit x d at o (and_variable b at1 p1 n1 x1) at_v n m f2 f3 ts a dd (restriction_good limit (and_variable b at1 p1 n1 x1) at_v p n x good).1 starts read_x
    (subst (λ y. Leads limit (ended_global d at o (and_variable (and_variable b at1 p1 n1 x1) at_v y n x) m ts) dd) ordered.1 leads))

-- parameters

abbrev pub parameter_separator : Bool → Symbol
parameter_separator true = comma
parameter_separator false = close_round

abbrev pub ended_parameter : Document → Head → Variables → Bool → List Placed → Move
ended_parameter d head vs true ts = took (parameter_wanted d head vs) ts
ended_parameter d head vs false ts = body_of d head vs ts

parameter_whole : (m : Bool) → ends_whole (parameter_separator m) ≡ true
parameter_whole true = refl
parameter_whole false = refl

parameter_restricted : (limit : ℕ) (d : Document) (head : Head) (b : Variables) (o : Order) (at_v : At) (n : List ℕ) (e : Expression) (m : Bool) (a : At) (ts : List Placed)
    → step limit (holding (in_parameter d head b o at_v n) e []) (placed (parameter_separator m) a ∷ ts) ≡ ended_parameter d head (and_variable b at_v o n (restricted e)) m ts
parameter_restricted limit d head b o at_v n e true a ts = refl
parameter_restricted limit d head b o at_v n e false a ts = refl

parameter_unrestricted : (d : Document) (head : Head) (b : Variables) (o : Order) (at_v : At) (n : List ℕ) (m : Bool) (from ts : List Placed)
    → behind_parameter d head b o at_v n (parameter_separator m) from ts ≡ ended_parameter d head (and_variable b at_v o n unrestricted) m ts
parameter_unrestricted d head b o at_v n true from ts = refl
parameter_unrestricted d head b o at_v n false from ts = refl

-- a parameter from its name on, with its kind in front or nothing
parameter_rest : (limit : ℕ) (x : Domain) (d : Document) (head : Head) (b : Variables) (o : Order) (at_v : At) (n : List ℕ) (m : Bool) (from f0 f1 ts : List Placed) (a : At) (dd : Document) (front : List Placed → List Placed)
    → GoodRestriction limit x → from ≡ front f0 → ((s : Symbol) (y : At) (rest : List Placed) → step limit (parameter_wanted d head b) (front (placed (name n) at_v ∷ placed s y ∷ rest)) ≡ behind_parameter d head b o at_v n s (placed s y ∷ rest) rest)
    → Starts true (name n) at_v f0 f1 → ReadsDomain true x f1 (placed (parameter_separator m) a ∷ ts)
    → Leads limit (ended_parameter d head (and_variable b at_v o n x) m ts) dd → Runs limit (parameter_wanted d head b) from dd
parameter_rest limit unrestricted d head b o at_v n m from f0 f1 ts a dd front good here stepped starts reads leads =
    by_lead limit (parameter_wanted d head b) from (front (placed (name n) at_v ∷ placed (parameter_separator m) a ∷ ts)) (ended_parameter d head (and_variable b at_v o n unrestricted) m ts) dd
    (here ∙ ap front (at_start (name n) at_v f0 f1 starts ∙ ap (λ f. placed (name n) at_v ∷ f) reads))
    (stepped (parameter_separator m) a ts ∙ parameter_unrestricted d head b o at_v n m (placed (parameter_separator m) a ∷ ts) ts) leads
parameter_rest limit (restricted e) d head b o at_v n m from f0 f1 ts a dd front good here stepped starts (f2, follow, read_e) leads =
    by_step limit (parameter_wanted d head b) from (front (placed (name n) at_v ∷ placed word_where follow.0 ∷ f2)) (wanted (in_parameter d head b o at_v n) []) f2 dd
    (here ∙ ap front (at_start (name n) at_v f0 f1 starts ∙ ap (λ f. placed (name n) at_v ∷ f) follow.1)) (stepped word_where follow.0 f2)
    (whole_read limit e (in_parameter d head b o at_v n) f2 ts (parameter_separator m) a dd good (parameter_whole m) read_e
    (by_lead limit (holding (in_parameter d head b o at_v n) e []) (placed (parameter_separator m) a ∷ ts) (placed (parameter_separator m) a ∷ ts)
    (ended_parameter d head (and_variable b at_v o n (restricted e)) m ts) dd refl (parameter_restricted limit d head b o at_v n e m a ts) leads))

parameters_read : (limit : ℕ) (vs : Variables) (d : Document) (head : Head) (m : Bool) (from ts : List Placed) (a : At) (dd : Document)
    → AreDomainsWithin limit vs → ReadsParameters true vs from (placed (parameter_separator m) a ∷ ts)
    → Leads limit (ended_parameter d head vs m ts) dd → Runs limit (parameter_wanted d head no_variables) from dd
parameters_read limit no_variables d head m from ts a dd good reads leads = absurd reads
parameters_read limit (and_variable no_variables at_v o n x) d head m from ts a dd good (f1, f2, kinds, starts, read_x) leads =
    parameter_rest limit x d head no_variables o at_v n m from f1 f2 ts a dd (λ f. placed (kind o) kinds.0 ∷ f) (restriction_good limit no_variables at_v o n x good).1
    kinds.1 (λ s y rest. refl) starts read_x leads
parameters_read limit (and_variable (and_variable b at1 o1 n1 x1) at_v o n x) d head m from ts a dd good (f1, f2, f3, f4, read_b, follow, kinds, starts, read_x) leads =
    parameters_read limit (and_variable b at1 o1 n1 x1) d head true from f2 follow.0 dd (restriction_good limit (and_variable b at1 o1 n1 x1) at_v o n x good).0
    (subst (λ f. ReadsParameters true (and_variable b at1 o1 n1 x1) from f) follow.1 read_b)
    (⊎_elim
    (λ (k : Follows (kind o) f2 f3). parameter_rest limit x d head (and_variable b at1 o1 n1 x1) o at_v n m f2 f3 f4 ts a dd (λ f. placed (kind o) k.0 ∷ f)
    (restriction_good limit (and_variable b at1 o1 n1 x1) at_v o n x good).1 k.1 (λ s y rest. refl) starts read_x leads)
    (λ (k : (o ≡ o1) × (f2 ≡ f3)). parameter_rest limit x d head (and_variable b at1 o1 n1 x1) o1 at_v n m f2 f3 f4 ts a dd (λ f. f)
    (restriction_good limit (and_variable b at1 o1 n1 x1) at_v o n x good).1 k.1 (λ s y rest. refl) starts read_x
    (subst (λ y. Leads limit (ended_parameter d head (and_variable (and_variable b at1 o1 n1 x1) at_v y n x) m ts) dd) k.0 leads))
    kinds)

-- sums

abbrev pub further_front : PlacedInt → At → List Placed → List Placed
further_front n x f = placed (sign n.minus) x ∷ placed (int_symbol n.value) n.at ∷ f

summand_step : (limit : ℕ) (d : Document) (at at_n : At) (n : List ℕ) (sum : List PlacedInt) (minus : Bool) (v : Int) (a x : At) (ts : List Placed)
    → step limit (summand_wanted d at at_n n sum) (placed (sign minus) x ∷ placed (int_symbol v) a ∷ ts)
    ≡ took (summand_wanted d at at_n n (sum ++ record { at = a; value = v; minus = minus } ∷ [])) ts
summand_step limit d at at_n n sum minus (Number k) a x ts = refl
summand_step limit d at at_n n sum minus (Constant k) a x ts = refl

further_read : (limit : ℕ) (ns before : List PlacedInt) (d : Document) (at at_n : At) (n : List ℕ) (from behind ts : List Placed) (x : At) (dd : Document)
    → ReadsFurther true ns from behind → behind ≡ placed semicolon x ∷ ts → Runs limit (outside (declare d at (constant at_n n (before ++ ns)))) ts dd → Runs limit (summand_wanted d at at_n n before) from dd
further_read limit [] before d at at_n n from behind ts x dd reads closes runs =
    by_step limit (summand_wanted d at at_n n before) from (placed semicolon x ∷ ts) (outside (declare d at (constant at_n n before))) ts dd (reads ∙ closes) refl
    (subst (λ sum. Runs limit (outside (declare d at (constant at_n n sum))) ts dd) (append-nil before) runs)
further_read limit (k ∷ ks) before d at at_n n from behind ts x dd (f1, f2, follow, int_is, further) closes runs =
    by_step limit (summand_wanted d at at_n n before) from (further_front k follow.0 f2) (summand_wanted d at at_n n (before ++ k ∷ [])) f2 dd
    (follow.1 ∙ ap (λ f. placed (sign k.minus) follow.0 ∷ f) (at_start (int_symbol k.value) k.at f1 f2 int_is))
    (summand_step limit d at at_n n before k.minus k.value k.at follow.0 f2)
    (further_read limit ks (before ++ k ∷ []) d at at_n n f2 behind ts x dd further closes
    (subst (λ sum. Runs limit (outside (declare d at (constant at_n n sum))) ts dd) (sym (append_assoc before (k ∷ []) ks)) runs))

constant_step : (limit : ℕ) (d : Document) (at at_n : At) (n : List ℕ) (v : Int) (a b x : At) (ts : List Placed)
    → step limit (outside d) (placed word_const at ∷ placed (name n) at_n ∷ placed (infix_operator (Relation Equal)) x ∷ placed (int_symbol v) a ∷ ts)
    ≡ took (summand_wanted d at at_n n (record { at = a; value = v; minus = false } ∷ [])) ts
constant_step limit d at at_n n (Number k) a b x ts = refl
constant_step limit d at at_n n (Constant k) a b x ts = refl

-- a formula

-- no text stands behind a first name
abbrev IsUntitled : Symbol → List Placed → Type 0
IsUntitled (name n) (placed (text t) b ∷ ts) = ⊥
IsUntitled s more = Unit {0}

-- where an expression is read, it begins with no name and text
untitled : (limit : ℕ) (c : Context) (s : Symbol) (a : At) (more : List Placed) (dd : Document) → Runs limit (wanted c []) (placed s a ∷ more) dd → IsUntitled s more
untitled limit c (name n) a (placed (text t) b ∷ ts) dd (zero, read) = let never : ⊥ = cc in never
untitled limit c (name n) a (placed (text t) b ∷ ts) dd (suc zero, read) = let never : ⊥ = cc in never
untitled limit c (name n) a (placed (text t) b ∷ ts) dd (suc (suc m), read) = let never : ⊥ = cc in never
untitled limit c (name n) a [] dd runs = tt
untitled limit c (name n) a (placed t b ∷ ts) dd runs = tt
untitled limit c s a more dd runs = tt

begun : (limit : ℕ) (d : Document) (s : Symbol) (a : At) (more : List Placed) → starter s ≡ true → IsUntitled s more
    → step limit (outside d) (placed s a ∷ more) ≡ step limit (wanted (in_formula d a) []) (placed s a ∷ more)
begun limit d (kind o) a more starts none = absurd (false≢true starts)
begun limit d word_const a more starts none = absurd (false≢true starts)
begun limit d (predicate_word is_pred) a more starts none = absurd (false≢true starts)
begun limit d word_include a more starts none = absurd (false≢true starts)
begun limit d (default_word o) a more starts none = absurd (false≢true starts)
begun limit d (name n) a (placed (text t) b ∷ ts) starts none = absurd none
begun limit d (name n) a [] starts none = refl
begun limit d (name n) a (placed t b ∷ ts) starts none = refl
begun limit d _ a more starts none = refl

formula_begun : (limit : ℕ) (d : Document) (s : Symbol) (a : At) (more : List Placed) (dd : Document) → starter s ≡ true → Runs limit (wanted (in_formula d a) []) (placed s a ∷ more) dd → Runs limit (outside d) (placed s a ∷ more) dd
formula_begun limit d s a more dd starts (zero, read) = let never : ⊥ = cc in absurd never
formula_begun limit d s a more dd starts (suc n, read) =
    (suc n, ap (goes_on (run limit n)) (begun limit d s a more starts (untitled limit (in_formula d a) s a more dd (suc n, read))) ∙ read)

begins_here : (at a : At) (s : Symbol) (from more : List Placed) → BeginsAt true at from → from ≡ placed s a ∷ more → at ≡ a
begins_here at a s from more begins_at here = subst (λ f. BeginsAt true at f) here begins_at

abbrev pub begins_parameter : Symbol → Bool
begins_parameter (kind o) = true
begins_parameter _ = false

-- the body of a predicate
body_read : (limit : ℕ) (is_pred : Bool) (at_p : At) (p : List ℕ) (vs : Variables) (body : Expression) (d : Document) (at a : At) (from f1 ts : List Placed) (x : At) (dd : Document) → IsWithin limit body → at ≡ a
    → ReadsExpression true body from f1 → f1 ≡ placed semicolon x ∷ ts → Runs limit (outside (declare d at (predicate is_pred at_p p vs body))) ts dd → Runs limit (wanted (in_predicate d (head_with a is_pred at_p p) vs) []) from dd
body_read limit is_pred at_p p vs body d at a from f1 ts x dd is same reads closes runs =
    whole_read limit body (in_predicate d (head_with a is_pred at_p p) vs) from ts semicolon x dd is refl (subst (λ f. ReadsExpression true body from f) closes reads)
    (by_step limit (holding (in_predicate d (head_with a is_pred at_p p) vs) body []) (placed semicolon x ∷ ts) (placed semicolon x ∷ ts) (outside (declare d a (predicate is_pred at_p p vs body))) ts dd refl refl
    (subst (λ y. Runs limit (outside (declare d y (predicate is_pred at_p p vs body))) ts dd) same runs))

-- `(` behind the name of a predicate, with parameters
opened : (limit : ℕ) (d : Document) (a : At) (is_pred : Bool) (at_p : At) (p : List ℕ) (x : At) (s : Symbol) (y : At) (more : List Placed) → begins_parameter s ≡ true
    → step limit (outside d) (placed (predicate_word is_pred) a ∷ placed (name p) at_p ∷ placed open_round x ∷ placed s y ∷ more) ≡ took (parameter_wanted d (head_with a is_pred at_p p) no_variables) (placed s y ∷ more)
opened limit d a is_pred at_p p x close_round y more first = absurd (false≢true first)
opened limit d a is_pred at_p p x _ y more first = refl

parameters_begin : (vs : Variables) (from behind : List Placed) → ReadsParameters true vs from behind → (s : Symbol) × (y : At) × (more : List Placed) × (from ≡ placed s y ∷ more) × (begins_parameter s ≡ true)
parameters_begin no_variables from behind reads = absurd reads
parameters_begin (and_variable no_variables at_v o n x) from behind (f1, f2, kinds, starts, read_x) = (kind o, kinds.0, f1, kinds.1, refl)
parameters_begin (and_variable (and_variable b at1 o1 n1 x1) at_v o n x) from behind (f1, f2, f3, f4, read_b, follow, kinds, starts, read_x) = parameters_begin (and_variable b at1 o1 n1 x1) from f1 read_b

predicate_read : (limit : ℕ) (vs : Variables) (is_pred : Bool) (at_p : At) (p : List ℕ) (body : Expression) (d : Document) (at a : At) (from g1 g2 g3 g4 f1 ts : List Placed) (e x : At) (dd : Document)
    → AreDomainsWithin limit vs × IsWithin limit body → at ≡ a → from ≡ placed (predicate_word is_pred) a ∷ g1 → g1 ≡ placed (name p) at_p ∷ g2 → ReadsParameterList true vs g2 g3
    → g3 ≡ placed (infix_operator (Relation Equal)) e ∷ g4 → ReadsExpression true body g4 f1 → f1 ≡ placed semicolon x ∷ ts
    → Runs limit (outside (declare d at (predicate is_pred at_p p vs body))) ts dd → Runs limit (outside d) from dd
predicate_read limit no_variables is_pred at_p p body d at a from g1 g2 g3 g4 f1 ts e x dd good same word_is name_is list equal read_body closes runs =
    let front : from ≡ placed (predicate_word is_pred) a ∷ placed (name p) at_p ∷ g2 = word_is ∙ ap (λ f. placed (predicate_word is_pred) a ∷ f) name_is in
    let then_body = body_read limit is_pred at_p p no_variables body d at a g4 f1 ts x dd good.1 same read_body closes runs in
    ⊎_elim
    (λ (none : g2 ≡ g3). by_step limit (outside d) from (placed (predicate_word is_pred) a ∷ placed (name p) at_p ∷ placed (infix_operator (Relation Equal)) e ∷ g4)
    (wanted (in_predicate d (head_with a is_pred at_p p) no_variables) []) g4 dd
    (front ∙ ap (λ f. placed (predicate_word is_pred) a ∷ placed (name p) at_p ∷ f) (none ∙ equal)) refl then_body)
    (λ (empty : (h : List Placed) × Follows open_round g2 h × Follows close_round h g3).
    by_step limit (outside d) from (placed (predicate_word is_pred) a ∷ placed (name p) at_p ∷ placed open_round empty.1.0 ∷ placed close_round empty.2.0 ∷ placed (infix_operator (Relation Equal)) e ∷ g4)
    (wanted (in_predicate d (head_with a is_pred at_p p) no_variables) []) g4 dd
    (front ∙ ap (λ f. placed (predicate_word is_pred) a ∷ placed (name p) at_p ∷ f) (empty.1.1 ∙ ap (λ f. placed open_round empty.1.0 ∷ f)
    (empty.2.1 ∙ ap (λ f. placed close_round empty.2.0 ∷ f) equal))) refl then_body)
    list
predicate_read limit (and_variable vs at_v o n y) is_pred at_p p body d at a from g1 g2 g3 g4 f1 ts e x dd good same word_is name_is (h1, h2, opens, read_vs, shuts) equal read_body closes runs =
    let first = parameters_begin (and_variable vs at_v o n y) h1 h2 read_vs in
    by_step limit (outside d) from (placed (predicate_word is_pred) a ∷ placed (name p) at_p ∷ placed open_round opens.0 ∷ placed first.0 first.1 ∷ first.2)
    (parameter_wanted d (head_with a is_pred at_p p) no_variables) (placed first.0 first.1 ∷ first.2) dd
    (word_is ∙ ap (λ f. placed (predicate_word is_pred) a ∷ f) (name_is ∙ ap (λ f. placed (name p) at_p ∷ f) (opens.1 ∙ ap (λ f. placed open_round opens.0 ∷ f) first.3)))
    (opened limit d a is_pred at_p p opens.0 first.0 first.1 first.2 first.4)
    (subst (λ f. Runs limit (parameter_wanted d (head_with a is_pred at_p p) no_variables) f dd) first.3
    (parameters_read limit (and_variable vs at_v o n y) d (head_with a is_pred at_p p) false h1 g3 shuts.0 dd good.0 (subst (λ f. ReadsParameters true (and_variable vs at_v o n y) h1 f) shuts.1 read_vs)
    (subst (λ f. Leads limit (body_of d (head_with a is_pred at_p p) (and_variable vs at_v o n y) f) dd) (sym equal)
    (body_read limit is_pred at_p p (and_variable vs at_v o n y) body d at a g4 f1 ts x dd good.1 same read_body closes runs))))

-- a declaration, with its semicolon
declaration_read : (limit : ℕ) (x : Declaration) (d : Document) (at : At) (from f1 ts : List Placed) (dd : Document) → IsDeclarationWithin limit x → BeginsAt true at from
    → ReadsDeclaration true x from f1 → Follows semicolon f1 ts → Runs limit (outside (declare d at x)) ts dd → Runs limit (outside d) from dd
declaration_read limit (variables vs) d at from f1 ts dd good begins_at (o, g, kinds, ordered, read_vs) ends runs =
    by_step limit (outside d) from (placed (kind o) kinds.0 ∷ g) (global_wanted d kinds.0 o no_variables) g dd kinds.1 refl
    (globals_read limit vs d kinds.0 o false g ts ends.0 dd ordered good (subst (λ f. ReadsVariables true vs g f) ends.1 read_vs)
    (subst (λ a. Runs limit (outside (declare d a (variables vs))) ts dd) (begins_here at kinds.0 (kind o) from g begins_at kinds.1) runs))
declaration_read limit (constant at_n n []) d at from f1 ts dd good begins_at (g1, g2, g3, words, starts, follow, sums) ends runs = absurd sums
declaration_read limit (constant at_n n (k ∷ ks)) d at from f1 ts dd good begins_at (g1, g2, g3, words, starts, follow, (h, plus, int_is, further)) ends runs =
    by_step limit (outside d) from (placed word_const words.0 ∷ placed (name n) at_n ∷ placed (infix_operator (Relation Equal)) follow.0 ∷ placed (int_symbol k.value) k.at ∷ h)
    (summand_wanted d words.0 at_n n (k ∷ [])) h dd
    (words.1 ∙ ap (λ f. placed word_const words.0 ∷ f) (at_start (name n) at_n g1 g2 starts ∙ ap (λ f. placed (name n) at_n ∷ f)
    (follow.1 ∙ ap (λ f. placed (infix_operator (Relation Equal)) follow.0 ∷ f) (at_start (int_symbol k.value) k.at g3 h int_is))))
    (constant_step limit d words.0 at_n n k.value k.at at follow.0 h ∙ ap (λ m. took (summand_wanted d words.0 at_n n (record { at = k.at; value = k.value; minus = m } ∷ [])) h) (sym plus))
    (further_read limit ks (k ∷ []) d words.0 at_n n h f1 ts ends.0 dd further ends.1
    (subst (λ a. Runs limit (outside (declare d a (constant at_n n (k ∷ ks)))) ts dd) (begins_here at words.0 word_const from g1 begins_at words.1) runs))
declaration_read limit (predicate is_pred at_p p vs body) d at from f1 ts dd good begins_at (g1, g2, g3, g4, words, starts, parameters, follow, read_body) ends runs =
    predicate_read limit vs is_pred at_p p body d at words.0 from g1 g2 g3 g4 f1 ts follow.0 ends.0 dd good (begins_here at words.0 (predicate_word is_pred) from g1 begins_at words.1)
    words.1 (at_start (name p) at_p g1 g2 starts) parameters follow.1 read_body ends.1 runs
declaration_read limit (included at_f file) d at from f1 ts dd good begins_at (g1, words, starts) ends runs =
    by_step limit (outside d) from (placed word_include words.0 ∷ placed (text file) at_f ∷ placed semicolon ends.0 ∷ ts) (outside (declare d words.0 (included at_f file))) ts dd
    (words.1 ∙ ap (λ f. placed word_include words.0 ∷ f) (at_start (text file) at_f g1 f1 starts ∙ ap (λ f. placed (text file) at_f ∷ f) ends.1)) refl
    (subst (λ a. Runs limit (outside (declare d a (included at_f file))) ts dd) (begins_here at words.0 word_include from g1 begins_at words.1) runs)
declaration_read limit (default_restriction o n body) d at from f1 ts dd good begins_at (g1, g2, g3, g4, g5, words, opens, name_is, closes, follow, read_body) ends runs =
    by_step limit (outside d) from (placed (default_word o) words.0 ∷ placed open_round opens.0 ∷ placed (name n) name_is.0 ∷ placed close_round closes.0 ∷ placed (infix_operator (Relation Equal)) follow.0 ∷ g5)
    (wanted (in_default d words.0 o n) []) g5 dd
    (words.1 ∙ ap (λ f. placed (default_word o) words.0 ∷ f) (opens.1 ∙ ap (λ f. placed open_round opens.0 ∷ f) (name_is.1 ∙ ap (λ f. placed (name n) name_is.0 ∷ f)
    (closes.1 ∙ ap (λ f. placed close_round closes.0 ∷ f) follow.1)))) refl
    (whole_read limit body (in_default d words.0 o n) g5 ts semicolon ends.0 dd good refl (subst (λ f. ReadsExpression true body g5 f) ends.1 read_body)
    (by_step limit (holding (in_default d words.0 o n) body []) (placed semicolon ends.0 ∷ ts) (placed semicolon ends.0 ∷ ts) (outside (declare d words.0 (default_restriction o n body))) ts dd refl refl
    (subst (λ a. Runs limit (outside (declare d a (default_restriction o n body))) ts dd) (begins_here at words.0 (default_word o) from g1 begins_at words.1) runs)))
declaration_read limit (goal at_title title e) d at from f1 ts dd good begins_at (g1, g2, words, titled, read_e) ends runs =
    by_step limit (outside d) from (placed (name (codes "goal")) words.0 ∷ placed (text title) at_title ∷ g2) (wanted (in_goal d words.0 at_title title) []) g2 dd
    (words.1 ∙ ap (λ f. placed (name (codes "goal")) words.0 ∷ f) (at_start (text title) at_title g1 g2 titled)) refl
    (whole_read limit e (in_goal d words.0 at_title title) g2 ts semicolon ends.0 dd good refl (subst (λ f. ReadsExpression true e g2 f) ends.1 read_e)
    (by_step limit (holding (in_goal d words.0 at_title title) e []) (placed semicolon ends.0 ∷ ts) (placed semicolon ends.0 ∷ ts)
    (outside (declare d words.0 (goal at_title title e))) ts dd refl refl
    (subst (λ a. Runs limit (outside (declare d a (goal at_title title e))) ts dd) (begins_here at words.0 (name (codes "goal")) from g1 begins_at words.1) runs)))
declaration_read limit (formula e) d at from f1 ts dd good begins_at reads ends runs =
    let first = begins true e from f1 reads in
    subst (λ f. Runs limit (outside d) f dd) (sym first.3)
    (formula_begun limit d first.0 first.1 first.2 dd first.4
    (subst (λ f. Runs limit (wanted (in_formula d first.1) []) f dd) first.3
    (whole_read limit e (in_formula d first.1) from ts semicolon ends.0 dd good refl (subst (λ f. ReadsExpression true e from f) ends.1 reads)
    (by_step limit (holding (in_formula d first.1) e []) (placed semicolon ends.0 ∷ ts) (placed semicolon ends.0 ∷ ts) (outside (declare d first.1 (formula e))) ts dd refl refl
    (subst (λ a. Runs limit (outside (declare d a (formula e))) ts dd) (begins_here at first.1 first.0 from first.2 begins_at first.3) runs)))))

pub declarations_read : (limit : ℕ) (ds : List Declared) (d : Document) (from : List Placed) → AreDeclarationsWithin limit ds → ReadsDeclarations true ds from []
    → Runs limit (outside d) from (record { header = d.header; declarations = d.declarations ++ ds })
declarations_read limit [] d from good reads =
    (zero, ap (finished (outside d)) reads ∙ ap (λ ds. Some (record { header = d.header; declarations = ds })) (sym (append-nil d.declarations)))
declarations_read limit (x ∷ xs) d from good (f1, f2, begins_at, read_x, ends, further) =
    declaration_read limit x.declaration d x.at from f1 f2 (record { header = d.header; declarations = d.declarations ++ (x ∷ xs) }) good.0 begins_at read_x ends
    (subst (λ all. Runs limit (outside (declare d x.at x.declaration)) f2 (record { header = d.header; declarations = all })) (append_assoc d.declarations (x ∷ []) xs)
    (declarations_read limit xs (declare d x.at x.declaration) f2 good.1 further))
