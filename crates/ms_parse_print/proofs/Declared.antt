-- What is tested of a declaration is what printing it needs.
use Rattle.std.proofs.Common.{◌≡◌, ℕ, zero, suc, ◌+◌, ◌<◌, ◌≤◌, Bool, true, List, [], ◌∷◌, ◌++◌, length, take, get_or, map, sym, subst, arith, add-one, IsTrue}
use Rattle.std.proofs.lemmas.Bool.{false≢true}
use Rattle.ms_list.specs.declared.at.At.{At}
use Rattle.ms_logic.specs.declared.mode.Rel.TheVariants.{Equal}
use Rattle.ms_logic.specs.declared.source.Decl.{Decl}
use Rattle.ms_logic.specs.declared.source.Item.{Item}
use Rattle.ms_parse_grammar.specs.declared.operator.Binary.TheVariants.{Relation}
use Rattle.ms_parse_grammar.specs.Symbol.{name, kind, comma, close_round, infix_operator}
use Rattle.ms_parse_grammar.specs.Tree.{Expression, Variables, no_variables, and_variable, unrestricted, restricted, predicate}
use Rattle.ms_parse_grammar.specs.View.{declaration_of, declared_of}
use Rattle.ms_parse_grammar.specs.Grammar.{IsExpression, HaveGrammaticalDomains, depth_of_domains}
use Rattle.ms_parse_grammar.specs.Declarations.{AreDomains}
use Rattle.ms_parse_print.specs.inner.Passes.{Passes, VariablesPass}
use Rattle.ms_parse_print.specs.inner.Printable.{IsPrintable, ArePrintable}
use Rattle.ms_parse_print.specs.inner.Printed.{IsSpellable, AreSpellable, single, printed, printed_domain, printed_variables, printed_parameters, printed_parameter_list}
use Rattle.ms_parse_print.proofs.Passing.{sound, complete, sound_variables, complete_variables}
use Rattle.ms_parse_print.proofs.Sources.{spellable_both, spellable_split}

-- expressions of declarations

abbrev pub IsPrintableExpression : Expression → Type 0
IsPrintableExpression e = AreSpellable (printed single e) × IsExpression e

pub expression_printable : (e : Expression) → Passes 300 true e → IsPrintableExpression e
expression_printable e pass =
    let good = sound e 300 true pass in (good.spellable, record { grammatical = good.grammatical; shallow = good.shallow })

pub printable_expression : (e : Expression) → IsPrintableExpression e → Passes 300 true e
printable_expression e is =
    complete e 300 true (record { spellable = is.0; grammatical = is.1.grammatical; shallow = is.1.shallow; bare = λ tied. absurd (false≢true (sym tied)) })

-- variables of declarations

domains_are : (vs : Variables) → HaveGrammaticalDomains vs → depth_of_domains vs ≤ 300 → AreDomains vs
domains_are no_variables good shallow = tt
domains_are (and_variable before at o n unrestricted) good shallow = domains_are before good shallow
domains_are (and_variable before at o n (restricted d)) good shallow =
    (domains_are before good.0 (omega (arith, shallow)), record { grammatical = good.1; shallow = omega (arith, shallow) })

are_domains : (vs : Variables) → AreDomains vs → HaveGrammaticalDomains vs × (depth_of_domains vs ≤ 300)
are_domains no_variables are = (tt, omega arith)
are_domains (and_variable before at o n unrestricted) are = are_domains before are
are_domains (and_variable before at o n (restricted d)) are =
    let others = are_domains before are.0 in ((others.0, are.1.grammatical), omega (arith, others.1, are.1.shallow))

pub variables_printable : (vs : Variables) → VariablesPass 300 true vs → AreSpellable (printed_variables single vs) × AreDomains vs
variables_printable vs pass = let good = sound_variables vs 300 true pass in (good.spellable, domains_are vs good.grammatical good.shallow)

pub printable_variables : (vs : Variables) → AreSpellable (printed_variables single vs) → AreDomains vs → VariablesPass 300 true vs
printable_variables vs said are =
    let good = are_domains vs are in
    complete_variables vs 300 true (record { spellable = said; grammatical = good.0; shallow = good.1; bare = λ tied. absurd (false≢true (sym tied)) })

-- parameters are said as variables are, with the words of their kinds

parameters_said : (vs : Variables) → AreSpellable (printed_variables single vs) → AreSpellable (printed_parameters single vs)
parameters_said no_variables said = tt
parameters_said (and_variable no_variables at o n d) said = (tt, said)
parameters_said (and_variable (and_variable before at' o' n' d') at o n d) said =
    let vs = printed_variables single (and_variable before at' o' n' d') in
    let a = spellable_split (vs ++ comma ∷ []) (name n ∷ printed_domain single d) said in
    let b = spellable_split vs (comma ∷ []) a.0 in
    let ps = parameters_said (and_variable before at' o' n' d') b.0 in
    spellable_both (printed_parameters single (and_variable before at' o' n' d') ++ comma ∷ []) (kind o ∷ name n ∷ printed_domain single d)
    (spellable_both (printed_parameters single (and_variable before at' o' n' d')) (comma ∷ []) ps (tt, tt)) (tt, a.1)

said_parameters : (vs : Variables) → AreSpellable (printed_parameters single vs) → AreSpellable (printed_variables single vs)
said_parameters no_variables said = tt
said_parameters (and_variable no_variables at o n d) said = said.1
said_parameters (and_variable (and_variable before at' o' n' d') at o n d) said =
    let ps = printed_parameters single (and_variable before at' o' n' d') in
    let a = spellable_split (ps ++ comma ∷ []) (kind o ∷ name n ∷ printed_domain single d) said in
    let b = spellable_split ps (comma ∷ []) a.0 in
    let vs = said_parameters (and_variable before at' o' n' d') b.0 in
    spellable_both (printed_variables single (and_variable before at' o' n' d') ++ comma ∷ []) (name n ∷ printed_domain single d)
    (spellable_both (printed_variables single (and_variable before at' o' n' d')) (comma ∷ []) vs (tt, tt)) a.1.1

listed_said : (vs : Variables) → AreSpellable (printed_variables single vs) → AreSpellable (printed_parameter_list single vs)
listed_said no_variables said = tt
listed_said (and_variable before at o n d) said =
    (tt, spellable_both (printed_parameters single (and_variable before at o n d)) (close_round ∷ []) (parameters_said (and_variable before at o n d) said) (tt, tt))

said_listed : (vs : Variables) → AreSpellable (printed_parameter_list single vs) → AreSpellable (printed_variables single vs)
said_listed no_variables said = tt
said_listed (and_variable before at o n d) said =
    said_parameters (and_variable before at o n d) (spellable_split (printed_parameters single (and_variable before at o n d)) (close_round ∷ []) said.1).0

pub predicate_printable : (is_pred : Bool) (at : At) (n : List ℕ) (vs : Variables) (body : Expression) → IsSpellable (name n) → VariablesPass 300 true vs → Passes 300 true body → IsPrintable (predicate is_pred at n vs body)
predicate_printable is_pred at n vs body called parameters pass =
    let v = variables_printable vs parameters in
    let e = expression_printable body pass in
    let list = printed_parameter_list single vs in (
      (tt, (called, spellable_both (list ++ infix_operator (Relation Equal) ∷ []) (printed single body) (spellable_both list (infix_operator (Relation Equal) ∷ []) (listed_said vs v.0) (tt, tt)) e.0)),
      tt,
      (v.1, e.1),
    )

pub printable_predicate : (is_pred : Bool) (at : At) (n : List ℕ) (vs : Variables) (body : Expression) → IsPrintable (predicate is_pred at n vs body) → IsSpellable (name n) × VariablesPass 300 true vs × Passes 300 true body
printable_predicate is_pred at n vs body is =
    let list = printed_parameter_list single vs in
    let a = spellable_split (list ++ infix_operator (Relation Equal) ∷ []) (printed single body) is.0.1.1 in
    let b = spellable_split list (infix_operator (Relation Equal) ∷ []) a.0 in
    (is.0.1.0, printable_variables vs (said_listed vs b.0) is.2.0, printable_expression body (a.1, is.2.1))

-- declarations

pub declared_step : (items : List Item) (i : ℕ) (x : Item) → i < length items → x ≡ get_or items i x → ArePrintable (map declared_of (take i items)) → IsPrintable (declared_of x).declaration → ArePrintable (map declared_of (take (i + 1) items))
declared_step [] i x within at so_far here = absurd (omega arith)
declared_step (y ∷ ys) zero x within at so_far here = (subst (λ z. IsPrintable (declared_of z).declaration) at here, tt)
declared_step (y ∷ ys) (suc i) x within at so_far here = rw add-one (so_far.0, rw add-one at (declared_step ys i x (omega arith) at so_far.1 here))

pub declared_stop : (items : List Item) (i : ℕ) (x : Item) → i < length items → x ≡ get_or items i x → ArePrintable (map declared_of items) → IsPrintable (declared_of x).declaration
declared_stop [] i x within at all = absurd (omega arith)
declared_stop (y ∷ ys) zero x within at all = subst (λ z. IsPrintable (declared_of z).declaration) (sym at) all.0
declared_stop (y ∷ ys) (suc i) x within at all = declared_stop ys i x (omega arith) at all.1

-- what is tested of a declaration of the code
pub by_declaration : (d e : Decl) (r : Bool) → d ≡ e → (IsTrue r → IsPrintable (declaration_of e)) × (IsPrintable (declaration_of e) → IsTrue r) → (IsTrue r → IsPrintable (declaration_of d)) × (IsPrintable (declaration_of d) → IsTrue r)
by_declaration d e r same both = subst (λ x. (IsTrue r → IsPrintable (declaration_of x)) × (IsPrintable (declaration_of x) → IsTrue r)) (sym same) both
