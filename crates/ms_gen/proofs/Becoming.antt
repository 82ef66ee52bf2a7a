-- Nothing is wrong with the source, and what its formulas become.
use Rattle.std.proofs.Common.{◌≡◌, ◌≤◌, ℕ, zero, suc, ◌+◌, false, List, [], ◌∷◌, ◌++◌, codes, flat_map, Some, None, refl, ap, ◌∙◌, arith, add-zero}
use Rattle.std.specs.Option.{option_map}
use Rattle.ms_gen.specs.Generated.{name_of}
use Rattle.ms_logic.specs.declared.mode.Mode.TheVariants.{Ws1s}
use Rattle.ms_logic.specs.declared.mode.Order.TheVariants.{One, Two}
use Rattle.ms_logic.specs.declared.mode.Quant.TheVariants.{Ex, All}
use Rattle.ms_logic.specs.declared.mode.Rel.TheVariants.{Less, NotMember, Sub}
use Rattle.ms_logic.specs.Tree as tree
use Rattle.ms_logic.specs.Tree.{Form, truth_argument}
use Rattle.ms_logic.specs.View.{forms}
use Rattle.ms_names_rules.specs.declared.meaning.Meaning.TheVariants.{Variable}
use Rattle.ms_names_rules.specs.Before.{Before, with_names}
use Rattle.ms_names_rules.specs.Declarations.{Known, after_declaration, at_the_beginning, faults_in, first_fault_of, or_later}
use Rattle.ms_names_rules.specs.Fault.{first_fault}
use Rattle.ms_names_rules.specs.Order.{formula_wanted}
use Rattle.ms_names_rules.specs.Occurrence.{occurrences, standing}
use Rattle.ms_names_rules.specs.Rules.{faults_at, faults_of_exports}
use Rattle.ms_names_rules.specs.Scope.{Scope, bind, meaning_of}
use Rattle.ms_parse_grammar.specs.Tree.{truth, named, Expression, atom, binary, quantified, no_expressions, and_expression, no_variables, and_variable, unrestricted, variables, formula}
use Rattle.ms_parse_grammar.specs.declared.operator.Binary.TheVariants.{Relation}
use Rattle.ms_names_rules.specs.Typed.{default_restriction, formula_in, quantifier, typed}
use Rattle.ms_names_rules.specs.Uses.{export_at}
use Rattle.ms_gen.proofs.Judged.{AllBecome, Becomes, IsHarmless, all-none, all-push, becomes-conjunction, becomes-implication, becomes-less, becomes-not-in, becomes-sub, becomes-truth, harmless-first}
use Rattle.ms_gen.proofs.Known.{inside-sets, no-set-twice, set-known, set_scope, under-sets}
use Rattle.ms_gen.proofs.Pieces.{at}
use Rattle.ms_gen.proofs.Reading.{antecedent, behind_joining, behind_mark, behind_name, chain, chain_start, conclusion_start, document, first_start, free, free_start, last_start, left_start, link, links_end, links_start, name_at, operands, outside, right_start, sets, sets_start}

-- the formulas

abbrev pub inclusion : ℕ → ℕ → Form
inclusion m n = tree.set_comparison Sub (tree.set_variable m) (tree.set_variable n)

abbrev pub chain_parts : ℕ → List Form
chain_parts zero = tree.truth ∷ []
chain_parts (suc n) = chain_parts n ++ inclusion n (n + 1) ∷ []

abbrev pub antecedent_form : ℕ → Form
antecedent_form zero = tree.truth
antecedent_form (suc n) = tree.conjunction (forms (chain_parts (suc n)))

abbrev pub chain_form : ℕ → Form
chain_form last = tree.implication (antecedent_form last) (inclusion 0 last)

-- x < y & y notin P
abbrev pub outside_forms : ℕ → ℕ → ℕ → List Form
outside_forms x y last = tree.comparison Less (tree.number_variable x) (tree.number_variable y) ∷ tree.membership false (tree.number_variable y) (tree.set_variable last) ∷ []

abbrev pub free_form_of : ℕ → ℕ → ℕ → Form
free_form_of x y last = tree.quantified All One x tree.unrestricted (tree.quantified Ex One y tree.unrestricted (tree.conjunction (forms (outside_forms x y last))))

-- x has this number, and y the next one
abbrev pub free_form : ℕ → ℕ → Form
free_form x last = free_form_of x (x + 1) last

-- a scope in which each set up to the last is known by its number, and in which numbers take no default restriction
pub record KnowsSets (s : Scope) (last : ℕ) : Type 0 where
  pub sets : (i : ℕ) → i ≤ last → meaning_of s (name_of i) ≡ Some (Variable i Two)
  pub no_default : s.default_of_numbers ≡ None

module _ (s : Scope) (last : ℕ) (knows : KnowsSets s last) (b : Before) where
  operands-become : (true_at start n : ℕ) → n ≤ last → AllBecome s b (operands true_at start n) (chain_parts n)
  operands-become true_at start zero within = all-push s b no_expressions [] (atom (at true_at) truth) tree.truth (all-none s b) (becomes-truth s b (at true_at))
  operands-become true_at start (suc n) within =
      let from = links_end start n in
      all-push s b (operands true_at start n) (chain_parts n) (link from n) (inclusion n (n + 1)) (operands-become true_at start n (omega (arith, within)))
      (becomes-sub s b (at (left_start from + 1)) (at (left_start from + 1)) (name_of n) (at (right_start from n + 1)) (name_of (n + 1)) n (n + 1) (knows.sets n (omega (arith, within))) (knows.sets (n + 1) (omega (arith, within))))

  antecedent-becomes : (true_at start n : ℕ) → n ≤ last → Becomes s b (antecedent true_at start n) (antecedent_form n)
  antecedent-becomes true_at start zero within = becomes-truth s b (at true_at)
  antecedent-becomes true_at start (suc n) within = becomes-conjunction s b (at true_at) (operands true_at start (suc n)) (chain_parts (suc n)) (operands-become true_at start (suc n) within)

  chain-becomes : Becomes s b (chain last) (chain_form last)
  chain-becomes =
      let start = conclusion_start last in
      let left = at (first_start start + 1) in
      let right = at (last_start start + 1) in
      becomes-implication s b (at (chain_start last + 1)) (antecedent (chain_start last + 1) (links_start last) last)
      (binary left (Relation Sub) (atom left (named (name_of 0))) (atom right (named (name_of last)))) (antecedent_form last) (inclusion 0 last)
      (antecedent-becomes (chain_start last + 1) (links_start last) last (omega arith))
      (becomes-sub s b left left (name_of 0) right (name_of last) 0 last (knows.sets 0 (omega arith)) (knows.sets last (omega arith)))

  -- the scope inside the two quantifiers

  abbrev x_number : ℕ
  x_number = b.next + 0

  abbrev y_number : ℕ
  y_number = b.next + 1 + 0

  abbrev under_x : Scope
  under_x = bind (codes "x") (Variable x_number One) s

  abbrev under_y : Scope
  under_y = bind (codes "y") (Variable y_number One) under_x

  abbrev after_y : Before
  after_y = with_names (with_names b 1) 1

  outside-becomes : (start : ℕ) → Becomes under_y after_y (outside start last) (tree.conjunction (forms (outside_forms x_number y_number last)))
  outside-becomes start =
      let less = behind_name start (codes "x") in
      let y = behind_joining less in
      let next = behind_joining (behind_name y (codes "y")) in
      let set = behind_name next (codes "y") + 1 + 5 in
      let first = binary (at (start + 1)) (Relation Less) (name_at start (codes "x")) (name_at y (codes "y")) in
      let second = binary (at (next + 1)) (Relation NotMember) (name_at next (codes "y")) (name_at set (name_of last)) in
      let first_form = tree.comparison Less (tree.number_variable x_number) (tree.number_variable y_number) in
      let second_form = tree.membership false (tree.number_variable y_number) (tree.set_variable last) in
      becomes-conjunction under_y after_y (at (start + 1)) (and_expression (and_expression no_expressions first) second) (outside_forms x_number y_number last)
      (all-push under_y after_y (and_expression no_expressions first) (first_form ∷ []) second second_form
      (all-push under_y after_y no_expressions [] first first_form (all-none under_y after_y)
      (becomes-less under_y after_y (at (start + 1)) (at (start + 1)) (codes "x") (at (y + 1)) (codes "y") x_number y_number refl refl))
      (becomes-not-in under_y after_y (at (next + 1)) (at (next + 1)) (codes "y") (at (set + 1)) (name_of last) y_number last refl (knows.sets last (omega arith))))

  module _ (start : ℕ) where
    abbrev exists_start : ℕ
    exists_start = behind_mark (behind_name (start + 1 + 4) (codes "x"))

    abbrev body_start : ℕ
    body_start = behind_mark (behind_name (exists_start + 1 + 3) (codes "y"))

    abbrev inner : Expression
    inner =
        quantified (at (exists_start + 1)) Ex One (and_variable no_variables (at (exists_start + 1 + 3 + 1)) One (codes "y") unrestricted)
        (outside body_start last)

    free-harmless : IsHarmless (occurrences s b formula_wanted (free start last))
    free-harmless =
        harmless-first (standing s b formula_wanted (free start last)) (occurrences under_x (with_names b 1) formula_wanted inner) refl refl refl
        (harmless-first (standing under_x (with_names b 1) formula_wanted inner) (occurrences under_y after_y formula_wanted (outside body_start last)) refl refl refl
        (outside-becomes body_start).harmless)

    free-typed : typed s b (free start last) ≡ Some (truth_argument (free_form b.next last))
    free-typed =
        let ends = (outside-becomes body_start).typed_is in
        let none = knows.no_default in
        (λ i. option_map (λ f. truth_argument f) (quantifier All One x_number (Some (default_restriction (none i) x_number))
        (formula_in (option_map (λ f. truth_argument f) (quantifier Ex One y_number (Some (default_restriction (none i) y_number)) (formula_in (ends i)))))))
        ∙ (λ i. Some (truth_argument (free_form_of (add-zero b.next i) (add-zero (b.next + 1) i) last)))

-- the declarations

abbrev pub first : ℕ → Known
first last = at_the_beginning Ws1s (document last).declarations

abbrev pub second : ℕ → Known
second last = after_declaration (first last) (variables (sets sets_start last))

abbrev pub third : ℕ → Known
third last = after_declaration (second last) (formula (chain last))

no-faults : (k : Known) (e : Expression) → IsHarmless (occurrences k.scope k.before formula_wanted e) → faults_in k (formula e) ≡ []
no-faults k e h = λ i. h.faults i ++ faults_of_exports k.files (h.exports i)

sets-keep : (s : Scope) (n : ℕ) → (set_scope s n).default_of_numbers ≡ s.default_of_numbers
sets-keep s zero = refl
sets-keep s (suc n) = sets-keep s n

module _ (last : ℕ) (small : last ≤ 2000) where
  pub second-knows : KnowsSets (second last).scope last
  second-knows = record {
    sets = λ i within. ap (λ s. meaning_of s (name_of i)) (under-sets (first last).scope sets_start last) ∙ set-known (first last).scope last i small within;
    no_default = ap (λ (s : Scope). s.default_of_numbers) (under-sets (first last).scope sets_start last) ∙ sets-keep (first last).scope last;
  }

  pub chain-stands : Becomes (second last).scope (second last).before (chain last) (chain_form last)
  chain-stands = chain-becomes (second last).scope last second-knows (second last).before

  pub free-stands : IsHarmless (occurrences (third last).scope (third last).before formula_wanted (free (free_start last) last))
  free-stands = free-harmless (second last).scope last second-knows (third last).before (free_start last)

  pub free-is : typed (third last).scope (third last).before (free (free_start last) last) ≡ Some (truth_argument (free_form (third last).before.next last))
  free-is = free-typed (second last).scope last second-knows (third last).before (free_start last)

  sets-stand : faults_in (first last) (variables (sets sets_start last)) ≡ []
  sets-stand =
      let none = inside-sets (first last).scope 0 (first last).before sets_start last in
      λ i. no-set-twice sets_start last small i ++ (flat_map faults_at (none i) ++ faults_of_exports [] (flat_map export_at (none i)))

  pub no-fault : first_fault_of Ws1s (document last).declarations ≡ None
  no-fault =
      λ i. or_later (first_fault (sets-stand i))
      (or_later (first_fault (no-faults (second last) (chain last) chain-stands.harmless i))
      (or_later (first_fault (no-faults (third last) (free (free_start last) last) free-stands i)) None))
