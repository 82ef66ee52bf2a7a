-- Expressions in which nothing is wrong, that import and export nothing, and what they become.
use Rattle.std.specs.Option.{option_map}
use Rattle.std.proofs.Common.{◌≡◌, ℕ, true, false, if◌then◌else◌, List, [], ◌∷◌, ◌++◌, flat_map, Option, Some, refl, sym, ap, ◌∙◌, subst}
use Rattle.std.proofs.lemmas.Grind.{flat_map-append}
use Rattle.ms_list.specs.declared.at.At.{At}
use Rattle.ms_logic.specs.declared.mode.Order.{Order}
use Rattle.ms_logic.specs.declared.mode.Order.TheVariants.{One, Two}
use Rattle.ms_logic.specs.declared.mode.Rel.TheVariants.{Less, NotMember, Sub}
use Rattle.ms_logic.specs.Tree as tree
use Rattle.ms_logic.specs.Tree.{Form, truth_argument}
use Rattle.ms_logic.specs.View.{forms}
use Rattle.ms_names_rules.specs.declared.fault.Fault.TheVariants.{WrongOrder}
use Rattle.ms_names_rules.specs.declared.meaning.Meaning.{Meaning}
use Rattle.ms_names_rules.specs.declared.meaning.Meaning.TheVariants.{Variable}
use Rattle.ms_names_rules.specs.declared.wanted.Wanted.{Wanted}
use Rattle.ms_names_rules.specs.declared.wanted.Wanted.TheVariants.{Exactly}
use Rattle.ms_names_rules.specs.Before.{Before, after, after_all}
use Rattle.ms_names_rules.specs.Order.{formula_wanted, fits, order_of_name}
use Rattle.ms_names_rules.specs.Occurrence.{Occurrence, standing, occurrences, inside_operands}
use Rattle.ms_names_rules.specs.Rules.{faults_at, faults_of_name}
use Rattle.ms_names_rules.specs.Scope.{Scope, meaning_of, Bytes}
use Rattle.ms_parse_grammar.specs.Tree.{truth, named, Expression, atom, binary, joined, Expressions, no_expressions, and_expression}
use Rattle.ms_parse_grammar.specs.declared.operator.Binary.TheVariants.{Implication, Relation}
use Rattle.ms_parse_grammar.specs.declared.operator.Junction.TheVariants.{Conjunction}
use Rattle.ms_names_rules.specs.Typed.{both, formula_behind, formula_in, formula_of_two, typed, typed_formulas, typed_name, typed_relation}
use Rattle.ms_names_rules.specs.Uses.{export_at, import_at}

-- no fault, no import and no export
pub record IsHarmless (os : List Occurrence) : Type 0 where
  pub faults : flat_map faults_at os ≡ []
  pub imports : flat_map import_at os ≡ []
  pub exports : flat_map export_at os ≡ []

pub harmless-none : IsHarmless []
harmless-none = record { faults = refl; imports = refl; exports = refl }

pub harmless-both : (os ps : List Occurrence) → IsHarmless os → IsHarmless ps → IsHarmless (os ++ ps)
harmless-both os ps h k = record {
  faults = flat_map-append faults_at os ps ∙ (λ i. h.faults i ++ k.faults i);
  imports = flat_map-append import_at os ps ∙ (λ i. h.imports i ++ k.imports i);
  exports = flat_map-append export_at os ps ∙ (λ i. h.exports i ++ k.exports i);
}

pub harmless-first : (o : Occurrence) (os : List Occurrence) → faults_at o ≡ [] → import_at o ≡ [] → export_at o ≡ [] → IsHarmless os → IsHarmless (o ∷ os)
harmless-first o os f i e h = record {
  faults = λ j. f j ++ h.faults j;
  imports = λ j. i j ++ h.imports j;
  exports = λ j. e j ++ h.exports j;
}

name-faults : (w : Wanted) (there : At) (n : Bytes) (m : Option Meaning) (x : ℕ) (o : Order) → m ≡ Some (Variable x o) → fits w (Some o) ≡ true
    → (if fits w (order_of_name m) then [] else WrongOrder there ∷ []) ++ faults_of_name there n m ≡ []
name-faults w there n m x o known fit = subst (λ k. (if fits w (order_of_name k) then [] else WrongOrder there ∷ []) ++ faults_of_name there n k ≡ []) (sym known) (rw fit refl)

pub harmless-name : (s : Scope) (b : Before) (w : Wanted) (there : At) (n : Bytes) (x : ℕ) (o : Order) → meaning_of s n ≡ Some (Variable x o) → fits w (Some o) ≡ true → IsHarmless (occurrences s b w (atom there (named n)))
harmless-name s b w there n x o known fit = harmless-first (standing s b w (atom there (named n))) [] (name-faults w there n (meaning_of s n) x o known fit) refl refl harmless-none

-- a formula that binds nothing
pub record Becomes (s : Scope) (b : Before) (e : Expression) (f : Form) : Type 0 where
  pub harmless : IsHarmless (occurrences s b formula_wanted e)
  pub stays : after b e ≡ b
  pub typed_is : typed s b e ≡ Some (truth_argument f)

pub becomes-truth : (s : Scope) (b : Before) (there : At) → Becomes s b (atom there truth) tree.truth
becomes-truth s b there = record { harmless = harmless-first (standing s b formula_wanted (atom there truth)) [] refl refl refl harmless-none; stays = refl; typed_is = refl }

module _ (s : Scope) (b : Before) (there left : At) (m : Bytes) (right : At) (n : Bytes) (x y : ℕ) where
  pub becomes-sub : meaning_of s m ≡ Some (Variable x Two) → meaning_of s n ≡ Some (Variable y Two)
      → Becomes s b (binary there (Relation Sub) (atom left (named m)) (atom right (named n))) (tree.set_comparison Sub (tree.set_variable x) (tree.set_variable y))
  becomes-sub h k = record {
    harmless = harmless-first (standing s b formula_wanted (binary there (Relation Sub) (atom left (named m)) (atom right (named n)))) (occurrences s b (Exactly Two) (atom left (named m)) ++ occurrences s b (Exactly Two) (atom right (named n))) refl refl refl
        (harmless-both (occurrences s b (Exactly Two) (atom left (named m))) (occurrences s b (Exactly Two) (atom right (named n))) (harmless-name s b (Exactly Two) left m x Two h refl) (harmless-name s b (Exactly Two) right n y Two k refl));
    stays = refl;
    typed_is = λ i. typed_relation Sub (typed_name (h i)) (typed_name (k i));
  }

  pub becomes-less : meaning_of s m ≡ Some (Variable x One) → meaning_of s n ≡ Some (Variable y One)
      → Becomes s b (binary there (Relation Less) (atom left (named m)) (atom right (named n))) (tree.comparison Less (tree.number_variable x) (tree.number_variable y))
  becomes-less h k = record {
    harmless = harmless-first (standing s b formula_wanted (binary there (Relation Less) (atom left (named m)) (atom right (named n)))) (occurrences s b (Exactly One) (atom left (named m)) ++ occurrences s b (Exactly One) (atom right (named n))) refl refl refl
        (harmless-both (occurrences s b (Exactly One) (atom left (named m))) (occurrences s b (Exactly One) (atom right (named n))) (harmless-name s b (Exactly One) left m x One h refl) (harmless-name s b (Exactly One) right n y One k refl));
    stays = refl;
    typed_is = λ i. typed_relation Less (typed_name (h i)) (typed_name (k i));
  }

  pub becomes-not-in : meaning_of s m ≡ Some (Variable x One) → meaning_of s n ≡ Some (Variable y Two)
      → Becomes s b (binary there (Relation NotMember) (atom left (named m)) (atom right (named n))) (tree.membership false (tree.number_variable x) (tree.set_variable y))
  becomes-not-in h k = record {
    harmless = harmless-first (standing s b formula_wanted (binary there (Relation NotMember) (atom left (named m)) (atom right (named n)))) (occurrences s b (Exactly One) (atom left (named m)) ++ occurrences s b (Exactly Two) (atom right (named n))) refl refl refl
        (harmless-both (occurrences s b (Exactly One) (atom left (named m))) (occurrences s b (Exactly Two) (atom right (named n))) (harmless-name s b (Exactly One) left m x One h refl) (harmless-name s b (Exactly Two) right n y Two k refl));
    stays = refl;
    typed_is = λ i. typed_relation NotMember (typed_name (h i)) (typed_name (k i));
  }

-- each of a list
pub record AllBecome (s : Scope) (b : Before) (es : Expressions) (fs : List Form) : Type 0 where
  pub harmless : IsHarmless (inside_operands s b formula_wanted es)
  pub stay : after_all b es ≡ b
  pub typed_are : typed_formulas s b es ≡ Some (forms fs)

forms-push : (fs : List Form) (f : Form) → formula_behind (forms fs) f ≡ forms (fs ++ f ∷ [])
forms-push [] f = refl
forms-push (g ∷ fs) f = ap (tree.more_forms g) (forms-push fs f)

module _ (s : Scope) (b : Before) where
  pub all-none : AllBecome s b no_expressions []
  all-none = record { harmless = harmless-none; stay = refl; typed_are = refl }

  pub all-push : (es : Expressions) (fs : List Form) (e : Expression) (f : Form) → AllBecome s b es fs → Becomes s b e f → AllBecome s b (and_expression es e) (fs ++ f ∷ [])
  all-push es fs e f all one = record {
    harmless = harmless-both (inside_operands s b formula_wanted es) (occurrences s (after_all b es) formula_wanted e) all.harmless
        (subst (λ c. IsHarmless (occurrences s c formula_wanted e)) (sym all.stay) one.harmless);
    stay = ap (λ c. after c e) all.stay ∙ one.stays;
    typed_are = (λ i. both formula_behind (all.typed_are i) (formula_in (typed s (all.stay i) e)))
        ∙ (ap (λ a. both formula_behind (Some (forms fs)) (formula_in a)) one.typed_is
        ∙ ap (λ gs. Some gs) (forms-push fs f));
  }

  pub becomes-conjunction : (there : At) (es : Expressions) (fs : List Form) → AllBecome s b es fs → Becomes s b (joined there Conjunction es) (tree.conjunction (forms fs))
  becomes-conjunction there es fs all = record {
    harmless = harmless-first (standing s b formula_wanted (joined there Conjunction es)) (inside_operands s b formula_wanted es) refl refl refl all.harmless;
    stays = all.stay;
    typed_is = ap (option_map (λ gs. truth_argument (tree.conjunction gs))) all.typed_are;
  }

  pub becomes-implication : (there : At) (d e : Expression) (f g : Form) → Becomes s b d f → Becomes s b e g → Becomes s b (binary there Implication d e) (tree.implication f g)
  becomes-implication there d e f g h k = record {
    harmless = harmless-first (standing s b formula_wanted (binary there Implication d e)) (occurrences s b formula_wanted d ++ occurrences s (after b d) formula_wanted e) refl refl refl
        (harmless-both (occurrences s b formula_wanted d) (occurrences s (after b d) formula_wanted e) h.harmless (subst (λ c. IsHarmless (occurrences s c formula_wanted e)) (sym h.stays) k.harmless));
    stays = ap (λ c. after c e) h.stays ∙ k.stays;
    typed_is = (λ i. formula_of_two (λ p q. tree.implication p q) (h.typed_is i) (typed s (h.stays i) e)) ∙ ap (formula_of_two (λ p q. tree.implication p q) (Some (truth_argument f))) k.typed_is;
  }
