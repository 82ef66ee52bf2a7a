-- What holds of the typed trees of operands holds of what an operator makes of them.
use Rattle.std.proofs.Common.{◌≡◌, Bool, Option, Some, None, refl}
use Rattle.ms_logic.specs.declared.mode.Rel.{Rel}
use Rattle.ms_logic.specs.Tree as tree
use Rattle.ms_logic.specs.Tree.{Term, SetTerm, Form, Argument, truth_argument, number_argument, set_argument}
use Rattle.ms_parse_grammar.specs.declared.operator.Binary.{Binary}
use Rattle.ms_parse_grammar.specs.declared.operator.Binary.TheVariants.{Implication, Equivalence, Relation, Union, Intersection, Difference}
use Rattle.ms_parse_grammar.specs.declared.operator.Bracket.{Bracket}
use Rattle.ms_parse_grammar.specs.declared.operator.Bracket.TheVariants.{Parentheses, Emptiness, Restriction, Export}
use Rattle.ms_parse_grammar.specs.declared.operator.Prefix.{Prefix}
use Rattle.ms_parse_grammar.specs.declared.operator.Prefix.TheVariants.{Negation, Minimum, Maximum}
use Rattle.ms_names_rules.specs.Before.{Before, opened}
use Rattle.ms_names_rules.specs.Typed.{formula_of_two, set_of_two, typed_binary, typed_bracket, typed_prefix}
use Rattle.ms_names_rules.proofs.Fitting.{If}
use Rattle.ms_names_checked.specs.Constants.{RelatesNumbers, RelatesSets}
use Rattle.ms_names_checked.proofs.Told.{relation-holds}
use Rattle.ms_names_rules.specs.inner.Examples.{greatest, least, negated}

-- brackets bind no name
pub opened-next : (b : Before) (k : Bracket) → (opened b k).next ≡ b.next
opened-next b Parentheses = refl
opened-next b Emptiness = refl
opened-next b Restriction = refl
opened-next b (Export text_at file) = refl

module _ (P A : Argument → Type 0) where
  pub prefix-holds : (op : Prefix) (a : Option Argument) →
      ((f : Form) → A (truth_argument f) → P (truth_argument (tree.negation f))) →
      ((t : SetTerm) → A (set_argument t) → P (number_argument (tree.minimum t))) →
      ((t : SetTerm) → A (set_argument t) → P (number_argument (tree.maximum t))) → If A a → If P (typed_prefix op a)
  prefix-holds Negation None negated least greatest h = tt
  prefix-holds Negation (Some (truth_argument f)) negated least greatest h = negated f h
  prefix-holds Negation (Some (number_argument t)) negated least greatest h = tt
  prefix-holds Negation (Some (set_argument t)) negated least greatest h = tt
  prefix-holds Minimum None negated least greatest h = tt
  prefix-holds Minimum (Some (truth_argument f)) negated least greatest h = tt
  prefix-holds Minimum (Some (number_argument t)) negated least greatest h = tt
  prefix-holds Minimum (Some (set_argument t)) negated least greatest h = least t h
  prefix-holds Maximum None negated least greatest h = tt
  prefix-holds Maximum (Some (truth_argument f)) negated least greatest h = tt
  prefix-holds Maximum (Some (number_argument t)) negated least greatest h = tt
  prefix-holds Maximum (Some (set_argument t)) negated least greatest h = greatest t h

  pub bracket-holds : (b : Before) (k : Bracket) (a : Option Argument) →
      ((x : Argument) → A x → P x) →
      ((t : SetTerm) → A (set_argument t) → P (truth_argument (tree.emptiness t))) →
      ((f : Form) → A (truth_argument f) → P (truth_argument (tree.restrict f))) →
      ((f : Form) → A (truth_argument f) → P (truth_argument (tree.exported b.exports f))) → If A a → If P (typed_bracket b k a)
  bracket-holds b Parentheses None same emptied limited sent h = tt
  bracket-holds b Parentheses (Some a) same emptied limited sent h = same a h
  bracket-holds b Emptiness None same emptied limited sent h = tt
  bracket-holds b Emptiness (Some (truth_argument f)) same emptied limited sent h = tt
  bracket-holds b Emptiness (Some (number_argument t)) same emptied limited sent h = tt
  bracket-holds b Emptiness (Some (set_argument t)) same emptied limited sent h = emptied t h
  bracket-holds b Restriction None same emptied limited sent h = tt
  bracket-holds b Restriction (Some (truth_argument f)) same emptied limited sent h = limited f h
  bracket-holds b Restriction (Some (number_argument t)) same emptied limited sent h = tt
  bracket-holds b Restriction (Some (set_argument t)) same emptied limited sent h = tt
  bracket-holds b (Export text_at file) None same emptied limited sent h = tt
  bracket-holds b (Export text_at file) (Some (truth_argument f)) same emptied limited sent h = sent f h
  bracket-holds b (Export text_at file) (Some (number_argument t)) same emptied limited sent h = tt
  bracket-holds b (Export text_at file) (Some (set_argument t)) same emptied limited sent h = tt

module _ (P A B : Argument → Type 0) where
  -- connectives of two formulas, and operations of two sets
  abbrev pub TwoFormulas : (Form → Form → Form) → Type 0
  TwoFormulas make = (f g : Form) → A (truth_argument f) → B (truth_argument g) → P (truth_argument (make f g))

  abbrev pub TwoSets : (SetTerm → SetTerm → SetTerm) → Type 0
  TwoSets make = (t u : SetTerm) → A (set_argument t) → B (set_argument u) → P (set_argument (make t u))

  -- what holds of each operator between operands
  pub record Combines : Type 0 where
    pub implied : TwoFormulas (λ f g. tree.implication f g)
    pub equated : TwoFormulas (λ f g. tree.equivalence f g)
    pub numbers : (q : Rel) → RelatesNumbers q → (t u : Term) → A (number_argument t) → B (number_argument u) → P (truth_argument (tree.comparison q t u))
    pub sets : (q : Rel) → RelatesSets q → (t u : SetTerm) → A (set_argument t) → B (set_argument u) → P (truth_argument (tree.set_comparison q t u))
    pub members : (positive : Bool) (t : Term) (u : SetTerm) → A (number_argument t) → B (set_argument u) → P (truth_argument (tree.membership positive t u))
    pub united : TwoSets (λ t u. tree.union t u)
    pub met : TwoSets (λ t u. tree.intersection t u)
    pub left : TwoSets (λ t u. tree.difference t u)

  of-formulas : (make : Form → Form → Form) (a c : Option Argument) → TwoFormulas make → If A a → If B c → If P (formula_of_two make a c)
  of-formulas make None c made h k = tt
  of-formulas make (Some (truth_argument f)) None made h k = tt
  of-formulas make (Some (truth_argument f)) (Some (truth_argument g)) made h k = made f g h k
  of-formulas make (Some (truth_argument f)) (Some (number_argument u)) made h k = tt
  of-formulas make (Some (truth_argument f)) (Some (set_argument u)) made h k = tt
  of-formulas make (Some (number_argument t)) c made h k = tt
  of-formulas make (Some (set_argument t)) c made h k = tt

  of-sets : (make : SetTerm → SetTerm → SetTerm) (a c : Option Argument) → TwoSets make → If A a → If B c → If P (set_of_two make a c)
  of-sets make None c made h k = tt
  of-sets make (Some (truth_argument f)) c made h k = tt
  of-sets make (Some (number_argument t)) c made h k = tt
  of-sets make (Some (set_argument t)) None made h k = tt
  of-sets make (Some (set_argument t)) (Some (truth_argument g)) made h k = tt
  of-sets make (Some (set_argument t)) (Some (number_argument u)) made h k = tt
  of-sets make (Some (set_argument t)) (Some (set_argument u)) made h k = made t u h k

  pub binary-holds : (op : Binary) (a c : Option Argument) → Combines → If A a → If B c → If P (typed_binary op a c)
  binary-holds Implication a c all h k = of-formulas (λ f g. tree.implication f g) a c all.implied h k
  binary-holds Equivalence a c all h k = of-formulas (λ f g. tree.equivalence f g) a c all.equated h k
  binary-holds (Relation r) a c all h k = relation-holds P A B r a c all.numbers all.sets all.members h k
  binary-holds Union a c all h k = of-sets (λ t u. tree.union t u) a c all.united h k
  binary-holds Intersection a c all h k = of-sets (λ t u. tree.intersection t u) a c all.met h k
  binary-holds Difference a c all h k = of-sets (λ t u. tree.difference t u) a c all.left h k
