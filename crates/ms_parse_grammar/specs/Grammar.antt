-- The grammar of the linear modes of MONA (MONA Version 1.4 User Manual, Klarlund and Møller 2001): which trees have
-- the form that it asks for. How tightly each operator binds, where a body that reaches to the right may stand, and
-- where the relation `in` may stand.
use Rattle.std.specs.Prelude.{◌≡◌, ℕ, suc, ◌≤◌, max, Bool, true, false, ◌||◌}
use Rattle.ms_logic.specs.declared.mode.Order.{Order}
use Rattle.ms_logic.specs.declared.mode.Rel.TheVariants.{Equal, Differs, Less, AtMost, Greater, AtLeast, Member, NotMember, Sub}
use Rattle.ms_parse_grammar.specs.Tree.{Prefix, Negation, Minimum, Maximum, Binary, Implication, Equivalence, Relation, Union, Intersection, Difference, Junction, Conjunction, Disjunction}
use Rattle.ms_parse_grammar.specs.Tree.{Expression, atom, prefixed, binary, joined, shifted, enclosed, listed, quantified, let_in, Expressions, no_expressions, and_expression, Variables, no_variables, and_variable, unrestricted, restricted, Parts, no_parts, and_part}

-- The levels, from the loosest: 0 `<=>`, 1 `=>`, 2 `|`, 3 `&`, 4 `~` and binders, 5 relations, 6 `union`, 7 `inter`,
-- 8 `\`, 9 `+` and `-`, 10 `min` and `max`, 11 names, numbers and whatever ends with a bracket.

abbrev pub binary_level : Binary → ℕ
binary_level Equivalence = 0
binary_level Implication = 1
binary_level (Relation r) = 5
binary_level Union = 6
binary_level Intersection = 7
binary_level Difference = 8

-- The least level of a left operand. `<=>`, `union`, `inter` and `\` group to the left, so an operand of their own
-- level stands there without brackets. Relations do not group at all.
abbrev pub left_level : Binary → ℕ
left_level Equivalence = 0
left_level Implication = 2
left_level (Relation r) = 6
left_level Union = 6
left_level Intersection = 7
left_level Difference = 8

-- The least level of a right operand. `=>` groups to the right.
abbrev pub right_level : Binary → ℕ
right_level Equivalence = 1
right_level Implication = 1
right_level (Relation r) = 6
right_level Union = 7
right_level Intersection = 8
right_level Difference = 9

abbrev pub prefix_level : Prefix → ℕ
prefix_level Negation = 4
prefix_level Minimum = 10
prefix_level Maximum = 10

-- `~` may be repeated, `min` and `max` may not
abbrev pub operand_level : Prefix → ℕ
operand_level Negation = 4
operand_level Minimum = 11
operand_level Maximum = 11

-- the operands of `|` and `&` are of a higher level, so that all operands at one level make one list
abbrev pub junction_level : Junction → ℕ
junction_level Disjunction = 2
junction_level Conjunction = 3

abbrev pub level : Expression → ℕ
level (atom at a) = 11
level (prefixed at op e) = prefix_level op
level (binary at op l r) = binary_level op
level (joined at op es) = junction_level op
level (shifted at e n) = 9
level (enclosed at b e) = 11
level (listed at l es) = 11
level (quantified at q o vs body) = 4
level (let_in at o parts body) = 4

-- The expression ends with the body of a binder, and no bracket closes behind it. What follows it would belong to
-- that body, which reaches as far to the right as it can.
abbrev mutual
  pub ends_open : Expression → Bool
  ends_open (atom at a) = false
  ends_open (prefixed at op e) = ends_open e
  ends_open (binary at op l r) = ends_open r
  ends_open (joined at op es) = last_ends_open es
  ends_open (shifted at e n) = false
  ends_open (enclosed at b e) = false
  ends_open (listed at l es) = false
  ends_open (quantified at q o vs body) = true
  ends_open (let_in at o parts body) = true

  pub last_ends_open : Expressions → Bool
  last_ends_open no_expressions = false
  last_ends_open (and_expression before e) = ends_open e

abbrev pub is_in : Binary → Bool
is_in (Relation Member) = true
is_in (Relation Equal) = false
is_in (Relation Differs) = false
is_in (Relation Less) = false
is_in (Relation AtMost) = false
is_in (Relation Greater) = false
is_in (Relation AtLeast) = false
is_in (Relation NotMember) = false
is_in (Relation Sub) = false
is_in Implication = false
is_in Equivalence = false
is_in Union = false
is_in Intersection = false
is_in Difference = false

-- the relation `in` stands in the expression outside all of its brackets
abbrev mutual
  pub has_bare_in : Expression → Bool
  has_bare_in (atom at a) = false
  has_bare_in (prefixed at op e) = has_bare_in e
  has_bare_in (binary at op l r) = is_in op || has_bare_in l || has_bare_in r
  has_bare_in (joined at op es) = some_bare_in es
  has_bare_in (shifted at e n) = has_bare_in e
  has_bare_in (enclosed at b e) = false
  has_bare_in (listed at l es) = false
  has_bare_in (quantified at q o vs body) = domain_bare_in vs || has_bare_in body
  has_bare_in (let_in at o parts body) = part_bare_in parts || has_bare_in body

  pub some_bare_in : Expressions → Bool
  some_bare_in no_expressions = false
  some_bare_in (and_expression before e) = some_bare_in before || has_bare_in e

  pub domain_bare_in : Variables → Bool
  domain_bare_in no_variables = false
  domain_bare_in (and_variable before at o n unrestricted) = domain_bare_in before
  domain_bare_in (and_variable before at o n (restricted d)) = domain_bare_in before || has_bare_in d

  pub part_bare_in : Parts → Bool
  part_bare_in no_parts = false
  part_bare_in (and_part before at n value) = part_bare_in before || has_bare_in value

-- at least one entry, and at least two
abbrev pub IsVariableList : Variables → Type 0
IsVariableList no_variables = ⊥
IsVariableList (and_variable before at o n d) = Unit {0}

abbrev pub IsPartList : Parts → Type 0
IsPartList no_parts = ⊥
IsPartList (and_part before at n value) = Unit {0}

abbrev pub HasTwo : Expressions → Type 0
HasTwo no_expressions = ⊥
HasTwo (and_expression no_expressions e) = ⊥
HasTwo (and_expression (and_expression before d) e) = Unit {0}

-- each variable has this order
abbrev pub AreOfOrder : Order → Variables → Type 0
AreOfOrder o no_variables = Unit {0}
AreOfOrder o (and_variable before at p n d) = AreOfOrder o before × (p ≡ o)

abbrev mutual
  pub IsGrammatical : Expression → Type 0
  IsGrammatical (atom at a) = Unit {0}
  IsGrammatical (prefixed at op e) = (operand_level op ≤ level e) × IsGrammatical e
  IsGrammatical (binary at op l r) =
      (left_level op ≤ level l) × (ends_open l ≡ false) × IsGrammatical l × (right_level op ≤ level r) × IsGrammatical r
  IsGrammatical (joined at op es) = HasTwo es × AreOperands (suc (junction_level op)) es
  IsGrammatical (shifted at e n) = (9 ≤ level e) × (ends_open e ≡ false) × IsGrammatical e
  IsGrammatical (enclosed at b e) = IsGrammatical e
  IsGrammatical (listed at l es) = AreGrammatical es
  IsGrammatical (quantified at q o vs body) = IsVariableList vs × AreOfOrder o vs × HaveGrammaticalDomains vs × IsGrammatical body
  IsGrammatical (let_in at o parts body) = IsPartList parts × HaveGrammaticalValues parts × IsGrammatical body

  pub AreGrammatical : Expressions → Type 0
  AreGrammatical no_expressions = Unit {0}
  AreGrammatical (and_expression before e) = AreGrammatical before × IsGrammatical e

  -- operands of `&` or `|`, of at least this level; what another operand follows does not end in an open body
  pub AreOperands : ℕ → Expressions → Type 0
  AreOperands least no_expressions = Unit {0}
  AreOperands least (and_expression before e) = AreOperands least before × (last_ends_open before ≡ false) × (least ≤ level e) × IsGrammatical e

  pub HaveGrammaticalDomains : Variables → Type 0
  HaveGrammaticalDomains no_variables = Unit {0}
  HaveGrammaticalDomains (and_variable before at o n unrestricted) = HaveGrammaticalDomains before
  HaveGrammaticalDomains (and_variable before at o n (restricted d)) = HaveGrammaticalDomains before × IsGrammatical d

  -- on the right side of a part of a `let`, `in` stands only inside brackets
  pub HaveGrammaticalValues : Parts → Type 0
  HaveGrammaticalValues no_parts = Unit {0}
  HaveGrammaticalValues (and_part before at n value) = HaveGrammaticalValues before × (has_bare_in value ≡ false) × IsGrammatical value

-- how many expressions stand one in the other, restrictions and right sides included
abbrev mutual
  pub depth : Expression → ℕ
  depth (atom at a) = 1
  depth (prefixed at op e) = suc (depth e)
  depth (binary at op l r) = suc (max (depth l) (depth r))
  depth (joined at op es) = suc (depth_of_all es)
  depth (shifted at e n) = suc (depth e)
  depth (enclosed at b e) = suc (depth e)
  depth (listed at l es) = suc (depth_of_all es)
  depth (quantified at q o vs body) = suc (max (depth_of_domains vs) (depth body))
  depth (let_in at o parts body) = suc (max (depth_of_values parts) (depth body))

  pub depth_of_all : Expressions → ℕ
  depth_of_all no_expressions = 0
  depth_of_all (and_expression before e) = max (depth_of_all before) (depth e)

  pub depth_of_domains : Variables → ℕ
  depth_of_domains no_variables = 0
  depth_of_domains (and_variable before at o n unrestricted) = depth_of_domains before
  depth_of_domains (and_variable before at o n (restricted d)) = max (depth_of_domains before) (depth d)

  pub depth_of_values : Parts → ℕ
  depth_of_values no_parts = 0
  depth_of_values (and_part before at n value) = max (depth_of_values before) (depth value)

-- the greatest depth of an expression
abbrev pub greatest_depth : ℕ
greatest_depth = 300

-- an expression of a source: grammatical, and not too deep
pub record IsExpression (e : Expression) : Type 0 where
  pub grammatical : IsGrammatical e
  pub shallow : depth e ≤ greatest_depth
