-- How the levels of operators fit together: what stands to the left of an operator ends before it.
use Rattle.std.proofs.Common.{◌≡◌, ℕ, suc, ◌≤◌, false, sym, arith}
use Rattle.std.proofs.lemmas.Bool.{false≢true}
use Rattle.ms_parse_grammar.specs.declared.operator.Prefix.{Prefix}
use Rattle.ms_parse_grammar.specs.declared.operator.Prefix.TheVariants.{Negation}
use Rattle.ms_parse_grammar.specs.declared.operator.Binary.{Binary}
use Rattle.ms_parse_grammar.specs.declared.operator.Binary.TheVariants.{Equivalence}
use Rattle.ms_parse_grammar.specs.declared.operator.Junction.{Junction}
use Rattle.ms_parse_grammar.specs.declared.operator.Junction.TheVariants.{Conjunction}
use Rattle.ms_parse_grammar.specs.Tree.{Expression, atom, prefixed, binary, joined, shifted, enclosed, listed, quantified, let_in, Expressions, no_expressions, and_expression}
use Rattle.ms_parse_grammar.specs.Grammar.{binary_level, left_level, right_level, prefix_level, operand_level, junction_level, level, ends_open, last_ends_open, IsGrammatical, AreOperands}

-- Each operator whose operand ends where the expression ends binds at least this tightly, so that an operator with this
-- bound behind the expression ends it.
abbrev mutual
  pub Yields : ℕ → Expression → Type 0
  Yields b (atom at a) = Unit {0}
  Yields b (prefixed at op e) = (b ≤ operand_level op) × Yields b e
  Yields b (binary at op l r) = (b ≤ right_level op) × Yields b r
  Yields b (joined at op es) = (b ≤ junction_level op) × LastYields b es
  Yields b (shifted at e n) = Unit {0}
  Yields b (enclosed at x e) = Unit {0}
  Yields b (listed at l es) = Unit {0}
  Yields b (quantified at q o vs body) = (b ≤ 0) × Yields b body
  Yields b (let_in at o parts body) = (b ≤ 0) × Yields b body

  pub LastYields : ℕ → Expressions → Type 0
  LastYields b no_expressions = Unit {0}
  LastYields b (and_expression es e) = Yields b e

-- before a symbol that is no operator each expression ends
mutual
  pub yields-zero : (e : Expression) → Yields 0 e
  yields-zero (atom at a) = tt
  yields-zero (prefixed at op e) = (omega arith, yields-zero e)
  yields-zero (binary at op l r) = (omega arith, yields-zero r)
  yields-zero (joined at op es) = (omega arith, last-yields-zero es)
  yields-zero (shifted at e n) = tt
  yields-zero (enclosed at x e) = tt
  yields-zero (listed at l es) = tt
  yields-zero (quantified at q o vs body) = (omega arith, yields-zero body)
  yields-zero (let_in at o parts body) = (omega arith, yields-zero body)

  pub last-yields-zero : (es : Expressions) → LastYields 0 es
  last-yields-zero no_expressions = tt
  last-yields-zero (and_expression es e) = yields-zero e

-- How the level of an operator and the least level of its last operand stand to each other: the operand's is no lower, and
-- it is higher from the relations on.
pub record Rises (own last : ℕ) : Type 0 where
  pub low : own ≤ last
  pub positive : 1 ≤ last
  pub high : 5 ≤ own → suc own ≤ last

infix-rises : (op : Binary) → Rises (binary_level op) (right_level op)
infix-rises Equivalence = record { low = omega arith; positive = omega arith; high = λ h. omega arith }
infix-rises _ = record { low = omega arith; positive = omega arith; high = λ h. omega arith }

prefix-rises : (op : Prefix) → Rises (prefix_level op) (operand_level op)
prefix-rises Negation = record { low = omega arith; positive = omega arith; high = λ h. omega arith }
prefix-rises _ = record { low = omega arith; positive = omega arith; high = λ h. omega arith }

junction-rises : (op : Junction) → Rises (junction_level op) (junction_level op)
junction-rises Conjunction = record { low = omega arith; positive = omega arith; high = λ h. omega arith }
junction-rises _ = record { low = omega arith; positive = omega arith; high = λ h. omega arith }

-- an operator that wants this level on its left, and binds more loosely than `b`, ends each operator of that level
abbrev pub IsTight : ℕ → ℕ → Type 0
IsTight least b = (own last : ℕ) → Rises own last → least ≤ own → (b ≤ last) × (least ≤ last)

mutual
  pub yields : (least b : ℕ) → IsTight least b → (e : Expression) → IsGrammatical e → ends_open e ≡ false → least ≤ level e → Yields b e
  yields least b tight (atom at a) good closed at_least = tt
  yields least b tight (prefixed at op e) good closed at_least =
      let fits = tight (prefix_level op) (operand_level op) (prefix-rises op) at_least in
      let enough : least ≤ level e = omega (arith, fits.1, good.0) in
      (fits.0, yields least b tight e good.1 closed enough)
  yields least b tight (binary at op l r) good closed at_least =
      let fits = tight (binary_level op) (right_level op) (infix-rises op) at_least in
      let enough : least ≤ level r = omega (arith, fits.1, good.3) in
      (fits.0, yields least b tight r good.4 closed enough)
  yields least b tight (joined at op es) good closed at_least =
      ((tight (junction_level op) (junction_level op) (junction-rises op) at_least).0, yields-last least b tight (suc (junction_level op)) es (omega arith) good.1 closed)
  yields least b tight (shifted at e n) good closed at_least = tt
  yields least b tight (enclosed at x e) good closed at_least = tt
  yields least b tight (listed at l es) good closed at_least = tt
  yields least b tight (quantified at q o vs body) good closed at_least = absurd (false≢true (sym closed))
  yields least b tight (let_in at o parts body) good closed at_least = absurd (false≢true (sym closed))

  yields-last : (least b : ℕ) → IsTight least b → (higher : ℕ) (es : Expressions) → least ≤ higher → AreOperands higher es → last_ends_open es ≡ false → LastYields b es
  yields-last least b tight higher no_expressions at_least good closed = tt
  yields-last least b tight higher (and_expression es e) at_least good closed =
      let enough : least ≤ level e = omega (arith, good.2) in
      yields least b tight e good.3 closed enough

pub tight-infix : (op : Binary) → IsTight (left_level op) (suc (binary_level op))
tight-infix Equivalence own last rises at_least = (omega arith, omega arith)
tight-infix _ own last rises at_least = (omega arith, omega arith)

pub tight-joining : (op : Junction) → IsTight (suc (junction_level op)) (suc (junction_level op))
tight-joining op own last rises at_least = (omega arith, omega arith)

pub tight-sign : IsTight 9 10
tight-sign own last rises at_least = (omega arith, omega arith)
