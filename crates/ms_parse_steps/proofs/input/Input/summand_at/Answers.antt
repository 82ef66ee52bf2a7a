use Rattle.std.proofs.Common.{rules, Bool, ◌≡◌, ◌≤◌, ◌<◌, ◌+◌, ◌-◌, leb, cond, suc, length, true, List, ◌∙◌, arith}
use Rattle.std.proofs.lemmas.Bool.{le-leb, lt-leb}
use Rattle.ms_parse_grammar.specs.Grammar.{level, depth, greatest_depth}
use Rattle.ms_parse_grammar.specs.Reads.{int_symbol, place, Starts}
use Rattle.ms_parse_grammar.specs.Symbol.{Placed}
use Rattle.ms_parse_grammar.specs.Tree.{Expression, shifted}
use Rattle.ms_parse_grammar.specs.View.{expression_of}
use Rattle.ms_parse_steps.specs.inner.Machine.{Context, Frame, holding, shift_int, took, misplaced, too_deep, int_then}
use Rattle.ms_parse_steps.specs.inner.Stack.{stack_of}
use Rattle.ms_parse_steps.specs.inner.Terminals.{behind, NoInt}
use Rattle.ms_parse_steps.proofs.Frames.{chosen_yes, chosen_no}
use Rattle.ms_parse_steps.proofs.Stacks.{stack_length}
use Rattle.ms_parse_steps.proofs.Taking.{int_found, int_missing}
use Rattle.ms_parse_steps.proofs.input.Input.summand_at.Goals as goal

-- an expression that binds tightly enough, where the depth leaves room for a sum
shifts : (minus : Bool) (e : Expression) (st : List Frame) (context : Context) (from ts : List Placed) → 9 ≤ level e → length st + suc (depth e) ≤ greatest_depth
    → shift_int greatest_depth context minus e st from ts ≡ int_then minus (λ k. took (holding context (shifted (place e) e k) st)) ts
shifts minus e st context from ts high room =
    let n = length st + suc (depth e) in
    let next = int_then minus (λ k. took (holding context (shifted (place e) e k) st)) ts in
    chosen_yes (leb 9 (level e)) (cond (leb n greatest_depth) next (too_deep from)) (misplaced from) (le-leb 9 (level e) high) ∙ chosen_yes (leb n greatest_depth) next (too_deep from) (le-leb n greatest_depth room)

pub returns-then-not-may_shift-clause-step : goal.returns-then-not-may_shift-clause-step
returns-then-not-may_shift-clause-step c context =
    let e = expression_of c.args.operand.now.expr in
    let st = stack_of c.args.stack.now in
    let n = length st + suc (depth e) in
    let from = behind c.args.self.file c.args.self.tokens.now (c.args.i - 1) in
    let next = int_then c.args.minus (λ k. took (holding context (shifted (place e) e k) st)) (behind c.args.self.file c.args.self.tokens.now c.args.i) in
    let high : 9 ≤ level e = omega (arith, c.level.ensures) in
    let full : greatest_depth < n = omega (arith, c.may_shift.ensures.no c.if-not-may_shift.true, stack_length c.args.stack.now) in
    chosen_yes (leb 9 (level e)) (cond (leb n greatest_depth) next (too_deep from)) (misplaced from) (le-leb 9 (level e) high) ∙ chosen_no (leb n greatest_depth) next (too_deep from) (lt-leb n greatest_depth full) ∙ search rules

pub returns-in-None-clause-step : goal.returns-in-None-clause-step
returns-in-None-clause-step c context =
    let e = expression_of c.args.operand.now.expr in
    let st = stack_of c.args.stack.now in
    let ts = behind c.args.self.file c.args.self.tokens.now c.args.i in
    let none : NoInt ts = search rules in
    shifts c.args.minus e st context (behind c.args.self.file c.args.self.tokens.now (c.args.i - 1)) ts (omega (arith, c.level.ensures)) (omega (arith, c.may_shift.ensures.yes c.if-not-may_shift.false, stack_length c.args.stack.now))
    ∙ int_missing c.args.minus (λ k. took (holding context (shifted (place e) e k) st)) ts none

pub returns-in-Some-clause-step : goal.returns-in-Some-clause-step
returns-in-Some-clause-step c context =
    let e = expression_of c.args.operand.now.expr in
    let st = stack_of c.args.stack.now in
    let found = c.in-Some.found in
    let ts = behind c.args.self.file c.args.self.tokens.now c.args.i in
    let rest = behind c.args.self.file c.args.self.tokens.now found.1 in
    let starts : Starts true (int_symbol found.0.value) found.0.at ts rest = search rules in
    let is : found.0.minus ≡ c.args.minus = search rules in
    shifts c.args.minus e st context (behind c.args.self.file c.args.self.tokens.now (c.args.i - 1)) ts (omega (arith, c.level.ensures)) (omega (arith, c.may_shift.ensures.yes c.if-not-may_shift.false, stack_length c.args.stack.now))
    ∙ int_found c.args.minus (λ k. took (holding context (shifted (place e) e k) st)) found.0 ts rest starts is
