use Rattle.std.proofs.Common.{sym, ap, ◌∙◌}
use Rattle.ms_parse_grammar.specs.Tree.{variables, constant, predicate}
use Rattle.ms_parse_grammar.specs.View.{variables_of, declaration_of, expression_of}
use Rattle.ms_names_scopes.specs.inner.Declaration.{known_at}
use Rattle.ms_names.proofs.Told.{told-same}
use Rattle.ms_names.proofs.outcome.kind.Goals as goal

pub returns-in_ok-made-in-Vars-clause-state : goal.returns-in_ok-made-in-Vars-clause-state
returns-in_ok-made-in-Vars-clause-state c = λ taken.
    told-same c.args.checker.now c.declare_globals.new.checker (known_at c.args.checker.now c.args.count taken)
    (ap (λ vs. variables (variables_of vs)) c.slice.ensures ∙ ap declaration_of (sym c.in-Vars.is)) (c.in_ok-made-in-Vars.ensures.state taken)

pub returns-in_ok-declare_constant-in-Const-clause-state : goal.returns-in_ok-declare_constant-in-Const-clause-state
returns-in_ok-declare_constant-in-Const-clause-state c = λ taken.
    told-same c.args.checker.now c.declare_constant.new.checker (known_at c.args.checker.now c.args.count taken)
    (ap (constant c.in-Const.at c.in-Const.name) c.slice-in-Const.ensures ∙ ap declaration_of (sym c.in-Const.is)) (c.in_ok-declare_constant-in-Const.ensures c.args.count taken)

pub returns-in_ok-made-in-Pred-clause-state : goal.returns-in_ok-made-in-Pred-clause-state
returns-in_ok-made-in-Pred-clause-state c = λ taken.
    told-same c.args.checker.now c.declare_predicate.new.checker (known_at c.args.checker.now c.args.count taken)
    (ap (λ vs. predicate c.in-Pred.field-0 c.in-Pred.at c.in-Pred.name (variables_of vs) (expression_of c.in-Pred.body)) c.slice-in-Pred.ensures ∙ ap declaration_of (sym c.in-Pred.is))
    (c.in_ok-made-in-Pred.ensures.state c.args.count taken c.in-Pred.field-0)

pub returns-in_ok-made-in-Default-clause-state : goal.returns-in_ok-made-in-Default-clause-state
returns-in_ok-made-in-Default-clause-state c = λ taken.
    told-same c.args.checker.now c.declare_default.new.checker (known_at c.args.checker.now c.args.count taken) (ap declaration_of (sym c.in-Default.is)) (c.in_ok-made-in-Default.ensures.state c.args.count taken)

pub returns-in_ok-made-in-Formula-clause-state : goal.returns-in_ok-made-in-Formula-clause-state
returns-in_ok-made-in-Formula-clause-state c = λ taken.
    told-same c.args.checker.now c.declare_formula.new.checker (known_at c.args.checker.now c.args.count taken) (ap declaration_of (sym c.in-Formula.is)) (c.in_ok-made-in-Formula.ensures.state c.args.count taken)

pub returns-in_ok-made-in-Goal-clause-state : goal.returns-in_ok-made-in-Goal-clause-state
returns-in_ok-made-in-Goal-clause-state c = λ taken.
    told-same c.args.checker.now c.declare_formula-in-Goal.new.checker (known_at c.args.checker.now c.args.count taken) (ap declaration_of (sym c.in-Goal.is)) (c.in_ok-made-in-Goal.ensures.state c.args.count taken)
