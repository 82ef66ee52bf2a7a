use Rattle.ms_parse_steps.proofs.context.Context.semicolon.Goals as goal

pub returns-in-Formula : goal.returns-in-Formula
returns-in-Formula c file lexed = rw c.in-Formula.is (c.declared.ensures file lexed)

pub returns-in_ok-domain-in-Global : goal.returns-in_ok-domain-in-Global
returns-in_ok-domain-in-Global c file lexed = rw c.in-Global.is (rw c.in_ok-domain-in-Global.ensures.ok at (c.last_global.ensures file lexed))

pub returns-in-Predicate : goal.returns-in-Predicate
returns-in-Predicate c file lexed = rw c.in-Predicate.is (c.declared-in-Predicate.ensures file lexed)

pub returns-in-Default : goal.returns-in-Default
returns-in-Default c file lexed = rw c.in-Default.is (c.declared-in-Default.ensures file lexed)

pub returns-in-Goal : goal.returns-in-Goal
returns-in-Goal c file lexed = rw c.in-Goal.is (c.declared-in-Goal.ensures file lexed)
