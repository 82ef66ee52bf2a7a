use Rattle.ms_parse_grammar.proofs.Views.{form_of-True, form_of-False, form_of-Whole, form_of-Number}
use Rattle.ms_parse_steps.specs.inner.Stack.{stack_of}
use Rattle.ms_parse_steps.proofs.input.Input.begin_terminal.Goals as goal

pub returns-in-True : goal.returns-in-True
returns-in-True c context bytes other = rw c.in-True.is (rw (form_of-True c.args.at) at (c.begin_atom.ensures context c.args.self.file c.args.self.tokens.now c.args.stack.now.items))

pub returns-in-False : goal.returns-in-False
returns-in-False c context bytes other = rw c.in-False.is (rw (form_of-False c.args.at) at (c.begin_atom-in-False.ensures context c.args.self.file c.args.self.tokens.now c.args.stack.now.items))

pub returns-in-Dollar : goal.returns-in-Dollar
returns-in-Dollar c context bytes other = rw c.in-Dollar.is (rw (form_of-Whole c.args.at) at (c.begin_atom-in-Dollar.ensures context c.args.self.file c.args.self.tokens.now c.args.stack.now.items))

pub returns-in-Number : goal.returns-in-Number
returns-in-Number c context bytes other = rw c.in-Number.is (rw (form_of-Number c.in-Number.number c.args.at) at (c.begin_atom-in-Number.ensures context c.args.self.file c.args.self.tokens.now c.args.stack.now.items))

pub returns-in-Empty : goal.returns-in-Empty
returns-in-Empty c context bytes other = rw c.in-Empty.is (c.begin_empty.ensures context)

pub returns-in-Pconst : goal.returns-in-Pconst
returns-in-Pconst c context bytes other = rw c.in-Pconst.is (c.begin_pconst.ensures context)

pub returns-in-Import : goal.returns-in-Import
returns-in-Import c context bytes other = rw c.in-Import.is (c.begin_import.ensures context)

pub returns-in-Restrict : goal.returns-in-Restrict
returns-in-Restrict c context bytes other = rw c.in-Restrict.is (c.begin_restrict.ensures context)

pub returns-in-Export : goal.returns-in-Export
returns-in-Export c context bytes other = rw c.in-Export.is (c.begin_export.ensures context)

pub returns-in-OpenCurly : goal.returns-in-OpenCurly
returns-in-OpenCurly c context bytes other = rw c.in-OpenCurly.is (c.begin_list.ensures context)

pub returns-in-OpenRound : goal.returns-in-OpenRound
returns-in-OpenRound c context bytes other = rw c.in-OpenRound.is (c.begin_bracket.ensures context c.args.self.file c.args.self.tokens.now)

pub returns-in-Prefix : goal.returns-in-Prefix
returns-in-Prefix c context bytes other = rw c.in-Prefix.is (c.begin_prefix.ensures context c.args.self.file c.args.self.tokens.now)

pub returns-in-Quantifier : goal.returns-in-Quantifier
returns-in-Quantifier c context bytes other =
    let lent = stack_of c.deref.result.now in
    rw c.in-Quantifier.is (rw c.deref.ensures.value at (rw (c.first_variable-outcome.ensures context lent) at (c.begin_binding.ensures context c.args.self.file c.args.self.tokens.now)))

pub returns-in-Let : goal.returns-in-Let
returns-in-Let c context bytes other =
    let lent = stack_of c.deref-in-Let.result.now in
    rw c.in-Let.is (rw c.deref-in-Let.ensures.value at (rw (c.first_part-outcome.ensures context lent) at (c.begin_binding-in-Let.ensures context c.args.self.file c.args.self.tokens.now)))
