use Rattle.std.proofs.Common.{ℕ, arith, length-drop}
use Rattle.std.proofs.lemmas.List.{take_rest}
use Rattle.ms_text.proofs.Lists.{token_behind_gap, fault_behind_gap}
use Rattle.ms_text.proofs.lexer.next_token.Goals as goal

pub returns-in-Ok-clause-token : goal.returns-in-Ok-clause-token
returns-in-Ok-clause-token c =
    let bound = rw take_rest at c.gap_length.ensures.bound in
    let within = rw take_rest at c.in-Ok.ensures.within in
    token_behind_gap c.args.bytes.now c.args.from c.gap_length.result c.in-Ok.length c.in-Ok.kind (omega (arith, length-drop {A = ℕ}))
    (rw take_rest at c.gap_length.ensures.gap) (rw take_rest at c.in-Ok.ensures.token)

pub returns-in-Err-clause-fault : goal.returns-in-Err-clause-fault
returns-in-Err-clause-fault c =
    let bound = rw take_rest at c.gap_length.ensures.bound in
    fault_behind_gap c.args.bytes.now c.args.from c.gap_length.result c.in-Err.cause (omega (arith, length-drop {A = ℕ}))
    (rw take_rest at c.gap_length.ensures.gap) (rw take_rest at c.in-Err.ensures.fault)
