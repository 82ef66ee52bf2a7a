use Rattle.std.proofs.Common.{[], ◌∷◌, ◌++◌, drop, length, sym, ap, subst, ◌∙◌, arith}
use Rattle.ms_text.specs.Fault.{HasFault, HasFaultBehind}
use Rattle.ms_text.specs.Gap.{IsGap}
use Rattle.ms_text.specs.TokenList.{BeginsWith, IsTokenList, place_behind}
use Rattle.ms_text.specs.inner.Kept.{tokens_in}
use Rattle.ms_text.proofs.KeptTokens.{keep_more}
use Rattle.ms_text.proofs.Lists.{ReadSoFar, read_all, read_to_fault, from_ok}
use Rattle.ms_text.proofs.OneFault.{no_fault}
use Rattle.ms_text.proofs.lexer.tokens.Goals as goal
use Rattle.ms_text.proofs.lexer.tokens.Goals.{In-Ok-None, After-refusal_of}

pub loop-token-preserved : goal.loop-token-preserved
loop-token-preserved c =
    let token = c.in-Ok-Some.token in
    let from = c.loop-token.from in
    let begins = rw c.in-Ok-Some.field-0-is at c.in-Ok-Some.ensures.token in
    let within = rw c.in-Ok-Some.field-0-is at c.in-Ok-Some.ensures.within in
    let pushed = from_ok c.push.result _ (sym c.is_err.ensures.value ∙ c.if-is_err.false) c.push.ensures.ok in
    record {
      same = c.loop-token.invariant.same;
      read = subst (λ all. ReadSoFar c.loop-token.bytes (place_behind token) (tokens_in c.loop-token.bytes all)) (sym (pushed ∙ ap (λ one. c.loop-token.all ++ one ∷ []) c.keep.ensures))
          (keep_more c.loop-token.bytes from c.loop-token.all token c.loop-token.invariant.read
          (subst (λ bytes. BeginsWith from (drop from bytes) token (drop (place_behind token) bytes)) c.slice.ensures begins)
          (omega (arith, within, ap length c.slice.ensures)));
    }

pub invariant_of-result : goal.invariant_of-result
invariant_of-result c =
    let is_gap = rw c.in-Ok-None.field-0-is at c.in-Ok-None.ensures.end in (
      read_all c.loop-token.bytes c.loop-token.from (tokens_in c.loop-token.bytes c.loop-token.all) c.loop-token.invariant.read (subst (λ bytes. IsGap (drop c.loop-token.from bytes) []) c.slice.ensures is_gap),
      omega (arith, ap length c.loop-token.invariant.same),
    )

-- the tokens make up the text
whole_list : (c : In-Ok-None) → IsTokenList 0 c.args.bytes (tokens_in c.loop-token.bytes c.loop-token.all)
whole_list c =
    let is_gap = rw c.in-Ok-None.field-0-is at c.in-Ok-None.ensures.end in
    subst (λ bytes. IsTokenList 0 bytes (tokens_in c.loop-token.bytes c.loop-token.all)) c.loop-token.invariant.same
    (read_all c.loop-token.bytes c.loop-token.from (tokens_in c.loop-token.bytes c.loop-token.all) c.loop-token.invariant.read
    (subst (λ bytes. IsGap (drop c.loop-token.from bytes) []) c.slice.ensures is_gap))

pub returns-in-Ok-None-clause-tokens : goal.returns-in-Ok-None-clause-tokens
returns-in-Ok-None-clause-tokens c = whole_list (goal.at.returns-in-Ok-None-clause-tokens c).In-Ok-None

pub returns-in-Ok-None-clause-faulty : goal.returns-in-Ok-None-clause-faulty
returns-in-Ok-None-clause-faulty c at cause fault =
    absurd (no_fault 0 c.args.bytes (tokens_in c.loop-token.bytes c.loop-token.all) fault.0 at cause (whole_list (goal.at.returns-in-Ok-None-clause-faulty c).In-Ok-None) fault.1)

-- the fault that was found is the text's
first_fault : (c : After-refusal_of) → HasFault c.args.bytes c.in-Err.fault.place c.in-Err.fault.cause
first_fault c =
    let fault = c.in-Err.fault in
    let from = c.loop-token.from in
    subst (λ bytes. HasFault bytes fault.place fault.cause) c.loop-token.invariant.same
    (read_to_fault c.loop-token.bytes from fault.place fault.cause (tokens_in c.loop-token.bytes c.loop-token.all) c.loop-token.invariant.read
    (subst (λ bytes. HasFaultBehind [] from (drop from bytes) fault.place fault.cause) c.slice.ensures c.in-Err.ensures.fault))

pub returns-in-Err-clause-refused : goal.returns-in-Err-clause-refused
returns-in-Err-clause-refused c =
    c.refusal_of.ensures c.args.bytes (first_fault (goal.at.returns-in-Err-clause-refused c).After-refusal_of)

pub returns-in-Err-clause-accepted : goal.returns-in-Err-clause-accepted
returns-in-Err-clause-accepted c all listed =
    let found = first_fault (goal.at.returns-in-Err-clause-accepted c).After-refusal_of in
    absurd (no_fault 0 c.args.bytes all found.0 c.in-Err.fault.place c.in-Err.fault.cause listed found.1)
