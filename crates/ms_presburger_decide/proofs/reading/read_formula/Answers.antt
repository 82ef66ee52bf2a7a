use Rattle.std.proofs.Common.{◌≡◌, ℕ, ◌⊎◌, ⊎_elim, inl, inr, List}
use Rattle.std.proofs.lemmas.Result.{IfErr-weaker, IfOk-weaker}
use Rattle.ms_app_solved.specs.Tokens.{HasNoTokens, no_tokens}
use Rattle.ms_app_solved.specs.Tokens as untold
use Rattle.ms_edge.specs.declared.refusal.Refusal.{Refusal}
use Rattle.ms_edge.specs.declared.refusal.Refusal.TheVariants.{Memory}
use Rattle.ms_edge.specs.Files.{Seen, between}
use Rattle.ms_presburger.specs.View.{arithmetic_of}
use Rattle.ms_presburger_decide.specs.Problem.{IsProblemOf, IsRefusedProblem, no_formula, no_memory, unread}
use Rattle.ms_presburger_parse.specs.Reading.{ReadsAsProblem}
use Rattle.ms_presburger_parse.specs.Refused.{IsProblemFault}
use Rattle.ms_presburger_decide.proofs.reading.read_formula.Goals as goal

-- a file without tokens has no formula
untaken : (seen : Seen) (name : List ℕ) (refusal : Refusal) (files : List (List ℕ)) → HasNoTokens seen name refusal files → (limit : ℕ) → IsRefusedProblem seen name limit refusal files
untaken seen name refusal files (untold.unread why none) limit = unread why none
untaken seen name refusal files (no_tokens bytes are why one) limit = no_formula bytes are (inl why) one
untaken seen name refusal files (untold.no_memory why) limit = no_memory why

pub returns-clause-problem : goal.returns-clause-problem
returns-clause-problem g c =
    let tokens = c.in-Ok.tokens in
    let are = c.in-Ok.ensures.tokens in
    IfOk-weaker c.read_problem.result (ReadsAsProblem tokens) (λ problem. IsProblemOf (g.F.Files.told c.args.files.now).held c.args.name.now (arithmetic_of problem.formula))
    (λ problem read. record { bytes = tokens.bytes; are_bytes = are.are_bytes; text = record { tokens = tokens.tokens; are_tokens = are.are_tokens; reads = read.reads } })
    c.read_problem.ensures.read

pub returns-clause-refused : goal.returns-clause-refused
returns-clause-refused g c =
    let tokens = c.in-Ok.tokens in
    let are = c.in-Ok.ensures.tokens in
    let seen = between (g.F.Files.told c.args.files.now) (g.F.Files.told c.read_tokens.new.files) in
    IfErr-weaker c.read_problem.result (λ refusal. (refusal ≡ Memory) ⊎ IsProblemFault 0 tokens refusal)
    (λ refusal. (limit : ℕ) → IsRefusedProblem seen c.args.name.now limit refusal c.read_tokens.new.names)
    (λ refusal why limit. ⊎_elim (λ memory. no_memory memory) (λ fault. no_formula tokens.bytes are.are_bytes (inr (tokens.tokens, are.are_tokens, fault)) c.in-Ok.ensures.noted) why)
    c.read_problem.ensures.refused

pub returns-in-Err-clause-refused : goal.returns-in-Err-clause-refused
returns-in-Err-clause-refused g c =
    untaken (between (g.F.Files.told c.args.files.now) (g.F.Files.told c.read_tokens.new.files)) c.args.name.now c.in-Err.refusal c.read_tokens.new.names c.in-Err.ensures.refused
