use Rattle.std.proofs.Common.{arith}
use Rattle.ms_text.proofs.KeptTokens.{few_tokens}
use Rattle.ms_text.proofs.token_list.Tokens.len.Goals as goal

pub overflow_cast-result : goal.overflow_cast-result
overflow_cast-result c =
    omega (arith, c.self.invariant.1, few_tokens c.self.inside.bytes c.self.inside.kept c.self.invariant.0, c.len.ensures)

pub returns-clause-bound : goal.returns-clause-bound
returns-clause-bound c =
    omega (arith, c.self.invariant.1, few_tokens c.self.inside.bytes c.self.inside.kept c.self.invariant.0, c.len.ensures)
