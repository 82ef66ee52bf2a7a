-- What is refused, and that it reads as no formula.
use Rattle.std.proofs.Common.{ℕ, ◌≤◌, [], ◌∷◌, length, length-append, ap, arith}
use Rattle.ms_edge.specs.declared.refusal.Refusal.{Refusal}
use Rattle.ms_text.specs.TokenList.{Lexed}
use Rattle.ms_presburger.specs.Tree.{Arithmetic, extent}
use Rattle.ms_presburger.specs.View.{arithmetic_of, IsWellFormed}
use Rattle.ms_presburger.specs.declared.linear.Problem.{Problem}
use Rattle.ms_presburger_parse.specs.Reading.{Reads, ReadsAsProblem}
use Rattle.ms_presburger_parse.specs.Refused.{IsProblemFault}
use Rattle.ms_presburger_parse.specs.Symbol.{semicolon, symbol_of, symbols}
use Rattle.ms_presburger_parse.specs.Grammar.{spelled}
use Rattle.ms_presburger_parse.proofs.Readings.{reading}
use Rattle.ms_presburger_parse.proofs.Extents.{extent_spelled}
use Rattle.ms_parse_stack.proofs.Faults.{IsFault}
use Rattle.ms_parse_stack.proofs.Tokens.{length-symbols_of}

-- the fault of a text, by what the machine tells of it
pub problem_fault : {file : ℕ} {lexed : Lexed} {refusal : Refusal} → IsFault reading file lexed refusal → IsProblemFault file lexed refusal
problem_fault h = record { reads_none = λ f reads. h.reads_none (f, reads); names = h.names }

-- what the code has read is well formed

pub few_parts : (lexed : Lexed) (f : Arithmetic) → Reads (symbols lexed) f → length lexed.tokens ≤ 67108864 → extent f ≤ 67108864
few_parts lexed f reads few =
    omega (arith, few, extent_spelled f, ap length reads.read.is_spelled, length-append (spelled f) (semicolon ∷ []), length-symbols_of symbol_of lexed lexed.tokens)

pub problem_well_formed : (lexed : Lexed) (problem : Problem) → ReadsAsProblem lexed problem → length lexed.tokens ≤ 67108864 → IsWellFormed problem
problem_well_formed lexed problem read few = record {
  names = read.names;
  few = few_parts lexed (arithmetic_of problem.formula) read.reads few;
  shallow = read.reads.shallow;
}
