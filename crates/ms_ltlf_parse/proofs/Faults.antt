-- What is refused, and that it reads as no formula.
use Rattle.std.proofs.Common.{◌≡◌, ℕ, ◌≤◌, length, sym, ap, subst, arith}
use Rattle.ms_edge.specs.declared.refusal.Refusal.{Refusal}
use Rattle.ms_text.specs.TokenList.{Lexed}
use Rattle.ms_ltlf.specs.Tree.{depth}
use Rattle.ms_ltlf.specs.View.{temporal_of, IsWellFormed}
use Rattle.ms_ltlf.specs.declared.trace.Trace.{Trace}
use Rattle.ms_ltlf_parse.specs.Reading.{Reads, ReadsAsTrace, first_sights, greatest_depth}
use Rattle.ms_ltlf_parse.specs.Refused.{IsTraceFault}
use Rattle.ms_ltlf_parse.specs.Symbol.{symbol_of, symbols}
use Rattle.ms_parse_stack.specs.inner.Machine.{done}
use Rattle.ms_ltlf_parse.specs.inner.Reached.{reached}
use Rattle.ms_ltlf_parse.proofs.Names.{AreDifferent, different_first_sights, few_first_sights}
use Rattle.ms_ltlf_parse.proofs.Readings.{reading, reads_done}
use Rattle.ms_parse_stack.proofs.Faults.{IsFault}
use Rattle.ms_parse_stack.proofs.Tokens.{length-symbols_of}

-- the fault of a text, by what the machine tells of it
pub trace_fault : {file : ℕ} {lexed : Lexed} {refusal : Refusal} → IsFault reading file lexed refusal → IsTraceFault file lexed refusal
trace_fault h = record { reads_none = λ names f reads. h.reads_none (names, f, reads); names = h.names }

-- the code's names and formula

pub trace_read : (lexed : Lexed) (trace : Trace) → reached (symbols lexed) ≡ done (temporal_of trace.formula) → trace.names ≡ first_sights (symbols lexed) → depth (temporal_of trace.formula) ≤ greatest_depth → ReadsAsTrace lexed trace
trace_read lexed trace is names shallow =
    subst (λ x. Reads (symbols lexed) x (temporal_of trace.formula)) (sym names) (reads_done (symbols lexed) (temporal_of trace.formula) is shallow)

pub trace_well_formed : (lexed : Lexed) (trace : Trace) → ReadsAsTrace lexed trace → length lexed.tokens ≤ 67108864 → IsWellFormed trace
trace_well_formed lexed trace reads few = record {
  different = subst AreDifferent (sym reads.read.numbered) (different_first_sights (symbols lexed));
  few = omega (arith, few_first_sights (symbols lexed), ap length reads.read.numbered, length-symbols_of symbol_of lexed lexed.tokens);
  named = reads.read.named;
  shallow = reads.shallow;
}
