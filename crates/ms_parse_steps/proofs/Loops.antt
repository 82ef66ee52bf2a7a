-- The automaton's runs, step by step.
use Rattle.std.proofs.Common.{arith, ◌≡◌, ℕ, zero, suc, true, List, Option, Some, None, refl, sym, ap, ◌∙◌, subst}
use Rattle.ms_parse_grammar.specs.Symbol.{Placed}
use Rattle.ms_parse_grammar.specs.Tree.{Document}
use Rattle.ms_parse_grammar.specs.Declarations.{Reads}
use Rattle.ms_parse_steps.specs.inner.Machine.{Configuration, outside, start, step, finished, goes_on, run, Runs, Move, took, misplaced, too_deep}
use Rattle.ms_parse_grammar.specs.Grammar.{greatest_depth}
use Rattle.ms_parse_steps.proofs.Limits.{within, of_grammar}
use Rattle.ms_parse_steps.proofs.Headers.{document_read}
use Rattle.ms_parse_steps.proofs.Runs.{runs_read}
use Rattle.ms_parse_steps.proofs.Steps.{by_step, IsStuck}

-- the same documents are read from both
abbrev pub SameRuns : ℕ → Configuration → List Placed → Configuration → List Placed → Type 0
SameRuns limit s ts s' ts' = (d : Document) → (Runs limit s ts d → Runs limit s' ts' d) × (Runs limit s' ts' d → Runs limit s ts d)

pub same_runs : (limit : ℕ) (s : Configuration) (ts : List Placed) → SameRuns limit s ts s ts
same_runs limit s ts d = (λ runs. runs, λ runs. runs)

from_step : (limit : ℕ) (s s' : Configuration) (ts ts' : List Placed) (d : Document) → step limit s ts ≡ took s' ts' → finished s ts ≡ None → Runs limit s ts d → Runs limit s' ts' d
from_step limit s s' ts ts' d stepped more (zero, read) = let nothing : None ≡ Some d = sym more ∙ read in let never : ⊥ = cc in absurd never
from_step limit s s' ts ts' d stepped more (suc n, read) = (n, sym (ap (goes_on (run limit n)) stepped) ∙ read)

-- a step leads to the same documents
pub runs_on : (limit : ℕ) (s0 s s' : Configuration) (ts0 ts ts' : List Placed) → SameRuns limit s0 ts0 s ts → finished s ts ≡ None → step limit s ts ≡ took s' ts' → SameRuns limit s0 ts0 s' ts'
runs_on limit s0 s s' ts0 ts ts' same more stepped d =
    (λ runs. from_step limit s s' ts ts' d stepped more ((same d).0 runs), λ runs. (same d).1 (by_step limit s ts ts s' ts' d refl stepped runs))

pub stuck_run : (r : Configuration → List Placed → Option Document) (x : Move) (d : Document) → IsStuck x → goes_on r x ≡ Some d → ⊥
stuck_run r (took s ts) d stuck read = stuck
stuck_run r (misplaced from) d stuck read = let never : ⊥ = cc in never
stuck_run r (too_deep from) d stuck read = let never : ⊥ = cc in never

pub no_run : (limit : ℕ) (s : Configuration) (ts : List Placed) (d : Document) → finished s ts ≡ None → IsStuck (step limit s ts) → Runs limit s ts d → ⊥
no_run limit s ts d more stuck (zero, read) = let nothing : None ≡ Some d = sym more ∙ read in let never : ⊥ = cc in never
no_run limit s ts d more stuck (suc n, read) = stuck_run (run limit n) (step limit s ts) d stuck read

-- where no step can be taken, the symbols read as no document
pub reads_none : (all : List Placed) (s : Configuration) (ts : List Placed) → SameRuns greatest_depth (outside (start all).0) (start all).1 s ts → finished s ts ≡ None → IsStuck (step greatest_depth s ts) → (d : Document) → Reads true all d → ⊥
reads_none all s ts same more stuck d reads = no_run greatest_depth s ts d more stuck ((same d).0 (document_read greatest_depth all d (within all d reads)))

-- where nothing is left, they read as the document that has been made
pub reads_made : (all : List Placed) (s : Configuration) (ts : List Placed) (d : Document) → SameRuns greatest_depth (outside (start all).0) (start all).1 s ts → finished s ts ≡ Some d → Reads true all d
reads_made all s ts d same done = of_grammar all d (runs_read greatest_depth (omega arith) all d ((same d).1 (0, done)))

-- the beginning
pub starts_here : (limit : ℕ) (all ts : List Placed) (d : Document) → start all ≡ (d, ts) → SameRuns limit (outside (start all).0) (start all).1 (outside d) ts
starts_here limit all ts d same = subst (λ (x : Document × List Placed). SameRuns limit (outside (start all).0) (start all).1 (outside x.0) x.1) same (same_runs limit (outside (start all).0) (start all).1)
