-- Symbols read as one document at most, since the automaton is a function.
use Rattle.std.proofs.Common.{◌≡◌, ℕ, zero, suc, true, List, [], ◌∷◌, Option, Some, sym, ◌∙◌}
use Rattle.ms_parse_grammar.specs.Symbol.{Placed}
use Rattle.ms_parse_grammar.specs.Tree.{Document}
use Rattle.ms_parse_grammar.specs.Declarations.{Reads}
use Rattle.ms_parse_steps.specs.inner.Machine.{Configuration, outside, wanted, holding, variable_wanted, part_wanted, pair_wanted, global_wanted, parameter_wanted, summand_wanted, Move, took, misplaced, too_deep, start, step, finished, goes_on, run}
use Rattle.ms_parse_grammar.specs.Grammar.{greatest_depth}
use Rattle.ms_parse_steps.proofs.Limits.{within}
use Rattle.ms_parse_steps.proofs.Headers.{document_read}
use Rattle.ms_parse_steps.proofs.Steps.{IsStuck}
use Rattle.ms_parse_steps.proofs.Loops.{stuck_run}

-- where nothing is left, no step is taken
finished_stops : (limit : ℕ) (s : Configuration) (ts : List Placed) (d : Document) → finished s ts ≡ Some d → IsStuck (step limit s ts)
finished_stops limit (outside d0) [] d done = tt
finished_stops limit (outside d0) (t ∷ ts) d done = let never : ⊥ = cc in absurd never
finished_stops limit (wanted c st) ts d done = let never : ⊥ = cc in absurd never
finished_stops limit (holding c e st) ts d done = let never : ⊥ = cc in absurd never
finished_stops limit (variable_wanted c st at q o vs) ts d done = let never : ⊥ = cc in absurd never
finished_stops limit (part_wanted c st at o parts) ts d done = let never : ⊥ = cc in absurd never
finished_stops limit (pair_wanted c st at file pairs) ts d done = let never : ⊥ = cc in absurd never
finished_stops limit (global_wanted d0 at o vs) ts d done = let never : ⊥ = cc in absurd never
finished_stops limit (parameter_wanted d0 head vs) ts d done = let never : ⊥ = cc in absurd never
finished_stops limit (summand_wanted d0 at at_n n sum) ts d done = let never : ⊥ = cc in absurd never

stuck : (limit : ℕ) (s : Configuration) (ts : List Placed) (d d' : Document) (n : ℕ) → finished s ts ≡ Some d → run limit (suc n) s ts ≡ Some d' → ⊥
stuck limit s ts d d' n done read = stuck_run (run limit n) (step limit s ts) d' (finished_stops limit s ts d done) read

one_next : (r r' : Configuration → List Placed → Option Document) → ((s : Configuration) (ts : List Placed) (d d' : Document) → r s ts ≡ Some d → r' s ts ≡ Some d' → d ≡ d')
    → (x : Move) (d d' : Document) → goes_on r x ≡ Some d → goes_on r' x ≡ Some d' → d ≡ d'
one_next r r' same (took s ts) d d' read read' = same s ts d d' read read'
one_next r r' same (misplaced from) d d' read read' = let never : ⊥ = cc in absurd never
one_next r r' same (too_deep from) d d' read read' = let never : ⊥ = cc in absurd never

pub one_run : (limit : ℕ) (m n : ℕ) (s : Configuration) (ts : List Placed) (d d' : Document) → run limit m s ts ≡ Some d → run limit n s ts ≡ Some d' → d ≡ d'
one_run limit zero zero s ts d d' read read' = let both : Some d ≡ Some d' = sym read ∙ read' in let same : d ≡ d' = cc in same
one_run limit zero (suc n) s ts d d' read read' = absurd (stuck limit s ts d d' n read read')
one_run limit (suc m) zero s ts d d' read read' = absurd (stuck limit s ts d' d m read' read)
one_run limit (suc m) (suc n) s ts d d' read read' =
    one_next (run limit m) (run limit n) (λ s' ts' e e' r r'. one_run limit m n s' ts' e e' r r') (step limit s ts) d d' read read'

pub one_document : (all : List Placed) (d d' : Document) → Reads true all d → Reads true all d' → d ≡ d'
one_document all d d' reads reads' =
    let first = document_read greatest_depth all d (within all d reads) in
    let second = document_read greatest_depth all d' (within all d' reads') in
    one_run greatest_depth first.0 second.0 (outside (start all).0) (start all).1 d d' first.1 second.1
