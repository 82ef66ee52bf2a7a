-- What the automaton reads, or does not, by computation.
use Rattle.std.proofs.Common.{arith, ◌≡◌, ℕ, zero, suc, Bool, true, false, List, Option, Some, None, refl, sym, ap, ◌∙◌}
use Rattle.std.proofs.lemmas.Bool.{false≢true}
use Rattle.ms_parse_grammar.specs.Symbol.{Placed}
use Rattle.ms_parse_grammar.specs.Tree.{Document}
use Rattle.ms_parse_grammar.specs.Declarations.{Reads}
use Rattle.ms_parse_steps.specs.inner.Machine.{Configuration, outside, Move, took, misplaced, too_deep, start, step, finished, goes_on, run, Runs}
use Rattle.ms_parse_grammar.specs.Grammar.{greatest_depth}
use Rattle.ms_parse_steps.proofs.Limits.{within, of_grammar}
use Rattle.ms_parse_steps.proofs.Headers.{document_read}
use Rattle.ms_parse_steps.proofs.Runs.{runs_read}

abbrev or_on : (Move → Option Document) → Move → Option Document → Option Document
or_on further next (Some d) = Some d
or_on further next None = further next

-- what is read within so many steps
abbrev pub trial : ℕ → ℕ → Configuration → List Placed → Option Document
trial limit zero s ts = None
trial limit (suc n) s ts = or_on (goes_on (trial limit n)) (step limit s ts) (finished s ts)

run_of : (limit : ℕ) (n : ℕ) (s : Configuration) (ts : List Placed) (d : Document) → ((s' : Configuration) (ts' : List Placed) → trial limit n s' ts' ≡ Some d → Runs limit s' ts' d)
    → (x : Move) (y : Option Document) → finished s ts ≡ y → step limit s ts ≡ x → or_on (goes_on (trial limit n)) x y ≡ Some d → Runs limit s ts d
run_of limit n s ts d further x (Some e) done stepped tried = (zero, done ∙ tried)
run_of limit n s ts d further (misplaced from) None done stepped tried = let never : ⊥ = cc in absurd never
run_of limit n s ts d further (too_deep from) None done stepped tried = let never : ⊥ = cc in absurd never
run_of limit n s ts d further (took s' ts') None done stepped tried =
    let rest = further s' ts' tried in (suc rest.0, ap (goes_on (run limit rest.0)) stepped ∙ rest.1)

trial_runs : (limit : ℕ) (n : ℕ) (s : Configuration) (ts : List Placed) (d : Document) → trial limit n s ts ≡ Some d → Runs limit s ts d
trial_runs limit zero s ts d tried = let never : ⊥ = cc in absurd never
trial_runs limit (suc n) s ts d tried = run_of limit n s ts d (λ s' ts' tried'. trial_runs limit n s' ts' d tried') (step limit s ts) (finished s ts) refl refl tried

pub reads_by_trial : (n : ℕ) (all : List Placed) (d : Document) → trial greatest_depth n (outside (start all).0) (start all).1 ≡ Some d → Reads true all d
reads_by_trial n all d tried = of_grammar all d (runs_read greatest_depth (omega arith) all d (trial_runs greatest_depth n (outside (start all).0) (start all).1 d tried))

abbrev pub stuck_in : (Configuration → List Placed → Bool) → Move → Option Document → Bool
stuck_in further next (Some d) = false
stuck_in further (took s ts) None = further s ts
stuck_in further (misplaced from) None = true
stuck_in further (too_deep from) None = true

-- the automaton is stuck within so many steps
abbrev pub stuck : ℕ → ℕ → Configuration → List Placed → Bool
stuck limit zero s ts = false
stuck limit (suc n) s ts = stuck_in (stuck limit n) (step limit s ts) (finished s ts)

no_next : (limit : ℕ) (k : ℕ) (n : ℕ) (s : Configuration) (ts : List Placed) (d : Document) → ((m : ℕ) (s' : Configuration) (ts' : List Placed) → stuck limit n s' ts' ≡ true → run limit m s' ts' ≡ Some d → ⊥)
    → (x : Move) (y : Option Document) → finished s ts ≡ y → step limit s ts ≡ x → stuck_in (stuck limit n) x y ≡ true → run limit k s ts ≡ Some d → ⊥
no_next limit k n s ts d further x (Some e) done stepped is read = false≢true is
no_next limit zero n s ts d further x None done stepped is read = let never : ⊥ = cc in never
no_next limit (suc k) n s ts d further (misplaced from) None done stepped is read =
    let nothing : None ≡ Some d = sym (ap (goes_on (run limit k)) stepped) ∙ read in let never : ⊥ = cc in never
no_next limit (suc k) n s ts d further (too_deep from) None done stepped is read =
    let nothing : None ≡ Some d = sym (ap (goes_on (run limit k)) stepped) ∙ read in let never : ⊥ = cc in never
no_next limit (suc k) n s ts d further (took s' ts') None done stepped is read = further k s' ts' is (sym (ap (goes_on (run limit k)) stepped) ∙ read)

no_run : (limit : ℕ) (n k : ℕ) (s : Configuration) (ts : List Placed) (d : Document) → stuck limit n s ts ≡ true → run limit k s ts ≡ Some d → ⊥
no_run limit zero k s ts d is read = false≢true is
no_run limit (suc n) k s ts d is read = no_next limit k n s ts d (λ m s' ts' is' read'. no_run limit n m s' ts' d is' read') (step limit s ts) (finished s ts) refl refl is read

pub refused_by_trial : (n : ℕ) (all : List Placed) → stuck greatest_depth n (outside (start all).0) (start all).1 ≡ true → (d : Document) → ¬ (Reads true all d)
refused_by_trial n all is d reads = let runs = document_read greatest_depth all d (within all d reads) in no_run greatest_depth n runs.0 (outside (start all).0) (start all).1 d is runs.1
