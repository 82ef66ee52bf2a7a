-- Where the automaton has come to, whatever follows.
use Rattle.std.proofs.Common.{◌≡◌, ℕ, ◌<◌, ◌≤◌, length, arith, Bool, true, List, [], ◌∷◌, ◌++◌, None, refl, sym, ap, ◌∙◌, subst, append_assoc}
use Rattle.ms_parse_grammar.specs.Reads.{closing}
use Rattle.ms_parse_grammar.specs.Symbol.{Symbol, text, open_round, close_round, Placed, placed}
use Rattle.ms_parse_grammar.specs.Tree.{empty_set, named}
use Rattle.ms_parse_grammar.specs.Tree.{atom, no_expressions, no_variables, and_variable, Document}
use Rattle.ms_parse_steps.specs.inner.Machine.{list_frame, Configuration, outside, wanted, holding, variable_wanted, part_wanted, pair_wanted, global_wanted, parameter_wanted, summand_wanted, took, step, finished}
use Rattle.ms_parse_steps.proofs.Completions.{Fits}
use Rattle.ms_parse_steps.proofs.Finding.{Takes, Finds}
use Rattle.ms_parse_steps.proofs.FindingSteps.{step_finds}
use Rattle.ms_parse_steps.proofs.Lookahead.{lacks, may_begin_goal, stands_alone, may_follow}
use Rattle.ms_parse_steps.proofs.Loops.{SameRuns, same_runs, runs_on}
use Rattle.ms_parse_steps.proofs.Steps.{IsStuck}

-- the first symbol tells whether symbols may follow

lacks_first : (m : Symbol) (x : Placed) (ts other : List Placed) → lacks m (x ∷ ts) ≡ lacks m (x ∷ other)
lacks_first m (placed s a) ts other = refl

alone_first : (may : Bool) (x : Placed) (ts other : List Placed) → stands_alone may (x ∷ ts) ≡ stands_alone may (x ∷ other)
alone_first may (placed (text t) a) ts other = refl
alone_first may (placed s a) ts other = refl

pub may_follow_first : (s : Configuration) (x : Placed) (ts other : List Placed) → may_follow s (x ∷ ts) ≡ may_follow s (x ∷ other)
may_follow_first (holding c (atom at (named n)) st) x ts other = alone_first (may_begin_goal st c n) x ts other
may_follow_first (holding c (atom at empty_set) st) x ts other = lacks_first open_round x ts other
may_follow_first (wanted c (list_frame at l no_expressions ∷ st)) x ts other = lacks_first (closing l) x ts other
may_follow_first (parameter_wanted d head no_variables) x ts other = lacks_first close_round x ts other
may_follow_first _ x ts other = refl

pub may_follow_nothing : (s : Configuration) → may_follow s [] ≡ true
may_follow_nothing (holding c (atom at (named n)) st) = refl
may_follow_nothing (holding c (atom at empty_set) st) = refl
may_follow_nothing (wanted c (list_frame at l no_expressions ∷ st)) = refl
may_follow_nothing (parameter_wanted d head no_variables) = refl
may_follow_nothing _ = refl

-- no step is taken where nothing is left
pub nothing_left : (limit : ℕ) (s : Configuration) → IsStuck (step limit s [])
nothing_left limit (outside d) = tt
nothing_left limit (wanted c st) = tt
nothing_left limit (holding c e st) = tt
nothing_left limit (variable_wanted c st at q o vs) = tt
nothing_left limit (part_wanted c st at o parts) = tt
nothing_left limit (pair_wanted c st at file pairs) = tt
nothing_left limit (global_wanted d at o vs) = tt
nothing_left limit (parameter_wanted d head no_variables) = tt
nothing_left limit (parameter_wanted d head (and_variable vs a o n x)) = tt
nothing_left limit (summand_wanted d at at_n n sum) = tt

pub unfinished : (s : Configuration) (x : Placed) (ts : List Placed) → finished s (x ∷ ts) ≡ None
unfinished (outside d) x ts = refl
unfinished (wanted c st) x ts = refl
unfinished (holding c e st) x ts = refl
unfinished (variable_wanted c st at q o vs) x ts = refl
unfinished (part_wanted c st at o parts) x ts = refl
unfinished (pair_wanted c st at file pairs) x ts = refl
unfinished (global_wanted d at o vs) x ts = refl
unfinished (parameter_wanted d head vs) x ts = refl
unfinished (summand_wanted d at at_n n sum) x ts = refl

-- what a step has taken is not nothing
pub record Taken (limit : ℕ) (s : Configuration) (ts : List Placed) (s' : Configuration) (rest : List Placed) : Type 0 where
  pub first : Placed
  pub others : List Placed
  pub split : ts ≡ first ∷ (others ++ rest)
  pub free : may_follow s' rest ≡ true
  pub fits : Fits limit s'
  pub again : (above : ℕ) (other : List Placed) → limit ≤ above → may_follow s' other ≡ true → step above s (first ∷ (others ++ other)) ≡ took s' other

taken_of : (limit : ℕ) (s s' : Configuration) (ts rest front : List Placed) → ts ≡ front ++ rest → may_follow s' rest ≡ true → Fits limit s'
    → ((above : ℕ) (other : List Placed) → limit ≤ above → may_follow s' other ≡ true → step above s (front ++ other) ≡ took s' other) → Taken limit s ts s' rest
taken_of limit s s' ts rest [] split free fits again = absurd (subst IsStuck (again limit [] (omega arith) (may_follow_nothing s')) (nothing_left limit s))
taken_of limit s s' ts rest (x ∷ xs) split free fits again = record { first = x; others = xs; split = split; free = free; fits = fits; again = again }

pub taken : (limit : ℕ) (s s' : Configuration) (ts rest : List Placed) → 1 ≤ limit → Fits limit s → step limit s ts ≡ took s' rest → Taken limit s ts s' rest
taken limit s s' ts rest some fits stepped =
    let is : Takes limit (λ l. step l s) ts s' rest = subst (Finds limit (λ l. step l s) ts) stepped (step_finds limit s ts some fits) in
    taken_of limit s s' ts rest is.front is.split is.free is.fits is.again

length_more : (xs ys : List Placed) → length ys ≤ length (xs ++ ys)
length_more [] ys = omega arith
length_more (x ∷ xs) ys = let more = length_more xs ys in omega arith

-- a step that is taken leaves fewer symbols
pub step_shortens : (limit : ℕ) (s s' : Configuration) (ts rest : List Placed) → 1 ≤ limit → Fits limit s → step limit s ts ≡ took s' rest → length rest < length ts
step_shortens limit s s' ts rest some fits stepped =
    let is = taken limit s s' ts rest some fits stepped in subst (λ l. length rest < length l) (sym is.split) (let more = length_more is.others rest in omega arith)

-- a step that one limit of the depth allows is the same step at a greater limit
pub same_step_above : (limit above : ℕ) (s s' : Configuration) (ts rest : List Placed) → 1 ≤ limit → Fits limit s → limit ≤ above → step limit s ts ≡ took s' rest → step above s ts ≡ took s' rest
same_step_above limit above s s' ts rest some fits more stepped =
    let is = taken limit s s' ts rest some fits stepped in ap (step above s) is.split ∙ is.again above rest more is.free

-- The automaton, begun behind the header, has come to the configuration before these symbols, and comes there whatever follows
-- that may follow.
pub record Reached (limit : ℕ) (d0 : Document) (body : List Placed) (s : Configuration) (ts : List Placed) : Type 0 where
  pub done : List Placed
  pub split : body ≡ done ++ ts
  pub free : may_follow s ts ≡ true
  pub fits : Fits limit s
  pub runs : (other : List Placed) → may_follow s other ≡ true → SameRuns limit (outside d0) (done ++ other) s other

pub reached_first : (limit : ℕ) (d0 : Document) (body : List Placed) → Reached limit d0 body (outside d0) body
reached_first limit d0 body = record { done = []; split = refl; free = refl; fits = tt; runs = λ other may. same_runs limit (outside d0) other }

pub reached_next : (limit : ℕ) (d0 : Document) (body : List Placed) (s s' : Configuration) (ts ts' : List Placed) → 1 ≤ limit → Reached limit d0 body s ts → step limit s ts ≡ took s' ts' → Reached limit d0 body s' ts'
reached_next limit d0 body s s' ts ts' some here stepped =
    let step_taken = taken limit s s' ts ts' some here.fits stepped in
    let x = step_taken.first in
    let front = x ∷ step_taken.others in
    let starts : may_follow s (x ∷ (step_taken.others ++ ts')) ≡ true = ap (may_follow s) (sym step_taken.split) ∙ here.free in
    record {
      done = here.done ++ front;
      split = here.split ∙ ap (λ l. here.done ++ l) step_taken.split ∙ sym (append_assoc here.done front ts');
      free = step_taken.free;
      fits = step_taken.fits;
      runs = λ other may.
          subst (λ l. SameRuns limit (outside d0) l s' other) (sym (append_assoc here.done front other))
          (runs_on limit (outside d0) s s' (here.done ++ (x ∷ (step_taken.others ++ other))) (x ∷ (step_taken.others ++ other)) other
          (here.runs (x ∷ (step_taken.others ++ other)) (may_follow_first s x (step_taken.others ++ other) (step_taken.others ++ ts') ∙ starts))
          (unfinished s x (step_taken.others ++ other)) (step_taken.again limit other (omega arith) may));
    }
