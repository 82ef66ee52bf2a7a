-- What the machine's states behind rows of symbols tell of what the rows read as.
use Rattle.std.proofs.Common.{◌≡◌, ℕ, ◌≤◌, List, ◌++◌, sym, subst}
use Rattle.ms_text.specs.declared.token.Kind.{Kind}
use Rattle.ms_parse_stack.specs.declared.begun.Begun.{Begun}
use Rattle.ms_parse_stack.specs.declared.grammar.Grammar.{Ghosts}
use Rattle.ms_parse_stack.specs.inner.Machine.{State, within, done, stopped, GoesOn, shortest}
use Rattle.ms_parse_stack.specs.inner.States.{CodeFrame, IsMeasured, Standing}

module _ {Prefix Binary Place Formula : Type 0} where
  -- the formula has no end yet
  abbrev pub IsOpen : State Prefix Binary Place Formula → Type 0
  IsOpen (within frames p) = Unit {0}
  IsOpen (done f) = ⊥
  IsOpen stopped = ⊥

  pub on_open : (s : State Prefix Binary Place Formula) → IsOpen s → GoesOn s
  on_open (within frames p) h = tt
  on_open (done f) h = tt
  on_open stopped h = h

-- The symbols of a reader, the state behind a row of them, and which rows read as a formula, begin one, or would begin one if the depth
-- had no limit.
pub record Reading {Grammar Tree Prefix Binary : Type 0} (g : Ghosts Grammar Tree Prefix Binary) (Symbol : Type 0) : Type 1 where
  pub symbol_of : Kind → List ℕ → Symbol
  pub reached : List Symbol → Standing g
  pub Reads : List Symbol → Type 0
  pub CanFollow : List Symbol → Type 0
  pub CanFollowAtAnyDepth : List Symbol → Type 0

module _ {Grammar Tree Prefix Binary : Type 0} {g : Ghosts Grammar Tree Prefix Binary} {Symbol : Type 0} (r : Reading g Symbol) where
  -- the row is read to its end as a formula that is not too deep
  pub record IsDone (all : List Symbol) : Type 0 where
    pub formula : g.Tree
    pub is : r.reached all ≡ done formula
    pub shallow : g.depth formula ≤ 300

  -- The machine goes on behind the rows that begin a formula, and behind no others, and reads as one the rows that read as one.
  pub record Recognises : Type 0 where
    pub whole : (all : List Symbol) → r.Reads all → IsDone all
    pub front_follows : (front more : List Symbol) → r.Reads (front ++ more) → r.CanFollow front
    pub deeper : (front : List Symbol) → r.CanFollow front → r.CanFollowAtAnyDepth front
    pub follows : (front : List Symbol) → GoesOn (r.reached front) → g.depth (shortest g.machine (r.reached front)) ≤ 300 → r.CanFollow front
    pub follows_deeper : (front : List Symbol) → GoesOn (r.reached front) → r.CanFollowAtAnyDepth front
    pub goes_on : (front : List Symbol) → r.CanFollowAtAnyDepth front → GoesOn (r.reached front)
    pub is_shallow : (front : List Symbol) → r.CanFollow front → g.depth (shortest g.machine (r.reached front)) ≤ 300

module _ {Grammar Tree Prefix Binary : Type 0} {g : Ghosts Grammar Tree Prefix Binary} {Symbol : Type 0} {r : Reading g Symbol} (t : Recognises r) where
  -- what is behind symbols that lead to this state
  pub follows_from : (front : List Symbol) (s : Standing g) → r.reached front ≡ s → GoesOn s → g.depth (shortest g.machine s) ≤ 300 → r.CanFollow front
  follows_from front s is on shallow = t.follows front (subst GoesOn (sym is) on) (subst (λ u. g.depth (shortest g.machine u) ≤ 300) (sym is) shallow)

  -- what the code has begun, by the depth that it keeps
  pub follows_here : (front : List Symbol) (s : Standing g) (begun : Begun (CodeFrame g)) → r.reached front ≡ s → GoesOn s → IsMeasured g begun (shortest g.machine s) → r.CanFollow front
  follows_here front s begun is on h = follows_from front s is on (subst (λ n. n ≤ 300) h.measured h.shallow)
