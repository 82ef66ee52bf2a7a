-- With each symbol the shortest formula that begins so becomes deeper or stays as deep as it was.
use Rattle.std.proofs.Common.{ℕ, ◌≤◌, suc, max, List, arith, IfSome}
use Rattle.ms_ltlf.specs.Tree.{Temporal, truth, falsity, proposition, depth}
use Rattle.ms_parse_stack.specs.inner.Frames.{in_brackets, behind_prefix, inside}
use Rattle.ms_parse_stack.specs.inner.Machine.{GoesOn}
use Rattle.ms_parse_stack.proofs.Growth as growth
use Rattle.ms_parse_stack.proofs.Growth.{IsGrowing}
use Rattle.ms_ltlf_parse.specs.Symbol.{Symbol, name, word_true, word_false, prefix_operator, infix_operator, joining, open_bracket, close_bracket, semicolon, other}
use Rattle.ms_ltlf_parse.specs.inner.Machine.{Frame, State, Place, wanted, holding, machine, completed, leaf, opened, action, run, shortest}
use Rattle.ms_ltlf_parse.proofs.Groupings.{levelled}
use Rattle.ms_ltlf_parse.specs.inner.Deep.{deep}

leaf_grows : (f : Temporal) → 1 ≤ depth f → (p : Place) → IfSome (leaf f p) (λ q. depth (completed p) ≤ depth (completed q))
leaf_grows f least wanted = least
leaf_grows f least (holding g) = tt

opened_grows : (frame : Frame) (p : Place) → IfSome (opened frame p) (λ h. depth (completed p) ≤ suc (max (inside depth h) 1))
opened_grows frame wanted = omega arith
opened_grows frame (holding g) = tt

grows : (number : List ℕ → ℕ) (x : Symbol) → IsGrowing machine depth (action number x)
grows number (name n) = leaf_grows (proposition (number n)) (omega arith)
grows number word_true = leaf_grows truth (omega arith)
grows number word_false = leaf_grows falsity (omega arith)
grows number (prefix_operator op) = opened_grows (behind_prefix op)
grows number (infix_operator op) = tt
grows number (joining op) = tt
grows number open_bracket = opened_grows in_brackets
grows number close_bracket = tt
grows number semicolon = tt
grows number other = tt

pub run_grows : (number : List ℕ → ℕ) (s : State) (xs : List Symbol) → GoesOn (run number s xs) → depth (shortest s) ≤ depth (shortest (run number s xs))
run_grows number s xs on = growth.run_grows machine depth levelled deep (action number) (grows number) s xs on
