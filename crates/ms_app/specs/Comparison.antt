-- What a comparison of two sources says.
use Rattle.std.specs.Prelude.{◌≡◌, ◌↔◌, ℕ, Bool, true, false, IsTrue, List, [], ◌∷◌, ◌++◌, codes, length, map}
use Rattle.ms_dfa.specs.declared.plain.Plain.{Plain}
use Rattle.ms_edge.specs.declared.refusal.Refusal.{Refusal}
use Rattle.ms_edge.specs.declared.refusal.Refusal.TheVariants.{Memory, VarsDiffer}
use Rattle.ms_edge.specs.Files.{OnlyRead, Seen}
use Rattle.ms_logic.specs.Verdict.{Agree, Problem}
use Rattle.ms_logic.specs.declared.checked.Checked.{Checked}
use Rattle.ms_logic.specs.declared.source.Loaded.{Loaded}
use Rattle.ms_logic.specs.View.{main_question}
use Rattle.ms_app.specs.Source.{IsRefused, IsSolved, answers_with, file_of}

-- both have one mode and one list of globals, with their names and orders
pub record HaveSameGlobals (left right : Checked) : Type 0 where
  pub mode : left.mode ≡ right.mode
  pub names : map (λ g. g.name) left.globals ≡ map (λ g. g.name) right.globals
  pub orders : map (λ g. g.order) left.globals ≡ map (λ g. g.order) right.globals

-- The left file is read in a first part of the request, and the right file in the rest.
pub record AreParts (seen first rest : Seen) : Type 0 where
  pub begin : first.before ≡ seen.before
  pub middle : rest.before ≡ first.after
  pub end : rest.after ≡ seen.after
  pub reads : OnlyRead first.before first.after

-- a checked source, with the contents of the files that it imports
pub record Taken : Type 0 where
  pub checked : Checked
  pub plains : List Plain

-- its main question
abbrev pub question_in : Taken → Problem
question_in taken = main_question taken.checked (answers_with taken.checked taken.plains)

-- both files are sources that can be solved; those of the right one are numbered on from those of the left one
pub record AreSolved (left right : List ℕ) (seen : Seen) (one two : Taken) : Type 0 where
  pub first : Seen
  pub rest : Seen
  pub are_parts : AreParts seen first rest
  pub left_loaded : Loaded
  pub right_loaded : Loaded
  pub is_left : IsSolved (file_of first 0 left) [] left_loaded one.checked one.plains
  pub is_right : IsSolved (file_of rest (length left_loaded.files) right) [] right_loaded two.checked two.plains

-- they can be compared, and this is whether their main values are the same at each assignment
pub record AreCompared (left right : List ℕ) (seen : Seen) (agree : Bool) : Type 0 where
  pub one : Taken
  pub two : Taken
  pub are_solved : AreSolved left right seen one two
  pub same_globals : HaveSameGlobals one.checked two.checked
  pub agrees : IsTrue agree ↔ Agree (question_in one) (question_in two)

-- the comparison is refused under a limit on the nodes and states of a step, and these are the files that the refusal may number
pub data IsRefusedComparison (left right : List ℕ) (limit : ℕ) (seen : Seen) (refusal : Refusal) (files : List (List ℕ)) : Type 0 where
  left_refused : (why : IsRefused (file_of seen 0 left) [] limit refusal files) → IsRefusedComparison left right limit seen refusal files
  -- the left file can be solved, and the right file is refused
  right_refused : (first rest : Seen) (are_parts : AreParts seen first rest) (loaded : Loaded) (one : Taken) (is_left : IsSolved (file_of first 0 left) [] loaded one.checked one.plains)
      (read : List (List ℕ)) (all : files ≡ loaded.files ++ read) (why : IsRefused (file_of rest (length loaded.files) right) [] limit refusal read)
      → IsRefusedComparison left right limit seen refusal files
  -- both can be solved, and their modes or globals differ
  not_comparable : (one two : Taken) (are_solved : AreSolved left right seen one two) (differ : ¬ HaveSameGlobals one.checked two.checked) (is : refusal ≡ VarsDiffer)
      → IsRefusedComparison left right limit seen refusal files
  no_memory : (why : refusal ≡ Memory) → IsRefusedComparison left right limit seen refusal files

-- the line that is printed
abbrev pub comparison_text : Bool → List ℕ
comparison_text true = codes "agree" ++ 10 ∷ []
comparison_text false = codes "differ" ++ 10 ∷ []
