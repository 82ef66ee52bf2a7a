-- Assignments of sets of positions come in the order of their traces.
use Rattle.std.proofs.Common.{◌≡◌, ℕ, List, Some, refl, sym, ap, ap₂, ◌∙◌}
use Rattle.ms_app_solved.proofs.SetVariables.{before-by, bits-are, sets, values-are}
use Rattle.ms_logic.specs.declared.assignment.Value.{Value}
use Rattle.ms_logic.specs.Assignment.{Env}
use Rattle.ms_logic.specs.FiniteSet.{numbers_below}
use Rattle.ms_logic.specs.First.{IsBefore, assignment_of, bits_of, length_by, length_of}
use Rattle.ms_logic.specs.Letters.{bound_of}
use Rattle.ms_ltlf.specs.Meaning.{trace_of}
use Rattle.ms_ltlf_decide.specs.Answer.{assignment_by, propositions, shown_of}

-- an assignment as long as its trace
abbrev pub IsOnString : Env → Type 0
IsOnString e = e.universe ≡ Some (trace_of e).length

long : (ps : List ℕ) (e : Env) → IsOnString e → length_of (sets ps) e ≡ (trace_of e).length
long ps e is = ap (λ u. length_by u (bound_of (sets ps) e)) is

-- an assignment has the bits of its trace
same-bits : (ps : List ℕ) (e : Env) → IsOnString e → bits_of (sets ps) e ≡ bits_of (sets ps) (assignment_by (trace_of e))
same-bits ps e is =
    bits-are ps e (trace_of e).length (long ps e is) ∙ sym (bits-are ps (assignment_by (trace_of e)) (trace_of e).length refl)

-- the assignment of one trace comes before that of another where the trace does
pub before : (count : ℕ) (e f : Env) → IsOnString e → IsOnString f → IsBefore (propositions count) (assignment_by (trace_of e)) (assignment_by (trace_of f)) → IsBefore (propositions count) e f
before count e f is_e is_f order =
    let ps = numbers_below count in
    before-by (sets ps) e f (trace_of e).length (trace_of f).length (bits_of (sets ps) (assignment_by (trace_of e))) (bits_of (sets ps) (assignment_by (trace_of f)))
    (long ps e is_e) (long ps f is_f) (same-bits ps e is_e) (same-bits ps f is_f) order

-- what is shown of an assignment is what is shown of its trace
pub shown : (count : ℕ) (e : Env) → IsOnString e → assignment_of (propositions count) e ≡ shown_of count (trace_of e)
shown count e is = ap₂ (λ (n : ℕ) (found : List Value). record { length = n; values = found }) (long (numbers_below count) e is) (values-are (numbers_below count) e)
