-- The order of the last parameter.
use Rattle.std.proofs.Common.{◌≡◌, ℕ, zero, suc, ◌+◌, List, [], ◌∷◌, length, map, slice_get, Some, ap, ◌∙◌, arith, rules}
use Rattle.ms_logic.specs.declared.source.Bound.{Bound, out-Bound}
use Rattle.ms_logic.specs.declared.source.Form.{the_lemmas}
use Rattle.ms_parse_grammar.specs.Tree.{Variables, no_variables, and_variable}
use Rattle.ms_parse_grammar.specs.View.{variable_of, variables_behind, variables_of}
use Rattle.ms_parse_steps.specs.inner.Kinds.{last_order}

order_out : (v : Bound) → (variable_of v).order ≡ (out-Bound v).order
order_out v = search (rules, the_lemmas)

last_from : (before : Variables) (xs : List Bound) (k : ℕ) (b : Bound) → k + 1 ≡ length xs → slice_get xs k ≡ Some b → last_order (variables_behind before (map variable_of xs)) ≡ Some (out-Bound b).order
last_from before [] k b whole found = absurd (omega arith)
last_from before (x ∷ []) zero b whole found = let same : x ≡ b = cc in ap Some (order_out x ∙ ap (λ v. (out-Bound v).order) same)
last_from before (x ∷ []) (suc k) b whole found = absurd (omega arith)
last_from before (x ∷ (y ∷ ys)) zero b whole found = absurd (omega arith)
last_from before (x ∷ (y ∷ ys)) (suc k) b whole found =
    last_from (and_variable before (variable_of x).at (variable_of x).order (variable_of x).name (variable_of x).domain) (y ∷ ys) k b (omega arith) found

pub last_of : (xs : List Bound) (k : ℕ) (b : Bound) → k + 1 ≡ length xs → slice_get xs k ≡ Some b → last_order (variables_of xs) ≡ Some (out-Bound b).order
last_of xs k b whole found = last_from no_variables xs k b whole found
