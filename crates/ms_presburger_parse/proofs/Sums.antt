-- The machine reads the symbols of sums and of names.
use Rattle.std.proofs.Common.{◌≡◌, ℕ, true, List, [], ◌∷◌, ◌++◌, Some, None, refl, sym, ap, ◌∙◌, subst, append_assoc, append-nil}
use Rattle.std.specs.Prelude.{flat_map, if◌then◌else◌}
use Rattle.ms_logic.specs.declared.mode.Quant.{Quant}
use Rattle.ms_logic.specs.declared.mode.Rel.{Rel}
use Rattle.ms_presburger.specs.declared.linear.Part.{Part}
use Rattle.ms_presburger.specs.declared.linear.Part.TheVariants.{Number, Var, Times}
use Rattle.ms_presburger_parse.specs.Grammar.{spelled_part, spelled_sum, spelled_names, compares, HasOne}
use Rattle.ms_presburger_parse.specs.Symbol.{Symbol, name, quantifier, relation, plus, comma, colon}
use Rattle.ms_parse_stack.specs.inner.Frames.{behind_prefix}
use Rattle.ms_parse_stack.specs.inner.Machine.{within, stay}
use Rattle.ms_parse_stack.proofs.Runs.{run-append}
use Rattle.ms_presburger_parse.specs.declared.operator.Prefix.TheVariants.{Quantifier}
use Rattle.ms_presburger_parse.specs.inner.Machine.{Frame, machine, action, Side, on_left, on_right, wanted, named, adding, added, State, step, run}

part_read : (frames : List Frame) (side : Side) (before : List Part) (p : Part) (more : List Symbol) → run (within frames (adding side before)) (spelled_part p ++ more) ≡ run (within frames (added side before p)) more
part_read frames side before (Number n) more = refl
part_read frames side before (Var x) more = refl
part_read frames side before (Times n x) more = refl

first_read : (frames : List Frame) (p : Part) (more : List Symbol) → run (within frames wanted) (spelled_part p ++ more) ≡ run (within frames (added on_left [] p)) more
first_read frames (Number n) more = refl
first_read frames (Var x) more = refl
first_read frames (Times n x) more = refl

-- the state has read a sum of these parts
pub record IsSummed (frames : List Frame) (side : Side) (all : List Part) (s : State) : Type 0 where
  pub before : List Part
  pub last : Part
  pub is : s ≡ within frames (added side before last)
  pub whole : before ++ last ∷ [] ≡ all

further_read : (frames : List Frame) (side : Side) (before : List Part) (last : Part) (ps : List Part)
    → IsSummed frames side ((before ++ last ∷ []) ++ ps) (run (within frames (added side before last)) (flat_map (λ y. plus ∷ spelled_part y) ps))
further_read frames side before last [] = record { before = before; last = last; is = refl; whole = sym (append-nil (before ++ last ∷ [])) }
further_read frames side before last (p ∷ ps) =
    let more = flat_map (λ y. plus ∷ spelled_part y) ps in
    let front = before ++ last ∷ [] in
    let all = further_read frames side front p ps in
    record {
      before = all.before;
      last = all.last;
      is = part_read frames side front p more ∙ all.is;
      whole = all.whole ∙ append_assoc front (p ∷ []) ps;
    }

pub right_read : (frames : List Frame) (side : Side) (ps : List Part) → HasOne ps → IsSummed frames side ps (run (within frames (adding side [])) (spelled_sum ps))
right_read frames side [] some = absurd some
right_read frames side (p ∷ ps) some =
    let all = further_read frames side [] p ps in
    record { before = all.before; last = all.last; is = part_read frames side [] p (flat_map (λ y. plus ∷ spelled_part y) ps) ∙ all.is; whole = all.whole }

left_read : (frames : List Frame) (ps : List Part) → HasOne ps → IsSummed frames on_left ps (run (within frames wanted) (spelled_sum ps))
left_read frames [] some = absurd some
left_read frames (p ∷ ps) some =
    let all = further_read frames on_left [] p ps in
    record { before = all.before; last = all.last; is = first_read frames p (flat_map (λ y. plus ∷ spelled_part y) ps) ∙ all.is; whole = all.whole }

relation_read : (frames : List Frame) (r : Rel) (left : List Part) (s : State) → compares r ≡ true → IsSummed frames on_left left s → step s (relation r) ≡ within frames (adding (on_right r left) [])
relation_read frames r left s good h =
    ap (λ t. step t (relation r)) h.is
    ∙ ap (λ b. stay machine frames (if b then Some (adding (on_right r (h.before ++ h.last ∷ [])) []) else None)) good
    ∙ ap (λ x. within frames (adding (on_right r x) [])) h.whole

-- the symbols of a comparison, up to the last of its right sum
pub comparison_read : (frames : List Frame) (r : Rel) (left right : List Part) → compares r ≡ true → HasOne left → HasOne right
    → IsSummed frames (on_right r left) right (run (within frames wanted) (spelled_sum left ++ relation r ∷ spelled_sum right))
comparison_read frames r left right good some some' =
    let s = run (within frames wanted) (spelled_sum left) in
    let same : run (within frames wanted) (spelled_sum left ++ relation r ∷ spelled_sum right) ≡ run (within frames (adding (on_right r left) [])) (spelled_sum right) =
    run-append machine action (within frames wanted) (spelled_sum left) (relation r ∷ spelled_sum right) ∙ ap (λ t. run t (spelled_sum right)) (relation_read frames r left s good (left_read frames left some)) in
    subst (IsSummed frames (on_right r left) right) (sym same) (right_read frames (on_right r left) right some')

names_further : (frames : List Frame) (q : Quant) (xs ys : List (List ℕ)) (more : List Symbol)
    → run (within frames (named q xs)) (flat_map (λ y. comma ∷ name y ∷ []) ys ++ more) ≡ run (within frames (named q (xs ++ ys))) more
names_further frames q xs [] more = ap (λ x. run (within frames (named q x)) more) (sym (append-nil xs))
names_further frames q xs (y ∷ ys) more =
    names_further frames q (xs ++ y ∷ []) ys more ∙ ap (λ x. run (within frames (named q x)) more) (append_assoc xs (y ∷ []) ys)

-- a quantifier with its names and the colon
pub names_read : (frames : List Frame) (q : Quant) (xs : List (List ℕ)) → HasOne xs → run (within frames wanted) (quantifier q ∷ spelled_names xs ++ colon ∷ []) ≡ within (behind_prefix (Quantifier q xs) ∷ frames) wanted
names_read frames q [] some = absurd some
names_read frames q (x ∷ xs) some = names_further frames q (x ∷ []) xs (colon ∷ [])
