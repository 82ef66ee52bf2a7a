-- References by their codes.
use Rattle.std.proofs.Common.{◌≡◌, ℕ, ◌+◌, ◌*◌, ◌/◌, ◌%◌, Bool, if◌then◌else◌, ap, ◌∙◌, ⊎_elim, arith}
use Rattle.std.proofs.lemmas.Bool.{cases_eq, eq-eqb, ne_eqb}
use Rattle.ms_arena.specs.declared.node.Ref.{Ref}
use Rattle.ms_arena.specs.declared.node.Ref.TheVariants.{Leaf, Inner}
use Rattle.ms_arena.specs.inner.Code.{code_of, ref_of}

-- the reference of a code has that code
pub code_of-ref_of : (code : ℕ) → code_of (ref_of code) ≡ code
code_of-ref_of code = ⊎_elim
    (λ even. ap (λ (t : Bool). code_of (if t then Leaf (code / 2) else Inner (code / 2))) (eq-eqb (code % 2) 0 even) ∙ omega (arith, even))
    (λ odd. ap (λ (t : Bool). code_of (if t then Leaf (code / 2) else Inner (code / 2))) (ne_eqb (code % 2) 0 odd) ∙ omega (arith, odd))
    (cases_eq (code % 2) 0)

-- and is the reference of its code
pub ref_of-code_of : (reference : Ref) → ref_of (code_of reference) ≡ reference
ref_of-code_of (Leaf value) =
    ap (λ (t : Bool). if t then Leaf ((2 * value) / 2) else Inner ((2 * value) / 2)) (eq-eqb ((2 * value) % 2) 0 (omega arith)) ∙ ap Leaf (omega arith)
ref_of-code_of (Inner place) =
    ap (λ (t : Bool). if t then Leaf ((2 * place + 1) / 2) else Inner ((2 * place + 1) / 2)) (ne_eqb ((2 * place + 1) % 2) 0 (λ same. omega (arith, same))) ∙ ap Inner (omega arith)
