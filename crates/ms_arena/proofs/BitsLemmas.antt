-- Bits with one bit replaced, and bits put together of two.
use Rattle.std.proofs.Common.{◌≡◌, ◌≢◌, ℕ, ◌<◌, ◌≤◌, Bool, if◌then◌else◌, refl, sym, ap, ◌∙◌, ⊎_elim, arith}
use Rattle.std.proofs.lemmas.Bool.{eq-eqb, ne_eqb, lt-ltb, le-ltb, cases_eq, cases_lt}
use Rattle.ms_arena.specs.Diagram.{Bits}
use Rattle.ms_arena.specs.Bits.{with_bit, below_from, AgreeAbove}

-- bits that are equal at each variable are equal
pub same_bits : {one two : Bits} → ((var : ℕ) → one var ≡ two var) → one ≡ two
same_bits same = λ i var. same var i

-- the replaced bit
pub with_bit-same : (bits : Bits) (var : ℕ) (value : Bool) → with_bit bits var value var ≡ value
with_bit-same bits var value = ap (λ test. if test then value else bits var) (eq-eqb var var refl)

-- each other bit stays
pub with_bit-other : (bits : Bits) (var : ℕ) (value : Bool) (other : ℕ) → other ≢ var → with_bit bits var value other ≡ bits other
with_bit-other bits var value other differs = ap (λ test. if test then value else bits other) (ne_eqb other var differs)

-- a bit replaced by itself
pub with_bit-own : (bits : Bits) (var : ℕ) (value : Bool) → bits var ≡ value → with_bit bits var value ≡ bits
with_bit-own bits var value own =
    same_bits (λ other. ⊎_elim (λ same. rw same (with_bit-same bits var value ∙ sym own)) (with_bit-other bits var value other) (cases_eq other var))

-- above the replaced bit nothing changes
pub AgreeAbove-with_bit : (top var : ℕ) (bits : Bits) (value : Bool) → var ≤ top → AgreeAbove top (with_bit bits var value) bits
AgreeAbove-with_bit top var bits value low other above = with_bit-other bits var value other (λ same. absurd (omega arith))

-- bits with other values at one variable agree above it
pub AgreeAbove-two_bits : (top var : ℕ) (bits : Bits) (one two : Bool) → var ≤ top → AgreeAbove top (with_bit bits var one) (with_bit bits var two)
AgreeAbove-two_bits top var bits one two low other above =
    AgreeAbove-with_bit top var bits one low other above ∙ sym (AgreeAbove-with_bit top var bits two low other above)

-- from its variable on, bits put together are the later ones
pub below_from-later : (var : ℕ) (first later : Bits) (other : ℕ) → var ≤ other → below_from var first later other ≡ later other
below_from-later var first later other above = ap (λ test. if test then first other else later other) (le-ltb other var above)

-- and below it the first ones
pub below_from-first : (var : ℕ) (first later : Bits) (other : ℕ) → other < var → below_from var first later other ≡ first other
below_from-first var first later other below = ap (λ test. if test then first other else later other) (lt-ltb other var below)

-- bits put together agree with the later ones above the variable
pub AgreeAbove-below_from : (top var : ℕ) (first later : Bits) → var ≤ top → AgreeAbove top (below_from var first later) later
AgreeAbove-below_from top var first later low other above = below_from-later var first later other (omega arith)

-- a bit below the variable is replaced among the first ones
pub with_bit-below_from : (low var : ℕ) (first later : Bits) (value : Bool) → low < var
    → with_bit (below_from var first later) low value ≡ below_from var (with_bit first low value) later
with_bit-below_from low var first later value below = same_bits (λ other. ⊎_elim
    (λ same. rw same (with_bit-same (below_from var first later) low value
    ∙ sym (below_from-first var (with_bit first low value) later low below ∙ with_bit-same first low value)))
    (λ differs. with_bit-other (below_from var first later) low value other differs ∙ ⊎_elim
    (λ less. below_from-first var first later other less ∙ sym (below_from-first var (with_bit first low value) later other less ∙ with_bit-other first low value other differs))
    (λ more. below_from-later var first later other more ∙ sym (below_from-later var (with_bit first low value) later other more))
    (cases_lt other var))
    (cases_eq other low))

-- two replaced bits of different variables may be replaced in either order
pub with_bit-swap : (bits : Bits) (one two : ℕ) (first second : Bool) → one ≢ two
    → with_bit (with_bit bits one first) two second ≡ with_bit (with_bit bits two second) one first
with_bit-swap bits one two first second apart = same_bits (λ other. ⊎_elim
    (λ is_two.
    let differs : other ≢ one = λ is_one. apart (sym is_one ∙ is_two) in
    ap (with_bit (with_bit bits one first) two second) is_two ∙ with_bit-same (with_bit bits one first) two second
    ∙ sym (with_bit-other (with_bit bits two second) one first other differs ∙ ap (with_bit bits two second) is_two ∙ with_bit-same bits two second))
    (λ not_two. ⊎_elim
    (λ is_one.
    with_bit-other (with_bit bits one first) two second other not_two ∙ ap (with_bit bits one first) is_one ∙ with_bit-same bits one first
    ∙ sym (ap (with_bit (with_bit bits two second) one first) is_one ∙ with_bit-same (with_bit bits two second) one first))
    (λ not_one.
    with_bit-other (with_bit bits one first) two second other not_two ∙ with_bit-other bits one first other not_one
    ∙ sym (with_bit-other (with_bit bits two second) one first other not_one ∙ with_bit-other bits two second other not_two))
    (cases_eq other one))
    (cases_eq other two))

-- of two replacements of one bit the later one counts
pub with_bit-twice : (bits : Bits) (var : ℕ) (first second : Bool) → with_bit (with_bit bits var first) var second ≡ with_bit bits var second
with_bit-twice bits var first second = same_bits (λ other. ⊎_elim
    (λ is. ap (with_bit (with_bit bits var first) var second) is ∙ with_bit-same (with_bit bits var first) var second
    ∙ sym (ap (with_bit bits var second) is ∙ with_bit-same bits var second))
    (λ differs. with_bit-other (with_bit bits var first) var second other differs ∙ with_bit-other bits var first other differs
    ∙ sym (with_bit-other bits var second other differs))
    (cases_eq other var))

-- bits that agree still agree with one bit replaced in both
pub AgreeAbove-both : (top var : ℕ) (one two : Bits) (value : Bool) → AgreeAbove top one two → AgreeAbove top (with_bit one var value) (with_bit two var value)
AgreeAbove-both top var one two value agree other above = ⊎_elim
    (λ is. ap (with_bit one var value) is ∙ with_bit-same one var value ∙ sym (ap (with_bit two var value) is ∙ with_bit-same two var value))
    (λ differs. with_bit-other one var value other differs ∙ agree other above ∙ sym (with_bit-other two var value other differs))
    (cases_eq other var)
