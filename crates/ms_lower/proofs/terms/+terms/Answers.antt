use Rattle.std.proofs.Common.{◌≡◌, ◌+◌, ◌-◌, ◌/◌, ◌<◌, length, take, drop, refl, ap, ◌∙◌, arith}
use Rattle.std.proofs.lemmas.List.{length-drop, take_all}
use Rattle.ms_lower.specs.Numbering.{numbering_of}
use Rattle.ms_lower.specs.inner.Scope.{names_in}
use Rattle.ms_lower.specs.inner.Left.{left_of_elements}
use Rattle.ms_lower.proofs.Elements.{elements_defined, literal_defined}
use Rattle.ms_lower.proofs.Left.{first_half_falls, second_half_falls}
use Rattle.ms_lower.proofs.terms.+terms.Goals as goal

pub define_elements-define_elements-requires : goal.define_elements-define_elements-requires
define_elements-define_elements-requires t c =
    let ts = c.args.elements.now in
    let half = length ts - length ts / 2 in
    let falls : left_of_elements (take half ts) < left_of_elements ts = first_half_falls ts (take half ts) half (omega arith) refl in
    (omega arith, tt)

pub define_elements-define_elements-requires-2 : goal.define_elements-define_elements-requires-2
define_elements-define_elements-requires-2 t c =
    let ts = c.args.elements.now in
    let half = length ts - length ts / 2 in
    let later = take (length ts - half) (drop half ts) in
    let all : later ≡ drop half ts = take_all (length ts - half) (drop half ts) (let d = length-drop half ts in omega arith) in
    let falls : left_of_elements later < left_of_elements ts = second_half_falls ts later half (omega arith) (omega arith) all in
    (omega arith, tt)

pub define_elements-returns : goal.define_elements-returns
define_elements-returns t c = λ rounds enough.
    let ts = c.args.elements.now in
    let half = length ts - length ts / 2 in
    let half_is : half ≡ (length ts + 1) / 2 = omega arith in
    elements_defined (numbering_of c.args.tables.now) (names_in c.args.scope.now) ts (take half ts) (take (length ts - half) (drop half ts))
    c.args.free c.in_ok-own.own c.in_ok-left.left c.in_ok-right.right c.in_ok-core-3.core c.fresh-2.result rounds (omega arith) enough
    (ap (λ k. take k ts) half_is) (take_all (length ts - half) (drop half ts) (let d = length-drop half ts in omega arith) ∙ ap (λ k. drop k ts) half_is)
    c.in_ok-left.ensures c.in_ok-right.ensures c.in_ok-own.ensures.number c.in_ok-core-3.ensures c.fresh-2.ensures

pub define_set-returns-in_ok-define_elements-in-Literal :
    goal.define_set-returns-in_ok-define_elements-in-Literal
define_set-returns-in_ok-define_elements-in-Literal t c =
    let n = numbering_of c.args.tables.now in
    let names = names_in c.args.scope.now in
    let made = c.in_ok-define_elements-in-Literal.field-0 in
    literal_defined n names c.args.term.now c.slice.result.now c.in-Literal.elements c.args.free made c.in-Literal.is c.slice.ensures c.in_ok-define_elements-in-Literal.ensures
