use Rattle.std.proofs.Common.{◌≡◌, ◌<◌, List, ℕ, IfSome, IfNone, length, slice_index, ap, sym, subst, ◌∙◌, arith}
use Rattle.std.proofs.lemmas.Bool.{false≢true}
use Rattle.ms_logic.specs.declared.checked.MapPair.{MapPair}
use Rattle.ms_dfa.specs.declared.plain.FileVar.{FileVar}
use Rattle.ms_dfafile_adopt.specs.inner.Map.{ArePlacesOf, HaveOrdersAt, IsEachThere, file_names, pair_names}
use Rattle.ms_dfafile_adopt.proofs.MapLemmas.{IsNaming-by, names_there, orders_there, pairs_there, places_within}
use Rattle.ms_dfafile_adopt.proofs.naming.naming.Goals as goal

-- what holds of equal lists
there_as : (names wanted own other : List (List ℕ)) → names ≡ own → wanted ≡ other → IsEachThere own other → IsEachThere names wanted
there_as names wanted own other same also there = subst (λ list. IsEachThere list wanted) (sym same) (subst (IsEachThere own) (sym also) there)

are_as : (names wanted own other : List (List ℕ)) (places : List ℕ) → names ≡ own → wanted ≡ other → ArePlacesOf names wanted places → ArePlacesOf own other places
are_as names wanted own other places same also are = subst (λ list. ArePlacesOf list other places) same (subst (λ list. ArePlacesOf names list places) also are)

orders_as : (variables other : List FileVar) (pairs : List MapPair) (places also : List ℕ) → variables ≡ other → places ≡ also → HaveOrdersAt other pairs also → HaveOrdersAt variables pairs places
orders_as variables other pairs places also same equal have = subst (λ list. HaveOrdersAt list pairs places) (sym same) (subst (HaveOrdersAt other pairs) (sym equal) have)

pub returns-in-None-clause-none : goal.returns-in-None-clause-none
returns-in-None-clause-none c has =
    let own = c.in_ok-own.ensures ∙ ap file_names c.slice.ensures in
    subst (λ found. IfNone found (¬ IsEachThere c.slice-2.result.now c.slice-3.result.now)) c.in-None.is c.in_ok-made.ensures.none
    (there_as c.slice-2.result.now c.slice-3.result.now (pair_names c.args.pairs.now) (file_names c.args.plain.now.variables) (c.slice-2.ensures ∙ c.in_ok-named.ensures) (c.slice-3.ensures ∙ own)
    (names_there c.args.plain.now c.args.pairs.now has))

pub returns-in-None-2-clause-none : goal.returns-in-None-2-clause-none
returns-in-None-2-clause-none c has =
    let own = c.in_ok-own.ensures ∙ ap file_names c.slice.ensures in
    subst (λ found. IfNone found (¬ IsEachThere c.slice-4.result.now c.slice-5.result.now)) c.in-None-2.is c.in_ok-places.ensures.none
    (there_as c.slice-4.result.now c.slice-5.result.now (file_names c.args.plain.now.variables) (pair_names c.args.pairs.now) (c.slice-4.ensures ∙ own) (c.slice-5.ensures ∙ c.in_ok-named.ensures)
    (pairs_there c.args.plain.now c.args.pairs.now has))

pub have_orders-requires-clause-within : goal.have_orders-requires-clause-within
have_orders-requires-clause-within c i within =
    let own = c.in_ok-own.ensures ∙ ap file_names c.slice.ensures in
    let are = are_as c.slice-2.result.now c.slice-3.result.now (pair_names c.args.pairs.now) (file_names c.args.plain.now.variables) c.in-Some.made (c.slice-2.ensures ∙ c.in_ok-named.ensures)
    (c.slice-3.ensures ∙ own) (subst (λ found. IfSome found (ArePlacesOf c.slice-2.result.now c.slice-3.result.now)) c.in-Some.is c.in_ok-made.ensures.some) in
    let long = ap length c.slice-6.ensures in
    subst (λ places. slice_index places i < length c.args.pairs.now) (sym c.slice-7.ensures)
    (places_within c.args.plain.now c.args.pairs.now c.requires c.in-Some.made are i (omega (arith, within, long)))

pub returns-then-not-have_orders-clause-none : goal.returns-then-not-have_orders-clause-none
returns-then-not-have_orders-clause-none c has =
    let own = c.in_ok-own.ensures ∙ ap file_names c.slice.ensures in
    let are = are_as c.slice-2.result.now c.slice-3.result.now (pair_names c.args.pairs.now) (file_names c.args.plain.now.variables) c.in-Some.made (c.slice-2.ensures ∙ c.in_ok-named.ensures)
    (c.slice-3.ensures ∙ own) (subst (λ found. IfSome found (ArePlacesOf c.slice-2.result.now c.slice-3.result.now)) c.in-Some.is c.in_ok-made.ensures.some) in
    let yes = c.have_orders.ensures.1
    (orders_as c.slice-6.result.now c.args.plain.now.variables c.args.pairs.now c.slice-7.result.now c.in-Some.made c.slice-6.ensures c.slice-7.ensures
    (orders_there c.args.plain.now c.args.pairs.now c.requires c.in-Some.made are has)) in
    false≢true (sym c.if-not-have_orders.true ∙ yes)

pub returns-clause-some : goal.returns-clause-some
returns-clause-some c =
    let own = c.in_ok-own.ensures ∙ ap file_names c.slice.ensures in
    let are = are_as c.slice-2.result.now c.slice-3.result.now (pair_names c.args.pairs.now) (file_names c.args.plain.now.variables) c.in-Some.made (c.slice-2.ensures ∙ c.in_ok-named.ensures)
    (c.slice-3.ensures ∙ own) (subst (λ found. IfSome found (ArePlacesOf c.slice-2.result.now c.slice-3.result.now)) c.in-Some.is c.in_ok-made.ensures.some) in
    let back = are_as c.slice-4.result.now c.slice-5.result.now (file_names c.args.plain.now.variables) (pair_names c.args.pairs.now) c.in-Some-2.field-0 (c.slice-4.ensures ∙ own)
    (c.slice-5.ensures ∙ c.in_ok-named.ensures) (subst (λ found. IfSome found (ArePlacesOf c.slice-4.result.now c.slice-5.result.now)) c.in-Some-2.is c.in_ok-places.ensures.some) in
    let orders = orders_as c.args.plain.now.variables c.slice-6.result.now c.args.pairs.now c.in-Some.made c.slice-7.result.now (sym c.slice-6.ensures) (sym c.slice-7.ensures)
    (c.have_orders.ensures.0 c.if-not-have_orders.false) in
    IsNaming-by c.args.plain.now c.args.pairs.now c.requires c.in-Some.made are c.in-Some-2.field-0 back orders
