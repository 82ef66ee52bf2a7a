-- Variables that take the values of others, one for one: a word that encodes the values of these encodes those of the others.
use Rattle.std.proofs.Common.{◌≡◌, ℕ, ◌+◌, ◌<◌, ◌≤◌, ◌==◌, max, Bool, List, [], ◌∷◌, length, map, refl, sym, ◌∙◌, ap, ap₂, subst, arith}
use Rattle.ms_list.specs.declared.word.Word.{Word}
use Rattle.ms_logic.specs.declared.assignment.Value.{Value}
use Rattle.ms_logic.specs.declared.mode.Mode.{Mode}
use Rattle.ms_logic.specs.declared.mode.Order.{Order}
use Rattle.ms_logic.specs.declared.mode.Order.TheVariants.{Zero, One, Two}
use Rattle.ms_logic.specs.Assignment.{Env, Universe, Variable, assign, value_at, GivesEach, IsAssignment, IsUniverseOf, IsValueOf}
use Rattle.ms_logic.specs.FiniteSet.{is_member, numbers_below}
use Rattle.ms_logic.specs.Lists.{AreRising, Each}
use Rattle.ms_logic_words.specs.Word.{Encodes, HasLength}
use Rattle.ms_logic.specs.Letters.{bound_at, bound_of, bound_of_set, letter_at, truth_values_of, with_bit, with_truth_value}
use Rattle.ms_logic.proofs.Agreement.{universe-assign_all}
use Rattle.ms_logic.proofs.AssignedValues.{value_at-assign, value_at-assign_other}
use Rattle.ms_logic_core.proofs.SayingTerms.{number_in, set_in}
use Rattle.ms_logic_core.proofs.SpreadKeeps.{truth_in}
use Rattle.ms_build_source.specs.Moved.{HaveSameOrders, moved}

-- each of the one list has at e the value that its neighbour has at d
abbrev pub HaveSameValues : List Variable → List Variable → Env → Env → Type 0
HaveSameValues [] [] e d = Unit {0}
HaveSameValues [] (w ∷ ws) e d = ⊥
HaveSameValues (v ∷ vs) [] e d = ⊥
HaveSameValues (v ∷ vs) (w ∷ ws) e d = (v.order ≡ w.order) × (value_at v.order v.name e ≡ value_at w.order w.name d) × HaveSameValues vs ws e d

all_above : (v : Variable) (vs : List Variable) → AreRising (v ∷ vs) → Each (λ w. v.name < w.name) vs
all_above v [] rising = tt
all_above v (w ∷ ws) rising =
    let first = rising.0 in
    (first, higher v.name w.name ws (omega (arith, first)) (all_above w ws rising.1))
  where
    higher : (low high : ℕ) (ws : List Variable) → low ≤ high → Each (λ u. high < u.name) ws → Each (λ u. low < u.name) ws
    higher low high [] less above = tt
    higher low high (u ∷ us) less above = let first = above.0 in (omega (arith, less, first), higher low high us less above.1)

-- a smaller variable may get a value
kept : (vs ws : List Variable) (x : ℕ) (value : Value) (e d : Env) → Each (λ w. x < w.name) ws → HaveSameValues vs ws e d → HaveSameValues vs ws e (assign x value d)
kept [] [] x value e d above same = tt
kept [] (w ∷ ws) x value e d above same = absurd same
kept (v ∷ vs) [] x value e d above same = absurd same
kept (v ∷ vs) (w ∷ ws) x value e d above same =
    let less = above.0 in
    (same.0, same.1 ∙ sym (value_at-assign_other w.order x value w.name d (λ is. omega (arith, less, is))), kept vs ws x value e d above.1 same.2)

pub moved_values : (vs ws : List Variable) (e : Env) → HaveSameOrders vs ws → AreRising ws → GivesEach vs e → HaveSameValues vs ws e (moved vs ws e)
moved_values [] [] e orders rising gives = tt
moved_values [] (w ∷ ws) e orders rising gives = absurd orders
moved_values (v ∷ vs) [] e orders rising gives = absurd orders
moved_values (v ∷ vs) (w ∷ ws) e orders rising gives =
    let value = value_at v.order v.name e in
    let rest = moved vs ws e in
    let valid : IsValueOf w.order e.universe value = subst (λ o. IsValueOf o e.universe value) orders.0 gives.0 in
    (orders.0, sym (value_at-assign w.order w.name value rest e.universe valid), kept vs ws w.name value e rest (all_above w ws rising) (moved_values vs ws e orders.1 rising.1 gives.1))

-- the parts of words
same_truth : (o : Order) (x y : ℕ) (e d : Env) (more others : List Bool) → value_at o x e ≡ value_at o y d → more ≡ others → with_truth_value o x e more ≡ with_truth_value o y d others
same_truth Zero x y e d more others same rest = ap₂ (λ b bs. b ∷ bs) (ap truth_in same) rest
same_truth One x y e d more others same rest = rest
same_truth Two x y e d more others same rest = rest

same_bit : (o : Order) (x y position : ℕ) (e d : Env) (more others : List Bool) → value_at o x e ≡ value_at o y d → more ≡ others → with_bit o x position e more ≡ with_bit o y position d others
same_bit Zero x y position e d more others same rest = rest
same_bit One x y position e d more others same rest = ap₂ (λ n bs. (n == position) ∷ bs) (ap number_in same) rest
same_bit Two x y position e d more others same rest = ap₂ (λ s bs. is_member position s ∷ bs) (ap set_in same) rest

same_bound_at : (o : Order) (x y : ℕ) (e d : Env) → value_at o x e ≡ value_at o y d → bound_at o x e ≡ bound_at o y d
same_bound_at Zero x y e d same = refl
same_bound_at One x y e d same = ap (λ n. n + 1) (ap number_in same)
same_bound_at Two x y e d same = ap bound_of_set (ap set_in same)

same_truths : (vs ws : List Variable) (e d : Env) → HaveSameValues vs ws e d → truth_values_of vs e ≡ truth_values_of ws d
same_truths [] [] e d same = refl
same_truths [] (w ∷ ws) e d same = absurd same
same_truths (v ∷ vs) [] e d same = absurd same
same_truths (v ∷ vs) (w ∷ ws) e d same =
    subst (λ o. value_at v.order v.name e ≡ value_at o w.name d → with_truth_value v.order v.name e (truth_values_of vs e) ≡ with_truth_value o w.name d (truth_values_of ws d)) same.0
    (λ value. same_truth v.order v.name w.name e d (truth_values_of vs e) (truth_values_of ws d) value (same_truths vs ws e d same.2)) same.1

same_letter : (vs ws : List Variable) (e d : Env) (position : ℕ) → HaveSameValues vs ws e d → letter_at vs e position ≡ letter_at ws d position
same_letter [] [] e d position same = refl
same_letter [] (w ∷ ws) e d position same = absurd same
same_letter (v ∷ vs) [] e d position same = absurd same
same_letter (v ∷ vs) (w ∷ ws) e d position same =
    subst (λ o. value_at v.order v.name e ≡ value_at o w.name d → with_bit v.order v.name position e (letter_at vs e position) ≡ with_bit o w.name position d (letter_at ws d position)) same.0
    (λ value. same_bit v.order v.name w.name position e d (letter_at vs e position) (letter_at ws d position) value (same_letter vs ws e d position same.2)) same.1

same_bound : (vs ws : List Variable) (e d : Env) → HaveSameValues vs ws e d → bound_of vs e ≡ bound_of ws d
same_bound [] [] e d same = refl
same_bound [] (w ∷ ws) e d same = absurd same
same_bound (v ∷ vs) [] e d same = absurd same
same_bound (v ∷ vs) (w ∷ ws) e d same =
    ap₂ max
    (subst (λ o. value_at v.order v.name e ≡ value_at o w.name d → bound_at v.order v.name e ≡ bound_at o w.name d) same.0 (λ value. same_bound_at v.order v.name w.name e d value) same.1)
    (same_bound vs ws e d same.2)

-- a word that encodes the one encodes the other
pub same_encoding : (vs ws : List Variable) (e d : Env) (word : Word) → HaveSameValues vs ws e d → e.universe ≡ d.universe → Encodes vs word e → Encodes ws word d
same_encoding vs ws e d word same universe encodes = record {
  truth = encodes.truth ∙ same_truths vs ws e d same;
  letters = encodes.letters ∙ (λ i. map (λ position. same_letter vs ws e d position same i) (numbers_below (length word.letters)));
  room = subst (λ bound. bound ≤ length word.letters) (same_bound vs ws e d same) encodes.room;
  string = subst (λ u. HasLength u (length word.letters)) universe encodes.string;
}

pub moved_encoding : (vs ws : List Variable) (e : Env) (word : Word) → HaveSameOrders vs ws → AreRising ws → GivesEach vs e → Encodes vs word e → Encodes ws word (moved vs ws e)
moved_encoding vs ws e word orders rising gives encodes =
    same_encoding vs ws e (moved vs ws e) word (moved_values vs ws e orders rising gives)
    (sym (universe-assign_all (map (λ w. w.name) ws) (map (λ v. value_at v.order v.name e) vs) e)) encodes

-- the other list has values, too, so that the moved values are an assignment of it
same_gives : (vs ws : List Variable) (e d : Env) → HaveSameValues vs ws e d → e.universe ≡ d.universe → GivesEach vs e → GivesEach ws d
same_gives [] [] e d same universe gives = tt
same_gives [] (w ∷ ws) e d same universe gives = absurd same
same_gives (v ∷ vs) [] e d same universe gives = absurd same
same_gives (v ∷ vs) (w ∷ ws) e d same universe gives =
    let of_order : IsValueOf w.order e.universe (value_at v.order v.name e) = subst (λ o. IsValueOf o e.universe (value_at v.order v.name e)) same.0 gives.0 in
    let in_universe : IsValueOf w.order d.universe (value_at v.order v.name e) = subst (λ u. IsValueOf w.order u (value_at v.order v.name e)) universe of_order in
    (subst (λ value. IsValueOf w.order d.universe value) same.1 in_universe, same_gives vs ws e d same.2 universe gives.1)

moved_universe : (vs ws : List Variable) (e : Env) → (moved vs ws e).universe ≡ e.universe
moved_universe vs ws e = universe-assign_all (map (λ w. w.name) ws) (map (λ v. value_at v.order v.name e) vs) e

pub moved_assignment : (mode : Mode) (vs ws : List Variable) (e : Env) → HaveSameOrders vs ws → AreRising ws → IsAssignment mode vs e → IsAssignment mode ws (moved vs ws e)
moved_assignment mode vs ws e orders rising assigned = record {
  universe = subst (λ (u : Universe). IsUniverseOf mode u) (sym (moved_universe vs ws e)) assigned.universe;
  values = same_gives vs ws e (moved vs ws e) (moved_values vs ws e orders rising assigned.values) (sym (moved_universe vs ws e)) assigned.values;
}

pub orders_back : (vs ws : List Variable) → HaveSameOrders vs ws → HaveSameOrders ws vs
orders_back [] [] same = tt
orders_back [] (w ∷ ws) same = absurd same
orders_back (v ∷ vs) [] same = absurd same
orders_back (v ∷ vs) (w ∷ ws) same = (sym same.0, orders_back vs ws same.1)

pub orders_equal : (vs ws : List Variable) → HaveSameOrders vs ws → map (λ (v : Variable). v.order) vs ≡ map (λ (w : Variable). w.order) ws
orders_equal [] [] same = refl
orders_equal [] (w ∷ ws) same = absurd same
orders_equal (v ∷ vs) [] same = absurd same
orders_equal (v ∷ vs) (w ∷ ws) same = ap₂ (λ o os. o ∷ os) same.0 (orders_equal vs ws same.1)
