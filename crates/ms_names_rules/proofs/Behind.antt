-- Typed lists with one more behind.
use Rattle.std.proofs.Common.{◌≡◌, ℕ, ◌+◌, List, [], ◌∷◌, ◌++◌, append_assoc, slice_get, take, Some, refl, sym, ap, ◌∙◌}
use Rattle.std.proofs.lemmas.List.{append-nil, take_more}
use Rattle.std.proofs.lemmas.Option.{get_or_from_slice_get, slice_get_within}
use Rattle.ms_logic.specs.Assignment.{Variable}
use Rattle.ms_logic.specs.declared.mode.Order.{Order}
use Rattle.ms_logic.specs.Tree.{Term, Terms, no_terms, more_terms, Form, Forms, no_forms, more_forms, Argument, Arguments, no_arguments, more_arguments}
use Rattle.ms_names_rules.specs.Numbers.{AreNew, AreNumbered, AreNumberedArguments, IsNew, IsNumbered, IsNumberedArgument, Tables, TermSees, TermsSee, exports_in, exports_in_all, exports_in_argument, exports_in_arguments, order_of_argument, orders_of_arguments, seeing, seeing_all}
use Rattle.ms_names_rules.specs.Typed.{argument_behind, formula_behind, number_behind}

pub terms-see-behind : (seen : List Variable) (ts : Terms) (t : Term) → TermsSee seen ts → TermSees seen t → TermsSee seen (number_behind ts t)
terms-see-behind seen no_terms t h k = (k, tt)
terms-see-behind seen (more_terms first ts) t h k = (h.0, terms-see-behind seen ts t h.1 k)

pub formulas-numbered-behind : (tables : Tables) (bound : ℕ) (seen : List Variable) (fs : Forms) (f : Form) → AreNumbered tables bound seen fs →
    IsNumbered tables bound seen f → AreNumbered tables bound seen (formula_behind fs f)
formulas-numbered-behind tables bound seen no_forms f h k = (k, tt)
formulas-numbered-behind tables bound seen (more_forms first fs) f h k = (h.0, formulas-numbered-behind tables bound seen fs f h.1 k)

pub arguments-numbered-behind : (tables : Tables) (bound : ℕ) (seen : List Variable) (given : Arguments) (a : Argument) → AreNumberedArguments tables bound seen given →
    IsNumberedArgument tables bound seen a → AreNumberedArguments tables bound seen (argument_behind given a)
arguments-numbered-behind tables bound seen no_arguments a h k = (k, tt)
arguments-numbered-behind tables bound seen (more_arguments first more) a h k = (h.0, arguments-numbered-behind tables bound seen more a h.1 k)

pub orders-behind : (given : Arguments) (a : Argument) → orders_of_arguments (argument_behind given a) ≡ orders_of_arguments given ++ order_of_argument a ∷ []
orders-behind no_arguments a = refl
orders-behind (more_arguments first more) a = ap (λ os. order_of_argument first ∷ os) (orders-behind more a)

pub exports-behind : (fs : Forms) (f : Form) → exports_in_all (formula_behind fs f) ≡ exports_in_all fs ++ exports_in f
exports-behind no_forms f = append-nil (exports_in f)
exports-behind (more_forms first fs) f =
    ap (λ xs. exports_in first ++ xs) (exports-behind fs f) ∙ sym (append_assoc (exports_in first) (exports_in_all fs) (exports_in f))

pub argument-exports-behind : (given : Arguments) (a : Argument) → exports_in_arguments (argument_behind given a) ≡ exports_in_arguments given ++ exports_in_argument a
argument-exports-behind no_arguments a = append-nil (exports_in_argument a)
argument-exports-behind (more_arguments first more) a =
    ap (λ xs. exports_in_argument first ++ xs) (argument-exports-behind more a)
    ∙ sym (append_assoc (exports_in_argument first) (exports_in_arguments more) (exports_in_argument a))

-- one parameter more of those that arguments have so far
pub taken-orders : (ps : List Order) (n : ℕ) (o : Order) → Some o ≡ slice_get ps n → take n ps ++ o ∷ [] ≡ take (n + 1) ps
taken-orders ps n o is =
    ap (λ p. take n ps ++ p ∷ []) (sym (get_or_from_slice_get ps n o o (sym is))) ∙ sym (take_more ps n o (slice_get_within ps n o (sym is)))

-- the names of a `let`

pub new-behind : (seen : List Variable) (xs : List ℕ) (sides : Arguments) (y : ℕ) (a : Argument) → AreNew seen xs sides → IsNew (seeing_all xs sides seen) y →
    AreNew seen (xs ++ y ∷ []) (argument_behind sides a)
new-behind seen [] no_arguments y a h new = (new, tt)
new-behind seen [] (more_arguments first more) y a h new = absurd h
new-behind seen (x ∷ xs) no_arguments y a h new = absurd h
new-behind seen (x ∷ xs) (more_arguments first more) y a h new = (h.0, new-behind (seeing x (order_of_argument first) seen) xs more y a h.1 new)

pub seeing-behind : (seen : List Variable) (xs : List ℕ) (sides : Arguments) (y : ℕ) (a : Argument) → AreNew seen xs sides →
    seeing_all (xs ++ y ∷ []) (argument_behind sides a) seen ≡ seeing y (order_of_argument a) (seeing_all xs sides seen)
seeing-behind seen [] no_arguments y a h = refl
seeing-behind seen [] (more_arguments first more) y a h = absurd h
seeing-behind seen (x ∷ xs) no_arguments y a h = absurd h
seeing-behind seen (x ∷ xs) (more_arguments first more) y a h = seeing-behind (seeing x (order_of_argument first) seen) xs more y a h.1
