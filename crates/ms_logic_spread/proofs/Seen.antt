-- The free variables of a formula whose numbers are in order are seen where it stands.
use Rattle.std.proofs.Common.{◌≡◌, ℕ, ◌⊎◌, inl, inr, ⊎_elim, List, [], ◌∷◌, map, slice_get, IsSomeAnd, refl, sym, ◌∙◌, ap, subst}
use Rattle.ms_logic.specs.declared.mode.Order.{Order}
use Rattle.ms_logic.specs.declared.mode.Order.TheVariants.{Zero, One, Two}
use Rattle.ms_logic.specs.Assignment.{Variable}
use Rattle.ms_logic.specs.FreeVariables.{IsVariable, IsBound, IsListed, Reads, order_of, orders_of, TermReads, SetTermReads, TermsRead, FreeUnder, FreeInForms, FreeInRestriction, FreeInArguments, FreeInArgument, FreeInRestrictions}
use Rattle.ms_logic.specs.Tree.{Term, number_variable, numeral, plus, minus, minimum, maximum, SetTerm, set_variable, empty_set, whole, literal, pconst, union, intersection, difference, shift_up, shift_down, Terms, no_terms, more_terms}
use Rattle.ms_logic.specs.Tree.{Form, truth, falsity, truth_variable, negation, conjunction, disjunction, implication, equivalence, comparison, set_comparison, membership, emptiness, quantified, where_let, call, restrict, imported, exported, default_at, Forms, no_forms, more_forms, Restriction, unrestricted, restricted, Argument, truth_argument, number_argument, set_argument, Arguments, no_arguments, more_arguments, Declaration}
use Rattle.ms_names_rules.specs.Numbers.{Tables, Sees, seeing, seeing_all, TermSees, SetSees, TermsSee, order_of_argument, orders_of_arguments, HasParameters, IsDefault, ImportSees, IsNumbered, AreNumbered, IsNumberedRestriction, IsNumberedArgument, AreNumberedArguments, AreNumberedParameters}

-- a variable that is seen is listed
pub listed-sees : (seen : List Variable) (x : ℕ) (o : Order) (w : Variable) → Sees seen x o → IsVariable x o w → IsListed seen w
listed-sees [] x o w sees is = absurd sees
listed-sees (v ∷ vs) x o w sees is =
    ⊎_elim (λ same. inl (is.0 ∙ sym (ap (λ (u : Variable). u.name) same), is.1 ∙ sym (ap (λ (u : Variable). u.order) same))) (λ later. inr (listed-sees vs x o w later is)) sees

mutual
  term_seen : (t : Term) (seen : List Variable) (w : Variable) → TermSees seen t → TermReads t w → IsListed seen w
  term_seen (number_variable x) seen w sees reads = listed-sees seen x One w sees reads
  term_seen (numeral n) seen w sees reads = absurd reads
  term_seen (plus t n) seen w sees reads = term_seen t seen w sees reads
  term_seen (minus t n) seen w sees reads = term_seen t seen w sees reads
  term_seen (minimum s) seen w sees reads = set_seen s seen w sees reads
  term_seen (maximum s) seen w sees reads = set_seen s seen w sees reads

  set_seen : (s : SetTerm) (seen : List Variable) (w : Variable) → SetSees seen s → SetTermReads s w → IsListed seen w
  set_seen (set_variable x) seen w sees reads = listed-sees seen x Two w sees reads
  set_seen empty_set seen w sees reads = absurd reads
  set_seen whole seen w sees reads = absurd reads
  set_seen (literal ts) seen w sees reads = terms_seen ts seen w sees reads
  set_seen (pconst n) seen w sees reads = absurd reads
  set_seen (union s t) seen w sees reads = ⊎_elim (set_seen s seen w sees.0) (set_seen t seen w sees.1) reads
  set_seen (intersection s t) seen w sees reads = ⊎_elim (set_seen s seen w sees.0) (set_seen t seen w sees.1) reads
  set_seen (difference s t) seen w sees reads = ⊎_elim (set_seen s seen w sees.0) (set_seen t seen w sees.1) reads
  set_seen (shift_up s n) seen w sees reads = set_seen s seen w sees reads
  set_seen (shift_down s n) seen w sees reads = set_seen s seen w sees reads

  terms_seen : (ts : Terms) (seen : List Variable) (w : Variable) → TermsSee seen ts → TermsRead ts w → IsListed seen w
  terms_seen no_terms seen w sees reads = absurd reads
  terms_seen (more_terms t ts) seen w sees reads = ⊎_elim (term_seen t seen w sees.0) (terms_seen ts seen w sees.1) reads

-- the orders of arguments
order-of : (a : Argument) → order_of_argument a ≡ order_of a
order-of (truth_argument f) = refl
order-of (number_argument t) = refl
order-of (set_argument s) = refl

pub orders-of : (given : Arguments) → orders_of_arguments given ≡ orders_of given
orders-of no_arguments = refl
orders-of (more_arguments a more) = ap (λ o. o ∷ orders_of_arguments more) (order-of a) ∙ ap (λ os. order_of a ∷ os) (orders-of more)

-- what the body of a `let` sees: its names, and all that is seen around it
let_seen : (xs : List ℕ) (sides : Arguments) (seen : List Variable) (w : Variable) → IsListed (seeing_all xs sides seen) w → (IsBound xs (orders_of sides) w → ⊥) → IsListed seen w
let_seen [] sides seen w listed not_bound = listed
let_seen (x ∷ xs) no_arguments seen w listed not_bound = listed
let_seen (x ∷ xs) (more_arguments a more) seen w listed not_bound =
    ⊎_elim (λ is. absurd (not_bound (inl (is.0, is.1 ∙ order-of a)))) (λ before. before) (let_seen xs more (seeing x (order_of_argument a) seen) w listed (λ bound. not_bound (inr bound)))

let_sees : (xs : List ℕ) (sides : Arguments) (seen : List Variable) (w : Variable) → IsListed seen w → IsListed (seeing_all xs sides seen) w
let_sees [] sides seen w listed = listed
let_sees (x ∷ xs) no_arguments seen w listed = listed
let_sees (x ∷ xs) (more_arguments a more) seen w listed = let_sees xs more (seeing x (order_of_argument a) seen) w (inr listed)

-- What calls, default restrictions and imports read is seen: a call with arguments that fit reads globals, a default restriction at
-- a variable reads that variable and globals, and an import reads its variables.
pub record ReadSeen (tables : Tables) (r : Reads) (bound : ℕ) (globals : List Variable) : Type 0 where
  pub called : (p : ℕ) (orders : List Order) (w : Variable) → HasParameters tables bound p orders → r.called p orders w → IsListed globals w
  pub default : (p x : ℕ) (o : Order) (w : Variable) → IsDefault tables bound p o → r.default p x w → IsVariable x o w ⊎ IsListed globals w
  pub imported : (i : ℕ) (seen : List Variable) (w : Variable) → IsSomeAnd (slice_get tables.imports i) (ImportSees seen) → r.imported i w → IsListed seen w

-- all that is listed in the first list is listed in the second
abbrev pub IsWithin : List Variable → List Variable → Type 0
IsWithin few many = (w : Variable) → IsListed few w → IsListed many w

module _ (tables : Tables) (r : Reads) (bound : ℕ) (globals : List Variable) (reads : ReadSeen tables r bound globals) where
  mutual
    pub free_seen : (f : Form) (seen : List Variable) → IsWithin globals seen → IsNumbered tables bound seen f → (w : Variable) → FreeUnder r f w → IsListed seen w
    free_seen truth seen within numbered w free = absurd free
    free_seen falsity seen within numbered w free = absurd free
    free_seen (truth_variable x) seen within numbered w free = listed-sees seen x Zero w numbered free
    free_seen (negation f) seen within numbered w free = free_seen f seen within numbered w free
    free_seen (conjunction fs) seen within numbered w free = forms_seen fs seen within numbered w free
    free_seen (disjunction fs) seen within numbered w free = forms_seen fs seen within numbered w free
    free_seen (implication f g) seen within numbered w free = ⊎_elim (free_seen f seen within numbered.0 w) (free_seen g seen within numbered.1 w) free
    free_seen (equivalence f g) seen within numbered w free = ⊎_elim (free_seen f seen within numbered.0 w) (free_seen g seen within numbered.1 w) free
    free_seen (comparison rel t u) seen within numbered w free = ⊎_elim (term_seen t seen w numbered.0) (term_seen u seen w numbered.1) free
    free_seen (set_comparison rel s t) seen within numbered w free = ⊎_elim (set_seen s seen w numbered.0) (set_seen t seen w numbered.1) free
    free_seen (membership positive t s) seen within numbered w free = ⊎_elim (term_seen t seen w numbered.0) (set_seen s seen w numbered.1) free
    free_seen (emptiness s) seen within numbered w free = set_seen s seen w numbered free
    free_seen (quantified q o x d f) seen within numbered w free =
        ⊎_elim (λ is. absurd (free.0 is)) (λ before. before) (⊎_elim (restriction_seen d (seeing x o seen) (λ v listed. inr (within v listed)) numbered.1 w) (free_seen f (seeing x o seen) (λ v listed. inr (within v listed)) numbered.2 w) free.1)
    free_seen (where_let xs sides f) seen within numbered w free =
        ⊎_elim (arguments_seen sides seen within numbered.0 w)
        (λ body. let_seen xs sides seen w (free_seen f (seeing_all xs sides seen) (λ v listed. let_sees xs sides seen v (within v listed)) numbered.2 w body.1) body.0) free
    free_seen (call p given) seen within numbered w free =
        ⊎_elim (arguments_seen given seen within numbered.1 w)
        (λ called. let P : List Order → Type 0 = λ orders. HasParameters tables bound p orders in within w (reads.called p (orders_of given) w (subst P (orders-of given) numbered.0) called)) free
    free_seen (restrict f) seen within numbered w free = free_seen f seen within numbered w free
    free_seen (imported i) seen within numbered w free = reads.imported i seen w numbered free
    free_seen (exported i f) seen within numbered w free = free_seen f seen within numbered.1 w free
    free_seen (default_at p x) seen within numbered w free =
        ⊎_elim (λ is. listed-sees seen x numbered.0 w numbered.1 is) (λ global. within w global) (reads.default p x numbered.0 w numbered.2 free)

    pub forms_seen : (fs : Forms) (seen : List Variable) → IsWithin globals seen → AreNumbered tables bound seen fs → (w : Variable) → FreeInForms r fs w → IsListed seen w
    forms_seen no_forms seen within numbered w free = absurd free
    forms_seen (more_forms f fs) seen within numbered w free = ⊎_elim (free_seen f seen within numbered.0 w) (forms_seen fs seen within numbered.1 w) free

    pub restriction_seen : (d : Restriction) (seen : List Variable) → IsWithin globals seen → IsNumberedRestriction tables bound seen d → (w : Variable) → FreeInRestriction r d w → IsListed seen w
    restriction_seen unrestricted seen within numbered w free = absurd free
    restriction_seen (restricted d) seen within numbered w free = free_seen d seen within numbered w free

    arguments_seen : (given : Arguments) (seen : List Variable) → IsWithin globals seen → AreNumberedArguments tables bound seen given → (w : Variable) → FreeInArguments r given w → IsListed seen w
    arguments_seen no_arguments seen within numbered w free = absurd free
    arguments_seen (more_arguments a more) seen within numbered w free = ⊎_elim (argument_seen a seen within numbered.0 w) (arguments_seen more seen within numbered.1 w) free

    argument_seen : (a : Argument) (seen : List Variable) → IsWithin globals seen → IsNumberedArgument tables bound seen a → (w : Variable) → FreeInArgument r a w → IsListed seen w
    argument_seen (truth_argument f) seen within numbered w free = free_seen f seen within numbered w free
    argument_seen (number_argument t) seen within numbered w free = term_seen t seen w numbered free
    argument_seen (set_argument s) seen within numbered w free = set_seen s seen w numbered free

  -- what a predicate's restrictions and its body read is a parameter, or seen around it
  pub parameters_seen : (ds : List Declaration) (body : Form) (seen : List Variable) → IsWithin globals seen → AreNumberedParameters tables bound seen ds body → (w : Variable) →
      FreeInRestrictions r ds w ⊎ FreeUnder r body w → IsBound (map (λ d. d.variable.name) ds) (map (λ d. d.variable.order) ds) w ⊎ IsListed seen w
  parameters_seen [] body seen within numbered w free = inr (⊎_elim (λ none. absurd none) (free_seen body seen within numbered w) free)
  parameters_seen (d ∷ ds) body seen within numbered w free =
      let inside = seeing d.variable.name d.variable.order seen in
      let within_too : IsWithin globals inside = λ v listed. inr (within v listed) in
      ⊎_elim
      (λ restrictions. ⊎_elim
      (λ first. ⊎_elim (λ is. inl (inl is)) (λ before. inr before) (restriction_seen d.restriction inside within_too numbered.1 w first))
      (λ others. later (parameters_seen ds body inside within_too numbered.2 w (inl others))) restrictions)
      (λ in_body. later (parameters_seen ds body inside within_too numbered.2 w (inr in_body))) free
    where
      later : IsBound (map (λ d. d.variable.name) ds) (map (λ d. d.variable.order) ds) w ⊎ IsListed (seeing d.variable.name d.variable.order seen) w →
          IsBound (map (λ d. d.variable.name) (d ∷ ds)) (map (λ d. d.variable.order) (d ∷ ds)) w ⊎ IsListed seen w
      later found = ⊎_elim (λ bound. inl (inr bound)) (λ listed. ⊎_elim (λ is. inl (inl is)) (λ before. inr before) listed) found
