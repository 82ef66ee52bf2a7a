-- What is read and what is free: the same variables, of those in scope.
use Rattle.std.proofs.Common.{◌≡◌, ℕ, ◌≤◌, ◌⊎◌, ◌↔◌, inl, inr, ⊎_elim, Bool, true, false, List, [], ◌∷◌, ◌++◌, map, Option, Some, None, refl, sym, subst, arith, take}
use Rattle.std.specs.Prelude.{slice_get}
use Rattle.std.specs.Option.{IsSomeAnd, option_and_then}
use Rattle.ms_logic.specs.declared.checked.ExportUse.{ExportUse}
use Rattle.ms_logic.specs.declared.checked.MapPair.{MapPair}
use Rattle.ms_logic.specs.declared.mode.Order.{Order}
use Rattle.ms_logic.specs.declared.mode.Order.TheVariants.{Zero, One, Two}
use Rattle.ms_logic.specs.declared.mode.Rel.{Rel}
use Rattle.ms_logic.specs.declared.mode.Rel.TheVariants.{Equal, Differs, Less, AtMost, Greater, AtLeast, Member, NotMember, Sub}
use Rattle.ms_logic.specs.declared.source.Rename.{Rename}
use Rattle.ms_logic.specs.Assignment.{Variable}
use Rattle.ms_logic.specs.FreeVariables.{IsListed, IsVariable, Reads, FreeInArgument, FreeInArguments, FreeUnder, SetTermReads, TermReads, order_of, orders_of}
use Rattle.ms_logic.specs.Lists.{AreRising, Each}
use Rattle.ms_logic_core.specs.Roots.{Export, exports_in}
use Rattle.ms_logic.specs.Tree as tree
use Rattle.ms_logic.specs.Tree.{Argument, truth_argument, number_argument, set_argument, Arguments, Form, SetTerm, Term}
use Rattle.ms_names_rules.specs.declared.meaning.Meaning.{Meaning}
use Rattle.ms_names_rules.specs.declared.meaning.Meaning.TheVariants as meaning
use Rattle.ms_names_rules.specs.declared.meaning.Reading.TheVariants.{Predicate}
use Rattle.ms_names_rules.specs.inner.Free.{Readings}
use Rattle.ms_names_rules.specs.Occurrence.{Occurrence}
use Rattle.ms_names_rules.specs.Order.{parameters_of}
use Rattle.ms_names_rules.specs.Reads.{readings_at, readings_of_call, readings_of_name, readings_of_renames, readings_of_variable}
use Rattle.ms_names_rules.specs.Scope.{Scope, meaning_of, Bytes}
use Rattle.ms_names_rules.specs.Typed.{formula_in, number_in, set_in, of_order, related_member, related_numbers, related_sets, typed_call, typed_name, typed_relation, typed_shift, variable_argument, as_many}
use Rattle.ms_names_rules.specs.Uses.{pair_of, pairs_of}
use Rattle.ms_names_rules.proofs.Fitting.{Falls, If, each-append, if-one}
use Rattle.ms_names_checked.specs.Constants.{RelatesNumbers, RelatesSets}
use Rattle.ms_names_checked.proofs.OfOrders.{if-formula, if-number, if-order, if-set}
use Rattle.ms_names_checked.proofs.Leading.{Any, LeadsTo, Reaches, any-back, any-front, any-split, leads-variable, variable-leads}
use Rattle.ms_names_checked.proofs.Scopes.{IsInScope, IsMeaning, IsOld, IsPredicate, Knows, Names, in-scope-once, in-scope-same, meaning-known, old-more}
use Rattle.ms_names_rules.proofs.Numbering.{all-taken}
use Rattle.ms_names_rules.specs.inner.Examples.{nothing}

-- an entry of the table of exports lists the free variables of a formula, where predicates and imports read so
abbrev pub ListsFreeUnder : Reads → Form → ExportUse → Type 0
ListsFreeUnder r f used = (vs : List Variable) × (used.variables ≡ map (λ v. v.name) vs) × AreRising vs × ((w : Variable) → IsListed vs w ↔ FreeUnder r f w)

abbrev pub ExportLists : Reads → List ExportUse → Export → Type 0
ExportLists r exports e = IsSomeAnd (slice_get exports e.number) (ListsFreeUnder r e.formula)

-- Of the variables in scope just those are free to which something leads; it leads to no new ones; and the exports list their variables.
pub record Told (r : Reads) (exports : List ExportUse) (low high : ℕ) (names : Names) (Q : ℕ → Type 0) (F : Variable → Type 0) (es : List Export) : Type 0 where
  pub free : (w : Variable) → F w → Q w.name × IsInScope names w
  pub back : (w : Variable) → IsInScope names w → Q w.name → F w
  pub old : (x : ℕ) → Q x → IsOld low high names x
  pub listed : Each (ExportLists r exports) es

abbrev pub exports_of : Argument → List Export
exports_of (truth_argument f) = exports_in f
exports_of (number_argument t) = []
exports_of (set_argument s) = []

pub only : {A : Type 0} → A ⊎ ⊥ → A
only h = ⊎_elim (λ a. a) (λ none. absurd none) h

-- the variables of an import
abbrev pub IsPaired : List MapPair → Variable → Type 0
IsPaired pairs w = Any (λ (p : MapPair). IsVariable p.variable p.order w) pairs

module _ (r : Reads) (exports : List ExportUse) (R : List Readings) (low : ℕ) where
  pub told-none : (high : ℕ) (names : Names) (Q : ℕ → Type 0) (F : Variable → Type 0) → ((x : ℕ) → Q x → ⊥) → ((w : Variable) → F w → ⊥) → Told r exports low high names Q F []
  told-none high names Q F nothing none = record {
    free = λ w free. absurd (none w free);
    back = λ w seen reached. absurd (nothing w.name reached);
    old = λ x reached. absurd (nothing x reached);
    listed = tt;
  }

  -- the same said otherwise
  pub told-same : (high more : ℕ) (names : Names) (Q S : ℕ → Type 0) (F G : Variable → Type 0) (es : List Export) → high ≤ more →
      ((x : ℕ) → Q x ↔ S x) → ((w : Variable) → F w ↔ G w) → Told r exports low high names Q F es → Told r exports low more names S G es
  told-same high more names Q S F G es le same also h = record {
    free = λ w free. let there = h.free w ((also w).1 free) in ((same w.name).0 there.0, there.1);
    back = λ w seen reached. (also w).0 (h.back w seen ((same w.name).1 reached));
    old = λ x reached. old-more low high more names names x le (λ w seen. seen) (h.old x ((same x).1 reached));
    listed = h.listed;
  }

  pub told-join : (high more : ℕ) (names : Names) (Q S : ℕ → Type 0) (F G : Variable → Type 0) (es ds : List Export) → high ≤ more →
      Told r exports low high names Q F es → Told r exports low more names S G ds → Told r exports low more names (λ x. Q x ⊎ S x) (λ w. F w ⊎ G w) (es ++ ds)
  told-join high more names Q S F G es ds le h k = record {
    free = λ w free.
        ⊎_elim (λ first. let there = h.free w first in (inl there.0, there.1)) (λ second. let there = k.free w second in (inr there.0, there.1)) free;
    back = λ w seen reached. ⊎_elim (λ first. inl (h.back w seen first)) (λ second. inr (k.back w seen second)) reached;
    old = λ x reached. ⊎_elim (λ first. old-more low high more names names x le (λ w seen. seen) (h.old x first)) (λ second. k.old x second) reached;
    listed = each-append (ExportLists r exports) es ds h.listed k.listed;
  }

  pub told-drop : {high : ℕ} {names : Names} {Q : ℕ → Type 0} {F : Variable → Type 0} {es : List Export} → Told r exports low high names Q F es → Told r exports low high names Q F []
  told-drop h = record { free = h.free; back = h.back; old = h.old; listed = tt }

  -- expressions one after the other, and an expression that reads nothing itself before those inside it
  pub told-two : (high more : ℕ) (names : Names) (os ps : List Occurrence) (F G : Variable → Type 0) (es ds : List Export) → high ≤ more →
      Told r exports low high names (Reaches R os) F es → Told r exports low more names (Reaches R ps) G ds →
      Told r exports low more names (Reaches R (os ++ ps)) (λ w. F w ⊎ G w) (es ++ ds)
  told-two high more names os ps F G es ds le h k =
      let P : ℕ → Occurrence → Type 0 = λ x o. Any (LeadsTo R x) (readings_at o) in
      told-same more more names (λ x. Reaches R os x ⊎ Reaches R ps x) (Reaches R (os ++ ps)) (λ w. F w ⊎ G w) (λ w. F w ⊎ G w) (es ++ ds) (omega arith)
      (λ x. (λ both. ⊎_elim (any-front (P x) os ps) (any-back (P x) os ps) both, any-split (P x) os ps))
      (λ w. (λ free. free, λ free. free)) (told-join high more names (Reaches R os) (Reaches R ps) F G es ds le h k)

  pub told-front : {high : ℕ} {names : Names} {F : Variable → Type 0} {es : List Export} (o : Occurrence) (os : List Occurrence) →
      ((x : ℕ) → Any (LeadsTo R x) (readings_at o) → ⊥) → Told r exports low high names (Reaches R os) F es → Told r exports low high names (Reaches R (o ∷ os)) F es
  told-front {high} {names} {F} {es} o os none h =
      told-same high high names (Reaches R os) (Reaches R (o ∷ os)) F F es (omega arith) (λ x. (λ later. inr later, λ any. ⊎_elim (λ own. absurd (none x own)) (λ later. later) any))
      (λ w. (λ free. free, λ free. free)) h

  -- arguments by their orders

  pub formula-told : (high : ℕ) (names : Names) (Q : ℕ → Type 0) (a : Option Argument) → If (λ a. Told r exports low high names Q (λ v. FreeInArgument r a v) (exports_of a)) a →
      If (λ f. Told r exports low high names Q (λ v. FreeUnder r f v) (exports_in f)) (formula_in a)
  formula-told high names Q = if-formula (λ a. Told r exports low high names Q (λ v. FreeInArgument r a v) (exports_of a))

  pub number-told : (high : ℕ) (names : Names) (Q : ℕ → Type 0) (a : Option Argument) → If (λ a. Told r exports low high names Q (λ v. FreeInArgument r a v) (exports_of a)) a →
      If (λ t. Told r exports low high names Q (λ v. TermReads t v) []) (number_in a)
  number-told high names Q = if-number (λ a. Told r exports low high names Q (λ v. FreeInArgument r a v) (exports_of a))

  pub set-told : (high : ℕ) (names : Names) (Q : ℕ → Type 0) (a : Option Argument) → If (λ a. Told r exports low high names Q (λ v. FreeInArgument r a v) (exports_of a)) a →
      If (λ t. Told r exports low high names Q (λ v. SetTermReads t v) []) (set_in a)
  set-told high names Q = if-set (λ a. Told r exports low high names Q (λ v. FreeInArgument r a v) (exports_of a))

  -- an argument of an order
  abbrev pub OrderTold : ℕ → Names → (ℕ → Type 0) → Order → Argument → Type 0
  OrderTold high names Q o a = Told r exports low high names Q (λ v. FreeInArgument r a v) (exports_of a) × (order_of a ≡ o)

  pub order-told : (high : ℕ) (names : Names) (Q : ℕ → Type 0) (o : Order) (a : Option Argument) →
      If (λ a. Told r exports low high names Q (λ v. FreeInArgument r a v) (exports_of a)) a → If (OrderTold high names Q o) (option_and_then (of_order o) a)
  order-told high names Q = if-order (λ a. Told r exports low high names Q (λ v. FreeInArgument r a v) (exports_of a)) (OrderTold high names Q) (λ f h. (h, refl)) (λ t h. (h, refl)) (λ s h. (h, refl))

  -- a shift reads what its term reads
  pub shift-told : (high : ℕ) (names : Names) (Q : ℕ → Type 0) (minus : Bool) (n : Option ℕ) (a : Option Argument) →
      If (λ a. Told r exports low high names Q (λ v. FreeInArgument r a v) (exports_of a)) a →
      If (λ a. Told r exports low high names Q (λ v. FreeInArgument r a v) (exports_of a)) (typed_shift minus n a)
  shift-told high names Q minus None a h = tt
  shift-told high names Q minus (Some n) None h = tt
  shift-told high names Q minus (Some n) (Some (truth_argument f)) h = tt
  shift-told high names Q true (Some n) (Some (number_argument t)) h = h
  shift-told high names Q false (Some n) (Some (number_argument t)) h = h
  shift-told high names Q true (Some n) (Some (set_argument s)) h = h
  shift-told high names Q false (Some n) (Some (set_argument s)) h = h

  -- a variable, by its number
  pub variable-told : (high : ℕ) (names : Names) (x : ℕ) (o : Order) → Falls names → IsInScope names (record { name = x; order = o }) →
      Told r exports low high names (λ y. y ≡ x) (λ w. IsVariable x o w) []
  variable-told high names x o falls seen =
      let v : Variable = record { name = x; order = o } in
      record {
        free = λ w is. (is.0, in-scope-same names v w (sym is.0) (sym is.1) seen);
        back = λ w here same. (same, in-scope-once names w v falls here seen same);
        old = λ y same. inl (o, in-scope-same names v (record { name = y; order = o }) (sym same) refl seen);
        listed = tt;
      }

  -- a predicate with arguments of these orders
  pub predicate-told : (start high : ℕ) (names : Names) (p : ℕ) (parameters : List Order) → start ≤ high → IsPredicate r R low start names p parameters →
      Told r exports low high names (λ y. LeadsTo R y (Predicate p)) (λ w. r.called p parameters w) []
  predicate-told start high names p parameters le h = record {
    free = h.free;
    back = h.back;
    old = λ x lead. old-more low start high names names x le (λ w seen. seen) (h.old x lead);
    listed = tt;
  }

  -- a name by itself

  name-variable : (high : ℕ) (names : Names) (x : ℕ) (o : Order) → Falls names → IsInScope names (record { name = x; order = o }) →
      Told r exports low high names (λ y. Any (LeadsTo R y) (readings_of_name (Some (meaning.Variable x o))) ⊎ ⊥) (λ w. IsVariable x o w) []
  name-variable high names x o falls seen =
      told-same high high names (λ y. y ≡ x) (λ y. Any (LeadsTo R y) (readings_of_name (Some (meaning.Variable x o))) ⊎ ⊥) (λ w. IsVariable x o w) (λ w. IsVariable x o w) [] (omega arith)
      (λ y. (λ same. inl (inl (variable-leads R y x same)), λ any. leads-variable R y x (only (only any)))) (λ w. (λ is. is, λ is. is))
      (variable-told high names x o falls seen)

  name-order : (high : ℕ) (names : Names) (x : ℕ) (o : Order) → Falls names → IsInScope names (record { name = x; order = o }) →
      Told r exports low high names (λ y. Any (LeadsTo R y) (readings_of_name (Some (meaning.Variable x o))) ⊎ ⊥) (λ v. FreeInArgument r (variable_argument x o) v) (exports_of (variable_argument x o))
  name-order high names x Zero falls seen = name-variable high names x Zero falls seen
  name-order high names x One falls seen = name-variable high names x One falls seen
  name-order high names x Two falls seen = name-variable high names x Two falls seen

  pub name-told : (start high : ℕ) (names : Names) (m : Option Meaning) → start ≤ high → Falls names → If (IsMeaning r R low start names) m →
      If (λ a. Told r exports low high names (λ y. Any (LeadsTo R y) (readings_of_name m) ⊎ ⊥) (λ v. FreeInArgument r a v) (exports_of a)) (typed_name m)
  name-told start high names None le falls h = tt
  name-told start high names (Some (meaning.Variable x o)) le falls h = name-order high names x o falls h
  name-told start high names (Some (meaning.Constant value)) le falls h =
      told-none high names (λ y. Any (LeadsTo R y) (readings_of_name (Some (meaning.Constant value))) ⊎ ⊥) (λ v. FreeInArgument r (number_argument (tree.numeral value)) v)
      (λ y none. only none) (λ v none. none)
  name-told start high names (Some (meaning.Predicate p [])) le falls h =
      told-same high high names (λ y. LeadsTo R y (Predicate p)) (λ y. Any (LeadsTo R y) (readings_of_name (Some (meaning.Predicate p []))) ⊎ ⊥) (λ w. r.called p [] w)
      (λ v. FreeInArgument r (truth_argument (tree.call p tree.no_arguments)) v) [] (omega arith)
      (λ y. (λ lead. inl (inl lead), λ any. only (only any))) (λ w. (λ free. inr free, λ free. ⊎_elim (λ none. absurd none) (λ called. called) free))
      (predicate-told start high names p [] le h)
  name-told start high names (Some (meaning.Predicate p (o ∷ parameters))) le falls h = tt

  -- calls

  pub call-told : (start high : ℕ) (names : Names) (m : Option Meaning) (n : ℕ) (given : Option Arguments) (os : List Occurrence) → start ≤ high →
      If (IsMeaning r R low start names) m →
      If (λ arguments. Told r exports low high names (Reaches R os) (λ v. FreeInArguments r arguments v) [] × (orders_of arguments ≡ take n (parameters_of m))) given →
      If (λ a. Told r exports low high names (λ y. Any (LeadsTo R y) (readings_of_call m) ⊎ Reaches R os y) (λ v. FreeInArgument r a v) (exports_of a)) (typed_call m (as_many n (parameters_of m) given))
  call-told start high names None n given os le h all = tt
  call-told start high names (Some (meaning.Variable x o)) n given os le h all = tt
  call-told start high names (Some (meaning.Constant value)) n given os le h all = tt
  call-told start high names (Some (meaning.Predicate p parameters)) n given os le h all =
      if-one (λ arguments. Told r exports low high names (Reaches R os) (λ v. FreeInArguments r arguments v) [] × (orders_of arguments ≡ parameters))
      (λ a. Told r exports low high names (λ y. (LeadsTo R y (Predicate p) ⊎ ⊥) ⊎ Reaches R os y) (λ v. FreeInArgument r a v) (exports_of a))
      (λ arguments. truth_argument (tree.call p arguments)) (as_many n parameters given)
      (λ arguments k.
      told-same high high names (λ y. LeadsTo R y (Predicate p) ⊎ Reaches R os y) (λ y. (LeadsTo R y (Predicate p) ⊎ ⊥) ⊎ Reaches R os y)
      (λ v. r.called p parameters v ⊎ FreeInArguments r arguments v) (λ v. FreeInArgument r (truth_argument (tree.call p arguments)) v) [] (omega arith)
      (λ y. (λ any. ⊎_elim (λ lead. inl (inl lead)) (λ later. inr later) any, λ any. ⊎_elim (λ own. inl (only own)) (λ later. inr later) any))
      (λ v. (
        λ free. ⊎_elim (λ called. inr (subst (λ orders. r.called p orders v) (sym k.1) called)) (λ inside. inl inside) free,
        λ free. ⊎_elim (λ inside. inr inside) (λ called. inl (subst (λ orders. r.called p orders v) k.1 called)) free,
      ))
      (told-join high high names (λ y. LeadsTo R y (Predicate p)) (Reaches R os) (λ v. r.called p parameters v) (λ v. FreeInArguments r arguments v) [] [] (omega arith)
      (predicate-told start high names p parameters le h) k.0))
      (all-taken (λ ps arguments. Told r exports low high names (Reaches R os) (λ v. FreeInArguments r arguments v) [] × (orders_of arguments ≡ ps)) parameters n given all)

  -- imports

  pair-told : (start high : ℕ) (names : Names) (n : Bytes) (m : Option Meaning) → Falls names → If (IsMeaning r R low start names) m →
      Told r exports low high names (λ y. Any (LeadsTo R y) (readings_of_variable m)) (λ w. IsPaired (pair_of n m) w) []
  pair-told start high names n None falls h = told-none high names (λ y. ⊥) (λ w. ⊥) (λ y none. none) (λ w none. none)
  pair-told start high names n (Some (meaning.Variable x o)) falls h =
      told-same high high names (λ y. y ≡ x) (λ y. Any (LeadsTo R y) (readings_of_variable (Some (meaning.Variable x o)))) (λ w. IsVariable x o w)
      (λ w. IsPaired (pair_of n (Some (meaning.Variable x o))) w) [] (omega arith)
      (λ y. (λ same. inl (variable-leads R y x same), λ any. leads-variable R y x (only any))) (λ w. (λ is. inl is, λ any. only any))
      (variable-told high names x o falls h)
  pair-told start high names n (Some (meaning.Constant value)) falls h = told-none high names (λ y. ⊥) (λ w. ⊥) (λ y none. none) (λ w none. none)
  pair-told start high names n (Some (meaning.Predicate p parameters)) falls h = told-none high names (λ y. ⊥) (λ w. ⊥) (λ y none. none) (λ w none. none)

  pub pairs-told : (start high : ℕ) (s : Scope) (rs : List Rename) → Knows r R low start s →
      Told r exports low high s.names (λ y. Any (LeadsTo R y) (readings_of_renames s rs)) (λ w. IsPaired (pairs_of s rs) w) []
  pairs-told start high s [] knows = told-none high s.names (λ y. ⊥) (λ w. ⊥) (λ y none. none) (λ w none. none)
  pairs-told start high s (p ∷ rs) knows =
      let m = meaning_of s p.right in
      let own = readings_of_variable m in
      let rest = readings_of_renames s rs in
      let V : Variable → MapPair → Type 0 = λ w pair. IsVariable pair.variable pair.order w in
      told-same high high s.names (λ y. Any (LeadsTo R y) own ⊎ Any (LeadsTo R y) rest) (λ y. Any (LeadsTo R y) (own ++ rest))
      (λ w. IsPaired (pair_of p.left m) w ⊎ IsPaired (pairs_of s rs) w) (λ w. IsPaired (pair_of p.left m ++ pairs_of s rs) w) [] (omega arith)
      (λ y. (λ both. ⊎_elim (any-front (LeadsTo R y) own rest) (any-back (LeadsTo R y) own rest) both, any-split (LeadsTo R y) own rest))
      (λ w. (λ both. ⊎_elim (any-front (V w) (pair_of p.left m) (pairs_of s rs)) (any-back (V w) (pair_of p.left m) (pairs_of s rs)) both, any-split (V w) (pair_of p.left m) (pairs_of s rs)))
      (told-join high high s.names (λ y. Any (LeadsTo R y) own) (λ y. Any (LeadsTo R y) rest) (λ w. IsPaired (pair_of p.left m) w) (λ w. IsPaired (pairs_of s rs) w) [] [] (omega arith)
      (pair-told start high s.names p.left m knows.falls (meaning-known (IsMeaning r R low start s.names) s.names p.right knows.names)) (pairs-told start high s rs knows))

-- what holds of each comparison holds of two related terms

numbers-related : (P : Argument → Type 0) (rel : Rel) (t u : Term) → ((q : Rel) → RelatesNumbers q → P (truth_argument (tree.comparison q t u))) → If P (related_numbers rel t u)
numbers-related P Equal t u h = h Equal tt
numbers-related P Differs t u h = h Differs tt
numbers-related P Less t u h = h Less tt
numbers-related P AtMost t u h = h AtMost tt
numbers-related P Greater t u h = h Greater tt
numbers-related P AtLeast t u h = h AtLeast tt
numbers-related P Member t u h = tt
numbers-related P NotMember t u h = tt
numbers-related P Sub t u h = tt

sets-related : (P : Argument → Type 0) (rel : Rel) (t u : SetTerm) → ((q : Rel) → RelatesSets q → P (truth_argument (tree.set_comparison q t u))) → If P (related_sets rel t u)
sets-related P Equal t u h = h Equal tt
sets-related P Differs t u h = h Differs tt
sets-related P Less t u h = tt
sets-related P AtMost t u h = tt
sets-related P Greater t u h = tt
sets-related P AtLeast t u h = tt
sets-related P Member t u h = tt
sets-related P NotMember t u h = tt
sets-related P Sub t u h = h Sub tt

member-related : (P : Argument → Type 0) (rel : Rel) (t : Term) (u : SetTerm) → ((positive : Bool) → P (truth_argument (tree.membership positive t u))) → If P (related_member rel t u)
member-related P Equal t u h = tt
member-related P Differs t u h = tt
member-related P Less t u h = tt
member-related P AtMost t u h = tt
member-related P Greater t u h = tt
member-related P AtLeast t u h = tt
member-related P Member t u h = h true
member-related P NotMember t u h = h false
member-related P Sub t u h = tt

pub relation-holds : (P : Argument → Type 0) (A B : Argument → Type 0) (rel : Rel) (a b : Option Argument) →
    ((q : Rel) → RelatesNumbers q → (t u : Term) → A (number_argument t) → B (number_argument u) → P (truth_argument (tree.comparison q t u))) →
    ((q : Rel) → RelatesSets q → (t u : SetTerm) → A (set_argument t) → B (set_argument u) → P (truth_argument (tree.set_comparison q t u))) →
    ((positive : Bool) (t : Term) (u : SetTerm) → A (number_argument t) → B (set_argument u) → P (truth_argument (tree.membership positive t u))) →
    If A a → If B b → If P (typed_relation rel a b)
relation-holds P A B rel None b numbers sets members h k = tt
relation-holds P A B rel (Some a) None numbers sets members h k = tt
relation-holds P A B rel (Some (truth_argument f)) (Some b) numbers sets members h k = tt
relation-holds P A B rel (Some (number_argument t)) (Some (truth_argument g)) numbers sets members h k = tt
relation-holds P A B rel (Some (number_argument t)) (Some (number_argument u)) numbers sets members h k = numbers-related P rel t u (λ q is. numbers q is t u h k)
relation-holds P A B rel (Some (number_argument t)) (Some (set_argument u)) numbers sets members h k = member-related P rel t u (λ positive. members positive t u h k)
relation-holds P A B rel (Some (set_argument t)) (Some (truth_argument g)) numbers sets members h k = tt
relation-holds P A B rel (Some (set_argument t)) (Some (number_argument u)) numbers sets members h k = tt
relation-holds P A B rel (Some (set_argument t)) (Some (set_argument u)) numbers sets members h k = sets-related P rel t u (λ q is. sets q is t u h k)
