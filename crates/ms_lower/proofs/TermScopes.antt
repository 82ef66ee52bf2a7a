-- In the spread of a term each variable stands in its scope.
use Rattle.std.proofs.Common.{ℕ, zero, suc, ◌+◌, ◌/◌, ◌<◌, ◌≤◌, List, [], ◌∷◌, length, take, drop, inl, inr, refl, arith}
use Rattle.ms_logic_core.specs.declared.core_formula.Basic.TheVariants as Basic
use Rattle.ms_logic.specs.declared.mode.Order.{Order}
use Rattle.ms_logic.specs.declared.mode.Order.TheVariants.{One, Two}
use Rattle.ms_logic.specs.Assignment.{Variable}
use Rattle.ms_logic_core.specs.CoreForm.{basic}
use Rattle.ms_logic.specs.FreeVariables.{TermReads, SetTermReads, TermsRead}
use Rattle.ms_logic_core.specs.Spread.{Names, Saying, TermSpread, first_half, second_half, is_minus, is_only_member, is_whole, new_variable, set_of_elements, spread_elements, spread_number, spread_set}
use Rattle.ms_logic.specs.Tree.{Term, number_variable, numeral, plus, minus, minimum, maximum, SetTerm, set_variable, empty_set, whole, literal, pconst, union, intersection, difference, shift_up, shift_down, Terms, no_terms, more_terms}
use Rattle.ms_logic.specs.Truth.{Import}
use Rattle.ms_logic.specs.Lists.{Each, IsAmong}
use Rattle.ms_logic_core.specs.Stands.{Stands}

abbrev pub variable : ℕ → Order → Variable
variable x o = record { name = x; order = o }

-- a variable of the source, by its name
abbrev pub at : Names → Variable → Variable
at names w = record { name = names w.order w.name; order = w.order }

-- each variable that is read stands in a scope by its name
abbrev pub Covers : (Variable → Type 0) → Names → List Variable → Type 0
Covers R names scope = (w : Variable) → R w → IsAmong scope (at names w)

abbrev pub Wider : List Variable → List Variable → Type 0
Wider scope wide = (v : Variable) → IsAmong scope v → IsAmong wide v

abbrev pub Below : ℕ → List Variable → Type 0
Below free scope = Each (λ v. v.name < free) scope

each_below : (x y : ℕ) (vs : List Variable) → x ≤ y → Below x vs → Below y vs
each_below x y [] within below = tt
each_below x y (v ∷ vs) within below = ((let b = below.0 in omega arith), each_below x y vs within below.1)

pub below_new : (free : ℕ) (o : Order) (scope : List Variable) → Below free scope → Below (free + 1) (variable free o ∷ scope)
below_new free o scope below = (omega arith, each_below free (free + 1) scope (omega arith) below)

module _ (imports : List Import) where
  -- what is said of a variable stands in each scope that has it
  abbrev pub SaysWell : List Variable → Order → Saying → Type 0
  SaysWell scope o Said = (next y : ℕ) (wide : List Variable) → Wider scope wide → Below next wide → IsAmong wide (variable y o) → Stands imports wide (Said next y)

  -- a term stands in each scope that has some variables
  abbrev pub StandsWell : List Variable → Order → TermSpread → Type 0
  StandsWell base o T = (free : ℕ) (scope : List Variable) (Said : Saying) → Wider base scope → Below free scope → SaysWell scope o Said → Stands imports scope (T free Said)

  pub known_well : (base : List Variable) (o : Order) (x : ℕ) → IsAmong base (variable x o) → StandsWell base o (λ free Said. Said free x)
  known_well base o x there free scope Said wider below says = says free x scope (λ v h. h) below (wider (variable x o) there)

  pub new_well : (base : List Variable) (o : Order) (Is : Saying) → ((free : ℕ) (scope : List Variable) → Wider base scope → Below (free + 1) scope → IsAmong scope (variable free o) → Stands imports scope (Is (free + 1) free)) →
      StandsWell base o (new_variable o Is)
  new_well base o Is is free scope Said wider below says = (
    below,
    is free (variable free o ∷ scope) (λ v h. inr (wider v h)) (below_new free o scope below) (inl refl),
    says (free + 1) free (variable free o ∷ scope) (λ v h. inr h) (below_new free o scope below) (inl refl),
  )

  -- the set of some elements

  abbrev AllWell : List Variable → List TermSpread → Type 0
  AllWell base [] = Unit {0}
  AllWell base (T ∷ Ts) = StandsWell base One T × AllWell base Ts

  first_well : (base : List Variable) (k : ℕ) (Ts : List TermSpread) → AllWell base Ts → AllWell base (take k Ts)
  first_well base zero Ts all = tt
  first_well base (suc k) [] all = tt
  first_well base (suc k) (T ∷ Ts) all = (all.0, first_well base k Ts all.1)

  later_well : (base : List Variable) (k : ℕ) (Ts : List TermSpread) → AllWell base Ts → AllWell base (drop k Ts)
  later_well base zero Ts all = all
  later_well base (suc k) [] all = tt
  later_well base (suc k) (T ∷ Ts) all = later_well base k Ts all.1

  none_well : (base : List Variable) → StandsWell base Two (new_variable Two (λ free y. basic (Basic.Bits y 0)))
  none_well base = new_well base Two (λ free y. basic (Basic.Bits y 0)) (λ free scope wider below own. (own, tt))

  elements_well : (base : List Variable) (rounds : ℕ) (Ts : List TermSpread) → AllWell base Ts → StandsWell base Two (set_of_elements rounds Ts)
  elements_well base zero [] all = none_well base
  elements_well base (suc rounds) [] all = none_well base
  elements_well base zero (T ∷ []) all =
      new_well base Two (λ free y. T free (is_only_member y)) (λ free scope wider below own.
      all.0 (free + 1) scope (is_only_member free) wider below (λ next x wide w b there. ((there, (w (variable free Two) own, tt)), ((b, tt, ((inl refl, (inr (w (variable free Two) own), tt)), (inl refl, (inr there, tt)))), tt))))
  elements_well base (suc rounds) (T ∷ []) all =
      new_well base Two (λ free y. T free (is_only_member y)) (λ free scope wider below own.
      all.0 (free + 1) scope (is_only_member free) wider below (λ next x wide w b there. ((there, (w (variable free Two) own, tt)), ((b, tt, ((inl refl, (inr (w (variable free Two) own), tt)), (inl refl, (inr there, tt)))), tt))))
  elements_well base zero (T ∷ U ∷ Ts) all = none_well base
  elements_well base (suc rounds) (T ∷ U ∷ Ts) all =
      let half = (length (T ∷ U ∷ Ts) + 1) / 2 in
      new_well base Two (λ free y. set_of_elements rounds (first_half (T ∷ U ∷ Ts)) free (λ free s. set_of_elements rounds (second_half (T ∷ U ∷ Ts)) free (λ free t. basic (Basic.Union y s t)))) (λ free scope wider below own.
      elements_well base rounds (first_half (T ∷ U ∷ Ts)) (first_well base half (T ∷ U ∷ Ts) all) (free + 1) scope (λ next s. set_of_elements rounds (second_half (T ∷ U ∷ Ts)) next (λ next t. basic (Basic.Union free s t))) wider below (λ next s wide w b there.
      elements_well base rounds (second_half (T ∷ U ∷ Ts)) (later_well base half (T ∷ U ∷ Ts) all) next wide (λ next t. basic (Basic.Union free s t)) (λ v h. w v (wider v h)) b (λ last t most m k here.
      (m (variable free Two) (w (variable free Two) own), (m (variable s Two) there, (here, tt))))))

  mutual
    pub number_well : (t : Term) (names : Names) (base : List Variable) → Covers (TermReads t) names base → StandsWell base One (spread_number t names)
    number_well (number_variable x) names base covers = known_well base One (names One x) (covers (variable x One) (refl, refl))
    number_well (numeral n) names base covers = new_well base One (λ free y. basic (Basic.Number y n)) (λ free scope wider below own. (own, tt))
    number_well (plus t n) names base covers =
        new_well base One (λ free y. spread_number t names free (λ free x. basic (Basic.Plus y x n))) (λ free scope wider below own.
        number_well t names base covers (free + 1) scope (λ next x. basic (Basic.Plus free x n)) wider below (λ next x wide w b there. (w (variable free One) own, (there, tt))))
    number_well (minus t n) names base covers =
        new_well base One (λ free y. spread_number t names free (is_minus y n)) (λ free scope wider below own.
        number_well t names base covers (free + 1) scope (is_minus free n) wider below (λ next x wide w b there.
        ((there, (w (variable free One) own, tt)), (((w (variable free One) own, tt), ((b, tt, (inr there, (inl refl, tt))), tt)), tt))))
    number_well (minimum s) names base covers =
        new_well base One (λ free y. spread_set s names free (λ free t. basic (Basic.Min y t))) (λ free scope wider below own.
        set_well s names base covers (free + 1) scope (λ next x. basic (Basic.Min free x)) wider below (λ next x wide w b there. (w (variable free One) own, (there, tt))))
    number_well (maximum s) names base covers =
        new_well base One (λ free y. spread_set s names free (λ free t. basic (Basic.Max y t))) (λ free scope wider below own.
        set_well s names base covers (free + 1) scope (λ next x. basic (Basic.Max free x)) wider below (λ next x wide w b there. (w (variable free One) own, (there, tt))))

    pub set_well : (s : SetTerm) (names : Names) (base : List Variable) → Covers (SetTermReads s) names base → StandsWell base Two (spread_set s names)
    set_well (set_variable x) names base covers = known_well base Two (names Two x) (covers (variable x Two) (refl, refl))
    set_well empty_set names base covers = none_well base
    set_well whole names base covers = new_well base Two is_whole (λ free scope wider below own. (below, tt, (inl refl, (inr own, tt))))
    set_well (literal ts) names base covers = elements_well base (length (spread_elements ts names)) (spread_elements ts names) (terms_well ts names base covers)
    set_well (pconst n) names base covers = new_well base Two (λ free y. basic (Basic.Bits y n)) (λ free scope wider below own. (own, tt))
    set_well (union s t) names base covers =
        new_well base Two (λ free y. spread_set s names free (λ free u. spread_set t names free (λ free v. basic (Basic.Union y u v)))) (λ free scope wider below own.
        set_well s names base (λ w r. covers w (inl r)) (free + 1) scope (λ next u. spread_set t names next (λ next v. basic (Basic.Union free u v))) wider below (λ next u wide w b there.
        set_well t names base (λ z r. covers z (inr r)) next wide (λ next v. basic (Basic.Union free u v)) (λ v h. w v (wider v h)) b (λ last v most m k here. (m (variable free Two) (w (variable free Two) own), (m (variable u Two) there, (here, tt))))))
    set_well (intersection s t) names base covers =
        new_well base Two (λ free y. spread_set s names free (λ free u. spread_set t names free (λ free v. basic (Basic.Inter y u v)))) (λ free scope wider below own.
        set_well s names base (λ w r. covers w (inl r)) (free + 1) scope (λ next u. spread_set t names next (λ next v. basic (Basic.Inter free u v))) wider below (λ next u wide w b there.
        set_well t names base (λ z r. covers z (inr r)) next wide (λ next v. basic (Basic.Inter free u v)) (λ v h. w v (wider v h)) b (λ last v most m k here. (m (variable free Two) (w (variable free Two) own), (m (variable u Two) there, (here, tt))))))
    set_well (difference s t) names base covers =
        new_well base Two (λ free y. spread_set s names free (λ free u. spread_set t names free (λ free v. basic (Basic.Diff y u v)))) (λ free scope wider below own.
        set_well s names base (λ w r. covers w (inl r)) (free + 1) scope (λ next u. spread_set t names next (λ next v. basic (Basic.Diff free u v))) wider below (λ next u wide w b there.
        set_well t names base (λ z r. covers z (inr r)) next wide (λ next v. basic (Basic.Diff free u v)) (λ v h. w v (wider v h)) b (λ last v most m k here. (m (variable free Two) (w (variable free Two) own), (m (variable u Two) there, (here, tt))))))
    set_well (shift_up s n) names base covers =
        new_well base Two (λ free y. spread_set s names free (λ free t. basic (Basic.Up y t n))) (λ free scope wider below own.
        set_well s names base covers (free + 1) scope (λ next x. basic (Basic.Up free x n)) wider below (λ next x wide w b there. (w (variable free Two) own, (there, tt))))
    set_well (shift_down s n) names base covers =
        new_well base Two (λ free y. spread_set s names free (λ free t. basic (Basic.Down y t n))) (λ free scope wider below own.
        set_well s names base covers (free + 1) scope (λ next x. basic (Basic.Down free x n)) wider below (λ next x wide w b there. (w (variable free Two) own, (there, tt))))

    terms_well : (ts : Terms) (names : Names) (base : List Variable) → Covers (TermsRead ts) names base → AllWell base (spread_elements ts names)
    terms_well no_terms names base covers = tt
    terms_well (more_terms t ts) names base covers = (number_well t names base (λ w r. covers w (inl r)), terms_well ts names base (λ w r. covers w (inr r)))
