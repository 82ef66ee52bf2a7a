-- Readers of what an import answers: they run its content on what the word says of the variables at which it stands, and keep the state
-- behind the last letter that the shortest word has.
use Rattle.std.proofs.Common.{◌≡◌, ℕ, zero, suc, ◌+◌, ◌<◌, ◌≤◌, ◌==◌, Bool, true, false, cond, if◌then◌else◌, nat_lt, IsTrue, ◌||◌, inl, inr, ⊎_elim, ◌↔◌, List, [], ◌∷◌, ◌++◌, length, map, get_or, slice_get, None, Some, Contains, refl, sym, ◌∙◌, ap, subst, arith}
use Rattle.std.specs.List.{range_with_len, zip}
use Rattle.std.specs.Option.{option_map, unwrap_or}
use Rattle.std.proofs.lemmas.List.FromFn.{map-range_with_len_more}
use Rattle.std.proofs.lemmas.Option.{none-some, same_Some, slice_get_past}
use Rattle.ms_diagram.proofs.ListLemmas.{Contains-cases, Contains-first, Contains-none, Contains-rest}
use Rattle.std.proofs.lemmas.Bool.{cases_Bool, cases_eq, cases_lt, eq-eqb, false≢true, le-ltb, lt-ltb, ltb-true, ne_eqb}
use Rattle.ms_list.specs.declared.word.Word.{Word}
use Rattle.ms_logic.specs.declared.assignment.Value.{Value}
use Rattle.ms_logic.specs.declared.assignment.Value.TheVariants.{Truth}
use Rattle.ms_logic.specs.declared.mode.Mode.{Mode}
use Rattle.ms_logic.specs.declared.mode.Mode.TheVariants.{Ws1s, M2lStr}
use Rattle.ms_logic.specs.declared.mode.Order.{Order}
use Rattle.ms_logic.specs.declared.mode.Order.TheVariants.{Zero, One, Two}
use Rattle.ms_logic.specs.Assignment.{AreValuesOf, Env, IsAssignment, IsUniverseOf, IsValueOf, Universe, Variable, assign, assign_all, value_at}
use Rattle.ms_logic.specs.FiniteSet.{is_member, numbers_below}
use Rattle.ms_logic.specs.First.{length_by, length_of}
use Rattle.ms_logic.specs.Letters.{bound_at, bound_of, bound_of_set, letter_at, letters_below, truth_values_of}
use Rattle.ms_logic.specs.Lists.{IsAmong}
use Rattle.ms_logic.specs.Truth.{Answer, Import}
use Rattle.ms_logic.proofs.Agreement.{universe-assign_all}
use Rattle.ms_logic.proofs.AssignedValues.{value_at-assign, value_at-assign_other}
use Rattle.ms_logic_core.specs.CoreForm.{answer_over}
use Rattle.ms_logic_core.specs.Operands.{variable, variables_at}
use Rattle.ms_logic_measures.specs.Budgets.{IsContentOfImport}
use Rattle.ms_logic_words.specs.Content.{Content, StateOf, answer_by, env_of, first_state, is_in_letters, is_truth_value, next_from, next_state, sign_at, state_after, variables_from}
use Rattle.ms_logic_words.specs.Word.{Encodes, HasLength}
use Rattle.ms_basic.specs.inner.Reading.{bit_of, truth_of}
use Rattle.ms_logic_readers.proofs.Bits.{bits_by, letter-by, own_bit, same-bits, truths-by}
use Rattle.ms_logic_readers.specs.Scoped.{AreDistinct}
use Rattle.ms_logic_readers.proofs.Readers.{Reader, TellsAt, read}
use Rattle.ms_logic_readers.proofs.Relations.{among-range, bit-read, bound-one, gives-one, range-among, truth-read}
use Rattle.ms_logic_readers.proofs.Values.{same-bit, same-bound, same-truth}
use Rattle.ms_logic_machines.proofs.Choices.{Among, among-pairs, pairs, pairs-among, pairs-tested}

-- whether some bit is 1
abbrev any_bit : List Bool → Bool
any_bit [] = false
any_bit (bit ∷ bits) = bit || any_bit bits

no-bits : (has : Order → Bool) (vs : List Variable) (f : Variable → Bool) → any_bit (bits_by has vs f) ≡ false → (v : Variable) → IsAmong vs v → has v.order ≡ true → f v ≡ false
no-bits has [] f none v among is = absurd among
no-bits has (w ∷ vs) f none v among is = by-test (has w.order) refl none (λ none' later. no-bits has vs f none' v later is)
  where
    by-bit : (b : Bool) (bs : List Bool) → (b || any_bit bs) ≡ false → (b ≡ false) × (any_bit bs ≡ false)
    by-bit true bs none = absurd (false≢true (sym none))
    by-bit false bs none = (refl, none)

    by-test : (t : Bool) → has w.order ≡ t → any_bit (cond t (f w ∷ bits_by has vs f) (bits_by has vs f)) ≡ false → (any_bit (bits_by has vs f) ≡ false → IsAmong vs v → f v ≡ false) → f v ≡ false
    by-test true has_w none more = let both = by-bit (f w) (bits_by has vs f) none in ⊎_elim (λ same. ap f (sym same) ∙ both.0) (more both.1) among
    by-test false lacks none more = ⊎_elim (λ same. absurd (false≢true (sym lacks ∙ (ap (λ (u : Variable). has u.order) same ∙ is)))) (more none) among

no-any : (has : Order → Bool) (vs : List Variable) (f : Variable → Bool) → ((v : Variable) → IsAmong vs v → has v.order ≡ true → f v ≡ false) → any_bit (bits_by has vs f) ≡ false
no-any has [] f none = refl
no-any has (w ∷ vs) f none = by-test (has w.order) refl (no-any has vs f (λ v among. none v (inr among)))
  where
    by-test : (t : Bool) → has w.order ≡ t → any_bit (bits_by has vs f) ≡ false → any_bit (cond t (f w ∷ bits_by has vs f) (bits_by has vs f)) ≡ false
    by-test true has_w more = ap (λ b. b || any_bit (bits_by has vs f)) (none w (inl refl) has_w) ∙ more
    by-test false lacks more = more

-- the last position of an assignment has a 1

set-lower : (members : List ℕ) (q : ℕ) → bound_of_set members ≤ suc q → is_member q members ≡ false → bound_of_set members ≤ q
set-lower [] q within none = omega arith
set-lower (m ∷ more) q within none =
    let first : (m == q) ≡ false = parts (m == q) none in
    let rest : is_member q more ≡ false = others (m == q) none in
    ⊎_elim (λ same. absurd (false≢true (sym first ∙ eq-eqb m q same))) (λ differ. let later = set-lower more q (omega (arith, within)) rest in omega (arith, within, differ, later)) (cases_eq m q)
  where
    parts : (b : Bool) → (b || is_member q more) ≡ false → b ≡ false
    parts true none = absurd (false≢true (sym none))
    parts false none = refl

    others : (b : Bool) → (b || is_member q more) ≡ false → is_member q more ≡ false
    others true none = absurd (false≢true (sym none))
    others false none = none

bound-lower : (o : Order) (x : ℕ) (e : Env) (q : ℕ) → bound_at o x e ≤ suc q → (is_in_letters o ≡ true → bit_of o x e q ≡ false) → bound_at o x e ≤ q
bound-lower Zero x e q within none = omega arith
bound-lower One x e q within none =
    ⊎_elim (λ same. absurd (false≢true (sym (none refl) ∙ eq-eqb (e.number x) q same))) (λ differ. omega (arith, within, differ)) (cases_eq (e.number x) q)
bound-lower Two x e q within none = set-lower (e.set x) q within (none refl)

bounds-lower : (vs : List Variable) (e : Env) (q : ℕ) → bound_of vs e ≤ suc q → ((v : Variable) → IsAmong vs v → is_in_letters v.order ≡ true → bit_of v.order v.name e q ≡ false) → bound_of vs e ≤ q
bounds-lower [] e q within none = omega arith
bounds-lower (v ∷ vs) e q within none =
    omega (arith, bound-lower v.order v.name e q (omega (arith, within)) (none v (inl refl)), bounds-lower vs e q (omega (arith, within)) (λ w among. none w (inr among)))

set-above : (members : List ℕ) (p : ℕ) → bound_of_set members ≤ p → is_member p members ≡ false
set-above [] p above = refl
set-above (m ∷ more) p above = ap (λ b. b || is_member p more) (ne_eqb m p (λ same. omega (arith, above, same))) ∙ set-above more p (omega (arith, above))

bit-above : (o : Order) (x : ℕ) (e : Env) (p : ℕ) → bound_at o x e ≤ p → bit_of o x e p ≡ false
bit-above Zero x e p above = refl
bit-above One x e p above = ne_eqb (e.number x) p (λ same. omega (arith, above, same))
bit-above Two x e p above = set-above (e.set x) p above

-- which letters count: all of a string, and those up to the last with a 1
abbrev counts : Mode → List Bool → Bool
counts Ws1s letter = any_bit letter
counts M2lStr letter = true

-- the number of letters up to the last that counts
abbrev last_of : Mode → (ℕ → List Bool) → ℕ → ℕ
last_of mode letter zero = 0
last_of mode letter (suc p) = if counts mode (letter p) then suc p else last_of mode letter p

module _ (vs : List Variable) (e : Env) where
  last-string : (n : ℕ) → last_of M2lStr (letter_at vs e) n ≡ n
  last-string zero = refl
  last-string (suc p) = refl

  counted-last : (q : ℕ) → bound_of vs e ≡ suc q → any_bit (letter_at vs e q) ≡ true
  counted-last q is =
      ⊎_elim (λ held. held)
      (λ none. let lower = bounds-lower vs e q (omega (arith, is)) (no-bits is_in_letters vs (λ v. bit_of v.order v.name e q) (ap any_bit (sym (letter-by vs e q)) ∙ none)) in absurd (omega (arith, is, lower)))
      (cases_Bool (any_bit (letter_at vs e q)))

  none-above : (p : ℕ) → bound_of vs e ≤ p → any_bit (letter_at vs e p) ≡ false
  none-above p above =
      ap any_bit (letter-by vs e p) ∙ no-any is_in_letters vs (λ v. bit_of v.order v.name e p) (λ v among has. bit-above v.order v.name e p (let one = bound-one vs e v among in omega (arith, one, above)))

  last-number : (n : ℕ) → bound_of vs e ≤ n → last_of Ws1s (letter_at vs e) n ≡ bound_of vs e
  last-number zero room = omega (arith, room)
  last-number (suc p) room =
      ⊎_elim
      (λ same. ap (λ t. cond t (suc p) (last_of Ws1s (letter_at vs e) p)) (counted-last p same) ∙ sym same)
      (λ differ. let above : bound_of vs e ≤ p = omega (arith, room, differ) in ap (λ t. cond t (suc p) (last_of Ws1s (letter_at vs e) p)) (none-above p above) ∙ last-number p above)
      (cases_eq (bound_of vs e) (suc p))

  last-is : (mode : Mode) (n : ℕ) → IsUniverseOf mode e.universe → HasLength e.universe n → bound_of vs e ≤ n → last_of mode (letter_at vs e) n ≡ length_of vs e
  last-is Ws1s n universe string room = last-number n room ∙ ap (λ (u : Universe). length_by u (bound_of vs e)) (sym universe)
  last-is M2lStr n universe string room = last-string n ∙ by-size e.universe universe string
    where
      by-size : (u : Universe) → IsUniverseOf M2lStr u → HasLength u n → n ≡ length_by u (bound_of vs e)
      by-size None is long = absurd (false≢true is)
      by-size (Some size) is long = long

  last-within : (mode : Mode) (n : ℕ) → last_of mode (letter_at vs e) n ≤ n
  last-within mode zero = omega arith
  last-within mode (suc p) =
      elim (counts mode (letter_at vs e p)) as (λ t. cond t (suc p) (last_of mode (letter_at vs e) p) ≤ suc p) [ true ↦ omega arith | false ↦ omega (arith, last-within mode p) ]

-- runs that stay among finitely many states

module _ {A : Type 0} (file : Content A) where
  -- a state, and where there is none, the number behind all
  abbrev clamped : ℕ → ℕ
  clamped s = if nat_lt s (length file.states) then s else length file.states

  clamped-at : (s : ℕ) → slice_get file.states (clamped s) ≡ slice_get file.states s
  clamped-at s =
      ⊎_elim (λ less. ap (λ t. slice_get file.states (cond t s (length file.states))) (lt-ltb s (length file.states) less))
      (λ past. ap (λ t. slice_get file.states (cond t s (length file.states))) (le-ltb s (length file.states) past)
      ∙ (slice_get_past file.states (length file.states) (omega arith) ∙ sym (slice_get_past file.states s past)))
      (cases_lt s (length file.states))

  clamped-within : (s : ℕ) → clamped s < length file.states + 1
  clamped-within s = elim (nat_lt s (length file.states)) as (λ t. nat_lt s (length file.states) ≡ t → cond t s (length file.states) < length file.states + 1) [
    | true ↦ λ less. omega (arith, ltb-true s (length file.states) less)
    | false ↦ λ past. omega arith
  ] refl

  clamped-next : (s : ℕ) (letter : List Bool) → next_state file (clamped s) letter ≡ next_state file s letter
  clamped-next s letter = ap (λ found. next_from file found letter) (clamped-at s)

  clamped-sign : (s : ℕ) → sign_at file (clamped s) ≡ sign_at file s
  clamped-sign s = ap (option_map (λ (found : StateOf A). found.sign)) (clamped-at s)

  after-more : (s : ℕ) (letters more : List (List Bool)) → state_after file s (letters ++ more) ≡ state_after file (state_after file s letters) more
  after-more s [] more = refl
  after-more s (letter ∷ letters) more = after-more (next_state file s letter) letters more

module _ (mode : Mode) (variables : List Variable) (distinct : AreDistinct variables) (found : Import) (file : Content Answer) (tied : IsContentOfImport mode found file) (xs : List ℕ)
    (long : length xs ≡ length found.variables) (covered : (v : Variable) → IsAmong (variables_at xs found.variables) v → IsAmong variables v) where
  -- the variable of the word for one of the file
  abbrev at : ℕ → ℕ
  at i = get_or xs i 0

  abbrev narrow : (Order → Bool) → List Bool → List Bool
  narrow has bits = bits_by has file.variables (λ v. own_bit has variables bits (at v.name))

  abbrev first : List Bool → ℕ × ℕ
  first truth = (clamped file (first_state file (narrow is_truth_value truth)), clamped file (first_state file (narrow is_truth_value truth)))

  abbrev step : ℕ × ℕ → List Bool → ℕ × ℕ
  step s letter = (
    clamped file (next_state file s.0 (narrow is_in_letters letter)),
    if counts mode (narrow is_in_letters letter) then clamped file (next_state file s.0 (narrow is_in_letters letter)) else s.1,
  )

  -- what the import's variables have
  module _ (e : Env) (assigned : IsAssignment mode variables e) where
    abbrev values_over : List ℕ → List Variable → List Value
    values_over ys vs = map (λ p. value_at p.1.order p.0 e) (zip ys vs)

    abbrev values : List Value
    values = values_over xs found.variables

    are-values : (ys : List ℕ) (vs : List Variable) → length ys ≡ length vs → ((v : Variable) → IsAmong (variables_at ys vs) v → IsAmong variables v)
        → AreValuesOf e.universe (map (λ (v : Variable). v.order) vs) (values_over ys vs)
    are-values [] [] same among = tt
    are-values [] (v ∷ vs) same among = absurd (omega (arith, same))
    are-values (y ∷ ys) [] same among = absurd (omega (arith, same))
    are-values (y ∷ ys) (v ∷ vs) same among =
        (gives-one variables e (variable y v.order) assigned.values (among (variable y v.order) (inl refl)), are-values ys vs (omega (arith, same)) (λ w there. among w (inr there)))

    -- the value for a place
    abbrev value_for : ℕ → Value
    value_for i = unwrap_or (slice_get values i) (Truth false)

    -- a variable of the file stands for one of the word, which has its order
    record IsRead (ys : List ℕ) (vs : List Variable) (from i : ℕ) (o : Order) : Type 0 where
      value : unwrap_or (slice_get (values_over ys vs) i) (Truth false) ≡ value_at o (get_or ys i 0) e
      among : IsAmong (variables_at ys vs) (variable (get_or ys i 0) o)

    read-at : (ys : List ℕ) (vs : List Variable) (i : ℕ) (o : Order) → length ys ≡ length vs → slice_get (map (λ (v : Variable). v.order) vs) i ≡ Some o → IsRead ys vs 0 i o
    read-at [] [] i o same is = absurd (none-some o is)
    read-at [] (v ∷ vs) i o same is = absurd (omega (arith, same))
    read-at (y ∷ ys) [] i o same is = absurd (omega (arith, same))
    read-at (y ∷ ys) (v ∷ vs) zero o same is =
        let order : v.order ≡ o = same_Some v.order o is in
        record { value = ap (λ p. value_at p y e) order; among = inl (ap (λ p. variable y p) order) }
    read-at (y ∷ ys) (v ∷ vs) (suc i) o same is =
        let later = read-at ys vs i o (omega (arith, same)) is in record { value = later.value; among = inr later.among }

    by-place-order : (from : ℕ) (orders : List Order) (v : Variable) → Contains (variables_from from orders) v → (i : ℕ) × (v.name ≡ from + i) × (slice_get orders i ≡ Some v.order)
    by-place-order from [] v there = absurd (Contains-none v there)
    by-place-order from (o ∷ orders) v there =
        ⊎_elim (λ same. (0, ap (λ (w : Variable). w.name) same ∙ (let none : from ≡ from + 0 = omega arith in none), ap (λ (w : Variable). Some w.order) (sym same)))
        (λ later. let rest = by-place-order (from + 1) orders v later in (suc rest.0, (let next : from + 1 + rest.0 ≡ from + suc rest.0 = omega arith in rest.1 ∙ next), rest.2))
        (Contains-cases (variable from o) (variables_from (from + 1) orders) v there)

    among-contains : (vs : List Variable) (v : Variable) → IsAmong vs v → Contains vs v
    among-contains [] v among = absurd among
    among-contains (w ∷ vs) v among = ⊎_elim (λ same. subst (Contains (w ∷ vs)) same (Contains-first w vs)) (λ later. Contains-rest w vs v (among-contains vs v later)) among

    of-file : (v : Variable) → IsAmong file.variables v → IsRead xs found.variables 0 v.name v.order
    of-file v among =
        let place = by-place-order 0 (map (λ (w : Variable). w.order) found.variables) v ((tied.variables v).0 (among-contains file.variables v among)) in
        let name : v.name ≡ place.0 = place.1 ∙ (let none : 0 + place.0 ≡ place.0 = omega arith in none) in
        read-at xs found.variables v.name v.order long (ap (slice_get (map (λ (w : Variable). w.order) found.variables)) name ∙ place.2)

    value-of : (v : Variable) → IsAmong file.variables v → value_for v.name ≡ value_at v.order (at v.name) e
    value-of v among = (of-file v among).value

    there-among : (v : Variable) → IsAmong file.variables v → IsAmong variables (variable (at v.name) v.order)
    there-among v among = covered (variable (at v.name) v.order) (of-file v among).among

    -- the environment of the file
    abbrev given : Env
    given = env_of e.universe file.variables (map (λ v. value_for v.name) file.variables)

    given-universe : given.universe ≡ e.universe
    given-universe =
        universe-assign_all (map (λ (v : Variable). v.name) file.variables) (map (λ (v : Variable). value_for v.name) file.variables) (record { universe = e.universe; truth = λ x. false; number = λ x. 0; set = λ x. [] })

    given-from : (vs : List Variable) (e0 : Env) (v : Variable) → IsAmong vs v → IsValueOf v.order e.universe (value_for v.name)
        → value_at v.order v.name (assign_all (map (λ (w : Variable). w.name) vs) (map (λ (w : Variable). value_for w.name) vs) e0) ≡ value_for v.name
    given-from [] e0 v among valued = absurd among
    given-from (w ∷ vs) e0 v among valued =
        let inner = assign_all (map (λ (u : Variable). u.name) vs) (map (λ (u : Variable). value_for u.name) vs) e0 in
        ⊎_elim
        (λ same. ap (λ n. value_at v.order v.name (assign n (value_for n) inner)) same ∙ value_at-assign v.order v.name (value_for v.name) inner e.universe valued)
        (λ differ. value_at-assign_other v.order w.name (value_for w.name) v.name inner (λ same. differ (sym same))
        ∙ given-from vs e0 v (⊎_elim (λ same. absurd (differ (ap (λ (u : Variable). u.name) same))) (λ later. later) among) valued)
        (cases_eq w.name v.name)

    given-value : (v : Variable) → IsAmong file.variables v → value_at v.order v.name given ≡ value_at v.order (at v.name) e
    given-value v among =
        let Q : Value → Type 0 = λ value. IsValueOf v.order e.universe value in
        let valued = subst Q (sym (value-of v among)) (gives-one variables e (variable (at v.name) v.order) assigned.values (there-among v among)) in
        given-from file.variables (record { universe = e.universe; truth = λ x. false; number = λ x. 0; set = λ x. [] }) v among valued ∙ value-of v among

    narrow-letter : (p : ℕ) → narrow is_in_letters (letter_at variables e p) ≡ letter_at file.variables given p
    narrow-letter p =
        same-bits is_in_letters file.variables (λ v. own_bit is_in_letters variables (letter_at variables e p) (at v.name)) (λ v. bit_of v.order v.name given p)
        (λ v among has. bit-read mode variables distinct (variable (at v.name) v.order) e p (there-among v among) has ∙ same-bit v.order (at v.name) v.name e given p (sym (given-value v among)))
        ∙ sym (letter-by file.variables given p)

    narrow-truth : narrow is_truth_value (truth_values_of variables e) ≡ truth_values_of file.variables given
    narrow-truth =
        same-bits is_truth_value file.variables (λ v. own_bit is_truth_value variables (truth_values_of variables e) (at v.name)) (λ v. truth_of v.order v.name given)
        (λ v among has. truth-read mode variables distinct (variable (at v.name) v.order) e (there-among v among) has ∙ same-truth v.order (at v.name) v.name e given (sym (given-value v among)))
        ∙ sym (truths-by file.variables given)

    given-bound : (vs : List Variable) → ((v : Variable) → IsAmong vs v → IsAmong file.variables v) → bound_of vs given ≤ bound_of variables e
    given-bound [] among = omega arith
    given-bound (v ∷ vs) among =
        let there = among v (inl refl) in
        omega (arith, same-bound v.order v.name (at v.name) given e (given-value v there), bound-one variables e (variable (at v.name) v.order) (there-among v there), given-bound vs (λ w later. among w (inr later)))

    -- the run
    abbrev began : ℕ
    began = first_state file (truth_values_of file.variables given)

    abbrev after : ℕ → ℕ
    after p = state_after file began (letters_below p file.variables given)

    next-after : (p : ℕ) → after (suc p) ≡ next_state file (after p) (letter_at file.variables given p)
    next-after p =
        let next : p + 1 ≡ suc p = omega arith in
        ap (λ n. state_after file began (letters_below n file.variables given)) (sym next)
        ∙ (ap (state_after file began) (map-range_with_len_more (letter_at file.variables given) 0 p p (omega arith))
        ∙ after-more file began (letters_below p file.variables given) (letter_at file.variables given p ∷ []))

    run-from : (p count : ℕ) → read step (clamped file (after p), clamped file (after (last_of mode (letter_at file.variables given) p))) (map (letter_at variables e) (range_with_len p count))
        ≡ (clamped file (after (p + count)), clamped file (after (last_of mode (letter_at file.variables given) (p + count))))
    run-from p zero = let same : p ≡ p + 0 = omega arith in ap (λ n. (clamped file (after n), clamped file (after (last_of mode (letter_at file.variables given) n)))) same
    run-from p (suc count) =
        let next : suc p ≡ p + 1 = omega arith in
        let last : p + 1 + count ≡ p + suc count = omega arith in
        let goes : clamped file (next_state file (clamped file (after p)) (narrow is_in_letters (letter_at variables e p))) ≡ clamped file (after (suc p)) =
        ap (clamped file) (clamped-next file (after p) (narrow is_in_letters (letter_at variables e p)) ∙ (ap (next_state file (after p)) (narrow-letter p) ∙ sym (next-after p))) in
        let keeps = keep p (counts mode (narrow is_in_letters (letter_at variables e p))) (ap (counts mode) (narrow-letter p)) goes in
        ap (λ s. read step s (map (letter_at variables e) (range_with_len (p + 1) count))) (λ i. (goes i, keeps i))
        ∙ (ap (λ n. read step (clamped file (after n), clamped file (after (last_of mode (letter_at file.variables given) n))) (map (letter_at variables e) (range_with_len (p + 1) count))) next
        ∙ (run-from (p + 1) count ∙ ap (λ n. (clamped file (after n), clamped file (after (last_of mode (letter_at file.variables given) n)))) last))
      where
        keep : (q : ℕ) (t : Bool) → t ≡ counts mode (letter_at file.variables given q) → clamped file (next_state file (clamped file (after q)) (narrow is_in_letters (letter_at variables e q))) ≡ clamped file (after (suc q))
            → cond t (clamped file (next_state file (clamped file (after q)) (narrow is_in_letters (letter_at variables e q)))) (clamped file (after (last_of mode (letter_at file.variables given) q)))
            ≡ clamped file (after (last_of mode (letter_at file.variables given) (suc q)))
        keep q true is goes = goes ∙ ap (λ b. clamped file (after (cond b (suc q) (last_of mode (letter_at file.variables given) q)))) is
        keep q false is goes = ap (λ b. clamped file (after (cond b (suc q) (last_of mode (letter_at file.variables given) q)))) is

    -- at the end of a word
    module _ (word : Word) (encodes : Encodes variables word e) where
      ends : (read step (first word.truth) word.letters).1 ≡ clamped file (after (length_of file.variables given))
      ends =
          let n = length word.letters in
          let whole : 0 + n ≡ n = omega arith in
          let begins : first word.truth ≡ (clamped file (after 0), clamped file (after (last_of mode (letter_at file.variables given) 0))) =
          ap first encodes.truth ∙ ap (λ (truth : List Bool). (clamped file (first_state file truth), clamped file (first_state file truth))) narrow-truth in
          let string = subst (λ (u : Universe). HasLength u n) (sym given-universe) encodes.string in
          let of_mode = subst (IsUniverseOf mode) (sym given-universe) assigned.universe in
          let room = given-bound file.variables (λ v among. among) in
          ap (λ (s : ℕ × ℕ). s.1)
          (ap (λ s. read step s word.letters) begins ∙ ap (read step (clamped file (after 0), clamped file (after (last_of mode (letter_at file.variables given) 0)))) encodes.letters ∙ run-from 0 n)
          ∙ (ap (λ k. clamped file (after (last_of mode (letter_at file.variables given) k))) whole
          ∙ ap (λ k. clamped file (after k)) (last-is file.variables given mode n of_mode string (omega (arith, room, encodes.room))))

      answer-is : answer_over (Some found) xs e ≡ answer_by (λ said. said) (sign_at file (read step (first word.truth) word.letters).1)
      answer-is =
          tied.answers e.universe values assigned.universe (are-values xs found.variables long covered)
          ∙ ap (answer_by (λ said. said)) (sym (clamped-sign file (after (length_of file.variables given))) ∙ ap (sign_at file) (sym ends))

  -- the reader of one answer
  module _ (answer : Answer) (is_answer : Answer → Bool) (told : (a : Answer) → (a ≡ answer) ↔ IsTrue (is_answer a)) where
    pub import-reader : Reader (TellsAt mode variables (λ e. answer_over (Some found) xs e ≡ answer))
    import-reader = record {
      State = ℕ × ℕ;
      test = pairs-tested cases_eq cases_eq;
      states = pairs (numbers_below (length file.states + 1)) (numbers_below (length file.states + 1));
      start = first;
      next = step;
      accepts = λ s. is_answer (answer_by (λ said. said) (sign_at file s.1));
      start_among = λ truth. both-among (first truth).0 (first truth).1 (clamped-within file (first_state file (narrow is_truth_value truth))) (clamped-within file (first_state file (narrow is_truth_value truth)));
      next_among = λ s letter among.
          let goes = clamped-within file (next_state file s.0 (narrow is_in_letters letter)) in
          let was = range-among 0 (length file.states + 1) s.1 (pairs-among s (numbers_below (length file.states + 1)) (numbers_below (length file.states + 1)) among).1 in
          both-among (step s letter).0 (step s letter).1 goes
          (elim (counts mode (narrow is_in_letters letter)) as (λ t. cond t (clamped file (next_state file s.0 (narrow is_in_letters letter))) s.1 < length file.states + 1) [ true ↦ goes | false ↦ omega (arith, was) ]);
      right = λ word e assigned encodes.
          let told_there = told (answer_by (λ said. said) (sign_at file (read step (first word.truth) word.letters).1)) in
          let is = answer-is e assigned word encodes in
          ((λ held. told_there.0 (sym is ∙ held)), (λ accepted. is ∙ told_there.1 accepted));
    }
      where
        both-among : (a b : ℕ) → a < length file.states + 1 → b < length file.states + 1 → Among (a, b) (pairs (numbers_below (length file.states + 1)) (numbers_below (length file.states + 1)))
        both-among a b less less' =
            among-pairs a b (numbers_below (length file.states + 1)) (numbers_below (length file.states + 1))
            (among-range 0 (length file.states + 1) a (omega arith) (omega (arith, less))) (among-range 0 (length file.states + 1) b (omega arith) (omega (arith, less')))
