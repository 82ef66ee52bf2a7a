-- An import at the variables of a list has the value that its automaton has there.
use Rattle.std.proofs.Common.{◌≡◌, ℕ, zero, suc, ◌+◌, cond, false, Result, Ok, Err, IfOk, List, [], ◌∷◌, length, map, slice_get, slice_index, Some, refl, sym, ap, subst, ◌∙◌, arith}
use Rattle.std.specs.List.{zip}
use Rattle.std.specs.Option.{option_map}
use Rattle.std.proofs.lemmas.Option.{none-some, same_Some, slice_get-map}
use Rattle.std.proofs.lemmas.Bool.{eq-eqb}
use Rattle.ms_dag.specs.Values.{read_through}
use Rattle.ms_dag.specs.Places.{AreAt}
use Rattle.ms_dfa.specs.Automaton.{IsAutomaton}
use Rattle.ms_list.specs.declared.fault.StepFault.{StepFault}
use Rattle.ms_dfa_explore.specs.Tracks.{distinct}
use Rattle.ms_logic.specs.Lists.{IsAmong}
use Rattle.ms_logic.specs.declared.mode.Mode.{Mode}
use Rattle.ms_logic.specs.declared.mode.Order.{Order}
use Rattle.ms_logic.specs.declared.mode.Order.TheVariants.{Zero, One, Two}
use Rattle.ms_logic.specs.declared.assignment.Value.TheVariants.{Truth, Number, Set}
use Rattle.ms_logic_words.specs.declared.sign.Sign.{Sign}
use Rattle.ms_logic_words.specs.declared.sign.Sign.TheVariants.{Yes, No, Undefined, Outside}
use Rattle.ms_logic.specs.declared.assignment.Value.{Value}
use Rattle.ms_logic.specs.Assignment.{Env, Variable, IsAssignment, assign, assign_all, value_at}
use Rattle.ms_logic_words.specs.Content.{Content, answer_by, env_of, variables_from, variables_by_place}
use Rattle.ms_logic_words.specs.Signs.{answer_for}
use Rattle.ms_logic_core.specs.CoreForm.{answer_over}
use Rattle.ms_logic.specs.Truth.{answer_yes, answer_no, answer_undefined}
use Rattle.ms_logic.proofs.Agreement.{universe-assign_all}
use Rattle.ms_logic.proofs.AssignedValues.{value_at-assign_other}
use Rattle.ms_rename.specs.Renamed.{renamed, renamed_meaning}
use Rattle.ms_dfa.specs.Values.{HasValues, own_meaning}
use Rattle.ms_dfa.proofs.OwnMeaningLemmas.{HasValues-own, IsMeaning-own}
use Rattle.ms_logic_words.specs.Residual.{HaveEqualSigns}
use Rattle.ms_rename.proofs.RenamedLemmas.{HasValues-same}
use Rattle.ms_build.specs.Built.{IsPart, import_meaning, imports_of, import_of}
use Rattle.ms_build.proofs.AgreementLemmas.{Agree, own_meaning-agree}
use Rattle.ms_build.proofs.ChildLemmas.{IsPart-read, assigned_through, value_through}
use Rattle.ms_build.proofs.MeaningLemmas.{HasValues-to}
use Rattle.ms_build.proofs.PlaceLemmas.{AreAt-length, agree_each, own-among}

-- the values that a list gives the variables of an import
abbrev values_given : List ℕ → List Variable → Env → List Value
values_given xs variables e = map (λ p. value_at p.1.order p.0 e) (zip xs variables)

-- a value at a variable
assigned_here : (o : Order) (x y : ℕ) (c e : Env) → value_at o x (assign x (value_at o y e) c) ≡ value_at o y e
assigned_here Zero x y c e = ap (λ t. Truth (cond t (e.truth y) (c.truth x))) (eq-eqb x x refl)
assigned_here One x y c e = ap (λ t. Number (cond t (e.number y) (c.number x))) (eq-eqb x x refl)
assigned_here Two x y c e = ap (λ t. Set (cond t (e.set y) (c.set x))) (eq-eqb x x refl)

-- the value at each place is that of the variable that the list has there
env_at : (xs : List ℕ) (given : List Order) (base : ℕ) (c e : Env) (place : ℕ) (o : Order) → length xs ≡ length given → slice_get given place ≡ Some o
    → value_at o (base + place) (assign_all (map (λ (v : Variable). v.name) (variables_from base given)) (values_given xs (variables_from base given) e) c) ≡ value_at o (slice_index xs place) e
env_at xs [] base c e place o long held = absurd (none-some o held)
env_at [] (first ∷ given) base c e place o long held = absurd (omega (arith, long))
env_at (x ∷ xs) (first ∷ given) base c e zero o long held =
    let same = same_Some first o held in
    let rest = assign_all (map (λ (v : Variable). v.name) (variables_from (base + 1) given)) (values_given xs (variables_from (base + 1) given) e) c in
    ap (λ n. value_at o n (assign base (value_at first x e) rest)) (let plain : base + 0 ≡ base = omega arith in plain)
    ∙ subst (λ order. value_at order base (assign base (value_at first x e) rest) ≡ value_at order x e) same (assigned_here first base x rest e)
env_at (x ∷ xs) (first ∷ given) base c e (suc place) o long held =
    let rest = assign_all (map (λ (v : Variable). v.name) (variables_from (base + 1) given)) (values_given xs (variables_from (base + 1) given) e) c in
    value_at-assign_other o base (value_at first x e) (base + suc place) rest (λ same. omega (arith, same))
    ∙ ap (λ n. value_at o n rest) (let moved : base + suc place ≡ (base + 1) + place = omega arith in moved)
    ∙ env_at xs given (base + 1) c e place o (omega (arith, long)) held

module _ (contents : List (Content Sign)) (i : ℕ) (content : Content Sign) (held : slice_get contents i ≡ Some content) (automaton : IsAutomaton content) (given : List Order)
    (variables_are : content.variables ≡ variables_by_place given) (xs : List ℕ) (long : length xs ≡ length given) (e : Env)
    (assigned : IsAssignment content.mode content.variables (read_through xs e)) where
  -- the values that the import is asked for
  abbrev asked : Env
  asked = env_of e.universe content.variables (values_given xs content.variables e)

  same_values : (v : Variable) → IsAmong content.variables v → value_at v.order v.name asked ≡ value_at v.order v.name (read_through xs e)
  same_values v among =
      let there = own-among given v (subst (λ vs. IsAmong vs v) variables_are among) in
      ap (λ vs. value_at v.order v.name (env_of e.universe vs (values_given xs vs e))) variables_are
      ∙ ap (λ n. value_at v.order n (env_of e.universe (variables_by_place given) (values_given xs (variables_by_place given) e))) (let plain : v.name ≡ 0 + v.name = omega arith in plain)
      ∙ env_at xs given 0 (record { universe = e.universe; truth = λ x. false; number = λ x. 0; set = λ x. [] }) e v.name v.order long there
      ∙ value_through v.order xs e v.name

  agree_asked : Agree content.variables (read_through xs e) asked
  agree_asked = record {
    universe = universe-assign_all (map (λ (v : Variable). v.name) content.variables) (values_given xs content.variables e) (record { universe = e.universe; truth = λ x. false; number = λ x. 0; set = λ x. [] });
    values = agree_each content.variables (read_through xs e) asked same_values;
  }

  answer_is : (sign : Sign) → own_meaning content (read_through xs e) sign → answer_over (slice_get (imports_of contents) i) xs e ≡ answer_for sign
  answer_is sign own =
      let there : slice_get (imports_of contents) i ≡ Some (import_of content) = slice_get-map import_of contents i ∙ ap (option_map import_of) held in
      ap (λ found. answer_over found xs e) there ∙ ap (answer_by answer_for) (own_meaning-agree (read_through xs e) asked content automaton assigned agree_asked sign own)

  differ : answer_undefined ≡ answer_yes → ⊥
  differ same = cc

  differ_too : answer_undefined ≡ answer_no → ⊥
  differ_too same = cc

  pub import_right : (sign : Sign) → own_meaning content (read_through xs e) sign → import_meaning (imports_of contents) i xs e sign
  import_right Yes own = answer_is Yes own
  import_right No own = answer_is No own
  import_right Undefined own = ((λ also. differ (sym (answer_is Undefined own) ∙ also)), (λ also. differ_too (sym (answer_is Undefined own) ∙ also)))
  import_right Outside own = (IsMeaning-own content automaton).inside (read_through xs e) assigned own

-- so the automaton of an import has its value, once it has fewest states and is renamed
pub imported_by : (contents : List (Content Sign)) (mode : Mode) (orders : List Order) (i : ℕ) (content : Content Sign) → slice_get contents i ≡ Some content → IsAutomaton content → content.mode ≡ mode
    → (given : List Order) → content.variables ≡ variables_by_place given → (few : Content Sign) → IsAutomaton few → few.mode ≡ content.mode → few.variables ≡ content.variables → HaveEqualSigns content few
    → (xs : List ℕ) → AreAt orders xs given → (names : List ℕ) → names ≡ xs → (result : Result (Content Sign) StepFault)
    → IfOk result (λ made. made.mode ≡ few.mode) → IfOk result (λ made. made.variables ≡ distinct (renamed names few.variables))
    → IfOk result (HasValues (renamed_meaning names few.variables (own_meaning few))) → IfOk result (IsPart mode orders xs (import_meaning (imports_of contents) i xs))
imported_by contents mode orders i content held automaton own_mode given variables_are few few_is few_mode few_variables signs xs at names same (Ok made) mode_is made_variables values =
    let there = subst (λ list. made.variables ≡ distinct (renamed list few.variables)) same made_variables in
    let renamed_values = subst (λ list. HasValues (renamed_meaning list few.variables (own_meaning few)) made) same values in
    let own = HasValues-same (own_meaning content) content few few_mode few_variables signs (HasValues-own content automaton) in
    let given_few = few_variables ∙ variables_are in
    let part = IsPart-read mode orders xs given at few given_few few_is (own_meaning content) own made mode_is there renamed_values (few_mode ∙ own_mode) in
    record {
      mode_is = part.mode_is;
      among = part.among;
      covers = part.covers;
      values = HasValues-to (λ e sign. own_meaning content (read_through xs e) sign) (import_meaning (imports_of contents) i xs) made
          (λ word e sign assigned encodes right.
          let read = assigned_through orders xs given at few given_few few_is (own_meaning content) own made mode_is there renamed_values e assigned in
          import_right contents i content held automaton given variables_are xs (AreAt-length orders xs given at) e
          (subst (λ m. IsAssignment m content.variables (read_through xs e)) few_mode (subst (λ vs. IsAssignment few.mode vs (read_through xs e)) few_variables read)) sign right) part.values;
    }
imported_by contents mode orders i content held automaton own_mode given variables_are few few_is few_mode few_variables signs xs at names same (Err fault) mode_is made_variables values = tt
