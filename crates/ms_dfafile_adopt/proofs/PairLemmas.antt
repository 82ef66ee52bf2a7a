-- What an automaton of a file becomes over the variables that pairs name.
use Rattle.std.proofs.Common.{◌≡◌, ◌≢◌, ℕ, suc, ◌+◌, false, List, [], ◌∷◌, AllPairs, length, map, slice_get, slice_index, Some, refl, sym, ap, subst, ◌∙◌, arith}
use Rattle.std.specs.Option.{option_map}
use Rattle.std.proofs.lemmas.List.{length-map}
use Rattle.std.proofs.lemmas.Option.{same_Some}
use Rattle.ms_logic.specs.declared.assignment.Value.{Value}
use Rattle.ms_logic.specs.declared.assignment.Value.TheVariants.{Truth, Number, Set}
use Rattle.ms_logic.specs.declared.checked.MapPair.{MapPair}
use Rattle.ms_logic.specs.declared.mode.Mode.{Mode}
use Rattle.ms_logic.specs.declared.mode.Mode.TheVariants.{M2lStr}
use Rattle.ms_logic.specs.declared.mode.Order.{Order}
use Rattle.ms_logic.specs.declared.mode.Order.TheVariants.{Zero, One, Two}
use Rattle.ms_logic_words.specs.declared.sign.Sign.{Sign}
use Rattle.ms_logic_words.specs.declared.sign.Sign.TheVariants.{Undefined}
use Rattle.ms_logic.specs.Assignment.{Universe, Env, Variable, IsAssignment, IsValueOf, value_at, AreValuesOf}
use Rattle.ms_logic_words.specs.Content.{Content, answer_by, env_of, shortest_word, sign_of, variables_by_place}
use Rattle.ms_logic.specs.Lists.{AreRising, IsAmong}
use Rattle.ms_logic.specs.Truth.{answer_undefined}
use Rattle.ms_logic.proofs.Agreement.{universe-assign_all}
use Rattle.ms_logic_words.proofs.WordLaws.{length_is_least}
use Rattle.ms_dfa.specs.Automaton.{IsAutomaton}
use Rattle.ms_dfa.specs.declared.plain.FileSign.{FileSign}
use Rattle.ms_dfa.specs.declared.plain.FileSign.TheVariants as signs
use Rattle.ms_dfa.specs.declared.plain.FileVar.{FileVar}
use Rattle.ms_dfa.specs.declared.plain.Plain.{Plain}
use Rattle.ms_dfa.specs.Narrow.{ReadsThrough}
use Rattle.ms_dfa.specs.Values.{HasValues, own_meaning}
use Rattle.ms_dfa.proofs.NarrowLemmas.{narrowed_assigned}
use Rattle.ms_dfa.proofs.OwnMeaningLemmas.{word_has_sign}
use Rattle.ms_dfa_explore.specs.Tracks.{distinct, place_of}
use Rattle.ms_dfa_explore.proofs.AmongLemmas.{among_at, held_among, one_place}
use Rattle.ms_dfa_explore.proofs.TracksLemmas.{distinct-rising, place_of-among}
use Rattle.ms_basic.specs.Operands.{HaveOneOrder}
use Rattle.ms_basic.proofs.DistinctLemmas.{among-distinct, distinct-among}
use Rattle.ms_dfa.specs.Files.{content_of_file}
use Rattle.ms_minim_canonical.proofs.ContentLemmas.{IsClosed-content}
use Rattle.ms_dfafile.specs.File.{IsFile}
use Rattle.ms_rename.specs.Renamed.{read_by, renamed, renamed_meaning}
use Rattle.ms_rename.proofs.RenamedLemmas.{renamed-at, renamed-of}
use Rattle.ms_dfafile_adopt.specs.Import.{adopted_meaning, answer_for_file, answer_of_file, value_named}
use Rattle.ms_dfafile_adopt.specs.Naming.{IsNaming}
use Rattle.ms_dfafile_adopt.specs.inner.Map.{pair_names}
use Rattle.ms_dfafile_adopt.specs.Readings.{AgreesWithFile, own_sign, own_variables}
use Rattle.ms_dfafile_adopt.proofs.AgreeLemmas.{Agrees, shortest-agreeing}
use Rattle.ms_dfafile_adopt.proofs.MapLemmas.{is_item, one_place_of, was_item}
use Rattle.ms_dfafile_adopt.proofs.ModeLemmas.{encoding_in}
use Rattle.ms_dfafile_adopt.proofs.ValueLemmas.{given_values, value_at_name}
use Rattle.ms_dfafile_adopt.proofs.VariableLemmas.{at-by_place, by_place-at, gives_among, length-by_place, rising-by_place, rising_equal}

-- values that are of their orders place by place
are_values : (universe : Universe) (vs : List Variable) (values : List Value) → length values ≡ length vs
    → ((place : ℕ) (v : Variable) (value : Value) → slice_get vs place ≡ Some v → slice_get values place ≡ Some value → IsValueOf v.order universe value) → AreValuesOf universe (map (λ v. v.order) vs) values
are_values universe [] [] long each = tt
are_values universe [] (value ∷ values) long each = absurd (omega (arith, long))
are_values universe (v ∷ vs) [] long each = absurd (omega (arith, long))
are_values universe (v ∷ vs) (value ∷ values) long each = (
  each 0 v value refl refl,
  are_values universe vs values (omega (arith, long)) (λ place w x held there. each (suc place) w x held there),
)

-- what is undefined is neither yes nor no
neither_answer : (plain : Plain) (names : List (List ℕ)) (variables : List Variable) (e : Env)
    → answer_of_file plain names e.universe (map (λ v. value_at v.order v.name e) variables) ≡ answer_undefined → adopted_meaning plain names variables e Undefined
neither_answer plain names variables e is =
    ((λ yes. let never : ⊥ = (let same = sym yes ∙ is in cc) in never), (λ no. let never : ⊥ = (let same = sym no ∙ is in cc) in never))

-- the sign for a sign of the file is right where the file says what that says
right_sign : (plain : Plain) (names : List (List ℕ)) (variables : List Variable) (e : Env) (sign : FileSign)
    → answer_of_file plain names e.universe (map (λ v. value_at v.order v.name e) variables) ≡ answer_for_file sign → adopted_meaning plain names variables e (own_sign sign)
right_sign plain names variables e signs.Plus is = is
right_sign plain names variables e signs.Minus is = is
right_sign plain names variables e signs.Zero is = neither_answer plain names variables e is
right_sign plain names variables e signs.Outside is = neither_answer plain names variables e is

module _ (plain : Plain) (rules : IsFile plain) (pairs : List MapPair) (different : AllPairs (λ one other. one ≢ other) (pair_names pairs)) (places : List ℕ) (naming : IsNaming plain pairs places)
    (mode : Mode) (own : Content Sign) (own_is : IsAutomaton own) (signs_are : AgreesWithFile plain mode own) where
  -- the variables of the file, and those of the import
  abbrev vs : List Variable
  vs = own_variables plain

  abbrev pub targets : List Variable
  targets = variables_by_place (map (λ pair. pair.order) pairs)

  abbrev given : List Variable
  given = renamed places vs

  rising : AreRising vs
  rising = rising-by_place 0 (map (λ variable. variable.order) plain.variables)

  as_long : length places ≡ length vs
  as_long = naming.long ∙ sym (length-map plain.variables (λ (variable : FileVar). variable.order)) ∙ sym (length-by_place 0 (map (λ variable. variable.order) plain.variables))

  pub long_map : length places ≡ length own.variables
  long_map = as_long ∙ sym (ap length signs_are.variables_are)

  -- a variable of the file, the pair that names it, and the variable that it stands for
  record Leads (place : ℕ) (v : Variable) : Type 0 where
    variable : FileVar
    held : slice_get plain.variables place ≡ Some variable
    name_is : v.name ≡ place
    order_is : variable.order ≡ v.order
    pair : MapPair
    there : slice_get pairs (slice_index places place) ≡ Some pair
    named : pair.name ≡ variable.name
    ordered : pair.order ≡ v.order

  leads : (place : ℕ) (v : Variable) → slice_get vs place ≡ Some v → Leads place v
  leads place v held =
      let at = by_place-at 0 (map (λ variable. variable.order) plain.variables) place v held in
      let was = was_item (λ (variable : FileVar). variable.order) plain.variables place v.order at.1 in
      let found = naming.each place was.0 was.1 in
      record {
        variable = was.0;
        held = was.1;
        name_is = (let name = at.0 in let plainly : v.name ≡ place = omega (arith, name) in plainly);
        order_is = was.2;
        pair = found.0;
        there = found.1;
        named = found.2;
        ordered = found.3 ∙ was.2;
      }

  abbrev target_for : ℕ → Variable → Variable
  target_for place v = record { name = slice_index places place; order = v.order }

  target_at : (place : ℕ) (v : Variable) → slice_get vs place ≡ Some v → slice_get targets (slice_index places place) ≡ Some (target_for place v)
  target_at place v held =
      let at = leads place v held in
      let j = slice_index places place in
      let order : slice_get (map (λ (pair : MapPair). pair.order) pairs) j ≡ Some v.order = is_item (λ (pair : MapPair). pair.order) pairs j at.pair at.there ∙ ap Some at.ordered in
      at-by_place 0 (map (λ pair. pair.order) pairs) j v.order order ∙ ap (λ (n : ℕ). Some (record { name = n; order = v.order })) (let plainly : 0 + j ≡ j = omega arith in plainly)

  -- a variable under its new name is one of the import
  given-target : (w : Variable) → IsAmong given w → IsAmong targets w
  given-target w among =
      let held = held_among given w among in
      let from = renamed-of places vs held.0 w held.1 in
      let same : target_for held.0 from.0 ≡ w = same_Some (target_for held.0 from.0) w (sym (renamed-at places vs held.0 from.0 as_long from.1) ∙ held.1) in
      among_at targets (slice_index places held.0) w (target_at held.0 from.0 from.1 ∙ ap Some same)

  target-given : (w : Variable) → IsAmong targets w → IsAmong given w
  target-given w among =
      let held = held_among targets w among in
      let at = by_place-at 0 (map (λ pair. pair.order) pairs) held.0 w held.1 in
      let pair = was_item (λ (pair : MapPair). pair.order) pairs held.0 w.order at.1 in
      let found = naming.only held.0 pair.0 pair.1 in
      let i = found.0 in
      let order : slice_get (map (λ (variable : FileVar). variable.order) plain.variables) i ≡ Some found.1.order = is_item (λ (variable : FileVar). variable.order) plain.variables i found.1 found.2 in
      let v : Variable = record { name = 0 + i; order = found.1.order } in
      let v_held : slice_get vs i ≡ Some v = at-by_place 0 (map (λ variable. variable.order) plain.variables) i found.1.order order in
      let to = naming.each i found.1 found.2 in
      let place : slice_index places i ≡ held.0
      = one_place_of (pair_names pairs) (slice_index places i) held.0 pair.0.name different (is_item (λ (p : MapPair). p.name) pairs (slice_index places i) to.0 to.1 ∙ ap Some (to.2 ∙ found.3))
      (is_item (λ (p : MapPair). p.name) pairs held.0 pair.0 pair.1) in
      let same : target_for i v ≡ w = same_Some (target_for i v) w (sym (target_at i v v_held) ∙ ap (slice_get targets) place ∙ held.1) in
      among_at given i w (renamed-at places vs i v as_long v_held ∙ ap Some same)

  one_order : HaveOneOrder given
  one_order v w is also same =
      let first = held_among targets v (given-target v is) in
      let second = held_among targets w (given-target w also) in
      let first_at = by_place-at 0 (map (λ pair. pair.order) pairs) first.0 v first.1 in
      let second_at = by_place-at 0 (map (λ pair. pair.order) pairs) second.0 w second.1 in
      let name = first_at.0 in
      let other = second_at.0 in
      let place : first.0 ≡ second.0 = omega (arith, name, other, same) in
      same_Some v w (sym first.1 ∙ ap (slice_get targets) place ∙ second.1)

  pub one_order_own : HaveOneOrder (renamed places own.variables)
  one_order_own = subst (λ list. HaveOneOrder (renamed places list)) (sym signs_are.variables_are) one_order

  variables_same : distinct given ≡ targets
  variables_same = rising_equal (distinct given) targets (distinct-rising given) (rising-by_place 0 (map (λ pair. pair.order) pairs))
      (λ w among. given-target w (distinct-among given w among)) (λ w among. among-distinct given w one_order (target-given w among))

  -- what an assignment gives the variables of the file
  value_read : (o : Order) (x place : ℕ) (e : Env) → place_of x vs ≡ place → value_at o x (read_by places vs e) ≡ value_at o (slice_index places place) e
  value_read Zero x place e is = ap (λ p. Truth (e.truth (slice_index places p))) is
  value_read One x place e is = ap (λ p. Number (e.number (slice_index places p))) is
  value_read Two x place e is = ap (λ p. Set (e.set (slice_index places p))) is

  read_at : (e : Env) (place : ℕ) (v : Variable) → slice_get vs place ≡ Some v → value_at v.order v.name (read_by places vs e) ≡ value_at v.order (slice_index places place) e
  read_at e place v held =
      value_read v.order v.name place e (one_place vs rising (place_of v.name vs) place v (place_of-among vs v rising (among_at vs place v held)) held)

  reads : (e : Env) → ReadsThrough places vs targets (read_by places vs e) e
  reads e = record { universe = refl; values = λ place v held. (target_for place v, target_at place v held, refl, read_at e place v held) }

  module _ (e : Env) (assigned : IsAssignment mode targets e) where
    -- the values of the file's variables
    abbrev f : Env
    f = read_by places vs e

    assigned_f : IsAssignment mode vs f
    assigned_f = narrowed_assigned places vs targets f e (reads e) mode assigned

    -- the values of the import's variables, and those that the file is asked for
    abbrev values : List Value
    values = map (λ v. value_at v.order v.name e) targets

    abbrev asked : List Value
    asked = map (λ variable. value_named (pair_names pairs) values variable.name) plain.variables

    asked_at : (place : ℕ) (v : Variable) → slice_get vs place ≡ Some v → slice_get asked place ≡ Some (value_at v.order v.name f)
    asked_at place v held =
        let at = leads place v held in
        let j = slice_index places place in
        let name : slice_get (pair_names pairs) j ≡ Some at.variable.name = is_item (λ (p : MapPair). p.name) pairs j at.pair at.there ∙ ap Some at.named in
        let value : slice_get values j ≡ Some (value_at v.order j e) = is_item (λ (w : Variable). value_at w.order w.name e) targets j (target_for place v) (target_at place v held) in
        is_item (λ (variable : FileVar). value_named (pair_names pairs) values variable.name) plain.variables place at.variable at.held
        ∙ ap Some (value_at_name (pair_names pairs) values j at.variable.name (value_at v.order j e) different name value ∙ sym (read_at e place v held))

    asked_are : AreValuesOf e.universe (map (λ v. v.order) vs) asked
    asked_are =
        are_values e.universe vs asked (length-map plain.variables (λ (variable : FileVar). value_named (pair_names pairs) values variable.name) ∙ sym naming.long ∙ as_long)
        (λ place v value held there. subst (IsValueOf v.order e.universe) (same_Some (value_at v.order v.name f) value (sym (asked_at place v held) ∙ there))
        (gives_among vs f assigned_f.values v (among_at vs place v held)))

    abbrev asked_env : Env
    asked_env = env_of e.universe vs asked

    agree : Agrees vs f asked_env
    agree = record {
      universe = universe-assign_all (map (λ v. v.name) vs) asked (record { universe = e.universe; truth = λ x. false; number = λ x. 0; set = λ x. [] });
      values = λ place v held.
          same_Some (value_at v.order v.name asked_env) (value_at v.order v.name f)
          (sym (is_item (λ (w : Variable). value_at w.order w.name asked_env) vs place v held)
          ∙ ap (λ list. slice_get list place) (given_values e.universe vs asked rising asked_are) ∙ asked_at place v held);
    }

    -- the sign of the automaton at the values of the file's variables is right
    sign_right : (sign : Sign) → own_meaning own f sign → adopted_meaning plain (pair_names pairs) targets e sign
    sign_right sign has =
        let file = content_of_file plain in
        let word = shortest_word vs f in
        let encodes = (length_is_least mode vs f assigned_f).0 in
        let encoding = encoding_in mode M2lStr vs word rising (f, assigned_f, encodes) in
        let said = word_has_sign file (IsClosed-content file rules.content) word in
        let own_has : sign_of own word ≡ Some sign = ap (λ list. sign_of own (shortest_word list f)) (sym signs_are.variables_are) ∙ has in
        let same : own_sign said.0 ≡ sign = same_Some (own_sign said.0) sign (sym (signs_are.signs word encoding ∙ ap (option_map own_sign) said.1) ∙ own_has) in
        let answer : answer_of_file plain (pair_names pairs) e.universe values ≡ answer_for_file said.0
        = ap (λ w. answer_by answer_for_file (sign_of file w)) (shortest-agreeing mode vs rising f asked_env agree assigned_f) ∙ ap (answer_by answer_for_file) said.1 in
        subst (adopted_meaning plain (pair_names pairs) targets e) same (right_sign plain (pair_names pairs) targets e said.0 answer)

  module _ (made : Content Sign) (mode_is : made.mode ≡ own.mode) (variables_are : made.variables ≡ distinct (renamed places own.variables))
      (has_values : HasValues (renamed_meaning places own.variables (own_meaning own)) made) where
    pub adopted_mode : made.mode ≡ mode
    adopted_mode = mode_is ∙ signs_are.mode_is

    pub adopted_variables : made.variables ≡ targets
    adopted_variables = variables_are ∙ ap (λ list. distinct (renamed places list)) signs_are.variables_are ∙ variables_same

    pub adopted_values : HasValues (adopted_meaning plain (pair_names pairs) targets) made
    adopted_values = record {
      right = λ word e assigned encodes.
          let found = has_values.right word e assigned encodes in
          let here = subst (λ m. IsAssignment m targets e) adopted_mode (subst (λ list. IsAssignment made.mode list e) adopted_variables assigned) in
          (found.0, found.1, sign_right e here found.0 (subst (λ list. own_meaning own (read_by places list e) found.0) signs_are.variables_are found.2));
      outside = has_values.outside;
    }
