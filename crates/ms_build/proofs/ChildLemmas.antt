-- The automaton of a child, read at the variables of the node above it.
use Rattle.std.proofs.Common.{◌≡◌, ℕ, zero, suc, ◌+◌, inl, inr, ⊎_elim, List, [], ◌∷◌, Contains, length, slice_get, slice_index, Some, refl, sym, ap, subst, ◌∙◌, arith}
use Rattle.std.proofs.lemmas.Option.{none-some, same_Some, slice_get_within, get_or_from_slice_get}
use Rattle.ms_arena.proofs.Lists.{slice_get-held}
use Rattle.ms_dfa.specs.Automaton.{IsAutomaton}
use Rattle.ms_basic.specs.Operands.{HaveOneOrder}
use Rattle.ms_basic.proofs.DistinctLemmas.{among-distinct, distinct-among}
use Rattle.ms_dag.specs.Places.{AreAt}
use Rattle.ms_dag.specs.Values.{read_through}
use Rattle.ms_dfa_explore.specs.Tracks.{distinct}
use Rattle.ms_logic.specs.Lists.{IsAmong}
use Rattle.ms_logic.specs.declared.mode.Mode.{Mode}
use Rattle.ms_logic.specs.declared.mode.Order.{Order}
use Rattle.ms_logic.specs.declared.mode.Order.TheVariants.{Zero, One, Two}
use Rattle.ms_logic_words.specs.declared.sign.Sign.{Sign}
use Rattle.ms_logic.specs.Assignment.{Env, Variable, IsAssignment, IsUniverseOf, IsValueOf, value_at}
use Rattle.ms_logic_words.specs.Content.{Content, variables_by_place, variables_from, StateOf}
use Rattle.ms_rename.specs.Renamed.{read_by, renamed, renamed_meaning, HasPartsOf}
use Rattle.ms_dfa.specs.Values.{HasValues, Meaning, own_meaning}
use Rattle.ms_build.specs.Built.{AreBuilt, HasOnly, IsPart, IsReadAt, IsUsedFrom, child_meaning, node_meaning, IsWithin}
use Rattle.ms_dag.specs.declared.node.Child.{Child}
use Rattle.ms_dag.specs.declared.node.Entry.{Entry}
use Rattle.ms_logic.specs.Truth.{Import}
use Rattle.ms_logic_words.specs.declared.sign.Sign.TheVariants.{Yes, No, Undefined, Outside}
use Rattle.ms_build.proofs.AgreementLemmas.{Agree, IsAssignment-agree, own_meaning-agree}
use Rattle.ms_build.proofs.MeaningLemmas.{HasValues-to, own_means}
use Rattle.ms_build.proofs.PlaceLemmas.{Agree-by, Agree-read, AreAt-length, AreAt-one, contains_place, length-by_place, gives_all, gives_among, own-among, among-own, renamed-at_place}
use Rattle.ms_product.specs.Combined.{with_sign, with_signs}
use Rattle.ms_arena.specs.declared.node.Node.{Node}
use Rattle.std.proofs.lemmas.List.{length-map}

pub same_variable : (v w : Variable) → v.name ≡ w.name → v.order ≡ w.order → v ≡ w
same_variable v w names orders = ap (λ (n : ℕ). record { name = n; order = v.order }) names ∙ ap (λ (o : Order). record { name = w.name; order = o }) orders

-- what the map has for a variable by its place
renamed-among : (places : List ℕ) (given : List Order) (base place : ℕ) (o : Order) → length places ≡ length given → slice_get given place ≡ Some o
    → IsAmong (renamed places (variables_from base given)) (record { name = slice_index places place; order = o })
renamed-among [] given base place o long held = absurd (let less = slice_get_within given place o held in omega (arith, less, long))
renamed-among (p ∷ places) [] base place o long held = absurd (none-some o held)
renamed-among (p ∷ places) (first ∷ given) base zero o long held = inl (ap (λ (order : Order). record { name = p; order = order }) (same_Some first o held))
renamed-among (p ∷ places) (first ∷ given) base (suc place) o long held = inr (renamed-among places given (base + 1) place o (omega (arith, long)) held)

pub value_through : (o : Order) (places : List ℕ) (e : Env) (x : ℕ) → value_at o (slice_index places x) e ≡ value_at o x (read_through places e)
value_through Zero places e x = refl
value_through One places e x = refl
value_through Two places e x = refl

module _ (orders : List Order) (places : List ℕ) (given : List Order) (at : AreAt orders places given) (content : Content Sign) (variables_are : content.variables ≡ variables_by_place given) where
  at_place : (w : Variable) → IsAmong (renamed places content.variables) w → IsAmong (variables_by_place orders) w
  at_place w among = among-own orders w (renamed-at_place orders places given 0 at w (subst (λ vs. IsAmong (renamed places vs) w) variables_are among))

  -- variables that the map has under one number have one order
  pub one_order : HaveOneOrder (renamed places content.variables)
  one_order v w is also same =
      let first = own-among orders v (at_place v is) in
      let second = own-among orders w (at_place w also) in
      same_variable v w same (same_Some v.order w.order (sym first ∙ ap (slice_get orders) same ∙ second))

  -- the map has a number for each variable
  pub as_long : length places ≡ length content.variables
  as_long = AreAt-length orders places given at ∙ sym (length-by_place 0 given) ∙ ap length (sym variables_are)

  module _ (automaton : IsAutomaton content) (meaning : Meaning) (values : HasValues meaning content) (made : Content Sign) (mode_is : made.mode ≡ content.mode)
      (made_variables : made.variables ≡ distinct (renamed places content.variables)) (renamed_values : HasValues (renamed_meaning places content.variables (own_meaning content)) made) where
    pub among_orders : (w : Variable) → IsAmong made.variables w → IsAmong (variables_by_place orders) w
    among_orders w among = at_place w (distinct-among (renamed places content.variables) w (subst (λ vs. IsAmong vs w) made_variables among))

    -- each place of the map is one of its variables
    pub among_made : (v : Variable) → IsAmong content.variables v → IsAmong made.variables (record { name = slice_index places v.name; order = v.order })
    among_made v among =
        let held = own-among given v (subst (λ vs. IsAmong vs v) variables_are among) in
        let there = renamed-among places given 0 v.name v.order (AreAt-length orders places given at) held in
        subst (λ vs. IsAmong vs (record { name = slice_index places v.name; order = v.order })) (sym made_variables)
        (among-distinct (renamed places content.variables) (record { name = slice_index places v.name; order = v.order }) one_order
        (subst (λ vs. IsAmong (renamed places vs) (record { name = slice_index places v.name; order = v.order })) (sym variables_are) there))

    module _ (e : Env) (assigned : IsAssignment made.mode made.variables e) where
      pub assigned_through : IsAssignment content.mode content.variables (read_through places e)
      assigned_through = record {
        universe = subst (λ mode. IsUniverseOf mode e.universe) mode_is assigned.universe;
        values = gives_all content.variables (read_through places e) (λ v among.
            subst (IsValueOf v.order e.universe) (value_through v.order places e v.name)
            (gives_among made.variables e assigned.values (record { name = slice_index places v.name; order = v.order }) (among_made v among)));
      }

      agree_read : Agree content.variables (read_by places content.variables e) (read_through places e)
      agree_read = subst (λ vs. Agree vs (read_by places vs e) (read_through places e)) (sym variables_are) (Agree-read places given e)

      agree_by : Agree content.variables (read_through places e) (read_by places content.variables e)
      agree_by = subst (λ vs. Agree vs (read_through places e) (read_by places vs e)) (sym variables_are) (Agree-by places given e)

      right_through : (sign : Sign) → own_meaning content (read_by places content.variables e) sign → meaning (read_through places e) sign
      right_through sign own =
          let by = IsAssignment-agree (read_through places e) (read_by places content.variables e) content.mode content.variables agree_by assigned_through in
          own_means meaning content automaton values (read_through places e) assigned_through sign
          (own_meaning-agree (read_by places content.variables e) (read_through places e) content automaton by agree_read sign own)

    -- so the renamed automaton has the value of the child
    pub HasValues-read : HasValues (λ e sign. meaning (read_through places e) sign) made
    HasValues-read =
        HasValues-to (renamed_meaning places content.variables (own_meaning content)) (λ e sign. meaning (read_through places e) sign) made
        (λ word e sign assigned encodes own. right_through e assigned sign own) renamed_values

-- a renamed automaton over some variables of these orders, with a value read through the map
pub IsPart-read : (mode : Mode) (orders : List Order) (places : List ℕ) (given : List Order) (at : AreAt orders places given) (content : Content Sign) (variables_are : content.variables ≡ variables_by_place given)
    (automaton : IsAutomaton content) (meaning : Meaning) (values : HasValues meaning content) (made : Content Sign) (mode_is : made.mode ≡ content.mode)
    (made_variables : made.variables ≡ distinct (renamed places content.variables)) (renamed_values : HasValues (renamed_meaning places content.variables (own_meaning content)) made)
    → content.mode ≡ mode → IsPart mode orders places (λ e sign. meaning (read_through places e) sign) made
IsPart-read mode orders places given at content variables_are automaton meaning values made mode_is made_variables renamed_values own_mode = record {
  mode_is = mode_is ∙ own_mode;
  among = among_orders orders places given at content variables_are automaton meaning values made mode_is made_variables renamed_values;
  covers = λ j o covered there.
      let place = contains_place places j covered in
      let less = slice_get_within places place.0 j place.1 in
      let long = AreAt-length orders places given at in
      let order = slice_get-held given place.0 (omega (arith, less, long)) in
      let same : order.0 ≡ o = same_Some order.0 o (sym (AreAt-one orders places given at place.0 j order.0 place.1 order.1) ∙ there) in
      let own : IsAmong content.variables (record { name = place.0; order = order.0 })
      = subst (λ vs. IsAmong vs (record { name = place.0; order = order.0 })) (sym variables_are) (among-own given (record { name = place.0; order = order.0 }) order.1) in
      let made_has = among_made orders places given at content variables_are automaton meaning values made mode_is made_variables renamed_values (record { name = place.0; order = order.0 }) own in
      subst (λ n. IsAmong made.variables (record { name = n; order = o })) (get_or_from_slice_get places place.0 j 0 place.1)
      (subst (λ order. IsAmong made.variables (record { name = slice_index places place.0; order = order })) same made_has);
  values = HasValues-read orders places given at content variables_are automaton meaning values made mode_is made_variables renamed_values;
}

-- the value of a child is that of its node, read through its map
child_is : (imports : List Import) (entries : List Entry) (child : Child) (e : Env) (sign : Sign) → node_meaning imports entries child.node (read_through child.map e) sign → child_meaning imports entries child e sign
child_is imports entries child e Yes is = is
child_is imports entries child e No is = is
child_is imports entries child e Undefined is = is
child_is imports entries child e Outside is = is

module _ (limit : ℕ) (imports : List Import) (mode : Mode) (entries : List Entry) (roots : List Child) (contents : List (Content Sign)) (are : AreBuilt limit imports mode entries roots contents) (child : Child) (content : Content Sign)
    (held : slice_get contents child.node ≡ Some content) (used : IsUsedFrom entries roots (length contents) child.node) (automaton : IsAutomaton content) where
  -- the orders of the child's own variables
  module _ (orders : List Order) (read : IsReadAt entries orders child) where
    abbrev given : List Order
    given = read.0.orders

    pub variables_of_child : content.variables ≡ variables_by_place given
    variables_of_child =
        let is = are child.node content held used in
        is.2.variables_are ∙ ap (λ (entry : Entry). variables_by_place entry.orders) (same_Some is.0 read.0 (sym is.1 ∙ read.1))

    pub IsPart-brought : (made : Content Sign) → made.mode ≡ content.mode → made.variables ≡ distinct (renamed child.map content.variables)
        → HasValues (renamed_meaning child.map content.variables (own_meaning content)) made → IsPart mode orders child.map (child_meaning imports entries child) made
    IsPart-brought made mode_is made_variables values =
        let is = are child.node content held used in
        let part = IsPart-read mode orders child.map given read.2 content variables_of_child automaton (node_meaning imports entries child.node) is.2.values made mode_is made_variables values is.2.mode_is in
        record {
          mode_is = part.mode_is;
          among = part.among;
          covers = part.covers;
          values = HasValues-to (λ e sign. node_meaning imports entries child.node (read_through child.map e) sign) (child_meaning imports entries child) made
              (λ word e sign assigned encodes right. child_is imports entries child e sign right) part.values;
        }

  -- the same of a list that is the child's map
  pub brought_by : (map : List ℕ) → map ≡ child.map → (made : Content Sign) → made.mode ≡ content.mode → made.variables ≡ distinct (renamed map content.variables)
      → HasValues (renamed_meaning map content.variables (own_meaning content)) made
      → (orders : List Order) → IsReadAt entries orders child → IsPart mode orders child.map (child_meaning imports entries child) made
  brought_by map same made mode_is variables values orders read =
      IsPart-brought orders read made mode_is (subst (λ list. made.variables ≡ distinct (renamed list content.variables)) same variables)
      (subst (λ list. HasValues (renamed_meaning list content.variables (own_meaning content)) made) same values)

-- a renamed variable has a number of the map
renamed-named : (names : List ℕ) (vs : List Variable) (w : Variable) → IsAmong (renamed names vs) w → Contains names w.name
renamed-named [] vs w among = absurd among
renamed-named (name ∷ names) [] w among = absurd among
renamed-named (name ∷ names) (v ∷ vs) w among = ⊎_elim
    (λ here. (0, omega arith, ap (λ (u : Variable). u.name) here))
    (λ there. let later = renamed-named names vs w there in (suc later.0, (let less = later.1 in omega (arith, less)), later.2))
    among

pub only_by : (names map : List ℕ) → map ≡ names → (vs : List Variable) (made : Content Sign) → made.variables ≡ distinct (renamed map vs) → HasOnly names made
only_by names map same vs made variables_are v among =
    subst (λ list. Contains list v.name) same (renamed-named map vs v (distinct-among (renamed map vs) v (subst (λ list. IsAmong list v) variables_are among)))

-- what has the nodes and states of another is within its limit
pub within_parts : (limit : ℕ) (content made : Content Sign) → HasPartsOf content made → IsWithin limit content → IsWithin limit made
within_parts limit content made parts within =
    let nodes = ap (λ (list : List Node). length list) parts.nodes in
    let states = ap (λ (list : List (StateOf Sign)). length list) parts.states in
    omega (arith, nodes, states, within)

-- so is what has other signs
pub within_signs : (limit : ℕ) (change : Sign → Sign) (content made : Content Sign) → made ≡ with_signs change content → IsWithin limit content → IsWithin limit made
within_signs limit change content made same within =
    subst (IsWithin limit) (sym same) (let states = length-map content.states (with_sign change) in omega (arith, states, within))
