-- A connective of many children, one more at a time.
use Rattle.std.proofs.Common.{◌≡◌, ℕ, zero, suc, ◌⊎◌, inl, inr, ⊎_elim, List, [], ◌∷◌, ◌++◌, append_assoc, take, Contains, length, slice_get, Some, ◌+◌, refl, ap, sym, subst, ◌∙◌, arith}
use Rattle.std.proofs.lemmas.List.Elements.{Contains-append_cases, Contains-append_left, Contains-append_right}
use Rattle.std.proofs.lemmas.List.{take_more}
use Rattle.std.proofs.lemmas.Option.{get_or_from_slice_get, none-some, slice_get_within}
use Rattle.ms_arena.proofs.Lists.{slice_get-append_some, slice_get-push}
use Rattle.ms_dag.specs.Dag.{places_in_maps}
use Rattle.ms_dfa.specs.Automaton.{IsAutomaton}
use Rattle.ms_dfa_explore.specs.Tracks.{merged}
use Rattle.ms_dfa_explore.proofs.AmongLemmas.{merged-either}
use Rattle.ms_logic.specs.Lists.{IsAmong}
use Rattle.ms_logic.specs.declared.mode.Order.{Order}
use Rattle.ms_logic_words.specs.Content.{Content}
use Rattle.ms_logic_words.specs.Residual.{HaveEqualSigns}
use Rattle.ms_rename.proofs.RenamedLemmas.{HasValues-same}
use Rattle.ms_product.specs.Combined.{HaveEqualOrders, combined}
use Rattle.ms_build.specs.declared.plan.Plan.{Plan}
use Rattle.ms_build.proofs.MeaningLemmas.{HasValues-to}
use Rattle.ms_build.proofs.PartLemmas.{IsPart-combined, equal_orders}
use Rattle.ms_dag.specs.declared.node.Child.{Child}
use Rattle.ms_dag.specs.declared.node.Entry.{Entry}
use Rattle.ms_dag.specs.Values.{Verdict, Of, EachIs, SomeIs, EachIsDefined, NodeYes, NodeNo}
use Rattle.ms_logic_words.specs.declared.sign.Sign.{Sign}
use Rattle.ms_logic.specs.Assignment.{Env}
use Rattle.ms_logic.specs.Truth.{Import}
use Rattle.ms_project.proofs.AlwaysLemmas.{sign_moves}
use Rattle.ms_dfa.specs.Values.{HasValues, meaning_by, own_meaning}
use Rattle.ms_build.specs.declared.plan.Many.{Many}
use Rattle.ms_build.specs.declared.plan.Many.TheVariants.{All, Any}
use Rattle.ms_build.specs.Built.{ChildYes, ChildNo, HasOnly, IsBrought, IsManyOf, IsPart, AreReadAt, IsReadAt, ManyYes, ManyNo, child_meaning, entries_of, imports_for, many_meaning, op_of}
use Rattle.ms_build.specs.Connectives.{NoOf, YesOf}

module _ (V : Verdict) (e : Env) where
  each_more : (cs : List Child) (c : Child) → EachIs V cs e → Of V c e → EachIs V (cs ++ c ∷ []) e
  each_more [] c each last = (last, tt)
  each_more (d ∷ cs) c each last = (each.0, each_more cs c each.1 last)

  each_but : (cs : List Child) (c : Child) → EachIs V (cs ++ c ∷ []) e → EachIs V cs e × Of V c e
  each_but [] c each = (tt, each.0)
  each_but (d ∷ cs) c each = let more = each_but cs c each.1 in ((each.0, more.0), more.1)

  some_more : (cs : List Child) (c : Child) → SomeIs V cs e ⊎ Of V c e → SomeIs V (cs ++ c ∷ []) e
  some_more [] c some = ⊎_elim (λ never. absurd never) (λ last. inl last) some
  some_more (d ∷ cs) c some = ⊎_elim (λ one. ⊎_elim (λ here. inl here) (λ there. inr (some_more cs c (inl there))) one) (λ last. inr (some_more cs c (inr last))) some

  some_but : (cs : List Child) (c : Child) → SomeIs V (cs ++ c ∷ []) e → SomeIs V cs e ⊎ Of V c e
  some_but [] c some = ⊎_elim (λ last. inr last) (λ never. absurd never) some
  some_but (d ∷ cs) c some = ⊎_elim (λ here. inl (inl here)) (λ there. ⊎_elim (λ one. inl (inr one)) (λ last. inr last) (some_but cs c there)) some

module _ (Y N : Verdict) (e : Env) where
  defined_more : (cs : List Child) (c : Child) → EachIsDefined Y N cs e → Of Y c e ⊎ Of N c e → EachIsDefined Y N (cs ++ c ∷ []) e
  defined_more [] c each last = (last, tt)
  defined_more (d ∷ cs) c each last = (each.0, defined_more cs c each.1 last)

  defined_but : (cs : List Child) (c : Child) → EachIsDefined Y N (cs ++ c ∷ []) e → EachIsDefined Y N cs e × (Of Y c e ⊎ Of N c e)
  defined_but [] c each = (tt, each.0)
  defined_but (d ∷ cs) c each = let more = defined_but cs c each.1 in ((each.0, more.0), more.1)

  all_defined : (cs : List Child) → EachIs Y cs e → EachIsDefined Y N cs e
  all_defined [] each = tt
  all_defined (c ∷ cs) each = (inl each.0, all_defined cs each.1)

  none_defined : (cs : List Child) → EachIs N cs e → EachIsDefined Y N cs e
  none_defined [] each = tt
  none_defined (c ∷ cs) each = (inr each.0, none_defined cs each.1)

  all_or_some : (cs : List Child) → EachIsDefined Y N cs e → EachIs Y cs e ⊎ SomeIs N cs e
  all_or_some [] each = inl tt
  all_or_some (c ∷ cs) each = ⊎_elim (λ here. ⊎_elim (λ all. inl (here, all)) (λ some. inr (inr some)) (all_or_some cs each.1)) (λ not_here. inr (inl not_here)) each.0

  none_or_some : (cs : List Child) → EachIsDefined Y N cs e → EachIs N cs e ⊎ SomeIs Y cs e
  none_or_some [] each = inl tt
  none_or_some (c ∷ cs) each = ⊎_elim (λ here. inr (inl here)) (λ not_here. ⊎_elim (λ none. inl (not_here, none)) (λ some. inr (inr some)) (none_or_some cs each.1)) each.0

  defined_all : (cs : List Child) → EachIs Y cs e ⊎ (EachIsDefined Y N cs e × SomeIs N cs e) → EachIsDefined Y N cs e
  defined_all cs is = ⊎_elim (λ all. all_defined cs all) (λ both. both.0) is

  defined_any : (cs : List Child) → (EachIsDefined Y N cs e × SomeIs Y cs e) ⊎ EachIs N cs e → EachIsDefined Y N cs e
  defined_any cs is = ⊎_elim (λ both. both.0) (λ none. none_defined cs none) is

module _ (imports : List Import) (entries : List Entry) (cs : List Child) (c : Child) (e : Env) where
  abbrev Y : Verdict
  Y = NodeYes imports entries

  abbrev N : Verdict
  N = NodeNo imports entries

  abbrev YesBoth : Many → Env → Type 0
  YesBoth many = YesOf (ManyYes many imports entries cs) (ManyNo many imports entries cs) (ChildYes imports entries c) (ChildNo imports entries c) (op_of many)

  abbrev NoBoth : Many → Env → Type 0
  NoBoth many = NoOf (ManyYes many imports entries cs) (ManyNo many imports entries cs) (ChildYes imports entries c) (ChildNo imports entries c) (op_of many)

  pub one_more : (many : Many) (sign : Sign) → meaning_by (YesBoth many) (NoBoth many) e sign
      → meaning_by (ManyYes many imports entries (cs ++ c ∷ [])) (ManyNo many imports entries (cs ++ c ∷ [])) e sign
  one_more All = sign_moves (YesBoth All) (NoBoth All) (ManyYes All imports entries (cs ++ c ∷ [])) (ManyNo All imports entries (cs ++ c ∷ [])) e
      (λ is. each_more Y e cs c is.0 is.1)
      (λ is. (defined_more Y N e cs c (defined_all Y N e cs is.0) is.1, some_more N e cs c (⊎_elim (λ before. inl before.1) (λ last. inr last) is.2)))
      (λ is. each_but Y e cs c is)
      (λ is.
      let defined = defined_but Y N e cs c is.0 in
      let either = all_or_some Y N e cs defined.0 in (
        ⊎_elim (λ all. inl all) (λ some. inr (defined.0, some)) either,
        defined.1,
        ⊎_elim (λ some. inl (defined.0, some)) (λ last. inr last) (some_but N e cs c is.1),
      ))
  one_more Any = sign_moves (YesBoth Any) (NoBoth Any) (ManyYes Any imports entries (cs ++ c ∷ [])) (ManyNo Any imports entries (cs ++ c ∷ [])) e
      (λ is. (defined_more Y N e cs c (defined_any Y N e cs is.0) is.1, some_more Y e cs c (⊎_elim (λ before. inl before.1) (λ last. inr last) is.2)))
      (λ is. each_more N e cs c is.0 is.1)
      (λ is.
      let defined = defined_but Y N e cs c is.0 in
      let either = none_or_some Y N e cs defined.0 in (
        ⊎_elim (λ none. inr none) (λ some. inl (defined.0, some)) either,
        defined.1,
        ⊎_elim (λ some. inl (defined.0, some)) (λ last. inr last) (some_but Y e cs c is.1),
      ))
      (λ is. each_but N e cs c is)

-- the connective of one child is that child
module _ (imports : List Import) (entries : List Entry) (c : Child) (e : Env) where
  pub only_one : (many : Many) (sign : Sign) → child_meaning imports entries c e sign → many_meaning many imports entries (c ∷ []) e sign
  only_one All = sign_moves (ChildYes imports entries c) (ChildNo imports entries c) (ManyYes All imports entries (c ∷ [])) (ManyNo All imports entries (c ∷ [])) e
      (λ is. (is, tt)) (λ is. ((inr is, tt), inl is)) (λ is. is.0) (λ is. ⊎_elim (λ here. here) (λ never. absurd never) is.1)
  only_one Any = sign_moves (ChildYes imports entries c) (ChildNo imports entries c) (ManyYes Any imports entries (c ∷ [])) (ManyNo Any imports entries (c ∷ [])) e
      (λ is. ((inl is, tt), inl is)) (λ is. (is, tt)) (λ is. ⊎_elim (λ here. here) (λ never. absurd never) is.1) (λ is. is.0)

places-back : (cs : List Child) (c : Child) (j : ℕ) → Contains (places_in_maps cs) j ⊎ Contains c.map j → Contains (places_in_maps (cs ++ c ∷ [])) j
places-back [] c j (inl none) = (let less = none.1 in absurd (omega (arith, less)))
places-back [] c j (inr here) = Contains-append_left c.map [] j here
places-back (d ∷ cs) c j (inl there) =
    let rest = places_in_maps (cs ++ c ∷ []) in
    ⊎_elim (λ here. Contains-append_left d.map rest j here) (λ later. Contains-append_right d.map rest j (places-back cs c j (inl later))) (Contains-append_cases d.map (places_in_maps cs) j there)
places-back (d ∷ cs) c j (inr here) = Contains-append_right d.map (places_in_maps (cs ++ c ∷ [])) j (places-back cs c j (inr here))

-- over variables of children alone, one after the other
pub only_first : (c : Child) (made : Content Sign) → HasOnly c.map made → HasOnly (places_in_maps (c ∷ [])) made
only_first c made only v there = Contains-append_left c.map [] v.name (only v there)

pub only_same : (names : List ℕ) (made first : Content Sign) → first.variables ≡ made.variables → HasOnly names made → HasOnly names first
only_same names made first same only v there = only v (subst (λ vs. IsAmong vs v) same there)

pub only_more : (cs : List Child) (c : Child) (first next made : Content Sign) → HasOnly (places_in_maps cs) first → HasOnly c.map next → made.variables ≡ merged first.variables next.variables
    → HasOnly (places_in_maps (cs ++ c ∷ [])) made
only_more cs c first next made only also are v there =
    places-back cs c v.name (⊎_elim (λ left. inl (only v left)) (λ right. inr (also v right)) (merged-either first.variables next.variables v (subst (λ vs. IsAmong vs v) are there)))

-- the variables of one child more
places-more : (cs : List Child) (c : Child) (j : ℕ) → Contains (places_in_maps (cs ++ c ∷ [])) j → Contains (places_in_maps cs ++ c.map) j
places-more [] c j is = ⊎_elim (λ here. here) (λ never. absurd (let none = never.1 in omega (arith, none))) (Contains-append_cases c.map [] j is)
places-more (d ∷ cs) c j is =
    subst (λ list. Contains list j) (sym (append_assoc d.map (places_in_maps cs) c.map))
    (⊎_elim (λ here. Contains-append_left d.map (places_in_maps cs ++ c.map) j here) (λ there. Contains-append_right d.map (places_in_maps cs ++ c.map) j (places-more cs c j there))
    (Contains-append_cases d.map (places_in_maps (cs ++ c ∷ [])) j is))

-- children in front, and one behind them
read_front : (entries : List Entry) (orders : List Order) (cs : List Child) (c : Child) → AreReadAt entries orders (cs ++ c ∷ []) → AreReadAt entries orders cs
read_front entries orders cs c are place child held = are place child (slice_get-append_some cs (c ∷ []) place child held)

read_last : (entries : List Entry) (orders : List Order) (cs : List Child) (c : Child) → AreReadAt entries orders (cs ++ c ∷ []) → IsReadAt entries orders c
read_last entries orders cs c are = are (length cs) c (slice_get-push cs c)

module _ (plan : Plan) (many : Many) where
  abbrev imports : List Import
  imports = imports_for plan

  abbrev entries : List Entry
  entries = entries_of plan

  -- the first child alone
  pub IsManyOf-one : (c : Child) (content : Content Sign) → IsBrought plan c content → IsManyOf plan many (c ∷ []) content
  IsManyOf-one c content is orders are =
      let part = is orders (are 0 c refl) in
      record {
        mode_is = part.mode_is;
        among = part.among;
        covers = λ j o covered there. part.covers j o (⊎_elim (λ here. here) (λ never. absurd (let none = never.1 in omega (arith, none))) (Contains-append_cases c.map [] j covered)) there;
        values = HasValues-to (child_meaning imports entries c) (many_meaning many imports entries (c ∷ [])) content
            (λ word e sign assigned encodes right. only_one imports entries c e many sign right) part.values;
      }

  -- what gives each word the same sign is one too
  pub IsManyOf-same : (cs : List Child) (made few : Content Sign) → few.mode ≡ made.mode → few.variables ≡ made.variables → HaveEqualSigns made few → IsManyOf plan many cs made → IsManyOf plan many cs few
  IsManyOf-same cs made few mode_is variables_are signs before orders are =
      let part = before orders are in
      record {
        mode_is = mode_is ∙ part.mode_is;
        among = λ v there. part.among v (subst (λ vs. IsAmong vs v) variables_are there);
        covers = λ j o covered there. subst (λ vs. IsAmong vs (record { name = j; order = o })) (sym variables_are) (part.covers j o covered there);
        values = HasValues-same (many_meaning many imports entries cs) made few mode_is variables_are signs part.values;
      }

  module _ (cs : List Child) (c : Child) (made next : Content Sign) (made_is : IsAutomaton made) (next_is : IsAutomaton next) (before : IsManyOf plan many cs made) (last : IsBrought plan c next) where
    module _ (orders : List Order) (are : AreReadAt entries orders (cs ++ c ∷ [])) where
      left_part : IsPart plan.mode orders (places_in_maps cs) (meaning_by (ManyYes many imports entries cs) (ManyNo many imports entries cs)) made
      left_part = before orders (read_front entries orders cs c are)

      right_part : IsPart plan.mode orders c.map (child_meaning imports entries c) next
      right_part = last orders (read_last entries orders cs c are)

      pub modes_equal : made.mode ≡ next.mode
      modes_equal = left_part.mode_is ∙ sym right_part.mode_is

      pub orders_equal : HaveEqualOrders made.variables next.variables
      orders_equal =
          equal_orders plan.mode orders (places_in_maps cs) c.map (ManyYes many imports entries cs) (ManyNo many imports entries cs) (ChildYes imports entries c) (ChildNo imports entries c) made next made_is
          next_is left_part right_part

      pub IsPart-more : (result : Content Sign) → result.mode ≡ made.mode → result.variables ≡ merged made.variables next.variables
          → HasValues (combined (op_of many) (own_meaning made) (own_meaning next)) result
          → IsPart plan.mode orders (places_in_maps (cs ++ c ∷ [])) (many_meaning many imports entries (cs ++ c ∷ [])) result
      IsPart-more result mode_is variables_are values =
          let part = IsPart-combined plan.mode orders (places_in_maps cs) c.map (ManyYes many imports entries cs) (ManyNo many imports entries cs) (ChildYes imports entries c) (ChildNo imports entries c) made next
          made_is next_is left_part right_part result mode_is variables_are (op_of many) values in
          record {
            mode_is = part.mode_is;
            among = part.among;
            covers = λ j o covered there. part.covers j o (places-more cs c j covered) there;
            values = HasValues-to
                (meaning_by (YesOf (ManyYes many imports entries cs) (ManyNo many imports entries cs) (ChildYes imports entries c) (ChildNo imports entries c) (op_of many))
                (NoOf (ManyYes many imports entries cs) (ManyNo many imports entries cs) (ChildYes imports entries c) (ChildNo imports entries c) (op_of many)))
                (many_meaning many imports entries (cs ++ c ∷ [])) result (λ word e sign assigned encodes right. one_more imports entries cs c e many sign right) part.values;
          }

-- the first children of a list, and the next one
pub take_next : {X : Type 0} (items : List X) (place : ℕ) (x : X) → slice_get items place ≡ Some x → take (place + 1) items ≡ take place items ++ x ∷ []
take_next items place x held =
    take_more items place x (slice_get_within items place x held) ∙ ap (λ d. take place items ++ d ∷ []) (get_or_from_slice_get items place x x held)

-- the first ones are read where all are
taken_at : (xs : List Child) (count place : ℕ) (x : Child) → slice_get (take count xs) place ≡ Some x → slice_get xs place ≡ Some x
taken_at [] zero place x held = held
taken_at [] (suc count) place x held = held
taken_at (y ∷ xs) zero place x held = absurd (none-some x held)
taken_at (y ∷ xs) (suc count) zero x held = held
taken_at (y ∷ xs) (suc count) (suc place) x held = taken_at xs count place x held

pub read_first : (nodes : List Entry) (orders : List Order) (children : List Child) (count : ℕ) → AreReadAt nodes orders children → AreReadAt nodes orders (take count children)
read_first nodes orders children count are place child held = are place child (taken_at children count place child held)
