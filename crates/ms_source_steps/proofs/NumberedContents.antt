-- The full content of a formula is that of the formula with other numbers, over variables with these numbers.
use Rattle.std.proofs.Common.{◌≡◌, List, [], ◌∷◌, Contains, length, refl, sym, ap, subst, ◌∙◌, arith}
use Rattle.std.proofs.lemmas.List.{length-map}
use Rattle.ms_build_parts.proofs.Matching.{over_same}
use Rattle.ms_dfa.proofs.OrdersLemmas.{has_value-same, orders_of}
use Rattle.ms_rename.proofs.LeastLemmas.{differ_same, over, reached_same, sign_same}
use Rattle.ms_build_steps.proofs.SameValues.{assigned_same, encodes_same}
use Rattle.ms_diagram.proofs.RootLemmas.{Contains-from_mapped, Contains-mapped}
use Rattle.ms_list.specs.declared.word.Word.{Word}
use Rattle.ms_logic.specs.Assignment.{Variable}
use Rattle.ms_logic.specs.Lists.{Each, IsAmong}
use Rattle.ms_logic.specs.Truth.{Import}
use Rattle.ms_logic.specs.declared.mode.Mode.{Mode}
use Rattle.ms_logic.specs.declared.mode.Order.{Order}
use Rattle.ms_logic_core.specs.CoreForm.{CoreForm}
use Rattle.ms_logic_core.specs.Stands.{Stands}
use Rattle.ms_logic_measures.specs.FullContent.{HasValueOn, IsFullContent}
use Rattle.ms_logic_measures.specs.Steps.{free_variables}
use Rattle.ms_logic_words.specs.Canonical.{IsCanonical}
use Rattle.ms_logic_words.specs.Content.{Content}
use Rattle.ms_logic_words.specs.declared.sign.Sign.{Sign}
use Rattle.ms_logic_words.specs.declared.sign.Sign.TheVariants.{Yes, No, Undefined, Outside}
use Rattle.ms_lower.specs.Numbering.{Numbering, renumbered, renumbered_variable}
use Rattle.ms_source_steps.proofs.NumberedValues.{given_by, read_moved, same_given, same_read, value_moved}
use Rattle.ms_source_steps.proofs.Numbers.{KnowsImports, NumbersRise, free_moved, moved_all}
use Rattle.ms_source_steps.proofs.Scopes.{AreApart}

-- a canonical content is one over other variables of the same orders
canonical_over : (content : Content Sign) (mode : Mode) (us : List Variable) → orders_of us ≡ orders_of content.variables → IsCanonical content → IsCanonical (over mode us content)
canonical_over content mode us same canonical = record {
  rules = record {
    some_state = canonical.rules.some_state;
    ordered = canonical.rules.ordered;
    start_named = canonical.rules.start_named;
    next_named = canonical.rules.next_named;
    low_named = canonical.rules.low_named;
    high_named = canonical.rules.high_named;
    variables = λ place node held.
        let below = canonical.rules.variables place node held in
        let one = length-map us (λ (v : Variable). v.order) in
        let other = length-map content.variables (λ (v : Variable). v.order) in
        let long = ap length same in
        omega (arith, below, one, other, long);
    start_tests = λ place tested. has_value-same content.variables us (sym same) _ place (canonical.rules.start_tests place tested);
    next_tests = λ i state held place tested. has_value-same content.variables us (sym same) _ place (canonical.rules.next_tests i state held place tested);
  };
  states_reached = reached_same content mode us same canonical.states_reached;
  states_differ = differ_same content mode us same canonical.states_differ;
  reduced = canonical.reduced;
  nodes_reached = canonical.nodes_reached;
  states_numbered = canonical.states_numbered;
  nodes_numbered = canonical.nodes_numbered;
}

module _ (n : Numbering) where
  pub moved_orders : (vs : List Variable) → orders_of (moved_all n vs) ≡ orders_of vs
  moved_orders [] = refl
  moved_orders (v ∷ vs) = ap (λ (os : List Order). v.order ∷ os) (moved_orders vs)

  -- the same content over variables with the new numbers
  abbrev pub content_moved : {S : Type 0} → Content S → Content S
  content_moved content = over content.mode (moved_all n content.variables) content

module _ (n : Numbering) (rise : NumbersRise n) (imports : List Import) (known : KnowsImports imports n) (mode : Mode) (f : CoreForm) (scope : List Variable) (apart : AreApart scope) (stands : Stands imports scope f)
    (vs : List Variable) (inside : Each (IsAmong scope) vs) where
  value_on : (word : Word) (value : Sign) → HasValueOn imports mode vs f word value → HasValueOn imports mode (moved_all n vs) (renumbered n f) word value
  value_on word Yes has =
      let e = has.0 in
      let c = given_by n scope e in
      let same = same_given n rise scope apart e vs inside in
      (c, assigned_same mode (moved_all n vs) vs c e same refl has.1, encodes_same (moved_all n vs) vs c e word same refl has.2, (value_moved n rise imports known f scope apart stands e).0.0 has.3)
  value_on word No has =
      let e = has.0 in
      let c = given_by n scope e in
      let same = same_given n rise scope apart e vs inside in
      (c, assigned_same mode (moved_all n vs) vs c e same refl has.1, encodes_same (moved_all n vs) vs c e word same refl has.2, (value_moved n rise imports known f scope apart stands e).1.0 has.3)
  value_on word Undefined has =
      let e = has.0 in
      let c = given_by n scope e in
      let same = same_given n rise scope apart e vs inside in
      let one = value_moved n rise imports known f scope apart stands e in
      (c, assigned_same mode (moved_all n vs) vs c e same refl has.1, encodes_same (moved_all n vs) vs c e word same refl has.2, (λ yes. has.3.0 (one.0.1 yes), λ no. has.3.1 (one.1.1 no)))
  value_on word Outside has = λ encoding.
      let c = encoding.0 in
      let same = same_read n c vs in
      has (read_moved n c, assigned_same mode vs (moved_all n vs) (read_moved n c) c same refl encoding.1, encodes_same vs (moved_all n vs) (read_moved n c) c word same refl encoding.2)

  pub full_moved : (content : Content Sign) → IsFullContent imports mode vs f content → IsFullContent imports mode (moved_all n vs) (renumbered n f) (content_moved n content)
  full_moved content full = record {
    covers = λ w there.
        let found = Contains-from_mapped (renumbered_variable n) (free_variables imports f) w (subst (λ us. Contains us w) (free_moved n rise imports known f scope apart stands) there) in
        subst (Contains (moved_all n vs)) found.2 (Contains-mapped (renumbered_variable n) vs found.0 (full.covers found.0 found.1));
    canonical = canonical_over content content.mode (moved_all n content.variables) (moved_orders n content.variables) full.canonical;
    same_mode = full.same_mode;
    same_variables = ap (moved_all n) full.same_variables;
    values = λ word is_over.
        let found = full.values word (over_same (moved_all n vs) vs word (sym (moved_orders n vs)) is_over) in
        (found.0, sign_same content content.mode (moved_all n content.variables) (moved_orders n content.variables) word ∙ found.1, value_on word found.0 found.2);
  }
