-- A step with other numbers has the measures of the step.
use Rattle.std.proofs.Common.{◌≡◌, ℕ, inl, refl, List, [], ◌∷◌, ◌++◌, map, slice_get, sym, ap, ap₂, subst, ◌∙◌}
use Rattle.std.specs.List.{zip}
use Rattle.std.proofs.lemmas.List.{map_push}
use Rattle.ms_build_steps.specs.Kinds.{IsMeasureOfKind, Kind, itself, widening}
use Rattle.ms_build_steps.proofs.Imports.{orders_from}
use Rattle.ms_build_steps.proofs.ManyVariables.{contains_among}
use Rattle.ms_dfa.proofs.OrdersLemmas.{orders_of}
use Rattle.ms_dag_steps.proofs.JoinedLemmas.{without_there}
use Rattle.ms_logic.specs.Assignment.{Variable}
use Rattle.ms_logic.specs.Lists.{Each, IsAmong, without}
use Rattle.ms_logic.specs.Truth.{Answer, Import}
use Rattle.ms_logic.specs.declared.mode.Mode.{Mode}
use Rattle.ms_logic_core.specs.CoreForm.{CoreForm, truth, basic, CoreRestriction, unrestricted, restricted}
use Rattle.ms_logic_core.specs.Operands.{at_places}
use Rattle.ms_logic_core.specs.Spread.{variables_of_import}
use Rattle.ms_logic_core.specs.Stands.{Stands}
use Rattle.ms_logic_core.specs.declared.core_formula.Basic.{Basic}
use Rattle.ms_logic_measures.specs.Budgets.{IsBindingMeasure, IsOwnContent, IsWideningMeasure, pair_variables, variables_inside}
use Rattle.ms_logic_measures.specs.CallMeasures.{IsBasicMeasure, IsCombineMeasure, IsProjectMeasure, IsRenameMeasure, LeadToPairs, LeadToSameSet, LeadsToReferences, LeadsWhere, LeaveSameOfBoth, in_order_of, no_restriction, others, others_and_bound, place_variables, start_with}
use Rattle.ms_logic_measures.specs.FullContent.{HasPartCount, IsFullContent}
use Rattle.ms_logic_measures.specs.Starts.{IsStartOver, Start}
use Rattle.ms_logic_measures.specs.Steps.{Step, constant, of_one, relation, connective, binding, import_at, import_of_source, root, free_variables, free_variables_in, joined}
use Rattle.ms_logic_words.specs.Content.{Content}
use Rattle.ms_logic_words.specs.declared.sign.Sign.{Sign}
use Rattle.ms_lower.specs.Numbering.{Numbering, renumbered, renumbered_basic, renumbered_in, renumbered_variable}
use Rattle.ms_source_steps.proofs.InOrder.{in_order_moved, places_moved}
use Rattle.ms_source_steps.proofs.Known.{AreKnown, AreKnownInside, IsKnown, IsKnownStep}
use Rattle.ms_source_steps.proofs.NumberedContents.{content_moved, full_moved}
use Rattle.ms_source_steps.proofs.NumberedStarts.{one_number, pairs_moved, parts_moved, same_from, same_to, start_from, start_to}
use Rattle.ms_source_steps.proofs.NumberedSteps.{moved_step, numbers_at}
use Rattle.ms_source_steps.proofs.Numbers.{AreInside, KnowsImports, NumbersRise, free_moved, joined_inside, joined_moved, moved_all, moved_places, range_moved, without_moved}
use Rattle.ms_source_steps.proofs.Scopes.{AreApart, contained_each, each_contained, free_in_scope, restriction_in_scope}

-- a quantifier over a body and a domain
module _ (n : Numbering) (rise : NumbersRise n) (scope : List Variable) (apart : AreApart scope) {D : Type 0} (body : Content Sign) (domain : Content D)
    (body_in : Each (IsAmong scope) body.variables) (domain_in : Each (IsAmong scope) domain.variables) (x : Variable) (x_in : IsAmong scope x) where
  abbrev rest : List Variable
  rest = without x.name body.variables

  abbrev all : List Variable
  all = rest ++ x ∷ []

  abbrev body_moved : Content Sign
  body_moved = content_moved n body

  abbrev domain_moved : Content D
  domain_moved = content_moved n domain

  abbrev x_moved : Variable
  x_moved = renumbered_variable n x

  body_inside : AreInside scope body.variables
  body_inside = contained_each (IsAmong scope) body.variables body_in

  rest_in : Each (IsAmong scope) rest
  rest_in = each_contained (IsAmong scope) rest (λ v there. body_inside v (without_there x.name body.variables v there).0)

  all_in : Each (IsAmong scope) all
  all_in = each_push rest rest_in
    where
      each_push : (vs : List Variable) → Each (IsAmong scope) vs → Each (IsAmong scope) (vs ++ x ∷ [])
      each_push [] each = (x_in, tt)
      each_push (v ∷ vs) each = (each.0, each_push vs each.1)

  rest_moved : others body_moved domain_moved x_moved ≡ moved_all n rest
  rest_moved = without_moved n rise scope apart x body.variables x_in body_inside

  all_moved : others_and_bound body_moved domain_moved x_moved ≡ moved_all n all
  all_moved = ap (λ (vs : List Variable). vs ++ x_moved ∷ []) rest_moved ∙ sym (map_push (renumbered_variable n) rest x)

  both_to : (one other : Start) → LeaveSameOfBoth body domain all one other → LeaveSameOfBoth body_moved domain_moved (others_and_bound body_moved domain_moved x_moved) one other
  both_to one other same =
      subst (λ vs. LeaveSameOfBoth body_moved domain_moved vs one other) (sym all_moved)
      (same_to n rise scope apart body body_in all all_in one other same.0, same_to n rise scope apart domain domain_in all all_in one other same.1)

  both_from : (one other : Start) → LeaveSameOfBoth body_moved domain_moved (others_and_bound body_moved domain_moved x_moved) one other → LeaveSameOfBoth body domain all one other
  both_from one other same =
      let moved = subst (λ vs. LeaveSameOfBoth body_moved domain_moved vs one other) all_moved same in
      (same_from n rise scope apart body body_in all all_in one other moved.0, same_from n rise scope apart domain domain_in all all_in one other moved.1)

  leads_to : (one other : Start) → LeadsWhere body domain x one other → LeadsWhere body_moved domain_moved x_moved one other
  leads_to one other leads bits long = let found = leads bits long in (found.0, found.1, both_to (start_with x.order bits one) (start_with x.order found.0 other) found.2)

  leads_from : (one other : Start) → LeadsWhere body_moved domain_moved x_moved one other → LeadsWhere body domain x one other
  leads_from one other leads bits long = let found = leads bits long in (found.0, found.1, both_from (start_with x.order bits one) (start_with x.order found.0 other) found.2)

  pub project_moved : (m r : ℕ) → IsProjectMeasure body domain x m r → IsProjectMeasure body_moved domain_moved x_moved m r
  project_moved m r measure = record {
    made = one_number (LeadToSameSet body domain x) (LeadToSameSet body_moved domain_moved x_moved) (IsStartOver rest) (IsStartOver (others body_moved domain_moved x_moved))
        (λ one other same. (leads_to one other same.0, leads_to other one same.1)) (λ one other same. (leads_from one other same.0, leads_from other one same.1))
        (λ start is. subst (λ vs. IsStartOver vs start) (sym rest_moved) (start_to n rise scope apart rest start is))
        (λ start is. start_from n rise scope apart rest start (subst (λ vs. IsStartOver vs start) rest_moved is)) m measure.made;
    pairs = measure.pairs;
    parts = measure.parts;
    pairs_read = pairs_moved n rise scope apart body domain body_in domain_in body.variables body_in measure.pairs measure.pairs_read;
    parts_read = parts_moved n rise scope apart body domain body_in domain_in measure.parts measure.parts_read;
    read = measure.read;
  }

module _ (n : Numbering) (rise : NumbersRise n) (imports : List Import) (known : KnowsImports imports n) (mode : Mode) where
  -- the full content of a formula over its own variables
  module _ (f : CoreForm) (scope : List Variable) (apart : AreApart scope) (stands : Stands imports scope f) where
    free_in : Each (IsAmong scope) (free_variables imports f)
    free_in = each_contained (IsAmong scope) (free_variables imports f) (free_in_scope imports f scope stands)

    own_in : (content : Content Sign) → IsOwnContent imports mode f content → Each (IsAmong scope) content.variables
    own_in content full = subst (Each (IsAmong scope)) (sym full.same_variables) free_in

    own_moved : (content : Content Sign) → IsOwnContent imports mode f content → IsOwnContent imports mode (renumbered n f) (content_moved n content)
    own_moved content full =
        subst (λ vs. IsFullContent imports mode vs (renumbered n f) (content_moved n content)) (sym (free_moved n rise imports known f scope apart stands))
        (full_moved n rise imports known mode f scope apart stands (free_variables imports f) free_in content full)

    count_moved : (m : ℕ) → HasPartCount imports mode (free_variables imports f) f m → HasPartCount imports mode (free_variables imports (renumbered n f)) (renumbered n f) m
    count_moved m has = (content_moved n has.0, own_moved has.0 has.1, has.2)

    widening_moved : (vs : List Variable) → Each (IsAmong scope) vs → (m r : ℕ) → IsWideningMeasure imports mode f vs m r → IsWideningMeasure imports mode (renumbered n f) (moved_all n vs) m r
    widening_moved vs inside m r measure = record {
      content = content_moved n measure.content;
      encodings = content_moved n measure.encodings;
      of_formula = own_moved measure.content measure.of_formula;
      of_true = full_moved n rise imports known mode truth scope apart tt vs inside measure.encodings measure.of_true;
      made = pairs_moved n rise scope apart measure.content measure.encodings (own_in measure.content measure.of_formula) (subst (Each (IsAmong scope)) (sym measure.of_true.same_variables) inside) vs inside m measure.made;
      read = measure.read;
    }

  connective_moved : (f g : CoreForm) (m r : ℕ) → AreKnown imports f g → (left right : Content Sign) → IsOwnContent imports mode f left → IsOwnContent imports mode g right → IsCombineMeasure left right m r
      → IsCombineMeasure (content_moved n left) (content_moved n right) m r
  connective_moved f g m r are left right first second measure =
      let scope = are.0 in
      let apart = are.1 in
      let left_in = own_in f scope apart are.2 left first in
      let right_in = own_in g scope apart are.3 right second in
      let left_inside = contained_each (IsAmong scope) left.variables left_in in
      let right_inside = contained_each (IsAmong scope) right.variables right_in in
      let both = joined left.variables right.variables in
      let both_in = each_contained (IsAmong scope) both (joined_inside n rise scope apart left.variables right.variables left_inside right_inside) in
      record {
        made = subst (λ vs. LeadToPairs (content_moved n left) (content_moved n right) vs m) (sym (joined_moved n rise scope apart left.variables right.variables left_inside right_inside))
            (pairs_moved n rise scope apart left right left_in right_in both both_in m measure.made);
        read = parts_moved n rise scope apart left right left_in right_in r measure.read;
      }

  -- a quantifier
  module _ (x : Variable) (d : CoreRestriction) (f : CoreForm) (are : AreKnownInside imports x d f) where
    abbrev wide : List Variable
    wide = x ∷ are.0

    abbrev range : List Variable
    range = free_variables_in imports d

    abbrev free : List Variable
    free = free_variables imports f

    abbrev inside : List Variable
    inside = variables_inside imports mode x d f

    x_inside : AreInside wide (x ∷ [])
    x_inside = contained_each (IsAmong wide) (x ∷ []) (inl refl, tt)

    range_inside : AreInside wide range
    range_inside = restriction_in_scope imports d wide are.2

    free_inside : AreInside wide free
    free_inside = free_in_scope imports f wide are.3

    both_inside : AreInside wide (joined range free)
    both_inside = joined_inside n rise wide are.1 range free range_inside free_inside

    inside_in : Each (IsAmong wide) inside
    inside_in = each_contained (IsAmong wide) inside (joined_inside n rise wide are.1 (x ∷ []) (joined range free) x_inside both_inside)

    inside_moved : variables_inside imports mode (renumbered_variable n x) (renumbered_in n d) (renumbered n f) ≡ moved_all n inside
    inside_moved =
        ap₂ (λ vs ws. joined (renumbered_variable n x ∷ []) (joined vs ws)) (range_moved n rise imports known d wide are.1 are.2) (free_moved n rise imports known f wide are.1 are.3)
        ∙ ap (joined (renumbered_variable n x ∷ [])) (joined_moved n rise wide are.1 range free range_inside free_inside)
        ∙ joined_moved n rise wide are.1 (x ∷ []) (joined range free) x_inside both_inside

    body_full : (content : Content Sign) → IsFullContent imports mode inside f content
        → IsFullContent imports mode (variables_inside imports mode (renumbered_variable n x) (renumbered_in n d) (renumbered n f)) (renumbered n f) (content_moved n content)
    body_full content full =
        subst (λ vs. IsFullContent imports mode vs (renumbered n f) (content_moved n content)) (sym inside_moved)
        (full_moved n rise imports known mode f wide are.1 are.3 inside inside_in content full)

    body_in : (content : Content Sign) → IsFullContent imports mode inside f content → Each (IsAmong wide) content.variables
    body_in content full = subst (Each (IsAmong wide)) (sym full.same_variables) inside_in

    body_widened : (m r : ℕ) → IsWideningMeasure imports mode f inside m r
        → IsWideningMeasure imports mode (renumbered n f) (variables_inside imports mode (renumbered_variable n x) (renumbered_in n d) (renumbered n f)) m r
    body_widened m r measure =
        subst (λ vs. IsWideningMeasure imports mode (renumbered n f) vs m r) (sym inside_moved) (widening_moved f wide are.1 are.3 inside inside_in m r measure)

  binding_moved : (x : Variable) (d : CoreRestriction) (f : CoreForm) (m r : ℕ) → AreKnownInside imports x d f → IsBindingMeasure imports mode x d f m r
      → IsBindingMeasure imports mode (renumbered_variable n x) (renumbered_in n d) (renumbered n f) m r
  binding_moved x unrestricted f m r are measure = (
    content_moved n measure.0,
    body_full x unrestricted f are measure.0 measure.1,
    project_moved n rise (x ∷ are.0) are.1 measure.0 (no_restriction mode) (body_in x unrestricted f are measure.0 measure.1) tt x (inl refl) m r measure.2,
  )
  binding_moved x (restricted d) f m r are measure = (
    content_moved n measure.0,
    content_moved n measure.1,
    body_full x (restricted d) f are measure.0 measure.2,
    own_moved d (x ∷ are.0) are.1 are.2 measure.1 measure.3,
    project_moved n rise (x ∷ are.0) are.1 measure.0 measure.1 (body_in x (restricted d) f are measure.0 measure.2) (own_in d (x ∷ are.0) are.1 are.2 measure.1 measure.3) x (inl refl) m r measure.4,
  )

  relation_moved : (b : Basic) (m r : ℕ) → IsKnown imports (basic b) → IsBasicMeasure mode b m r → IsBasicMeasure mode (renumbered_basic n b) m r
  relation_moved b m r is measure = record {
    made = subst (λ c. HasPartCount [] mode (place_variables (renumbered_basic n b)) (basic c) m) (moved_places n b)
        (subst (λ vs. HasPartCount [] mode vs (basic (at_places b)) m) (sym (places_moved n rise is.0 is.1 b is.2)) measure.made);
    read = measure.read;
  }

  import_moved : (i : ℕ) (xs : List ℕ) (m r : ℕ) (content : Content Sign) → content.variables ≡ pair_variables imports i → (scope : List Variable) → AreApart scope
      → Each (IsAmong scope) (map (λ p. record { name = p.0; order = p.1.order }) (zip xs (variables_of_import (slice_get imports i)))) → IsRenameMeasure content xs m r → IsRenameMeasure content (numbers_at n i xs) m r
  import_moved i xs m r content variables scope apart each measure =
      let own = variables_of_import (slice_get imports i) in
      let orders : orders_of content.variables ≡ orders_of own = ap (λ (vs : List Variable). orders_of vs) variables ∙ orders_from 0 (orders_of own) in
      let same : in_order_of (numbers_at n i xs) content.variables ≡ in_order_of xs content.variables
      = ap (λ us. in_order_of (map (λ p. n.number p.1.order p.0) (zip xs us)) content.variables) (known i) ∙ in_order_moved n rise scope apart xs own content.variables orders each in
      record {
        made = subst (λ vs. LeadsToReferences content vs m) (sym same) measure.made;
        read = measure.read;
      }

  -- the measures of a step that is known
  pub kind_moved : (files : List (Content Answer)) (step : Step) → IsKnownStep imports step → (kind : Kind) (m r : ℕ) → IsMeasureOfKind imports mode files step kind m r → IsMeasureOfKind imports mode files (moved_step n step) kind m r
  kind_moved files (constant f) is itself m r measure = (count_moved f is.0 is.1 is.2 m measure.0, measure.1)
  kind_moved files (constant f) is widening m r measure = absurd measure
  kind_moved files (of_one f g) is itself m r measure = (count_moved f is.0.0 is.0.1 is.0.2 m measure.0, count_moved g is.1.0 is.1.1 is.1.2 r measure.1)
  kind_moved files (of_one f g) is widening m r measure = absurd measure
  kind_moved files (relation b) is itself m r measure = relation_moved b m r is measure
  kind_moved files (relation b) is widening m r measure = absurd measure
  kind_moved files (connective f g) is itself m r measure = (
    content_moved n measure.0,
    content_moved n measure.1,
    own_moved f is.0 is.1 is.2 measure.0 measure.2,
    own_moved g is.0 is.1 is.3 measure.1 measure.3,
    connective_moved f g m r is measure.0 measure.1 measure.2 measure.3 measure.4,
  )
  kind_moved files (connective f g) is widening m r measure = absurd measure
  kind_moved files (binding x d f) is itself m r measure = binding_moved x d f m r is measure
  kind_moved files (binding x d f) is widening m r measure = body_widened x d f is m r measure
  kind_moved files (import_at i xs) is itself m r measure = (measure.0, measure.1, import_moved i xs m r measure.0 measure.1.same_variables is.0 is.1 is.2.1 measure.2)
  kind_moved files (import_at i xs) is widening m r measure = absurd measure
  kind_moved files (import_of_source i) is kind m r measure = absurd is
  kind_moved files (root whole) is itself m r measure = absurd measure
  kind_moved files (root whole) is widening m r measure = widening_moved whole.formula whole.variables is.0 is.1 whole.variables (all_among whole.variables) m r measure
    where
      all_among : (vs : List Variable) → Each (IsAmong vs) vs
      all_among vs = each_contained (IsAmong vs) vs (λ v there. contains_among vs v there)
