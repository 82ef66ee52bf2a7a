-- What is measured of a formula is the same over imports that answer alike.
use Rattle.std.proofs.Common.{◌≡◌, ℕ, ◌+◌, ⊎_elim, inl, inr, List, [], ◌∷◌, Contains, length, slice_get, refl, sym, ap, ap₂, subst, ◌∙◌}
use Rattle.std.specs.List.{range_with_len}
use Rattle.std.proofs.lemmas.List.{length-map}
use Rattle.std.proofs.lemmas.List.FromFn.{length-range_with_len}
use Rattle.ms_build.proofs.PlaceLemmas.{gives_among, length-by_place}
use Rattle.ms_build_source.specs.inner.Asked.{AnswerAlike}
use Rattle.ms_build_source.proofs.AgreeingImports.{IsIn, one_value}
use Rattle.ms_build_steps.specs.Kinds.{IsMeasureOfKind, Kind, itself, widening}
use Rattle.ms_build_steps.proofs.ManyVariables.{among_contains, contains_among}
use Rattle.ms_dag_steps.proofs.JoinedLemmas.{joined_there}
use Rattle.ms_dag_steps.proofs.SubformulaLemmas.{only}
use Rattle.ms_list.specs.declared.word.Word.{Word}
use Rattle.ms_logic.specs.Assignment.{Env, IsAssignment, Variable}
use Rattle.ms_logic.specs.FiniteSet.{numbers_below}
use Rattle.ms_logic.specs.Lists.{Each, IsAmong, without}
use Rattle.ms_logic.specs.Truth.{Answer, Import}
use Rattle.ms_logic.specs.declared.mode.Mode.{Mode}
use Rattle.ms_logic_core.specs.CoreForm.{CoreForm, truth, falsity, basic, negation, conjunction, disjunction, implication, equivalence, restrict, imported, quantified, CoreForms, no_forms, more_forms, CoreRestriction, unrestricted, restricted}
use Rattle.ms_logic_core.specs.Operands.{variable, variables_at}
use Rattle.ms_logic_core.specs.Spread.{variables_of_import}
use Rattle.ms_logic_core.specs.Stands.{Stands}
use Rattle.ms_logic_measures.specs.Budgets.{IsBindingMeasure, IsOwnContent, IsWideningMeasure, pair_variables, variables_inside}
use Rattle.ms_logic_measures.specs.FullContent.{HasPartCount, HasValueOn, IsFullContent}
use Rattle.ms_logic_measures.specs.Steps.{Step, constant, of_one, relation, connective, binding, import_at, import_of_source, root, free_variables, free_variables_among, free_variables_in, joined}
use Rattle.ms_logic_words.specs.Content.{Content, variables_by_place, variables_from}
use Rattle.ms_logic_words.specs.declared.sign.Sign.{Sign}
use Rattle.ms_logic_words.specs.declared.sign.Sign.TheVariants.{Yes, No, Undefined, Outside}
use Rattle.ms_source_steps.proofs.Known.{AreKnownInside, IsKnown, IsKnownStep}
use Rattle.ms_source_steps.proofs.Scopes.{AreApart, free_in_scope, narrow, restriction_in_scope}
use Rattle.ms_source_steps.proofs.Standing.{orders_of, variables_by_orders}

-- each of a list is among it
all_among : (vs : List Variable) (ws : List Variable) → ((v : Variable) → IsAmong vs v → IsAmong ws v) → Each (IsAmong ws) vs
all_among [] ws each = tt
all_among (v ∷ vs) ws each = (each v (inl refl), all_among vs ws (λ u there. each u (inr there)))

-- variables at the numbers from a first one on go by their places
at_numbers : (base : ℕ) (vs : List Variable) (count : ℕ) → count ≡ length vs → variables_at (range_with_len base count) vs ≡ variables_from base (orders_of vs)
at_numbers base vs count same = subst (λ n. variables_at (range_with_len base n) vs ≡ variables_from base (orders_of vs)) (sym same) (by base vs)
  where
    by : (first : ℕ) (ws : List Variable) → variables_at (range_with_len first (length ws)) ws ≡ variables_from first (orders_of ws)
    by first [] = refl
    by first (w ∷ ws) = ap (λ (us : List Variable). variable first w.order ∷ us) (by (first + 1) ws)

module _ (mode : Mode) (first second : List Import)
    (orders : (i : ℕ) → orders_of (variables_of_import (slice_get first i)) ≡ orders_of (variables_of_import (slice_get second i))) (alike : AnswerAlike mode first second) where
  mutual
    free_alike : (f : CoreForm) → free_variables first f ≡ free_variables second f
    free_alike truth = refl
    free_alike falsity = refl
    free_alike (basic b) = refl
    free_alike (negation f) = free_alike f
    free_alike (conjunction fs) = among_alike fs
    free_alike (disjunction fs) = among_alike fs
    free_alike (implication f g) = ap₂ joined (free_alike f) (free_alike g)
    free_alike (equivalence f g) = ap₂ joined (free_alike f) (free_alike g)
    free_alike (restrict f) = free_alike f
    free_alike (imported i xs) = ap (λ vs. joined vs []) (variables_by_orders xs (variables_of_import (slice_get first i)) (variables_of_import (slice_get second i)) (orders i))
    free_alike (quantified q o x d f) = ap₂ (λ vs ws. without x (joined vs ws)) (range_alike d) (free_alike f)

    among_alike : (fs : CoreForms) → free_variables_among first fs ≡ free_variables_among second fs
    among_alike no_forms = refl
    among_alike (more_forms f fs) = ap₂ joined (free_alike f) (among_alike fs)

    range_alike : (d : CoreRestriction) → free_variables_in first d ≡ free_variables_in second d
    range_alike unrestricted = refl
    range_alike (restricted d) = free_alike d

  is_in : (vs : List Variable) (e : Env) → IsAssignment mode vs e → IsIn mode vs e
  is_in vs e assigned = record { universe = assigned.universe; values = λ v among. gives_among vs e assigned.values v among }

  value_alike : (f : CoreForm) (vs : List Variable) → Stands first vs f → (word : Word) (value : Sign) → HasValueOn first mode vs f word value → HasValueOn second mode vs f word value
  value_alike f vs stands word Yes has = (has.0, has.1, has.2, (one_value mode first second alike f vs has.0 stands (is_in vs has.0 has.1)).0.0 has.3)
  value_alike f vs stands word No has = (has.0, has.1, has.2, (one_value mode first second alike f vs has.0 stands (is_in vs has.0 has.1)).1.0 has.3)
  value_alike f vs stands word Undefined has =
      let one = one_value mode first second alike f vs has.0 stands (is_in vs has.0 has.1) in
      (has.0, has.1, has.2, (λ yes. has.3.0 (one.0.1 yes), λ no. has.3.1 (one.1.1 no)))
  value_alike f vs stands word Outside has = has

  -- the full content of a formula over variables in which it stands
  full_standing : (f : CoreForm) (vs : List Variable) (content : Content Sign) → Stands first vs f → IsFullContent first mode vs f content → IsFullContent second mode vs f content
  full_standing f vs content stands full = record {
    covers = λ w there. full.covers w (subst (λ us. Contains us w) (sym (free_alike f)) there);
    canonical = full.canonical;
    same_mode = full.same_mode;
    same_variables = full.same_variables;
    values = λ word over. let found = full.values word over in (found.0, found.1, value_alike f vs stands word found.0 found.2);
  }

  full_alike : (f : CoreForm) (scope vs : List Variable) (content : Content Sign) → AreApart scope → Stands first scope f → ((v : Variable) → IsAmong vs v → IsAmong scope v)
      → IsFullContent first mode vs f content → IsFullContent second mode vs f content
  full_alike f scope vs content apart stands inside full =
      full_standing f vs content (narrow first f scope vs apart stands inside (λ v there. contains_among vs v (full.covers v there))) full

  own_alike : (f : CoreForm) (content : Content Sign) → IsKnown first f → IsOwnContent first mode f content → IsOwnContent second mode f content
  own_alike f content known full =
      subst (λ vs. IsFullContent second mode vs f content) (free_alike f)
      (full_alike f known.0 (free_variables first f) content known.1 known.2 (λ v among. free_in_scope first f known.0 known.2 v (among_contains (free_variables first f) v among)) full)

  count_alike : (f : CoreForm) (n : ℕ) → IsKnown first f → HasPartCount first mode (free_variables first f) f n → HasPartCount second mode (free_variables second f) f n
  count_alike f n known has = (has.0, own_alike f has.0 known has.1, has.2)

  widening_alike : (f : CoreForm) (vs : List Variable) (m r : ℕ) → IsKnown first f → IsWideningMeasure first mode f vs m r → IsWideningMeasure second mode f vs m r
  widening_alike f vs m r known measure = record {
    content = measure.content;
    encodings = measure.encodings;
    of_formula = own_alike f measure.content known measure.of_formula;
    of_true = full_standing truth vs measure.encodings tt measure.of_true;
    made = measure.made;
    read = measure.read;
  }

  -- inside a quantifier
  module _ (x : Variable) (d : CoreRestriction) (f : CoreForm) (known : AreKnownInside first x d f) where
    inside_alike : variables_inside first mode x d f ≡ variables_inside second mode x d f
    inside_alike = ap₂ (λ vs ws. joined (x ∷ []) (joined vs ws)) (range_alike d) (free_alike f)

    inside_scope : (v : Variable) → IsAmong (variables_inside first mode x d f) v → IsAmong (x ∷ known.0) v
    inside_scope v among =
        let range = free_variables_in first d in
        let body = free_variables first f in
        ⊎_elim (λ bound. inl (sym (only v x bound)))
        (λ other. ⊎_elim (λ left. restriction_in_scope first d (x ∷ known.0) known.2 v left) (λ right. free_in_scope first f (x ∷ known.0) known.3 v right) (joined_there range body v other))
        (joined_there (x ∷ []) (joined range body) v (among_contains (variables_inside first mode x d f) v among))

    body_alike : (content : Content Sign) → IsFullContent first mode (variables_inside first mode x d f) f content → IsFullContent second mode (variables_inside second mode x d f) f content
    body_alike content full =
        subst (λ vs. IsFullContent second mode vs f content) inside_alike
        (full_alike f (x ∷ known.0) (variables_inside first mode x d f) content known.1 known.3 inside_scope full)

  binding_alike : (x : Variable) (d : CoreRestriction) (f : CoreForm) (m r : ℕ) → AreKnownInside first x d f → IsBindingMeasure first mode x d f m r → IsBindingMeasure second mode x d f m r
  binding_alike x unrestricted f m r known measure = (measure.0, body_alike x unrestricted f known measure.0 measure.1, measure.2)
  binding_alike x (restricted d) f m r known measure =
      (measure.0, measure.1, body_alike x (restricted d) f known measure.0 measure.2, own_alike d measure.1 (x ∷ known.0, known.1, known.2) measure.3, measure.4)

  -- an import at its own pairs
  module _ (i : ℕ) where
    abbrev vars : List Variable
    vars = variables_of_import (slice_get first i)

    pairs_alike : pair_variables first i ≡ pair_variables second i
    pairs_alike = ap variables_by_place (orders i)

    as_many : length (pair_variables first i) ≡ length vars
    as_many = length-by_place 0 (orders_of vars) ∙ length-map vars (λ (v : Variable). v.order)

    import_stands : Stands first (pair_variables first i) (imported i (numbers_below (length (pair_variables first i))))
    import_stands = (
      length-range_with_len 0 (length (pair_variables first i)) ∙ as_many,
      subst (Each (IsAmong (pair_variables first i))) (sym (at_numbers 0 vars (length (pair_variables first i)) as_many)) (all_among (pair_variables first i) (pair_variables first i) (λ v there. there)),
    )

    import_alike : (content : Content Sign) → IsFullContent first mode (pair_variables first i) (imported i (numbers_below (length (pair_variables first i)))) content
        → IsFullContent second mode (pair_variables second i) (imported i (numbers_below (length (pair_variables second i)))) content
    import_alike content full =
        subst (λ vs. IsFullContent second mode vs (imported i (numbers_below (length vs))) content) pairs_alike
        (full_standing (imported i (numbers_below (length (pair_variables first i)))) (pair_variables first i) content import_stands full)

  -- the measures of a step that is known
  pub kind_alike : (files : List (Content Answer)) (step : Step) → IsKnownStep first step → (kind : Kind) (m r : ℕ) → IsMeasureOfKind first mode files step kind m r → IsMeasureOfKind second mode files step kind m r
  kind_alike files (constant f) known itself m r measure = (count_alike f m known measure.0, measure.1)
  kind_alike files (constant f) known widening m r measure = absurd measure
  kind_alike files (of_one f g) known itself m r measure = (count_alike f m known.0 measure.0, count_alike g r known.1 measure.1)
  kind_alike files (of_one f g) known widening m r measure = absurd measure
  kind_alike files (relation b) known itself m r measure = measure
  kind_alike files (relation b) known widening m r measure = absurd measure
  kind_alike files (connective f g) known itself m r measure = (measure.0, measure.1, own_alike f measure.0 (known.0, known.1, known.2) measure.2, own_alike g measure.1 (known.0, known.1, known.3) measure.3, measure.4)
  kind_alike files (connective f g) known widening m r measure = absurd measure
  kind_alike files (binding x d f) known itself m r measure = binding_alike x d f m r known measure
  kind_alike files (binding x d f) known widening m r measure =
      subst (λ vs. IsWideningMeasure second mode f vs m r) (inside_alike x d f known) (widening_alike f (variables_inside first mode x d f) m r (x ∷ known.0, known.1, known.3) measure)
  kind_alike files (import_at i xs) known itself m r measure = (measure.0, import_alike i measure.0 measure.1, measure.2)
  kind_alike files (import_at i xs) known widening m r measure = absurd measure
  kind_alike files (import_of_source i) known kind m r measure = absurd known
  kind_alike files (root whole) known itself m r measure = absurd measure
  kind_alike files (root whole) known widening m r measure = widening_alike whole.formula whole.variables m r (whole.variables, known.0, known.1) measure
