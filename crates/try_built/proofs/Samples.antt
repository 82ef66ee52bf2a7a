-- The conjunction of three inclusions is a source's root, and what its graph gives.
use Rattle.std.proofs.Common.{◌≡◌, inl, inr, ⊎_elim, zero, suc, ◌<◌, ◌≤◌, List, [], ◌∷◌, length, All, refl, sym, ap, subst, ◌∙◌, arith}
use Rattle.std.proofs.lemmas.List.Elements.{All-cons, All-nil}
use Rattle.std.proofs.lemmas.Option.{none-some, same_Some}
use Rattle.std.specs.List.{AllZip}
use Rattle.std.specs.List.Sorted.{IsStrictlyIncreasing}
use Rattle.ms_logic.specs.Assignment.{Variable}
use Rattle.ms_logic.specs.Lists.{Each, IsAmong}
use Rattle.ms_logic.specs.declared.mode.Mode.TheVariants.{Ws1s}
use Rattle.ms_logic.specs.declared.mode.Order.TheVariants.{Two}
use Rattle.ms_logic_core.specs.CoreForm.{CoreForm, basic, conjunction, core_form_of, more_forms, no_forms}
use Rattle.ms_logic_core.specs.Stands.{Stands}
use Rattle.ms_logic_core.proofs.CoreViews.{core_form_of-And, core_form_of-Basic}
use Rattle.ms_logic_core.specs.declared.core_formula.Core.TheVariants as core
use Rattle.ms_logic_core.specs.Calls.{filled}
use Rattle.ms_logic_core.specs.Operands.{variables_of_basic}
use Rattle.ms_logic_core.specs.declared.core_formula.Basic.{Basic}
use Rattle.ms_logic_core.specs.declared.core_formula.Basic.TheVariants.{Sub}
use Rattle.ms_logic_core.specs.declared.core_formula.Lowered.{Lowered}
use Rattle.ms_logic_core.specs.declared.core_formula.Root.{Root}
use Rattle.ms_dag.specs.Dag.{AreNodes}
use Rattle.ms_dag.specs.Imports.{ImportsBelow, RootsImportBelow}
use Rattle.ms_dag.specs.Laws.{HasOrder, HaveTheirOrders}
use Rattle.ms_dag.specs.Lowered.{IsLoweredRoot}
use Rattle.ms_dag.specs.Share.{IsDagOf, IsRootOf}
use Rattle.ms_dag.specs.declared.dag.Dag.{Dag}
use Rattle.ms_dag.specs.declared.dag.SharedRoot.{SharedRoot}
use Rattle.ms_dag.proofs.ImportLemmas.{nodes_import_as_roots_do}
use Rattle.ms_build.proofs.RootLemmas.{roots_read}
use Rattle.ms_build.specs.Built.{AreImportsOf}
use Rattle.ms_build.specs.Roots.{AreRootsRead}
use Rattle.try_built.specs.Inclusions.{IsInclusion, IsSample, IsSampleGraph, true_calls, orders_of_sets, root_of, sets, three}

two_rise : IsStrictlyIncreasing (0 ∷ 1 ∷ [])
two_rise zero less = omega (arith)
two_rise (suc k) less = absurd (omega (arith, less))

abbrev zero_set : Variable
zero_set = record { name = 0; order = Two }

abbrev one_set : Variable
one_set = record { name = 1; order = Two }

first : IsAmong sets zero_set
first = inl refl

second : IsAmong sets one_set
second = inr (inl refl)

both : (v w : Variable) → HasOrder orders_of_sets v → HasOrder orders_of_sets w → All (HasOrder orders_of_sets) (v ∷ w ∷ [])
both v w of_v of_w = All-cons (HasOrder orders_of_sets) v (w ∷ []) of_v (All-cons (HasOrder orders_of_sets) w [] of_w (All-nil (HasOrder orders_of_sets)))

abbrev formula : CoreForm → CoreForm → CoreForm
formula inclusion third = conjunction (more_forms inclusion (more_forms inclusion (more_forms third no_forms)))

is_formula : (third : Basic) → core_form_of (root_of third).core ≡ formula (basic (Sub 0 1)) (basic third)
is_formula third =
    core_form_of-And (three third)
    ∙ (ap (λ f. formula f (core_form_of (core.Basic third))) (core_form_of-Basic (Sub 0 1)) ∙ ap (formula (basic (Sub 0 1))) (core_form_of-Basic third))

is_root : (third : Basic) → Each (IsAmong sets) (variables_of_basic third) → All (HasOrder orders_of_sets) (variables_of_basic third) → IsLoweredRoot [] true_calls orders_of_sets (root_of third)
is_root third among ordered = record {
  rising = two_rise;
  own = sets;
  variables = refl;
  listed = (refl, (refl, tt));
  stands = subst (λ f. Stands [] sets (filled true_calls f)) (sym (is_formula third)) ((first, (second, tt)), ((first, (second, tt)), (among, tt)));
  orders_of_all =
      let sets_have = both zero_set one_set refl refl in
      subst (λ f. HaveTheirOrders [] orders_of_sets (filled true_calls f)) (sym (is_formula third)) (sets_have, (sets_have, (ordered, tt)));
}

is_root_of : (third : Basic) → IsInclusion third → IsLoweredRoot [] true_calls orders_of_sets (root_of third)
is_root_of third is =
    ⊎_elim
    (λ alike. subst (λ b. IsLoweredRoot [] true_calls orders_of_sets (root_of b)) (sym alike) (is_root (Sub 0 1) (first, (second, tt)) (both zero_set one_set refl refl)))
    (λ turned. subst (λ b. IsLoweredRoot [] true_calls orders_of_sets (root_of b)) (sym turned) (is_root (Sub 1 0) (second, (first, tt)) (both one_set zero_set refl refl)))
    is

-- a basic relation imports nothing
no_imports : (third : Basic) → RootsImportBelow true_calls 0 (root_of third ∷ [])
no_imports third zero root held =
    subst (λ (r : Root). ImportsBelow 0 (filled true_calls (core_form_of r.core))) (same_Some (root_of third) root held)
    (subst (λ f. ImportsBelow 0 (filled true_calls f)) (sym (is_formula third)) (tt, (tt, (tt, tt))))
no_imports third (suc k) root held = absurd (none-some root held)

pub is_sample : (third : Basic) → IsInclusion third → (lowered : Lowered) → lowered.roots ≡ root_of third ∷ [] → lowered.orders ≡ orders_of_sets → IsSample lowered
is_sample third is lowered roots orders = record {
  is_lowered = record {
    roots = subst (λ os. Each (IsLoweredRoot [] true_calls os) lowered.roots) (sym orders) (subst (Each (IsLoweredRoot [] true_calls orders_of_sets)) (sym roots) (is_root_of third is, tt));
  };
  imports = subst (RootsImportBelow true_calls 0) (sym roots) (no_imports third);
  one = ap length roots;
}

module _ (dag : Dag) (graph : IsSampleGraph dag) where
  abbrev is_dag : IsDagOf true_calls graph.0 dag
  is_dag = graph.2

  pub nodes : AreNodes dag.entries
  nodes = is_dag.graph.nodes

  pub few : length dag.entries ≤ 4294967295
  few = let small = is_dag.graph.small in omega (arith, small)

  pub nothing_imported : AreImportsOf [] Ws1s dag.entries
  nothing_imported place entry i xs held is =
      let less = nodes_import_as_roots_do true_calls graph.0 dag 0 is_dag graph.1.imports place entry i xs held is in absurd (omega (arith, less))

  pub read : AreRootsRead dag
  read = roots_read [] true_calls graph.0 dag graph.1.is_lowered is_dag

  pub some_root : 0 < length dag.roots
  some_root = counted graph.0.roots dag.roots is_dag.roots graph.1.one
    where
      counted : (roots : List Root) (shared : List SharedRoot) → AllZip (IsRootOf true_calls graph.0.orders dag.entries) roots shared → length roots ≡ 1 → 0 < length shared
      counted [] shared of one = absurd (omega (arith, one))
      counted (root ∷ roots) [] of one = absurd of
      counted (root ∷ roots) (one_shared ∷ shared) of one = omega (arith)
