-- What lowering gives for a source has the roots of the source, where its calls stand for what they become.
use Rattle.std.proofs.Common.{◌≡◌, ℕ, zero, suc, ◌<◌, ◌≤◌, inl, inr, min, List, [], ◌∷◌, ◌++◌, length, map, refl, sym, ap, subst, ◌∙◌, arith}
use Rattle.std.proofs.lemmas.List.Elements.{All-contains}
use Rattle.ms_logic_core.specs.Calls.{filled}
use Rattle.ms_logic.specs.declared.checked.Checked.{Checked}
use Rattle.ms_logic.specs.declared.checked.Placed.{Placed}
use Rattle.ms_logic_core.specs.declared.core_formula.Root as code
use Rattle.ms_logic.specs.Assignment.{Variable}
use Rattle.ms_logic_core.specs.CoreForm.{CoreForm}
use Rattle.ms_logic.specs.FreeVariables.{FreeInForms, FreeInRestrictions, IsListed, Reads}
use Rattle.ms_logic_core.specs.Roots.{IsRoot, Root, exports_among, export_root, first_free, main_root}
use Rattle.ms_logic_core.specs.Spread.{Callees, Names, callees_of, own_names, restrictions_of, spread_each}
use Rattle.ms_logic.specs.Tree.{Declaration}
use Rattle.ms_logic.specs.Truth.{Given}
use Rattle.ms_logic.specs.Verdict.{Problem}
use Rattle.ms_logic.specs.View.{declared_in, question_of, Answers}
use Rattle.ms_lower.specs.Calling.{calling, calling_numbers, calls_of, plain_numbers}
use Rattle.ms_lower.specs.Lowered.{IsCallingRootFor, IsRootFor, IsRootOver, reads_of}
use Rattle.ms_lower.specs.NumberLaws.{numbering_in}
use Rattle.ms_lower.specs.Numbering.{number_at, renumbered, renumbered_variable, with_new_numbers}
use Rattle.ms_lower.proofs.KeptScopes.{keep_scopes}
use Rattle.ms_lower.proofs.MainRoot.{first_free_globals}
use Rattle.ms_lower.proofs.RootScopes.{root_scopes}
use Rattle.ms_lower.proofs.SameNumbers.{keep_roots}
use Rattle.ms_logic.specs.Lists.{Each}
use Rattle.ms_names_rules.specs.Numbers.{IsNumberedRestriction, IsWellNumbered, Tables, globals_seen, tables_of}
use Rattle.ms_logic_spread.specs.RootLaws.{AreFormulasOf}
use Rattle.ms_logic_spread.proofs.Questions.{asked_numbered, declared_asked, goal_asked, whole_asked}
use Rattle.ms_build_source.proofs.FilledCalls.{filling_of}
use Rattle.ms_build_source.proofs.FilledForms.{CalleesFill, EachFills, Keeps, SeesGlobals, conjunction_fills, forms_fill}
use Rattle.ms_build_source.proofs.FilledPredicates.{before_fills}
use Rattle.ms_build_source.proofs.FilledSources.{all_fill, spreads_filled}
use Rattle.ms_build_source.proofs.FilledTerms.{Filling}
use Rattle.ms_build_source.proofs.Sources.{source_is}
use Rattle.ms_build_source.specs.inner.HandoverLaws.{SourcesHaveRoots}
use Rattle.ms_build_source.proofs.ImportsOfExports.{IsNumberedThere, each_numbered}
use Rattle.ms_build_source.proofs.SharedRoots.{each_all}
use Rattle.ms_build_source.proofs.Questions.{reads_globals}

-- the restrictions of the globals
globals_fill : (way : Filling) (tables : Tables) (n : ℕ) (r : Reads) (c d : Callees) → CalleesFill way tables n r c d → (ds : List Declaration) (seen : List Variable) (names : Names) (free : ℕ) (tail end : List CoreForm) → SeesGlobals way seen →
    Each (λ e. IsNumberedRestriction tables n seen e.restriction) ds → way.kept ≤ free → Keeps way (FreeInRestrictions r ds) names → EachFills way tail end → EachFills way (restrictions_of c ds names free ++ tail) (restrictions_of d ds names free ++ end)
globals_fill way tables n r c d fills [] seen names free tail end sees numbered above keeps others = others
globals_fill way tables n r c d fills (e ∷ ds) seen names free tail end sees numbered above keeps others =
    before_fills way tables n r c d fills e.restriction seen names free (restrictions_of c ds names free) (restrictions_of d ds names free) tail end sees numbered.0 above (λ w read. keeps w (inl read))
    (globals_fill way tables n r c d fills ds seen names free tail end sees numbered.1 above (λ w read. keeps w (inr read)) others)

-- a listed variable has a number below the first that is free
listed_below_free : (vs : List Variable) (w : Variable) → IsListed vs w → w.name < first_free vs
listed_below_free [] w listed = absurd listed
listed_below_free (v ∷ vs) w (inl here) = let is = here.0 in omega (arith, is)
listed_below_free (v ∷ vs) w (inr later) = let below = listed_below_free vs w later in omega (arith, below)

numbers_of_variables : (kept globals : ℕ) (known : ℕ → List Variable) (vs : List Variable) →
    map (λ v. v.name) (map (renumbered_variable (record { number = number_at kept globals; imported = known })) vs) ≡ map (λ v. number_at kept globals v.order v.name) vs
numbers_of_variables kept globals known [] = refl
numbers_of_variables kept globals known (v ∷ vs) = ap (λ l. number_at kept globals v.order v.name ∷ l) (numbers_of_variables kept globals known vs)

module _ (checked : Checked) (answers : Answers) (same : length answers ≡ length checked.imports) (well : IsWellNumbered checked)
    (asked : List Placed) (among : AreFormulasOf checked asked) where
  abbrev question : Problem
  question = question_of checked answers asked

  abbrev given : Given
  given = question.given

  abbrev globals : ℕ
  globals = length checked.globals

  -- a root of the question, whose formula is what the other one becomes
  record Becomes (k : ℕ) (short : Root) : Type 0 where
    pub own : Root
    pub is_root : IsRoot question k own
    pub variables : own.variables ≡ short.variables
    pub formula :
        filled (calls_of globals given) (renumbered (calling_numbers (min globals (first_free short.variables)) globals given) short.formula)
        ≡ renumbered (plain_numbers (min globals (first_free short.variables)) globals given) own.formula

  becomes : (k : ℕ) (short : Root) → IsRootOver (calling given) question k short → Becomes k short
  becomes zero short is =
      let tables = tables_of checked in
      let bound = length tables.predicates in
      let vs = globals_seen checked in
      let kept = min globals (first_free vs) in
      let source = source_is checked answers same well in
      let fills = all_fill given tables globals vs source kept (omega arith) in
      let way = filling_of kept globals given in
      let free : globals ≡ first_free vs = sym (first_free_globals checked.globals) in
      let all : (P : Variable → Type 0) → Keeps way P own_names = λ P w read below. (refl, omega (arith, below, free)) in
      let spread = spread_each (calling given) question.formulas own_names (first_free vs) in
      let full = spread_each (callees_of given) question.formulas own_names (first_free vs) in
      record {
        own = main_root question;
        is_root = refl;
        variables = sym (ap (λ (s : Root). s.variables) is);
        formula =
            subst (λ (s : Root). filled (calls_of globals given) (renumbered (calling_numbers (min globals (first_free s.variables)) globals given) s.formula) ≡ renumbered (plain_numbers (min globals (first_free s.variables)) globals given) (main_root question).formula) (sym is)
            (conjunction_fills way (restrictions_of (calling given) question.globals own_names (first_free vs) ++ spread) (restrictions_of (callees_of given) question.globals own_names (first_free vs) ++ full)
            (globals_fill way tables bound (reads_of given) (calling given) (callees_of given) fills question.globals vs own_names (first_free vs) spread full source.all well.globals (omega arith) (all (FreeInRestrictions (reads_of given) question.globals))
            (forms_fill way tables bound (reads_of given) (calling given) (callees_of given) fills question.formulas vs own_names (first_free vs) source.all (asked_numbered checked well asked among) (omega arith) (all (FreeInForms (reads_of given) question.formulas)))));
      }
  becomes (suc i) short is =
      let tables = tables_of checked in
      let bound = length tables.predicates in
      let f = is.0 in
      let vs = is.1 in
      let kept = min globals (first_free vs) in
      let source = source_is checked answers same well in
      let numbered = All-contains (IsNumberedThere tables bound (globals_seen checked)) (exports_among question.formulas) (record { number = i; formula = f })
      (each_all (IsNumberedThere tables bound (globals_seen checked)) (exports_among question.formulas)
      (each_numbered tables bound (globals_seen checked) question.formulas (globals_seen checked) (λ w there. there) (asked_numbered checked well asked among))) is.2 in
      record {
        own = export_root given vs f;
        is_root = (f, vs, is.2, is.3, refl);
        variables = sym (ap (λ (s : Root). s.variables) is.4);
        formula =
            subst (λ (s : Root). filled (calls_of globals given) (renumbered (calling_numbers (min globals (first_free s.variables)) globals given) s.formula) ≡ renumbered (plain_numbers (min globals (first_free s.variables)) globals given) (export_root given vs f).formula) (sym is.4)
            (spreads_filled given tables globals (globals_seen checked) source kept numbered.0 f own_names (first_free vs) (omega arith) (omega arith) numbered.2 numbered.1
            (λ w free below. let listed = listed_below_free vs w ((is.3.free w).1 free) in (refl, omega (arith, below, listed))));
      }

  root_filled : (k : ℕ) (root : code.Root) → IsCallingRootFor checked question k root → IsRootFor checked question k root
  root_filled k root r =
      let own = becomes k r.own r.is_root in
      let n = numbering_in globals given.imports own.own in
      let known = root_scopes checked answers asked k own.own own.is_root (reads_globals checked answers well asked among) in
      let kept : min globals (first_free own.own.variables) ≡ min globals (first_free r.own.variables) = ap (λ vs. min globals (first_free vs)) own.variables in
      record {
        own = own.own;
        is_root = own.is_root;
        made = with_new_numbers n own.own;
        variables =
            numbers_of_variables (min globals (first_free own.own.variables)) globals n.imported own.own.variables
            ∙ (ap (λ k. map (λ (v : Variable). number_at k globals v.order v.name) own.own.variables) kept
            ∙ (ap (map (λ (v : Variable). number_at (min globals (first_free r.own.variables)) globals v.order v.name)) own.variables ∙ r.variables));
        formula =
            ap (λ k. renumbered (plain_numbers k globals given) own.own.formula) kept
            ∙ (sym own.formula ∙ ap (filled (calls_of globals given)) r.formula);
        same = keep_roots globals given.imports own.own known.0 known.1;
        stands = keep_scopes globals given.imports own.own known.1;
        numbers = refl;
      }

pub sources_have_roots : SourcesHaveRoots
sources_have_roots checked answers roots same well has = record {
  count = has.count;
  main = λ root is. root_filled checked answers same well (declared_in checked) (declared_asked checked) 0 root (has.main root is);
  exports = λ i root less is. root_filled checked answers same well checked.formulas (whole_asked checked) (suc i) root (has.exports i root less is);
  goals = λ j goal root held is. root_filled checked answers same well (goal ∷ []) (goal_asked checked j goal held) 0 root (has.goals j goal root held is);
}
