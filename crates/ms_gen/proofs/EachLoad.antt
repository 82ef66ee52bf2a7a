-- Each load of a generated text is what it is expected to be.
use Rattle.std.proofs.Common.{◌≡◌, ◌≤◌, ℕ, ◌-◌, true, List, [], ◌∷◌, None, map, refl, sym, ap, ◌∙◌, subst}
use Rattle.ms_gen.specs.Generated.{IsNumber, generated}
use Rattle.ms_text.proofs.OneFault.{one_list}
use Rattle.ms_logic.specs.declared.checked.Checked.{Checked}
use Rattle.ms_logic.specs.declared.mode.Mode.TheVariants.{Ws1s}
use Rattle.ms_logic.specs.declared.source.Loaded.{Loaded}
use Rattle.ms_logic_core.specs.Size.{depth_of_source, size_of_source}
use Rattle.ms_logic.specs.Verdict.{IsValid}
use Rattle.ms_logic.specs.View.{goals_in, main_question, problem_of}
use Rattle.ms_parse_grammar.specs.Declarations.{Reads}
use Rattle.ms_parse_grammar.specs.Symbol.{symbols}
use Rattle.ms_parse_grammar.specs.Tree.{Document}
use Rattle.ms_parse_grammar.specs.View.{document_of, declared_of}
use Rattle.ms_include.specs.Load.{IsLoadedText, mode_of}
use Rattle.ms_parse.proofs.OneTree.{one_document}
use Rattle.ms_names_rules.specs.Declarations.{first_fault_of}
use Rattle.ms_names_rules.specs.TypedSource.{IsTyped, exports_of_source, formulas_of_source, globals_of_source, imports_of_source, predicates_of_source}
use Rattle.ms_gen.specs.inner.AcceptanceLaws.{GeneratedSourcesAreValid, GeneratedSourcesHaveNoFault}
use Rattle.ms_gen.proofs.Accepting.{accepted}
use Rattle.ms_gen.proofs.Pieces.{tokens_from}
use Rattle.ms_gen.proofs.Loading.{document-read, tokens-are}
use Rattle.ms_include_laws.proofs.of_loads.Typing.{one_main_question, one_problem, same_goals_asked}
use Rattle.ms_gen.proofs.Source.{source}
use Rattle.ms_gen.proofs.Spelling.{pieces}
use Rattle.ms_gen.proofs.Validity.{valid}

none-mapped : {A B : Type 0} (f : A → B) (xs : List A) → map f xs ≡ [] → xs ≡ []
none-mapped f [] none = refl
none-mapped f (x ∷ xs) none = let never : ⊥ = cc in absurd never

typed-alike : (l k : Loaded) (c : Checked) → l.mode ≡ k.mode → map declared_of l.items ≡ map declared_of k.items → l.files ≡ k.files → IsTyped l c → IsTyped k c
typed-alike l k c modes items files typed = record {
  mode = typed.mode ∙ modes;
  globals_are = typed.globals_are ∙ (λ i. globals_of_source (modes i) (items i));
  predicates_are = typed.predicates_are ∙ (λ i. predicates_of_source (modes i) (items i));
  imports_are = typed.imports_are ∙ (λ i. imports_of_source (modes i) (items i));
  exports_are = typed.exports_are ∙ (λ i. exports_of_source (modes i) (items i));
  formulas_are = typed.formulas_are ∙ (λ i. formulas_of_source (modes i) (items i));
  files = typed.files ∙ files;
}

module _ (number : ℕ) (name : List ℕ) (is : IsNumber number) (loaded : Loaded) (loads : IsLoadedText name (generated number) loaded) where
  abbrev last : ℕ
  last = number - 1

  same-tokens : loads.reads.tokens ≡ tokens_from 0 (pieces last)
  same-tokens = one_list 0 (generated number) loads.reads.tokens (tokens_from 0 (pieces last)) loads.reads.are_tokens (tokens-are number is)

  same-document : document_of loads.source ≡ document_of (source last)
  same-document =
      one_document (symbols 0 (record { bytes = generated number; tokens = tokens_from 0 (pieces last) })) (document_of loads.source) (document_of (source last))
      (subst (λ tokens. Reads true (symbols 0 (record { bytes = generated number; tokens = tokens })) (document_of loads.source)) same-tokens loads.reads.reads)
      (document-read number is)

  same-items : map declared_of (source last).items ≡ map declared_of loaded.items
  same-items =
      ap (λ (d : Document). d.declarations) (sym same-document) ∙ ap (map declared_of) (sym loads.items)

  same-mode : Ws1s ≡ loaded.mode
  same-mode = ap (λ (d : Document). mode_of d.header) (sym same-document) ∙ sym loads.mode

  no-fault-here : first_fault_of loaded.mode (map declared_of loaded.items) ≡ None
  no-fault-here = sym (λ i. first_fault_of (same-mode i) (same-items i)) ∙ (accepted number name is).no_fault

  typed-here : IsTyped loaded (accepted number name is).checked
  typed-here = typed-alike (accepted number name is).loaded loaded (accepted number name is).checked same-mode same-items (sym loads.files) (accepted number name is).is_typed

  module _ (checked : Checked) (typed : IsTyped loaded checked) where
    same-problem : problem_of (accepted number name is).checked [] ≡ problem_of checked []
    same-problem = one_problem loaded (accepted number name is).checked checked [] typed-here typed

    same-question : main_question (accepted number name is).checked [] ≡ main_question checked []
    same-question = one_main_question loaded (accepted number name is).checked checked [] typed-here typed

    no-imports : checked.imports ≡ []
    no-imports = typed.imports_are ∙ sym typed-here.imports_are

    no-exports : checked.exports ≡ []
    no-exports = typed.exports_are ∙ sym typed-here.exports_are

    no-goals : goals_in checked ≡ []
    no-goals = none-mapped _ (goals_in checked) (same_goals_asked loaded checked (accepted number name is).checked [] typed typed-here)

pub sources-have-no-fault : GeneratedSourcesHaveNoFault
sources-have-no-fault number name loaded is loads = no-fault-here number name is loaded loads

pub sources-are-valid : GeneratedSourcesAreValid
sources-are-valid number name loaded checked is loads typed =
    let same = same-problem number name is loaded loads checked typed in
    let limits = (accepted number name is).within in (
      record {
        imports = no-imports number name is loaded loads checked typed;
        exports = no-exports number name is loaded loads checked typed;
        goals = no-goals number name is loaded loads checked typed;
        depth = subst (λ problem. depth_of_source problem ≤ 300) same limits.depth;
        size = subst (λ problem. size_of_source problem ≤ 1000000) same limits.size;
      },
      subst IsValid (same-question number name is loaded loads checked typed) (valid (number - 1) name),
    )
