use Rattle.std.proofs.Common.{◌≡◌, ℕ, true, List, [], ◌∷◌, get_or, ap, sym, ◌∙◌, subst, lit≤, refl}
use Rattle.std.specs.Prelude.{bytes_eq, codes}
use Rattle.std.proofs.lemmas.Bool.{false≢true}
use Rattle.ms_logic.specs.declared.mode.Rel.TheVariants.{Equal}
use Rattle.ms_text.specs.TokenList.{token_at}
use Rattle.ms_text.specs.declared.mark.Mark.TheVariants as marks
use Rattle.ms_text.specs.declared.token.Kind.TheVariants as kinds
use Rattle.ms_presburger.specs.declared.linear.Part.TheVariants.{Var, Times}
use Rattle.ms_presburger.specs.Tree.{free_names}
use Rattle.ms_presburger_parse.specs.Reading.{Reads}
use Rattle.ms_presburger_parse.specs.Symbol.{symbols}
use Rattle.ms_parse_stack.specs.inner.Examples.{text}
use Rattle.ms_presburger_parse.specs.inner.Examples.{x, y}
use Rattle.ms_presburger_parse.proofs.Trees.{arithmetic_of-Compare}
use Rattle.ms_presburger_parse.proofs.examples.worked_scopes.Goals as goal

pub returns-clause-of_a_text : goal.returns-clause-of_a_text
returns-clause-of_a_text c =
    let lexed = text (codes "y = 5 x;") (token_at kinds.Name 0 1 ∷ token_at (kinds.Mark marks.Equal) 2 1 ∷ token_at (kinds.Number 5) 4 1 ∷ token_at kinds.Name 6 1 ∷ token_at (kinds.Mark marks.Semicolon) 7 1 ∷ []) in
    let is = arithmetic_of-Compare Equal (Var y ∷ []) (Times 5 x ∷ []) in
    record {
      reads = subst (Reads (symbols lexed)) (sym is) (record { read = record { is_spelled = refl; grammatical = (refl, tt, tt) }; shallow = lit≤ tt });
      names = ap free_names (sym is);
    }

pub returns-clause-only_so : goal.returns-clause-only_so
returns-clause-only_so c read =
    let same : x ∷ y ∷ [] ≡ y ∷ x ∷ [] = read.names ∙ ap free_names (arithmetic_of-Compare Equal (Var y ∷ []) (Times 5 x ∷ [])) in
    let P : List (List ℕ) → Type 0 = λ names. bytes_eq x (get_or names 0 []) ≡ true in false≢true (subst P same refl)
