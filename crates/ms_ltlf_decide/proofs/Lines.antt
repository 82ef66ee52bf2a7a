-- The line of a refusal can be written over the file that it may number.
use Rattle.std.proofs.Common.{◌≡◌, ℕ, inl, inr, List, [], ◌∷◌, map, refl, sym, ap, subst}
use Rattle.ms_app_solved.proofs.Told.{IsTold, cause-told, first-file, formulas-at, unread-told, unsolved-told}
use Rattle.ms_edge.specs.declared.refusal.Refusal.{Refusal}
use Rattle.ms_edge.specs.declared.refusal.Refusal.TheVariants as refusals
use Rattle.ms_list.specs.declared.at.At.{At}
use Rattle.ms_logic.specs.declared.checked.Global.{Global}
use Rattle.ms_logic.specs.Lists.{Each}
use Rattle.ms_ltlf.specs.Source.{global_of, start}
use Rattle.ms_ltlf.specs.Tree.{Temporal}
use Rattle.ms_ltlf_decide.specs.Formula.{IsNoText, IsUnsolvedFormula, no_formula, no_memory, unread, unsolved}
use Rattle.ms_ltlf_decide.specs.Laws.{RefusalsHaveLines}
use Rattle.ms_ltlf_parse.specs.Grammar.{Names}
use Rattle.ms_ltlf_parse.specs.Refused.{NamesFault}
use Rattle.ms_text.specs.TokenList.{Lexed}

fault-told : (name : List ℕ) (lexed : Lexed) (refusal : Refusal) → NamesFault 0 lexed refusal → IsTold (name ∷ []) refusal
fault-told name lexed (refusals.Grammar at) (inl early) = (tt, first-file name at (ap (λ (a : At). a.file) early.is_end))
fault-told name lexed (refusals.Grammar at) (inr misplaced) = (tt, first-file name at (ap (λ (a : At). a.file) misplaced.stands.is_place))
fault-told name lexed (refusals.Depth at) deep = (tt, first-file name at (ap (λ (a : At). a.file) deep.stands.is_place))
fault-told name lexed refusal why = absurd why

text-told : (name bytes : List ℕ) (refusal : Refusal) → IsNoText bytes refusal → IsTold (name ∷ []) refusal
text-told name bytes refusal (inl cause) = cause-told name bytes refusal cause
text-told name bytes refusal (inr (tokens, are, fault)) = fault-told name (record { bytes = bytes; tokens = tokens }) refusal fault.names

globals-start : (names : Names) → Each (λ (g : Global). g.at ≡ start) (map global_of names)
globals-start [] = tt
globals-start (name ∷ names) = (refl, globals-start names)

formula-told : (name : List ℕ) (names : Names) (f : Temporal) (limit : ℕ) (refusal : Refusal) → IsUnsolvedFormula names f limit refusal → IsTold (name ∷ []) refusal
formula-told name names f limit refusal why =
    let G : List Global → Type 0 = λ gs. Each (λ (g : Global). g.at ≡ start) gs in
    let A : List At → Type 0 = λ ats. Each (λ (at : At). at ≡ start) ats in
    unsolved-told start refl name why.source limit refusal (subst G (sym why.is.globals) (globals-start names))
    (formulas-at start why.source.formulas (subst A (sym why.is.places) (refl, (refl, tt)))) why.unsolved.why

pub lines : RefusalsHaveLines
lines seen name limit refusal files (unread why none) = subst (λ read. IsTold read refusal) (sym none) (unread-told seen name refusal why)
lines seen name limit refusal files (no_formula bytes are why one) = subst (λ read. IsTold read refusal) (sym one) (text-told name bytes refusal why)
lines seen name limit refusal files (unsolved names f is why one) = subst (λ read. IsTold read refusal) (sym one) (formula-told name names f limit refusal why)
lines seen name limit refusal files (no_memory why) = subst (IsTold files) (sym why) (tt, tt)
