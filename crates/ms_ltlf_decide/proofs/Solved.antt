-- A file whose formula can be solved is refused for want of memory or of nodes alone, where nothing outside fails.
use Rattle.std.proofs.Common.{◌≡◌, ℕ, ◌⊎◌, inl, inr, ⊎_elim, List, [], Some, subst}
use Rattle.ms_app_solved.proofs.Alone.{wanted}
use Rattle.ms_app_solved.proofs.Taken.{not-caused, one-bytes, read}
use Rattle.ms_build_source.specs.Limits.{IsWithinLimits}
use Rattle.ms_edge.specs.Counts.{Rose}
use Rattle.ms_edge.specs.declared.refusal.Refusal.{Refusal}
use Rattle.ms_edge.specs.declared.refusal.Refusal.TheVariants.{Memory, Nodes}
use Rattle.ms_edge.specs.Files.{Holding, Seen}
use Rattle.ms_ltlf.specs.Source.{string_problem}
use Rattle.ms_ltlf.specs.Tree.{Temporal}
use Rattle.ms_ltlf.proofs.Sources.{problem-same}
use Rattle.ms_ltlf_decide.specs.Formula.{IsEnoughForFormula, IsFormulaOf, IsNoText, IsRefusedFormula, IsSolvable, IsText, IsUnsolvedFormula, no_formula, no_memory, unread, unsolved}
use Rattle.ms_ltlf_decide.specs.Laws.{SolvableFormulasAreSolved}
use Rattle.ms_ltlf_parse.specs.Grammar.{Names}
use Rattle.ms_ltlf_parse.specs.Reading.{Reads}
use Rattle.ms_ltlf_parse.specs.Symbol.{symbols}
use Rattle.ms_ltlf_parse.proofs.Readings.{one_reading}
use Rattle.ms_text.specs.TokenList.{Lexed}
use Rattle.ms_text.specs.declared.token.Token.{Token}
use Rattle.ms_text.proofs.OneFault.{one_list}

-- want of memory, or of nodes in a step under a limit that is not enough
abbrev IsWant : Seen → List ℕ → ℕ → Refusal → Type 0
IsWant seen name limit refusal = (refusal ≡ Memory) ⊎ ((step : ℕ) × (refusal ≡ Nodes step limit) × (IsEnoughForFormula seen.before.held name limit → ⊥))

abbrev lexed-of : List ℕ → List Token → Lexed
lexed-of bytes tokens = record { bytes = bytes; tokens = tokens }

-- bytes that are the text of a formula are refused for want of memory alone
text-taken : (bytes : List ℕ) (names : Names) (f : Temporal) (refusal : Refusal) → IsText bytes names f → IsNoText bytes refusal → refusal ≡ Memory
text-taken bytes names f refusal text (inl cause) = not-caused bytes text.tokens refusal text.are_tokens cause
text-taken bytes names f refusal text (inr (tokens, are, fault)) =
    let same : text.tokens ≡ tokens = one_list 0 bytes text.tokens tokens text.are_tokens are in
    absurd (fault.reads_none names f (subst (λ ts. Reads (symbols (lexed-of bytes ts)) names f) same text.reads))

same-text : (bytes : List ℕ) (names others : Names) (f g : Temporal) → IsText bytes names f → IsText bytes others g → (names ≡ others) × (f ≡ g)
same-text bytes names others f g text other =
    let same : text.tokens ≡ other.tokens = one_list 0 bytes text.tokens other.tokens text.are_tokens other.are_tokens in
    one_reading (symbols (lexed-of bytes other.tokens)) names others f g (subst (λ ts. Reads (symbols (lexed-of bytes ts)) names f) same text.reads) other.reads

module _ (seen : Seen) (holding : Holding) (name : List ℕ) (names : Names) (f : Temporal) (limit : ℕ) (told : seen.before.held ≡ Some holding)
    (works : Rose seen.before.faults seen.after.faults → ⊥) (is : IsSolvable seen.before.held name names f) where
  abbrev formula : IsFormulaOf seen.before.held name names f
  formula = is.formula

  same-formula : (others : Names) (g : Temporal) → IsFormulaOf seen.before.held name others g → (names ≡ others) × (f ≡ g)
  same-formula others g other =
      let same : other.bytes ≡ formula.bytes = one-bytes holding seen.before.held told name other.bytes formula.bytes other.are_bytes formula.are_bytes in
      same-text formula.bytes names others f g formula.text (subst (λ bytes. IsText bytes others g) same other.text)

  wanted-by : (others : Names) (g : Temporal) (refusal : Refusal) → IsFormulaOf seen.before.held name others g → IsUnsolvedFormula others g limit refusal → IsWant seen name limit refusal
  wanted-by others g refusal other why =
      let same = same-formula others g other in
      let within = subst (λ h. IsWithinLimits (string_problem others h)) same.1 (subst (λ ns. IsWithinLimits (string_problem ns f)) same.0 is.within) in
      ⊎_elim (λ memory. inl memory) (λ lacks. inr (lacks.0, lacks.1, λ enough. why.unsolved.short lacks.0 lacks.1 (enough others g why.source other why.is)))
      (wanted why.source limit refusal (subst IsWithinLimits (problem-same others g why.source [] why.is) within) why.unsolved.why)

  solved-there : (refusal : Refusal) (files : List (List ℕ)) → IsRefusedFormula seen name limit refusal files → IsWant seen name limit refusal
  solved-there refusal files (unread why none) = inl (read seen holding name formula.bytes told works formula.are_bytes refusal why)
  solved-there refusal files (no_formula bytes are why single) =
      let same : bytes ≡ formula.bytes = one-bytes holding seen.before.held told name bytes formula.bytes are formula.are_bytes in
      inl (text-taken formula.bytes names f refusal formula.text (subst (λ b. IsNoText b refusal) same why))
  solved-there refusal files (unsolved others g other why single) = wanted-by others g refusal other why
  solved-there refusal files (no_memory why) = inl why

pub solved : SolvableFormulasAreSolved
solved seen holding name names f limit refusal files told works is why = solved-there seen holding name names f limit told works is refusal files why
