-- A file whose formula can be solved is refused for want of memory or of nodes alone, where nothing outside fails.
use Rattle.std.proofs.Common.{◌≡◌, ℕ, ◌⊎◌, inl, inr, ⊎_elim, List, [], Some, subst}
use Rattle.ms_app_solved.proofs.Alone.{wanted}
use Rattle.ms_app_solved.proofs.Taken.{not-caused, one-bytes, read}
use Rattle.ms_build_source.specs.Limits.{IsWithinLimits}
use Rattle.ms_edge.specs.Counts.{Rose}
use Rattle.ms_edge.specs.declared.refusal.Refusal.{Refusal}
use Rattle.ms_edge.specs.declared.refusal.Refusal.TheVariants.{Memory, Nodes}
use Rattle.ms_edge.specs.Files.{Holding, Seen}
use Rattle.ms_presburger.specs.Source.{set_problem}
use Rattle.ms_presburger.specs.Tree.{Arithmetic, free_names}
use Rattle.ms_presburger.proofs.Sources.{problem-same}
use Rattle.ms_presburger_decide.specs.Laws.{SolvableProblemsAreSolved}
use Rattle.ms_presburger_decide.specs.Problem.{IsEnoughForProblem, IsNoText, IsProblemOf, IsRefusedProblem, IsSolvableProblem, IsText, IsUnsolvedProblem, no_formula, no_memory, unread, unsolved}
use Rattle.ms_presburger_parse.specs.Reading.{Reads}
use Rattle.ms_presburger_parse.specs.Symbol.{symbols}
use Rattle.ms_presburger_parse.proofs.Readings.{one_reading}
use Rattle.ms_text.specs.TokenList.{Lexed}
use Rattle.ms_text.specs.declared.token.Token.{Token}
use Rattle.ms_text.proofs.OneFault.{one_list}

abbrev lexed-of : List ℕ → List Token → Lexed
lexed-of bytes tokens = record { bytes = bytes; tokens = tokens }

-- bytes that are the text of a formula are refused for want of memory alone
text-taken : (bytes : List ℕ) (f : Arithmetic) (refusal : Refusal) → IsText bytes f → IsNoText bytes refusal → refusal ≡ Memory
text-taken bytes f refusal text (inl cause) = not-caused bytes text.tokens refusal text.are_tokens cause
text-taken bytes f refusal text (inr (tokens, are, fault)) =
    let same : text.tokens ≡ tokens = one_list 0 bytes text.tokens tokens text.are_tokens are in
    absurd (fault.reads_none f (subst (λ ts. Reads (symbols (lexed-of bytes ts)) f) same text.reads))

-- and of no other
same-text : (bytes : List ℕ) (f g : Arithmetic) → IsText bytes f → IsText bytes g → f ≡ g
same-text bytes f g text other =
    let same : text.tokens ≡ other.tokens = one_list 0 bytes text.tokens other.tokens text.are_tokens other.are_tokens in
    one_reading (symbols (lexed-of bytes other.tokens)) f g (subst (λ ts. Reads (symbols (lexed-of bytes ts)) f) same text.reads) other.reads

-- want of memory, or of nodes in a step under a limit that is not enough
abbrev IsWant : Seen → List ℕ → ℕ → Refusal → Type 0
IsWant seen name limit refusal = (refusal ≡ Memory) ⊎ ((step : ℕ) × (refusal ≡ Nodes step limit) × (IsEnoughForProblem seen.before.held name limit → ⊥))

module _ (seen : Seen) (holding : Holding) (name : List ℕ) (f : Arithmetic) (limit : ℕ) (told : seen.before.held ≡ Some holding)
    (works : Rose seen.before.faults seen.after.faults → ⊥) (is : IsSolvableProblem seen.before.held name f) where
  abbrev problem : IsProblemOf seen.before.held name f
  problem = is.problem

  same-problem : (g : Arithmetic) → IsProblemOf seen.before.held name g → f ≡ g
  same-problem g other =
      let same : other.bytes ≡ problem.bytes = one-bytes holding seen.before.held told name other.bytes problem.bytes other.are_bytes problem.are_bytes in
      same-text problem.bytes f g problem.text (subst (λ bytes. IsText bytes g) same other.text)

  wanted-by : (g : Arithmetic) (refusal : Refusal) → IsProblemOf seen.before.held name g → IsUnsolvedProblem g limit refusal → IsWant seen name limit refusal
  wanted-by g refusal other why =
      let within = subst (λ h. IsWithinLimits (set_problem (free_names h) h)) (same-problem g other) is.within in
      ⊎_elim (λ memory. inl memory) (λ lacks. inr (lacks.0, lacks.1, λ enough. why.unsolved.short lacks.0 lacks.1 (enough g why.source other why.is)))
      (wanted why.source limit refusal (subst IsWithinLimits (problem-same (free_names g) g why.source [] why.is) within) why.unsolved.why)

  solved-there : (refusal : Refusal) (files : List (List ℕ)) → IsRefusedProblem seen name limit refusal files → IsWant seen name limit refusal
  solved-there refusal files (unread why none) = inl (read seen holding name problem.bytes told works problem.are_bytes refusal why)
  solved-there refusal files (no_formula bytes are why one) =
      let same : bytes ≡ problem.bytes = one-bytes holding seen.before.held told name bytes problem.bytes are problem.are_bytes in
      inl (text-taken problem.bytes f refusal problem.text (subst (λ b. IsNoText b refusal) same why))
  solved-there refusal files (unsolved g other why one) = wanted-by g refusal other why
  solved-there refusal files (no_memory why) = inl why

pub solved : SolvableProblemsAreSolved
solved seen holding name limit refusal files told works can why = solved-there seen holding name can.0 limit told works can.1 refusal files why
