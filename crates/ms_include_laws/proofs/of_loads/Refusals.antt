-- Bytes read as one source, or are refused in one way.
use Rattle.std.proofs.Common.{◌≡◌, ◌≢◌, ℕ, true, ◌⊎◌, inl, inr, ⊎_elim, List, refl, sym, ap, ◌∙◌, subst}
use Rattle.ms_edge.specs.declared.refusal.Refusal.{Refusal}
use Rattle.ms_edge.specs.declared.refusal.Refusal.TheVariants as refusals
use Rattle.ms_text.specs.declared.fault.Cause.{Cause}
use Rattle.ms_text.specs.declared.fault.Cause.TheVariants as causes
use Rattle.ms_text.specs.declared.token.Token.{Token}
use Rattle.ms_text.specs.Fault.{HasFault, IsCause}
use Rattle.ms_text.specs.TokenList.{IsTokenList}
use Rattle.ms_text.proofs.OneFault.{no_fault, one_fault, one_list}
use Rattle.ms_logic.specs.declared.source.Source.{Source}
use Rattle.ms_parse_grammar.specs.Declarations.{ReadsAs}
use Rattle.ms_parse_grammar.specs.Symbol.{symbols}
use Rattle.ms_parse_grammar.specs.View.{document_of}
use Rattle.ms_parse.specs.Refused.{IsGrammarFault}
use Rattle.ms_parse.proofs.OneTree.{one_document}
use Rattle.ms_include.specs.File.{ReadAs, ReadAsNone}
use Rattle.ms_include_laws.proofs.of_loads.Back.{one_source}
use Rattle.ms_include_laws.proofs.of_loads.Stops.{one_grammar_fault}

-- sources that tokens read as are one
pub one_read : (number : ℕ) (bytes : List ℕ) (one other : Source) → ReadAs number bytes one → ReadAs number bytes other → one ≡ other
one_read number bytes one other is is' =
    let same : is.tokens ≡ is'.tokens = one_list 0 bytes is.tokens is'.tokens is.are_tokens is'.are_tokens in
    one_source one other (
    one_document (symbols number (record { bytes = bytes; tokens = is'.tokens })) (document_of one) (document_of other)
    (subst (λ tokens. ReadsAs true number (record { bytes = bytes; tokens = tokens }) one) same is.reads) is'.reads)

-- the refusal of a fault of a text
abbrev cause_refusal : ℕ → ℕ → Cause → Refusal
cause_refusal number at (causes.Word b) = refusals.Word (record { file = number; place = at }) b
cause_refusal number at causes.NumberTooLarge = refusals.NumberTooLarge (record { file = number; place = at })
cause_refusal number at causes.Unclosed = refusals.Unclosed (record { file = number; place = at })

abbrev IsFaultRefusal : ℕ → List ℕ → Refusal → Type 0
IsFaultRefusal number bytes refusal = (at : ℕ) × (cause : Cause) × HasFault bytes at cause × (refusal ≡ cause_refusal number at cause)

-- want of memory aside, a fault of the text is told
cause_told : (number : ℕ) (bytes : List ℕ) (refusal : Refusal) → IsCause number bytes refusal → (refusal ≡ refusals.Memory) ⊎ IsFaultRefusal number bytes refusal
cause_told number bytes (refusals.Word at b) (file, fault) =
    inr (at.place, causes.Word b, fault, ap (λ (f : ℕ). refusals.Word (record { file = f; place = at.place }) b) file)
cause_told number bytes (refusals.NumberTooLarge at) (file, fault) =
    inr (at.place, causes.NumberTooLarge, fault, ap (λ (f : ℕ). refusals.NumberTooLarge (record { file = f; place = at.place })) file)
cause_told number bytes (refusals.Unclosed at) (file, fault) =
    inr (at.place, causes.Unclosed, fault, ap (λ (f : ℕ). refusals.Unclosed (record { file = f; place = at.place })) file)
cause_told number bytes refusals.Memory cause = inl refl
cause_told number bytes _ cause = absurd cause

abbrev HasTokensOfNone : ℕ → List ℕ → Refusal → Type 0
HasTokensOfNone number bytes refusal = (tokens : List Token) × IsTokenList 0 bytes tokens × IsGrammarFault number (record { bytes = bytes; tokens = tokens }) refusal

tokens_or_fault : (number : ℕ) (bytes : List ℕ) (tokens : List Token) (refusal : Refusal) → IsTokenList 0 bytes tokens → IsCause number bytes refusal → refusal ≡ refusals.Memory
tokens_or_fault number bytes tokens refusal listed cause =
    ⊎_elim (λ memory. memory) (λ (told : IsFaultRefusal number bytes refusal). absurd (no_fault 0 bytes tokens told.2.0 told.0 told.1 listed told.2.1)) (cause_told number bytes refusal cause)

-- bytes that read as a source are refused for want of memory alone
pub read_or_refused : (number : ℕ) (bytes : List ℕ) (source : Source) (refusal : Refusal) → ReadAs number bytes source → ReadAsNone number bytes refusal → refusal ≡ refusals.Memory
read_or_refused number bytes source refusal is (inl cause) = tokens_or_fault number bytes is.tokens refusal is.are_tokens cause
read_or_refused number bytes source refusal is (inr (tokens, listed, fault)) =
    absurd (fault.reads_none source (subst (λ ts. ReadsAs true number (record { bytes = bytes; tokens = ts }) source) (one_list 0 bytes is.tokens tokens is.are_tokens listed) is.reads))

one_cause : (number : ℕ) (bytes : List ℕ) (one other : Refusal) → IsFaultRefusal number bytes one → IsFaultRefusal number bytes other → one ≡ other
one_cause number bytes one other (at, cause, fault, is) (at', cause', fault', is') =
    let same = one_fault 0 bytes fault.0 fault'.0 at at' cause cause' fault.1 fault'.1 in
    is ∙ (ap (λ a. cause_refusal number a cause) same.0 ∙ (ap (cause_refusal number at') same.1 ∙ sym is'))

-- the refusal of bytes, want of memory aside
abbrev Refuses : ℕ → List ℕ → Refusal → Type 0
Refuses number bytes refusal = IsFaultRefusal number bytes refusal ⊎ HasTokensOfNone number bytes refusal

refuses : (number : ℕ) (bytes : List ℕ) (refusal : Refusal) → refusal ≢ refusals.Memory → ReadAsNone number bytes refusal → Refuses number bytes refusal
refuses number bytes refusal other (inr tokens) = inr tokens
refuses number bytes refusal other (inl cause) =
    ⊎_elim (λ memory. absurd (other memory)) (λ (told : IsFaultRefusal number bytes refusal). inl told) (cause_told number bytes refusal cause)

one_refuses : (number : ℕ) (bytes : List ℕ) (one other : Refusal) → Refuses number bytes one → Refuses number bytes other → one ≡ other
one_refuses number bytes one other (inl fault) (inl fault') = one_cause number bytes one other fault fault'
one_refuses number bytes one other (inl (at, cause, fault, is)) (inr (tokens, listed, none)) = absurd (no_fault 0 bytes tokens fault.0 at cause listed fault.1)
one_refuses number bytes one other (inr (tokens, listed, none)) (inl (at, cause, fault, is)) = absurd (no_fault 0 bytes tokens fault.0 at cause listed fault.1)
one_refuses number bytes one other (inr (tokens, listed, none)) (inr (tokens', listed', none')) =
    one_grammar_fault number (record { bytes = bytes; tokens = tokens' }) one other
    (subst (λ ts. IsGrammarFault number (record { bytes = bytes; tokens = ts }) one) (one_list 0 bytes tokens tokens' listed listed') none) none'

-- bytes that read as no source are refused in one way
pub one_refusal : (number : ℕ) (bytes : List ℕ) (one other : Refusal) → one ≢ refusals.Memory → other ≢ refusals.Memory → ReadAsNone number bytes one → ReadAsNone number bytes other → one ≡ other
one_refusal number bytes one other some some' none none' = one_refuses number bytes one other (refuses number bytes one some none) (refuses number bytes other some' none')
