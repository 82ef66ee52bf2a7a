-- The header of a source, and the whole source.
use Rattle.std.proofs.Common.{◌≡◌, ℕ, Bool, true, false, cond, ◌&&◌, List, [], ◌∷◌, codes, bytes_eq, Option, Some, None, refl, sym, ap, ◌∙◌, subst}
use Rattle.std.proofs.lemmas.Bool.{false≢true}
use Rattle.std.proofs.lemmas.Slice.Eq.{bytes_eq-Decides}
use Rattle.ms_list.specs.declared.at.At.{At}
use Rattle.ms_logic.specs.declared.mode.Mode.{Mode}
use Rattle.ms_logic.specs.declared.mode.Mode.TheVariants.{Ws1s, M2lStr}
use Rattle.ms_parse_grammar.specs.Symbol.{Symbol, name, sign, word_ws1s, semicolon, Placed, placed}
use Rattle.ms_parse_grammar.specs.Tree.{Declaration, variables, constant, predicate, included, default_restriction, formula, goal, Declared, Document}
use Rattle.ms_parse_grammar.specs.Declarations.{ReadsDeclaration, ReadsDeclarations, ReadsString, ReadsHeader}
use Rattle.ms_parse_steps.specs.inner.Machine.{outside, headed, start, starter, Runs}
use Rattle.ms_parse_steps.proofs.Moves.{begins}
use Rattle.ms_parse_steps.proofs.Steps.{at_start}
use Rattle.ms_parse_steps.proofs.Sources.{declarations_read}
use Rattle.ms_parse_steps.proofs.Limits.{ReadsWithin}

-- a declaration does not begin with `ws1s`
abbrev pub is_header_word : List Placed → Bool
is_header_word [] = false
is_header_word (placed word_ws1s at ∷ ts) = true
is_header_word (placed _ at ∷ ts) = false

started : (s : Symbol) (a : At) (more : List Placed) → starter s ≡ true → is_header_word (placed s a ∷ more) ≡ false
started word_ws1s a more starts = absurd (false≢true starts)
started _ a more starts = refl

declaration_starts : (x : Declaration) (from f1 : List Placed) → ReadsDeclaration true x from f1 → is_header_word from ≡ false
declaration_starts (variables vs) from f1 (o, g, kinds, ordered, read_vs) = ap is_header_word kinds.1
declaration_starts (constant at n sum) from f1 (g1, g2, g3, words, starts, follow, sums) = ap is_header_word words.1
declaration_starts (predicate is_pred at n vs body) from f1 (g1, g2, g3, g4, words, starts, parameters, follow, read_body) = ap is_header_word words.1
declaration_starts (included at file) from f1 (g1, words, starts) = ap is_header_word words.1
declaration_starts (default_restriction o n body) from f1 (g1, g2, g3, g4, g5, words, opens, name_is, closes, follow, read_body) = ap is_header_word words.1
declaration_starts (goal at title e) from f1 (g1, g2, words, titled, reads) = ap is_header_word words.1
declaration_starts (formula e) from f1 reads =
    let first = begins true e from f1 reads in ap is_header_word first.3 ∙ started first.0 first.1 first.2 first.4

declarations_start : (ds : List Declared) (from : List Placed) → ReadsDeclarations true ds from [] → is_header_word from ≡ false
declarations_start [] from none = ap is_header_word none
declarations_start (x ∷ xs) from (f1, f2, begins_at, read_x, ends, further) = declaration_starts x.declaration from f1 read_x

abbrev no_header : Document
no_header = record { header = None; declarations = [] }

and_true : (a b : Bool) → (a && b) ≡ true → (a ≡ true) × (b ≡ true)
and_true true b h = (refl, h)
and_true false b h = absurd (false≢true h)

-- four symbols that might be the header
headed_plain : (n m : List ℕ) (at a1 a2 a3 : At) (ts all : List Placed) (b : Bool) → all ≡ placed (name n) at ∷ placed (sign true) a1 ∷ placed (name m) a2 ∷ placed semicolon a3 ∷ ts
    → ((x : At) (f : List Placed) → ¬ (ReadsString false x all f)) → (bytes_eq n (codes "m2l") && bytes_eq m (codes "str")) ≡ b → headed n m at ts all ≡ (no_header, all)
headed_plain n m at a1 a2 a3 ts all true here plain test =
    let tests = and_true (bytes_eq n (codes "m2l")) (bytes_eq m (codes "str")) test in
    let first = (bytes_eq-Decides n (codes "m2l")).0 tests.0 in
    let third = (bytes_eq-Decides m (codes "str")).0 tests.1 in
    absurd (plain at ts (
      placed (sign true) a1 ∷ placed (name m) a2 ∷ placed semicolon a3 ∷ ts,
      placed (name m) a2 ∷ placed semicolon a3 ∷ ts,
      placed semicolon a3 ∷ ts,
      (at, here ∙ ap (λ x. placed (name x) at ∷ placed (sign true) a1 ∷ placed (name m) a2 ∷ placed semicolon a3 ∷ ts) first, tt),
      (a1, refl),
      (a2, ap (λ x. placed (name x) a2 ∷ placed semicolon a3 ∷ ts) third),
      (a3, refl),
    ))
headed_plain n m at a1 a2 a3 ts all false here plain test =
    ap (λ b. cond b (record { header = Some (at, M2lStr); declarations = [] }, ts) (no_header, all)) test

start_plain : (all : List Placed) → is_header_word all ≡ false → ((x : At) (f : List Placed) → ¬ (ReadsString false x all f)) → start all ≡ (no_header, all)
start_plain (placed word_ws1s at ∷ ts) first plain = absurd (false≢true (sym first))
start_plain (placed (name n) at ∷ placed (sign true) a1 ∷ placed (name m) a2 ∷ placed semicolon a3 ∷ ts) first plain =
    headed_plain n m at a1 a2 a3 ts (placed (name n) at ∷ placed (sign true) a1 ∷ placed (name m) a2 ∷ placed semicolon a3 ∷ ts)
    (bytes_eq n (codes "m2l") && bytes_eq m (codes "str")) refl plain refl
start_plain _ first plain = refl

header_read : (h : Option (At × Mode)) (all f : List Placed) → ReadsHeader true h all f → is_header_word f ≡ false → start all ≡ (record { header = h; declarations = [] }, f)
header_read None all f (same, plain) first =
    start_plain all (ap is_header_word same ∙ first) plain ∙ ap (λ x. (no_header, x)) same
header_read (Some (at, Ws1s)) all f (f1, starts, ends) first =
    ap start (at_start word_ws1s at all f1 starts ∙ ap (λ x. placed word_ws1s at ∷ x) ends.1)
header_read (Some (at, M2lStr)) all f (f1, f2, f3, starts, minus, third, ends) first =
    ap start (at_start (name (codes "m2l")) at all f1 starts ∙ ap (λ x. placed (name (codes "m2l")) at ∷ x)
    (minus.1 ∙ ap (λ x. placed (sign true) minus.0 ∷ x) (third.1 ∙ ap (λ x. placed (name (codes "str")) third.0 ∷ x) ends.1)))

-- the automaton reads each document that the grammar reads
pub document_read : (limit : ℕ) (all : List Placed) (d : Document) → ReadsWithin limit all d → Runs limit (outside (start all).0) (start all).1 d
document_read limit all d reads =
    let f = reads.read.0 in
    let begun = header_read d.header all f reads.read.1 (declarations_start d.declarations f reads.read.2) in
    subst (λ (x : Document × List Placed). Runs limit (outside x.0) x.1 d) (sym begun)
    (declarations_read limit d.declarations (record { header = d.header; declarations = [] }) f reads.declarations reads.read.2)
