-- Contents that meet the rules, and contents and texts that break one.
use Rattle.std.proofs.Common.{◌≡◌, ◌≢◌, ℕ, zero, suc, ◌<◌, ◌^◌, true, Some, List, [], ◌∷◌, ◌++◌, length, AllPairs, codes, refl, sym, ap, subst, ◌∙◌, arith, lit<}
use Rattle.std.specs.Fmt.{decimal, digits}
use Rattle.std.specs.List.{flat_map}
use Rattle.std.proofs.lemmas.Bool.{false≢true}
use Rattle.std.proofs.lemmas.List.{append_cancel_left}
use Rattle.std.proofs.lemmas.List.Elements.{All-cons, All-nil}
use Rattle.std.proofs.lemmas.Option.{none-some, same_Some}
use Rattle.ms_arena.specs.declared.node.Node.{Node}
use Rattle.ms_arena.specs.declared.node.Ref.TheVariants.{Leaf, Inner}
use Rattle.ms_arena.proofs.ReachLemmas.{IsTested-own}
use Rattle.ms_logic.specs.declared.mode.Mode.TheVariants.{Ws1s}
use Rattle.ms_logic.specs.declared.mode.Order.TheVariants.{Zero, Two}
use Rattle.ms_logic.specs.Assignment.{Variable}
use Rattle.ms_list.specs.declared.word.Word.{Word}
use Rattle.ms_logic_words.specs.Content.{HasValueAt, StateOf, is_in_letters, is_truth_value}
use Rattle.ms_logic_words.specs.WordSign.{IsOutside}
use Rattle.ms_logic_words.proofs.DecodedWords.{encodings_are}
use Rattle.ms_arena.specs.Diagram.{leaf_of}
use Rattle.ms_dfa.specs.Files.{HasNoOutside, content_of_file}
use Rattle.ms_dfa.specs.declared.plain.FileSign.{FileSign}
use Rattle.ms_dfa.specs.declared.plain.FileSign.TheVariants as signs
use Rattle.ms_dfa.specs.declared.plain.FileVersion.TheVariants as versions
use Rattle.ms_dfa.specs.declared.plain.Plain.{Plain}
use Rattle.ms_text.specs.Spelling.{Spells}
use Rattle.ms_text.specs.declared.keyword.Keyword.TheVariants as words
use Rattle.ms_text.specs.declared.token.Kind.TheVariants as kinds
use Rattle.ms_text.proofs.Here.{name_here}
use Rattle.ms_dfa.proofs.FunctionLemmas.{TestsOnly-held, TestsOnly-leaf}
use Rattle.ms_dfafile.specs.inner.Examples.{emptiness, emptiness_file, line_behind, named_by_word, outside_in_first_version, own_node, same_variable, set_from_start, truth_value_from_state, two_bits_undefined, zero_before}
use Rattle.ms_dfafile.specs.File.{IsFile, IsSpelled}
use Rattle.ms_dfafile.specs.declared.parts.Head.{Head}
use Rattle.ms_dfafile.specs.inner.Parts.{body_of, body_text, head_of, head_text, variables_text}
use Rattle.ms_dfafile.specs.inner.Reading.{BeginsNumber, ended}
use Rattle.ms_dfafile.specs.inner.Rules.{ArePlaced, IsNext, IsPlacedNode}
use Rattle.ms_dfafile.specs.Spelling.{field, line, variable_line}
use Rattle.ms_dfafile.proofs.FieldLemmas.{ended-one}
use Rattle.ms_dfafile.proofs.FileLemmas.{one_file}
use Rattle.ms_dfafile.proofs.NumberLemmas.{decimal-begins, decimal-field}
use Rattle.ms_dfafile.proofs.PartsLemmas.{content_text-spelled, head-one_form}
use Rattle.ms_dfafile.proofs.ReadingLemmas.{section-parts}
use Rattle.ms_dfafile.proofs.RulesLemmas.{AllNext, content-from}

-- the one node of the content
abbrev only : Node
only = record { var = 0; low = Leaf 0; high = Leaf 1 }

emptiness-placed : ArePlaced (content_of_file emptiness) 1
emptiness-placed zero node within held =
    subst (IsPlacedNode (content_of_file emptiness) 0) (same_Some only node held) (record { variable = lit< tt; low = lit< tt; high = lit< tt; rising_low = tt; rising_high = tt })
emptiness-placed (suc place) node within held = absurd (none-some node held)

-- its states
abbrev holds : StateOf FileSign
holds = record { sign = signs.Plus; next = Inner 0 }

abbrev fails : StateOf FileSign
fails = record { sign = signs.Minus; next = Leaf 1 }

emptiness-next : AllNext (content_of_file emptiness)
emptiness-next zero state held =
    let set = HasValueAt (content_of_file emptiness).variables is_in_letters in
    let tests = TestsOnly-held emptiness.nodes set only (Inner 0) refl (record { name = 0; order = Two }, refl, refl) (TestsOnly-leaf emptiness.nodes set 0) (TestsOnly-leaf emptiness.nodes set 1) in
    subst (λ (s : StateOf FileSign). IsNext (content_of_file emptiness) s.next) (same_Some holds state held) (lit< tt, tests)
emptiness-next (suc zero) state held =
    subst (λ (s : StateOf FileSign). IsNext (content_of_file emptiness) s.next) (same_Some fails state held) (lit< tt, TestsOnly-leaf emptiness.nodes (HasValueAt (content_of_file emptiness).variables is_in_letters) 1)
emptiness-next (suc (suc i)) state held = absurd (none-some state held)

emptiness-signs : HasNoOutside (content_of_file emptiness)
emptiness-signs zero state held is = let same : signs.Plus ≡ signs.Outside = ap (λ (s : StateOf FileSign). s.sign) (same_Some holds state held) ∙ is in cc
emptiness-signs (suc zero) state held is = let same : signs.Minus ≡ signs.Outside = ap (λ (s : StateOf FileSign). s.sign) (same_Some fails state held) ∙ is in cc
emptiness-signs (suc (suc i)) state held is = absurd (none-some state held)

one_name : AllPairs (λ one other. one ≢ other) (codes "P" ∷ [])
one_name i j d below within = absurd (omega arith)

pub emptiness-file : IsFile emptiness
emptiness-file = record {
  few_variables = lit< tt;
  few_states = lit< tt;
  few_nodes = lit< tt;
  names = All-cons (Spells kinds.Name) (codes "P") [] (name_here (codes "P") [] refl refl refl tt).spelled (All-nil (Spells kinds.Name));
  different = one_name;
  content = content-from (content_of_file emptiness) (lit< tt) emptiness-placed (lit< tt, TestsOnly-leaf emptiness.nodes (HasValueAt (content_of_file emptiness).variables is_truth_value) 0) emptiness-next;
  signs = emptiness-signs;
}

pub named_by_word-no_file : ¬ IsFile named_by_word
named_by_word-no_file file = (file.names 0 [] (lit< tt)).1 (words.Ex1, refl)

pub own_node-no_file : ¬ IsFile own_node
own_node-no_file file = let below : 0 < 0 = file.content.ordered.earlier_low 0 (record { var = 0; low = Inner 0; high = Leaf 1 }) refl in absurd (omega arith)

pub same_variable-no_file : ¬ IsFile same_variable
same_variable-no_file file =
    let above : 0 < 0 = file.content.ordered.rising_high 1 (record { var = 0; low = Leaf 0; high = Inner 0 }) refl (record { var = 0; low = Leaf 1; high = Leaf 0 }) refl in absurd (omega arith)

pub set_from_start-no_file : ¬ IsFile set_from_start
set_from_start-no_file file =
    let tested = file.content.start_tests 0 (IsTested-own set_from_start.nodes 0 only refl) in
    false≢true (ap (λ (v : Variable). is_truth_value v.order) (same_Some (record { name = 0; order = Two }) tested.0 tested.1) ∙ tested.2)

pub truth_value_from_state-no_file : ¬ IsFile truth_value_from_state
truth_value_from_state-no_file file =
    let tested = file.content.next_tests 0 (record { sign = signs.Plus; next = Inner 0 }) refl 0 (IsTested-own truth_value_from_state.nodes 0 only refl) in
    false≢true (ap (λ (v : Variable). is_in_letters v.order) (same_Some (record { name = 0; order = Zero }) tested.0 tested.1) ∙ tested.2)

-- x has two 1s
abbrev two_bits : Word
two_bits = record { truth = []; letters = (true ∷ []) ∷ (true ∷ []) ∷ [] }

two_bits-outside : IsOutside Ws1s (content_of_file two_bits_undefined).variables two_bits
two_bits-outside encoding =
    let one : 2 ≡ 1 = ((encodings_are Ws1s (content_of_file two_bits_undefined).variables two_bits (tt, tt)).0 encoding).1.0 in absurd (omega (arith, one))

pub two_bits-no_file : ¬ IsFile two_bits_undefined
unfolding leaf_of
two_bits-no_file file = let said : Some signs.Zero ≡ Some signs.Outside = (file.signs two_bits (record { truth = refl; letters = (refl, (refl, tt)) })).1 two_bits-outside in cc

pub first_version-no_file : ¬ IsFile outside_in_first_version
first_version-no_file file = file.signs 0 (record { sign = signs.Outside; next = Inner 0 }) refl refl

pub emptiness-spelled : IsSpelled emptiness_file emptiness
unfolding digits
emptiness-spelled = record { text = refl; rules = emptiness-file }

pub line_behind-no_file : (plain : Plain) → ¬ IsSpelled line_behind plain
line_behind-no_file plain is =
    let none = (one_file emptiness_file (line []) emptiness plain emptiness-spelled is).1 in
    let one : 1 ≡ 0 = ap length none in absurd (omega (arith, one))

-- a number has no zero before other digits
no_zero : (n : ℕ) → n < 2 ^ 32 → decimal n ≢ codes "01"
no_zero n small same =
    let one : 2 ≡ 1 = (subst BeginsNumber same (decimal-begins n small)).zero refl in absurd (omega (arith, one))

-- the first two lines
abbrev first_head : Head
first_head = record { version = versions.One; mode = Ws1s }

-- what stands behind the number of variables
abbrev behind_number : List ℕ
behind_number = codes "2 P\nstart s0\nstates 2\n+ n0\n- s1\nnodes 1\n0 s0 s1\nend\n"

pub zero_before-no_file : (plain : Plain) → ¬ IsSpelled zero_before plain
zero_before-no_file plain is =
    let word = field (codes "variables") in
    let n = length plain.variables in
    let body = body_text (body_of plain) in
    let lines = flat_map variable_line plain.variables in
    let small : n < 2 ^ 32 = is.rules.few_variables in
    let whole : head_text (head_of plain) ++ (variables_text plain.variables ++ body) ≡ head_text first_head ++ (word ++ (ended 10 (codes "01") ++ behind_number)) = content_text-spelled plain ∙ sym is.text in
    let head = head-one_form (head_of plain) first_head (variables_text plain.variables ++ body) (word ++ (ended 10 (codes "01") ++ behind_number)) tt tt whole in
    let behind = append_cancel_left (head_text first_head) (variables_text plain.variables ++ body) (word ++ (ended 10 (codes "01") ++ behind_number))
    (subst (λ (h : Head). head_text h ++ (variables_text plain.variables ++ body) ≡ head_text first_head ++ (word ++ (ended 10 (codes "01") ++ behind_number))) head whole) in
    let counted = append_cancel_left word (ended 10 (decimal n) ++ (lines ++ body)) (ended 10 (codes "01") ++ behind_number) (sym (section-parts word variable_line plain.variables body) ∙ behind) in
    no_zero n small (ended-one 10 (decimal n) (codes "01") (lines ++ body) behind_number refl (decimal-field n small) refl counted).0
