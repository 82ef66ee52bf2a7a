-- Contents that have files.
use Rattle.std.proofs.Common.{◌≡◌, ℕ, suc, List, [], ◌∷◌, ◌++◌, length, map, slice_get, Some, Err, codes, refl, sym, ap, subst, ◌∙◌, arith, append_assoc}
use Rattle.std.specs.List.{AllByRecursion}
use Rattle.std.proofs.lemmas.List.{append-nil, append_cancel_left}
use Rattle.std.proofs.lemmas.List.Elements.{All-from_recursion, recursion_from_All}
use Rattle.ms_arena.specs.declared.node.Node.{Node}
use Rattle.ms_arena.specs.declared.node.Ref.{Ref}
use Rattle.ms_arena.specs.declared.node.Ref.TheVariants.{Leaf, Inner}
use Rattle.ms_logic_words.specs.Content.{Content, NamesPart}
use Rattle.ms_dfa.specs.Files.{content_of_file}
use Rattle.ms_dfa.specs.declared.plain.FileState.{FileState}
use Rattle.ms_dfa.specs.declared.plain.FileVar.{FileVar}
use Rattle.ms_dfa.specs.declared.plain.Plain.{Plain}
use Rattle.ms_text.specs.Spelling.{Spells}
use Rattle.ms_text.specs.declared.token.Kind.TheVariants as kinds
use Rattle.ms_dfafile.specs.declared.fault.FileFault.{FileFault}
use Rattle.ms_dfafile.specs.declared.fault.FileFault.TheVariants as faults
use Rattle.ms_dfafile.specs.declared.parts.Body.{Body}
use Rattle.ms_dfafile.specs.declared.parts.Head.{Head}
use Rattle.ms_dfafile.specs.File.{IsFile, IsSpelled, names_of}
use Rattle.ms_dfafile.specs.inner.Parts.{IsSmallBody, IsSmallPlain, body_of, body_text, content_text, ending_text, head_of, head_text, nodes_text, start_text, states_text, variables_text}
use Rattle.ms_dfafile.specs.inner.Reading.{Gives, HasName, IsOneForm, IsSection, IsSmall, IsSmallNode, IsSmallRef, IsSmallState}
use Rattle.ms_dfafile.specs.inner.Rules.{MeetsRules}
use Rattle.ms_dfafile.specs.Spelling.{line}
use Rattle.ms_dfafile.proofs.PairLemmas.{pair-one_form}
use Rattle.ms_dfafile.proofs.PartsLemmas.{AreSmallNamed, AreSmallTables, content_text-spelled, head-one_form, named_text, nodes-one_form, start-one_form, states-one_form, tables_text, variables-one_form}
use Rattle.ms_dfafile.proofs.RulesLemmas.{length-placed, length-states, next-in_file, next-of}

-- what holds of each item of a list, by its places
all_at : {X : Type 0} (P : X → Type 0) (xs : List X) → ((i : ℕ) (x : X) → slice_get xs i ≡ Some x → P x) → AllByRecursion P xs
all_at P [] at = tt
all_at P (x ∷ xs) at = (at 0 x refl, all_at P xs (λ i. at (suc i)))

names_from : (variables : List FileVar) → AllByRecursion HasName variables → AllByRecursion (Spells kinds.Name) (map (λ v. v.name) variables)
names_from [] all = tt
names_from (v ∷ variables) all = (all.0, names_from variables all.1)

names_to : (variables : List FileVar) → AllByRecursion (Spells kinds.Name) (map (λ v. v.name) variables) → AllByRecursion HasName variables
names_to [] all = tt
names_to (v ∷ variables) all = (all.0, names_to variables all.1)

small_ref : {Sign : Type 0} (content : Content Sign) → IsSmall (length content.states) → IsSmall (length content.nodes) → (r : Ref) → NamesPart content r → IsSmallRef r
small_ref content states nodes (Leaf state) named = omega arith
small_ref content states nodes (Inner node) named = omega arith

-- numbers of a content that has a file have 32 bits, and its names are names
pub small-of : (plain : Plain) → IsFile plain → IsSmallPlain plain
small-of plain file =
    let content = content_of_file plain in
    let states : IsSmall (length content.states) = omega (arith, length-states plain, file.few_states) in
    let next = next-in_file plain (next-of content file.content) in
    let node : (i : ℕ) (n : Node) → slice_get plain.nodes i ≡ Some n → IsSmallNode n = λ i n held. (
      omega (arith, file.content.variables i n held, length-placed plain.variables, file.few_variables),
      small_ref content states file.few_nodes n.low (file.content.low_named i n held),
      small_ref content states file.few_nodes n.high (file.content.high_named i n held),
    ) in (
      (file.few_variables, names_to plain.variables (recursion_from_All (Spells kinds.Name) (names_of plain) file.names)),
      (
        small_ref content states file.few_nodes plain.start file.content.start_named,
        (
          (file.few_states, all_at IsSmallState plain.states (λ i state held. small_ref content states file.few_nodes state.next (next i state held).0)),
          (file.few_nodes, all_at IsSmallNode plain.nodes node),
        ),
      ),
    )

-- such a content has a file where it meets the rules
pub file-from : (plain : Plain) → IsSmallPlain plain → MeetsRules plain → IsFile plain
file-from plain small meets = record {
  few_variables = small.0.0;
  few_states = small.1.1.0.0;
  few_nodes = small.1.1.1.0;
  names = All-from_recursion (Spells kinds.Name) (names_of plain) (names_from plain.variables small.0.1);
  different = meets.different;
  content = meets.content;
  signs = meets.signs;
}

-- contents are found in one way
ending-one_form : IsOneForm ending_text (IsSection IsSmallNode)
ending-one_form one two rest other small_one small_two same =
    let end = line (codes "end") in
    nodes-one_form one two (end ++ rest) (end ++ other) small_one small_two (sym (append_assoc (nodes_text one) end rest) ∙ same ∙ append_assoc (nodes_text two) end other)

tables-one_form : IsOneForm tables_text AreSmallTables
tables-one_form = pair-one_form states_text (IsSection IsSmallState) ending_text (IsSection IsSmallNode) states-one_form ending-one_form

body-one_form : IsOneForm body_text IsSmallBody
body-one_form one two rest other small_one small_two same =
    let both = pair-one_form start_text IsSmallRef tables_text AreSmallTables start-one_form tables-one_form (one.start, (one.states, one.nodes)) (two.start, (two.states, two.nodes)) rest other small_one small_two same in
    ap (λ (p : Ref × (List FileState × List Node)). record { start = p.0; states = p.1.0; nodes = p.1.1 }) both

named-one_form : IsOneForm named_text AreSmallNamed
named-one_form = pair-one_form variables_text (IsSection HasName) body_text IsSmallBody variables-one_form body-one_form

pub content-one_form : IsOneForm content_text IsSmallPlain
content-one_form one two rest other small_one small_two same =
    let both = pair-one_form head_text (λ _. Unit {0}) named_text AreSmallNamed head-one_form named-one_form (head_of one, (one.variables, body_of one)) (head_of two, (two.variables, body_of two)) rest other (tt, small_one) (tt, small_two) same in
    ap (λ (p : Head × (List FileVar × Body)). record { version = p.0.version; mode = p.0.mode; variables = p.1.0; start = p.1.1.start; states = p.1.1.states; nodes = p.1.1.nodes }) both

-- the content that was read is the one that bytes spell
pub same_content : (bytes : List ℕ) (read spelled_one : Plain) → IsSmallPlain read → bytes ≡ content_text read → IsSpelled bytes spelled_one → read ≡ spelled_one
same_content bytes read spelled_one small text is =
    content-one_form read spelled_one [] [] small (small-of spelled_one is.rules) (ap (λ (front : List ℕ). front ++ []) (sym text ∙ is.text ∙ sym (content_text-spelled spelled_one)))

-- none is spelled where none was read
pub no_content : (bytes : List ℕ) (fault : FileFault) → Gives content_text IsSmallPlain bytes (Err fault) → fault ≡ faults.Text → (plain : Plain) → ¬ IsSpelled bytes plain
no_content bytes faults.Text none is_text plain is = none plain (small-of plain is.rules) (is.text ∙ sym (content_text-spelled plain))
no_content bytes faults.Memory none is_text plain is = cc

-- where a file goes on, and another file is there, nothing goes on
pub one_file : (bytes more : List ℕ) (one other : Plain) → IsSpelled bytes one → IsSpelled (bytes ++ more) other → (one ≡ other) × (more ≡ [])
one_file bytes more one other is_one is_other =
    let whole : content_text one ++ more ≡ content_text other ++ [] =
    ap (λ (front : List ℕ). front ++ more) (content_text-spelled one ∙ sym is_one.text) ∙ is_other.text ∙ sym (content_text-spelled other) ∙ sym (append-nil (content_text other)) in
    let same = content-one_form one other more [] (small-of one is_one.rules) (small-of other is_other.rules) whole in
    (same, append_cancel_left (content_text other) more [] (subst (λ (p : Plain). content_text p ++ more ≡ content_text other ++ []) same whole))

pub one_content : (bytes : List ℕ) (one other : Plain) → IsSpelled bytes one → IsSpelled bytes other → one ≡ other
one_content bytes one other is_one is_other = (one_file bytes [] one other is_one (subst (λ (b : List ℕ). IsSpelled b other) (sym (append-nil bytes)) is_other)).0
