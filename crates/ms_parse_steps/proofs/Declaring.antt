-- The words that begin declarations, as the code takes them.
use Rattle.std.proofs.Common.{◌≡◌, ℕ, suc, ◌+◌, Bool, List, [], ◌∷◌, codes, bytes_eq, refl, sym, ap, ◌∙◌, arith}
use Rattle.ms_list.specs.declared.at.At.{At}
use Rattle.ms_text.specs.TokenList.{Lexed}
use Rattle.ms_logic.specs.declared.mode.Order.{Order}
use Rattle.ms_parse_grammar.specs.Symbol.{name, text, Placed, placed}
use Rattle.ms_parse_grammar.specs.Tree.{Document}
use Rattle.ms_parse_steps.specs.declared.terminal.Terminal.{Terminal}
use Rattle.ms_parse_steps.specs.declared.terminal.Terminal.TheVariants as terminals
use Rattle.ms_parse_steps.specs.inner.Machine.{in_formula, in_goal, outside, wanted, took, begin, begin_name, begin_named, begin_declaration, step}
use Rattle.ms_parse_steps.specs.inner.Goals.{BeginsGoal}
use Rattle.ms_parse_steps.specs.inner.Terminals.{symbol_with, behind, IsNext}
use Rattle.ms_parse_steps.proofs.Frames.{chosen_yes}
use Rattle.ms_parse_steps.proofs.Taking.{one_more, symbol_found}

-- the terminals of other declarations
abbrev pub IsOtherWord : Terminal → Type 0
IsOtherWord (terminals.Variables o) = ⊥
IsOtherWord terminals.Const = ⊥
IsOtherWord (terminals.Predicate is_pred) = ⊥
IsOtherWord terminals.Include = ⊥
IsOtherWord (terminals.Default o) = ⊥
IsOtherWord terminals.Name = ⊥
IsOtherWord _ = Unit {0}

pub other_word : (s : Terminal) → ((o : Order) → s ≡ terminals.Variables o → ⊥) → (s ≡ terminals.Const → ⊥) → ((is_pred : Bool) → s ≡ terminals.Predicate is_pred → ⊥) → (s ≡ terminals.Include → ⊥) → ((o : Order) → s ≡ terminals.Default o → ⊥) → (s ≡ terminals.Name → ⊥) → IsOtherWord s
other_word (terminals.Variables o) kinds const predicates include defaults names = kinds o refl
other_word terminals.Const kinds const predicates include defaults names = const refl
other_word (terminals.Predicate is_pred) kinds const predicates include defaults names = predicates is_pred refl
other_word terminals.Include kinds const predicates include defaults names = include refl
other_word (terminals.Default o) kinds const predicates include defaults names = defaults o refl
other_word terminals.Name kinds const predicates include defaults names = names refl
other_word _ kinds const predicates include defaults names = tt

formula_by : (limit : ℕ) (d : Document) (at : At) (s : Terminal) (bytes : List ℕ) (from ts : List Placed) → IsOtherWord s → begin_declaration limit d at (symbol_with s bytes) from ts ≡ begin limit (in_formula d at) [] at (symbol_with s bytes) from ts
formula_by limit d at (terminals.Variables o) bytes from ts other = absurd other
formula_by limit d at terminals.Const bytes from ts other = absurd other
formula_by limit d at (terminals.Predicate is_pred) bytes from ts other = absurd other
formula_by limit d at terminals.Include bytes from ts other = absurd other
formula_by limit d at (terminals.Default o) bytes from ts other = absurd other
formula_by limit d at terminals.Name bytes from ts other = absurd other
formula_by limit d at _ bytes from ts other = refl

pub formula_begun : (limit : ℕ) (d : Document) (at : At) (s : Terminal) (bytes : List ℕ) (ts g : List Placed) → IsOtherWord s → ts ≡ placed (symbol_with s bytes) at ∷ g → step limit (outside d) ts ≡ step limit (wanted (in_formula d at) []) ts
formula_begun limit d at s bytes ts g other next =
    ap (step limit (outside d)) next ∙ formula_by limit d at s bytes (placed (symbol_with s bytes) at ∷ g) g other ∙ sym (ap (step limit (wanted (in_formula d at) [])) next)

-- a word that begins a declaration
pub word_begun : (limit : ℕ) (d : Document) (at : At) (s is : Terminal) (bytes : List ℕ) (file : ℕ) (lexed : Lexed) (i : ℕ) → s ≡ is → IsNext file lexed i (symbol_with s bytes) at
    → step limit (outside d) (behind file lexed i) ≡ begin_declaration limit d at (symbol_with is bytes) (behind file lexed i) (behind file lexed (i + 1))
word_begun limit d at s is bytes file lexed i same next =
    symbol_found (begin_declaration limit d) file lexed i (symbol_with s bytes) at next ∙ ap (λ x. begin_declaration limit d at (symbol_with x bytes) (behind file lexed i) (behind file lexed (i + 1))) same

-- `goal` and its title begin a declaration
pub goal_begun : (limit : ℕ) (d : Document) (at : At) (n : List ℕ) (file : ℕ) (lexed : Lexed) (i : ℕ) (title : List ℕ) (at_title : At)
    → IsNext file lexed i (name n) at → BeginsGoal file lexed i title at_title
    → step limit (outside d) (behind file lexed i) ≡ took (wanted (in_goal d at at_title title) []) (behind file lexed (i + 2))
goal_begun limit d at n file lexed i title at_title named (there, next, titled) =
    let both : placed (name n) at ∷ behind file lexed (suc i) ≡ placed (name (codes "goal")) there ∷ behind file lexed (suc i) = sym named ∙ next in
    let same : n ≡ codes "goal" = cc in
    let rest = behind file lexed (suc (i + 1)) in
    let two : suc (i + 1) ≡ i + 2 = omega arith in
    ap (step limit (outside d)) named ∙ ap (begin_named limit d at n) (one_more file lexed i ∙ titled)
    ∙ chosen_yes (bytes_eq n (codes "goal")) (took (wanted (in_goal d at at_title title) []) rest)
    (begin_name limit (in_formula d at) [] at n (placed (text title) at_title ∷ rest)) (ap (λ x. bytes_eq x (codes "goal")) same)
    ∙ ap (λ k. took (wanted (in_goal d at at_title title) []) (behind file lexed k)) two
