-- Steps as the code takes them.
use Rattle.std.proofs.Common.{◌≡◌, ◌≢◌, ℕ, suc, ◌+◌, ◌-◌, Bool, true, false, inl, inr, List, [], ◌∷◌, Option, Some, None, refl, sym, ap, ◌∙◌, subst, arith}
use Rattle.std.proofs.lemmas.Bool.{false≢true}
use Rattle.std.specs.Prelude.{Result, IfSome}
use Rattle.ms_list.specs.declared.at.At.{At}
use Rattle.ms_text.specs.TokenList.{Lexed}
use Rattle.ms_logic.specs.declared.source.PlacedInt.{PlacedInt}
use Rattle.ms_logic.specs.declared.mode.Order.{Order}
use Rattle.ms_logic.specs.declared.mode.Rel.TheVariants.{Equal}
use Rattle.ms_parse_grammar.specs.declared.operator.Binary.TheVariants.{Relation}
use Rattle.ms_parse_grammar.specs.Reads.{int_symbol, Starts, Follows}
use Rattle.ms_parse_grammar.specs.Symbol.{Symbol, name, text, infix_operator, sign, kind, word_ws1s, open_round, close_round, close_curly, comma, semicolon, arrow, Placed, placed}
use Rattle.ms_parse_grammar.specs.Tree.{Variables, no_variables, and_variable, Domain}
use Rattle.ms_parse_steps.specs.declared.frame.Frame.{Frame}
use Rattle.ms_parse_steps.specs.declared.outcome.Outcome.{Outcome}
use Rattle.ms_parse_steps.specs.declared.punctuation.Punctuation.{Punctuation}
use Rattle.ms_parse_steps.specs.declared.punctuation.Punctuation.TheVariants as marks
use Rattle.ms_parse_steps.specs.declared.parser.Parser.{Parser}
use Rattle.ms_parse_steps.specs.declared.configuration.Configuration.{Configuration}
use Rattle.ms_parse_steps.specs.declared.stop.Stop.{Stop}
use Rattle.ms_parse_steps.specs.declared.terminal.Terminal.{Terminal}
use Rattle.ms_parse_steps.specs.declared.terminal.Terminal.TheVariants as terminals
use Rattle.ms_parse_steps.specs.inner.Kinds.{IsKind, IsNoKind, last_order}
use Rattle.ms_parse_steps.specs.inner.Machine as machine
use Rattle.ms_parse_steps.specs.inner.Machine.{Move, took, misplaced, too_deep, is_mark, either_mark, mark_then, or_else, said_then, name_then, text_then, int_then, symbol_then, kind_then, settle}
use Rattle.ms_parse_steps.specs.inner.Outcomes.{StopsAs, ActsAs}
use Rattle.ms_parse_steps.specs.inner.Punctuations.{punctuation, IsNot}
use Rattle.ms_parse_steps.specs.inner.Configurations.{StepsAs}
use Rattle.ms_parse_steps.specs.inner.Said.{name_of, int_of}
use Rattle.ms_parse_steps.specs.inner.Terminals.{behind, symbol_with, IsNext, SaysNot, NoName, NoInt}
use Rattle.ms_parse_steps.proofs.Frames.{chosen_yes, chosen_no}
use Rattle.ms_parse_steps.proofs.Moves.{int_read}
use Rattle.ms_parse_steps.proofs.Steps.{at_start}

-- another form of the same step

pub acts_as : (c : machine.Context) (file : ℕ) (lexed : Lexed) (step step' : Move) (frames : List Frame) (r : Result (Outcome × ℕ) Stop) → step ≡ step' → ActsAs c file lexed step' frames r → ActsAs c file lexed step frames r
acts_as c file lexed step step' frames r same is_so = subst (λ x. ActsAs c file lexed x frames r) (sym same) is_so

pub steps_as : (file : ℕ) (lexed : Lexed) (step step' : Move) (parser : Parser) (r : Result (Configuration × ℕ) Stop) → step ≡ step' → StepsAs file lexed step' parser r → StepsAs file lexed step parser r
steps_as file lexed step step' parser r same stepped = subst (λ x. StepsAs file lexed x parser r) (sym same) stepped

pub stops_as : (file : ℕ) (lexed : Lexed) (step step' : Move) (stop : Stop) → step ≡ step' → StopsAs file lexed step' stop → StopsAs file lexed step stop
stops_as file lexed step step' stop same stops = subst (λ x. StopsAs file lexed x stop) (sym same) stops

pub one_more : (file : ℕ) (lexed : Lexed) (i : ℕ) → behind file lexed (suc i) ≡ behind file lexed (i + 1)
one_more file lexed i = let one : suc i ≡ i + 1 = omega arith in ap (behind file lexed) one

-- one number further
pub one_behind : (file : ℕ) (lexed : Lexed) (i : ℕ) → behind file lexed (i + 1 - 1) ≡ behind file lexed i
one_behind file lexed i = let one : i + 1 - 1 ≡ i = omega arith in ap (behind file lexed) one

-- What is wanted next, as the code finds it.

mark_is : (m : Punctuation) → is_mark (punctuation m) (punctuation m) ≡ true
mark_is marks.OpenRound = refl
mark_is _ = refl

unmarked : (b : Bool) → (b ≡ true → ⊥) → b ≡ false
unmarked true never = absurd (never refl)
unmarked false never = refl

same_mark : (m : Punctuation) (s : Symbol) → is_mark (punctuation m) s ≡ true → s ≡ punctuation m
same_mark marks.OpenRound open_round is = refl
same_mark marks.CloseRound close_round is = refl
same_mark marks.CloseCurly close_curly is = refl
same_mark marks.Comma comma is = refl
same_mark marks.Semicolon semicolon is = refl
same_mark marks.Arrow arrow is = refl
same_mark marks.Equal (infix_operator (Relation Equal)) is = refl
same_mark marks.Minus (sign true) is = refl
same_mark marks.Ws1s word_ws1s is = refl
same_mark _ _ is = absurd (false≢true is)

-- a symbol that stands there, and one that does not
pub mark_found : (m : Punctuation) (further other : List Placed → Move) (ts ts' : List Placed) → Follows (punctuation m) ts ts' → either_mark (punctuation m) further other ts ≡ further ts'
mark_found m further other ts ts' follows =
    ap (either_mark (punctuation m) further other) follows.1 ∙ chosen_yes (is_mark (punctuation m) (punctuation m)) (further ts') (other (placed (punctuation m) follows.0 ∷ ts')) (mark_is m)

pub mark_missing : (m : Punctuation) (further other : List Placed → Move) (ts : List Placed) → IsNot (punctuation m) ts → either_mark (punctuation m) further other ts ≡ other ts
mark_missing m further other [] none = refl
mark_missing m further other (placed s a ∷ ts) none =
    chosen_no (is_mark (punctuation m) s) (further ts) (other (placed s a ∷ ts)) (unmarked (is_mark (punctuation m) s) (λ is. none (same_mark m s is)))

pub name_found : (further : At → List ℕ → List Placed → Move) (file : ℕ) (lexed : Lexed) (i : ℕ) (n : List ℕ) (at : At) → IsNext file lexed i (name n) at → name_then further (behind file lexed i) ≡ further at n (behind file lexed (i + 1))
name_found further file lexed i n at next = ap (name_then further) next ∙ ap (further at n) (one_more file lexed i)

else_taken : {X : Type 0} (further : X → Move) (otherwise : Move) (o : Option X) → IfSome o (λ x. ⊥) → or_else further otherwise o ≡ otherwise
else_taken further otherwise None none = refl
else_taken further otherwise (Some x) none = absurd none

pub said_missing : {X : Type 0} (said : Symbol → Option X) (further : At → X → List Placed → Move) (ts : List Placed) → SaysNot said ts → said_then said further ts ≡ misplaced ts
said_missing said further [] none = refl
said_missing said further (placed s a ∷ ts) none = else_taken (λ x. further a x ts) (misplaced (placed s a ∷ ts)) (said s) none

pub name_missing : (further : At → List ℕ → List Placed → Move) (ts : List Placed) → NoName ts → name_then further ts ≡ misplaced ts
name_missing further ts none = said_missing name_of further ts none

pub text_found : (further : At → List ℕ → List Placed → Move) (file : ℕ) (lexed : Lexed) (i : ℕ) (n : List ℕ) (at : At) → IsNext file lexed i (text n) at → text_then further (behind file lexed i) ≡ further at n (behind file lexed (i + 1))
text_found further file lexed i n at next = ap (text_then further) next ∙ ap (further at n) (one_more file lexed i)

pub int_found : (minus : Bool) (further : PlacedInt → List Placed → Move) (v : PlacedInt) (ts ts' : List Placed) → Starts true (int_symbol v.value) v.at ts ts' → v.minus ≡ minus → int_then minus further ts ≡ further v ts'
int_found minus further v ts ts' starts same =
    ap (int_then minus further) (at_start (int_symbol v.value) v.at ts ts' starts) ∙ int_read minus further v.value v.at ts' ∙ ap (λ m. further (record { at = v.at; value = v.value; minus = m }) ts') (sym same)

pub int_missing : (minus : Bool) (further : PlacedInt → List Placed → Move) (ts : List Placed) → NoInt ts → int_then minus further ts ≡ misplaced ts
int_missing minus further ts none = said_missing int_of (λ a v. further (record { at = a; value = v; minus = minus })) ts none

pub symbol_found : (further : At → Symbol → List Placed → List Placed → Move) (file : ℕ) (lexed : Lexed) (i : ℕ) (s : Symbol) (at : At) → IsNext file lexed i s at
    → symbol_then further (behind file lexed i) ≡ further at s (behind file lexed i) (behind file lexed (i + 1))
symbol_found further file lexed i s at next =
    ap (symbol_then further) next ∙ ap (λ x. further at s x (behind file lexed (suc i))) (sym next) ∙ ap (further at s (behind file lexed i)) (one_more file lexed i)

-- the same, where the number behind the symbol is given
pub symbol_behind : (further : At → Symbol → List Placed → List Placed → Move) (file : ℕ) (lexed : Lexed) (i : ℕ) (s : Symbol) (at : At) → IsNext file lexed i s at
    → symbol_then further (behind file lexed i) ≡ further at s (behind file lexed (i + 1 - 1)) (behind file lexed (i + 1))
symbol_behind further file lexed i s at next = symbol_found further file lexed i s at next ∙ ap (λ x. further at s x (behind file lexed (i + 1))) (sym (one_behind file lexed i))

-- the same behind a name
pub symbol_second : (further : At → Symbol → List Placed → List Placed → Move) (file : ℕ) (lexed : Lexed) (i : ℕ) (s : Symbol) (at : At) → IsNext file lexed (i + 1) s at
    → symbol_then further (behind file lexed (i + 1)) ≡ further at s (behind file lexed (i + 2 - 1)) (behind file lexed (i + 2))
symbol_second further file lexed i s at next =
    let two : i + 1 + 1 ≡ i + 2 = omega arith in
    let back : i + 2 - 1 ≡ i + 1 = omega arith in
    symbol_found further file lexed (i + 1) s at next ∙ ap (λ n. further at s (behind file lexed (i + 1)) (behind file lexed n)) two ∙ ap (λ n. further at s (behind file lexed n) (behind file lexed (i + 2))) (sym back)

no_kind_first : (further : Order → List Placed → Move) (ts : List Placed) → IsNoKind ts → kind_then no_variables further ts ≡ misplaced ts
no_kind_first further [] none = refl
no_kind_first further (placed (kind o) a ∷ ts) none = absurd none
no_kind_first further (placed _ a ∷ ts) none = refl

no_kind_further : (vs : Variables) (at : At) (o : Order) (n : List ℕ) (x : Domain) (further : Order → List Placed → Move) (ts : List Placed) → IsNoKind ts → kind_then (and_variable vs at o n x) further ts ≡ further o ts
no_kind_further vs at o n x further [] none = refl
no_kind_further vs at o n x further (placed (kind p) a ∷ ts) none = absurd none
no_kind_further vs at o n x further (placed _ a ∷ ts) none = refl

kind_kept : (vs : Variables) (o : Order) (further : Order → List Placed → Move) (ts : List Placed) → IsNoKind ts → last_order vs ≡ Some o → kind_then vs further ts ≡ further o ts
kind_kept no_variables o further ts none last = let never : ⊥ = cc in absurd never
kind_kept (and_variable vs at p n x) o further ts none last = let same : p ≡ o = cc in no_kind_further vs at p n x further ts none ∙ ap (λ q. further q ts) same

-- a kind that stands there or is that of the parameter before
pub kind_found : (vs : Variables) (o : Order) (further : Order → List Placed → Move) (ts ts' : List Placed) → IsKind vs o ts ts' → kind_then vs further ts ≡ further o ts'
kind_found vs o further ts ts' (inl follows) = ap (kind_then vs further) follows.1
kind_found vs o further ts ts' (inr (none, last, same)) = kind_kept vs o further ts none last ∙ ap (further o) same

-- where no name stands, the terminal is none
pub no_name_terminal : (ts g : List Placed) (terminal : Terminal) (bytes : List ℕ) (at : At) → NoName ts → ts ≡ placed (symbol_with terminal bytes) at ∷ g → terminal ≢ terminals.Name
no_name_terminal ts g terminal bytes at none next is = subst NoName (next ∙ ap (λ s. placed (symbol_with s bytes) at ∷ g) is) none
