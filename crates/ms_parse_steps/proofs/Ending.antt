-- What stands behind an expression, as the code takes it.
use Rattle.std.proofs.Common.{◌≡◌, ℕ, Bool, true, false, ◌&&◌, List, ◌∷◌, Some, refl, sym, ap, ◌∙◌, subst}
use Rattle.ms_parse_grammar.specs.declared.operator.Binary.{Binary}
use Rattle.ms_parse_grammar.specs.Grammar.{is_in}
use Rattle.ms_parse_grammar.specs.Symbol.{Symbol, Placed}
use Rattle.ms_parse_grammar.specs.Tree.{Expression}
use Rattle.ms_parse_steps.specs.declared.terminal.Terminal.{Terminal}
use Rattle.ms_parse_steps.specs.declared.terminal.Terminal.TheVariants as terminals
use Rattle.ms_parse_steps.specs.inner.Ends.{IsEnd, IsOperator}
use Rattle.ms_parse_steps.specs.inner.Machine.{Frame, Context, in_formula, in_global, in_parameter, in_predicate, in_default, in_goal, shift, in_at, semicolon_at, settle, bound, collapse, on_top, in_part, go_on, misplaced}
use Rattle.ms_parse_steps.specs.inner.Terminals.{symbol_with}
use Rattle.ms_parse_steps.proofs.Frames.{chosen_yes, chosen_no}

-- an infix operator, and the `in` that ends a right side of a `let`
pub infix_settled : (limit : ℕ) (c : Context) (s : Terminal) (op : Binary) (bytes : List ℕ) (inside : Bool) (e : Expression) (st : List Frame) (from ts : List Placed) → s ≡ terminals.Infix op → IsOperator inside (symbol_with s bytes)
    → settle limit c (symbol_with s bytes) inside (e, st) from ts ≡ shift limit c op (e, st) from ts
infix_settled limit c s op bytes inside e st from ts same is =
    let on : (inside && is_in op) ≡ false = subst (λ x. IsOperator inside (symbol_with x bytes)) same is in
    ap (λ x. settle limit c (symbol_with x bytes) inside (e, st) from ts) same ∙ chosen_no (inside && is_in op) (in_at limit c e st from ts) (shift limit c op (e, st) from ts) on

pub in_settled : (limit : ℕ) (c : Context) (s : Terminal) (op : Binary) (bytes : List ℕ) (inside : Bool) (e : Expression) (st : List Frame) (from ts : List Placed) → s ≡ terminals.Infix op → IsEnd inside (symbol_with s bytes)
    → settle limit c (symbol_with s bytes) inside (e, st) from ts ≡ in_at limit c e st from ts
in_settled limit c s op bytes inside e st from ts same is =
    let ends : (inside && is_in op) ≡ true = subst (λ x. IsEnd inside (symbol_with x bytes)) same is in
    ap (λ x. settle limit c (symbol_with x bytes) inside (e, st) from ts) same ∙ chosen_yes (inside && is_in op) (in_at limit c e st from ts) (shift limit c op (e, st) from ts) ends

semicolon_inside : (c : Context) (e : Expression) (f : Frame) (st : List Frame) (from ts : List Placed) → semicolon_at c e (f ∷ st) from ts ≡ misplaced from
semicolon_inside (in_formula d at) e f st from ts = refl
semicolon_inside (in_global d at o vs at_v n) e f st from ts = refl
semicolon_inside (in_parameter d head vs o at_v n) e f st from ts = refl
semicolon_inside (in_predicate d head vs) e f st from ts = refl
semicolon_inside (in_default d at o n) e f st from ts = refl
semicolon_inside (in_goal d at at_title title) e f st from ts = refl

-- the terminals that end nothing in a frame
abbrev pub IsStray : Terminal → Type 0
IsStray terminals.CloseRound = ⊥
IsStray terminals.CloseCurly = ⊥
IsStray terminals.Comma = ⊥
IsStray terminals.Colon = ⊥
IsStray (terminals.Infix op) = ⊥
IsStray _ = Unit {0}

pub stray_settled : (limit : ℕ) (c : Context) (s : Terminal) (bytes : List ℕ) (inside : Bool) (e : Expression) (f : Frame) (st : List Frame) (from ts : List Placed) → IsStray s → IsEnd inside (symbol_with s bytes)
    → settle limit c (symbol_with s bytes) inside (e, f ∷ st) from ts ≡ misplaced from
stray_settled limit c terminals.CloseRound bytes inside e f st from ts stray is = absurd stray
stray_settled limit c terminals.CloseCurly bytes inside e f st from ts stray is = absurd stray
stray_settled limit c terminals.Comma bytes inside e f st from ts stray is = absurd stray
stray_settled limit c terminals.Colon bytes inside e f st from ts stray is = absurd stray
stray_settled limit c (terminals.Infix op) bytes inside e f st from ts stray is = absurd stray
stray_settled limit c (terminals.Joining op) bytes inside e f st from ts stray is = absurd is
stray_settled limit c (terminals.Shift minus) bytes inside e f st from ts stray is = absurd is
stray_settled limit c terminals.Semicolon bytes inside e f st from ts stray is = semicolon_inside c e f st from ts
stray_settled limit c _ bytes inside e f st from ts stray is = refl

-- a step where an expression has been read, behind the symbol that comes first
pub held_settled : (limit : ℕ) (c : Context) (e e' : Expression) (st st' : List Frame) (s : Symbol) (from ts : List Placed) (b : ℕ) → b ≡ bound (in_part st) s → collapse limit b e st ≡ Some (e', st')
    → go_on limit c e st s from ts ≡ settle limit c s (in_part st) (e', st') from ts
held_settled limit c e e' st st' s from ts b is collapsed = ap (on_top (λ top. settle limit c s (in_part st) top from ts) from) (ap (λ x. collapse limit x e st) (sym is) ∙ collapsed)
