-- Each kind of line is found in one way.
use Rattle.std.proofs.Common.{◌≡◌, ℕ, ◌<◌, true, List, [], ◌∷◌, ◌++◌, length, get_or, Err, IsUtf8, refl, sym, ap, ◌∙◌, arith, ⊎_elim}
use Rattle.std.specs.Fmt.{decimal}
use Rattle.std.specs.List.{list_all}
use Rattle.std.proofs.lemmas.Bool.{cases_lt}
use Rattle.std.proofs.lemmas.Bool.Decides.{nat_tests}
use Rattle.std.proofs.lemmas.List.{get_or_past}
use Rattle.std.proofs.lemmas.List.Recursion.{and_at}
use Rattle.std.proofs.lemmas.Str.{IsUtf8-from_ascii}
use Rattle.ms_arena.specs.declared.node.Ref.{Ref}
use Rattle.ms_logic.specs.declared.mode.Order.{Order}
use Rattle.ms_logic.specs.declared.mode.Order.TheVariants.{Zero, One, Two}
use Rattle.ms_dfa.specs.declared.plain.FileSign.{FileSign}
use Rattle.ms_dfa.specs.declared.plain.FileSign.TheVariants as signs
use Rattle.ms_text.specs.Spelling.{Spells, is_identifier, is_name_byte, is_name_start}
use Rattle.ms_text.specs.declared.token.Kind.TheVariants as kinds
use Rattle.ms_text.proofs.Bytes.{and_both}
use Rattle.ms_text.proofs.Starts.{start_is_byte}
use Rattle.ms_dfafile.specs.declared.fault.FileFault.{FileFault}
use Rattle.ms_dfafile.specs.declared.fault.FileFault.TheVariants as faults
use Rattle.ms_dfafile.specs.inner.Reading.{BeginsWith, BeginsWithNone, Finds, Gives, HasName, IsField, IsOneForm, IsSmall, IsSmallNode, IsSmallRef, IsSmallState, is_field_byte}
use Rattle.ms_dfafile.specs.Spelling.{field, line, node_line, order_text, ref_text, sign_text, state_line, variable_line}
use Rattle.ms_dfafile.proofs.FieldLemmas.{ended-one}
use Rattle.ms_dfafile.proofs.NumberLemmas.{number-one_form, reference-one_form}
use Rattle.ms_dfafile.proofs.PairLemmas.{pair-one_form, second_missing}

first_byte : (one two : List ℕ) → one ≡ two → get_or one 0 0 ≡ get_or two 0 0
first_byte one two same = ap (λ (bytes : List ℕ). get_or bytes 0 0) same

-- the orders, and the signs, differ in their first byte
pub order-one_form : IsOneForm (λ order. field (order_text order)) (λ _. Unit {0})
order-one_form Zero Zero behind other fits suits same = refl
order-one_form Zero One behind other fits suits same = absurd (omega (arith, first_byte _ _ same))
order-one_form Zero Two behind other fits suits same = absurd (omega (arith, first_byte _ _ same))
order-one_form One Zero behind other fits suits same = absurd (omega (arith, first_byte _ _ same))
order-one_form One One behind other fits suits same = refl
order-one_form One Two behind other fits suits same = absurd (omega (arith, first_byte _ _ same))
order-one_form Two Zero behind other fits suits same = absurd (omega (arith, first_byte _ _ same))
order-one_form Two One behind other fits suits same = absurd (omega (arith, first_byte _ _ same))
order-one_form Two Two behind other fits suits same = refl

pub sign-one_form : IsOneForm (λ sign. field (sign_text sign)) (λ _. Unit {0})
sign-one_form signs.Plus signs.Plus behind other fits suits same = refl
sign-one_form signs.Plus signs.Minus behind other fits suits same = absurd (omega (arith, first_byte _ _ same))
sign-one_form signs.Plus signs.Outside behind other fits suits same = absurd (omega (arith, first_byte _ _ same))
sign-one_form signs.Minus signs.Outside behind other fits suits same = absurd (omega (arith, first_byte _ _ same))
sign-one_form signs.Plus signs.Zero behind other fits suits same = absurd (omega (arith, first_byte _ _ same))
sign-one_form signs.Minus signs.Plus behind other fits suits same = absurd (omega (arith, first_byte _ _ same))
sign-one_form signs.Minus signs.Minus behind other fits suits same = refl
sign-one_form signs.Minus signs.Zero behind other fits suits same = absurd (omega (arith, first_byte _ _ same))
sign-one_form signs.Zero signs.Plus behind other fits suits same = absurd (omega (arith, first_byte _ _ same))
sign-one_form signs.Zero signs.Minus behind other fits suits same = absurd (omega (arith, first_byte _ _ same))
sign-one_form signs.Zero signs.Zero behind other fits suits same = refl
sign-one_form signs.Zero signs.Outside behind other fits suits same = absurd (omega (arith, first_byte _ _ same))
sign-one_form signs.Outside signs.Plus behind other fits suits same = absurd (omega (arith, first_byte _ _ same))
sign-one_form signs.Outside signs.Minus behind other fits suits same = absurd (omega (arith, first_byte _ _ same))
sign-one_form signs.Outside signs.Zero behind other fits suits same = absurd (omega (arith, first_byte _ _ same))
sign-one_form signs.Outside signs.Outside behind other fits suits same = refl

-- a name's bytes may stand in a field
name_byte : (byte : ℕ) → is_name_byte byte ≡ true → is_field_byte byte ≡ true
name_byte byte passes = grind (arith, nat_tests)

names_bytes : (bytes : List ℕ) → list_all is_name_byte bytes ≡ true → IsField bytes
names_bytes [] passes = refl
names_bytes (b ∷ bytes) passes = let parts = and_both (is_name_byte b) (list_all is_name_byte bytes) passes in rw (name_byte b parts.0, names_bytes bytes parts.1) refl

identifier-bytes : (bytes : List ℕ) → is_identifier bytes ≡ true → list_all is_name_byte bytes ≡ true
identifier-bytes [] is = refl
identifier-bytes (b ∷ bytes) is = let parts = and_both (is_name_start b) (list_all is_name_byte bytes) is in rw (start_is_byte b parts.0, parts.1) refl

pub name-field : (name : List ℕ) → Spells kinds.Name name → IsField name
name-field name spelled = names_bytes name (identifier-bytes name spelled.0)

name-one_form : IsOneForm line (Spells kinds.Name)
name-one_form one two rest other is_one is_two same = (ended-one 10 one two rest other refl (name-field one is_one) (name-field two is_two) same).0

pub variable-one_form : IsOneForm variable_line HasName
variable-one_form one two rest other is_one is_two same =
    let both = pair-one_form (λ order. field (order_text order)) (λ _. Unit {0}) line (Spells kinds.Name) order-one_form name-one_form (one.order, one.name) (two.order, two.name) rest other (tt, is_one) (tt, is_two) same in
    ap (λ (p : Order × List ℕ). record { order = p.0; name = p.1 }) both

pub state-one_form : IsOneForm state_line IsSmallState
state-one_form one two rest other is_one is_two same =
    let both = pair-one_form (λ sign. field (sign_text sign)) (λ _. Unit {0}) (λ r. line (ref_text r)) IsSmallRef sign-one_form (reference-one_form 10 refl) (one.sign, one.next) (two.sign, two.next) rest other (tt, is_one) (tt, is_two) same in
    ap (λ (p : FileSign × Ref). record { sign = p.0; next = p.1 }) both

-- the variable and the low end of a node
abbrev pub front_text : ℕ × Ref → List ℕ
front_text front = field (decimal front.0) ++ field (ref_text front.1)

abbrev pub IsSmallFront : ℕ × Ref → Type 0
IsSmallFront front = IsSmall front.0 × IsSmallRef front.1

pub front-one_form : IsOneForm front_text IsSmallFront
front-one_form = pair-one_form (λ n. field (decimal n)) IsSmall (λ r. field (ref_text r)) IsSmallRef (number-one_form 32 refl) (reference-one_form 32 refl)

pub node-one_form : IsOneForm node_line IsSmallNode
node-one_form one two rest other is_one is_two same =
    let both = pair-one_form front_text IsSmallFront (λ r. line (ref_text r)) IsSmallRef front-one_form (reference-one_form 10 refl)
    ((one.var, one.low), one.high) ((two.var, two.low), two.high) rest other ((is_one.0, is_one.1), is_one.2) ((is_two.0, is_two.1), is_two.2) same in
    ap (λ (p : (ℕ × Ref) × Ref). record { var = p.0.0; low = p.0.1; high = p.1 }) both

name_ascii : (byte : ℕ) → is_name_byte byte ≡ true → byte < 128
name_ascii byte passes = grind (arith, nat_tests)

pub name-text : (name : List ℕ) → Spells kinds.Name name → IsUtf8 name
name-text name spelled =
    IsUtf8-from_ascii name (λ i.
    ⊎_elim (λ within. name_ascii (get_or name i 0) (and_at (list_all is_name_byte) is_name_byte refl (λ _ _. refl) name i 0 within (identifier-bytes name spelled.0)))
    (λ past. omega (arith, get_or_past name i 0 past))
    (cases_lt i (length name)))

-- no variable is where its order is and no name behind it
pub name_missing : (bytes : List ℕ) (order : Order) (rest : List ℕ) → BeginsWith (λ order. field (order_text order)) (λ _. Unit {0}) bytes order rest → BeginsWithNone line (Spells kinds.Name) rest → BeginsWithNone variable_line HasName bytes
name_missing bytes order rest begins none variable other fits same =
    second_missing (λ order. field (order_text order)) (λ _. Unit {0}) line (Spells kinds.Name) order-one_form bytes order rest begins none (variable.order, variable.name) other (tt, fits) same

-- what tells of the text of a field tells of the name in front
pub name_told : (bytes : List ℕ) (order : Order) (rest text after : List ℕ) → BeginsWith (λ order. field (order_text order)) (λ _. Unit {0}) bytes order rest → rest ≡ line text ++ after → IsField text
    → (fault : FileFault) → Gives (λ (name : List ℕ). name) (Spells kinds.Name) text (Err fault) → Finds variable_line HasName bytes (Err fault)
name_told bytes order rest text after begins parts inside faults.Text none =
    name_missing bytes order rest begins (λ name behind is same. none name is (ended-one 10 text name after behind refl inside (name-field name is) (sym parts ∙ same)).0)
name_told bytes order rest text after begins parts inside faults.Memory none = tt
