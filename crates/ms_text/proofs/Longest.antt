-- Which slices at the front of bytes are tokens.
use Rattle.std.proofs.Common.{◌≡◌, ℕ, ◌<◌, ◌≤◌, true, List, [], ◌∷◌, ◌++◌, length, drop, sym, refl, ap, ◌∙◌, arith, append_assoc}
use Rattle.std.specs.Char.{is_ascii_digit}
use Rattle.std.specs.List.{list_all}
use Rattle.std.proofs.lemmas.Bool.{false≢true}
use Rattle.ms_text.specs.declared.mark.Mark.{Mark}
use Rattle.ms_text.specs.declared.token.Kind.{Kind}
use Rattle.ms_text.specs.declared.token.Kind.TheVariants as kinds
use Rattle.ms_text.specs.Spelling.{is_name_byte, is_identifier, is_text_byte, quoted, mark_spelling, Spells, IsLongest}
use Rattle.ms_text.proofs.Bytes.{Stops, one_run, longest_run}
use Rattle.ms_text.proofs.Starts.{number, text, other, first_group, kind_group, first_group-append, token_group, identifier_bytes, identifier_group, number_group, spelled_identifier, mark_group, mark_nonempty}

-- a front of bytes that begin with another slice begins a token of that slice's group
same_group : (kind : Kind) (front more slice behind : List ℕ) → front ++ more ≡ slice ++ behind → Spells kind front → 0 < length slice → kind_group kind ≡ first_group slice
same_group kind front more slice behind e spelled nonempty =
    sym (token_group kind front more spelled) ∙ ap first_group e ∙ first_group-append slice behind nonempty

identifier_nonempty : (slice : List ℕ) → is_identifier slice ≡ true → 0 < length slice
identifier_nonempty [] is = absurd (false≢true is)
identifier_nonempty (b ∷ bs) is = omega arith

-- an identifier is longest where no byte of a name follows
pub longest_identifier : (slice behind : List ℕ) → is_identifier slice ≡ true → Stops is_name_byte behind → IsLongest slice behind
longest_identifier slice behind is stops kind front more e spelled =
    let same = same_group kind front more slice behind e spelled (identifier_nonempty slice is) ∙ identifier_group slice is in
    longest_run is_name_byte front more slice behind (identifier_bytes front (spelled_identifier kind front spelled same)) stops e

spelled_digits : (kind : Kind) (slice : List ℕ) → Spells kind slice → kind_group kind ≡ number → list_all is_ascii_digit slice ≡ true
spelled_digits kinds.Name slice spelled same = cc
spelled_digits (kinds.Word word) slice spelled same = cc
spelled_digits kinds.LeftOut slice spelled same = cc
spelled_digits (kinds.Number value) slice spelled same = spelled.1
spelled_digits kinds.Text slice spelled same = cc
spelled_digits (kinds.Mark mark) slice spelled same = cc

-- a number is longest where no digit follows
pub longest_number : (slice behind : List ℕ) → 0 < length slice → list_all is_ascii_digit slice ≡ true → Stops is_ascii_digit behind → IsLongest slice behind
longest_number slice behind nonempty digits stops kind front more e spelled =
    let same = same_group kind front more slice behind e spelled nonempty ∙ number_group slice nonempty digits in
    longest_run is_ascii_digit front more slice behind (spelled_digits kind front spelled same) stops e

pub spelled_text : (kind : Kind) (slice : List ℕ) → Spells kind slice → kind_group kind ≡ text → Spells kinds.Text slice
spelled_text kinds.Name slice spelled same = cc
spelled_text (kinds.Word word) slice spelled same = cc
spelled_text kinds.LeftOut slice spelled same = cc
spelled_text (kinds.Number value) slice spelled same = cc
spelled_text kinds.Text slice spelled same = spelled
spelled_text (kinds.Mark mark) slice spelled same = cc

-- two texts at one place have one content
pub one_content : (one two after behind : List ℕ) → list_all is_text_byte one ≡ true → list_all is_text_byte two ≡ true → quoted one ++ after ≡ quoted two ++ behind → one ≡ two
one_content one two after behind pass_one pass_two e =
    let inner : one ++ (34 ∷ after) ≡ two ++ (34 ∷ behind) =
    sym (append_assoc one (34 ∷ []) after) ∙ ap (drop 1) e ∙ append_assoc two (34 ∷ []) behind
    in
    (one_run is_text_byte one two (34 ∷ after) (34 ∷ behind) pass_one pass_two refl refl inner).0

-- a closed text is longest
pub longest_text : (content behind : List ℕ) → list_all is_text_byte content ≡ true → IsLongest (quoted content) behind
longest_text content behind passes kind front more e spelled =
    let same = same_group kind front more (quoted content) behind e spelled (omega arith) in
    let as_text = spelled_text kind front spelled same in
    let contents = one_content as_text.0 content more behind as_text.2 passes (ap (λ bytes. bytes ++ more) (sym as_text.1) ∙ e) in
    omega (arith, ap length as_text.1, ap (λ bytes. length (quoted bytes)) contents)

pub spelled_mark : (kind : Kind) (slice : List ℕ) → Spells kind slice → kind_group kind ≡ other → (mark : Mark) × (slice ≡ mark_spelling mark)
spelled_mark kinds.Name slice spelled same = cc
spelled_mark (kinds.Word word) slice spelled same = cc
spelled_mark kinds.LeftOut slice spelled same = cc
spelled_mark (kinds.Number value) slice spelled same = cc
spelled_mark kinds.Text slice spelled same = cc
spelled_mark (kinds.Mark mark) slice spelled same = (mark, spelled)

-- a mark is longest where no longer mark begins
pub longest_sign : (mark : Mark) (behind : List ℕ) → ((longer : Mark) (more : List ℕ) → mark_spelling mark ++ behind ≡ mark_spelling longer ++ more → length (mark_spelling longer) ≤ length (mark_spelling mark)) → IsLongest (mark_spelling mark) behind
longest_sign mark behind none_longer kind front more e spelled =
    let same = same_group kind front more (mark_spelling mark) behind e spelled (mark_nonempty mark) ∙ mark_group mark in
    let as_mark = spelled_mark kind front spelled same in
    omega (arith, ap length as_mark.1, none_longer as_mark.0 more (sym e ∙ ap (λ bytes. bytes ++ more) as_mark.1))
