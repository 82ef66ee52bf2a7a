-- A text that has tokens has no fault, and a fault is one.
use Rattle.std.proofs.Common.{◌≡◌, ℕ, ◌+◌, ◌<◌, ◌^◌, true, eqb, List, [], ◌∷◌, ◌++◌, length, get_or, drop, IsUtf8, inl, inr, sym, refl, ap, ◌∙◌, subst, arith, append_assoc, length-append}
use Rattle.std.specs.List.{list_all}
use Rattle.std.specs.Str.Parse.{digits_value}
use Rattle.std.proofs.lemmas.Bool.{false≢true}
use Rattle.ms_text.specs.declared.fault.Cause.{Cause}
use Rattle.ms_text.specs.declared.fault.Cause.TheVariants as causes
use Rattle.ms_text.specs.declared.token.Kind.{Kind}
use Rattle.ms_text.specs.declared.token.Kind.TheVariants as kinds
use Rattle.ms_text.specs.declared.token.Token.{Token}
use Rattle.ms_text.specs.Fault.{IsOpenComment, IsCutText, IsUnclosed, BeginsTooLarge, BeginsNoUtf8, IsStray, IsFault, HasFaultBehind}
use Rattle.ms_text.specs.Gap.{is_blank, EndsLine, blank, line_comment, block_comment, IsGap, BeginsNoPiece}
use Rattle.ms_text.specs.Spelling.{is_text_byte, quoted, Spells, IsToken}
use Rattle.ms_text.specs.TokenList.{BeginsWith, IsTokenList, place_behind}
use Rattle.ms_text.proofs.Bytes.{Stops, one_run, same_front}
use Rattle.ms_text.proofs.Longest.{spelled_text, one_content}
use Rattle.ms_text.proofs.OneGap.{one_gap, nothing_behind}
use Rattle.ms_text.proofs.OneReading.{one_begin}
use Rattle.ms_text.proofs.Starts.{number, text, spaced, Group, first_group, kind_group, token_group, not_spaced, no_piece_by_group, no_piece_at_token, spelled_nonempty}

-- the first bytes of faults

too_large_group : (bytes : List ℕ) → BeginsTooLarge bytes → first_group bytes ≡ number
too_large_group bytes large = ap first_group large.made_up ∙ token_group (kinds.Number large.value) large.slice large.behind large.spelled

cut_text_group : (bytes : List ℕ) → IsCutText bytes → first_group bytes ≡ text
cut_text_group bytes cut = ap first_group cut.made_up

no_utf8_group : (bytes : List ℕ) → BeginsNoUtf8 bytes → first_group bytes ≡ text
no_utf8_group bytes no_utf8 = ap first_group no_utf8.made_up

open_comment_group : (bytes : List ℕ) → IsOpenComment bytes → first_group bytes ≡ spaced
open_comment_group bytes opened = ap first_group opened.1

-- a body that never closes begins no whole comment
open_no_piece : (bytes : List ℕ) → IsOpenComment bytes → BeginsNoPiece bytes
open_no_piece bytes opened (blank b) behind e is_piece =
    let same : 47 ≡ b = ap (λ bs. get_or bs 0 0) (sym opened.1 ∙ e) in
    absurd (false≢true (ap is_blank same ∙ is_piece))
open_no_piece bytes opened (line_comment body) behind e is_piece =
    let same : 47 ≡ 35 = ap (λ bs. get_or bs 0 0) (sym opened.1 ∙ e) in
    absurd (false≢true (sym (ap (eqb 47) same)))
open_no_piece bytes opened (block_comment body) behind e is_piece =
    opened.2 body behind (ap (drop 2) (sym opened.1 ∙ e) ∙ append_assoc body (42 ∷ 47 ∷ []) behind)

no_piece_in_group : (bytes : List ℕ) (group : Group) → first_group bytes ≡ group → (group ≡ spaced → ⊥) → BeginsNoPiece bytes
no_piece_in_group bytes group is_group apart = no_piece_by_group bytes (λ same. apart (sym is_group ∙ same))

unclosed_no_piece : (bytes : List ℕ) → IsUnclosed bytes → BeginsNoPiece bytes
unclosed_no_piece bytes (inl opened) = open_no_piece bytes opened
unclosed_no_piece bytes (inr cut) = no_piece_in_group bytes text (cut_text_group bytes cut) (λ same. cc)

-- no blank and no whole comment begins at a fault
pub fault_no_piece : (cause : Cause) (bytes : List ℕ) → IsFault cause bytes → BeginsNoPiece bytes
fault_no_piece (causes.Word b) bytes (inl stray) = stray.no_piece
fault_no_piece (causes.Word b) bytes (inr no_utf8) = no_piece_in_group bytes text (no_utf8_group bytes no_utf8.1) (λ same. cc)
fault_no_piece causes.NumberTooLarge bytes large = no_piece_in_group bytes number (too_large_group bytes large) (λ same. cc)
fault_no_piece causes.Unclosed bytes unclosed = unclosed_no_piece bytes unclosed

-- no fault begins at the end
pub fault_not_at_end : (cause : Cause) → IsFault cause [] → ⊥
fault_not_at_end (causes.Word b) (inl stray) = let long = ap length stray.first.1 in omega (arith, long)
fault_not_at_end (causes.Word b) (inr no_utf8) = let group = no_utf8_group [] no_utf8.1 in cc
fault_not_at_end causes.NumberTooLarge large = let group = too_large_group [] large in cc
fault_not_at_end causes.Unclosed (inl opened) = let group = open_comment_group [] opened in cc
fault_not_at_end causes.Unclosed (inr cut) = let group = cut_text_group [] cut in cc

stops_text : (bytes : List ℕ) → EndsLine bytes → Stops is_text_byte bytes
stops_text [] ends = tt
stops_text (b ∷ bs) ends = ap is_text_byte ends

-- a quoted content is no content that is cut
closed_not_cut : (content cut_one after behind : List ℕ) → quoted content ++ after ≡ 34 ∷ (cut_one ++ behind) → list_all is_text_byte content ≡ true → list_all is_text_byte cut_one ≡ true → EndsLine behind → ⊥
closed_not_cut content cut_one after behind e passes cut_passes ends =
    let inner = sym (append_assoc content (34 ∷ []) after) ∙ ap (drop 1) e in
    let cut = one_run is_text_byte content cut_one (34 ∷ after) behind passes cut_passes refl (stops_text behind ends) inner in
    let line_ends : 34 ≡ 10 = subst EndsLine (sym cut.1) ends in
    false≢true (sym (ap (eqb 34) line_ends))

-- the bytes of a text that a token begins
text_begins : (kind : Kind) (slice behind : List ℕ) → Spells kind slice → first_group (slice ++ behind) ≡ text → Spells kinds.Text slice
text_begins kind slice behind spelled group = spelled_text kind slice spelled (sym (token_group kind slice behind spelled) ∙ group)

-- a text token and bytes that begin with the same quote: its content is UTF-8
token_is_utf8 : (kind : Kind) (slice behind content after : List ℕ) → IsToken kind slice behind → slice ++ behind ≡ quoted content ++ after → list_all is_text_byte content ≡ true → IsUtf8 content
token_is_utf8 kinds.Text slice behind content after is_token e passes =
    let spelled = is_token.spelled in
    let same = one_content spelled.0 content behind after spelled.2 passes (ap (λ bytes. bytes ++ behind) (sym spelled.1) ∙ e) in
    is_token.accepted content (spelled.1 ∙ ap quoted same)
token_is_utf8 kind slice behind content after is_token e passes =
    let same : kind_group kind ≡ text = sym (token_group kind slice behind is_token.spelled) ∙ ap first_group e in absurd cc

token_is_small : (kind : Kind) (slice behind digits after : List ℕ) (value : ℕ) → IsToken kind slice behind → slice ++ behind ≡ digits ++ after → slice ≡ digits → Spells (kinds.Number value) digits → value < 2 ^ 64
token_is_small (kinds.Number n) slice behind digits after value is_token e same spelled =
    let values : n ≡ value = is_token.spelled.2 ∙ ap (digits_value 10) same ∙ sym spelled.2 in
    subst (λ v. v < 2 ^ 64) values is_token.accepted
token_is_small kind slice behind digits after value is_token e same spelled =
    let groups : kind_group kind ≡ number = sym (token_group kind slice behind is_token.spelled) ∙ ap first_group e ∙ token_group (kinds.Number value) digits after spelled in absurd cc

-- no token begins at a fault
pub fault_no_token : (cause : Cause) (bytes : List ℕ) (kind : Kind) (slice behind : List ℕ) → IsFault cause bytes → bytes ≡ slice ++ behind → IsToken kind slice behind → ⊥
fault_no_token (causes.Word b) bytes kind slice behind (inl stray) e is_token = stray.no_token kind slice behind e is_token.spelled
fault_no_token (causes.Word b) bytes kind slice behind (inr no_utf8) e is_token =
    no_utf8.1.not_utf8 (token_is_utf8 kind slice behind no_utf8.1.content no_utf8.1.behind is_token (sym e ∙ no_utf8.1.made_up) no_utf8.1.passes)
fault_no_token causes.NumberTooLarge bytes kind slice behind large e is_token =
    let long = is_token.longest (kinds.Number large.value) large.slice large.behind (sym large.made_up ∙ e) large.spelled in
    let short = large.longest kind slice behind (sym e ∙ large.made_up) is_token.spelled in
    let same = (same_front slice large.slice behind large.behind (omega arith) (sym e ∙ large.made_up)).0 in
    let small = token_is_small kind slice behind large.slice large.behind large.value is_token (sym e ∙ large.made_up) same large.spelled in
    omega (arith, small, large.large)
fault_no_token causes.Unclosed bytes kind slice behind (inl opened) e is_token =
    not_spaced kind (sym (token_group kind slice behind is_token.spelled) ∙ ap first_group (sym e) ∙ open_comment_group bytes opened)
fault_no_token causes.Unclosed bytes kind slice behind (inr cut) e is_token =
    let spelled = text_begins kind slice behind is_token.spelled (ap first_group (sym e) ∙ cut_text_group bytes cut) in
    closed_not_cut spelled.0 cut.content behind cut.behind (ap (λ s. s ++ behind) (sym spelled.1) ∙ sym e ∙ cut.made_up) spelled.2 cut.passes cut.ends

-- the bytes begin with one fault

stray_alone : (b : ℕ) (bytes : List ℕ) (cause : Cause) → IsStray b bytes → IsFault cause bytes → causes.Word b ≡ cause
stray_alone b bytes (causes.Word c) stray (inl other_stray) =
    ap causes.Word (ap (λ bs. get_or bs 0 0) (sym stray.first.1 ∙ other_stray.first.1))
stray_alone b bytes (causes.Word c) stray (inr no_utf8) =
    absurd (stray.no_token kinds.Text (quoted no_utf8.1.content) no_utf8.1.behind no_utf8.1.made_up (no_utf8.1.content, refl, no_utf8.1.passes))
stray_alone b bytes causes.NumberTooLarge stray large = absurd (stray.no_token (kinds.Number large.value) large.slice large.behind large.made_up large.spelled)
stray_alone b bytes causes.Unclosed stray unclosed = absurd (stray.not_open unclosed)

no_utf8_not_unclosed : (bytes : List ℕ) → BeginsNoUtf8 bytes → IsUnclosed bytes → ⊥
no_utf8_not_unclosed bytes no_utf8 (inl opened) = let groups : text ≡ spaced = sym (no_utf8_group bytes no_utf8) ∙ open_comment_group bytes opened in cc
no_utf8_not_unclosed bytes no_utf8 (inr cut) =
    closed_not_cut no_utf8.content cut.content no_utf8.behind cut.behind (sym no_utf8.made_up ∙ cut.made_up) no_utf8.passes cut.passes cut.ends

large_not_unclosed : (bytes : List ℕ) → BeginsTooLarge bytes → IsUnclosed bytes → ⊥
large_not_unclosed bytes large (inl opened) = let groups : number ≡ spaced = sym (too_large_group bytes large) ∙ open_comment_group bytes opened in cc
large_not_unclosed bytes large (inr cut) = let groups : number ≡ text = sym (too_large_group bytes large) ∙ cut_text_group bytes cut in cc

no_utf8_not_large : (bytes : List ℕ) → BeginsNoUtf8 bytes → BeginsTooLarge bytes → ⊥
no_utf8_not_large bytes no_utf8 large = let groups : text ≡ number = sym (no_utf8_group bytes no_utf8) ∙ too_large_group bytes large in cc

one_cause : (one two : Cause) (bytes : List ℕ) → IsFault one bytes → IsFault two bytes → one ≡ two
one_cause (causes.Word b) two bytes (inl stray) is_two = stray_alone b bytes two stray is_two
one_cause one (causes.Word c) bytes is_one (inl stray) = sym (stray_alone c bytes one stray is_one)
one_cause (causes.Word b) (causes.Word c) bytes (inr is_one) (inr is_two) = ap causes.Word (is_one.0 ∙ sym is_two.0)
one_cause (causes.Word b) causes.NumberTooLarge bytes (inr no_utf8) large = absurd (no_utf8_not_large bytes no_utf8.1 large)
one_cause (causes.Word b) causes.Unclosed bytes (inr no_utf8) unclosed = absurd (no_utf8_not_unclosed bytes no_utf8.1 unclosed)
one_cause causes.NumberTooLarge (causes.Word c) bytes large (inr no_utf8) = absurd (no_utf8_not_large bytes no_utf8.1 large)
one_cause causes.NumberTooLarge causes.NumberTooLarge bytes is_one is_two = refl
one_cause causes.NumberTooLarge causes.Unclosed bytes large unclosed = absurd (large_not_unclosed bytes large unclosed)
one_cause causes.Unclosed (causes.Word c) bytes unclosed (inr no_utf8) = absurd (no_utf8_not_unclosed bytes no_utf8.1 unclosed)
one_cause causes.Unclosed causes.NumberTooLarge bytes unclosed large = absurd (large_not_unclosed bytes large unclosed)
one_cause causes.Unclosed causes.Unclosed bytes is_one is_two = refl

-- whole texts

-- the end of a text is no token
end_no_token : (place : ℕ) (bytes : List ℕ) (token : Token) (rest : List ℕ) → IsGap bytes [] → BeginsWith place bytes token rest → ⊥
end_no_token place bytes token rest is_gap begins =
    let nothing = nothing_behind bytes begins.gap (begins.slice ++ rest) begins.made_up is_gap begins.is_gap (no_piece_at_token token.kind begins.slice rest begins.is_token.spelled) in
    let long : 0 ≡ length (begins.slice ++ rest) = ap length nothing in
    omega (arith, length-append begins.slice rest, spelled_nonempty token.kind begins.slice begins.is_token.spelled)

-- nor is a fault
stop_no_token : (place : ℕ) (bytes : List ℕ) (token : Token) (rest : List ℕ) (at : ℕ) (cause : Cause) → HasFaultBehind [] place bytes at cause → BeginsWith place bytes token rest → ⊥
stop_no_token place bytes token rest at cause fault begins =
    let cut = one_gap fault.gap begins.gap fault.rest (begins.slice ++ rest) (sym fault.made_up ∙ begins.made_up) fault.is_gap begins.is_gap
    (fault_no_piece cause fault.rest fault.is_fault) (no_piece_at_token token.kind begins.slice rest begins.is_token.spelled)
    in
    fault_no_token cause fault.rest token.kind begins.slice rest fault.is_fault cut.1 begins.is_token

next_list : {t u : Token} {after behind : List ℕ} (tokens : List Token) → t ≡ u → after ≡ behind → IsTokenList (place_behind t) after tokens → IsTokenList (place_behind u) behind tokens
next_list tokens same rests listed = coe 0 1 (i. IsTokenList (place_behind (same i)) (rests i) tokens) listed

next_fault : {t u : Token} {after behind : List ℕ} (tokens : List Token) (at : ℕ) (cause : Cause) → t ≡ u → after ≡ behind → HasFaultBehind tokens (place_behind t) after at cause → HasFaultBehind tokens (place_behind u) behind at cause
next_fault tokens at cause same rests fault = coe 0 1 (i. HasFaultBehind tokens (place_behind (same i)) (rests i) at cause) fault

-- a text has one list of tokens
pub one_list : (place : ℕ) (bytes : List ℕ) (one two : List Token) → IsTokenList place bytes one → IsTokenList place bytes two → one ≡ two
one_list place bytes [] [] is_one is_two = refl
one_list place bytes [] (u ∷ us) is_one is_two = absurd (end_no_token place bytes u is_two.0 is_one is_two.1)
one_list place bytes (t ∷ ts) [] is_one is_two = absurd (end_no_token place bytes t is_one.0 is_two is_one.1)
one_list place bytes (t ∷ ts) (u ∷ us) is_one is_two =
    let first = one_begin place bytes t u is_one.0 is_two.0 is_one.1 is_two.1 in
    let others = one_list (place_behind u) is_two.0 ts us (next_list ts first.0 first.1 is_one.2) is_two.2 in
    (λ i. first.0 i ∷ others i)

-- a text with a list of tokens has no fault
pub no_fault : (place : ℕ) (bytes : List ℕ) (tokens before : List Token) (at : ℕ) (cause : Cause) → IsTokenList place bytes tokens → HasFaultBehind before place bytes at cause → ⊥
no_fault place bytes [] [] at cause listed fault =
    fault_not_at_end cause (subst (IsFault cause) (sym (nothing_behind bytes fault.gap fault.rest fault.made_up listed fault.is_gap (fault_no_piece cause fault.rest fault.is_fault))) fault.is_fault)
no_fault place bytes [] (u ∷ us) at cause listed fault = end_no_token place bytes u fault.0 listed fault.1
no_fault place bytes (t ∷ ts) [] at cause listed fault = stop_no_token place bytes t listed.0 at cause fault listed.1
no_fault place bytes (t ∷ ts) (u ∷ us) at cause listed fault =
    let first = one_begin place bytes t u listed.0 fault.0 listed.1 fault.1 in
    no_fault (place_behind u) fault.0 ts us at cause (next_list ts first.0 first.1 listed.2) fault.2

-- a text has one fault
pub one_fault : (place : ℕ) (bytes : List ℕ) (ts us : List Token) (at other_at : ℕ) (one two : Cause) → HasFaultBehind ts place bytes at one → HasFaultBehind us place bytes other_at two → (at ≡ other_at) × (one ≡ two)
one_fault place bytes [] [] at other_at one two is_one is_two =
    let cut = one_gap is_one.gap is_two.gap is_one.rest is_two.rest (sym is_one.made_up ∙ is_two.made_up) is_one.is_gap is_two.is_gap (fault_no_piece one is_one.rest is_one.is_fault) (fault_no_piece two is_two.rest is_two.is_fault) in
    (is_one.at_is ∙ ap (λ gap. place + length gap) cut.0 ∙ sym is_two.at_is, one_cause one two is_two.rest (subst (IsFault one) cut.1 is_one.is_fault) is_two.is_fault)
one_fault place bytes [] (u ∷ us) at other_at one two is_one is_two = absurd (stop_no_token place bytes u is_two.0 at one is_one is_two.1)
one_fault place bytes (t ∷ ts) [] at other_at one two is_one is_two = absurd (stop_no_token place bytes t is_one.0 other_at two is_two is_one.1)
one_fault place bytes (t ∷ ts) (u ∷ us) at other_at one two is_one is_two =
    let first = one_begin place bytes t u is_one.0 is_two.0 is_one.1 is_two.1 in
    one_fault (place_behind u) is_two.0 ts us at other_at one two (next_fault ts at one first.0 first.1 is_one.2) is_two.2
