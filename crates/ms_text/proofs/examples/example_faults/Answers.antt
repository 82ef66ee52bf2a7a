use Rattle.std.proofs.Common.{◌≡◌, ℕ, false, eqb, [], ◌∷◌, codes, inl, inr, refl, arith, lit<, lit≤, sym}
use Rattle.std.proofs.lemmas.Bool.{false≢true, eqb-false}
use Rattle.std.proofs.lemmas.Str.{is_utf8-from_IsUtf8}
use Rattle.std.specs.Char.{is_ascii_digit}
use Rattle.std.specs.List.{list_any}
use Rattle.std.specs.Str.{is_utf8, chars}
use Rattle.ms_text.specs.declared.mark.TheConstants.{MARKS}
use Rattle.ms_text.specs.Fault.{BeginsNoUtf8, IsStray}
use Rattle.ms_text.specs.Gap.{is_blank}
use Rattle.ms_text.specs.Spelling.{is_name_start}
use Rattle.ms_text.specs.declared.fault.Cause.TheVariants as causes
use Rattle.ms_text.specs.declared.token.Kind.TheVariants as kinds
use Rattle.ms_text.specs.TokenList.{token_at}
use Rattle.ms_text.proofs.Here.{begins_mark, begins_here, fault_here, name_here, no_mark_here, short_never_closes, one_byte_opens_none}
use Rattle.ms_text.proofs.Fronts.{number_too_large, stray_byte}
use Rattle.ms_text.proofs.Gaps.{no_piece_front}
use Rattle.ms_text.proofs.examples.example_faults.Goals as goal

pub returns-clause-opened : goal.returns-clause-opened
returns-clause-opened c = ([], fault_here 0 (codes "/*/") causes.Unclosed (inl (codes "/", refl, short_never_closes (codes "/") (lit< tt))))

pub returns-clause-cut : goal.returns-clause-cut
returns-clause-cut c = (
  token_at kinds.Name 0 1 ∷ [],
  (
    codes "\"",
    begins_here 0 (name_here (codes "a") (codes "\"") refl refl refl refl),
    fault_here 1 (codes "\"") causes.Unclosed (inr (record { content = []; behind = []; made_up = refl; passes = refl; ends = tt })),
  ),
)

-- a stray byte alone
alone : (b : ℕ) → is_blank b ≡ false → eqb 35 b ≡ false → eqb 34 b ≡ false → is_name_start b ≡ false → is_ascii_digit b ≡ false → list_any (begins_mark (b ∷ [])) MARKS ≡ false → IsStray b (b ∷ [])
alone b no_blank no_hash no_quote no_name no_digit no_mark =
    let differs = λ (n : ℕ) (apart : eqb n b ≡ false) (e : b ≡ n). eqb-false n b apart (sym e) in
    stray_byte (b ∷ []) (omega arith) (no_piece_front b [] no_blank (differs 35 no_hash) (λ body e. absurd (one_byte_opens_none b body e))) no_name no_digit (differs 34 no_quote) (one_byte_opens_none b)
    (no_mark_here (b ∷ []) no_mark)

pub returns-clause-slash : goal.returns-clause-slash
returns-clause-slash c = ([], fault_here 0 (codes "/") (causes.Word 47) (inl (alone 47 refl refl refl refl refl refl)))

pub returns-clause-form_feed : goal.returns-clause-form_feed
returns-clause-form_feed c = ([], fault_here 0 (12 ∷ []) (causes.Word 12) (inl (alone 12 refl refl refl refl refl refl)))

pub returns-clause-large : goal.returns-clause-large
returns-clause-large c = ([], fault_here 0 (codes "18446744073709551616") causes.NumberTooLarge (number_too_large (codes "18446744073709551616") 20 refl (lit< tt) (lit≤ tt)))

pub returns-clause-no_utf8 : goal.returns-clause-no_utf8
unfolding is_utf8 chars
returns-clause-no_utf8 c =
    let no_utf8 : BeginsNoUtf8 (34 ∷ 128 ∷ 34 ∷ []) = record {
      content = 128 ∷ [];
      behind = [];
      made_up = refl;
      passes = refl;
      not_utf8 = λ utf8. false≢true (is_utf8-from_IsUtf8 (128 ∷ []) utf8);
    }
    in
    ([], fault_here 0 (34 ∷ 128 ∷ 34 ∷ []) (causes.Word 34) (inr (refl, no_utf8)))
