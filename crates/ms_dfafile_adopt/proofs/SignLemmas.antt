-- At a word that encodes an assignment the sign of a file is not x, and there the sign of an automaton tells the sign of the file.
use Rattle.std.proofs.Common.{◌≡◌, ◌≢◌, slice_get, Option, Some, None, refl, sym, ap}
use Rattle.std.specs.Option.{option_map}
use Rattle.std.proofs.lemmas.Option.{none-some, same_Some}
use Rattle.ms_list.specs.declared.word.Word.{Word}
use Rattle.ms_logic_words.specs.Content.{StateOf, Content, last_state, sign_of}
use Rattle.ms_logic_words.specs.Word.{IsEncoding}
use Rattle.ms_logic_words.proofs.WordLaws.{encoding_is_over}
use Rattle.ms_dfa.specs.declared.plain.FileSign.{FileSign}
use Rattle.ms_dfa.specs.declared.plain.FileSign.TheVariants as signs
use Rattle.ms_dfa.specs.declared.plain.FileVersion.{FileVersion}
use Rattle.ms_dfa.specs.declared.plain.FileVersion.TheVariants as versions
use Rattle.ms_dfa.specs.declared.plain.Plain.{Plain}
use Rattle.ms_dfa.specs.Files.{HasNoOutside, HasSignsOf, content_of_file}
use Rattle.ms_dfafile.specs.File.{IsFile}
use Rattle.ms_dfafile_adopt.specs.Readings.{own_sign}

-- where no state has the sign x, no word has it
none_outside : (content : Content FileSign) → HasNoOutside content → (word : Word) → sign_of content word ≢ Some signs.Outside
none_outside content none word same = by (slice_get content.states (last_state content word)) refl same
  where
    by : (found : Option (StateOf FileSign)) → slice_get content.states (last_state content word) ≡ found → option_map (λ (s : StateOf FileSign). s.sign) found ≡ Some signs.Outside → ⊥
    by None is outside = none-some signs.Outside outside
    by (Some state) is outside = none (last_state content word) state is (same_Some state.sign signs.Outside outside)

-- in both versions a word that encodes an assignment has another sign
encoding_inside : (version : FileVersion) (content : Content FileSign) → HasSignsOf version content → (word : Word) → IsEncoding content.mode content.variables word → sign_of content word ≢ Some signs.Outside
encoding_inside versions.One content none word encoding same = none_outside content none word same
encoding_inside versions.Two content marks word encoding same = (marks word (encoding_is_over content.variables word encoding.0 encoding.2)).0 same encoding

pub inside_file : (plain : Plain) → IsFile plain → (word : Word) → IsEncoding plain.mode (content_of_file plain).variables word → sign_of (content_of_file plain) word ≢ Some signs.Outside
inside_file plain rules word encoding = encoding_inside plain.version (content_of_file plain) rules.signs word encoding

-- signs of a file that become one are one, where neither is x
one_file_sign : (one other : FileSign) → one ≢ signs.Outside → other ≢ signs.Outside → own_sign one ≡ own_sign other → one ≡ other
one_file_sign signs.Plus signs.Plus inside within same = refl
one_file_sign signs.Plus signs.Minus inside within same = let never : ⊥ = cc in absurd never
one_file_sign signs.Plus signs.Zero inside within same = let never : ⊥ = cc in absurd never
one_file_sign signs.Minus signs.Plus inside within same = let never : ⊥ = cc in absurd never
one_file_sign signs.Minus signs.Minus inside within same = refl
one_file_sign signs.Minus signs.Zero inside within same = let never : ⊥ = cc in absurd never
one_file_sign signs.Zero signs.Plus inside within same = let never : ⊥ = cc in absurd never
one_file_sign signs.Zero signs.Minus inside within same = let never : ⊥ = cc in absurd never
one_file_sign signs.Zero signs.Zero inside within same = refl
one_file_sign signs.Outside other inside within same = absurd (inside refl)
one_file_sign signs.Plus signs.Outside inside within same = absurd (within refl)
one_file_sign signs.Minus signs.Outside inside within same = absurd (within refl)
one_file_sign signs.Zero signs.Outside inside within same = absurd (within refl)

one_of_both : (one other : Option FileSign) → one ≢ Some signs.Outside → other ≢ Some signs.Outside → option_map own_sign one ≡ option_map own_sign other → one ≡ other
one_of_both None None inside within same = refl
one_of_both None (Some sign) inside within same = absurd (none-some (own_sign sign) same)
one_of_both (Some sign) None inside within same = absurd (none-some (own_sign sign) (sym same))
one_of_both (Some one) (Some other) inside within same =
    ap Some (one_file_sign one other (λ is. inside (ap Some is)) (λ is. within (ap Some is)) (same_Some (own_sign one) (own_sign other) same))

-- two words that encode assignments have one sign in the file where the automaton gives them one
pub one_in_file : (plain : Plain) → IsFile plain → (one other : Word) → IsEncoding plain.mode (content_of_file plain).variables one → IsEncoding plain.mode (content_of_file plain).variables other
    → option_map own_sign (sign_of (content_of_file plain) one) ≡ option_map own_sign (sign_of (content_of_file plain) other)
    → sign_of (content_of_file plain) one ≡ sign_of (content_of_file plain) other
one_in_file plain rules one other encodes also same =
    one_of_both (sign_of (content_of_file plain) one) (sign_of (content_of_file plain) other) (inside_file plain rules one encodes) (inside_file plain rules other also) same
