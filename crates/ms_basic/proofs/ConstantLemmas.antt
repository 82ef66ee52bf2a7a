-- The machine that gives each word one sign, over no variable.
use Rattle.std.proofs.Common.{◌≡◌, ◌≢◌, Bool, true, false, if◌then◌else◌, [], Some, refl, sym, subst}
use Rattle.ms_list.specs.declared.word.Word.{Word}
use Rattle.ms_logic.specs.declared.mode.Mode.{Mode}
use Rattle.ms_logic_words.specs.declared.sign.Sign.{Sign}
use Rattle.ms_logic_words.specs.declared.sign.Sign.TheVariants.{Outside}
use Rattle.ms_logic.specs.Assignment.{Env}
use Rattle.ms_logic_words.specs.Content.{Content, IsWordOver, sign_of}
use Rattle.ms_logic_core.specs.CoreForm.{falsity, truth}
use Rattle.ms_logic_words.specs.Word.{IsEncoding}
use Rattle.ms_logic_words.proofs.DecodedWords.{each_word_encodes}
use Rattle.ms_logic_words.proofs.WordLaws.{encoding_is_over}
use Rattle.ms_dfa.specs.Values.{HasValues, core_meaning}
use Rattle.ms_dfa_explore.specs.Small.{TellsWords, sign_by}
use Rattle.ms_basic.specs.inner.Repeated.{constant_table, sign_of_constant}

never_outside : (holds : Bool) → sign_of_constant holds ≢ Outside
never_outside true = λ same. cc
never_outside false = λ same. cc

pub constant_tells : (mode : Mode) (holds : Bool) → TellsWords mode [] (constant_table holds)
constant_tells mode holds = record {
  encodings = λ word over. (λ encoding. never_outside holds, λ inside. each_word_encodes mode [] word tt tt over);
  settled = λ numbers word over encoding. refl;
}

constant_right : (holds : Bool) (e : Env) → core_meaning [] (if holds then truth else falsity) e (sign_of_constant holds)
constant_right true e = tt
constant_right false e = tt

pub constant_values : (holds : Bool) (content : Content Sign) → content.variables ≡ []
    → ((word : Word) → IsWordOver [] word → sign_of content word ≡ Some (sign_by (constant_table holds) [] word)) → HasValues (core_meaning [] (if holds then truth else falsity)) content
constant_values holds content none signs = record {
  right = λ word e assigned encodes.
      (sign_of_constant holds, signs word (subst (λ vs. IsWordOver vs word) none (encoding_is_over content.variables word e encodes)), constant_right holds e);
  outside = λ word over outside.
      absurd (outside (subst (λ vs. IsEncoding content.mode vs word) (sym none) (each_word_encodes content.mode [] word tt tt (subst (λ vs. IsWordOver vs word) none over))));
}
