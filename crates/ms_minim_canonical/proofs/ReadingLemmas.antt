-- In version 1 Undefined and Outside are to be read as one, and in version 2 each sign as it is. What is read of a sign has the
-- sign in the file that it has itself.
use Rattle.std.proofs.Common.{◌≡◌, Option, Some, None, refl, sym, ap, ◌∙◌}
use Rattle.std.specs.Option.{option_map}
use Rattle.std.proofs.lemmas.Option.{same_Some}
use Rattle.ms_dfa.specs.declared.plain.FileSign.{FileSign}
use Rattle.ms_dfa.specs.declared.plain.FileSign.TheVariants as signs
use Rattle.ms_dfa.specs.declared.plain.FileVersion.{FileVersion}
use Rattle.ms_dfa.specs.declared.plain.FileVersion.TheVariants.{One, Two}
use Rattle.ms_dfa.specs.Files.{file_sign}
use Rattle.ms_logic_words.specs.declared.sign.Sign.{Sign}
use Rattle.ms_logic_words.specs.declared.sign.Sign.TheVariants.{Yes, No, Undefined, Outside}
use Rattle.ms_minim.specs.declared.reading.SignReading.{SignReading}
use Rattle.ms_minim.specs.declared.reading.SignReading.TheVariants.{AsTheyAre, UndefinedAsOutside}
use Rattle.ms_minim.specs.SignReading.{read_sign}
use Rattle.ms_minim_canonical.specs.inner.Reading.{IsReadingFor}

-- what was read follows from the sign in the file
sign_back : SignReading → FileSign → Sign
sign_back reading signs.Plus = Yes
sign_back reading signs.Minus = No
sign_back reading signs.Zero = read_sign reading Undefined
sign_back reading signs.Outside = Outside

back-one : (sign : Sign) → sign_back UndefinedAsOutside (file_sign One sign) ≡ read_sign UndefinedAsOutside sign
unfolding sign_back
back-one Yes = refl
back-one No = refl
back-one Undefined = refl
back-one Outside = refl

back-two : (sign : Sign) → sign_back AsTheyAre (file_sign Two sign) ≡ sign
unfolding sign_back
back-two Yes = refl
back-two No = refl
back-two Undefined = refl
back-two Outside = refl

read-one : (sign : Sign) → file_sign One (read_sign UndefinedAsOutside sign) ≡ file_sign One sign
read-one Yes = refl
read-one No = refl
read-one Undefined = refl
read-one Outside = refl

pub reading-one : IsReadingFor One UndefinedAsOutside
reading-one one other = (
  λ same. sym (read-one one) ∙ ap (file_sign One) same ∙ read-one other,
  λ same. sym (back-one one) ∙ ap (sign_back UndefinedAsOutside) same ∙ back-one other,
)

pub reading-two : IsReadingFor Two AsTheyAre
reading-two one other = (
  λ same. ap (file_sign Two) same,
  λ same. sym (back-two one) ∙ ap (sign_back AsTheyAre) same ∙ back-two other,
)

-- what was read is read as it is
read-twice : (reading : SignReading) (sign : Sign) → read_sign reading (read_sign reading sign) ≡ read_sign reading sign
read-twice AsTheyAre sign = refl
read-twice UndefinedAsOutside Yes = refl
read-twice UndefinedAsOutside No = refl
read-twice UndefinedAsOutside Undefined = refl
read-twice UndefinedAsOutside Outside = refl

module _ (version : FileVersion) (reading : SignReading) (right : IsReadingFor version reading) where
  pub filed-read : (sign : Option Sign) → option_map (file_sign version) (option_map (read_sign reading) sign) ≡ option_map (file_sign version) sign
  filed-read None = refl
  filed-read (Some sign) = ap Some ((right (read_sign reading sign) sign).0 (read-twice reading sign))

  pub filed-apart : (one other : Option Sign)
      → option_map (file_sign version) (option_map (read_sign reading) one) ≡ option_map (file_sign version) (option_map (read_sign reading) other)
      → option_map (read_sign reading) one ≡ option_map (read_sign reading) other
  filed-apart None None same = refl
  filed-apart None (Some other) same = let never : ⊥ = cc in absurd never
  filed-apart (Some one) None same = let never : ⊥ = cc in absurd never
  filed-apart (Some one) (Some other) same =
      let filed = same_Some (file_sign version (read_sign reading one)) (file_sign version (read_sign reading other)) same in
      ap Some (sym (read-twice reading one) ∙ (right (read_sign reading one) (read_sign reading other)).1 filed ∙ read-twice reading other)
