-- Whether two signs are one.
use Rattle.std.proofs.Common.{◌≡◌, true, refl}
use Rattle.ms_dfa.specs.declared.plain.FileSign.{FileSign}
use Rattle.ms_dfa.specs.declared.plain.FileSign.TheVariants as signs
use Rattle.ms_cert.specs.Certificate.{is_sign}

pub is_sign-true : (one other : FileSign) → is_sign one other ≡ true → one ≡ other
is_sign-true signs.Plus signs.Plus is = refl
is_sign-true signs.Plus signs.Minus is = cc
is_sign-true signs.Plus signs.Zero is = cc
is_sign-true signs.Plus signs.Outside is = cc
is_sign-true signs.Minus signs.Plus is = cc
is_sign-true signs.Minus signs.Minus is = refl
is_sign-true signs.Minus signs.Zero is = cc
is_sign-true signs.Minus signs.Outside is = cc
is_sign-true signs.Zero signs.Plus is = cc
is_sign-true signs.Zero signs.Minus is = cc
is_sign-true signs.Zero signs.Zero is = refl
is_sign-true signs.Zero signs.Outside is = cc
is_sign-true signs.Outside signs.Plus is = cc
is_sign-true signs.Outside signs.Minus is = cc
is_sign-true signs.Outside signs.Zero is = cc
is_sign-true signs.Outside signs.Outside is = refl

pub is_sign-own : (sign : FileSign) → is_sign sign sign ≡ true
is_sign-own signs.Plus = refl
is_sign-own signs.Minus = refl
is_sign-own signs.Zero = refl
is_sign-own signs.Outside = refl
