use Rattle.std.proofs.Common.{sym, subst}
use Rattle.ms_dfa.specs.declared.plain.FileVersion.{FileVersion}
use Rattle.ms_minim.specs.declared.reading.SignReading.TheVariants.{AsTheyAre, UndefinedAsOutside}
use Rattle.ms_minim_canonical.specs.inner.Reading.{IsReadingFor}
use Rattle.ms_minim_canonical.proofs.ReadingLemmas.{reading-one, reading-two}
use Rattle.ms_minim_canonical.proofs.files.reading_of.Goals as goal

pub returns-in-One : goal.returns-in-One
returns-in-One c = subst (λ (version : FileVersion). IsReadingFor version UndefinedAsOutside) (sym c.in-One.is) reading-one

pub returns-in-Two : goal.returns-in-Two
returns-in-Two c = subst (λ (version : FileVersion). IsReadingFor version AsTheyAre) (sym c.in-Two.is) reading-two
