-- How signs are to be read before they are written into a file: as one exactly where the file has one sign for them.
use Rattle.std.specs.Prelude.{◌≡◌, ◌↔◌}
use Rattle.ms_dfa.specs.declared.plain.FileVersion.{FileVersion}
use Rattle.ms_dfa.specs.Files.{file_sign}
use Rattle.ms_logic_words.specs.declared.sign.Sign.{Sign}
use Rattle.ms_minim.specs.declared.reading.SignReading.{SignReading}
use Rattle.ms_minim.specs.SignReading.{read_sign}

abbrev pub IsReadingFor : FileVersion → SignReading → Type 0
IsReadingFor version reading =
    (one other : Sign) → (read_sign reading one ≡ read_sign reading other) ↔ (file_sign version one ≡ file_sign version other)
