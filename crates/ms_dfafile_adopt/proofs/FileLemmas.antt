-- What shows that an automaton of a file is open shows it of the file.
use Rattle.std.proofs.Common.{◌≡◌, ℕ, map, Err, refl, sym, ap, subst, ◌∙◌}
use Rattle.std.specs.Option.{option_map}
use Rattle.ms_list.specs.declared.fault.StepFault.{StepFault}
use Rattle.ms_list.specs.declared.fault.StepFault.TheVariants.{Nodes, Memory}
use Rattle.ms_list.specs.declared.word.Word.{Word}
use Rattle.ms_dfa_explore.specs.Explored.{OnRefused}
use Rattle.ms_logic.specs.declared.checked.ImportUse.{ImportUse}
use Rattle.ms_logic.specs.declared.mode.Mode.{Mode}
use Rattle.ms_logic.specs.declared.mode.Mode.TheVariants.{Ws1s, M2lStr}
use Rattle.ms_logic_words.specs.declared.sign.Sign.{Sign}
use Rattle.ms_logic_words.specs.Content.{Content, IsOpen, sign_of, with_zero_letter}
use Rattle.ms_logic.specs.Lists.{AreRising}
use Rattle.ms_logic_words.specs.Word.{IsEncoding}
use Rattle.ms_logic_words.proofs.WordLaws.{zero_letter_keeps}
use Rattle.ms_dfa.specs.declared.plain.FileSign.{FileSign}
use Rattle.ms_dfa.specs.declared.plain.Plain.{Plain}
use Rattle.ms_dfa.specs.Files.{content_of_file}
use Rattle.ms_dfafile.specs.File.{IsFile}
use Rattle.ms_dfafile_adopt.specs.Import.{Fits, IsFirstOpen, IsNotImportable, ShowsOpen}
use Rattle.ms_logic_words.specs.Residual.{IsLeast}
use Rattle.ms_dfafile_adopt.specs.Short.{AdoptionLacks}
use Rattle.ms_dfafile_adopt.specs.inner.Open.{IsFirstChange, IsInMode, ShowsChange, ShowsNoChange}
use Rattle.ms_dfafile_adopt.specs.Readings.{AgreesWithFile, own_sign}
use Rattle.ms_dfafile_adopt.specs.inner.Images.{refusal_of}
use Rattle.ms_dfafile_adopt.proofs.ModeLemmas.{encoding_in}
use Rattle.ms_dfafile_adopt.proofs.SignLemmas.{one_in_file}
use Rattle.ms_dfafile_adopt.proofs.VariableLemmas.{rising-by_place}

module _ (plain : Plain) (rules : IsFile plain) (own : Content Sign) (signs_are : AgreesWithFile plain M2lStr own) (numbers : plain.mode ≡ Ws1s) where
  abbrev file : Content FileSign
  file = content_of_file plain

  rising : AreRising file.variables
  rising = rising-by_place 0 (map (λ variable. variable.order) plain.variables)

  -- one zero letter more
  more_encodes : (word : Word) → IsEncoding M2lStr file.variables word → IsEncoding M2lStr file.variables (with_zero_letter file.variables word)
  more_encodes word encoding =
      let over_numbers = encoding_in M2lStr Ws1s file.variables word rising encoding in
      encoding_in Ws1s M2lStr file.variables (with_zero_letter file.variables word) rising
      (over_numbers.0, over_numbers.1, zero_letter_keeps file.variables word over_numbers.0 over_numbers.1.universe over_numbers.2)

  -- both signs
  own_signs : (word : Word) → IsEncoding M2lStr file.variables word
      → (sign_of own word ≡ option_map own_sign (sign_of file word))
      × (sign_of own (with_zero_letter own.variables word) ≡ option_map own_sign (sign_of file (with_zero_letter file.variables word)))
  own_signs word encoding = (
    signs_are.signs word encoding,
    ap (λ vs. sign_of own (with_zero_letter vs word)) signs_are.variables_are ∙ signs_are.signs (with_zero_letter file.variables word) (more_encodes word encoding),
  )

  pub open-change : (word : Word) → ShowsChange own word → ShowsOpen file word
  open-change word shows =
      let encoding = subst (λ vs. IsEncoding M2lStr vs word) signs_are.variables_are shows.0 in
      let in_file = encoding_in M2lStr plain.mode file.variables word rising encoding in
      let are = own_signs word encoding in
      (in_file.0, in_file.1, in_file.2, λ same. shows.1 (are.0 ∙ ap (option_map own_sign) same ∙ sym are.1))

  pub change-open : (word : Word) → ShowsOpen file word → ShowsChange own word
  change-open word shows =
      let encoding = encoding_in plain.mode M2lStr file.variables word rising (shows.0, shows.1, shows.2) in
      let are = own_signs word encoding in
      let more = encoding_in M2lStr plain.mode file.variables (with_zero_letter file.variables word) rising (more_encodes word encoding) in (
        subst (λ vs. IsEncoding M2lStr vs word) (sym signs_are.variables_are) encoding,
        λ same. shows.3 (one_in_file plain rules word (with_zero_letter file.variables word) (shows.0, shows.1, shows.2) more (sym are.0 ∙ same ∙ are.1)),
      )

  pub first_open : (word : Word) → IsFirstChange own word → IsFirstOpen file word
  first_open word first = record { shows = open-change word first.shows; none_before = λ other shows. first.none_before other (change-open other shows) }

  pub never_open : ShowsNoChange own → ¬ IsOpen file
  never_open none is = none is.word (change-open is.word (is.e, is.assignment, is.encodes, is.changes))

-- a settled automaton has the signs of the file in its mode
pub settled_signs : (plain : Plain) (mode : Mode) (own made : Content Sign) → AgreesWithFile plain M2lStr own → IsInMode mode own made → AgreesWithFile plain mode made
settled_signs plain mode own made signs_are settled =
    subst (AgreesWithFile plain mode) (sym settled.same) (record { mode_is = refl; variables_are = signs_are.variables_are; signs = signs_are.signs })

-- and fewest states
pub settled_least : (mode : Mode) (own made : Content Sign) → IsInMode mode own made → IsLeast own → IsLeast made
settled_least mode own made settled least = subst IsLeast (sym settled.same) (record { fewest = least.fewest; reached = least.reached; differ = least.differ })

-- where an automaton of the file is settled in its mode, the file is not open
pub settled_file : (plain : Plain) → IsFile plain → (mode : Mode) (own made : Content Sign) → plain.mode ≡ mode → AgreesWithFile plain M2lStr own → IsInMode mode own made → ¬ IsOpen (content_of_file plain)
settled_file plain rules mode own made mode_is signs_are settled is =
    never_open plain rules own signs_are is.numbers (settled.none (sym mode_is ∙ is.numbers)) is

-- a step that was refused at the limit is why the file is not imported
pub refused_by : (A P : Type 0) (plain : Plain) (used : ImportUse) (mode : Mode) (limit : ℕ) (fault : StepFault) → Fits plain used mode → (P → AdoptionLacks limit plain used.pairs mode)
    → OnRefused {A = A} (Err fault) (λ refused. (refused ≡ limit) × P) → IsNotImportable plain used mode limit (refusal_of fault)
refused_by A P plain used mode limit Memory fits lacks cause = tt
refused_by A P plain used mode limit (Nodes refused) fits lacks cause = (refl, cause.0, fits, lacks cause.1)
