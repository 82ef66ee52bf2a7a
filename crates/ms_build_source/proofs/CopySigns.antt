-- The canonical content of an automaton has the signs of its version.
use Rattle.std.proofs.Common.{◌≡◌, ◌≢◌, ℕ, Bool, List, [], ◌∷◌, drop, map, slice_get, Option, Some, None, refl, sym, ap, subst, ◌∙◌}
use Rattle.std.specs.Option.{option_map}
use Rattle.std.proofs.lemmas.Option.{none-some, same_Some, slice_get_within}
use Rattle.ms_build.proofs.WholeLemmas.{rising-by_place}
use Rattle.ms_dfa.specs.Automaton.{IsAutomaton}
use Rattle.ms_dfa.specs.Files.{HasNoOutside, HasSignsOf, MarksOutside, content_of_file, file_sign}
use Rattle.ms_dfa.proofs.OrdersLemmas.{orders_of, orders-by_place, over-same}
use Rattle.ms_dfa.specs.declared.plain.FileSign.{FileSign}
use Rattle.ms_dfa.specs.declared.plain.FileSign.TheVariants as signs
use Rattle.ms_dfa.specs.declared.plain.FileVersion.{FileVersion}
use Rattle.ms_dfa.specs.declared.plain.FileVersion.TheVariants as versions
use Rattle.ms_dfa.specs.declared.plain.Plain.{Plain}
use Rattle.ms_list.specs.declared.word.Word.{Word}
use Rattle.ms_logic.specs.Assignment.{Variable}
use Rattle.ms_logic.specs.Lists.{AreRising}
use Rattle.ms_logic.specs.declared.mode.Mode.{Mode}
use Rattle.ms_logic_words.specs.Content.{Content, IsWordOver, sign_at, sign_of}
use Rattle.ms_logic_words.specs.Word.{IsEncoding}
use Rattle.ms_logic_words.specs.inner.Decoding.{HasOneBit, HaveOneBit, column_after}
use Rattle.ms_logic_words.proofs.DecodedWords.{encodings_are}
use Rattle.ms_logic_words.specs.declared.sign.Sign.{Sign}
use Rattle.ms_logic_words.specs.declared.sign.Sign.TheVariants.{Yes, No, Undefined, Outside}
use Rattle.ms_build_source.specs.inner.Copies.{IsCanonicalCopy}

-- which words encode an assignment is settled by the orders of the variables
one_bit_each : (letters : List (List Bool)) (column : ℕ) (vs ws : List Variable) → orders_of vs ≡ orders_of ws → HaveOneBit letters column vs → HaveOneBit letters column ws
one_bit_each letters column [] [] same have = tt
one_bit_each letters column [] (w ∷ ws) same have = absurd (none-some w.order (ap (λ l. slice_get l 0) same))
one_bit_each letters column (v ∷ vs) [] same have = absurd (none-some v.order (sym (ap (λ l. slice_get l 0) same)))
one_bit_each letters column (v ∷ vs) (w ∷ ws) same have =
    let order : v.order ≡ w.order = same_Some v.order w.order (ap (λ l. slice_get l 0) same) in (
      subst (λ o. HasOneBit letters o column) order have.0,
      subst (λ o. HaveOneBit letters (column_after o column) ws) order (one_bit_each letters (column_after v.order column) vs ws (ap (λ l. drop 1 l) same) have.1),
    )

encodes_alike : (mode : Mode) (vs ws : List Variable) → AreRising vs → AreRising ws → orders_of vs ≡ orders_of ws → (word : Word) → IsEncoding mode vs word → IsEncoding mode ws word
encodes_alike mode vs ws rising also same word encoding =
    let is = (encodings_are mode vs word rising).0 encoding in
    (encodings_are mode ws word also).1 (over-same vs ws same word is.0, one_bit_each word.letters 0 vs ws same is.1)

-- the sign x in a file of each version
never_filed : (sign : Option Sign) → option_map (file_sign versions.One) sign ≢ Some signs.Outside
never_filed None same = none-some signs.Outside same
never_filed (Some Yes) same = cc
never_filed (Some No) same = cc
never_filed (Some Undefined) same = cc
never_filed (Some Outside) same = cc

filed_outside : (sign : Option Sign) → option_map (file_sign versions.Two) sign ≡ Some signs.Outside → sign ≡ Some Outside
filed_outside None same = absurd (none-some signs.Outside same)
filed_outside (Some Yes) same = let never : ⊥ = cc in absurd never
filed_outside (Some No) same = let never : ⊥ = cc in absurd never
filed_outside (Some Undefined) same = let never : ⊥ = cc in absurd never
filed_outside (Some Outside) same = refl

-- what is not another sign is Outside
not_another : (sign : Option Sign) → ((sign ≢ Some Outside) → ⊥) → sign ≡ Some Outside
not_another None none = absurd (none (λ same. none-some Outside same))
not_another (Some Yes) none = absurd (none (λ same. cc))
not_another (Some No) none = absurd (none (λ same. cc))
not_another (Some Undefined) none = absurd (none (λ same. cc))
not_another (Some Outside) none = refl

module _ (version : FileVersion) (content : Content Sign) (automaton : IsAutomaton content) (names : List (List ℕ)) (plain : Plain) (copy : IsCanonicalCopy version content names plain) where
  abbrev file : Content FileSign
  file = content_of_file plain

  same : orders_of file.variables ≡ orders_of content.variables
  same = orders-by_place (map (λ v. v.order) plain.variables) ∙ copy.orders

  rising : AreRising file.variables
  rising = rising-by_place 0 (map (λ v. v.order) plain.variables)

  over_content : (word : Word) → IsWordOver file.variables word → IsWordOver content.variables word
  over_content word over = over-same file.variables content.variables same word over

  sign_is : (word : Word) → IsWordOver file.variables word → sign_of file word ≡ option_map (file_sign version) (sign_of content word)
  sign_is word over = copy.signs word (over_content word over)

  into_content : (word : Word) → IsEncoding file.mode file.variables word → IsEncoding content.mode content.variables word
  into_content word encoding =
      encodes_alike content.mode file.variables content.variables rising automaton.rising same word (subst (λ m. IsEncoding m file.variables word) copy.mode_is encoding)

  from_content : (word : Word) → IsEncoding content.mode content.variables word → IsEncoding file.mode file.variables word
  from_content word encoding =
      subst (λ m. IsEncoding m file.variables word) (sym copy.mode_is) (encodes_alike content.mode content.variables file.variables automaton.rising rising (sym same) word encoding)

  in_first_version : version ≡ versions.One → HasNoOutside file
  in_first_version first i state held is =
      let reached = copy.canonical.states_reached i (slice_get_within file.states i state held) in
      let word = reached.0 in
      let said : sign_of file word ≡ Some state.sign = ap (sign_at file) reached.2 ∙ ap (option_map (λ found. found.sign)) held in
      never_filed (sign_of content word) (ap (λ v. option_map (file_sign v) (sign_of content word)) (sym first) ∙ sym (sign_is word reached.1) ∙ said ∙ ap Some is)

  in_second_version : version ≡ versions.Two → MarksOutside file
  in_second_version second word over = (
    λ said encoding.
        (automaton.encodings word (over_content word over)).0 (into_content word encoding)
        (filed_outside (sign_of content word) (ap (λ v. option_map (file_sign v) (sign_of content word)) (sym second) ∙ sym (sign_is word over) ∙ said)),
    λ outside.
        let sign = not_another (sign_of content word) (λ apart. outside (from_content word ((automaton.encodings word (over_content word over)).1 apart))) in
        sign_is word over ∙ ap (option_map (file_sign version)) sign ∙ ap (λ v. Some (file_sign v Outside)) second,
  )

  signs_by : (v : FileVersion) → version ≡ v → HasSignsOf v file
  signs_by versions.One is = in_first_version is
  signs_by versions.Two is = in_second_version is

  pub signs_of_copy : HasSignsOf plain.version (content_of_file plain)
  signs_of_copy = subst (λ v. HasSignsOf v (content_of_file plain)) (sym copy.version_is) (signs_by version refl)
