-- A shortest word of a sign in the file of a main value is as long as the first assignment at which that sign is right.
use Rattle.std.proofs.Common.{◌≡◌, ◌≢◌, ℕ, ◌≤◌, ◌⊎◌, inl, inr, List, length, map, Option, Some, None, refl, sym, ap, subst, ◌∙◌, arith}
use Rattle.std.proofs.lemmas.Bool.{cases_eq}
use Rattle.std.proofs.lemmas.Option.{same_Some}
use Rattle.ms_build_source.proofs.ExportContents.{same_filed}
use Rattle.ms_build_source.proofs.SignOver.{sign-over}
use Rattle.ms_build_source.specs.Values.{IsMainFile, content_over}
use Rattle.ms_app_answer.specs.Answer.{ShowsFirst}
use Rattle.ms_cert.specs.Proven.{IsShortest}
use Rattle.ms_dfa.proofs.OrdersLemmas.{orders_of, orders-by_place, over-same}
use Rattle.ms_dfa.proofs.ValuesLemmas.{IsMeaning-main}
use Rattle.ms_dfa.specs.Files.{content_of_file, file_sign}
use Rattle.ms_dfa.specs.Values.{main_meaning}
use Rattle.ms_dfa.specs.declared.plain.FileSign.{FileSign}
use Rattle.ms_dfa.specs.declared.plain.FileVersion.{FileVersion}
use Rattle.ms_dfa.specs.declared.plain.FileVersion.TheVariants as versions
use Rattle.ms_dfa.specs.declared.plain.Plain.{Plain}
use Rattle.ms_list.specs.declared.word.Word.{Word}
use Rattle.ms_logic.specs.Assignment.{Env, Variable, IsAssignment}
use Rattle.ms_logic.specs.First.{length_of}
use Rattle.ms_logic.specs.Verdict.{Assigns, Problem, variables_of}
use Rattle.ms_logic.specs.declared.assignment.Assignment.{Assignment}
use Rattle.ms_logic_words.proofs.WordLaws.{encoding_is_over, length_is_least}
use Rattle.ms_logic_words.specs.Content.{Content, IsWordOver, shortest_word, sign_of}
use Rattle.ms_logic_words.specs.Word.{Encodes}
use Rattle.ms_logic_words.specs.declared.sign.Sign.{Sign}
use Rattle.ms_logic_words.specs.declared.sign.Sign.TheVariants.{Yes, No, Undefined, Outside}
use Rattle.ms_cert_lengths.specs.Laws.{ShortestWordsAreAsLongAsShown, length_shown}

-- the signs of which assignments are shown
abbrev IsShown : Sign → Type 0
IsShown sign = (sign ≡ Yes) ⊎ (sign ≡ No)

not_outside : (sign : Sign) → IsShown sign → sign ≢ Outside
not_outside Yes shown same = cc
not_outside No shown same = cc
not_outside Undefined shown same = cc
not_outside Outside (inl is) same = cc
not_outside Outside (inr is) same = cc

-- in a file of either version they are not the sign of words that encode nothing
filed_inside : (version : FileVersion) (sign : Sign) → IsShown sign → file_sign version Outside ≢ file_sign version sign
filed_inside versions.One Yes shown same = cc
filed_inside versions.One No shown same = cc
filed_inside versions.Two Yes shown same = cc
filed_inside versions.Two No shown same = cc
filed_inside version Undefined (inl is) same = cc
filed_inside version Undefined (inr is) same = cc
filed_inside version Outside (inl is) same = cc
filed_inside version Outside (inr is) same = cc

module _ (version : FileVersion) (problem : Problem) (names : List (List ℕ)) (plain : Plain) (file : IsMainFile version problem names plain) where
  abbrev globals : List Variable
  globals = variables_of problem.globals

  abbrev content : Content FileSign
  content = content_of_file plain

  -- the file's variables have the orders of the globals, so it runs alike over both
  same_orders : orders_of globals ≡ orders_of content.variables
  same_orders = sym file.orders ∙ sym (orders-by_place (map (λ v. v.order) plain.variables))

  same_sign : (word : Word) → sign_of content word ≡ sign_of (content_over globals plain) word
  same_sign word = sym (sign-over content globals same_orders word)

  module _ (sign : Sign) (shown : IsShown sign) where
    abbrev Has : Word → Type 0
    Has word = sign_of content word ≡ Some (file_sign version sign)

    abbrev Holds : Env → Type 0
    Holds e = main_meaning problem e sign

    -- a word that encodes an assignment has the sign exactly where it is right there
    module _ (word : Word) (e : Env) (assigns : Assigns problem e) (encodes : Encodes globals word e) where
      there : (value : Sign) × (sign_of content word ≡ Some (file_sign version value)) × main_meaning problem e value
      there =
          let found = file.value.right word e (subst (λ mode. IsAssignment mode globals e) (sym file.mode_is) assigns) encodes in
          (found.0, same_sign word ∙ found.1, found.2)

      has_if_right : Holds e → Has word
      has_if_right right = there.1 ∙ ap (λ value. Some (file_sign version value)) ((IsMeaning-main problem.mode globals problem).one e there.0 sign assigns there.2 right)

      right_if_has : Has word → Holds e
      right_if_has has =
          let inside : there.0 ≢ Outside = λ is. (IsMeaning-main problem.mode globals problem).inside e assigns (subst (main_meaning problem e) is there.2) in
          subst (main_meaning problem e) (same_filed version there.0 sign inside (not_outside sign shown) (same_Some _ _ (sym there.1 ∙ has))) there.2

    -- an assignment at which it is right has a word of its length with the sign
    word_of_right : (e : Env) → Assigns problem e → Holds e → (word : Word) × IsWordOver content.variables word × Has word × (length word.letters ≡ length_of globals e)
    word_of_right e assigns right =
        let least = length_is_least problem.mode globals e assigns in
        let word = shortest_word globals e in (
          word,
          over-same globals content.variables same_orders word (encoding_is_over globals word e least.0),
          has_if_right word e assigns least.0 right,
          least.1,
        )

    -- a word that has the sign encodes an assignment at which it is right, and which is no longer
    right_of_word : (word : Word) → IsWordOver content.variables word → Has word → ¬ ¬ ((e : Env) × Assigns problem e × Holds e × (length_of globals e ≤ length word.letters))
    right_of_word word over has never =
        let outside = file.value.outside word (over-same content.variables globals (sym same_orders) word over) (λ encoding.
        let assigns = subst (λ mode. IsAssignment mode globals encoding.0) file.mode_is encoding.1 in
        never (encoding.0, assigns, right_if_has word encoding.0 assigns encoding.2 has, (length_is_least problem.mode globals encoding.0 assigns).2 word encoding.2)) in
        filed_inside version sign shown (same_Some _ _ (sym outside ∙ sym (same_sign word) ∙ has))

    -- so a shortest word is as long as what is shown
    pub as_long : (least : Option ℕ) (first : Option Assignment) → IsShortest content (file_sign version sign) least → ShowsFirst problem Holds first → least ≡ length_shown first
    as_long None None none shows = refl
    as_long None (Some assignment) none shows =
        let is = shows.1 in
        let found = word_of_right shows.0 is.assignment is.holds in
        absurd (none found.0 found.1 found.2)
    as_long (Some count) None is shows = absurd (right_of_word is.word is.over is.has_sign (λ found. shows found.0 found.1 found.2))
    as_long (Some count) (Some assignment) is shows =
        let first = shows.1 in
        let found = word_of_right shows.0 first.assignment first.holds in
        let at_most : count ≤ length_of globals shows.0 = omega (arith, is.least found.0 found.1 found.2, found.3) in
        let shown_is : assignment.length ≡ length_of globals shows.0 = ap (λ (a : Assignment). a.length) shows.2 in
        ap Some (elim (cases_eq count assignment.length) [
          | inl same ↦ same
          | inr differ ↦ absurd (right_of_word is.word is.over is.has_sign (λ other.
              let shorter : length_of globals other.0 ≤ count = omega (arith, other.3, is.letters) in
              first.none_before other.0 other.1 (inl (omega (arith, shorter, at_most, shown_is, differ))) other.2))
        ])

pub shortest_words_are_as_long : ShortestWordsAreAsLongAsShown
shortest_words_are_as_long version problem names plain answer proven file is proves = (
  as_long version problem names plain file Yes (inl refl) proven.plus answer.example proves.plus is.example,
  as_long version problem names plain file No (inr refl) proven.minus answer.counterexample proves.minus is.counterexample,
)
