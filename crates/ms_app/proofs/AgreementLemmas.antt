-- Two automata have canonical contents that are equal exactly where their main values agree.
use Rattle.std.proofs.Common.{◌≡◌, ◌≢◌, ◌↔◌, Some, inl, inr, sym, ap, subst, ◌∙◌}
use Rattle.std.proofs.lemmas.Option.{same_Some}
use Rattle.ms_dfa.specs.declared.plain.FileVersion.TheVariants as versions
use Rattle.ms_list.specs.declared.word.Word.{Word}
use Rattle.ms_dfa.specs.declared.plain.FileSign.{FileSign}
use Rattle.ms_logic_words.specs.declared.sign.Sign.{Sign}
use Rattle.ms_logic_words.specs.declared.sign.Sign.TheVariants.{Yes, No, Undefined, Outside}
use Rattle.ms_logic.specs.Assignment.{Env, IsAssignment}
use Rattle.ms_logic_words.specs.Content.{Content, IsWordOver, shortest_word, sign_of}
use Rattle.ms_logic.specs.Lists.{AreRising}
use Rattle.ms_logic.specs.Verdict.{Problem, Agree, MainYes, MainNo, variables_of}
use Rattle.ms_logic_words.specs.Word.{Encodes, IsEncoding}
use Rattle.ms_logic_words.proofs.WordLaws.{length_is_least}
use Rattle.ms_dfa.specs.Files.{file_sign}
use Rattle.ms_logic_words.specs.Residual.{HaveEqualSigns}
use Rattle.ms_minim_canonical.proofs.EqualityLemmas.{canonical_equal}
use Rattle.ms_dfa.specs.Values.{main_meaning}
use Rattle.ms_dfa.proofs.EncodingLemmas.{encoding_or_not}
use Rattle.ms_dfa.proofs.ValuesLemmas.{IsMeaning-main}
use Rattle.ms_build_source.proofs.ExportContents.{same_filed}
use Rattle.ms_app.specs.Counts.{IsCanonicalOf}

-- what agrees has the same signs right
agreed : (one two : Problem) (e : Env) → (MainYes one e ↔ MainYes two e) × (MainNo one e ↔ MainNo two e) → (sign : Sign) → main_meaning one e sign → main_meaning two e sign
agreed one two e both Yes means = both.0.0 means
agreed one two e both No means = both.1.0 means
agreed one two e both Undefined means = (λ yes. means.0 (both.0.1 yes), λ no. means.1 (both.1.1 no))
agreed one two e both Outside means = absurd means

-- where the right signs are the same, both agree
agree_by : (one two : Problem) (e : Env)
    → ((sign : Sign) → main_meaning one e sign → main_meaning two e sign) → ((sign : Sign) → main_meaning two e sign → main_meaning one e sign)
    → (MainYes one e ↔ MainYes two e) × (MainNo one e ↔ MainNo two e)
agree_by one two e there back = ((there Yes, back Yes), (there No, back No))

module _ (one two : Problem) (left right : Content FileSign) (is_left : IsCanonicalOf versions.Two one left) (is_right : IsCanonicalOf versions.Two two right)
    (mode : left.mode ≡ right.mode) (variables : left.variables ≡ right.variables) where
  at_left : (word : Word) (e : Env) → IsAssignment left.mode left.variables e → Encodes left.variables word e
      → (sign : Sign) × (sign_of left word ≡ Some (file_sign versions.Two sign)) × main_meaning one e sign
  at_left = is_left.value.right

  at_right : (word : Word) (e : Env) → IsAssignment left.mode left.variables e → Encodes left.variables word e
      → (sign : Sign) × (sign_of right word ≡ Some (file_sign versions.Two sign)) × main_meaning two e sign
  at_right word e assigned encodes =
      is_right.value.right word e (subst (λ vs. IsAssignment right.mode vs e) variables (subst (λ m. IsAssignment m left.variables e) mode assigned)) (subst (λ vs. Encodes vs word e) variables encodes)

  one_sign : (e : Env) (first second : Sign) → IsAssignment left.mode left.variables e → main_meaning one e first → main_meaning one e second → first ≡ second
  one_sign = (IsMeaning-main left.mode left.variables one).one

  other_sign : (e : Env) (first second : Sign) → IsAssignment left.mode left.variables e → main_meaning two e first → main_meaning two e second → first ≡ second
  other_sign = (IsMeaning-main left.mode left.variables two).one

  inside : (problem : Problem) (e : Env) (sign : Sign) → main_meaning problem e sign → sign ≢ Outside
  inside problem e sign means is = subst (main_meaning problem e) is means

  -- equal contents agree
  pub equal_agree : left ≡ right → Agree one two
  equal_agree equal e assigned =
      let here = subst (λ vs. IsAssignment left.mode vs e) (sym is_left.variables) (subst (λ m. IsAssignment m (variables_of one.globals) e) (sym is_left.mode) assigned) in
      let word = shortest_word left.variables e in
      let encodes = (length_is_least left.mode left.variables e here).0 in
      let first = at_left word e here encodes in
      let second = at_right word e here encodes in
      let same = same_filed versions.Two first.0 second.0 (inside one e first.0 first.2) (inside two e second.0 second.2)
      (same_Some _ _ (sym first.1 ∙ ap (λ content. sign_of content word) equal ∙ second.1)) in
      agree_by one two e
      (λ sign means. subst (main_meaning two e) (sym same ∙ one_sign e first.0 sign here first.2 means) second.2)
      (λ sign means. subst (main_meaning one e) (same ∙ other_sign e second.0 sign here second.2 means) first.2)

  -- and where both agree, their contents are equal
  pub agree_equal : AreRising left.variables → Agree one two → left ≡ right
  agree_equal rising agree = canonical_equal FileSign left right is_left.canonical is_right.canonical mode variables equal_signs
    where
      equal_signs : HaveEqualSigns left right
      equal_signs word over = elim (encoding_or_not left.mode left.variables word rising over) [
        | inl encoding ↦
            (let e = encoding.0 in
            let first = at_left word e encoding.1 encoding.2 in
            let second = at_right word e encoding.1 encoding.2 in
            let assigned = subst (λ vs. IsAssignment one.mode vs e) is_left.variables (subst (λ m. IsAssignment m left.variables e) is_left.mode encoding.1) in
            let same = other_sign e second.0 first.0 encoding.1 second.2 (agreed one two e (agree e assigned) first.0 first.2) in
            second.1 ∙ ap (λ sign. Some (file_sign versions.Two sign)) same ∙ sym first.1)
        | inr outside ↦
            is_right.value.outside word (subst (λ vs. IsWordOver vs word) variables over)
            (λ encoding. outside (subst (λ m. IsEncoding m left.variables word) (sym mode) (subst (λ vs. IsEncoding right.mode vs word) (sym variables) encoding)))
            ∙ sym (is_left.value.outside word over outside)
      ]
