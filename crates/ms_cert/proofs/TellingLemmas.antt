-- What tells two states apart.
use Rattle.std.proofs.Common.{◌≡◌, ◌≢◌, ℕ, ◌<◌, Bool, true, false, IfSome, List, [], ◌∷◌, slice_get, slice_index, Option, Some, None, sym, ap, subst, ◌∙◌, arith}
use Rattle.std.proofs.lemmas.Option.{same_Some, slice_get-get_or, slice_get_within}
use Rattle.std.specs.Option.{option_map_or}
use Rattle.ms_dfa.specs.declared.plain.FileSign.{FileSign}
use Rattle.ms_logic_words.specs.Content.{Content, next_state, sign_at}
use Rattle.ms_cert.specs.Certificate.{ends_in, is_sign}
use Rattle.ms_cert.specs.declared.splitter.Splitter.{Splitter}
use Rattle.ms_cert.specs.inner.Partition.{Classes, HasTail, IsParting, IsPartition, StemsFrom, is_split_off}
use Rattle.ms_cert.specs.inner.Refinement.{LeadsApart, Refines, TellsApart}
use Rattle.ms_cert.proofs.PartitionLemmas.{parting-tells}
use Rattle.ms_cert.proofs.SignsLemmas.{is_sign-own, is_sign-true}

-- what follows where something is found
pub some-weaker : {X : Type 0} (found : Option X) (P Q : X → Type 0) → ((x : X) → P x → Q x) → IfSome found P → IfSome found Q
some-weaker None P Q follows is = is
some-weaker (Some x) P Q follows is = follows x is

module _ (content : Content FileSign) (one other : ℕ) where
  -- different signs
  pub tells-signs : (own also : FileSign) → sign_at content one ≡ Some own → sign_at content other ≡ Some also → is_sign own also ≡ false → TellsApart content one other (record { sign = own; letters = []; tail = 0 })
  tells-signs own also is_own is_also differ = λ same.
      let test = λ (found : Option FileSign). option_map_or (λ s. is_sign s own) found false in
      let yes : is_sign also own ≡ true = sym (ap test is_also) ∙ sym same ∙ ap test is_own ∙ is_sign-own own in
      let equal : also ≡ own = is_sign-true also own yes in
      let clash : true ≡ false = sym (is_sign-own own) ∙ ap (is_sign own) (sym equal) ∙ differ in
      cc

  -- a letter that leads to different classes, and behind it what told these apart
  pub tells-behind : (parts : Classes) (is : IsPartition content parts) (old : List ℕ) (letter : List Bool) (first second first_class second_class split : ℕ) (found : Splitter) (letters : List (List Bool)) → Refines parts.classes old
      → LeadsApart content old one other letter → first ≡ next_state content one letter → second ≡ next_state content other letter → slice_get parts.classes first ≡ Some first_class → slice_get parts.classes second ≡ Some second_class
      → (first_class ≢ second_class → IsParting parts.parents first_class second_class split) → slice_get parts.splitters split ≡ Some found → letters ≡ letter ∷ found.letters
      → TellsApart content one other (record { sign = found.sign; letters = letters; tail = split })
  tells-behind parts is old letter first second first_class second_class split found letters refines apart is_first is_second held_first held_second parting held is_letters =
      let differ : first_class ≢ second_class = λ same. apart (ap (slice_index old) (sym is_first) ∙ refines first second second_class (held_first ∙ ap Some same) held_second ∙ ap (slice_index old) is_second) in
      let tells = parting-tells content parts is first second first_class second_class split found held_first held_second (parting differ) held in
      let next : is_split_off content found (next_state content one letter) ≢ is_split_off content found (next_state content other letter) =
      λ same. tells (ap (is_split_off content found) is_first ∙ same ∙ ap (is_split_off content found) (sym is_second)) in
      subst (λ (l : List (List Bool)). TellsApart content one other (record { sign = found.sign; letters = l; tail = split })) (sym is_letters) next

-- a splitter ends in its sign from a state right where its tail does from the next one
pub behind-tail : (content : Content FileSign) (parts : Classes) (splitter : Splitter) (has : HasTail parts splitter) (state : ℕ) → is_split_off content splitter state ≡ is_split_off content has.tail (next_state content state has.letter)
behind-tail content parts splitter has state =
    ap (λ (letters : List (List Bool)). ends_in content splitter.sign letters state) has.letters
    ∙ ap (λ (sign : FileSign). ends_in content sign (has.letter ∷ has.tail.letters) state) has.sign

-- the class to which the first letter leads tells on which side of its tail a state is
pub tail-tells : (content : Content FileSign) (parts : Classes) (is : IsPartition content parts) (splitter : Splitter) → 0 < splitter.tail → (has : HasTail parts splitter) (state class own : ℕ)
    → slice_get parts.classes (next_state content state has.letter) ≡ Some class → StemsFrom parts.parents splitter.tail class own
    → (own ≡ splitter.tail → is_split_off content splitter state ≡ true) × (own ≡ slice_index parts.parents splitter.tail → is_split_off content splitter state ≡ false)
tail-tells content parts is splitter some has state class own held stems =
    let next = next_state content state has.letter in
    let parent = slice_index parts.parents splitter.tail in
    let within = slice_get_within parts.splitters splitter.tail has.tail has.there in
    let long = is.splitters_count in
    let held_parent = slice_get-get_or parts.parents splitter.tail 0 (omega (arith, within, long)) in
    let told = is.told splitter.tail parent next class own has.tail some held_parent has.there held stems in
    let same = behind-tail content parts splitter has state in
    (λ at_split. same ∙ told.0 at_split, λ at_parent. same ∙ told.1 at_parent)

-- the same by what was read: the first letter, and the parents of classes
pub tail-tells-read : (content : Content FileSign) (parts : Classes) (is : IsPartition content parts) (splitter : Splitter) (some : 0 < splitter.tail) (has : HasTail parts splitter) (letter : List Bool) → slice_get splitter.letters 0 ≡ Some letter
    → (state class own : ℕ) → slice_get parts.classes (next_state content state letter) ≡ Some class → (parents : List ℕ) → parents ≡ parts.parents → StemsFrom parents splitter.tail class own
    → (own ≡ splitter.tail → is_split_off content splitter state ≡ true) × (own ≡ slice_index parts.parents splitter.tail → is_split_off content splitter state ≡ false)
tail-tells-read content parts is splitter some has letter first state class own held parents same stems =
    let read : letter ≡ has.letter = same_Some letter has.letter (sym first ∙ ap (λ (ls : List (List Bool)). slice_get ls 0) has.letters) in
    tail-tells content parts is splitter some has state class own (subst (λ (l : List Bool). slice_get parts.classes (next_state content state l) ≡ Some class) read held)
    (subst (λ (ps : List ℕ). StemsFrom ps splitter.tail class own) same stems)
