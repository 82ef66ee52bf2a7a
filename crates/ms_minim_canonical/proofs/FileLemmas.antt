-- The content that is made of a reduced automaton is canonical, and gives each word the file's sign of its own.
use Rattle.std.proofs.Common.{◌≡◌, ℕ, ◌<◌, Bool, List, length, slice_get, Option, Some, sym, ap, ◌∙◌, arith}
use Rattle.std.specs.Option.{option_map}
use Rattle.std.proofs.lemmas.List.{length-map}
use Rattle.ms_list.specs.declared.word.Word.{Word}
use Rattle.ms_arena.specs.declared.node.Node.{Node}
use Rattle.ms_arena.specs.declared.node.Ref.{Ref}
use Rattle.ms_dfa.specs.Automaton.{state_of}
use Rattle.ms_dfa.specs.declared.plain.FileSign.{FileSign}
use Rattle.ms_dfa.specs.declared.plain.FileState.{FileState}
use Rattle.ms_dfa.specs.declared.plain.FileVersion.{FileVersion}
use Rattle.ms_dfa.specs.declared.state.State.{State}
use Rattle.ms_logic_words.specs.declared.sign.Sign.{Sign}
use Rattle.ms_logic.specs.Assignment.{Variable}
use Rattle.ms_logic_words.specs.Canonical.{HaveSameSigns, IsCanonical}
use Rattle.ms_logic_words.specs.Content.{Content, AreLetters, IsClosed, IsWordOver, last_state, sign_at, sign_of, state_after}
use Rattle.ms_minim.specs.declared.reading.SignReading.{SignReading}
use Rattle.ms_minim.specs.SignReading.{read_content, read_sign}
use Rattle.ms_minim.specs.Reduced.{IsReducedOf, content_over}
use Rattle.ms_minim.proofs.ReadingLemmas.{sign_of-read}
use Rattle.ms_dfa.specs.Files.{file_sign, file_states_of}
use Rattle.ms_minim_canonical.specs.inner.Reading.{IsReadingFor}
use Rattle.ms_minim_canonical.specs.inner.Renumbering.{IsRenumbered, LeadsBelow}
use Rattle.ms_minim_canonical.proofs.CanonicalLemmas.{canonical-renumbered}
use Rattle.ms_minim.proofs.LettersLemmas.{over-with_letters, sign_of-with_letters, with_letters}
use Rattle.ms_minim_canonical.proofs.FiledLemmas.{after-filed, closed-filed, last-filed, sign-filed, sign_of-filed}
use Rattle.ms_minim_canonical.proofs.ReadingLemmas.{filed-apart, filed-read}
use Rattle.ms_dfa.proofs.OrdersLemmas.{letters-same, orders_of, over-same}
use Rattle.ms_minim_canonical.proofs.RenumberedLemmas.{filed, leads_next, same_word_sign}

module _ (version : FileVersion) (reading : SignReading) (right : IsReadingFor version reading) (a : Content Sign) (nodes : List Node) (start : Ref) (states : List State)
    (is : IsReducedOf (read_content reading a) (content_over a nodes start states)) (ws : List Variable) (same : orders_of a.variables ≡ orders_of ws) where
  abbrev plain : Content Sign
  plain = content_over a nodes start states

  abbrev old : Content FileSign
  old = filed version a.mode ws nodes start states

  closed : IsClosed old
  closed = closed-filed version a.mode a.variables ws same nodes start states is.closed

  pub leads : (place : ℕ) (state : State) → slice_get states place ≡ Some state → LeadsBelow nodes (length states) state.next
  leads = leads_next version a.mode ws nodes start states is.ordered is.reduced closed

  -- a word has the sign that is read of its own
  sign_read : (word : Word) → IsWordOver a.variables word → sign_of plain word ≡ option_map (read_sign reading) (sign_of a word)
  sign_read word over = is.signs word over ∙ sign_of-read reading a word

  long : length plain.states ≡ length states
  long = length-map states state_of

  behind : (n : ℕ) → n < length states → (letters : List (List Bool)) → AreLetters a.variables letters
      → (sign : Option Sign) × (sign_at plain (state_after plain n letters) ≡ option_map (read_sign reading) sign)
  behind n less letters are =
      let reached = is.reached n (omega (arith, less, long)) in
      let word = with_letters reached.0 letters in (
        sign_of a word,
        ap (λ state. sign_at plain (state_after plain state letters)) (sym reached.2) ∙ sym (sign_of-with_letters plain reached.0 letters)
            ∙ sign_read word (over-with_letters a.variables reached.0 letters reached.1 are),
      )

  sign_after : (n : ℕ) (letters : List (List Bool)) → sign_at old (state_after old n letters) ≡ option_map (file_sign version) (sign_at plain (state_after plain n letters))
  sign_after n letters =
      ap (sign_at old) (after-filed version a.mode a.variables ws same nodes start states n letters)
      ∙ sign-filed version a.mode a.variables ws same nodes start states (state_after plain n letters)

  reached-filed : (n : ℕ) → n < length states → (word : Word) × IsWordOver ws word × (last_state old word ≡ n)
  reached-filed n less =
      let reached = is.reached n (omega (arith, less, long)) in (
        reached.0,
        over-same a.variables ws same reached.0 reached.1,
        last-filed version a.mode a.variables ws same nodes start states reached.0 ∙ reached.2,
      )

  differ-filed : (one two : ℕ) → one < length states → two < length states → HaveSameSigns old one two → one ≡ two
  differ-filed one two less_one less_two equal =
      is.differ one two (omega (arith, less_one, long)) (omega (arith, less_two, long)) (λ letters are.
      let first = behind one less_one letters are in
      let second = behind two less_two letters are in
      let filed_same : option_map (file_sign version) (option_map (read_sign reading) first.0) ≡ option_map (file_sign version) (option_map (read_sign reading) second.0)
      = ap (option_map (file_sign version)) (sym first.1) ∙ sym (sign_after one letters) ∙ equal letters (letters-same a.variables ws same letters are)
      ∙ sign_after two letters ∙ ap (option_map (file_sign version)) second.1 in
      first.1 ∙ filed-apart version reading right first.0 second.0 filed_same ∙ sym second.1)

  module _ (made_start : Ref) (made_states : List FileState) (made_nodes : List Node) (renumbered : IsRenumbered version nodes start states made_start made_states made_nodes) where
    abbrev pub made : Content FileSign
    made = record { mode = a.mode; variables = ws; start = made_start; states = file_states_of made_states; nodes = made_nodes }

    pub canonical-made : IsCanonical made
    canonical-made = canonical-renumbered version a.mode ws nodes start states is.ordered is.reduced closed made_start made_states made_nodes renumbered reached-filed differ-filed

    pub signs-made : (word : Word) → IsWordOver a.variables word → sign_of made word ≡ option_map (file_sign version) (sign_of a word)
    signs-made word over =
        same_word_sign version a.mode ws nodes start states is.ordered is.reduced closed made_start made_states made_nodes renumbered word
        ∙ sign_of-filed version a.mode a.variables ws same nodes start states word ∙ ap (option_map (file_sign version)) (sign_read word over) ∙ filed-read version reading right (sign_of a word)
