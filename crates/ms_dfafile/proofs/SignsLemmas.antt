-- The signs of the states of a file are those of its content.
use Rattle.std.proofs.Common.{◌≡◌, ◌≢◌, ℕ, List, slice_get, Some, sym, ap, subst, ◌∙◌}
use Rattle.std.specs.Option.{option_map}
use Rattle.std.proofs.lemmas.Option.{slice_get-map}
use Rattle.ms_logic_words.specs.Content.{StateOf}
use Rattle.ms_dfa.specs.Files.{HasNoOutside, content_of_file}
use Rattle.ms_dfa.specs.declared.plain.FileSign.{FileSign}
use Rattle.ms_dfa.specs.declared.plain.FileSign.TheVariants as signs
use Rattle.ms_dfa.specs.declared.plain.FileState.{FileState}
use Rattle.ms_dfa.specs.declared.plain.Plain.{Plain}
use Rattle.ms_dfafile.proofs.RulesLemmas.{mapped}

abbrev state_of : FileState → StateOf FileSign
state_of state = record { sign = state.sign; next = state.next }

abbrev pub AreOthers : List FileState → Type 0
AreOthers states = (i : ℕ) (state : FileState) → slice_get states i ≡ Some state → state.sign ≢ signs.Outside

pub no_outside-from : (plain : Plain) → AreOthers plain.states → HasNoOutside (content_of_file plain)
no_outside-from plain others i state held =
    let found = mapped state_of (slice_get plain.states i) state (sym (slice_get-map state_of plain.states i) ∙ held) in
    subst (λ (s : StateOf FileSign). s.sign ≢ signs.Outside) found.2 (others i found.0 found.1)

pub no_outside-to : (plain : Plain) → HasNoOutside (content_of_file plain) → AreOthers plain.states
no_outside-to plain none i state held = none i (state_of state) (slice_get-map state_of plain.states i ∙ ap (option_map state_of) held)
