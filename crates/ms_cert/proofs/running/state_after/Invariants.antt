use Rattle.std.proofs.Common.{◌≡◌, ◌<◌, drop, length}
use Rattle.ms_dfa.specs.Files.{content_of_file}
use Rattle.ms_logic_words.specs.Content.{state_after}
use Rattle.ms_cert.proofs.running.state_after.Given as goal

-- the letters that are left lead from the state where all lead from the first one
abbrev pub invariant-loop-letter : goal.invariant-loop-letter
invariant-loop-letter l =
    (l.state < length l.plain.states) × (state_after (content_of_file l.plain) l.state (drop l.letter-index l.letters) ≡ state_after (content_of_file l.plain) l.from l.letters)
