use Rattle.std.proofs.Common.{◌≡◌, ◌++◌, drop, filter, not}
use Rattle.ms_dfa.specs.Files.{content_of_file}
use Rattle.ms_cert.specs.inner.Partition.{is_split_off}
use Rattle.ms_cert.proofs.partition.sides_by.Given as goal

-- the sides so far, with those of the states that are left
abbrev pub invariant-loop-state : goal.invariant-loop-state
invariant-loop-state l = record {
  first : l.first ++ filter (is_split_off (content_of_file l.file.plain.now) l.splitter) (drop l.state-index l.states)
      ≡ filter (is_split_off (content_of_file l.file.plain.now) l.splitter) l.states;
  second : l.second ++ filter (λ state. not (is_split_off (content_of_file l.file.plain.now) l.splitter state)) (drop l.state-index l.states)
      ≡ filter (λ state. not (is_split_off (content_of_file l.file.plain.now) l.splitter state)) l.states;
}
