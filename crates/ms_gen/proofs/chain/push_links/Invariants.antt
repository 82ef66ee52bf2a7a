use Rattle.std.proofs.Common.{◌≡◌, ◌++◌, string_bytes}
use Rattle.ms_gen.specs.Generated.{links_text}
use Rattle.ms_gen.proofs.chain.push_links.Given as goal

-- the inclusions so far
abbrev pub invariant-loop-place : goal.invariant-loop-place
invariant-loop-place l = string_bytes l.text ≡ string_bytes l.initial.text ++ links_text l.place
