use Rattle.std.proofs.Common.{◌≡◌, take}
use Rattle.ms_names.proofs.source.copy_texts.Given as goal

-- the texts so far are copied
abbrev pub invariant-loop-text : goal.invariant-loop-text
invariant-loop-text l = l.made ≡ take l.text-index l.texts
