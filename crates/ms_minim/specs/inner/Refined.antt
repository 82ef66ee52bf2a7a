-- What a pass over the classes of an automaton comes to.
use Rattle.std.specs.Prelude.{ℕ, ◌<◌, ◌≤◌, List, length}
use Rattle.ms_logic_words.specs.declared.sign.Sign.{Sign}
use Rattle.ms_logic_words.specs.Content.{Content}
use Rattle.ms_minim.specs.declared.refinement.Refined.{Refined}
use Rattle.ms_minim.specs.declared.refinement.Refined.TheVariants.{Finer, Settled}
use Rattle.ms_minim.specs.inner.Image.{AreImages}
use Rattle.ms_minim.specs.inner.Partition.{IsPartition, AreNerodeClasses}

-- a partition into more classes; or the classes are those by residuals, with the images of the nodes by them
abbrev pub IsRefined : Content Sign → List ℕ → List ℕ → List ℕ → Refined → Type 0
IsRefined content origins classes members (Finer finer) = IsPartition content finer.classes finer.members × (length members < length finer.members)
IsRefined content origins classes members (Settled images) =
    AreNerodeClasses content classes members × AreImages content.nodes classes origins images × (length images.store.nodes ≤ length content.nodes)
