use Rattle.std.proofs.Common.{◌≡◌, ℕ, ◌-◌, Some, length, slice_get}
use Rattle.ms_dfa.specs.Files.{content_of_file}
use Rattle.ms_cert.specs.declared.splitter.Splitter.{Splitter}
use Rattle.ms_cert.specs.inner.Growing.{AreGrown}
use Rattle.ms_cert.specs.inner.Partition.{classes_of}
use Rattle.ms_cert.proofs.growing.grow_tree.Given as goal

-- a tree for each class that is left, and the splitters of these classes
abbrev pub invariant-joining : goal.invariant-joining
invariant-joining l = record {
  grown : AreGrown (content_of_file l.file.plain.now) (classes_of l.initial.partition) (length l.trees.items - 1) l.trees.items;
  splitters_count : length l.partition.splitters.items ≡ length l.trees.items;
  splitters : (class : ℕ) (splitter : Splitter) → slice_get l.partition.splitters.items class ≡ Some splitter → slice_get l.initial.partition.splitters.items class ≡ Some splitter;
  parents : l.partition.parents.items ≡ l.initial.partition.parents.items;
}

abbrev pub decreases-joining : goal.decreases-joining
decreases-joining l = length l.trees.items
