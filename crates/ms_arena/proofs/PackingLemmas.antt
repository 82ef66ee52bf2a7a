-- Cells in sixteen bytes, as they are appended and linked.
use Rattle.std.proofs.Common.{◌≡◌, ℕ, zero, suc, ◌%◌, ◌<◌, ◌≤◌, false, leb, List, [], ◌∷◌, ◌++◌, length, slice_get, get_or, set, Some, refl, sym, ap, ◌∙◌, ⊎_elim, length-append, arith}
use Rattle.std.proofs.lemmas.Bool.{cases_lt, le-leb, lt-leb}
use Rattle.std.proofs.lemmas.Option.{same_Some}
use Rattle.std.specs.Option.{option_map}
use Rattle.ms_arena.specs.declared.node.Ref.{Ref}
use Rattle.ms_arena.specs.declared.node.Node.{Node}
use Rattle.ms_arena.specs.declared.cells.Cell.{Cell}
use Rattle.ms_arena.specs.declared.cells.Packed.{Packed}
use Rattle.ms_arena.specs.declared.cells.Upper.{Upper}
use Rattle.ms_arena.specs.inner.Code.{code_of, ref_of}
use Rattle.ms_arena.specs.inner.Packing.{whole_code, unpacked, no_upper, cells_of, HasNoted}
use Rattle.ms_arena.proofs.CodeLemmas.{ref_of-code_of}

-- there are as many cells as are packed
pub length-cells_of : (all : List Packed) (uppers : List Upper) → length (cells_of all uppers) ≡ length all
length-cells_of [] uppers = refl
length-cells_of (packed ∷ all) [] = ap suc (length-cells_of all [])
length-cells_of (packed ∷ all) (upper ∷ uppers) = ap suc (length-cells_of all uppers)

-- the cell at a place is the one that is packed there, with its upper bits
pub cell_at : (all : List Packed) (uppers : List Upper) (place : ℕ)
    → slice_get (cells_of all uppers) place ≡ option_map (λ packed. unpacked packed (get_or uppers place no_upper)) (slice_get all place)
cell_at [] uppers place = refl
cell_at (packed ∷ all) [] zero = refl
cell_at (packed ∷ all) [] (suc place) = cell_at all [] place
cell_at (packed ∷ all) (upper ∷ uppers) zero = refl
cell_at (packed ∷ all) (upper ∷ uppers) (suc place) = cell_at all uppers place

-- a cell behind all that have upper bits
pub cells_of-push : (all : List Packed) (uppers : List Upper) (packed : Packed) → length uppers ≤ length all → cells_of (all ++ packed ∷ []) uppers ≡ cells_of all uppers ++ unpacked packed no_upper ∷ []
cells_of-push [] [] packed below = refl
cells_of-push [] (upper ∷ uppers) packed below = absurd (let never : ⊥ = omega (arith, below) in never)
cells_of-push (first ∷ all) [] packed below = ap (λ rest. unpacked first no_upper ∷ rest) (cells_of-push all [] packed (omega arith))
cells_of-push (first ∷ all) (upper ∷ uppers) packed below = ap (λ rest. unpacked first upper ∷ rest) (cells_of-push all uppers packed (omega (arith, below)))

-- and one with upper bits of its own
cells_of-upper : (all : List Packed) (uppers : List Upper) (packed : Packed) (upper : Upper) → length uppers ≡ length all
    → cells_of (all ++ packed ∷ []) (uppers ++ upper ∷ []) ≡ cells_of all uppers ++ unpacked packed upper ∷ []
cells_of-upper [] [] packed upper same = refl
cells_of-upper [] (first ∷ uppers) packed upper same = absurd (let never : ⊥ = omega (arith, same) in never)
cells_of-upper (first ∷ all) [] packed upper same = absurd (let never : ⊥ = omega (arith, same) in never)
cells_of-upper (first ∷ all) (own ∷ uppers) packed upper same = ap (λ rest. unpacked first own ∷ rest) (cells_of-upper all uppers packed upper (omega (arith, same)))

-- a cell without upper bits may be noted as such
pub cells_of-none : (all : List Packed) (uppers : List Upper) → cells_of all (uppers ++ no_upper ∷ []) ≡ cells_of all uppers
cells_of-none [] uppers = refl
cells_of-none (packed ∷ all) [] = refl
cells_of-none (packed ∷ all) (upper ∷ uppers) = ap (λ rest. unpacked packed upper ∷ rest) (cells_of-none all uppers)

-- upper bits behind others that say what the old ones said
pub HasNoted-push : (old filled : List Upper) (place : ℕ) (upper : Upper) → ((all : List Packed) → cells_of all filled ≡ cells_of all old) → length filled ≡ place → HasNoted old (filled ++ upper ∷ []) place upper
HasNoted-push old filled place upper same full = record {
  counted = omega (arith, length-append filled (upper ∷ []), full);
  packed = λ all packed held. cells_of-upper all filled packed upper (full ∙ sym held) ∙ ap (λ cells. cells ++ unpacked packed upper ∷ []) (same all);
}

-- and where a cell has none, nothing need be noted
pub HasNoted-none : (old : List Upper) (place : ℕ) (upper : Upper) → length old ≤ place → upper.low ≡ false → upper.high ≡ false → HasNoted old old place upper
HasNoted-none old place upper below low high = record {
  counted = omega (arith, below);
  packed = λ all packed held. cells_of-push all old packed (omega (arith, below, held))
      ∙ ap (λ (u : Upper). cells_of all old ++ unpacked packed u ∷ []) (λ i. record { low = sym low i; high = sym high i });
}

-- a link that is written
pub cells_of-link : (all : List Packed) (uppers : List Upper) (place next : ℕ) (packed : Packed) (cell : Cell) → slice_get all place ≡ Some packed → slice_get (cells_of all uppers) place ≡ Some cell
    → cells_of (set all place (record { var = packed.var; low = packed.low; high = packed.high; next = next })) uppers ≡ set (cells_of all uppers) place (record { node = cell.node; next = next })
cells_of-link [] uppers place next packed cell held there = refl
cells_of-link (first ∷ all) [] zero next packed cell held there =
    ap (λ (p : Packed). record { node = (unpacked p no_upper).node; next = next } ∷ cells_of all []) (sym (same_Some first packed held))
    ∙ ap (λ (c : Cell). record { node = c.node; next = next } ∷ cells_of all []) (same_Some (unpacked first no_upper) cell there)
cells_of-link (first ∷ all) [] (suc place) next packed cell held there = ap (λ rest. unpacked first no_upper ∷ rest) (cells_of-link all [] place next packed cell held there)
cells_of-link (first ∷ all) (upper ∷ uppers) zero next packed cell held there =
    ap (λ (p : Packed). record { node = (unpacked p upper).node; next = next } ∷ cells_of all uppers) (sym (same_Some first packed held))
    ∙ ap (λ (c : Cell). record { node = c.node; next = next } ∷ cells_of all uppers) (same_Some (unpacked first upper) cell there)
cells_of-link (first ∷ all) (upper ∷ uppers) (suc place) next packed cell held there = ap (λ rest. unpacked first upper ∷ rest) (cells_of-link all uppers place next packed cell held there)

-- a code is what its lower four bytes and the bit above them say
whole_code-parts : (code : ℕ) → code < 8589934592 → whole_code (code % 4294967296) (leb 4294967296 code) ≡ code
whole_code-parts code small = ⊎_elim
    (λ below. ap (whole_code (code % 4294967296)) (lt-leb 4294967296 code below) ∙ omega (arith, below))
    (λ above. ap (whole_code (code % 4294967296)) (le-leb 4294967296 code above) ∙ omega (arith, above, small))
    (cases_lt code 4294967296)

-- and so is its reference
ref_of-parts : (reference : Ref) (code : ℕ) → code ≡ code_of reference → code < 8589934592 → ref_of (whole_code (code % 4294967296) (leb 4294967296 code)) ≡ reference
ref_of-parts reference code is small = ap ref_of (whole_code-parts code small ∙ is) ∙ ref_of-code_of reference

-- a node that is put behind the cells, by the codes of its ends
pub cells_of-node : (all : List Packed) (old new : List Upper) (place : ℕ) (node : Node) (low high : ℕ) → length all ≡ place
    → HasNoted old new place (record { low = leb 4294967296 low; high = leb 4294967296 high })
    → low ≡ code_of node.low → low < 8589934592 → high ≡ code_of node.high → high < 8589934592
    → cells_of (all ++ record { var = node.var; low = low % 4294967296; high = high % 4294967296; next = 0 } ∷ []) new ≡ cells_of all old ++ record { node = node; next = 0 } ∷ []
cells_of-node all old new place node low high held noted low_is low_small high_is high_small =
    let low_end = ref_of-parts node.low low low_is low_small in
    let high_end = ref_of-parts node.high high high_is high_small in
    noted.packed all (record { var = node.var; low = low % 4294967296; high = high % 4294967296; next = 0 }) held
    ∙ ap (λ (n : Node). cells_of all old ++ record { node = n; next = 0 } ∷ []) (λ i. record { var = node.var; low = low_end i; high = high_end i })
