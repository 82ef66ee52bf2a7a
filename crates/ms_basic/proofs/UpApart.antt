-- No two states of the machine of S = T + n are alike.
use Rattle.std.proofs.Common.{◌≢◌, ℕ, zero, suc, ◌^◌, false, refl, arith}
use Rattle.ms_logic.specs.declared.mode.Mode.{Mode}
use Rattle.ms_logic.specs.declared.mode.Mode.TheVariants.{Ws1s, M2lStr}
use Rattle.ms_logic_words.specs.declared.sign.Sign.TheVariants.{No}
use Rattle.ms_basic.specs.inner.Apart.{HasStatesApart}
use Rattle.ms_basic.specs.inner.Windows.{up_sign, up_table}
use Rattle.ms_basic.proofs.ApartLemmas.{of_two, two_bits}
use Rattle.ms_basic.proofs.WindowsApart.{LetsOut, lost_apart, windows_apart}

-- an empty window is no contradiction
empty_differs : (mode : Mode) → up_sign mode 1 ≢ No
empty_differs Ws1s = grind arith
empty_differs M2lStr = grind arith

up_lets_out : (mode : Mode) (n : ℕ) → LetsOut (up_table mode (2 ^ n)) n suc (λ bit. two_bits bit false)
up_lets_out mode n = record { of = λ bit. of_two bit false; lost = λ bit. refl; step = λ window bit small. refl; differ = empty_differs mode }

pub up_apart : (mode : Mode) (n : ℕ) → HasStatesApart 2 (up_table mode (2 ^ n))
up_apart mode n one zero less small = absurd (omega (arith, less))
up_apart mode n zero (suc window) less small = lost_apart (up_table mode (2 ^ n)) n suc (λ bit. two_bits bit false) (up_lets_out mode n) window (omega (arith, small))
up_apart mode n (suc window) (suc other) less small =
    windows_apart (up_table mode (2 ^ n)) n suc (λ bit. two_bits bit false) (up_lets_out mode n)
    window other (omega (arith, less, small)) (omega (arith, small)) (omega (arith, less))
