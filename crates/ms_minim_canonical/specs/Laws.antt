-- What is canonical about a canonical content: it is the only one that gives each word the sign that it does, and none that
-- does so has fewer states (Myhill, 1957; Nerode, 1958; Bryant, 1986).
use Rattle.std.specs.Prelude.{◌≡◌}
use Rattle.ms_logic_words.specs.Canonical.{IsCanonical}
use Rattle.ms_logic_words.specs.Content.{Content}
use Rattle.ms_logic_words.specs.Residual.{HaveEqualSigns, HasFewestStates}

-- canonical contents of one mode and over the same variables that give each word over them the same sign are equal
abbrev pub CanonicalContentsAreEqual : Type 0 → Type 0
CanonicalContentsAreEqual Sign =
    (one other : Content Sign) → IsCanonical one → IsCanonical other → one.mode ≡ other.mode → one.variables ≡ other.variables → HaveEqualSigns one other
    → one ≡ other

-- a canonical content has fewest states
abbrev pub CanonicalContentsHaveFewestStates : Type 0 → Type 0
CanonicalContentsHaveFewestStates Sign = (content : Content Sign) → IsCanonical content → HasFewestStates content
