-- Each core formula has exactly one full content over each list of variables that has its own (Büchi, 1960; Elgot, 1961; Myhill, 1957;
-- Nerode, 1958).
use Rattle.std.specs.Prelude.{◌≡◌, List}
use Rattle.ms_logic.specs.Assignment.{Variable}
use Rattle.ms_logic.specs.Truth.{Answer, Import}
use Rattle.ms_logic.specs.declared.mode.Mode.{Mode}
use Rattle.ms_logic_core.specs.CoreForm.{CoreForm}
use Rattle.ms_logic_measures.specs.Budgets.{AreContentsOfImports}
use Rattle.ms_logic_measures.specs.FullContent.{IsFullContent}
use Rattle.ms_logic_words.specs.Content.{Content}
use Rattle.ms_logic_words.specs.declared.sign.Sign.{Sign}
use Rattle.ms_logic_readers.specs.Scoped.{AreDistinct, IsOver}

-- there is one, where the imports are those of files with contents
abbrev pub FullContentsExist : Type 0
FullContentsExist =
    (imports : List Import) (mode : Mode) (files : List (Content Answer)) (variables : List Variable) (f : CoreForm)
    → AreContentsOfImports mode imports files → AreDistinct variables → IsOver imports variables f
    → (content : Content Sign) × IsFullContent imports mode variables f content

-- and no other
abbrev pub FullContentsAreEqual : Type 0
FullContentsAreEqual =
    (imports : List Import) (mode : Mode) (files : List (Content Answer)) (variables : List Variable) (f : CoreForm)
    → AreContentsOfImports mode imports files → AreDistinct variables → IsOver imports variables f
    → (one other : Content Sign) → IsFullContent imports mode variables f one → IsFullContent imports mode variables f other → one ≡ other
