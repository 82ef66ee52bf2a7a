-- Files of meanings have equal bytes exactly where the meanings are one.
use Rattle.std.proofs.Common.{◌≡◌, ◌≢◌, ◌↔◌, ℕ, List, Some, map, ⊎_elim, sym, ap, subst, ◌∙◌}
use Rattle.std.proofs.lemmas.Option.{same_Some}
use Rattle.ms_dfa.specs.Files.{content_of_file, file_sign}
use Rattle.ms_minim_canonical.proofs.EqualityLemmas.{canonical_equal}
use Rattle.ms_dfa.proofs.OrdersLemmas.{orders_of, orders-by_place, over-same}
use Rattle.ms_dfa.specs.declared.plain.FileSign.{FileSign}
use Rattle.ms_dfa.specs.declared.plain.FileVersion.{FileVersion}
use Rattle.ms_dfa.specs.declared.plain.Plain.{Plain}
use Rattle.ms_dfafile.specs.File.{IsSpelled}
use Rattle.ms_dfafile.specs.Spelling.{spelled}
use Rattle.ms_dfafile.proofs.FileLemmas.{one_content}
use Rattle.ms_list.specs.declared.word.Word.{Word}
use Rattle.ms_logic.specs.declared.mode.Mode.{Mode}
use Rattle.ms_logic_words.specs.declared.sign.Sign.{Sign}
use Rattle.ms_logic_words.specs.declared.sign.Sign.TheVariants.{Yes, No, Undefined, Outside}
use Rattle.ms_logic.specs.Assignment.{Env, Variable, IsAssignment}
use Rattle.ms_logic_words.specs.Content.{IsWordOver, shortest_word, sign_of, variables_by_place}
use Rattle.ms_logic.specs.Lists.{AreRising}
use Rattle.ms_logic.specs.Tree.{Form}
use Rattle.ms_logic.specs.Truth as truth
use Rattle.ms_logic.specs.Truth.{Given}
use Rattle.ms_logic.specs.Verdict.{MainNo, MainYes, variables_of}
use Rattle.ms_logic_words.specs.Word.{Encodes, IsEncoding}
use Rattle.ms_logic.proofs.Consistent.{yes_is_not_no}
use Rattle.ms_logic_words.proofs.WordLaws.{length_is_least}
use Rattle.ms_logic_words.specs.Residual.{HaveEqualSigns}
use Rattle.ms_build_source.specs.Values.{IsFileOf, content_over, form_meaning}
use Rattle.ms_build_source.proofs.SignOver.{sign-over}
use Rattle.ms_dfa.specs.Values.{IsMeaning, Meaning, main_meaning, meaning_by}
use Rattle.ms_dfa.proofs.EncodingLemmas.{encoding_or_not}
use Rattle.ms_dfa.proofs.ValuesLemmas.{IsMeaning-by, IsMeaning-main}
use Rattle.ms_build_source.specs.ExportLaws.{ExportsAreEqualWhereValuesAre, ExportsAreMainFilesWhereValuesAre, IsOneFact, MainFilesAreEqualWhereValuesAre}
use Rattle.ms_build_source.specs.Moved.{HaveSameOrders, moved}
use Rattle.ms_build_source.proofs.MovedWords.{moved_assignment, moved_encoding, orders_back, orders_equal}
use Rattle.ms_build_source.proofs.ExportContents.{plain_back, same_filed}

-- at each assignment the same sign is right for both
abbrev AreOneMeaning : Mode → List Variable → Meaning → Meaning → Type 0
AreOneMeaning mode variables meaning other = (e : Env) → IsAssignment mode variables e → (sign : Sign) → meaning e sign ↔ other e sign

module _ (version : FileVersion) (mode : Mode) (variables : List Variable) (names : List (List ℕ)) (meaning : Meaning) (plain : Plain) (file : IsFileOf version mode variables names meaning plain) where
  -- at an assignment the file has the sign of the meaning, at its shortest word
  sign_there : (word : Word) (e : Env) → IsAssignment mode variables e → Encodes variables word e → (sign : Sign) × (sign_of (content_over variables plain) word ≡ Some (file_sign version sign)) × meaning e sign
  sign_there word e assigned encodes = file.value.right word e (subst (λ m. IsAssignment m variables e) (sym file.mode_is) assigned) encodes

  no_sign : (word : Word) → IsWordOver variables word → (IsEncoding mode variables word → ⊥) → sign_of (content_over variables plain) word ≡ Some (file_sign version Outside)
  no_sign word over out = file.value.outside word over (λ encoding. out (subst (λ m. IsEncoding m variables word) file.mode_is encoding))

  same_orders : orders_of variables ≡ orders_of (content_of_file plain).variables
  same_orders = sym file.orders ∙ sym (orders-by_place (map (λ v. v.order) plain.variables))

  own_sign : (word : Word) → sign_of (content_over variables plain) word ≡ sign_of (content_of_file plain) word
  own_sign word = sign-over (content_of_file plain) variables same_orders word

module _ (version : FileVersion) (mode : Mode) (variables : List Variable) (names : List (List ℕ)) (meaning other : Meaning) (plain second : Plain) (rising : AreRising variables) (is_meaning : IsMeaning mode variables meaning)
    (is_other : IsMeaning mode variables other) (file : IsFileOf version mode variables names meaning plain) (also : IsFileOf version mode variables names other second) where
  is_inside : (m : Meaning) → IsMeaning mode variables m → (e : Env) → IsAssignment mode variables e → (sign : Sign) → m e sign → sign ≢ Outside
  is_inside m is e assigned sign means same = is.inside e assigned (subst (m e) same means)

  -- where both files are one, so are the meanings
  pub one_meaning : plain ≡ second → AreOneMeaning mode variables meaning other
  one_meaning equal e assigned sign =
      let word = shortest_word variables e in
      let encodes = (length_is_least mode variables e assigned).0 in
      let one = sign_there version mode variables names meaning plain file word e assigned encodes in
      let two = sign_there version mode variables names other second also word e assigned encodes in
      let filed : file_sign version one.0 ≡ file_sign version two.0 = same_Some _ _ (sym one.1 ∙ ap (λ (p : Plain). sign_of (content_over variables p) word) equal ∙ two.1) in
      let same = same_filed version one.0 two.0 (is_inside meaning is_meaning e assigned one.0 one.2) (is_inside other is_other e assigned two.0 two.2) filed in (
        λ means. subst (other e) (sym same ∙ is_meaning.one e one.0 sign assigned one.2 means) two.2,
        λ means. subst (meaning e) (same ∙ is_other.one e two.0 sign assigned two.2 means) one.2,
      )

  module _ (are_one : AreOneMeaning mode variables meaning other) where
    over_signs : (word : Word) → IsWordOver variables word → sign_of (content_over variables second) word ≡ sign_of (content_over variables plain) word
    over_signs word over =
        ⊎_elim
        (λ encoding.
        let e = encoding.0 in
        let one = sign_there version mode variables names meaning plain file word e encoding.1 encoding.2 in
        let two = sign_there version mode variables names other second also word e encoding.1 encoding.2 in
        let same = is_other.one e two.0 one.0 encoding.1 two.2 ((are_one e encoding.1 one.0).0 one.2) in
        two.1 ∙ ap (λ sign. Some (file_sign version sign)) same ∙ sym one.1)
        (λ outside. no_sign version mode variables names other second also word over outside ∙ sym (no_sign version mode variables names meaning plain file word over outside))
        (encoding_or_not mode variables word rising over)

    equal_signs : HaveEqualSigns (content_of_file plain) (content_of_file second)
    equal_signs word over =
        let own = over-same (content_of_file plain).variables variables (sym (same_orders version mode variables names meaning plain file)) word over in
        sym (own_sign version mode variables names other second also word) ∙ over_signs word own ∙ own_sign version mode variables names meaning plain file word

    -- where the meanings are one, so are both files
    pub one_file : plain ≡ second
    one_file =
        let orders = file.orders ∙ sym also.orders in
        plain_back plain second (file.version_is ∙ sym also.version_is) orders (file.names_are ∙ sym also.names_are)
        (canonical_equal FileSign (content_of_file plain) (content_of_file second) file.canonical also.canonical (file.mode_is ∙ sym also.mode_is) (ap variables_by_place orders) equal_signs)

-- a content has one text, and a text is that of one content
texts_same : (plain second : Plain) (bytes more : List ℕ) → IsSpelled bytes plain → IsSpelled more second → (bytes ≡ more) ↔ (plain ≡ second)
texts_same plain second bytes more is also = (
  λ same. one_content more plain second (subst (λ text. IsSpelled text plain) same is) also,
  λ same. let P : Plain → Type 0 = λ p. bytes ≡ spelled p in subst P same is.text ∙ sym also.text,
)

files_equal : (version : FileVersion) (mode : Mode) (variables : List Variable) (names : List (List ℕ)) (meaning other : Meaning) (plain second : Plain) (bytes more : List ℕ) → AreRising variables
    → IsMeaning mode variables meaning → IsMeaning mode variables other → IsFileOf version mode variables names meaning plain → IsFileOf version mode variables names other second
    → IsSpelled bytes plain → IsSpelled more second → (bytes ≡ more) ↔ AreOneMeaning mode variables meaning other
files_equal version mode variables names meaning other plain second bytes more rising is_meaning is_other file also text another =
    let texts = texts_same plain second bytes more text another in (
      λ same. one_meaning version mode variables names meaning other plain second rising is_meaning is_other file also (texts.0 same),
      λ one. texts.1 (one_file version mode variables names meaning other plain second rising is_meaning is_other file also one),
    )

-- a meaning at the values of other variables
abbrev through : List Variable → List Variable → Meaning → Meaning
through variables others meaning e sign = meaning (moved variables others e) sign

module _ (version : FileVersion) (mode : Mode) (variables others : List Variable) (names : List (List ℕ)) (meaning : Meaning) (plain : Plain) (rising : AreRising variables) (also_rising : AreRising others)
    (orders : HaveSameOrders variables others) (file : IsFileOf version mode others names meaning plain) where
  there_assigned : (m : Mode) (e : Env) → IsAssignment m variables e → IsAssignment m others (moved variables others e)
  there_assigned m e assigned = moved_assignment m variables others e orders also_rising assigned

  -- the file is one over the first variables, too
  here_orders : orders_of variables ≡ orders_of (content_of_file plain).variables
  here_orders = orders_equal variables others orders ∙ same_orders version mode others names meaning plain file

  same_signs : (word : Word) → sign_of (content_over variables plain) word ≡ sign_of (content_over others plain) word
  same_signs word = sign-over (content_of_file plain) variables here_orders word ∙ sym (own_sign version mode others names meaning plain file word)

  encoded_here : (m : Mode) (word : Word) → IsEncoding m others word → IsEncoding m variables word
  encoded_here m word encoding =
      let back = orders_back variables others orders in (
        moved others variables encoding.0,
        moved_assignment m others variables encoding.0 back rising encoding.1,
        moved_encoding others variables encoding.0 word back rising encoding.1.values encoding.2,
      )

  pub file_here : IsFileOf version mode variables names (through variables others meaning) plain
  file_here = record {
    version_is = file.version_is;
    mode_is = file.mode_is;
    orders = file.orders ∙ sym (orders_equal variables others orders);
    names_are = file.names_are;
    canonical = file.canonical;
    value = record {
      right = λ word e assigned encodes.
          let right = file.value.right word (moved variables others e) (there_assigned plain.mode e assigned) (moved_encoding variables others e word orders also_rising assigned.values encodes) in
          (right.0, same_signs word ∙ right.1, right.2);
      outside = λ word over out.
          same_signs word
          ∙ file.value.outside word (over-same variables others (orders_equal variables others orders) word over) (λ encoding. out (encoded_here plain.mode word encoding));
    };
  }

  pub meaning_here : IsMeaning mode others meaning → IsMeaning mode variables (through variables others meaning)
  meaning_here is = record {
    one = λ e first second assigned. is.one (moved variables others e) first second (there_assigned mode e assigned);
    inside = λ e assigned. is.inside (moved variables others e) (there_assigned mode e assigned);
  }

-- two pairs of properties are one where the same signs are right for both
by_signs : (PY PN QY QN : Env → Type 0) (e : Env) → ((sign : Sign) → meaning_by PY PN e sign ↔ meaning_by QY QN e sign) → (PY e ↔ QY e) × (PN e ↔ QN e)
by_signs PY PN QY QN e all = (all Yes, all No)

to_signs : (PY PN QY QN : Env → Type 0) (e : Env) → (PY e ↔ QY e) × (PN e ↔ QN e) → (sign : Sign) → meaning_by PY PN e sign ↔ meaning_by QY QN e sign
to_signs PY PN QY QN e both Yes = both.0
to_signs PY PN QY QN e both No = both.1
to_signs PY PN QY QN e both Undefined =
    ((λ means. ((λ yes. means.0 (both.0.1 yes)), (λ no. means.1 (both.1.1 no)))), (λ means. ((λ yes. means.0 (both.0.0 yes)), (λ no. means.1 (both.1.0 no)))))
to_signs PY PN QY QN e both Outside = ((λ means. means), (λ means. means))

form_is_meaning : (mode : Mode) (variables : List Variable) (given : Given) (f : Form) → IsMeaning mode variables (form_meaning given f)
form_is_meaning mode variables given f = IsMeaning-by mode variables (truth.Yes given f) (truth.No given f) (λ e assigned yes no. yes_is_not_no given f e yes no)

facts_equal : (version : FileVersion) (mode : Mode) (variables others : List Variable) (names : List (List ℕ)) (PY PN QY QN : Env → Type 0) (plain second : Plain) (bytes more : List ℕ)
    → AreRising variables → AreRising others → HaveSameOrders variables others → IsMeaning mode variables (meaning_by PY PN) → IsMeaning mode others (meaning_by QY QN)
    → IsFileOf version mode variables names (meaning_by PY PN) plain → IsFileOf version mode others names (meaning_by QY QN) second → IsSpelled bytes plain → IsSpelled more second
    → (bytes ≡ more) ↔ (IsOneFact mode variables others PY QY × IsOneFact mode variables others PN QN)
facts_equal version mode variables others names PY PN QY QN plain second bytes more rising also_rising orders is also_is file also text another =
    let all =
    files_equal version mode variables names (meaning_by PY PN) (through variables others (meaning_by QY QN)) plain second bytes more rising is
    (meaning_here version mode variables others names (meaning_by QY QN) second rising also_rising orders also also_is) file (file_here version mode variables others names (meaning_by QY QN) second rising also_rising orders also)
    text another in (
      λ same. (
        λ e assigned. (by_signs PY PN (λ d. QY (moved variables others d)) (λ d. QN (moved variables others d)) e (λ sign. all_signs e sign (all.0 same e assigned))).0,
        λ e assigned. (by_signs PY PN (λ d. QY (moved variables others d)) (λ d. QN (moved variables others d)) e (λ sign. all_signs e sign (all.0 same e assigned))).1,
      ),
      λ one. all.1 (λ e assigned sign. signs_back e sign (to_signs PY PN (λ d. QY (moved variables others d)) (λ d. QN (moved variables others d)) e (one.0 e assigned, one.1 e assigned))),
    )
  where
    -- a pair of properties at moved values is the pair of those moved
    here : (e : Env) (sign : Sign) → meaning_by QY QN (moved variables others e) sign ↔ meaning_by (λ d. QY (moved variables others d)) (λ d. QN (moved variables others d)) e sign
    here e Yes = ((λ means. means), (λ means. means))
    here e No = ((λ means. means), (λ means. means))
    here e Undefined = ((λ means. means), (λ means. means))
    here e Outside = ((λ means. means), (λ means. means))

    all_signs : (e : Env) (sign : Sign) → ((s : Sign) → meaning_by PY PN e s ↔ meaning_by QY QN (moved variables others e) s)
        → meaning_by PY PN e sign ↔ meaning_by (λ d. QY (moved variables others d)) (λ d. QN (moved variables others d)) e sign
    all_signs e sign each = ((λ means. (here e sign).0 ((each sign).0 means)), (λ means. (each sign).1 ((here e sign).1 means)))

    signs_back : (e : Env) (sign : Sign) → ((s : Sign) → meaning_by PY PN e s ↔ meaning_by (λ d. QY (moved variables others d)) (λ d. QN (moved variables others d)) e s)
        → meaning_by PY PN e sign ↔ meaning_by QY QN (moved variables others e) sign
    signs_back e sign each = ((λ means. (here e sign).1 ((each sign).0 means)), (λ means. (each sign).1 ((here e sign).0 means)))

pub exports_equal : ExportsAreEqualWhereValuesAre
exports_equal version mode variables others names given there f g plain second bytes more free also_free orders file also text another =
    facts_equal version mode variables others names (truth.Yes given f) (truth.No given f) (truth.Yes there g) (truth.No there g) plain second bytes more free.rising also_free.rising orders
    (form_is_meaning mode variables given f) (form_is_meaning mode others there g) file also text another

pub mixed_equal : ExportsAreMainFilesWhereValuesAre
mixed_equal version variables names given f problem plain second bytes more free rising orders file also text another =
    facts_equal version problem.mode variables (variables_of problem.globals) names (truth.Yes given f) (truth.No given f) (MainYes problem) (MainNo problem) plain second bytes more free.rising rising orders
    (form_is_meaning problem.mode variables given f) (IsMeaning-main problem.mode (variables_of problem.globals) problem) file also text another

pub main_equal : MainFilesAreEqualWhereValuesAre
main_equal version one two names plain second bytes more mode variables rising file also text another =
    let vs = variables_of one.globals in
    let P : Mode → List Variable → Type 0 = λ m us. IsFileOf version m us names (main_meaning two) second in
    let there : IsFileOf version one.mode vs names (main_meaning two) second = subst (λ us. P one.mode us) (sym variables) (subst (λ m. P m (variables_of two.globals)) (sym mode) also) in
    let all = files_equal version one.mode vs names (main_meaning one) (main_meaning two) plain second bytes more rising (IsMeaning-main one.mode vs one) (IsMeaning-main one.mode vs two) file there text another in (
      λ same e assigned. by_signs (MainYes one) (MainNo one) (MainYes two) (MainNo two) e (all.0 same e assigned),
      λ agree. all.1 (λ e assigned. to_signs (MainYes one) (MainNo one) (MainYes two) (MainNo two) e (agree e assigned)),
    )
