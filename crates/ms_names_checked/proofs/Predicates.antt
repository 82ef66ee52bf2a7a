-- What predicates and default restrictions read is free in them.
use Rattle.std.proofs.Common.{◌≡◌, ℕ, ◌+◌, ◌<◌, ◌≤◌, ◌==◌, ◌⊎◌, ◌↔◌, inl, inr, ⊎_elim, Bool, true, false, MatchBool, List, [], ◌∷◌, ◌++◌, length, map, Some, refl, sym, subst, ◌∙◌, arith, append_assoc}
use Rattle.std.specs.Prelude.{flat_map, slice_get}
use Rattle.std.proofs.lemmas.Bool.Decides.{nat_tests}
use Rattle.ms_logic.specs.declared.checked.ImportUse.{ImportUse}
use Rattle.ms_logic.specs.declared.mode.Order.{Order}
use Rattle.ms_logic.specs.Assignment.{Variable}
use Rattle.ms_logic.specs.FreeVariables.{IsBound, IsReadFor, IsVariable, Reads, FreeInRestriction, FreeInRestrictions, FreeUnder, names_of, parameter_orders_of, reads_with_predicate, reads_with_predicates}
use Rattle.ms_logic_core.specs.Roots.{exports_in}
use Rattle.ms_logic.specs.Tree as tree
use Rattle.ms_logic.specs.Tree.{Form, Predicate, Restriction}
use Rattle.ms_names_rules.specs.declared.meaning.Meaning.TheVariants as meaning
use Rattle.ms_names_rules.specs.declared.meaning.Reading.TheVariants as reading
use Rattle.ms_names_rules.specs.Scope.{Bytes, Scope, bind, count_of_bounds, under_bounds, without_exports}
use Rattle.ms_parse_grammar.specs.Tree.{Expression, Variables, no_variables, and_variable, Domain, unrestricted, restricted}
use Rattle.ms_names_rules.specs.Before.{Before, with_names, after, after_bounds, after_domain}
use Rattle.ms_names_rules.specs.inner.Binder.{predicate_with, restricted_variable}
use Rattle.ms_names_rules.specs.Declarations.{occurrences_in_default, occurrences_in_predicate}
use Rattle.ms_names_rules.specs.inner.Free.{Readings}
use Rattle.ms_names_rules.specs.Numbers.{Tables, IsOnePlain}
use Rattle.ms_logic.specs.Lists.{Each}
use Rattle.ms_names_rules.specs.Order.{formula_wanted}
use Rattle.ms_names_rules.specs.Occurrence.{Occurrence, occurrences, inside_bounds, inside_domain}
use Rattle.ms_names_rules.specs.Reads.{readings_at}
use Rattle.ms_names_rules.specs.Typed.{formula_in, typed}
use Rattle.ms_names_rules.specs.TypedSource.{parameters_of_bounds, restriction_of_parameter, typed_default, typed_predicate}
use Rattle.ms_names_rules.proofs.Declaring.{restricted-same}
use Rattle.ms_names_rules.proofs.Exports.{typed-same, under_bounds-same}
use Rattle.ms_names_rules.proofs.Fitting.{If, each-back, each-front, if-one, if-weaker, IsBelow}
use Rattle.ms_names_rules.proofs.Growth.{grows, grows-bounds, grows-domain}
use Rattle.ms_names_rules.proofs.Lists.{parameters-all}
use Rattle.ms_names_rules.proofs.Numbering.{UsesStand, if-two}
use Rattle.ms_names_checked.proofs.FreeVariables.{domain-all, told}
use Rattle.ms_names_checked.proofs.Expressions.{ArgumentTold, FormTold}
use Rattle.ms_names_checked.proofs.Hiding.{at-bind, at-bounds, at-without, hide-one, At}
use Rattle.ms_names_checked.proofs.Leading.{Any, LeadsTo, Reaches, any-back, any-front, any-split, leads-last, leads-reach, reaches-leads}
use Rattle.ms_names_checked.proofs.Scopes.{IsDefault, IsPredicate, Names, in-scope-below}
use Rattle.ms_names_checked.proofs.Told.{IsPaired, Told, formula-told, told-drop, told-join, told-none, told-same}
use Rattle.std.proofs.lemmas.List.{append-nil}

module _ (tables : Tables) (r : Reads) (R : List Readings) (low : ℕ)
    (imports : (i : ℕ) (used : ImportUse) (w : Variable) → slice_get tables.imports i ≡ Some used → r.imported i w ↔ IsPaired used.pairs w) where
  -- what is free in restrictions and a body, and is none of the parameters
  abbrev pub FreeBehind : List tree.Declaration → Form → Variable → Type 0
  FreeBehind ps body w =
      (IsBound (map (λ d. d.variable.name) ps) (map (λ d. d.variable.order) ps) w → ⊥) × (FreeInRestrictions r ps w ⊎ FreeUnder r body w)

  abbrev pub PredicateTold : ℕ → Names → List Occurrence → Predicate → Type 0
  PredicateTold high names os p = Told r tables.exports low high names (Reaches R os) (λ w. FreeBehind p.parameters p.body w) []

  -- parameters with all that follow, whose numbers go on from x, and each body
  abbrev ParametersTold : ℕ → Scope → ℕ → Names → List Occurrence → (ℕ → Type 0) → List tree.Declaration → Type 0
  ParametersTold high s x wide os Q ps =
      (more : List tree.Declaration) (body : Form) → ((w : Variable) → IsBound (map (λ d. d.variable.name) more) (map (λ d. d.variable.order) more) w → x ≤ w.name)
      → Told r tables.exports low high wide Q (λ w. FreeBehind more body w) []
      → Told r tables.exports low high s.names (λ y. Reaches R os y ⊎ Q y) (λ w. FreeBehind (ps ++ more) body w) []

  parameter-told : (start : ℕ) (s : Scope) (x : ℕ) (b : Before) (o : Order) (n : Bytes) (d : Domain) → At r R low start s x → x < b.next →
      Each (UsesStand tables) (inside_domain (without_exports (bind n (meaning.Variable x o) s)) b d) →
      If (λ restriction. Told r tables.exports low (after_domain b d).next s.names (Reaches R (inside_domain (without_exports (bind n (meaning.Variable x o) s)) b d))
      (λ v. (IsVariable x o v → ⊥) × FreeInRestriction r restriction v) []) (restriction_of_parameter (bind n (meaning.Variable x o) s) b d)
  parameter-told start s x b o n unrestricted here less uses =
      told-none r tables.exports R low b.next s.names (λ y. ⊥) (λ v. (IsVariable x o v → ⊥) × ⊥) (λ y none. none) (λ v free. free.1)
  parameter-told start s x b o n (restricted e) here less uses =
      let os = inside_domain (without_exports (bind n (meaning.Variable x o) s)) b (restricted e) in
      let last = (after b e).next in
      if-weaker
      (λ restriction. Told r tables.exports low last s.names (λ y. ⊥ ⊎ Reaches R os y) (λ v. (IsVariable x o v → ⊥) × FreeInRestriction r restriction v) [])
      (λ restriction. Told r tables.exports low last s.names (Reaches R os) (λ v. (IsVariable x o v → ⊥) × FreeInRestriction r restriction v) [])
      (restriction_of_parameter (bind n (meaning.Variable x o) s) b (restricted e))
      (λ restriction h. told-same r tables.exports R low last last s.names (λ y. ⊥ ⊎ Reaches R os y) (Reaches R os) (λ v. (IsVariable x o v → ⊥) × FreeInRestriction r restriction v)
      (λ v. (IsVariable x o v → ⊥) × FreeInRestriction r restriction v) [] (omega arith) (λ y. (λ any. ⊎_elim (λ none. absurd none) (λ inside. inside) any, λ any. inr any)) (λ v. (λ free. free, λ free. free)) h)
      (domain-all tables r R low imports start s x b o n (restricted e) here less uses)

  -- a parameter before others, by its own restriction and what is free behind it
  one-more : (last : ℕ) (names : Names) (x : ℕ) (o : Order) (restriction : Restriction) (more : List tree.Declaration) (body : Form) (Q : ℕ → Type 0) → Each (IsBelow x) names →
      ((w : Variable) → IsBound (map (λ d. d.variable.name) more) (map (λ d. d.variable.order) more) w → x + 1 ≤ w.name) →
      Told r tables.exports low last names Q (λ v. ((IsVariable x o v → ⊥) × FreeInRestriction r restriction v) ⊎ ((IsVariable x o v → ⊥) × FreeBehind more body v)) [] →
      Told r tables.exports low last names Q (λ w. FreeBehind (restricted_variable x o restriction ∷ more) body w) []
  one-more last names x o restriction more body Q below above joined = record {
    free = λ w free.
        joined.free w (⊎_elim
        (λ restrictions. ⊎_elim (λ first. inl (λ is. free.0 (inl is), first)) (λ later. inr (λ is. free.0 (inl is), (λ bound. free.0 (inr bound), inl later))) restrictions)
        (λ body_free. inr (λ is. free.0 (inl is), (λ bound. free.0 (inr bound), inr body_free))) free.1);
    back = λ w seen reached.
        let under = in-scope-below x names w below seen in (
          λ bound. ⊎_elim (λ is. let same = is.0 in omega (arith, under, same)) (λ later. let up = above w later in omega (arith, under, up)) bound,
          ⊎_elim (λ first. inl (inl first.1)) (λ later. ⊎_elim (λ others_read. inl (inr others_read)) (λ body_free. inr body_free) later.1.1) (joined.back w seen reached),
        );
    old = joined.old;
    listed = tt;
  }

  parameters-told : (start : ℕ) (s : Scope) (x : ℕ) (b : Before) (vs : Variables) (last : ℕ) (Q : ℕ → Type 0) → At r R low start s x → x + count_of_bounds vs ≤ b.next →
      (after_bounds b vs).next ≤ last → Each (UsesStand tables) (inside_bounds s x b vs) →
      If (ParametersTold last s (x + count_of_bounds vs) (under_bounds s x vs).names (inside_bounds s x b vs) Q) (parameters_of_bounds s x b vs)
  parameters-told start s x b no_variables last Q here le ends uses =
      λ more body above h. told-same r tables.exports R low last last s.names Q (λ y. ⊥ ⊎ Q y) (λ w. FreeBehind more body w) (λ w. FreeBehind more body w) [] (omega arith)
      (λ y. (λ any. inr any, λ any. ⊎_elim (λ none. absurd none) (λ inside. inside) any)) (λ w. (λ free. free, λ free. free)) h
  parameters-told start s x b (and_variable vs at o n d) last Q here le ends uses =
      let there = under_bounds s x vs in
      let z = x + count_of_bounds vs in
      let begin = after_bounds b vs in
      let end = after_domain begin d in
      let inner = bind n (meaning.Variable z o) there in
      let before = inside_bounds s x b vs in
      let dom = inside_domain (without_exports inner) begin d in
      let grown = grows-bounds b vs in
      let others = grows-domain begin d in
      let below : end.next ≤ last = ends in
      let begun : At r R low start there z = at-bounds r R low start s x z vs (omega arith) here in
      let P : ℕ → Occurrence → Type 0 = λ y occurrence. Any (LeadsTo R y) (readings_at occurrence) in
      let QI : ℕ → Type 0 = λ y. Reaches R dom y ⊎ Q y in
      if-two (ParametersTold last s z there.names before QI)
      (λ restriction. Told r tables.exports low end.next there.names (Reaches R dom) (λ v. (IsVariable z o v → ⊥) × FreeInRestriction r restriction v) [])
      (ParametersTold last s (x + count_of_bounds (and_variable vs at o n d)) inner.names (before ++ dom) Q) (λ earlier restriction. earlier ++ restricted_variable z o restriction ∷ [])
      (parameters_of_bounds s x b vs) (restriction_of_parameter inner begin d)
      (λ ps restriction h k more body above told_behind.
      let v = restricted_variable z o restriction in
      let next : (w : Variable) → IsBound (map (λ d. d.variable.name) more) (map (λ d. d.variable.order) more) w → z + 1 ≤ w.name = λ w bound. let up = above w bound in omega (arith, up) in
      let from_here : (w : Variable) → IsBound (map (λ d. d.variable.name) (v ∷ more)) (map (λ d. d.variable.order) (v ∷ more)) w → z ≤ w.name =
      λ w bound. ⊎_elim (λ is. let same = is.0 in omega (arith, same)) (λ later. let up = next w later in omega (arith, up)) bound in
      let deep = hide-one r tables.exports low last there.names z o n Q (λ w. FreeBehind more body w) [] begun.from (omega (arith, le, grown, others, below)) begun.below told_behind in
      let joined = told-join r tables.exports R low end.next last there.names (Reaches R dom) Q (λ w. (IsVariable z o w → ⊥) × FreeInRestriction r restriction w)
      (λ w. (IsVariable z o w → ⊥) × FreeBehind more body w) [] [] below k deep in
      subst (λ all. Told r tables.exports low last s.names (λ y. Reaches R (before ++ dom) y ⊎ Q y) (λ w. FreeBehind all body w) []) (sym (append_assoc ps (v ∷ []) more))
      (told-same r tables.exports R low last last s.names (λ y. Reaches R before y ⊎ QI y) (λ y. Reaches R (before ++ dom) y ⊎ Q y)
      (λ w. FreeBehind (ps ++ v ∷ more) body w) (λ w. FreeBehind (ps ++ v ∷ more) body w) [] (omega arith)
      (λ y. (
        λ any. ⊎_elim (λ first. inl (any-front (P y) before dom first)) (λ later. ⊎_elim (λ second. inl (any-back (P y) before dom second)) (λ in_it. inr in_it) later) any,
        λ any. ⊎_elim (λ both. ⊎_elim (λ first. inl first) (λ second. inr (inl second)) (any-split (P y) before dom both)) (λ in_it. inr (inr in_it)) any,
      ))
      (λ w. (λ free. free, λ free. free))
      (h (v ∷ more) body from_here (one-more last there.names z o restriction more body QI begun.below next joined))))
      (parameters-told start s x b vs last QI here (omega (arith, le)) (omega (arith, others, below)) (each-front (UsesStand tables) before dom uses))
      (parameter-told start there z begin o n d begun (omega (arith, le, grown)) (each-back (UsesStand tables) before dom uses))

  pub predicate-told : (start : ℕ) (s : Scope) (b : Before) (vs : Variables) (e : Expression) → At r R low start s b.next → Each (UsesStand tables) (occurrences_in_predicate s b vs e) →
      If (PredicateTold (after (after_bounds (with_names b (count_of_bounds vs)) vs) e).next s.names (occurrences_in_predicate s b vs e)) (typed_predicate s b vs e)
  predicate-told start s b vs e here uses =
      let next = with_names b (count_of_bounds vs) in
      let end = after_bounds next vs in
      let last = (after end e).next in
      let outer = without_exports s in
      let inner = under_bounds outer b.next vs in
      let plain = under_bounds s b.next vs in
      let before = inside_bounds outer b.next next vs in
      let within = occurrences inner end formula_wanted e in
      let P : ℕ → Occurrence → Type 0 = λ y there. Any (LeadsTo R y) (readings_at there) in
      let own : parameters_of_bounds outer b.next next vs ≡ parameters_of_bounds s b.next next vs =
      parameters-all outer b.next next vs ∙ (restricted-same false outer s b.next next vs refl ∙ sym (parameters-all s b.next next vs)) in
      if-two (ParametersTold last outer (b.next + count_of_bounds vs) inner.names before (Reaches R within)) (FormTold tables r R low last inner.names within) (PredicateTold last s.names (before ++ within))
      predicate_with (parameters_of_bounds s b.next next vs) (formula_in (typed plain end e))
      (λ ps body h k.
      told-same r tables.exports R low last last s.names (λ y. Reaches R before y ⊎ Reaches R within y) (Reaches R (before ++ within)) (λ w. FreeBehind ps body w) (λ w. FreeBehind ps body w) [] (omega arith)
      (λ y. (λ both. ⊎_elim (any-front (P y) before within) (any-back (P y) before within) both, any-split (P y) before within))
      (λ w. (λ free. free, λ free. free))
      (subst (λ all. Told r tables.exports low last s.names (λ y. Reaches R before y ⊎ Reaches R within y) (λ w. FreeBehind all body w) []) (append-nil ps)
      (h [] body (λ w bound. absurd bound)
      (told-same r tables.exports R low last last inner.names (Reaches R within) (Reaches R within) (λ w. FreeUnder r body w) (λ w. FreeBehind [] body w) [] (omega arith) (λ y. (λ any. any, λ any. any))
      (λ w. (λ free. (λ none. none, inr free), λ free. ⊎_elim (λ none. absurd none) (λ in_body. in_body) free.1)) (told-drop r tables.exports R low k)))))
      (subst (λ ps. If (ParametersTold last outer (b.next + count_of_bounds vs) inner.names before (Reaches R within)) ps) own
      (parameters-told start outer b.next next vs last (Reaches R within) (at-without r R low start s b.next here) (omega arith) (grows end e) (each-front (UsesStand tables) before within uses)))
      (formula-told r tables.exports R low last inner.names (Reaches R within) (typed plain end e)
      (subst (λ a. If (ArgumentTold tables r R low last inner.names within) a) (typed-same inner plain end e (under_bounds-same outer s b.next vs refl))
      (told tables r R low imports start inner end formula_wanted e (at-bounds r R low start outer b.next end.next vs (grows-bounds next vs) (at-without r R low start s b.next here))
      (each-back (UsesStand tables) before within uses))))

  pub default-told : (start : ℕ) (s : Scope) (b : Before) (o : Order) (n : Bytes) (e : Expression) → At r R low start s b.next → Each (UsesStand tables) (occurrences_in_default s b o n e) →
      If (λ p. PredicateTold (after (with_names b 1) e).next s.names (occurrences_in_default s b o n e) p × IsOnePlain o p.parameters) (typed_default s b o n e)
  default-told start s b o n e here uses =
      let next = with_names b 1 in
      let last = (after next e).next in
      let outer = without_exports s in
      let inner = bind n (meaning.Variable b.next o) outer in
      let plain = bind n (meaning.Variable b.next o) s in
      let os = occurrences inner next formula_wanted e in
      let more = grows next e in
      let one : List tree.Declaration = restricted_variable b.next o tree.unrestricted ∷ [] in
      if-one (FormTold tables r R low last inner.names os) (λ p. PredicateTold last s.names os p × IsOnePlain o p.parameters) (predicate_with one) (formula_in (typed plain next e))
      (λ body h. (
        told-same r tables.exports R low last last s.names (Reaches R os) (Reaches R os) (λ w. (IsVariable b.next o w → ⊥) × FreeUnder r body w) (λ w. FreeBehind one body w) [] (omega arith)
            (λ y. (λ any. any, λ any. any))
            (λ w. (
              λ free. (λ bound. ⊎_elim (λ is. free.0 is) (λ none. none) bound, inr free.1),
              λ free. (λ is. free.0 (inl is), ⊎_elim (λ restrictions. ⊎_elim (λ none. absurd none) (λ none. absurd none) restrictions) (λ in_body. in_body) free.1),
            ))
            (told-drop r tables.exports R low
            (hide-one r tables.exports low last s.names b.next o n (Reaches R os) (λ v. FreeUnder r body v) (exports_in body) here.from (omega (arith, more)) here.below h)),
        (refl, refl),
      ))
      (formula-told r tables.exports R low last inner.names (Reaches R os) (typed plain next e)
      (subst (λ a. If (ArgumentTold tables r R low last inner.names os) a) (typed-same inner plain next e refl)
      (told tables r R low imports start inner next formula_wanted e (at-bind r R low start outer b.next o n (at-without r R low start s b.next here)) uses)))

  -- the predicate as the next one

  abbrev last_readings : List Occurrence → List Readings
  last_readings os = flat_map readings_at os ∷ R

  leads-here : (os : List Occurrence) (x : ℕ) → LeadsTo (last_readings os) x (reading.Predicate (length R)) → Reaches R os x
  leads-here os x h = leads-reach R os x (leads-last (flat_map readings_at os) R x h)

  here-leads : (os : List Occurrence) (x : ℕ) → Reaches R os x → LeadsTo (last_readings os) x (reading.Predicate (length R))
  here-leads os x h = inr (refl, reaches-leads R os x h)

  same-test : (m : ℕ) → (m == m) ≡ true
  same-test m = grind (arith, nat_tests)

  matched : (b : Bool) (A B : Type 0) → b ≡ true → MatchBool b A B → A
  matched true A B is h = h
  matched false A B is h = absurd (cc)

  matches : (b : Bool) (A B : Type 0) → b ≡ true → A → MatchBool b A B
  matches true A B is h = h
  matches false A B is h = absurd (cc)

  pub next-predicate : (high : ℕ) (names : Names) (os : List Occurrence) (p : Predicate) (orders : List Order) → parameter_orders_of p ≡ orders → PredicateTold high names os p →
      IsPredicate (reads_with_predicate r (length R) p) (last_readings os) low high names (length R) orders
  next-predicate high names os p orders same h =
      let m = length R in
      let Through : List Order → Variable → Type 0 = λ given w. (IsBound (names_of p) given w → ⊥) × (FreeInRestrictions r p.parameters w ⊎ FreeUnder r p.body w) in
      record {
        below = omega arith;
        free = λ w called.
            let free : Through orders w = matched (m == m) (Through orders w) (r.called m orders w) (same-test m) called in
            let there = h.free w (subst (λ given. Through given w) (sym same) free) in (here-leads os w.name there.0, there.1);
        back = λ w seen leads.
            let free : Through orders w = subst (λ given. Through given w) same (h.back w seen (leads-here os w.name leads)) in
            matches (m == m) (Through orders w) (r.called m orders w) (same-test m) free;
        old = λ x leads. h.old x (leads-here os x leads);
      }

  plain-read : (o : Order) (ds : List tree.Declaration) (x : ℕ) (w : Variable) → IsOnePlain o ds → IsReadFor ds x w → IsVariable x o w
  plain-read o [] x w plain reads = absurd plain
  plain-read o (d ∷ []) x w plain reads = ⊎_elim (λ is. (is.0, is.1 ∙ plain.0)) (λ none. absurd none) reads
  plain-read o (d ∷ c ∷ ds) x w plain reads = absurd plain

  plain-free : (o : Order) (ds : List tree.Declaration) (w : Variable) → IsOnePlain o ds → FreeInRestrictions r ds w → ⊥
  plain-free o [] w plain free = plain
  plain-free o (d ∷ []) w plain free = ⊎_elim (λ first. let there : FreeInRestriction r tree.unrestricted w = subst (λ restriction. FreeInRestriction r restriction w) plain.1 first in there) (λ none. none) free
  plain-free o (d ∷ c ∷ ds) w plain free = plain

  pub next-default : (high : ℕ) (names : Names) (os : List Occurrence) (p : Predicate) (o : Order) → IsOnePlain o p.parameters → PredicateTold high names os p →
      IsDefault (reads_with_predicate r (length R) p) (last_readings os) low high names o (length R)
  next-default high names os p o plain h =
      let m = length R in
      let Body : Variable → Type 0 = λ w. (IsBound (names_of p) (parameter_orders_of p) w → ⊥) × FreeUnder r p.body w in
      record {
        below = omega arith;
        free = λ x w read.
            let found : IsReadFor p.parameters x w ⊎ Body w = matched (m == m) (IsReadFor p.parameters x w ⊎ Body w) (r.default m x w) (same-test m) read in
            ⊎_elim (λ at_x. inl (plain-read o p.parameters x w plain at_x))
            (λ in_body. let there = h.free w (in_body.0, inr in_body.1) in inr (here-leads os w.name there.0, there.1)) found;
        back = λ x w seen leads.
            let free = h.back w seen (leads-here os w.name leads) in
            let in_body : Body w = (free.0, ⊎_elim (λ restrictions. absurd (plain-free o p.parameters w plain restrictions)) (λ there. there) free.1) in
            matches (m == m) (IsReadFor p.parameters x w ⊎ Body w) (r.default m x w) (same-test m) (inr in_body);
        old = λ x leads. h.old x (leads-here os x leads);
      }

-- Reads that agree for the predicates below a number
pub record AgreeBelow (m : ℕ) (r t : Reads) : Type 0 where
  pub called : (p : ℕ) (orders : List Order) (w : Variable) → p < m → r.called p orders w ↔ t.called p orders w
  pub default : (p x : ℕ) (w : Variable) → p < m → r.default p x w ↔ t.default p x w
  pub imported : (i : ℕ) (w : Variable) → r.imported i w ↔ t.imported i w

other-test : (p m : ℕ) → p < m → (p == m) ≡ false
other-test p m less = grind (arith, nat_tests)

passed : (b : Bool) (A B : Type 0) → b ≡ false → B ↔ MatchBool b A B
passed true A B is = absurd (cc)
passed false A B is = (λ h. h, λ h. h)

pub agree-next : (m : ℕ) (r : Reads) (q : Predicate) → AgreeBelow m r (reads_with_predicate r m q)
agree-next m r q = record {
  called = λ p orders w less.
      passed (p == m) ((IsBound (names_of q) orders w → ⊥) × (FreeInRestrictions r q.parameters w ⊎ FreeUnder r q.body w)) (r.called p orders w) (other-test p m less);
  default = λ p x w less.
      passed (p == m) (IsReadFor q.parameters x w ⊎ ((IsBound (names_of q) (parameter_orders_of q) w → ⊥) × FreeUnder r q.body w)) (r.default p x w) (other-test p m less);
  imported = λ i w. (λ h. h, λ h. h);
}

pub agree-all : (m : ℕ) (r : Reads) (later : List Predicate) → AgreeBelow m r (reads_with_predicates r m later)
agree-all m r [] = record { called = λ p orders w less. (λ h. h, λ h. h); default = λ p x w less. (λ h. h, λ h. h); imported = λ i w. (λ h. h, λ h. h) }
agree-all m r (q ∷ later) =
    let first = agree-next m r q in
    let rest = agree-all (m + 1) (reads_with_predicate r m q) later in
    record {
      called = λ p orders w less.
          let here = first.called p orders w less in
          let there = rest.called p orders w (omega (arith, less)) in (λ h. there.0 (here.0 h), λ h. here.1 (there.1 h));
      default = λ p x w less.
          let here = first.default p x w less in
          let there = rest.default p x w (omega (arith, less)) in (λ h. there.0 (here.0 h), λ h. here.1 (there.1 h));
      imported = λ i w.
          let there = rest.imported i w in (λ h. there.0 h, λ h. there.1 h);
    }
