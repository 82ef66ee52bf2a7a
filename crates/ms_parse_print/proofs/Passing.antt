-- What is tested of an expression is what printing it needs.
use Rattle.std.proofs.Common.{◌≡◌, ℕ, suc, ◌-◌, ◌≤◌, Bool, true, false, not, ◌||◌, List, [], ◌∷◌, ◌++◌, refl, sym, ◌∙◌, arith}
use Rattle.std.proofs.lemmas.Bool.{false≢true}
use Rattle.ms_list.specs.declared.at.At.{At}
use Rattle.ms_logic.specs.declared.mode.Order.{Order}
use Rattle.ms_logic.specs.declared.mode.Rel.TheVariants.{Equal, Member}
use Rattle.ms_parse_grammar.specs.declared.operator.Binary.{Binary}
use Rattle.ms_parse_grammar.specs.declared.operator.Binary.TheVariants.{Relation}
use Rattle.ms_parse_grammar.specs.declared.operator.Listing.{Listing}
use Rattle.ms_parse_grammar.specs.declared.operator.Listing.TheVariants.{Literal, Call}
use Rattle.ms_parse_grammar.specs.Symbol.{Symbol, name, comma, colon, close_round, infix_operator, joining, sign}
use Rattle.ms_parse_grammar.specs.Reads.{int_symbol, closing}
use Rattle.ms_parse_grammar.specs.Grammar.{junction_level, is_in, has_bare_in, some_bare_in, domain_bare_in, part_bare_in, IsGrammatical, AreGrammatical, AreOperands, HaveGrammaticalDomains, HaveGrammaticalValues, depth, depth_of_all, depth_of_domains, depth_of_values}
use Rattle.ms_parse_grammar.specs.Tree.{Expression, atom, prefixed, binary, joined, shifted, enclosed, listed, quantified, let_in, Expressions, no_expressions, and_expression, Variables, no_variables, and_variable, Domain, unrestricted, restricted, Parts, no_parts, and_part}
use Rattle.ms_parse_print.specs.inner.Passes.{Passes, OperandsPass, AllPass, DomainPasses, VariablesPass, PartsPass}
use Rattle.ms_parse_print.specs.inner.Printed.{IsSpellable, AreSpellable, single, printed, printed_all, printed_opening, printed_list_opening, printed_domain, printed_variables, printed_parts}
use Rattle.ms_parse_print.proofs.Back.{GoodDomain}
use Rattle.ms_parse_print.proofs.Sources.{spellable_both, spellable_split}

pub no_room : (free : Bool) (e : Expression) → ¬ (Passes 0 free e)
no_room free (atom at a) pass = omega (arith, pass.0)
no_room free (prefixed at op e) pass = omega (arith, pass.0)
no_room free (binary at op l r) pass = omega (arith, pass.0)
no_room free (joined at op es) pass = omega (arith, pass.0)
no_room free (shifted at e n) pass = omega (arith, pass.0)
no_room free (enclosed at b e) pass = omega (arith, pass.0)
no_room free (listed at l es) pass = omega (arith, pass.0)
no_room free (quantified at q o vs body) pass = omega (arith, pass.0)
no_room free (let_in at o parts body) pass = omega (arith, pass.0)

-- what printing an expression needs

pub record Good (room : ℕ) (free : Bool) (e : Expression) : Type 0 where
  pub spellable : AreSpellable (printed single e)
  pub grammatical : IsGrammatical e
  pub shallow : depth e ≤ room
  pub bare : free ≡ false → has_bare_in e ≡ false

pub record GoodOperands (room : ℕ) (free : Bool) (least : ℕ) (s : Symbol) (es : Expressions) : Type 0 where
  pub spellable : AreSpellable (printed_all single s es)
  pub grammatical : AreOperands least es
  pub shallow : depth_of_all es ≤ room
  pub bare : free ≡ false → some_bare_in es ≡ false

pub record GoodList (room : ℕ) (es : Expressions) : Type 0 where
  pub spellable : AreSpellable (printed_all single comma es)
  pub grammatical : AreGrammatical es
  pub shallow : depth_of_all es ≤ room

abbrev pub domain_depth : Domain → ℕ
domain_depth unrestricted = 0
domain_depth (restricted d) = depth d

abbrev pub bare_in_domain : Domain → Bool
bare_in_domain unrestricted = false
bare_in_domain (restricted d) = has_bare_in d

pub record GoodRestriction (room : ℕ) (free : Bool) (d : Domain) : Type 0 where
  pub spellable : AreSpellable (printed_domain single d)
  pub grammatical : GoodDomain d
  pub shallow : domain_depth d ≤ room
  pub bare : free ≡ false → bare_in_domain d ≡ false

pub record GoodVariables (room : ℕ) (free : Bool) (vs : Variables) : Type 0 where
  pub spellable : AreSpellable (printed_variables single vs)
  pub grammatical : HaveGrammaticalDomains vs
  pub shallow : depth_of_domains vs ≤ room
  pub bare : free ≡ false → domain_bare_in vs ≡ false

pub record GoodParts (room : ℕ) (parts : Parts) : Type 0 where
  pub spellable : AreSpellable (printed_parts single parts)
  pub grammatical : HaveGrammaticalValues parts
  pub shallow : depth_of_values parts ≤ room
  pub bare : part_bare_in parts ≡ false

-- where `in` may stand

or_false : (a b : Bool) → a ≡ false → b ≡ false → (a || b) ≡ false
or_false true b first second = absurd (false≢true (sym first))
or_false false b first second = second

or_split : (a b : Bool) → (a || b) ≡ false → (a ≡ false) × (b ≡ false)
or_split true b e = absurd (false≢true (sym e))
or_split false b e = (refl, e)

stands_apart : (i free : Bool) → (not i || free) ≡ true → free ≡ false → i ≡ false
stands_apart true free may tied = absurd (false≢true (sym tied ∙ may))
stands_apart false free may tied = refl

may_stand : (i free : Bool) → (free ≡ false → i ≡ false) → (not i || free) ≡ true
may_stand false free apart = refl
may_stand true true apart = refl
may_stand true false apart = absurd (false≢true (sym (apart refl)))

closing_said : (l : Listing) → IsSpellable (closing l)
closing_said Literal = tt
closing_said (Call p) = tt

-- one variable more

domains_more : (before : Variables) (at : At) (o : Order) (n : List ℕ) (d : Domain) → HaveGrammaticalDomains before → GoodDomain d → HaveGrammaticalDomains (and_variable before at o n d)
domains_more before at o n unrestricted first second = first
domains_more before at o n (restricted d) first second = (first, second)

domains_less : (before : Variables) (at : At) (o : Order) (n : List ℕ) (d : Domain) → HaveGrammaticalDomains (and_variable before at o n d) → HaveGrammaticalDomains before × GoodDomain d
domains_less before at o n unrestricted good = (good, tt)
domains_less before at o n (restricted d) good = good

depth_more : (room : ℕ) (before : Variables) (at : At) (o : Order) (n : List ℕ) (d : Domain) → depth_of_domains before ≤ room → domain_depth d ≤ room → depth_of_domains (and_variable before at o n d) ≤ room
depth_more room before at o n unrestricted first second = first
depth_more room before at o n (restricted d) first second = omega (arith, first, second)

depth_less : (room : ℕ) (before : Variables) (at : At) (o : Order) (n : List ℕ) (d : Domain) → depth_of_domains (and_variable before at o n d) ≤ room → (depth_of_domains before ≤ room) × (domain_depth d ≤ room)
depth_less room before at o n unrestricted good = (good, omega arith)
depth_less room before at o n (restricted d) good = (omega (arith, good), omega (arith, good))

bare_more : (before : Variables) (at : At) (o : Order) (n : List ℕ) (d : Domain) → domain_bare_in before ≡ false → bare_in_domain d ≡ false → domain_bare_in (and_variable before at o n d) ≡ false
bare_more before at o n unrestricted first second = first
bare_more before at o n (restricted d) first second = or_false (domain_bare_in before) (has_bare_in d) first second

bare_less : (before : Variables) (at : At) (o : Order) (n : List ℕ) (d : Domain) → domain_bare_in (and_variable before at o n d) ≡ false → (domain_bare_in before ≡ false) × (bare_in_domain d ≡ false)
bare_less before at o n unrestricted good = (good, refl)
bare_less before at o n (restricted d) good = or_split (domain_bare_in before) (has_bare_in d) good

mutual
  pub sound : (e : Expression) (room : ℕ) (free : Bool) → Passes room free e → Good room free e
  sound (atom at a) room free pass = record { spellable = pass.1; grammatical = tt; shallow = omega (arith, pass.0); bare = λ tied. refl }
  sound (prefixed at op x) room free pass =
      let g = sound x (room - 1) free pass.2 in
      record { spellable = (tt, g.spellable); grammatical = (pass.1, g.grammatical); shallow = omega (arith, pass.0, g.shallow); bare = g.bare }
  sound (binary at op l r) room free pass =
      let g = sound l (room - 1) free pass.5 in
      let h = sound r (room - 1) free pass.6 in
      record {
        spellable = spellable_both (printed single l ++ infix_operator op ∷ []) (printed single r) (spellable_both (printed single l) (infix_operator op ∷ []) g.spellable (tt, tt)) h.spellable;
        grammatical = (pass.2, pass.3, g.grammatical, pass.4, h.grammatical);
        shallow = omega (arith, pass.0, g.shallow, h.shallow);
        bare = λ tied. or_false (is_in op || has_bare_in l) (has_bare_in r) (or_false (is_in op) (has_bare_in l) (stands_apart (is_in op) free pass.1 tied) (g.bare tied)) (h.bare tied);
      }
  sound (joined at op es) room free pass =
      let g = sound_operands (joining op) tt es (room - 1) free (suc (junction_level op)) pass.2 in
      record { spellable = g.spellable; grammatical = (pass.1, g.grammatical); shallow = omega (arith, pass.0, g.shallow); bare = g.bare }
  sound (shifted at x n) room free pass =
      let g = sound x (room - 1) free pass.4 in
      record {
        spellable = spellable_both (printed single x) (sign n.minus ∷ int_symbol n.value ∷ []) g.spellable (tt, (pass.3, tt));
        grammatical = (pass.1, pass.2, g.grammatical);
        shallow = omega (arith, pass.0, g.shallow);
        bare = g.bare;
      }
  sound (enclosed at b x) room free pass =
      let g = sound x (room - 1) true pass.2 in
      record {
        spellable = spellable_both (printed_opening single b ++ printed single x) (close_round ∷ []) (spellable_both (printed_opening single b) (printed single x) pass.1 g.spellable) (tt, tt);
        grammatical = g.grammatical;
        shallow = omega (arith, pass.0, g.shallow);
        bare = λ tied. refl;
      }
  sound (listed at l es) room free pass =
      let g = sound_list es (room - 1) pass.2 in
      record {
        spellable = spellable_both (printed_list_opening single l ++ printed_all single comma es) (closing l ∷ []) (spellable_both (printed_list_opening single l) (printed_all single comma es) pass.1 g.spellable) (closing_said l, tt);
        grammatical = g.grammatical;
        shallow = omega (arith, pass.0, g.shallow);
        bare = λ tied. refl;
      }
  sound (quantified at q o vs body) room free pass =
      let g = sound_variables vs (room - 1) free pass.3 in
      let h = sound body (room - 1) free pass.4 in
      record {
        spellable = (tt, spellable_both (printed_variables single vs ++ colon ∷ []) (printed single body) (spellable_both (printed_variables single vs) (colon ∷ []) g.spellable (tt, tt)) h.spellable);
        grammatical = (pass.1, pass.2, g.grammatical, h.grammatical);
        shallow = omega (arith, pass.0, g.shallow, h.shallow);
        bare = λ tied. or_false (domain_bare_in vs) (has_bare_in body) (g.bare tied) (h.bare tied);
      }
  sound (let_in at o parts body) room free pass =
      let g = sound_parts parts (room - 1) pass.2 in
      let h = sound body (room - 1) free pass.3 in
      record {
        spellable = (tt, spellable_both (printed_parts single parts ++ infix_operator (Relation Member) ∷ []) (printed single body) (spellable_both (printed_parts single parts) (infix_operator (Relation Member) ∷ []) g.spellable (tt, tt)) h.spellable);
        grammatical = (pass.1, g.grammatical, h.grammatical);
        shallow = omega (arith, pass.0, g.shallow, h.shallow);
        bare = λ tied. or_false (part_bare_in parts) (has_bare_in body) g.bare (h.bare tied);
      }

  sound_operands : (s : Symbol) → IsSpellable s → (es : Expressions) (room : ℕ) (free : Bool) (least : ℕ) → OperandsPass room free least es → GoodOperands room free least s es
  sound_operands s said no_expressions room free least pass = record { spellable = tt; grammatical = tt; shallow = omega arith; bare = λ tied. refl }
  sound_operands s said (and_expression no_expressions x) room free least pass =
      let g = sound x room free pass.3 in
      record { spellable = g.spellable; grammatical = (tt, refl, pass.2, g.grammatical); shallow = omega (arith, g.shallow); bare = g.bare }
  sound_operands s said (and_expression (and_expression before d) x) room free least pass =
      let g = sound_operands s said (and_expression before d) room free least pass.0 in
      let h = sound x room free pass.3 in
      record {
        spellable = spellable_both (printed_all single s (and_expression before d) ++ s ∷ []) (printed single x) (spellable_both (printed_all single s (and_expression before d)) (s ∷ []) g.spellable (said, tt)) h.spellable;
        grammatical = (g.grammatical, pass.1, pass.2, h.grammatical);
        shallow = omega (arith, g.shallow, h.shallow);
        bare = λ tied. or_false (some_bare_in (and_expression before d)) (has_bare_in x) (g.bare tied) (h.bare tied);
      }

  sound_list : (es : Expressions) (room : ℕ) → AllPass room es → GoodList room es
  sound_list no_expressions room pass = record { spellable = tt; grammatical = tt; shallow = omega arith }
  sound_list (and_expression no_expressions x) room pass =
      let g = sound x room true pass.1 in
      record { spellable = g.spellable; grammatical = (tt, g.grammatical); shallow = omega (arith, g.shallow) }
  sound_list (and_expression (and_expression before d) x) room pass =
      let g = sound_list (and_expression before d) room pass.0 in
      let h = sound x room true pass.1 in
      record {
        spellable = spellable_both (printed_all single comma (and_expression before d) ++ comma ∷ []) (printed single x) (spellable_both (printed_all single comma (and_expression before d)) (comma ∷ []) g.spellable (tt, tt)) h.spellable;
        grammatical = (g.grammatical, h.grammatical);
        shallow = omega (arith, g.shallow, h.shallow);
      }

  pub sound_domain : (d : Domain) (room : ℕ) (free : Bool) → DomainPasses room free d → GoodRestriction room free d
  sound_domain unrestricted room free pass = record { spellable = tt; grammatical = tt; shallow = omega arith; bare = λ tied. refl }
  sound_domain (restricted x) room free pass =
      let g = sound x room free pass in
      record { spellable = (tt, g.spellable); grammatical = g.grammatical; shallow = g.shallow; bare = g.bare }

  pub sound_variables : (vs : Variables) (room : ℕ) (free : Bool) → VariablesPass room free vs → GoodVariables room free vs
  sound_variables no_variables room free pass = record { spellable = tt; grammatical = tt; shallow = omega arith; bare = λ tied. refl }
  sound_variables (and_variable no_variables at o n d) room free pass =
      let h = sound_domain d room free pass.2 in
      record {
        spellable = (pass.1, h.spellable);
        grammatical = domains_more no_variables at o n d tt h.grammatical;
        shallow = depth_more room no_variables at o n d (omega arith) h.shallow;
        bare = λ tied. bare_more no_variables at o n d refl (h.bare tied);
      }
  sound_variables (and_variable (and_variable before at' o' n' d') at o n d) room free pass =
      let vs = printed_variables single (and_variable before at' o' n' d') in
      let g = sound_variables (and_variable before at' o' n' d') room free pass.0 in
      let h = sound_domain d room free pass.2 in
      record {
        spellable = spellable_both (printed_variables single (and_variable before at' o' n' d') ++ comma ∷ []) (name n ∷ printed_domain single d)
            (spellable_both (printed_variables single (and_variable before at' o' n' d')) (comma ∷ []) g.spellable (tt, tt)) (pass.1, h.spellable);
        grammatical = domains_more (and_variable before at' o' n' d') at o n d g.grammatical h.grammatical;
        shallow = depth_more room (and_variable before at' o' n' d') at o n d g.shallow h.shallow;
        bare = λ tied. bare_more (and_variable before at' o' n' d') at o n d (g.bare tied) (h.bare tied);
      }

  sound_parts : (parts : Parts) (room : ℕ) → PartsPass room parts → GoodParts room parts
  sound_parts no_parts room pass = record { spellable = tt; grammatical = tt; shallow = omega arith; bare = refl }
  sound_parts (and_part no_parts at n value) room pass =
      let h = sound value room false pass.2 in
      record {
        spellable = (pass.1, (tt, h.spellable));
        grammatical = (tt, h.bare refl, h.grammatical);
        shallow = omega (arith, h.shallow);
        bare = h.bare refl;
      }
  sound_parts (and_part (and_part before at' n' value') at n value) room pass =
      let g = sound_parts (and_part before at' n' value') room pass.0 in
      let h = sound value room false pass.2 in
      record {
        spellable = spellable_both (printed_parts single (and_part before at' n' value') ++ comma ∷ []) (name n ∷ infix_operator (Relation Equal) ∷ printed single value)
            (spellable_both (printed_parts single (and_part before at' n' value')) (comma ∷ []) g.spellable (tt, tt)) (pass.1, (tt, h.spellable));
        grammatical = (g.grammatical, h.bare refl, h.grammatical);
        shallow = omega (arith, g.shallow, h.shallow);
        bare = or_false (part_bare_in (and_part before at' n' value')) (has_bare_in value) g.bare (h.bare refl);
      }

-- and the other way round

in_apart : (op : Binary) (l r : Expression) (free : Bool) → (free ≡ false → (is_in op || has_bare_in l || has_bare_in r) ≡ false) → free ≡ false → (is_in op ≡ false) × (has_bare_in l ≡ false) × (has_bare_in r ≡ false)
in_apart op l r free bare tied =
    let a = or_split (is_in op || has_bare_in l) (has_bare_in r) (bare tied) in
    let b = or_split (is_in op) (has_bare_in l) a.0 in
    (b.0, b.1, a.1)

mutual
  pub complete : (e : Expression) (room : ℕ) (free : Bool) → Good room free e → Passes room free e
  complete (atom at a) room free good = (omega (arith, good.shallow), good.spellable)
  complete (prefixed at op x) room free good = (
    omega (arith, good.shallow),
    good.grammatical.0,
    complete x (room - 1) free (record { spellable = good.spellable.1; grammatical = good.grammatical.1; shallow = omega (arith, good.shallow); bare = good.bare }),
  )
  complete (binary at op l r) room free good =
      let a = spellable_split (printed single l ++ infix_operator op ∷ []) (printed single r) good.spellable in
      let b = spellable_split (printed single l) (infix_operator op ∷ []) a.0 in
      let apart = in_apart op l r free good.bare in (
        omega (arith, good.shallow),
        may_stand (is_in op) free (λ tied. (apart tied).0),
        good.grammatical.0,
        good.grammatical.1,
        good.grammatical.3,
        complete l (room - 1) free (record { spellable = b.0; grammatical = good.grammatical.2; shallow = omega (arith, good.shallow); bare = λ tied. (apart tied).1 }),
        complete r (room - 1) free (record { spellable = a.1; grammatical = good.grammatical.4; shallow = omega (arith, good.shallow); bare = λ tied. (apart tied).2 }),
      )
  complete (joined at op es) room free good = (
    omega (arith, good.shallow),
    good.grammatical.0,
    complete_operands (joining op) es (room - 1) free (suc (junction_level op)) (record { spellable = good.spellable; grammatical = good.grammatical.1; shallow = omega (arith, good.shallow); bare = good.bare }),
  )
  complete (shifted at x n) room free good =
      let a = spellable_split (printed single x) (sign n.minus ∷ int_symbol n.value ∷ []) good.spellable in (
        omega (arith, good.shallow),
        good.grammatical.0,
        good.grammatical.1,
        a.1.1.0,
        complete x (room - 1) free (record { spellable = a.0; grammatical = good.grammatical.2; shallow = omega (arith, good.shallow); bare = good.bare }),
      )
  complete (enclosed at b x) room free good =
      let a = spellable_split (printed_opening single b ++ printed single x) (close_round ∷ []) good.spellable in
      let c = spellable_split (printed_opening single b) (printed single x) a.0 in (
        omega (arith, good.shallow),
        c.0,
        complete x (room - 1) true (record { spellable = c.1; grammatical = good.grammatical; shallow = omega (arith, good.shallow); bare = λ tied. absurd (false≢true (sym tied)) }),
      )
  complete (listed at l es) room free good =
      let a = spellable_split (printed_list_opening single l ++ printed_all single comma es) (closing l ∷ []) good.spellable in
      let c = spellable_split (printed_list_opening single l) (printed_all single comma es) a.0 in (
        omega (arith, good.shallow),
        c.0,
        complete_list es (room - 1) (record { spellable = c.1; grammatical = good.grammatical; shallow = omega (arith, good.shallow) }),
      )
  complete (quantified at q o vs body) room free good =
      let a = spellable_split (printed_variables single vs ++ colon ∷ []) (printed single body) good.spellable.1 in
      let c = spellable_split (printed_variables single vs) (colon ∷ []) a.0 in (
        omega (arith, good.shallow),
        good.grammatical.0,
        good.grammatical.1,
        complete_variables vs (room - 1) free
            (record { spellable = c.0; grammatical = good.grammatical.2; shallow = omega (arith, good.shallow); bare = λ tied. (or_split (domain_bare_in vs) (has_bare_in body) (good.bare tied)).0 }),
        complete body (room - 1) free
            (record { spellable = a.1; grammatical = good.grammatical.3; shallow = omega (arith, good.shallow); bare = λ tied. (or_split (domain_bare_in vs) (has_bare_in body) (good.bare tied)).1 }),
      )
  complete (let_in at o parts body) room free good =
      let a = spellable_split (printed_parts single parts ++ infix_operator (Relation Member) ∷ []) (printed single body) good.spellable.1 in
      let c = spellable_split (printed_parts single parts) (infix_operator (Relation Member) ∷ []) a.0 in (
        omega (arith, good.shallow),
        good.grammatical.0,
        complete_parts parts (room - 1) c.0 good.grammatical.1 (omega (arith, good.shallow)),
        complete body (room - 1) free
            (record { spellable = a.1; grammatical = good.grammatical.2; shallow = omega (arith, good.shallow); bare = λ tied. (or_split (part_bare_in parts) (has_bare_in body) (good.bare tied)).1 }),
      )

  complete_operands : (s : Symbol) (es : Expressions) (room : ℕ) (free : Bool) (least : ℕ) → GoodOperands room free least s es → OperandsPass room free least es
  complete_operands s no_expressions room free least good = tt
  complete_operands s (and_expression no_expressions x) room free least good = (
    tt,
    refl,
    good.grammatical.2,
    complete x room free (record { spellable = good.spellable; grammatical = good.grammatical.3; shallow = omega (arith, good.shallow); bare = good.bare }),
  )
  complete_operands s (and_expression (and_expression before d) x) room free least good =
      let a = spellable_split (printed_all single s (and_expression before d) ++ s ∷ []) (printed single x) good.spellable in
      let c = spellable_split (printed_all single s (and_expression before d)) (s ∷ []) a.0 in
      let apart = λ (tied : free ≡ false). or_split (some_bare_in (and_expression before d)) (has_bare_in x) (good.bare tied) in (
        complete_operands s (and_expression before d) room free least (record { spellable = c.0; grammatical = good.grammatical.0; shallow = omega (arith, good.shallow); bare = λ tied. (apart tied).0 }),
        good.grammatical.1,
        good.grammatical.2,
        complete x room free (record { spellable = a.1; grammatical = good.grammatical.3; shallow = omega (arith, good.shallow); bare = λ tied. (apart tied).1 }),
      )

  complete_list : (es : Expressions) (room : ℕ) → GoodList room es → AllPass room es
  complete_list no_expressions room good = tt
  complete_list (and_expression no_expressions x) room good = (
    tt,
    complete x room true (record { spellable = good.spellable; grammatical = good.grammatical.1; shallow = omega (arith, good.shallow); bare = λ tied. absurd (false≢true (sym tied)) }),
  )
  complete_list (and_expression (and_expression before d) x) room good =
      let a = spellable_split (printed_all single comma (and_expression before d) ++ comma ∷ []) (printed single x) good.spellable in
      let c = spellable_split (printed_all single comma (and_expression before d)) (comma ∷ []) a.0 in (
        complete_list (and_expression before d) room (record { spellable = c.0; grammatical = good.grammatical.0; shallow = omega (arith, good.shallow) }),
        complete x room true (record { spellable = a.1; grammatical = good.grammatical.1; shallow = omega (arith, good.shallow); bare = λ tied. absurd (false≢true (sym tied)) }),
      )

  pub complete_domain : (d : Domain) (room : ℕ) (free : Bool) → GoodRestriction room free d → DomainPasses room free d
  complete_domain unrestricted room free good = tt
  complete_domain (restricted x) room free good = complete x room free (record { spellable = good.spellable.1; grammatical = good.grammatical; shallow = good.shallow; bare = good.bare })

  pub complete_variables : (vs : Variables) (room : ℕ) (free : Bool) → GoodVariables room free vs → VariablesPass room free vs
  complete_variables no_variables room free good = tt
  complete_variables (and_variable no_variables at o n d) room free good = (
    tt,
    good.spellable.0,
    complete_domain d room free (record {
      spellable = good.spellable.1;
      grammatical = (domains_less no_variables at o n d good.grammatical).1;
      shallow = (depth_less room no_variables at o n d good.shallow).1;
      bare = λ tied. (bare_less no_variables at o n d (good.bare tied)).1;
    }),
  )
  complete_variables (and_variable (and_variable before at' o' n' d') at o n d) room free good =
      let a = spellable_split (printed_variables single (and_variable before at' o' n' d') ++ comma ∷ []) (name n ∷ printed_domain single d) good.spellable in
      let c = spellable_split (printed_variables single (and_variable before at' o' n' d')) (comma ∷ []) a.0 in
      let g = domains_less (and_variable before at' o' n' d') at o n d good.grammatical in
      let s = depth_less room (and_variable before at' o' n' d') at o n d good.shallow in
      let apart = λ (tied : free ≡ false). bare_less (and_variable before at' o' n' d') at o n d (good.bare tied) in (
        complete_variables (and_variable before at' o' n' d') room free (record { spellable = c.0; grammatical = g.0; shallow = s.0; bare = λ tied. (apart tied).0 }),
        a.1.0,
        complete_domain d room free (record { spellable = a.1.1; grammatical = g.1; shallow = s.1; bare = λ tied. (apart tied).1 }),
      )

  complete_parts : (parts : Parts) (room : ℕ) → AreSpellable (printed_parts single parts) → HaveGrammaticalValues parts → depth_of_values parts ≤ room → PartsPass room parts
  complete_parts no_parts room said grammatical shallow = tt
  complete_parts (and_part no_parts at n value) room said grammatical shallow = (
    tt,
    said.0,
    complete value room false (record { spellable = said.1.1; grammatical = grammatical.2; shallow = omega (arith, shallow); bare = λ tied. grammatical.1 }),
  )
  complete_parts (and_part (and_part before at' n' value') at n value) room said grammatical shallow =
      let a = spellable_split (printed_parts single (and_part before at' n' value') ++ comma ∷ []) (name n ∷ infix_operator (Relation Equal) ∷ printed single value) said in
      let c = spellable_split (printed_parts single (and_part before at' n' value')) (comma ∷ []) a.0 in (
        complete_parts (and_part before at' n' value') room c.0 grammatical.0 (omega (arith, shallow)),
        a.1.0,
        complete value room false (record { spellable = a.1.1.1; grammatical = grammatical.2; shallow = omega (arith, shallow); bare = λ tied. grammatical.1 }),
      )
