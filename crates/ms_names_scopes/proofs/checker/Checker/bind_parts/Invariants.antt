use Rattle.std.proofs.Common.{◌≡◌, take, ◌+◌}
use Rattle.ms_names_rules.specs.Scope.{under_parts}
use Rattle.ms_parse_grammar.specs.View.{parts_of}
use Rattle.ms_names_scopes.proofs.checker.Checker.bind_parts.Given as goal

-- what is bound so far, and the next number
abbrev pub invariant-loop-part : goal.invariant-loop-part
invariant-loop-part l = record {
  state : l.self ≡ record l.initial.self { scope = under_parts l.initial.self.scope l.first l.order (parts_of (take l.part-index l.parts)) };
  number : l.x ≡ l.first + l.part-index;
}
